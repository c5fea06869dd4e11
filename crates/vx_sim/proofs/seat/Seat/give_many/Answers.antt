use Rattle.std.proofs.Common.{◌≡◌, ◌++◌, List, take, sym, ap, ◌∙◌, subst, arith}
use Rattle.vx_488.specs.Bursts.{gets_steps}
use Rattle.vx_488.specs.Steps.{Step}
use Rattle.vx_inst.specs.declared.done.Done.{Done}
use Rattle.vx_sim.specs.Histories.{calls_of, IsAfter}
use Rattle.vx_sim.proofs.Seats.{givings, gave-room, seat-gives, after-gives, after-more}
use Rattle.vx_sim.proofs.seat.Seat.give_many.Goals as goal

pub invariant_of-self : goal.invariant_of-self
invariant_of-self g c =
    let got = c.give_many-many.result.got in
    let room = c.give_many-many.new.room in
    let steps : List Step = gets_steps (take got room) c.give_many-many.result.stop in
    let old = g.I.Instrument.behaves c.self.inside.inst in
    let new = g.I.Instrument.behaves c.give_many-many.new.self in
    let calls : List Done = calls_of c.self.inside.calls.items in
    let noted : calls_of c.note_givings.new.calls.items ≡ calls ++ givings steps =
    c.note_givings.ensures
    ∙ ap (λ ds. calls ++ ds) (sym (gave-room got room c.give_many-many.result.stop (omega (arith, c.give_many-many.ensures.within, c.give_many-many.auto.room)))) in
    subst (λ (calls : List Done). IsAfter (λ i. g.I.Instrument.behaves i) c.self.inside.origin.items calls c.give_many-many.new.self) (sym noted)
    (after-more (λ i. g.I.Instrument.behaves i) c.self.inside.origin.items calls (givings steps) c.self.inside.inst c.give_many-many.new.self c.self.invariant
    (after-gives steps old new c.give_many-many.ensures.gives))

pub returns-clause-gives : goal.returns-clause-gives
returns-clause-gives g c =
    let got = c.give_many-many.result.got in
    let room = c.give_many-many.new.room in
    let steps : List Step = gets_steps (take got room) c.give_many-many.result.stop in
    let old = g.I.Instrument.behaves c.self.inside.inst in
    let new = g.I.Instrument.behaves c.give_many-many.new.self in
    let calls : List Done = calls_of c.self.inside.calls.items in
    let noted : calls_of c.note_givings.new.calls.items ≡ calls ++ givings steps =
    c.note_givings.ensures
    ∙ ap (λ ds. calls ++ ds) (sym (gave-room got room c.give_many-many.result.stop (omega (arith, c.give_many-many.ensures.within, c.give_many-many.auto.room)))) in
    seat-gives _ _ calls _ _ steps old new c.self.view_is c.give_many-many.ensures.gives noted

pub returns-clause-stops : goal.returns-clause-stops
returns-clause-stops g c = c.give_many-many.ensures.stops

pub returns-clause-within : goal.returns-clause-within
returns-clause-within g c = c.give_many-many.ensures.within

pub returns-clause-rest : goal.returns-clause-rest
returns-clause-rest g c = c.give_many-many.ensures.rest

pub returns-clause-goes : goal.returns-clause-goes
returns-clause-goes g c = c.give_many-many.ensures.goes
