use Rattle.std.proofs.Common.{List, take, sym, subst}
use Rattle.vx_488.specs.declared.transfers.Transfer.{Transfer}
use Rattle.vx_488.specs.declared.transfers.Transfer.TheVariants.{Put}
use Rattle.vx_488.specs.Bursts.{ended}
use Rattle.vx_inst.specs.declared.done.Done.{Done}
use Rattle.vx_inst.specs.Runs.{takings}
use Rattle.vx_sim.specs.Histories.{calls_of, IsAfter}
use Rattle.vx_sim.proofs.Seats.{seat-takes, after-takes, after-more}
use Rattle.vx_sim.proofs.seat.Seat.take_many.Goals as goal

pub invariant_of-self : goal.invariant_of-self
invariant_of-self g c =
    let puts : List Transfer = take c.take_many-taken.result (ended Put c.args.end c.args.bytes.now) in
    let old = g.I.Instrument.behaves c.self.inside.inst in
    let new = g.I.Instrument.behaves c.take_many-taken.new.self in
    subst (λ (calls : List Done). IsAfter (λ i. g.I.Instrument.behaves i) c.self.inside.origin.items calls c.take_many-taken.new.self) (sym c.note_takings.ensures)
    (after-more (λ i. g.I.Instrument.behaves i) c.self.inside.origin.items (calls_of c.self.inside.calls.items) (takings puts) c.self.inside.inst
    c.take_many-taken.new.self c.self.invariant (after-takes puts old new c.take_many-taken.ensures.takes))

pub returns-clause-takes : goal.returns-clause-takes
returns-clause-takes g c =
    let puts : List Transfer = take c.take_many-taken.result (ended Put c.args.end c.args.bytes.now) in
    let old = g.I.Instrument.behaves c.self.inside.inst in
    let new = g.I.Instrument.behaves c.take_many-taken.new.self in
    seat-takes _ _ (calls_of c.self.inside.calls.items) _ _ puts old new c.self.view_is c.take_many-taken.ensures.takes c.note_takings.ensures
