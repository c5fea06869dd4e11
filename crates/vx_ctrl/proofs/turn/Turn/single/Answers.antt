use Rattle.std.proofs.Common.{ℕ, List, refl, sym, subst, arith}
use Rattle.vx_plan.specs.Plan.{next_slot}
use Rattle.vx_ctrl.specs.declared.turn.Advance.TheVariants.{Made}
use Rattle.vx_ctrl.specs.Turns.{TurnState, stored}
use Rattle.vx_ctrl.specs.Runs.{Runs}
use Rattle.vx_ctrl.proofs.Laws.Fares.{step-short, gets-some, room-left}
use Rattle.vx_ctrl.proofs.Runs.{made-fits, one-runs, none-runs}
use Rattle.vx_ctrl.proofs.turn.Turn.single.Goals as goal

pub made-requires-clause-step : goal.made-requires-clause-step
made-requires-clause-step g c =
    let r = c.requires.reached in
    omega (arith, step-short c.args.self.now.task c.args.bytes.now r.0 r.1 c.args.self.now.place c.requires.plain r.2)

pub made-requires-clause-room : goal.made-requires-clause-room
made-requires-clause-room g c = λ got.
    let r = c.requires.reached in
    let task = c.args.self.now.task in
    let place = c.args.self.now.place in
    let fits = (made-fits g.B.Bus.means g.B.Bus.through (next_slot r.1) c.in-Moved.t c.args.bus.now c.ask.new.bus (c.in-Moved.ensures r.0 r.1 r.2)).0 in
    room-left task c.args.bytes.now r.0 r.1 place c.requires.plain r.2 _ c.requires.room
    (gets-some task c.args.bytes.now r.0 r.1 place c.requires.plain r.2 (next_slot r.1) c.in-Moved.t refl fits got)

pub returns-in-Moved : goal.returns-in-Moved
returns-in-Moved g c =
    let r = c.requires.reached in
    let turn = c.args.self.now in
    let fits = (made-fits g.B.Bus.means g.B.Bus.through (next_slot r.1) c.in-Moved.t c.args.bus.now c.ask.new.bus (c.in-Moved.ensures r.0 r.1 r.2)).0 in
    let R : TurnState → List ℕ → Type 0 = λ new room.
    Runs g.B.Bus.means g.B.Bus.through turn c.args.bytes.now c.args.room.now new room 1 (Made 1) c.args.bus.now c.ask.new.bus in
    let T : TurnState → Type 0 = λ new. R new (stored turn.place.moved c.in-Moved.t c.args.room.now) in
    let S : List ℕ → Type 0 = λ room. R c.made.new.self room in
    subst S (sym c.made.ensures.stored) (subst T (sym c.made.ensures.turn)
    (one-runs g.B.Bus.means g.B.Bus.through turn c.args.bytes.now c.args.room.now c.in-Moved.t c.args.bus.now c.ask.new.bus c.place_goes_on.ensures r.0 r.1 r.2 c.in-Moved.ensures
    (λ got. room-left turn.task c.args.bytes.now r.0 r.1 turn.place c.requires.plain r.2 _ c.requires.room
    (gets-some turn.task c.args.bytes.now r.0 r.1 turn.place c.requires.plain r.2 (next_slot r.1) c.in-Moved.t refl fits got))))

pub returns-in-Stopped : goal.returns-in-Stopped
returns-in-Stopped g c =
    none-runs g.B.Bus.means g.B.Bus.through c.args.self.now c.args.bytes.now c.args.room.now c.in-Stopped.went c.args.bus.now c.ask.new.bus c.in-Stopped.ensures
