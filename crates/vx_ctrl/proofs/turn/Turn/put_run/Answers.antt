use Rattle.std.proofs.Common.{ℕ, ◌≡◌, ◌-◌, ◌+◌, ◌≤◌, ◌↔◌, ◌&&◌, ◌==◌, Bool, length, take, drop, refl, sym, ◌∙◌, subst, arith}
use Rattle.std.proofs.lemmas.List.{length-take, length-drop}
use Rattle.vx_488.specs.declared.asks.Move.TheVariants.{Went}
use Rattle.vx_488.specs.Walks.{Walk}
use Rattle.vx_488.specs.Bursts.{puts_steps}
use Rattle.vx_488.proofs.Laws.Puts.{last-then, last-else}
use Rattle.vx_calls.specs.declared.targets.Target.{Target}
use Rattle.vx_plan.specs.declared.tasks.Task.TheVariants.{Write}
use Rattle.vx_plan.specs.Runs.{IsDataLeft}
use Rattle.vx_ctrl.specs.declared.turn.Advance.{Advance}
use Rattle.vx_ctrl.specs.Turns.{TurnState}
use Rattle.vx_ctrl.specs.Runs.{Runs}
use Rattle.vx_ctrl.proofs.Bursts.{end-whole, end-part}
use Rattle.vx_ctrl.proofs.Runs.{put-runs}
use Rattle.vx_ctrl.proofs.turn.Turn.put_run.Goals.{then-end, else-end}
use Rattle.vx_ctrl.proofs.turn.Turn.put_run.Goals as goal

pub returns : goal.returns
returns g c = λ room.
    let B = g.B.Bus in
    let many = c.args.many in
    let answer = c.put_many-answer.result in
    let bytes = c.args.bytes.now in
    let at = c.self.inside.place.moved in
    let turn : TurnState = record { task = c.self.inside.task; place = c.self.inside.place; begun = c.self.inside.begun } in
    let new : TurnState = record turn { place = record turn.place { moved = at + answer.moved } } in
    let back = sym c.self.view_is in
    let F : TurnState → Type 0 = λ t. t.place.moved + many ≤ length bytes in
    let fits : at + many ≤ length bytes = subst F back c.requires.within in
    let so-many : at + many - at ≡ many = omega arith in
    let lent : length (take (at + many - at) (drop at bytes)) ≡ many = length-take (at + many - at) (drop at bytes) ∙ omega (arith, fits, length-drop at bytes) in
    let more : Bool = at + many == length bytes in
    let on_last : Bool = c.if-end.put_many in
    let is : on_last ≡ (c.args.end && more) =
    elim c.if-end.branch [ then-end w ↦ last-then c.args.end _ more w.if-end.true w.put_many-is | else-end w ↦ last-else c.args.end _ more w.if-end.false w.put_many-is ] in
    let W : ℕ → Type 0 = λ k. Walk B.means B.through c.args.bus.now (puts_steps (take k (drop at bytes)) on_last answer) c.put_many-answer.new.self in
    let L : ℕ → Type 0 = λ k. answer.moved ≤ k in
    let E : ℕ → Type 0 = λ k. (answer.last ≡ Went) ↔ (answer.moved ≡ k) in
    let T : TurnState → Type 0 = λ t. Runs B.means B.through t bytes room new room many c.behind_puts.result c.args.bus.now c.put_many-answer.new.self in
    let O : Advance → Type 0 = λ a. Runs B.means B.through turn bytes room new room many a c.args.bus.now c.put_many-answer.new.self in
    let K : TurnState → Type 0 = λ t. (x : Target) × (len : ℕ) × (t.task ≡ Write x len c.args.end) in
    let D : TurnState → Type 0 = λ t. IsDataLeft t.task t.place (length bytes - t.place.moved) in
    subst T c.self.view_is (subst O (sym c.behind_puts.ensures)
    (put-runs B.means B.through turn new bytes room many c.args.end on_last answer.moved answer.last c.args.bus.now c.put_many-answer.new.self
    (subst K back c.requires.task) (subst D back c.requires.left) c.requires.some fits
    (subst L lent c.put_many-answer.ensures.within) (subst E lent c.put_many-answer.ensures.last)
    (end-whole c.args.end on_last (at + many) (length bytes) is) (end-part c.args.end on_last (at + many) (length bytes) is)
    (subst W so-many c.put_many-answer.ensures.walk) refl))
