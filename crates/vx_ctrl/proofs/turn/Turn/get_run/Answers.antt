use Rattle.std.proofs.Common.{ℕ, Bool, ◌≡◌, ◌-◌, ◌+◌, ◌≤◌, Option, length, take, drop, sym, ap, ◌∙◌, subst, arith}
use Rattle.std.proofs.lemmas.List.{length-take, length-drop}
use borrow.Rule.Slice.PartMut.{put_mid}
use Rattle.vx_calls.specs.declared.targets.Target.{Target}
use Rattle.vx_488.specs.declared.transfers.Transfer.TheVariants.{Got}
use Rattle.vx_488.specs.Bursts.{ended, is_end, StopsAt}
use Rattle.vx_plan.specs.declared.tasks.Task.TheVariants.{Read}
use Rattle.vx_plan.specs.Results.{gots, last_of}
use Rattle.vx_plan.specs.Runs.{IsDataLeft}
use Rattle.vx_ctrl.specs.declared.turn.Advance.{Advance}
use Rattle.vx_ctrl.specs.Turns.{TurnState, with_bytes}
use Rattle.vx_ctrl.specs.Runs.{behind_gets_of, Runs}
use Rattle.vx_ctrl.proofs.Runs.{get-runs, part-stored, slice-stored}
use Rattle.vx_ctrl.proofs.turn.Turn.get_run.Goals as goal

pub returns : goal.returns
returns g c = λ bytes.
    let B = g.B.Bus in
    let many = c.args.many in
    let answer = c.get_many-answer.result in
    let room = c.args.room.now in
    let at = c.self.inside.place.moved in
    let part = c.get_many-answer.new.room in
    let got = take answer.got part in
    let turn : TurnState = record { task = c.self.inside.task; place = c.self.inside.place; begun = c.self.inside.begun } in
    let new : TurnState = record turn { place = record turn.place { moved = at + answer.got; last = c.last_got-self-inside.result } } in
    let back = sym c.self.view_is in
    let R : TurnState → Type 0 = λ t. t.place.moved + many ≤ length room in
    let fits : at + many ≤ length room = subst R back c.requires.room in
    let so-many : at + many - at ≡ many = omega arith in
    let lent : length (take (at + many - at) (drop at room)) ≡ many = length-take (at + many - at) (drop at room) ∙ omega (arith, length-drop at room) in
    let long : length part ≡ many = c.get_many-answer.auto.room ∙ lent in
    let within : answer.got ≤ many = omega (arith, c.get_many-answer.ensures.within, lent) in
    let count : length got ≡ answer.got = length-take answer.got part ∙ omega (arith, long) in
    let K : ℕ → Type 0 = λ k. drop answer.got part ≡ drop answer.got (take k (drop at room)) in
    let stored : put_mid at (at + many - at) room part ≡ with_bytes at got room =
    ap (λ k. put_mid at k room part) so-many ∙ part-stored at many answer.got room part fits within long (subst K so-many c.get_many-answer.ensures.rest) in
    let T : TurnState → Type 0 = λ t. Runs B.means B.through t bytes room new (put_mid at (at + many - at) room part) many c.behind_gets.result c.args.bus.now c.get_many-answer.new.self in
    let O : Advance → Type 0 = λ a. Runs B.means B.through turn bytes room new (put_mid at (at + many - at) room part) many a c.args.bus.now c.get_many-answer.new.self in
    let Q : TurnState → Type 0 = λ t. (x : Target) × (max : ℕ) × (t.task ≡ Read x max c.args.stop) in
    let D : TurnState → Type 0 = λ t. (n : ℕ) × IsDataLeft t.task t.place n × (many ≤ n) in
    let left = subst D back c.requires.left in
    let C : ℕ → Type 0 = λ k. O (behind_gets_of k answer.stop) in
    let S : ℕ → Type 0 = λ k. StopsAt c.args.stop k got answer.stop in
    let slice : take (at + answer.got - at) (drop at (put_mid at (at + many - at) room part)) ≡ got =
    ap (λ xs. take (at + answer.got - at) (drop at xs)) stored ∙ slice-stored at got room (at + answer.got - at) (omega (arith, fits)) (omega (arith, count)) in
    let last = c.last_got-self-inside.ensures ∙ ap (λ xs. last_of turn.place.last (gots (ended Got (is_end answer.stop) xs))) slice in
    let moved : new ≡ record turn { place = record turn.place { moved = at + length got; last = last_of turn.place.last (gots (ended Got (is_end answer.stop) got)) } } =
    ap (λ (k : ℕ). record turn { place = record turn.place { moved = at + k; last = c.last_got-self-inside.result } }) (sym count)
    ∙ ap (λ (l : Option (ℕ × Bool)). record turn { place = record turn.place { moved = at + length got; last = l } }) last in
    subst T c.self.view_is (subst O (sym c.behind_gets.ensures) (subst C count
    (get-runs B.means B.through turn new bytes room (put_mid at (at + many - at) room part) c.args.stop left.0 many got c.args.bus.now c.get_many-answer.new.self
    (subst Q back c.requires.task) left.1 c.requires.some left.2 (omega (arith, within, count)) stored answer.stop moved
    (subst S lent c.get_many-answer.ensures.stops) c.get_many-answer.ensures.walk)))
