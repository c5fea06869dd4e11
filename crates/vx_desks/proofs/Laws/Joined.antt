-- Connections to four buses, one of each: how they came up, and how they went.
use Rattle.std.proofs.Common.{◌≡◌, ℕ, Result, Ok, Err, ap, ◌∙◌, subst}
use Rattle.std.specs.Prelude.{IfOk}
use Rattle.vx_calls.specs.declared.calls.Role.{Role}
use Rattle.vx_gate.specs.PassView.{PassView, GateId}
use Rattle.vx_group.specs.Groups.{Group}
use Rattle.vx_group.specs.Phases.{Idle}
use Rattle.vx_state.specs.declared.tables.Connect.{Connect}
use Rattle.vx_state.specs.declared.tables.Connect.TheVariants as connect
use Rattle.vx_session.specs.Origin.{Origin}
use Rattle.vx_session.specs.Placing.{Placed}
use Rattle.vx_session.specs.Turning.{HasCome, phase_at}
use Rattle.vx_desks.specs.Four.{Four, Each}
use Rattle.vx_desks.specs.Passing.{IsOf}
use Rattle.vx_desks.specs.Holding.{AreIdle}
use Rattle.vx_desks.specs.Origins.{Origins, on}
use Rattle.vx_desks.specs.FleetEnding.{LeavesAll}
use Rattle.vx_desks.specs.Joining.{JoinsAll, Undone, UndoneAll, outcome}

-- ---- connections that came up

-- answers that are one carry the same
same-all : (a b : Four ℕ) → ◌≡◌ {A = Result (Four ℕ) Connect} (Ok a) (Ok b) → a ≡ b
same-all a b h = cc

-- where all four came up each did
pub all-up : (a b c d : Result ℕ Connect) (conns : Four ℕ) → outcome (record { zero_ = a; one = b; two = c; three = d }) ≡ Ok conns
    → Each (λ o n. ◌≡◌ {A = Result ℕ Connect} o (Ok n)) (record { zero_ = a; one = b; two = c; three = d }) conns
all-up (Ok x) (Ok y) (Ok z) (Ok w) conns h =
    let same = same-all (record { zero_ = x; one = y; two = z; three = w }) conns h in
    record { zero_ = ap (λ f. Ok f.zero_) same; one = ap (λ f. Ok f.one) same; two = ap (λ f. Ok f.two) same; three = ap (λ f. Ok f.three) same }
all-up _ _ _ _ conns h = absurd (cc)

-- one that came up has no call
has-come : (pass pass' : PassView Group) (r : Role) (placed : Placed) (answer : Result ℕ Connect) → HasCome pass r placed answer pass' → IfOk answer (λ conn. phase_at pass' conn ≡ Idle r)
has-come pass pass' r placed (Ok conn) come = come
has-come pass pass' r placed (Err connect.Full) come = tt
has-come pass pass' r placed (Err connect.NoMemory) come = tt

-- nor has any of those that did
pub have-come : {B : Type 0} (g : Origins B) (r : Role) (passes up : Four (PassView Group)) (joined : Four (Result ℕ Connect)) → JoinsAll g r passes joined up
    → Each (λ pass answer. IfOk answer (λ conn. phase_at pass conn ≡ Idle r)) up joined
have-come g r passes up joined joins = record {
  zero_ = has-come passes.zero_ up.zero_ r joins.zero_.placed joined.zero_ joins.zero_.come;
  one = has-come passes.one up.one r joins.one.placed joined.one joins.one.come;
  two = has-come passes.two up.two r joins.two.placed joined.two joins.two.come;
  three = has-come passes.three up.three r joins.three.placed joined.three joins.three.come;
}

-- so where all came up all are idle
pub all-idle : {B : Type 0} (g : Origins B) (r : Role) (passes up : Four (PassView Group)) (joined : Four (Result ℕ Connect)) (conns : Four ℕ) → JoinsAll g r passes joined up → outcome joined ≡ Ok conns
    → AreIdle up conns r
all-idle g r passes up joined conns joins all =
    let come = have-come g r passes up joined joins in
    let each = all-up joined.zero_ joined.one joined.two joined.three conns all in
    record {
      zero_ = subst (λ o. IfOk o (λ conn. phase_at up.zero_ conn ≡ Idle r)) each.zero_ come.zero_;
      one = subst (λ o. IfOk o (λ conn. phase_at up.one conn ≡ Idle r)) each.one come.one;
      two = subst (λ o. IfOk o (λ conn. phase_at up.two conn ≡ Idle r)) each.two come.two;
      three = subst (λ o. IfOk o (λ conn. phase_at up.three conn ≡ Idle r)) each.three come.three;
    }

-- ---- connections that went

-- a pass whose connection went again, or had none, is of its gate
undone-gate : {B : Type 0} (g : Origin B) (up pass' : PassView Group) (answer : Result ℕ Connect) → Undone g up answer pass' → pass'.gate ≡ up.gate
undone-gate g up pass' (Ok conn) leaves = leaves.turns.makes.gate
undone-gate g up pass' (Err why) same = ap (λ (p : PassView Group). p.gate) same

-- so are all four
pub undone-gates : {B : Type 0} (g : Origins B) (up passes' : Four (PassView Group)) (joined : Four (Result ℕ Connect)) (gates : Four GateId) → Each IsOf up gates → UndoneAll g up joined passes' → Each IsOf passes' gates
undone-gates g up passes' joined gates each undone = record {
  zero_ = undone-gate (on 0 g) up.zero_ passes'.zero_ joined.zero_ undone.zero_ ∙ each.zero_;
  one = undone-gate (on 1 g) up.one passes'.one joined.one undone.one ∙ each.one;
  two = undone-gate (on 2 g) up.two passes'.two joined.two undone.two ∙ each.two;
  three = undone-gate (on 3 g) up.three passes'.three joined.three undone.three ∙ each.three;
}

-- and so are those whose connections went at the end of a session
pub left-gates : {B : Type 0} (g : Origins B) (passes passes' : Four (PassView Group)) (conns : Four ℕ) (gates : Four GateId) → Each IsOf passes gates → LeavesAll g passes conns passes' → Each IsOf passes' gates
left-gates g passes passes' conns gates each leaves = record {
  zero_ = leaves.zero_.turns.makes.gate ∙ each.zero_;
  one = leaves.one.turns.makes.gate ∙ each.one;
  two = leaves.two.turns.makes.gate ∙ each.two;
  three = leaves.three.turns.makes.gate ∙ each.three;
}
