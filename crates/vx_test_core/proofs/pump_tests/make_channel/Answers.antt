use Rattle.std.proofs.Common.{◌≡◌, ℕ, List, false, true, ap, ◌∙◌, subst}
use Rattle.vx_calls.specs.Call.{Call}
use Rattle.vx_gate.specs.PassView.{PassView}
use Rattle.vx_group.specs.Groups.{Group}
use Rattle.vx_group.specs.Phases.{Asked}
use Rattle.vx_exchange.specs.declared.polls.PollEnd.{PollEnd}
use Rattle.vx_exchange.specs.declared.polls.PollEnd.TheVariants as said
use Rattle.vx_exchange.specs.Doing.{Says}
use Rattle.vx_exchange.proofs.Laws.{says-dial}
use Rattle.vx_session.specs.Origin.{Origin}
use Rattle.vx_session.specs.Parts.{phase_behind}
use Rattle.vx_session.specs.Turning.{SessionComes, phase_at}
use Rattle.vx_test_core.proofs.pump_tests.make_channel.Goals as goal

-- a call that asks for a dial is pending, and its dial was asked for
dialed : {B : Type 0} (g : Origin B) (told : ℕ) (pass : PassView Group) (conn xid : ℕ) (call : Call) (room : List ℕ) (end : PollEnd) (pass' : PassView Group) (host port : ℕ)
    → end ≡ said.Dial host port → SessionComes g told pass conn xid call room end pass' → (x : Call) × (phase_at pass' conn ≡ Asked x true)
dialed g told pass conn xid call room end pass' host port is comes =
    (call, comes.phase ∙ ap (phase_behind call false) (says-dial xid room host port comes.ending (subst (λ e. Says xid room e comes.ending) is comes.says)))

pub settle-requires-clause-phase : goal.settle-requires-clause-phase
settle-requires-clause-phase g c = dialed _ _ _ _ _ _ _ _ _ _ _ c.in_default-Dial.is-1 c.come.ensures.comes
