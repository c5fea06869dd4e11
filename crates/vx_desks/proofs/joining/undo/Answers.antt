use Rattle.std.proofs.Common.{◌≡◌, ap, sym, subst}
use Rattle.std.specs.Prelude.{IfOk}
use Rattle.vx_gate.specs.Gates.{first_of}
use Rattle.vx_group.specs.Phases.{Idle, is_up}
use Rattle.vx_session.specs.Origin.{origin}
use Rattle.vx_session.specs.Turning.{phase_at}
use Rattle.vx_desks.specs.Joining.{Undone}
use Rattle.vx_desks.proofs.joining.undo.Goals as goal

pub leave-requires : goal.leave-requires
leave-requires g c = record {
  gate = c.requires.gate;
  phase = ap is_up (subst (λ j. IfOk j (λ conn. phase_at c.args.pass conn ≡ Idle c.requires.phase.0)) c.in-Ok.is c.requires.phase.1);
}

pub returns-in-Ok : goal.returns-in-Ok
returns-in-Ok g c = subst (λ j. Undone (origin g.B.Bus (first_of c.args.gate.now)) c.args.pass j c.leave.result) (sym c.in-Ok.is) c.leave.ensures
