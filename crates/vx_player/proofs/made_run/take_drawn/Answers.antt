use Rattle.std.proofs.Common.{◌∙◌, ap, arith}
use Rattle.std.specs.Prelude.{is_some}
use Rattle.vx_rules.specs.State.{pending_at}
use Rattle.vx_player.proofs.Laws.Connections.{stands-ready}
use Rattle.vx_player.proofs.Driving.{run-small, drawn-goes-on, drawn-halts}
use Rattle.vx_player.proofs.made_run.take_drawn.Goals as goal

pub take-requires-clause-ready : goal.take-requires-clause-ready
take-requires-clause-ready g c = stands-ready _ _ c.requires.running.2.stands

pub take-requires-clause-few : goal.take-requires-clause-few
take-requires-clause-few g c = run-small _ _ _ _ _ c.requires.running.2 (omega (arith, c.requires.steps))

pub returns-in-Ok-clause-taken : goal.returns-in-Ok-clause-taken
returns-in-Ok-clause-taken g c = λ seed rack draw_is r.
    drawn-goes-on seed c.args.k c.args.draw _ _ rack _ _ _ _ draw_is
    (c.is_pending-is_pending.ensures ∙ ap (λ n. is_some (pending_at c.args.player.now.core.interleaved.state.tables n)) c.connection_of.ensures.value)
    c.drawn_step-step.ensures.value r c.in-Ok.ensures.taken c.in-Ok.ensures.grown

pub returns-in-Err-clause-halted : goal.returns-in-Err-clause-halted
returns-in-Err-clause-halted g c = λ seed rack draw_is r.
    drawn-halts seed c.args.k c.args.draw _ _ rack _ _ _ draw_is
    (c.is_pending-is_pending.ensures ∙ ap (λ n. is_some (pending_at c.args.player.now.core.interleaved.state.tables n)) c.connection_of.ensures.value)
    c.drawn_step-step.ensures.value r c.in-Err.ensures.stopped (omega (arith, c.from.ensures))
