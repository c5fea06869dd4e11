use Rattle.std.proofs.Common.{arith}
use Rattle.vx_script.specs.Command.{step_shown}
use Rattle.vx_player.proofs.Laws.Connections.{stands-ready}
use Rattle.vx_player.proofs.Driving.{run-begins, run-small, run-goes-on, run-halts, head-next}
use Rattle.vx_player.proofs.made_run.take_head.Goals as goal

pub loop-place-init : goal.loop-place-init
loop-place-init g c = (omega arith, λ seed. run-begins seed _ _ _ c.requires.begins c.requires.counts)

pub take-requires-clause-ready : goal.take-requires-clause-ready
take-requires-clause-ready g c = stands-ready _ _ (c.loop-place.invariant.1 0).stands

pub take-requires-clause-few : goal.take-requires-clause-few
take-requires-clause-few g c = run-small 0 _ _ _ _ (c.loop-place.invariant.1 0) (let few = c.loop-place.invariant.0 in omega arith)

pub returns-in-Err-clause-halted : goal.returns-in-Err-clause-halted
returns-in-Err-clause-halted g c = λ seed.
    let r = c.loop-place.invariant.1 seed in
    run-halts seed _ _ _ _ (step_shown c.head_step-step.result) _ r (head-next seed _ r.stage _ c.head_step-step.ensures.value) (c.in-Err.ensures.stopped r.stage r.stands) c.from.ensures

pub loop-place-preserved : goal.loop-place-preserved
loop-place-preserved g c = (
  omega arith,
  λ seed.
      let r = c.loop-place.invariant.1 seed in
      run-goes-on seed _ _ _ _ _ _ (step_shown c.head_step-step.result) r (head-next seed _ r.stage _ c.head_step-step.ensures.value) (c.in-Ok.ensures.taken r.stage r.stands) c.in-Ok.ensures.grown,
)
