use Rattle.std.proofs.Common.{refl, ap, ◌∙◌, arith}
use Rattle.vx_gen.specs.Drawing.{next}
use Rattle.vx_player.proofs.Driving.{run_at, draw-more}
use Rattle.vx_player.proofs.made_run.take_rounds.Goals as goal

pub loop-k-init : goal.loop-k-init
loop-k-init g c = (omega arith, refl, λ rack r. r)

pub take_round-requires-clause-running : goal.take_round-requires-clause-running
take_round-requires-clause-running g c =
    (c.args.ask.seed, c.requires.running.0, c.loop-k.invariant.2 c.requires.running.0 c.requires.running.1)

pub returns-in-Err-clause-halted : goal.returns-in-Err-clause-halted
returns-in-Err-clause-halted g c = λ rack r.
    c.in-Err.ensures.halted c.args.ask.seed rack (draw-more c.args.ask.seed c.loop-k.k _ (c.next_draw-draw.ensures.value ∙ ap next c.loop-k.invariant.1)) (c.loop-k.invariant.2 rack r)

pub loop-k-preserved : goal.loop-k-preserved
loop-k-preserved g c = (
  omega arith,
  draw-more c.args.ask.seed c.loop-k.k _ (c.next_draw-draw.ensures.value ∙ ap next c.loop-k.invariant.1),
  λ rack r. c.in-Ok.ensures.taken c.args.ask.seed rack (draw-more c.args.ask.seed c.loop-k.k _ (c.next_draw-draw.ensures.value ∙ ap next c.loop-k.invariant.1)) (c.loop-k.invariant.2 rack r),
)

pub returns-clause-taken : goal.returns-clause-taken
returns-clause-taken g c = λ rack r.
    run_at c.args.ask.seed _ _ rack _ _ (let within = c.loop-k.invariant.0 in let done = c.loop-k-test.false in omega arith) (c.loop-k.invariant.2 rack r)
