use Rattle.std.proofs.Common.{length, take, subst, sym, ◌∙◌, arith}
use Rattle.std.proofs.lemmas.Bool.{false≢true}
use Rattle.std.proofs.lemmas.List.{take_all}
use Rattle.vx_loop.specs.Standing.{TakesTo}
use Rattle.vx_loop.proofs.Going.{not-ready}
use Rattle.vx_loop.proofs.served.Serving.accept.Goals as goal

pub returns-then-is_gone-clause-took : goal.returns-then-is_gone-clause-took
returns-then-is_gone-clause-took g c = (omega arith, omega arith, c.is_gone.ensures.ended c.if-is_gone.true c.requires.kept (take (length c.args.from.now) c.args.from.now))

pub returns-then-is_gone-clause-stays : goal.returns-then-is_gone-clause-stays
returns-then-is_gone-clause-stays g c = λ ready. absurd (false≢true (sym (c.is_gone.ensures.gone c.if-is_gone.true) ∙ ready.alive))

pub returns-then-is_busy-clause-took : goal.returns-then-is_busy-clause-took
returns-then-is_busy-clause-took g c = (
  omega arith,
  omega arith,
  subst (TakesTo c.args.self.now c.end_early.new.self) (sym (take_all (length c.args.from.now) c.args.from.now (omega arith))) c.end_early.ensures.takes,
)

pub returns-then-is_busy-clause-stays : goal.returns-then-is_busy-clause-stays
returns-then-is_busy-clause-stays g c = λ ready. absurd (not-ready c.args.self.now (c.is_busy.ensures.busy c.if-is_busy.true) ready)

pub returns-then-is_gone-clause-early : goal.returns-then-is_gone-clause-early
returns-then-is_gone-clause-early g c = λ not_ready. c.is_gone.ensures.gone c.if-is_gone.true

pub returns-then-is_busy-clause-early : goal.returns-then-is_busy-clause-early
returns-then-is_busy-clause-early g c = λ not_ready. c.end_early.ensures.ended
