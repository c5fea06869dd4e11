use Rattle.std.proofs.Common.{subst, sym}
use Rattle.vx_488.specs.declared.transfers.Transfer.TheVariants.{Ifc}
use Rattle.vx_488.specs.Steps.{move_step, IsStepped}
use Rattle.vx_488.specs.declared.asks.Move.{Move}
use Rattle.vx_upstream.specs.Sending.{words_of}
use Rattle.vx_upstream.specs.Stepping.{Through}
use Rattle.vx_upstream.proofs.Clearing.{clear-stepped, clear-through}
use Rattle.vx_upstream.proofs.bus.UpstreamBusBus.ifc.Goals as goal

pub returns-clause-stepped : goal.returns-clause-stepped
returns-clause-stepped g c =
    subst (λ (m : Move). IsStepped c.args.self.now.kept.means (move_step Ifc m) c.told.new.self.kept.means) (sym c.told.ensures.same)
    (clear-stepped (words_of g.L.Link g.L.Reach.refused g.L.Reach.tries) c.args.self.now c.clear-answer.new.self c.told.new.self c.clear-answer.result (move_step Ifc c.clear-answer.result)
    c.clear-answer.ensures.rest c.told.ensures.after)

pub returns-clause-through : goal.returns-clause-through
returns-clause-through g c =
    subst (λ (m : Move). Through (words_of g.L.Link g.L.Reach.refused g.L.Reach.tries) c.args.self.now (move_step Ifc m) c.told.new.self) (sym c.told.ensures.same)
    (clear-through (words_of g.L.Link g.L.Reach.refused g.L.Reach.tries) c.args.self.now c.clear-answer.new.self c.told.new.self c.clear-answer.result
    c.clear-answer.ensures.rest c.told.ensures.after c.clear-answer.ensures.due c.clear-answer.ensures.never_held c.clear-answer.ensures.cleared)
