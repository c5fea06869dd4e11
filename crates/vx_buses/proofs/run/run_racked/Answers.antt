use Rattle.std.proofs.Common.{sym, subst}
use Rattle.vx_lone.specs.Lone.{lone, handed}
use Rattle.vx_desks.specs.Four.{listed}
use Rattle.vx_buses.specs.Starting.{StandInOrder}
use Rattle.vx_buses.proofs.Furnished.{all-furnished, all-own}
use Rattle.vx_buses.proofs.Ran.{run-so}
use Rattle.vx_buses.proofs.run.run_racked.Goals as goal

pub run_over-requires-clause-may : goal.run_over-requires-clause-may
run_over-requires-clause-may g c = all-own g.M.Racked.rack _ c.requires.racked

pub returns : goal.returns
returns g c =
    run-so (lone g.M.Racked.rack) g.X.C.Clock.tells _ (StandInOrder g.M.Racked.rack) _ c.args.ask.now c.args.net.now c.run_over.new.net _ _ c.run_over.result
    (λ firsts all. subst (λ rack. StandInOrder rack firsts) (sym c.requires.racked)
    (all-furnished (lone g.M.Racked.rack) (handed (λ i. g.I.Instrument.behaves i) (λ i. g.I.Instrument.nature i) c.args.rack.items) (listed firsts) all))
    c.run_over.ensures
