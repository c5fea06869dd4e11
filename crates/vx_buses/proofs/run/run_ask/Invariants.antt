use Rattle.vx_lone.specs.Lone.{handed}
use Rattle.vx_buses.proofs.run.run_ask.Given as goal

-- the rack as it is handed in
abbrev pub ghosts-run_racked : goal.ghosts-run_racked
ghosts-run_racked g a = record { rack = handed (λ i. g.I.Instrument.behaves i) (λ i. g.I.Instrument.nature i) a.rack.items }
