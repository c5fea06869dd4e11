use Rattle.std.proofs.Common.{◌+◌, ◌≤◌, length, map}
use Rattle.vx_sim.specs.Occupants.{handed_in}
use Rattle.vx_setup.specs.Spares.{spare_shown}
use Rattle.vx_setup.specs.SettingUp.{KeepsMeaning}
use Rattle.vx_setup.specs.LineSet.{SetupUnderWay}
use Rattle.vx_setup.proofs.bench.set_lines.Given as goal

abbrev pub invariant-loop-rest : goal.invariant-loop-rest
invariant-loop-rest g l =
    (l.line + length l.rest ≤ length l.text)
    × SetupUnderWay l.text (record { bus = l.initial.bus; rack = map (spare_shown (handed_in (λ i. g.I.Instrument.behaves i) (λ i. g.I.Instrument.nature i))) l.initial.rack.items }) l.rest l.line
    (record { bus = l.bus; rack = map (spare_shown (handed_in (λ i. g.I.Instrument.behaves i) (λ i. g.I.Instrument.nature i))) l.rack.items })
    × KeepsMeaning l.initial.bus l.bus

abbrev pub decreases-loop-rest : goal.decreases-loop-rest
decreases-loop-rest g l = length l.rest
