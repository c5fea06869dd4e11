use Rattle.std.proofs.Common.{take, ◌≡◌, ◌<◌, ◌∷◌, [], length, ap, ◌∙◌, subst, arith}
use Rattle.vx_488.specs.declared.transfers.Transfer.TheVariants.{Put}
use Rattle.vx_488.specs.Listening.{has_address}
use Rattle.vx_488.specs.Bursts.{ended}
use Rattle.vx_488.specs.Bursts.{PutsSoFar}
use Rattle.vx_sim.specs.Bench.{listens, PlaceTakes}
use Rattle.vx_sim.specs.Finding.{indices}
use Rattle.vx_sim.specs.Shown.{AtPlace}
use Rattle.vx_sim.specs.SimState.{SimState, Through}
use Rattle.vx_sim.proofs.Runs.{the-sole, sole-within, bench-takes, puts-run, indices-after}
use Rattle.vx_sim.proofs.sim.SimBus.put_run.Goals as goal

pub put_run-taken-requires : goal.put_run-taken-requires
put_run-taken-requires g c =
    let wire = c.self.inside.wire in
    let found : indices (listens wire) 0 c.self.inside.bench ≡ c.args.hearer ∷ [] =
    ap (λ (s : SimState). indices (listens s.means.wire) 0 s.bench) c.self.view_is ∙ c.requires.hearer in
    let within : c.args.hearer < length c.self.inside.bench = sole-within wire c.args.hearer c.self.inside.bench (the-sole wire c.args.hearer c.self.inside.bench found) in
    omega (arith, within, c.from.ensures)

pub returns-clause-puts : goal.returns-clause-puts
returns-clause-puts g c =
    let wire = c.self.inside.wire in
    let puts = take c.put_run-taken.result (ended Put c.args.end c.args.bytes.now) in
    let found : indices (listens wire) 0 c.self.inside.bench ≡ c.args.hearer ∷ [] =
    ap (λ (s : SimState). indices (listens s.means.wire) 0 s.bench) c.self.view_is ∙ c.requires.hearer in
    let takes = subst (λ i. AtPlace i (PlaceTakes puts) c.self.inside.bench c.put_run-taken.new.self) c.from.ensures c.put_run-taken.ensures.takes in
    let goes = bench-takes wire c.args.hearer puts c.self.inside.bench c.put_run-taken.new.self (the-sole wire c.args.hearer c.self.inside.bench found) takes in
    let P : SimState → Type 0 = λ old. PutsSoFar (λ s. s.means) Through c.args.bytes.now c.args.end c.put_run-taken.result old c.carried_all.new.self in
    subst P c.self.view_is
    (puts-run c.args.bytes.now c.args.end c.put_run-taken.result _ c.carried_all.new.self c.put_run-taken.new.self c.put_run-taken.ensures.within
    (ap (λ (s : SimState). s.failing) c.self.view_is ∙ c.requires.ordered) goes c.carried_all.ensures)

pub returns-clause-hearer : goal.returns-clause-hearer
returns-clause-hearer g c =
    let wire = c.self.inside.wire in
    let puts = take c.put_run-taken.result (ended Put c.args.end c.args.bytes.now) in
    let found : indices (listens wire) 0 c.self.inside.bench ≡ c.args.hearer ∷ [] =
    ap (λ (s : SimState). indices (listens s.means.wire) 0 s.bench) c.self.view_is ∙ c.requires.hearer in
    let takes = subst (λ i. AtPlace i (PlaceTakes puts) c.self.inside.bench c.put_run-taken.new.self) c.from.ensures c.put_run-taken.ensures.takes in
    let goes = bench-takes wire c.args.hearer puts c.self.inside.bench c.put_run-taken.new.self (the-sole wire c.args.hearer c.self.inside.bench found) takes in
    ap (λ (s : SimState). indices (listens s.means.wire) 0 s.bench) c.carried_all.ensures
    ∙ indices-after (has_address wire.listeners) wire 0 puts c.self.inside.bench c.put_run-taken.new.self goes ∙ found
