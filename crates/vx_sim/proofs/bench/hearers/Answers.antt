use Rattle.std.proofs.Common.{◌≡◌, ℕ, ◌+◌, List, ◌++◌, get_or, drop, sym, ap, ◌∙◌, arith}
use Rattle.arrayvec.specs.ArrayVec.{ArrayVec, array_vec_len}
use Rattle.vx_sim.specs.Bench.{listens}
use Rattle.vx_sim.specs.Finding.{indices}
use Rattle.vx_sim.specs.Shown.{placed_of}
use Rattle.vx_sim.proofs.Finding.{found, passed, found-all}
use Rattle.vx_sim.proofs.bench.hearers.Goals.{then-is_so, else-is_so}
use Rattle.vx_sim.proofs.bench.hearers.Goals as goal

pub loop-index-preserved : goal.loop-index-preserved
loop-index-preserved g c =
    let places = c.args.places.now in
    let i = c.loop-index.index in
    let is : c.is_so.result ≡ listens c.args.wire.now (placed_of (get_or places i c.index-places-index.result)) =
    c.is_so.ensures ∙ ap (λ p. listens c.args.wire.now (placed_of p)) c.index-places-index.is in
    elim c.if-is_so.branch [
      | then-is_so w ↦ (
        omega (arith, ap array_vec_len w.hearers-is, w.push.ensures.len),
        ap (λ (h : ArrayVec ℕ). h.items ++ indices (λ p. listens c.args.wire.now (placed_of p)) (i + 1) (drop (i + 1) places)) w.hearers-is
            ∙ ap (λ (ks : List ℕ). ks ++ indices (λ p. listens c.args.wire.now (placed_of p)) (i + 1) (drop (i + 1) places)) w.push.ensures.items
            ∙ found (λ p. listens c.args.wire.now (placed_of p)) i places c.index-places-index.result c.loop-index.hearers.items _ c.loop-index-test.true
            (sym is ∙ w.if-is_so.true) c.loop-index.invariant.1,
      )
      | else-is_so w ↦ (
        omega (arith, ap array_vec_len w.hearers-is),
        ap (λ (h : ArrayVec ℕ). h.items ++ indices (λ p. listens c.args.wire.now (placed_of p)) (i + 1) (drop (i + 1) places)) w.hearers-is
            ∙ passed (λ p. listens c.args.wire.now (placed_of p)) i places c.index-places-index.result c.loop-index.hearers.items _ c.loop-index-test.true
            (sym is ∙ w.if-is_so.false) c.loop-index.invariant.1,
      )
    ]

pub returns : goal.returns
returns g c =
    found-all (λ p. listens c.args.wire.now (placed_of p)) c.loop-index.index c.args.places.now c.loop-index.hearers.items _ c.loop-index-test.false c.loop-index.invariant.1
