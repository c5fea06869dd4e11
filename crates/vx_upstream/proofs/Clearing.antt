-- An interface clear, and what a step changes of a bus's meaning.
use Rattle.std.proofs.Common.{◌≡◌, ◌≢◌, ◌+◌, [], ◌∷◌, ◌++◌, Some, refl, sym, ap, ◌∙◌, subst}
use Rattle.vx_io_traits.specs.Faults.{one_more}
use Rattle.vx_488.specs.declared.transfers.Transfer.TheVariants.{Ifc}
use Rattle.vx_488.specs.Wire.{step}
use Rattle.vx_488.specs.Means.{Means}
use Rattle.vx_488.specs.Steps.{Step, Went, Held, Failed, Told, Cut, move_step, IsStepped}
use Rattle.vx_488.specs.declared.asks.Move.{Move}
use Rattle.vx_488.specs.declared.asks.Move.TheVariants as answer
use Rattle.vx_upstream.specs.UpstreamState.{UpstreamState, Kept, after}
use Rattle.vx_upstream.specs.Sending.{LinkWords}
use Rattle.vx_upstream.specs.Stepping.{ClearsBus, Through}

-- what a step changes of the meaning hangs on the meaning alone
means-after : (k j : Kept) (s : Step) → k.means ≡ j.means → (after k s).means ≡ (after j s).means
means-after k j (Went t) e = ap (λ (m : Means). record m { wire = step m.wire t; moves = m.moves ++ t ∷ []; asks = m.asks + 1 }) e
means-after k j (Held asked) e = ap (λ (m : Means). record m { asks = m.asks + 1; holds = one_more m.holds; refused = Some asked }) e
means-after k j (Failed asked) e = ap (λ (m : Means). record m { asks = m.asks + 1; faults = one_more m.faults; refused = Some asked }) e
means-after k j (Told now) e = e
means-after k j Cut e = ap (λ (m : Means). record m { moves = []; asks = 0 }) e

-- and is what every bus says
steps-so : (k : Kept) (s : Step) → IsStepped k.means s (after k s).means
steps-so k (Went t) = refl
steps-so k (Held asked) = refl
steps-so k (Failed asked) = refl
steps-so k (Told now) = refl
steps-so k Cut = refl

module _ {L : Type 0} (w : LinkWords L) (old mid new : UpstreamState L) (m : Move) (s : Step)
    (rest : mid ≡ record old { client = mid.client; made = mid.made; kept = record old.kept { standing = mid.kept.standing } })
    (told : new ≡ record mid { kept = after mid.kept s }) where
  same-means : new.kept.means ≡ (after old.kept s).means
  same-means = ap (λ (b : UpstreamState L). b.kept.means) told ∙ means-after mid.kept old.kept s (ap (λ (b : UpstreamState L). b.kept.means) rest)

  pub clear-stepped : IsStepped old.kept.means s new.kept.means
  clear-stepped = subst (λ (n : Means). IsStepped old.kept.means s n) (sym same-means) (steps-so old.kept s)

  same-terms : new.terms ≡ old.terms
  same-terms = ap (λ (b : UpstreamState L). b.terms) told ∙ ap (λ (b : UpstreamState L). b.terms) rest

-- the interface clear that was asked
pub clear-through : {L : Type 0} (w : LinkWords L) (old mid new : UpstreamState L) (m : Move)
    → mid ≡ record old { client = mid.client; made = mid.made; kept = record old.kept { standing = mid.kept.standing } }
    → new ≡ record mid { kept = after mid.kept (move_step Ifc m) } → old.due ≡ [] → m ≢ answer.Held → ClearsBus w m old mid → Through w old (move_step Ifc m) new
clear-through w old mid new answer.Went rest told free held clears =
    (same-means w old mid new answer.Went (Went Ifc) rest told, same-terms w old mid new answer.Went (Went Ifc) rest told, (mid, clears, told, free))
clear-through w old mid new answer.Held rest told free held clears = absurd (held refl)
clear-through w old mid new answer.Failed rest told free held clears =
    (same-means w old mid new answer.Failed (move_step Ifc answer.Failed) rest told, same-terms w old mid new answer.Failed (move_step Ifc answer.Failed) rest told, (mid, clears, told, free))
