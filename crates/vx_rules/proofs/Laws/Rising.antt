-- Enables stay in order of their links' numbers where one is put among them.
use Rattle.std.proofs.Common.{◌≡◌, ◌<◌, ◌==◌, ℕ, nat_lt, Bool, true, false, List, [], ◌∷◌, refl, arith}
use Rattle.std.specs.Prelude.{if◌then◌else◌}
use Rattle.std.specs.List.{All}
use Rattle.std.proofs.lemmas.Bool.Decides.{nat_tests}
use Rattle.std.proofs.lemmas.List.Elements.{All-cons, All-nil, All-tail, All-weaker}
use Rattle.std.proofs.lemmas.List.Kept.{AllPairs-cons}
use Rattle.vx_lemmas.proofs.Laws.Filters.{pairs_head, pairs_tail}
use Rattle.vx_rules.specs.SrqState.{Enable, LinksRise, enable_put}

-- an enable's link has a lower number than another's
abbrev pub Precedes : Enable → Enable → Type 0
Precedes a b = a.link < b.link

-- an enable above a number is put among others above it
put_above : (n : ℕ) (e : Enable) (es : List Enable) → n < e.link → All (λ f. n < f.link) es → All (λ f. n < f.link) (enable_put e es)
put_above n e [] h above = All-cons (λ f. n < f.link) e [] h above
put_above n e (f ∷ fs) h above =
    let tail = All-tail (λ g. n < g.link) f fs above in
    let head : n < f.link = above 0 f (omega arith) in
    elim (nat_lt e.link f.link) as (λ b. All (λ g. n < g.link) (if b then e ∷ f ∷ fs else if e.link == f.link then e ∷ fs else f ∷ enable_put e fs)) [
      | true ↦ All-cons (λ g. n < g.link) e (f ∷ fs) h above
      | false ↦ elim (e.link == f.link) as (λ b. All (λ g. n < g.link) (if b then e ∷ fs else f ∷ enable_put e fs)) [
        | true ↦ All-cons (λ g. n < g.link) e fs h tail
        | false ↦ All-cons (λ g. n < g.link) f (enable_put e fs) head (put_above n e fs h tail)
      ]
    ]

-- enables in order stay so where one is put at its place
pub rise_put : (e : Enable) (es : List Enable) → LinksRise es → LinksRise (enable_put e es)
rise_put e [] rise = AllPairs-cons Precedes e [] (All-nil (Precedes e)) rise
rise_put e (f ∷ fs) rise = at (nat_lt e.link f.link) refl (e.link == f.link) refl (rise_put e fs (pairs_tail Precedes f fs rise))
  where
    behind : All (λ g. f.link < g.link) fs
    behind = pairs_head Precedes f fs rise

    at : (less : Bool) → nat_lt e.link f.link ≡ less → (same : Bool) → (e.link == f.link) ≡ same → LinksRise (enable_put e fs)
        → LinksRise (if less then e ∷ f ∷ fs else if same then e ∷ fs else f ∷ enable_put e fs)
    at true l same s rest =
        let first : e.link < f.link = grind (arith, nat_tests, l) in
        AllPairs-cons Precedes e (f ∷ fs) (All-cons (Precedes e) f fs first (All-weaker (λ g. f.link < g.link) (Precedes e) (λ g h. omega (arith, h, first)) fs behind)) rise
    at false l true s rest =
        let eq : e.link ≡ f.link = grind (arith, nat_tests, s) in
        AllPairs-cons Precedes e fs (All-weaker (λ g. f.link < g.link) (Precedes e) (λ g h. omega (arith, h, eq)) fs behind) (pairs_tail Precedes f fs rise)
    at false l false s rest =
        let above : f.link < e.link = grind (arith, nat_tests, l, s) in
        AllPairs-cons Precedes f (enable_put e fs) (put_above f.link e fs above behind) rest
