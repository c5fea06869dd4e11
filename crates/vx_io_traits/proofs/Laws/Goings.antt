-- Laws of what a link goes through: what it took and gave over several calls, one call after others.
use Rattle.std.specs.Prelude.{ℕ, List, [], ◌++◌}
use Rattle.std.proofs.Common.{sym, subst, append_assoc, append-nil}
use Rattle.vx_io_traits.specs.Stands.{Gives, Takes, Stays, Goes}

-- before the first call it took and gave nothing
pub Goes-none : {L : Type 0} (stands : L → List ℕ → List ℕ → Type 0) (l : L) → Goes stands l l [] []
Goes-none stands l taken given h =
    subst (λ t. stands l t (given ++ [])) (sym (append-nil taken)) (subst (λ g. stands l taken g) (sym (append-nil given)) h)

-- a call that took bytes
pub Goes-takes : {L : Type 0} (stands : L → List ℕ → List ℕ → Type 0) (a b c : L) (sent got bytes : List ℕ)
    → Goes stands a b sent got → Takes stands b c bytes → Goes stands a c (sent ++ bytes) got
Goes-takes stands a b c sent got bytes before call taken given h =
    subst (λ t. stands c t (given ++ got)) (append_assoc taken sent bytes) (call (taken ++ sent) (given ++ got) (before taken given h))

-- a call that gave bytes
pub Goes-gives : {L : Type 0} (stands : L → List ℕ → List ℕ → Type 0) (a b c : L) (sent got bytes : List ℕ)
    → Goes stands a b sent got → Gives stands b c bytes → Goes stands a c sent (got ++ bytes)
Goes-gives stands a b c sent got bytes before call taken given h =
    subst (λ g. stands c (taken ++ sent) g) (append_assoc given got bytes) (call (taken ++ sent) (given ++ got) (before taken given h))

-- a call that did neither
pub Goes-stays : {L : Type 0} (stands : L → List ℕ → List ℕ → Type 0) (a b c : L) (sent got : List ℕ)
    → Goes stands a b sent got → Stays stands b c → Goes stands a c sent got
Goes-stays stands a b c sent got before call taken given h = call (taken ++ sent) (given ++ got) (before taken given h)

-- several calls
pub Goes-goes : {L : Type 0} (stands : L → List ℕ → List ℕ → Type 0) (a b c : L) (sent got sent' got' : List ℕ)
    → Goes stands a b sent got → Goes stands b c sent' got' → Goes stands a c (sent ++ sent') (got ++ got')
Goes-goes stands a b c sent got sent' got' before calls taken given h =
    subst (λ t. stands c t (given ++ (got ++ got'))) (append_assoc taken sent sent')
    (subst (λ g. stands c ((taken ++ sent) ++ sent') g) (append_assoc given got got') (calls (taken ++ sent) (given ++ got) (before taken given h)))
