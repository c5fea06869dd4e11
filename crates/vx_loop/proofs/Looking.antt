-- A link as a caller knows it, and as it is looked at from a start on.
use Rattle.std.proofs.Common.{◌≡◌, ℕ, List, [], ◌++◌, Option, Some, None, sym, ap, subst, ◌∙◌, append-nil}
use Rattle.vx_io_traits.specs.declared.ReadOut.{ReadOut}
use Rattle.vx_io_traits.specs.declared.ReadOut.TheVariants.{Got, End, Failed}
use Rattle.vx_io_traits.specs.declared.WriteOut.{WriteOut}
use Rattle.vx_io_traits.specs.declared.WriteOut.TheVariants.{Took, Failed as Refused}
use Rattle.vx_io_traits.specs.Outs.{IfGot, IfTook, OnEnd, OnReadFailed, OnWriteFailed}
use Rattle.vx_io_traits.specs.Stands.{Gives, Takes, Stays, Goes}
use Rattle.vx_io_traits.proofs.Laws.Goings.{Goes-goes}
use Rattle.vx_loop.specs.Gateway.{Gateway, gateway_of}
use Rattle.vx_loop.specs.LoopState.{ServedState, LoopState}
use Rattle.vx_loop.specs.Serving.{lives}
use Rattle.vx_loop.specs.Standing.{Went, Since, LoopStandsFor, LoopGoesOn, MarkedStands, TakesTo, WaitsTo, LivesAlike}

-- what a call did, in the words of every link
module _ (stands : LoopState → List ℕ → List ℕ → Type 0) (old new : LoopState) where
  pub goes-takes : (sent : List ℕ) → Goes stands old new sent [] → Takes stands old new sent
  goes-takes sent h taken given s = subst (stands new (taken ++ sent)) (append-nil given) (h taken given s)

  pub goes-gives : (got : List ℕ) → Goes stands old new [] got → Gives stands old new got
  goes-gives got h taken given s = subst (λ ts. stands new ts (given ++ got)) (append-nil taken) (h taken given s)

  pub goes-stays : Goes stands old new [] [] → Stays stands old new
  goes-stays h taken given s = subst (stands new taken) (append-nil given) (goes-gives [] h taken given s)

-- a link stands for it
pub stands-goes : (old new : LoopState) (sent got : List ℕ) → LoopGoesOn old new sent got → Goes LoopStandsFor old new sent got
stands-goes old new sent got h taken given (start, begins, since) = (start, begins, h (gateway_of start.core) taken given since)

-- and so does one that is looked at
pub marked-goes : (start old new : LoopState) (sent got : List ℕ) → LoopGoesOn old new sent got → Goes (MarkedStands start) old new sent got
marked-goes start old new sent got h taken given marked =
    (Goes-goes LoopStandsFor start old new taken given sent got marked.0 (stands-goes old new sent got h), λ s is idle. h (gateway_of s.core) taken given (marked.1 s is idle))

-- ---- facts of both answers of a call

pub took-both : (r : WriteOut) (P Q R : ℕ → Type 0) → IfTook r P → IfTook r Q → ((n : ℕ) → P n → Q n → R n) → IfTook r R
took-both (Took n) P Q R p q f = f n p q
took-both Refused P Q R p q f = tt

pub refused-both : (r : WriteOut) (P Q R : Type 0) → OnWriteFailed r P → OnWriteFailed r Q → (P → Q → R) → OnWriteFailed r R
refused-both (Took n) P Q R p q f = tt
refused-both Refused P Q R p q f = f p q

pub got-both : (r : ReadOut) (P Q R : ℕ → Type 0) → IfGot r P → IfGot r Q → ((n : ℕ) → P n → Q n → R n) → IfGot r R
got-both (Got n) P Q R p q f = f n p q
got-both _ P Q R p q f = tt

pub end-both : (r : ReadOut) (P Q R : Type 0) → OnEnd r P → OnEnd r Q → (P → Q → R) → OnEnd r R
end-both End P Q R p q f = f p q
end-both _ P Q R p q f = tt

pub failed-both : (r : ReadOut) (P Q R : Type 0) → OnReadFailed r P → OnReadFailed r Q → (P → Q → R) → OnReadFailed r R
failed-both Failed P Q R p q f = f p q
failed-both _ P Q R p q f = tt

-- ---- what a gateway did, as its link did it

-- a link whose gateway took bytes went on so
pub takes-goes : (old : LoopState) (s new : ServedState) (receives sends : ℕ) (bytes : List ℕ) → old.served ≡ Some s → TakesTo s new bytes
    → LoopGoesOn old (record { served = Some new; receive_faults = receives; send_faults = sends }) bytes []
takes-goes old s new receives sends bytes is t start taken given since =
    subst (Went start new (taken ++ bytes)) (sym (append-nil given)) (t.went start taken given (subst (λ o. Since start o taken given) is since))

-- one whose gateway gave bytes once a call no longer waited went on so
pub gives-goes : (old : LoopState) (s mid new : ServedState) (receives sends : ℕ) (bytes : List ℕ) → old.served ≡ Some s → WaitsTo s mid
    → ((start : Gateway) (taken given : List ℕ) → Went start mid taken given → Went start new taken (given ++ bytes))
    → LoopGoesOn old (record { served = Some new; receive_faults = receives; send_faults = sends }) [] bytes
gives-goes old s mid new receives sends bytes is w g start taken given since =
    subst (λ ts. Went start new ts (given ++ bytes)) (sym (append-nil taken)) (g start taken given (w.went start taken given (subst (λ o. Since start o taken given) is since)))

-- one whose call waits on gave nothing
pub waits-goes : (old : LoopState) (s new : ServedState) (receives sends : ℕ) → old.served ≡ Some s → WaitsTo s new
    → LoopGoesOn old (record { served = Some new; receive_faults = receives; send_faults = sends }) [] []
waits-goes old s new receives sends is w =
    gives-goes old s new new receives sends [] is w (λ start taken given went. subst (Went start new taken) (sym (append-nil given)) went)

-- a waiting ends no connection, nor does what leaves the gateway as it is
pub waits-alike : (old : Option ServedState) (s mid new : ServedState) → old ≡ Some s → WaitsTo s mid → new.core ≡ mid.core → LivesAlike old (Some new)
waits-alike old s mid new is w same = subst (λ o. LivesAlike o (Some new)) (sym is) (ap (λ c. lives (gateway_of c)) same ∙ w.lives_on)

-- a link without a gateway stands for nothing
pub vacant-goes : (old new : LoopState) (sent got : List ℕ) → old.served ≡ None → LoopGoesOn old new sent got
vacant-goes old new sent got is start taken given since = absurd (subst (λ o. Since start o taken given) is since)
