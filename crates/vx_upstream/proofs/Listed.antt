-- Listeners, place by place from the last one on.
use Rattle.std.proofs.Common.{◌≡◌, ◌≢◌, ℕ, ◌+◌, ◌<◌, ◌≤◌, Bool, true, false, cond, ◌||◌, ◌&&◌, eqb, ltb, List, [], ◌∷◌, ◌++◌, Option, Some, None, refl, sym, ap, ◌∙◌, append_assoc, append-nil, inl, inr, arith}
use Rattle.std.proofs.lemmas.Bool.{cases_lt, le-ltb, lt-ltb, or_from, or_left, cond-true, cond-false}
use Rattle.vx_488.specs.declared.transfers.Addr.{Addr}
use Rattle.vx_488.specs.Address.{place, address_at, same_address}
use Rattle.vx_488.specs.Listening.{InOrderFrom, InOrder, has_address}
use Rattle.vx_488.specs.Flags.{place-address_at, same_address-refl, same_address-apart}
use Rattle.vx_upstream.specs.Restoring.{address_orders, listener_orders, orders_at, first_at, sooner}
use Rattle.vx_upstream.specs.declared.orders.Order.{Order}
use Rattle.vx_upstream.proofs.Wires.{place-within, address-there, has-before}

-- those of a list from a place on
abbrev pub from : ℕ → List Addr → List Addr
from i [] = []
from i (a ∷ xs) = cond (ltb (place a) i) (from i xs) (a ∷ xs)

-- a list that begins there, or behind
from-behind : (i j : ℕ) (xs : List Addr) → i ≤ j → InOrderFrom j xs → from i xs ≡ xs
from-behind i j [] h ord = refl
from-behind i j (a ∷ xs) h ord = cond-false (ltb (place a) i) _ _ (le-ltb (place a) i (omega (arith, ord.0)))

-- all
pub from-first : (xs : List Addr) → InOrder xs → from 0 xs ≡ xs
from-first xs ord = from-behind 0 0 xs (omega arith) ord

-- none
from-last : (j : ℕ) (xs : List Addr) → InOrderFrom j xs → from 992 xs ≡ []
from-last j [] ord = refl
from-last j (a ∷ xs) ord = cond-true (ltb (place a) 992) _ _ (lt-ltb (place a) 992 (place-within a ord.1)) ∙ from-last (place a + 1) xs ord.2

-- one place before, the address there is the first where it is in the list
abbrev with-place : Bool → ℕ → List Addr → List Addr
with-place t i xs = cond t (address_at i ∷ from (i + 1) xs) (from (i + 1) xs)

from-step : (j i : ℕ) (xs : List Addr) → InOrderFrom j xs → from i xs ≡ with-place (has_address xs (address_at i)) i xs
from-step j i [] ord = refl
from-step j i (a ∷ xs) ord = elim (cases_lt (place a) i) [
  | inl before ↦
      let apart : place (address_at i) ≢ place a = omega (arith, place-address_at i, before) in
      let more : place a < i + 1 = omega (arith, before) in
      let later : from (i + 1) (a ∷ xs) ≡ from (i + 1) xs = cond-true (ltb (place a) (i + 1)) _ _ (lt-ltb (place a) (i + 1) more) in
      cond-true (ltb (place a) i) _ _ (lt-ltb (place a) i before)
      ∙ from-step (place a + 1) i xs ord.2
      ∙ ap (λ (t : Bool). with-place (t || has_address xs (address_at i)) i xs) (sym (same_address-apart (address_at i) a apart))
      ∙ ap (λ (rest : List Addr). cond (same_address (address_at i) a || has_address xs (address_at i)) (address_at i ∷ rest) rest) (sym later)
  | inr behind ↦
      cond-false (ltb (place a) i) _ _ (le-ltb (place a) i behind)
      ∙ elim (cases_lt i (place a)) [
        | inl far ↦
            let apart : place (address_at i) ≢ place a = omega (arith, place-address_at i, far) in
            let less : place (address_at i) < place a + 1 = omega (arith, place-address_at i, far) in
            let none : has_address (a ∷ xs) (address_at i) ≡ false =
            or_from _ _ (same_address-apart (address_at i) a apart) (has-before (address_at i) (place a + 1) xs less ord.2) in
            sym (ap (λ (t : Bool). with-place t i (a ∷ xs)) none ∙ cond-false (ltb (place a) (i + 1)) _ _ (le-ltb (place a) (i + 1) (omega (arith, far))))
        | inr near ↦
            let here : place a ≡ i = omega (arith, behind, near) in
            let is : address_at i ≡ a = ap address_at (sym here) ∙ address-there a ord.1 in
            let same : has_address (a ∷ xs) (address_at i) ≡ true = or_left _ _ (ap (λ (b : Addr). same_address b a) is ∙ same_address-refl a) in
            sym (ap (λ (t : Bool). with-place t i (a ∷ xs)) same
            ∙ ap (λ (rest : List Addr). address_at i ∷ rest)
            (cond-true (ltb (place a) (i + 1)) _ _ (lt-ltb (place a) (i + 1) (omega (arith, near))) ∙ from-behind (i + 1) (place a + 1) xs (omega (arith, behind)) ord.2)
            ∙ ap (λ (b : Addr). b ∷ xs) is)
      ]
]

-- ---- the orders of listeners

orders-by : (t : Bool) (a : Addr) (rest : List Addr) → listener_orders (cond t (a ∷ rest) rest) ≡ listener_orders rest ++ cond t (address_orders 0x20 a) []
orders-by true a rest = refl
orders-by false a rest = sym (append-nil (listener_orders rest))

-- before the first
pub listed-none : (xs : List Addr) (init : List Order) → InOrder xs → init ≡ init ++ listener_orders (from 992 xs)
listed-none xs init ord = sym (ap (λ (ys : List Addr). init ++ listener_orders ys) (from-last 0 xs ord) ∙ append-nil init)

-- one more
pub listed-next : (xs : List Addr) (init now new : List Order) (n m : ℕ) → InOrder xs → n ≡ m + 1 → now ≡ init ++ listener_orders (from n xs) → new ≡ now ++ orders_at xs m
    → new ≡ init ++ listener_orders (from m xs)
listed-next xs init now new n m ord at before put =
    put
    ∙ ap (λ (os : List Order). os ++ orders_at xs m) (before ∙ ap (λ (k : ℕ). init ++ listener_orders (from k xs)) at)
    ∙ append_assoc init (listener_orders (from (m + 1) xs)) (orders_at xs m)
    ∙ ap (λ (os : List Order). init ++ os)
    (sym (ap listener_orders (from-step 0 m xs ord) ∙ orders-by (has_address xs (address_at m)) (address_at m) (from (m + 1) xs)))

-- all
pub listed-all : (xs : List Addr) (init now : List Order) (n : ℕ) → InOrder xs → n ≡ 0 → now ≡ init ++ listener_orders (from n xs) → now ≡ init ++ listener_orders xs
listed-all xs init now n ord at is = is ∙ ap (λ (k : ℕ). init ++ listener_orders (from k xs)) at ∙ ap (λ (ys : List Addr). init ++ listener_orders ys) (from-first xs ord)

-- ---- the first listener with a primary address

first-by : (p : ℕ) (t : Bool) (a : Addr) (rest : List Addr) → first_at p (cond t (a ∷ rest) rest) ≡ cond (t && eqb a.p p) (Some a) (first_at p rest)
first-by p true a rest = refl
first-by p false a rest = refl

pub first-none : (p : ℕ) (xs : List Addr) → InOrder xs → None ≡ first_at p (from 992 xs)
first-none p xs ord = ap (first_at p) (sym (from-last 0 xs ord))

pub first-next : (p : ℕ) (xs : List Addr) (now new : Option Addr) (n m : ℕ) → InOrder xs → n ≡ m + 1 → now ≡ first_at p (from n xs) → new ≡ sooner xs p m now
    → new ≡ first_at p (from m xs)
first-next p xs now new n m ord at before found =
    found
    ∙ ap (sooner xs p m) (before ∙ ap (λ (k : ℕ). first_at p (from k xs)) at)
    ∙ sym (ap (first_at p) (from-step 0 m xs ord) ∙ first-by p (has_address xs (address_at m)) (address_at m) (from (m + 1) xs))

pub first-all : (p : ℕ) (xs : List Addr) (now : Option Addr) (n : ℕ) → InOrder xs → n ≡ 0 → now ≡ first_at p (from n xs) → now ≡ first_at p xs
first-all p xs now n ord at is = is ∙ ap (λ (k : ℕ). first_at p (from k xs)) at ∙ ap (first_at p) (from-first xs ord)
