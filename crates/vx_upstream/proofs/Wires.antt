-- Orders that bring a bus to a wire.
use Rattle.std.proofs.Common.{◌≡◌, ◌≢◌, ◌⊎◌, ℕ, ◌+◌, ◌-◌, ◌/◌, ◌%◌, add-one, ◌<◌, ◌≤◌, Bool, true, false, not, cond, ◌||◌, eqb, ltb, leb, List, [], ◌∷◌, ◌++◌, Option, None, Some, refl, sym, ap, ◌∙◌, subst, inl, inr, arith}
use Rattle.std.proofs.lemmas.Bool.{cases_lt, leb-true, le-leb, le-ltb, lt-ltb, ltb-true, and_parts, and_from, or_from, or_parts, or_left, cond-true, cond-false, false≢true, eqb-true, eq-eqb, false_from_ne_true}
use Rattle.std.proofs.lemmas.List.{map-append}
use Rattle.vx_488.specs.declared.transfers.TheConstants.{ADDRESS_MAX}
use Rattle.vx_488.specs.declared.transfers.Addr.{Addr}
use Rattle.vx_488.specs.declared.transfers.Transfer.{Transfer}
use Rattle.vx_488.specs.declared.transfers.Transfer.TheVariants.{Cmd, Put, Got, Ren, Atn, Ifc, Own}
use Rattle.vx_488.specs.declared.commands.Command.{Command}
use Rattle.vx_488.specs.declared.commands.Command.TheVariants as command
use Rattle.vx_488.specs.declared.wire.Wire.{Wire}
use Rattle.vx_488.specs.declared.wire.Pending.{Pending}
use Rattle.vx_488.specs.declared.wire.Pending.TheVariants as pending
use Rattle.vx_488.specs.Address.{primary, secondary, secondary_place, secondary_at, place, address_at, same_address, is_secondary, is_bus_address}
use Rattle.vx_488.specs.Listening.{InOrderFrom, InOrder, has_address, inserted, with_address, without_address}
use Rattle.vx_488.specs.Flags.{same_address-refl, same_address-equal, same_address-apart}
use Rattle.vx_488.specs.Command.{command_of_code, command_of}
use Rattle.vx_488.specs.Wire.{first_wire, settled, talks_elsewhere, on_secondary, on_command, step, wire_after}
use Rattle.vx_488.proofs.Laws.{wire_after-append}
use Rattle.vx_488.proofs.Laws.AddressCommands.{listen_byte, talk_byte, secondary_byte}
use Rattle.vx_upstream.specs.Restoring.{transfer_of, transfers_of, address_orders, talker_orders, listener_orders, poll_byte, first_at, listener_again, awaited_orders, restoring, RestoringLaw}
use Rattle.vx_upstream.specs.declared.orders.Order.{Order}
use Rattle.vx_upstream.specs.declared.orders.Order.TheVariants as order

-- ---- tests

-- one of two tests that are true
or-cases : (x y : Bool) → (x || y) ≡ true → (x ≡ true) ⊎ (y ≡ true)
or-cases true y h = inl refl
or-cases false y h = inr h

or-right : (x y : Bool) → y ≡ true → (x || y) ≡ true
or-right true y h = refl
or-right false y h = h

test : (x : Bool) → (x ≡ true) ⊎ (x ≡ false)
test true = inl refl
test false = inr refl

-- ---- places

secondary_at-place : (s : Option ℕ) → secondary_at (secondary_place s) ≡ s
secondary_at-place None = refl
secondary_at-place (Some s) = ap secondary_at (add-one s)

secondary-within : (s : Option ℕ) → is_secondary s ≡ true → secondary_place s < 32
secondary-within None h = omega arith
secondary-within (Some s) h = omega (arith, leb-true s ADDRESS_MAX h)

-- a bus address is one of 992
pub place-within : (a : Addr) → is_bus_address a ≡ true → place a < 992
place-within a h =
    let both = and_parts (leb a.p ADDRESS_MAX) (is_secondary a.s) h in
    omega (arith, leb-true a.p ADDRESS_MAX both.0, secondary-within a.s both.1)

-- and the one at its place
pub address-there : (a : Addr) → is_bus_address a ≡ true → address_at (place a) ≡ a
address-there a h =
    let both = and_parts (leb a.p ADDRESS_MAX) (is_secondary a.s) h in
    let within = secondary-within a.s both.1 in
    let quotient : place a / 32 ≡ a.p = omega arith in
    let remainder : place a % 32 ≡ secondary_place a.s = omega arith in
    ap (λ (p : ℕ). record { p = p; s = secondary_at (place a % 32) }) quotient
    ∙ ap (λ (k : ℕ). record { p = a.p; s = secondary_at k }) remainder
    ∙ ap (λ (s : Option ℕ). record { p = a.p; s = s }) (secondary_at-place a.s)

-- ---- lists in order

-- what isn't in a list isn't taken from it
none-taken : (a : Addr) (xs : List Addr) → has_address xs a ≡ false → without_address a xs ≡ xs
none-taken a [] h = refl
none-taken a (x ∷ xs) h =
    let both = or_parts (same_address a x) (has_address xs a) h in
    ap (λ (b : Bool). cond (not b) (x ∷ without_address a xs) (without_address a xs)) both.0
    ∙ ap (λ (rest : List Addr). x ∷ rest) (none-taken a xs both.1)

-- addresses in front of the first of a list aren't in it
pub has-before : (a : Addr) (i : ℕ) (xs : List Addr) → place a < i → InOrderFrom i xs → has_address xs a ≡ false
has-before a i [] h ord = refl
has-before a i (b ∷ bs) h ord =
    let apart : place a ≢ place b = omega (arith, ord.0) in
    or_from _ _ (same_address-apart a b apart) (has-before a (place b + 1) bs (omega (arith, ord.0)) ord.2)

-- and stand in front of it
inserted-before : (a : Addr) (i : ℕ) (xs : List Addr) → place a < i → InOrderFrom i xs → inserted a xs ≡ a ∷ xs
inserted-before a i [] h ord = refl
inserted-before a i (b ∷ bs) h ord = cond-true (ltb (place a) (place b)) _ _ (lt-ltb (place a) (place b) (omega (arith, ord.0)))

-- a list in order from one place on is so from each place before
ordered-from : (i j : ℕ) (xs : List Addr) → i ≤ j → InOrderFrom j xs → InOrderFrom i xs
ordered-from i j [] h ord = tt
ordered-from i j (b ∷ bs) h ord = (omega (arith, ord.0), ord.1, ord.2)

-- bus addresses at one place are the same
same-place : (a b : Addr) → is_bus_address a ≡ true → is_bus_address b ≡ true → place a ≡ place b → a ≡ b
same-place a b ha hb e = sym (address-there a ha) ∙ ap address_at e ∙ address-there b hb

-- what is in a list isn't put in again
inserted-again : (a : Addr) (i : ℕ) (xs : List Addr) → InOrderFrom i xs → has_address xs a ≡ true → inserted a xs ≡ xs
inserted-again a i [] ord has = absurd (false≢true has)
inserted-again a i (b ∷ bs) ord has = elim (or-cases (same_address a b) (has_address bs a) has) [
  | inl same ↦
      let here : place a ≡ place b = ap place (same_address-equal a b same) in
      cond-false (ltb (place a) (place b)) _ _ (le-ltb (place a) (place b) (omega (arith, here))) ∙ cond-true (same_address a b) _ _ same
  | inr later ↦
      elim (cases_lt (place a) (place b + 1)) [
        | inl before ↦ absurd (false≢true (sym (has-before a (place b + 1) bs before ord.2) ∙ later))
        | inr behind ↦
            let apart : place a ≢ place b = omega (arith, behind) in
            cond-false (ltb (place a) (place b)) _ _ (le-ltb (place a) (place b) (omega (arith, behind)))
            ∙ cond-false (same_address a b) _ _ (same_address-apart a b apart)
            ∙ ap (λ (rest : List Addr). b ∷ rest) (inserted-again a (place b + 1) bs ord.2 later)
      ]
]

-- where an address is put that isn't in front of the first
abbrev other-place : Addr → Addr → List Addr → List Addr
other-place a b bs = cond (same_address a b) (b ∷ bs) (b ∷ inserted a bs)

-- what wasn't in a list is taken from it as it was put in
taken-back : (a : Addr) (xs : List Addr) → has_address xs a ≡ false → without_address a (inserted a xs) ≡ xs
taken-back a [] has = ap (λ (b : Bool). cond (not b) (a ∷ []) []) (same_address-refl a)
taken-back a (b ∷ bs) has =
    let both = or_parts (same_address a b) (has_address bs a) has in
    elim (test (ltb (place a) (place b))) [
      | inl before ↦
          ap (without_address a) (cond-true (ltb (place a) (place b)) (a ∷ b ∷ bs) (other-place a b bs) before)
          ∙ ap (λ (t : Bool). cond (not t) (a ∷ without_address a (b ∷ bs)) (without_address a (b ∷ bs))) (same_address-refl a)
          ∙ none-taken a (b ∷ bs) has
      | inr behind ↦
          ap (without_address a) (cond-false (ltb (place a) (place b)) (a ∷ b ∷ bs) (other-place a b bs) behind ∙ cond-false (same_address a b) (b ∷ bs) (b ∷ inserted a bs) both.0)
          ∙ ap (λ (t : Bool). cond (not t) (b ∷ without_address a (inserted a bs)) (without_address a (inserted a bs))) both.0
          ∙ ap (λ (rest : List Addr). b ∷ rest) (taken-back a bs both.1)
    ]

-- what was put in is there
has-inserted : (a : Addr) (xs : List Addr) → has_address (inserted a xs) a ≡ true
has-inserted a [] = or_left _ _ (same_address-refl a)
has-inserted a (b ∷ bs) = elim (test (ltb (place a) (place b))) [
  | inl before ↦ ap (λ (xs : List Addr). has_address xs a) (cond-true (ltb (place a) (place b)) (a ∷ b ∷ bs) (other-place a b bs) before) ∙ or_left _ _ (same_address-refl a)
  | inr behind ↦
      ap (λ (xs : List Addr). has_address xs a) (cond-false (ltb (place a) (place b)) (a ∷ b ∷ bs) (other-place a b bs) behind)
      ∙ elim (test (same_address a b)) [
        | inl same ↦ ap (λ (xs : List Addr). has_address xs a) (cond-true (same_address a b) (b ∷ bs) (b ∷ inserted a bs) same) ∙ or_left _ _ same
        | inr other ↦
            ap (λ (xs : List Addr). has_address xs a) (cond-false (same_address a b) (b ∷ bs) (b ∷ inserted a bs) other)
            ∙ or-right (same_address a b) (has_address (inserted a bs) a) (has-inserted a bs)
      ]
]

-- a list in order stays so
ordered-inserted : (a : Addr) (i : ℕ) (xs : List Addr) → i ≤ place a → is_bus_address a ≡ true → InOrderFrom i xs → InOrderFrom i (inserted a xs)
ordered-inserted a i [] h bus ord = (h, bus, tt)
ordered-inserted a i (b ∷ bs) h bus ord = elim (test (ltb (place a) (place b))) [
  | inl before ↦
      subst (InOrderFrom i) (sym (cond-true (ltb (place a) (place b)) (a ∷ b ∷ bs) (other-place a b bs) before))
      (let less : place a < place b = ltb-true (place a) (place b) before in (h, bus, (omega (arith, less), ord.1, ord.2)))
  | inr behind ↦
      subst (InOrderFrom i) (sym (cond-false (ltb (place a) (place b)) (a ∷ b ∷ bs) (other-place a b bs) behind))
      (elim (test (same_address a b)) [
        | inl same ↦ subst (InOrderFrom i) (sym (cond-true (same_address a b) (b ∷ bs) (b ∷ inserted a bs) same)) ord
        | inr other ↦
            let apart : place a ≢ place b = λ e. false≢true (sym other ∙ ap (λ (c : Addr). same_address a c) (sym (same-place a b bus ord.1 e)) ∙ same_address-refl a) in
            let more : place b < place a = further (place a) (place b) behind apart in
            subst (InOrderFrom i) (sym (cond-false (same_address a b) (b ∷ bs) (b ∷ inserted a bs) other))
            (ord.0, ord.1, ordered-inserted a (place b + 1) bs (omega (arith, more)) bus ord.2)
      ])
]
  where
    further : (m n : ℕ) → ltb m n ≡ false → m ≢ n → n < m
    further m n h apart = elim (cases_lt m n) [ inl less ↦ absurd (false≢true (sym h ∙ lt-ltb m n less)) | inr le ↦ omega (arith, le, apart) ]

ordered-with : (a : Addr) (xs : List Addr) → is_bus_address a ≡ true → InOrder xs → InOrder (with_address a xs)
ordered-with a xs bus ord = subst InOrder (sym (cond-true (is_bus_address a) (inserted a xs) xs bus)) (ordered-inserted a 0 xs (omega arith) bus ord)

has-with : (a : Addr) (xs : List Addr) → is_bus_address a ≡ true → has_address (with_address a xs) a ≡ true
has-with a xs bus = ap (λ (ys : List Addr). has_address ys a) (cond-true (is_bus_address a) (inserted a xs) xs bus) ∙ has-inserted a xs

ordered-without : (a : Addr) (i : ℕ) (xs : List Addr) → InOrderFrom i xs → InOrderFrom i (without_address a xs)
ordered-without a i [] ord = tt
ordered-without a i (b ∷ bs) ord = elim (test (same_address a b)) [
  | inl same ↦
      subst (InOrderFrom i) (sym (ap (λ (t : Bool). cond (not t) (b ∷ without_address a bs) (without_address a bs)) same))
      (ordered-from i (place b + 1) (without_address a bs) (omega (arith, ord.0)) (ordered-without a (place b + 1) bs ord.2))
  | inr other ↦
      subst (InOrderFrom i) (sym (ap (λ (t : Bool). cond (not t) (b ∷ without_address a bs) (without_address a bs)) other))
      (ord.0, ord.1, ordered-without a (place b + 1) bs ord.2)
]

-- each in a list in order is a bus address
bus-of : (a : Addr) (i : ℕ) (xs : List Addr) → InOrderFrom i xs → has_address xs a ≡ true → is_bus_address a ≡ true
bus-of a i [] ord has = absurd (false≢true has)
bus-of a i (b ∷ bs) ord has = elim (or-cases (same_address a b) (has_address bs a) has) [
  | inl same ↦ ap is_bus_address (same_address-equal a b same) ∙ ord.1
  | inr later ↦ bus-of a (place b + 1) bs ord.2 later
]

-- ---- what an order makes

-- two lists of orders, one after the other
after-both : (w : Wire) (xs ys : List Order) → wire_after w (transfers_of (xs ++ ys)) ≡ wire_after (wire_after w (transfers_of xs)) (transfers_of ys)
after-both w xs ys = ap (wire_after w) (map-append transfer_of xs ys) ∙ wire_after-append w (transfers_of xs) (transfers_of ys)

-- the bus with these listeners, and with this talker, and who is awaited
abbrev listening : Wire → List Addr → Pending → Wire
listening w xs q = record w { listeners = xs; pending = q }

abbrev talking : Wire → Option Addr → Pending → Wire
talking w t q = record w { talker = t; pending = q }

-- MLA, MTA and MSA
mla : (w : Wire) (p : ℕ) → p ≤ ADDRESS_MAX → step w (Cmd ((0x20 + p) % 256)) ≡ listening w (with_address (primary p) w.listeners) (pending.Listen p)
mla w p h = let small : (0x20 + p) % 256 ≡ 0x20 + p = omega arith in ap (on_command w) (ap command_of small ∙ listen_byte p h)

mta : (w : Wire) (p : ℕ) → p ≤ ADDRESS_MAX → step w (Cmd ((0x40 + p) % 256)) ≡ talking w (Some (primary p)) (pending.Talk p)
mta w p h = let small : (0x40 + p) % 256 ≡ 0x40 + p = omega arith in ap (on_command w) (ap command_of small ∙ talk_byte p h)

msa : (w : Wire) (s : ℕ) → s ≤ ADDRESS_MAX → step w (Cmd ((0x60 + s) % 256)) ≡ on_secondary w s w.pending
msa w s h = let small : (0x60 + s) % 256 ≡ 0x60 + s = omega arith in ap (on_command w) (ap command_of small ∙ secondary_byte s h)

-- both parts of a bus address
parts : (p : ℕ) (s : Option ℕ) → is_bus_address (record { p = p; s = s }) ≡ true → (p ≤ ADDRESS_MAX) × (is_secondary s ≡ true)
parts p s h = let both = and_parts (leb p ADDRESS_MAX) (is_secondary s) h in (leb-true p ADDRESS_MAX both.0, both.1)

bus-primary : (p : ℕ) → p ≤ ADDRESS_MAX → is_bus_address (primary p) ≡ true
bus-primary p h = and_from (leb p ADDRESS_MAX) true (le-leb p ADDRESS_MAX h) refl

bus-secondary : (p s : ℕ) → p ≤ ADDRESS_MAX → s ≤ ADDRESS_MAX → is_bus_address (secondary p s) ≡ true
bus-secondary p s h k = and_from (leb p ADDRESS_MAX) (leb s ADDRESS_MAX) (le-leb p ADDRESS_MAX h) (le-leb s ADDRESS_MAX k)

-- a device talks
talks : (w : Wire) (p : ℕ) (s : Option ℕ) → is_bus_address (record { p = p; s = s }) ≡ true
    → wire_after w (transfers_of (address_orders 0x40 (record { p = p; s = s }))) ≡ talking w (Some (record { p = p; s = s })) (pending.Talk p)
talks w p None bus = mta w p (parts p None bus).0
talks w p (Some s) bus =
    let both = parts p (Some s) bus in
    ap (λ (u : Wire). step u (Cmd ((0x60 + s) % 256))) (mta w p both.0)
    ∙ msa (talking w (Some (primary p)) (pending.Talk p)) s (leb-true s ADDRESS_MAX both.1)

-- the list behind MLA and MSA of a device
abbrev added : ℕ → Option ℕ → List Addr → List Addr
added p None xs = with_address (primary p) xs
added p (Some s) xs = with_address (secondary p s) (without_address (primary p) (with_address (primary p) xs))

-- it listens
listens : (w : Wire) (p : ℕ) (s : Option ℕ) → is_bus_address (record { p = p; s = s }) ≡ true
    → wire_after w (transfers_of (address_orders 0x20 (record { p = p; s = s }))) ≡ listening w (added p s w.listeners) (pending.Listen p)
listens w p None bus = mla w p (parts p None bus).0
listens w p (Some s) bus =
    let both = parts p (Some s) bus in
    ap (λ (u : Wire). step u (Cmd ((0x60 + s) % 256))) (mla w p both.0)
    ∙ msa (listening w (with_address (primary p) w.listeners) (pending.Listen p)) s (leb-true s ADDRESS_MAX both.1)

-- with_address of a bus address
with-bus : (a : Addr) (xs : List Addr) → is_bus_address a ≡ true → with_address a xs ≡ inserted a xs
with-bus a xs bus = cond-true (is_bus_address a) (inserted a xs) xs bus

-- MLA and MSA put a device in where its primary address alone isn't there
added-apart : (p s : ℕ) (xs : List Addr) → is_bus_address (secondary p s) ≡ true → has_address xs (primary p) ≡ false → added p (Some s) xs ≡ inserted (secondary p s) xs
added-apart p s xs bus apart =
    ap (λ (ys : List Addr). with_address (secondary p s) (without_address (primary p) ys)) (with-bus (primary p) xs (bus-primary p (parts p (Some s) bus).0))
    ∙ ap (with_address (secondary p s)) (taken-back (primary p) xs apart)
    ∙ with-bus (secondary p s) xs bus

-- in front of all others
added-front : (p : ℕ) (s : Option ℕ) (xs : List Addr) → is_bus_address (record { p = p; s = s }) ≡ true → InOrderFrom (place (record { p = p; s = s }) + 1) xs
    → added p s xs ≡ record { p = p; s = s } ∷ xs
added-front p None xs bus ord = with-bus (primary p) xs bus ∙ inserted-before (primary p) (place (primary p) + 1) xs (omega arith) ord
added-front p (Some s) xs bus ord =
    added-apart p s xs bus (has-before (primary p) (place (secondary p s) + 1) xs (omega arith) ord)
    ∙ inserted-before (secondary p s) (place (secondary p s) + 1) xs (omega arith) ord

-- all listeners
all-listen : (w : Wire) (i : ℕ) (xs : List Addr) → w.listeners ≡ [] → InOrderFrom i xs
    → (q : Pending) × (wire_after w (transfers_of (listener_orders xs)) ≡ listening w xs q)
all-listen w i [] none ord = (w.pending, ap (λ (ys : List Addr). record w { listeners = ys }) none)
all-listen w i (a ∷ xs) none ord =
    let front = all-listen w (place a + 1) xs none ord.2 in (
      pending.Listen a.p,
      after-both w (listener_orders xs) (address_orders 0x20 a)
          ∙ ap (λ (u : Wire). wire_after u (transfers_of (address_orders 0x20 a))) front.1
          ∙ listens (listening w xs front.0) a.p a.s ord.1
          ∙ ap (λ (ys : List Addr). listening w ys (pending.Listen a.p)) (added-front a.p a.s xs ord.1 ord.2),
    )

-- the talker, where there is one, is a bus address
abbrev pub IsTalker : Option Addr → Type 0
IsTalker None = Unit {0}
IsTalker (Some a) = is_bus_address a ≡ true

all-talk : (w : Wire) (t : Option Addr) → w.talker ≡ None → IsTalker t → (q : Pending) × (wire_after w (transfers_of (talker_orders t)) ≡ talking w t q)
all-talk w None none bus = (w.pending, ap (λ (t : Option Addr). record w { talker = t }) none)
all-talk w (Some a) none bus = (pending.Talk a.p, talks w a.p a.s bus)

-- SPE and SPD
polled : (w : Wire) (on : Bool) → step w (Cmd (poll_byte on)) ≡ record w { polling = on; pending = pending.Nothing }
polled w true = refl
polled w false = refl

-- ---- who is awaited

-- a further secondary address would belong to the talker, or to a listener
abbrev pub IsAwaited : Pending → Option Addr → List Addr → Type 0
IsAwaited pending.Nothing talker xs = Unit {0}
IsAwaited (pending.Talk p) talker xs = (s : Option ℕ) × (talker ≡ Some (record { p = p; s = s }))
IsAwaited (pending.Listen p) talker xs = (s : Option ℕ) × (has_address xs (record { p = p; s = s }) ≡ true)

-- an address at another primary
elsewhere : (a b : Addr) → eqb b.p a.p ≡ false → same_address a b ≡ false
elsewhere a b h = false_from_ne_true (same_address a b) (λ e. false≢true (sym h ∙ ap (λ (c : Addr). eqb b.p c.p) (same_address-equal a b e) ∙ eq-eqb b.p b.p refl))

-- it is there
record FirstAt (p : ℕ) (xs : List Addr) : Type 0 where
  pub s : Option ℕ
  pub is : first_at p xs ≡ Some (record { p = p; s = s })
  pub has : has_address xs (record { p = p; s = s }) ≡ true
  pub alone : s ≡ None ⊎ (has_address xs (primary p) ≡ false)

first-here : (p : ℕ) (s : Option ℕ) (i : ℕ) (rest : List Addr) → InOrderFrom i (record { p = p; s = s } ∷ rest)
    → s ≡ None ⊎ (has_address (record { p = p; s = s } ∷ rest) (primary p) ≡ false)
first-here p None i rest ord = inl refl
first-here p (Some s) i rest ord =
    let apart : place (primary p) ≢ place (secondary p s) = omega arith in
    inr (or_from _ _ (same_address-apart (primary p) (secondary p s) apart) (has-before (primary p) (place (secondary p s) + 1) rest (omega arith) ord.2))

first-found : (p : ℕ) (i : ℕ) (xs : List Addr) (s : Option ℕ) → InOrderFrom i xs → has_address xs (record { p = p; s = s }) ≡ true → FirstAt p xs
first-found p i [] s ord has = absurd (false≢true has)
first-found p i (b ∷ bs) s ord has = elim (test (eqb b.p p)) [
  | inl here ↦
      let at : p ≡ b.p = sym (eqb-true b.p p here) in
      subst (λ (k : ℕ). FirstAt k (b ∷ bs)) (sym at) (record {
        s = b.s;
        is = cond-true (eqb b.p b.p) (Some b) (first_at b.p bs) (eq-eqb b.p b.p refl);
        has = or_left _ _ (same_address-refl b);
        alone = first-here b.p b.s i bs ord;
      })
  | inr other ↦
      let away : (t : Option ℕ) → same_address (record { p = p; s = t }) b ≡ false = λ t. elsewhere (record { p = p; s = t }) b other in
      let later : has_address bs (record { p = p; s = s }) ≡ true =
      elim (or-cases (same_address (record { p = p; s = s }) b) (has_address bs (record { p = p; s = s })) has) [
        | inl same ↦ absurd (false≢true (sym (away s) ∙ same))
        | inr rest ↦ rest
      ] in
      let found : FirstAt p bs = first-found p (place b + 1) bs s ord.2 later in
      record {
        s = found.s;
        is = cond-false (eqb b.p p) (Some b) (first_at p bs) other ∙ found.is;
        has = or-right _ _ found.has;
        alone = elim found.alone [ inl none ↦ inl none | inr apart ↦ inr (or_from _ _ (away None) apart) ];
      }
]

-- addressed once more, it changes no list
added-again : (p : ℕ) (s : Option ℕ) (i : ℕ) (xs : List Addr) → InOrderFrom i xs → has_address xs (record { p = p; s = s }) ≡ true
    → s ≡ None ⊎ (has_address xs (primary p) ≡ false) → added p s xs ≡ xs
added-again p None i xs ord has alone = with-bus (primary p) xs (bus-of (primary p) i xs ord has) ∙ inserted-again (primary p) i xs ord has
added-again p (Some s) i xs ord has (inl none) = absurd (cc)
added-again p (Some s) i xs ord has (inr apart) =
    added-apart p s xs (bus-of (secondary p s) i xs ord has) apart ∙ inserted-again (secondary p s) i xs ord has

awaits : (w : Wire) (q : Pending) → IsTalker w.talker → InOrder w.listeners → IsAwaited q w.talker w.listeners
    → wire_after (record w { pending = pending.Nothing }) (transfers_of (awaited_orders q w.talker w.listeners)) ≡ record w { pending = q }
awaits w pending.Nothing bus ord is = refl
awaits w (pending.Talk p) bus ord (s, is) =
    ap (λ (t : Option Addr). wire_after (record w { pending = pending.Nothing }) (transfers_of (talker_orders t))) is
    ∙ talks (record w { pending = pending.Nothing }) p s (subst IsTalker is bus)
    ∙ ap (λ (t : Option Addr). talking w t (pending.Talk p)) (sym is)
awaits w (pending.Listen p) bus ord (s, has) =
    let found : FirstAt p w.listeners = first-found p 0 w.listeners s ord has in
    ap (λ (o : Option Addr). wire_after (record w { pending = pending.Nothing }) (transfers_of (listener_again o))) found.is
    ∙ listens (record w { pending = pending.Nothing }) p found.s (bus-of (record { p = p; s = found.s }) 0 w.listeners ord found.has)
    ∙ ap (λ (xs : List Addr). listening w xs (pending.Listen p)) (added-again p found.s 0 w.listeners ord found.has found.alone)

-- ---- wires that transfers leave

pub record IsSound (w : Wire) : Type 0 where
  pub talks : IsTalker w.talker
  pub ordered : InOrder w.listeners
  pub awaited : IsAwaited w.pending w.talker w.listeners

-- a command with an address has one of at most 30
abbrev IsBounded : Command → Type 0
IsBounded (command.Listen p) = p ≤ ADDRESS_MAX
IsBounded (command.Talk p) = p ≤ ADDRESS_MAX
IsBounded (command.Secondary s) = s ≤ ADDRESS_MAX
IsBounded _ = Unit {0}

either : (t : Bool) (x y : Command) → (t ≡ true → IsBounded x) → (t ≡ false → IsBounded y) → IsBounded (cond t x y)
either true x y here there = here refl
either false x y here there = there refl

-- the tests for an addressed or universal command, from each on
abbrev low-8 : ℕ → Command
low-8 c = command.OtherPrimary

abbrev low-7 : ℕ → Command
low-7 c = cond (eqb c 0x19) command.PollDisable (low-8 c)

abbrev low-6 : ℕ → Command
low-6 c = cond (eqb c 0x18) command.PollEnable (low-7 c)

abbrev low-5 : ℕ → Command
low-5 c = cond (eqb c 0x14) command.DeviceClear (low-6 c)

abbrev low-4 : ℕ → Command
low-4 c = cond (eqb c 0x11) command.LocalLockout (low-5 c)

abbrev low-3 : ℕ → Command
low-3 c = cond (eqb c 0x09) command.TakeControl (low-4 c)

abbrev low-2 : ℕ → Command
low-2 c = cond (eqb c 0x08) command.Trigger (low-3 c)

abbrev low-1 : ℕ → Command
low-1 c = cond (eqb c 0x04) command.SelectedClear (low-2 c)

abbrev low-0 : ℕ → Command
low-0 c = cond (eqb c 0x01) command.GoToLocal (low-1 c)

bounded-low : (c : ℕ) → IsBounded (low-0 c)
bounded-low c =
    either (eqb c 0x01) command.GoToLocal (low-1 c) (λ e. tt) (λ e.
    either (eqb c 0x04) command.SelectedClear (low-2 c) (λ e. tt) (λ e.
    either (eqb c 0x08) command.Trigger (low-3 c) (λ e. tt) (λ e.
    either (eqb c 0x09) command.TakeControl (low-4 c) (λ e. tt) (λ e.
    either (eqb c 0x11) command.LocalLockout (low-5 c) (λ e. tt) (λ e.
    either (eqb c 0x14) command.DeviceClear (low-6 c) (λ e. tt) (λ e.
    either (eqb c 0x18) command.PollEnable (low-7 c) (λ e. tt) (λ e.
    either (eqb c 0x19) command.PollDisable (low-8 c) (λ e. tt) (λ e.
    tt))))))))

-- and those for the other groups
abbrev high-5 : ℕ → Command
high-5 c = command.NoMeaning

abbrev high-4 : ℕ → Command
high-4 c = cond (ltb c 0x7F) (command.Secondary (c - 0x60)) (high-5 c)

abbrev high-3 : ℕ → Command
high-3 c = cond (eqb c 0x5F) (command.Untalk) (high-4 c)

abbrev high-2 : ℕ → Command
high-2 c = cond (ltb c 0x5F) (command.Talk (c - 0x40)) (high-3 c)

abbrev high-1 : ℕ → Command
high-1 c = cond (eqb c 0x3F) (command.Unlisten) (high-2 c)

abbrev high-0 : ℕ → Command
high-0 c = cond (ltb c 0x3F) (command.Listen (c - 0x20)) (high-1 c)

bounded : (c : ℕ) → IsBounded (command_of_code c)
bounded c =
    either (ltb c 0x20) (low-0 c) (high-0 c) (λ e. bounded-low c) (λ e.
    either (ltb c 0x3F) (command.Listen (c - 0x20)) (high-1 c) (λ less. omega (arith, ltb-true c 0x3F less)) (λ e.
    either (eqb c 0x3F) (command.Unlisten) (high-2 c) (λ e. tt) (λ e.
    either (ltb c 0x5F) (command.Talk (c - 0x40)) (high-3 c) (λ less. omega (arith, ltb-true c 0x5F less)) (λ e.
    either (eqb c 0x5F) (command.Untalk) (high-4 c) (λ e. tt) (λ e.
    either (ltb c 0x7F) (command.Secondary (c - 0x60)) (high-5 c) (λ less. omega (arith, ltb-true c 0x7F less)) (λ e.
    tt))))))

-- a secondary address
sound-secondary : (w : Wire) (s : ℕ) (q : Pending) → s ≤ ADDRESS_MAX → w.pending ≡ q → IsSound w → IsAwaited q w.talker w.listeners → IsSound (on_secondary w s q)
sound-secondary w s pending.Nothing h is sound awaited = sound
sound-secondary w s (pending.Listen p) h is sound (t, has) =
    let within = (parts p t (bus-of (record { p = p; s = t }) 0 w.listeners sound.ordered has)).0 in
    let bus = bus-secondary p s within h in
    let rest = without_address (primary p) w.listeners in
    record {
      talks = sound.talks;
      ordered = ordered-with (secondary p s) rest bus (ordered-without (primary p) 0 w.listeners sound.ordered);
      awaited = subst (λ (q : Pending). IsAwaited q w.talker (with_address (secondary p s) rest)) (sym is) (Some s, has-with (secondary p s) rest bus);
    }
sound-secondary w s (pending.Talk p) h is sound (t, talker) =
    let within = (parts p t (subst IsTalker talker sound.talks)).0 in
    record {
      talks = bus-secondary p s within h;
      ordered = sound.ordered;
      awaited = subst (λ (q : Pending). IsAwaited q (Some (secondary p s)) w.listeners) (sym is) (Some s, refl);
    }

-- nobody is awaited any more
sound-settled : (w : Wire) → IsTalker w.talker → InOrder w.listeners → IsSound (settled w)
sound-settled w bus ord = record { talks = bus; ordered = ord; awaited = tt }

sound-control : (w : Wire) (t : Bool) → IsTalker w.talker → InOrder w.listeners → IsSound (settled (cond t (record w { incharge = false }) w))
sound-control w true bus ord = record { talks = bus; ordered = ord; awaited = tt }
sound-control w false bus ord = record { talks = bus; ordered = ord; awaited = tt }

sound-command : (w : Wire) (c : Command) → IsBounded c → IsSound w → IsSound (on_command w c)
sound-command w (command.Listen p) h sound = record {
  talks = sound.talks;
  ordered = ordered-with (primary p) w.listeners (bus-primary p h) sound.ordered;
  awaited = (None, has-with (primary p) w.listeners (bus-primary p h));
}
sound-command w (command.Talk p) h sound = record { talks = bus-primary p h; ordered = sound.ordered; awaited = (None, refl) }
sound-command w (command.Secondary s) h sound = sound-secondary w s w.pending h refl sound sound.awaited
sound-command w command.Unlisten h sound = record { talks = sound.talks; ordered = tt; awaited = tt }
sound-command w command.Untalk h sound = record { talks = tt; ordered = sound.ordered; awaited = tt }
sound-command w command.TakeControl h sound = sound-control w (talks_elsewhere w.talker w.own) sound.talks sound.ordered
sound-command w command.NoMeaning h sound = sound
sound-command w command.PollEnable h sound = record { talks = sound.talks; ordered = sound.ordered; awaited = tt }
sound-command w command.PollDisable h sound = record { talks = sound.talks; ordered = sound.ordered; awaited = tt }
sound-command w command.GoToLocal h sound = sound-settled w sound.talks sound.ordered
sound-command w command.SelectedClear h sound = sound-settled w sound.talks sound.ordered
sound-command w command.Trigger h sound = sound-settled w sound.talks sound.ordered
sound-command w command.LocalLockout h sound = sound-settled w sound.talks sound.ordered
sound-command w command.DeviceClear h sound = sound-settled w sound.talks sound.ordered
sound-command w command.OtherPrimary h sound = sound-settled w sound.talks sound.ordered

sound-step : (w : Wire) (t : Transfer) → IsSound w → IsSound (step w t)
sound-step w (Cmd b) sound = sound-command w (command_of b) (bounded (b % 128)) sound
sound-step w (Put b end) sound = sound
sound-step w (Got b end) sound = sound
sound-step w (Ren on) sound = record { talks = sound.talks; ordered = sound.ordered; awaited = sound.awaited }
sound-step w (Atn on) sound = sound
sound-step w Ifc sound = record { talks = tt; ordered = tt; awaited = tt }
sound-step w (Own a) sound = record { talks = sound.talks; ordered = sound.ordered; awaited = sound.awaited }

sound-after : (w : Wire) (ts : List Transfer) → IsSound w → IsSound (wire_after w ts)
sound-after w [] sound = sound
sound-after w (t ∷ ts) sound = sound-after (step w t) ts (sound-step w t sound)

-- ---- the whole

-- the bus behind interface clear, the own address and remote enable
abbrev cleared : Wire → Wire
cleared w = record { talker = None; listeners = []; pending = pending.Nothing; ren = w.ren; incharge = true; own = w.own; polling = false }

restored : (far w : Wire) → IsSound w → w.incharge ≡ true → wire_after far (transfers_of (restoring w)) ≡ w
unfolding restoring
restored far w sound incharge =
    let talker = all-talk (cleared w) w.talker refl sound.talks in
    let with-talker : Wire = talking (cleared w) w.talker talker.0 in
    let listeners = all-listen with-talker 0 w.listeners refl sound.ordered in
    let with-listeners : Wire = listening with-talker w.listeners listeners.0 in
    let last : List Order = awaited_orders w.pending w.talker w.listeners in
    let poll : List Order = order.Command (poll_byte w.polling) ∷ last in
    after-both (cleared w) (talker_orders w.talker) (listener_orders w.listeners ++ poll)
    ∙ ap (λ (u : Wire). wire_after u (transfers_of (listener_orders w.listeners ++ poll))) talker.1
    ∙ after-both with-talker (listener_orders w.listeners) poll
    ∙ ap (λ (u : Wire). wire_after u (transfers_of poll)) listeners.1
    ∙ ap (λ (u : Wire). wire_after u (transfers_of last)) (polled with-listeners w.polling)
    ∙ awaits (record w { incharge = true }) w.pending sound.talks sound.ordered sound.awaited
    ∙ ap (λ (b : Bool). record w { incharge = b }) (sym incharge)

pub restoring-law : RestoringLaw
restoring-law far ts = restored far (wire_after first_wire ts) (sound-after first_wire ts (record { talks = tt; ordered = tt; awaited = tt }))
