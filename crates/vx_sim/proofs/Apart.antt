-- Instruments that aren't in each other's way stay so, and one of them at most is the talker.
use Rattle.std.proofs.Common.{◌≡◌, ℕ, zero, suc, ◌==◌, Bool, true, false, not, cond, ◌&&◌, ◌||◌, List, [], ◌∷◌, ◌++◌, ◌≤◌, length, map, arith, Vec, Option, Some, None, refl, sym, ap, ◌∙◌, subst}
use Rattle.std.specs.Prelude.{is_none}
use Rattle.std.specs.List.{list_any, list_all, filter}
use Rattle.std.specs.Vec.{with_items}
use Rattle.std.proofs.lemmas.Bool.{and_parts, or_parts}
use Rattle.std.proofs.lemmas.List.{with_items_is, map-append}
use Rattle.std.proofs.lemmas.List.Folds.{list_any-append}
use Rattle.vx_488.specs.declared.transfers.Addr.{Addr}
use Rattle.vx_488.specs.declared.wire.Wire.{Wire}
use Rattle.vx_488.specs.Address.{same_secondary, is_bus_address}
use Rattle.vx_488.specs.Flags.{same_address-equal, same_address-refl}
use Rattle.vx_488.specs.Wire.{is_talking}
use Rattle.vx_sim.specs.Occupants.{Occupant, Placed}
use Rattle.vx_sim.specs.Bench.{talks, answers_get, OccupantWhere, BenchWhere}
use Rattle.vx_sim.specs.Attaching.{clashes, holder, AreApart, is_astray, IsInOrder}
use Rattle.vx_sim.specs.Shown.{AtPlace}

-- an instrument that is in no other's way is put behind them
pub apart-push : (bench : List Placed) (p : Placed) → AreApart bench → holder bench p.at ≡ None → AreApart (bench ++ p ∷ [])
apart-push [] p apart free = (refl, tt)
apart-push (q ∷ qs) p apart free = at (clashes q.at p.at) refl free (apart-push qs p apart.1)
  where
    behind : Bool
    behind = list_any (λ r. clashes q.at r.at) (qs ++ p ∷ [])

    joined : (b : Bool) → clashes q.at p.at ≡ b → behind ≡ (false || (b || false))
    joined b e = list_any-append (λ r. clashes q.at r.at) qs (p ∷ []) ∙ ap (λ c. c || (clashes q.at p.at || false)) apart.0 ∙ ap (λ c. false || (c || false)) e

    at : (b : Bool) → clashes q.at p.at ≡ b → cond b (Some q.at) (holder qs p.at) ≡ None → (holder qs p.at ≡ None → AreApart (qs ++ p ∷ [])) → (behind ≡ false) × AreApart (qs ++ p ∷ [])
    at true e h rest = cc
    at false e h rest = (joined false e, rest h)

-- what is so of none isn't so of those that are left
any-filter : (p keep : Placed → Bool) (bench : List Placed) → list_any p bench ≡ false → list_any p (filter keep bench) ≡ false
any-filter p keep [] none = refl
any-filter p keep (q ∷ qs) none = at (keep q) (or_parts (p q) (list_any p qs) none).0 (any-filter p keep qs (or_parts (p q) (list_any p qs) none).1)
  where
    at : (b : Bool) → p q ≡ false → list_any p (filter keep qs) ≡ false → list_any p (cond b (q ∷ filter keep qs) (filter keep qs)) ≡ false
    at true first rest = ap (λ c. c || list_any p (filter keep qs)) first ∙ rest
    at false first rest = rest

-- those that are left stay apart
pub apart-filter : (keep : Placed → Bool) (bench : List Placed) → AreApart bench → AreApart (filter keep bench)
apart-filter keep [] apart = tt
apart-filter keep (q ∷ qs) apart = at (keep q) (any-filter (λ r. clashes q.at r.at) keep qs apart.0) (apart-filter keep qs apart.1)
  where
    at : (b : Bool) → list_any (λ r. clashes q.at r.at) (filter keep qs) ≡ false → AreApart (filter keep qs) → AreApart (cond b (q ∷ filter keep qs) (filter keep qs))
    at true first rest = (first, rest)
    at false first rest = rest

-- a question to the addresses is answered alike when the instruments changed, each at its address
any-changed : (p : Addr → Bool) (reached : Placed → Bool) (Change : Occupant → Occupant → Type 0) (old new : List Placed) → BenchWhere reached Change old new → list_any (λ r. p r.at) new ≡ list_any (λ r. p r.at) old
any-changed p reached Change [] [] h = refl
any-changed p reached Change [] (y ∷ ys) h = absurd h
any-changed p reached Change (x ∷ xs) [] h = absurd h
any-changed p reached Change (x ∷ xs) (y ∷ ys) h =
    ap (λ (a : Addr). p a || list_any (λ r. p r.at) ys) h.0.0 ∙ ap (λ b. p x.at || b) (any-changed p reached Change xs ys h.1)

-- instruments that changed, each at its address, stay apart
pub apart-changed : (reached : Placed → Bool) (Change : Occupant → Occupant → Type 0) (old new : List Placed) → BenchWhere reached Change old new → AreApart old → AreApart new
apart-changed reached Change [] [] h apart = tt
apart-changed reached Change [] (y ∷ ys) h apart = absurd h
apart-changed reached Change (x ∷ xs) [] h apart = absurd h
apart-changed reached Change (x ∷ xs) (y ∷ ys) h apart =
    (ap (λ (a : Addr). list_any (λ r. clashes a r.at) ys) h.0.0 ∙ any-changed (clashes x.at) reached Change xs ys h.1 ∙ apart.0, apart-changed reached Change xs ys h.1 apart.1)

-- an address is in its own way
clashes-refl : (a : Addr) → clashes a a ≡ true
clashes-refl a = at a.s (and_parts (a.p == a.p) (same_secondary a.s a.s) (same_address-refl a))
  where
    at : (s : Option ℕ) → ((a.p == a.p) ≡ true) × (same_secondary s s ≡ true) → ((a.p == a.p) && (is_none s || is_none s || same_secondary s s)) ≡ true
    at None both = ap (λ b. b && true) both.0
    at (Some t) both = ap (λ b. b && same_secondary (Some t) (Some t)) both.0 ∙ both.1

-- two talkers would be in each other's way
both_talk : (t : Option Addr) (a b : Addr) → is_talking t a ≡ true → is_talking t b ≡ true → clashes a b ≡ true
both_talk None a b first second = cc
both_talk (Some t) a b first second =
    ap (λ (c : Addr). clashes a c) (sym (same_address-equal t b second) ∙ same_address-equal t a first) ∙ clashes-refl a

-- beside a talker there is none among those that it isn't in the way of
pub no_other : (w : Wire) (p : Placed) (ps : List Placed) → talks w p ≡ true → list_any (λ r. clashes p.at r.at) ps ≡ false → list_any (talks w) ps ≡ false
no_other w p [] talk apart = refl
no_other w p (r ∷ rs) talk apart =
    at (talks w r) refl (or_parts (clashes p.at r.at) (list_any (λ z. clashes p.at z.at) rs) apart).0 (no_other w p rs talk (or_parts (clashes p.at r.at) (list_any (λ z. clashes p.at z.at) rs) apart).1)
  where
    at : (b : Bool) → talks w r ≡ b → clashes p.at r.at ≡ false → list_any (talks w) rs ≡ false → (talks w r || list_any (talks w) rs) ≡ false
    at true e clear rest = let clash : clashes p.at r.at ≡ true = both_talk w.talker p.at r.at talk e in cc
    at false e clear rest = ap (λ b. b || list_any (talks w) rs) e ∙ rest

-- where nobody talks, nobody changes
still : (w : Wire) (Give : Occupant → Occupant → Type 0) (ps : List Placed) → list_any (talks w) ps ≡ false → BenchWhere (talks w) Give ps ps
still w Give [] quiet = tt
still w Give (p ∷ ps) quiet = at (talks w p) (or_parts (talks w p) (list_any (talks w) ps) quiet).0 (still w Give ps (or_parts (talks w p) (list_any (talks w) ps) quiet).1)
  where
    at : (b : Bool) → b ≡ false → BenchWhere (talks w) Give ps ps → ((p.at ≡ p.at) × OccupantWhere b Give p.occupant p.occupant) × BenchWhere (talks w) Give ps ps
    at true e rest = cc
    at false e rest = ((refl, refl), rest)

abbrev Gave : Wire → (Occupant → Occupant → Type 0) → Placed → Placed → Type 0
Gave w Give p q = (talks w p ≡ true) × (q.at ≡ p.at) × Give p.occupant q.occupant

-- the one that gave is a talker
one_talks : (w : Wire) (Give : Occupant → Occupant → Type 0) (i : ℕ) (old new : List Placed) → AtPlace i (Gave w Give) old new → list_any (talks w) old ≡ true
one_talks w Give zero [] new h = absurd h
one_talks w Give (suc i) [] new h = absurd h
one_talks w Give zero (p ∷ ps) [] h = absurd h
one_talks w Give (suc i) (p ∷ ps) [] h = absurd h
one_talks w Give zero (p ∷ ps) (q ∷ qs) h = ap (λ b. b || list_any (talks w) ps) h.0.0
one_talks w Give (suc i) (p ∷ ps) (q ∷ qs) h = at (talks w p) (one_talks w Give i ps qs h.1)
  where
    at : (b : Bool) → list_any (talks w) ps ≡ true → (b || list_any (talks w) ps) ≡ true
    at true e = refl
    at false e = e

-- The one that gave is the talker, and the others stay.
pub talker_gave : (w : Wire) (Give : Occupant → Occupant → Type 0) (i : ℕ) (old new : List Placed) → AreApart old → AtPlace i (Gave w Give) old new → BenchWhere (talks w) Give old new
talker_gave w Give zero [] new apart h = absurd h
talker_gave w Give (suc i) [] new apart h = absurd h
talker_gave w Give zero (p ∷ ps) [] apart h = absurd h
talker_gave w Give (suc i) (p ∷ ps) [] apart h = absurd h
talker_gave w Give zero (p ∷ ps) (q ∷ qs) apart h = (
  (h.0.1, subst (λ b. OccupantWhere b Give p.occupant q.occupant) (sym h.0.0) h.0.2),
  subst (λ (zs : List Placed). BenchWhere (talks w) Give ps zs) (sym h.1) (still w Give ps (no_other w p ps h.0.0 apart.0)),
)
talker_gave w Give (suc i) (p ∷ ps) (q ∷ qs) apart h =
    (at (talks w p) refl (one_talks w Give i ps qs h.1), talker_gave w Give i ps qs apart.1 h.1)
  where
    at : (b : Bool) → talks w p ≡ b → list_any (talks w) ps ≡ true → (q.at ≡ p.at) × OccupantWhere (talks w p) Give p.occupant q.occupant
    at true e one = let none : list_any (talks w) ps ≡ false = no_other w p ps e apart.0 in cc
    at false e one = (ap (λ (z : Placed). z.at) h.0, subst (λ b. OccupantWhere b Give p.occupant q.occupant) (sym e) (ap (λ (z : Placed). z.occupant) h.0))

-- whoever answers a get is the talker
pub answerer_talks : (w : Wire) (p : Placed) → answers_get w p ≡ true → talks w p ≡ true
answerer_talks w p h = (and_parts (talks w p) _ h).0

-- the addresses of what is shown
pub ats_shown : {X : Type 0} (f : X → Placed) (at : X → Addr) → ((x : X) → (f x).at ≡ at x) → (xs : List X) → map (λ p. p.at) (map f xs) ≡ map at xs
ats_shown f at same [] = refl
ats_shown f at same (x ∷ xs) = ap (λ (a : Addr). a ∷ map (λ p. p.at) (map f xs)) (same x) ∙ ap (λ as'. at x ∷ as') (ats_shown f at same xs)

-- One at an address of the bus that is in no other's way is put behind those that are in order.
pub in-order-push : (bench : List Placed) (p : Placed) → IsInOrder bench → is_bus_address p.at ≡ true → holder bench p.at ≡ None → IsInOrder (bench ++ p ∷ [])
in-order-push bench p order address free =
    (apart-push bench p order.0 free, list_any-append is_astray bench (p ∷ []) ∙ ap (λ b. b || (is_astray p || false)) order.1 ∙ ap (λ b. false || (not b || false)) address)

-- the same of a list that is shown
pub pushed : {X : Type 0} (f : X → Placed) (xs ys : List X) (x : X) (bench : List Placed) → map f xs ≡ bench → ys ≡ xs ++ x ∷ [] → map f ys ≡ bench ++ f x ∷ []
pushed f xs ys x bench view more = ap (map f) more ∙ map-append f xs (x ∷ []) ∙ ap (λ (ps : List Placed). ps ++ f x ∷ []) view

pub pushed-in-order : {X : Type 0} (f : X → Placed) (xs ys : List X) (x : X) (bench : List Placed) → map f xs ≡ bench → ys ≡ xs ++ x ∷ []
    → IsInOrder (map f xs) → is_bus_address (f x).at ≡ true → holder bench (f x).at ≡ None → IsInOrder (map f ys)
pushed-in-order f xs ys x bench view more order address free =
    subst IsInOrder (sym (pushed f xs ys x bench view more)) (in-order-push bench (f x) (subst IsInOrder view order) address free)

-- Those that are left stay in order.
pub in-order-filter : (keep : Placed → Bool) (bench : List Placed) → IsInOrder bench → IsInOrder (filter keep bench)
in-order-filter keep bench order = (apart-filter keep bench order.0, any-filter is_astray keep bench order.1)

-- Instruments that changed, each at its address, stay in order.
in-order-changed : (reached : Placed → Bool) (Change : Occupant → Occupant → Type 0) (old new : List Placed) → BenchWhere reached Change old new → IsInOrder old → IsInOrder new
in-order-changed reached Change old new h order =
    (apart-changed reached Change old new h order.0, any-changed (λ (a : Addr). not (is_bus_address a)) reached Change old new h ∙ order.1)

-- Where nobody stands astray, everybody stands at an address of the bus.
pub all-addresses : (bench : List Placed) → list_any is_astray bench ≡ false → list_all (λ p. is_bus_address p.at) bench ≡ true
all-addresses [] none = refl
all-addresses (p ∷ ps) none = at (is_bus_address p.at) (or_parts (is_astray p) (list_any is_astray ps) none).0 (all-addresses ps (or_parts (is_astray p) (list_any is_astray ps) none).1)
  where
    at : (b : Bool) → not b ≡ false → list_all (λ q. is_bus_address q.at) ps ≡ true → (b && list_all (λ q. is_bus_address q.at) ps) ≡ true
    at true here rest = rest
    at false here rest = cc

-- none is left of those of which it is so of none
none-left : (p : Placed → Bool) (bench : List Placed) → list_any p bench ≡ false → filter p bench ≡ []
none-left p [] none = refl
none-left p (q ∷ qs) none = at (p q) (or_parts (p q) (list_any p qs) none).0 (none-left p qs (or_parts (p q) (list_any p qs) none).1)
  where
    at : (b : Bool) → b ≡ false → filter p qs ≡ [] → cond b (q ∷ filter p qs) (filter p qs) ≡ []
    at true here rest = cc
    at false here rest = rest

-- At most one of those that aren't in each other's way is the talker.
pub one-talker : (bench : List Placed) (w : Wire) → AreApart bench → length (filter (talks w) bench) ≤ 1
one-talker [] w apart = omega arith
one-talker (p ∷ ps) w apart = at (talks w p) refl (one-talker ps w apart.1)
  where
    at : (b : Bool) → talks w p ≡ b → length (filter (talks w) ps) ≤ 1 → length (cond b (p ∷ filter (talks w) ps) (filter (talks w) ps)) ≤ 1
    at true talk rest =
        let none : length (filter (talks w) ps) ≡ 0 = ap length (none-left (talks w) ps (no_other w p ps talk apart.0)) in
        omega arith
    at false talk rest = rest

-- a change of those that a slice held, each at its address, leaves them in order
pub held_in_order : {X Z : Type 0} (f : X → Placed) (reached : Placed → Bool) (Change : Occupant → Occupant → Type 0) (v : Vec X Z) (here ws : List X) → here ≡ v.items → length ws ≡ v.len
    → BenchWhere reached Change (map f here) (map f ws) → IsInOrder (map f v.items) → IsInOrder (map f (with_items v ws).items)
held_in_order f reached Change v here ws held long change order =
    subst (λ (zs : List _). IsInOrder (map f zs)) (sym (with_items_is v ws long))
    (in-order-changed reached Change (map f here) (map f ws) change (subst (λ (zs : List _). IsInOrder (map f zs)) (sym held) order))

-- a change of those that a slice held is one of the bench
pub held_changed : {X Z : Type 0} (f : X → Placed) (reached : Placed → Bool) (Change : Occupant → Occupant → Type 0) (v : Vec X Z) (bench : List Placed) (here ws : List X) → here ≡ v.items → length ws ≡ v.len
    → map f v.items ≡ bench → BenchWhere reached Change (map f here) (map f ws) → BenchWhere reached Change bench (map f (with_items v ws).items)
held_changed f reached Change v bench here ws held long view change =
    subst (λ (zs : List _). BenchWhere reached Change bench (map f zs)) (sym (with_items_is v ws long))
    (subst (λ (ps : List Placed). BenchWhere reached Change ps (map f ws)) (ap (map f) held ∙ view) change)
