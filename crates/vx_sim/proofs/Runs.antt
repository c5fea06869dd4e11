-- Puts one after the other that one listener takes.
use Rattle.std.proofs.Common.{◌≡◌, ℕ, zero, suc, ◌+◌, ◌<◌, ◌≤◌, Bool, true, false, not, cond, ◌&&◌, ◌||◌, List, [], ◌∷◌, ◌++◌, map, length, take, get_or, ◌==◌, Vec, None, refl, sym, ap, ◌∙◌, subst, arith, append_assoc}
use Rattle.std.specs.List.{list_any}
use Rattle.std.specs.Vec.{with_items}
use Rattle.std.proofs.lemmas.Bool.{or_parts}
use Rattle.std.proofs.Math.Seq.{take-length}
use Rattle.std.proofs.lemmas.List.{append-nil, with_items_is}
use Rattle.vx_488.specs.declared.transfers.Addr.{Addr}
use Rattle.vx_488.specs.declared.transfers.Transfer.{Transfer}
use Rattle.vx_488.specs.declared.transfers.Transfer.TheVariants.{Put}
use Rattle.vx_488.specs.declared.wire.Wire.{Wire}
use Rattle.vx_inst.specs.Laws.{takes_byte}
use Rattle.vx_inst.proofs.Laws.Runs.{front-next, front-long}
use Rattle.vx_488.specs.Steps.{Went}
use Rattle.vx_488.specs.Walks.{Walk}
use Rattle.vx_488.specs.Bursts.{ended}
use Rattle.vx_488.specs.Bursts.{PutsSoFar}
use Rattle.vx_488.proofs.Laws.Puts.{length-ended}
use Rattle.vx_sim.specs.Occupants.{Occupant, Placed, seen, TakesByte, TakesPuts}
use Rattle.vx_sim.specs.Bench.{listens, everyone, some_refuses, holds_put, OccupantWhere, BenchWhere, PlaceTakes}
use Rattle.vx_sim.specs.Finding.{indices}
use Rattle.vx_sim.specs.Shown.{AtPlace}
use Rattle.vx_sim.specs.SimState.{SimState, is_next, nearer, after_bytes, Through}
use Rattle.vx_sim.proofs.Finding.{indices-kept, none-found}
use Rattle.vx_sim.proofs.Stepping.{steps-to}

-- ---- an instrument

-- one byte more
pub takes-more : (puts : List Transfer) (b : ℕ) (end : Bool) (old mid new : Occupant) → TakesPuts puts old mid → takes_byte (seen mid) ≡ true → TakesByte b end mid new
    → TakesPuts (puts ++ Put b end ∷ []) old new
takes-more [] b end old mid new far can takes =
    subst (λ (o : Occupant). TakesPuts (Put b end ∷ []) o new) far (can, (new, takes, refl))
takes-more (Put c e ∷ puts) b end old mid new far can takes = (far.0, (far.1.0, far.1.1, takes-more puts b end far.1.0 mid new far.1.2 can takes))
takes-more (_ ∷ puts) b end old mid new far can takes = absurd far

pub takes-next : (end : Bool) (bytes : List ℕ) (n d : ℕ) (last : Bool) (old mid new : Occupant) → n < length bytes → last ≡ (end && (n + 1 == length bytes))
    → TakesPuts (take n (ended Put end bytes)) old mid → takes_byte (seen mid) ≡ true → TakesByte (get_or bytes n d) last mid new
    → TakesPuts (take (n + 1) (ended Put end bytes)) old new
takes-next end bytes n d last old mid new more is far can takes =
    subst (λ (puts : List Transfer). TakesPuts puts old new) (sym (front-next Put end bytes n d last more is))
    (takes-more (take n (ended Put end bytes)) (get_or bytes n d) last old mid new far can takes)

-- ---- a bench on which it alone is a listener

-- only the instrument at this index is a listener
abbrev Sole : Wire → ℕ → List Placed → Type 0
Sole w i [] = ⊥
Sole w zero (p ∷ ps) = (listens w p ≡ true) × (list_any (listens w) ps ≡ false)
Sole w (suc i) (p ∷ ps) = (listens w p ≡ false) × Sole w i ps

-- an index isn't before the first
no-less : {X : Type 0} (p : X → Bool) (n k : ℕ) (ks : List ℕ) (xs : List X) → indices p n xs ≡ k ∷ ks → n ≤ k
no-less p n k ks [] h = cc
no-less p n k ks (x ∷ xs) h = at (p x) h (λ e. no-less p (n + 1) k ks xs e)
  where
    at : (b : Bool) → cond b (n ∷ indices p (n + 1) xs) (indices p (n + 1) xs) ≡ k ∷ ks → (indices p (n + 1) xs ≡ k ∷ ks → n + 1 ≤ k) → n ≤ k
    at true e rest = let same : n ≡ k = cc in omega (arith, same)
    at false e rest = let less : n + 1 ≤ k = rest e in omega (arith, less)

sole : (w : Wire) (n i : ℕ) (ps : List Placed) → indices (listens w) n ps ≡ (n + i) ∷ [] → Sole w i ps
sole w n i [] h = cc
sole w n zero (p ∷ ps) h = at (listens w p) refl h
  where
    at : (b : Bool) → listens w p ≡ b → cond b (n ∷ indices (listens w) (n + 1) ps) (indices (listens w) (n + 1) ps) ≡ (n + 0) ∷ []
        → (listens w p ≡ true) × (list_any (listens w) ps ≡ false)
    at true e h = let rest : indices (listens w) (n + 1) ps ≡ [] = cc in (e, none-found (listens w) (n + 1) ps rest)
    at false e h = let less : n + 1 ≤ n + 0 = no-less (listens w) (n + 1) (n + 0) [] ps h in absurd (omega (arith, less))
sole w n (suc i) (p ∷ ps) h = at (listens w p) refl h (λ e. sole w (n + 1) i ps e)
  where
    at : (b : Bool) → listens w p ≡ b → cond b (n ∷ indices (listens w) (n + 1) ps) (indices (listens w) (n + 1) ps) ≡ (n + suc i) ∷ []
        → (indices (listens w) (n + 1) ps ≡ (n + 1 + i) ∷ [] → Sole w i ps) → (listens w p ≡ false) × Sole w i ps
    at true e h rest = let same : n ≡ n + suc i = cc in absurd (omega (arith, same))
    at false e h rest =
        let one : n + suc i ≡ n + 1 + i = omega arith in
        (e, rest (h ∙ ap (λ k. k ∷ []) one))

pub the-sole : (w : Wire) (i : ℕ) (ps : List Placed) → indices (listens w) 0 ps ≡ i ∷ [] → Sole w i ps
the-sole w i ps h = let same : i ≡ 0 + i = omega arith in sole w 0 i ps (h ∙ ap (λ k. k ∷ []) same)

pub sole-within : (w : Wire) (i : ℕ) (ps : List Placed) → Sole w i ps → i < length ps
sole-within w i [] s = absurd s
sole-within w zero (p ∷ ps) s = omega arith
sole-within w (suc i) (p ∷ ps) s = let less : i < length ps = sole-within w i ps s.1 in omega (arith, less)

-- where nobody listens nobody refuses, and nobody changes
none-refuses : (w : Wire) (ps : List Placed) → list_any (listens w) ps ≡ false → some_refuses w ps ≡ false
none-refuses w [] h = refl
none-refuses w (p ∷ ps) h =
    let parts = or_parts (listens w p) (list_any (listens w) ps) h in
    ap (λ b. (b && not (takes_byte (seen p.occupant))) || some_refuses w ps) parts.0 ∙ none-refuses w ps parts.1

unheard : (w : Wire) (Change : Occupant → Occupant → Type 0) (ps : List Placed) → list_any (listens w) ps ≡ false → BenchWhere (listens w) Change ps ps
unheard w Change [] h = tt
unheard w Change (p ∷ ps) h =
    let parts = or_parts (listens w p) (list_any (listens w) ps) h in
    ((refl, subst (λ b. OccupantWhere b Change p.occupant p.occupant) (sym parts.0) refl), unheard w Change ps parts.1)

-- the first byte that it takes, and what is left
record Onward (w : Wire) (i b : ℕ) (end : Bool) (puts : List Transfer) (old new : List Placed) : Type 0 where
  some : list_any (listens w) old ≡ true
  free : some_refuses w old ≡ false
  next : List Placed
  takes : BenchWhere (listens w) (TakesByte b end) old next
  alone : Sole w i next
  rest : AtPlace i (PlaceTakes puts) next new

onward : (w : Wire) (i b : ℕ) (end : Bool) (puts : List Transfer) (old new : List Placed) → Sole w i old → AtPlace i (PlaceTakes (Put b end ∷ puts)) old new
    → Onward w i b end puts old new
onward w i b end puts [] new s h = absurd s
onward w zero b end puts (p ∷ ps) [] s h = absurd h
onward w (suc i) b end puts (p ∷ ps) [] s h = absurd h
onward w zero b end puts (p ∷ ps) (q ∷ qs) s h = record {
  some = ap (λ c. c || list_any (listens w) ps) s.0;
  free = ap (λ c. (c && not (takes_byte (seen p.occupant))) || some_refuses w ps) s.0
      ∙ ap (λ c. not c || some_refuses w ps) h.0.1.0 ∙ none-refuses w ps s.1;
  next = record { at = p.at; occupant = h.0.1.1.0 } ∷ ps;
  takes = ((refl, subst (λ c. OccupantWhere c (TakesByte b end) p.occupant h.0.1.1.0) (sym s.0) h.0.1.1.1), unheard w (TakesByte b end) ps s.1);
  alone = s;
  rest = ((h.0.0, h.0.1.1.2), h.1);
}
onward w (suc i) b end puts (p ∷ ps) (q ∷ qs) s h =
    let r = onward w i b end puts ps qs s.1 h.1 in
    record {
      some = ap (λ c. c || list_any (listens w) ps) s.0 ∙ r.some;
      free = ap (λ c. (c && not (takes_byte (seen p.occupant))) || some_refuses w ps) s.0 ∙ r.free;
      next = p ∷ r.next;
      takes = ((refl, subst (λ c. OccupantWhere c (TakesByte b end) p.occupant p.occupant) (sym s.0) refl), r.takes);
      alone = (s.0, r.alone);
      rest = (h.0, r.rest);
    }

-- where it took nothing all is as it was
pub same-place : (i : ℕ) (old new : List Placed) → AtPlace i (λ p q. (q.at ≡ p.at) × (q.occupant ≡ p.occupant)) old new → new ≡ old
same-place zero [] new h = absurd h
same-place (suc i) [] new h = absurd h
same-place zero (p ∷ ps) [] h = absurd h
same-place (suc i) (p ∷ ps) [] h = absurd h
same-place zero (p ∷ ps) (q ∷ qs) h =
    ap (λ (a : Addr). record { at = a; occupant = q.occupant } ∷ qs) h.0.0
    ∙ ap (λ (o : Occupant). record { at = p.at; occupant = o } ∷ qs) h.0.1
    ∙ ap (λ (zs : List Placed). p ∷ zs) h.1
same-place (suc i) (p ∷ ps) (q ∷ qs) h = ap (λ (z : Placed). z ∷ qs) h.0 ∙ ap (λ (zs : List Placed). p ∷ zs) (same-place i ps qs h.1)

-- a change that isn't there
pub nowhere-at : (i : ℕ) (Change : Placed → Placed → Type 0) → ((p q : Placed) → Change p q → ⊥) → (old new : List Placed) → AtPlace i Change old new → ⊥
nowhere-at zero Change never [] new h = h
nowhere-at (suc i) Change never [] new h = h
nowhere-at zero Change never (p ∷ ps) [] h = h
nowhere-at (suc i) Change never (p ∷ ps) [] h = h
nowhere-at zero Change never (p ∷ ps) (q ∷ qs) h = never p q h.0
nowhere-at (suc i) Change never (p ∷ ps) (q ∷ qs) h = nowhere-at i Change never ps qs h.1

-- these puts, one after the other, none of which is held
abbrev pub BenchTakes : Wire → List Transfer → List Placed → List Placed → Type 0
BenchTakes w [] old new = new ≡ old
BenchTakes w (Put b end ∷ puts) old new =
    (holds_put w old ≡ false) × ((next : List Placed) × BenchWhere (listens w) (TakesByte b end) old next × BenchTakes w puts next new)
BenchTakes w (_ ∷ puts) old new = ⊥

-- What the only listener takes goes as puts of which none is held.
pub bench-takes : (w : Wire) (i : ℕ) (puts : List Transfer) (old new : List Placed) → Sole w i old → AtPlace i (PlaceTakes puts) old new → BenchTakes w puts old new
bench-takes w i [] old new s h = same-place i old new h
bench-takes w i (Put b end ∷ puts) old new s h =
    let r = onward w i b end puts old new s h in
    (ap (λ c. not c || some_refuses w old) r.some ∙ r.free, (r.next, r.takes, bench-takes w i puts r.next new r.alone r.rest))
bench-takes w i (t ∷ puts) old new s h = absurd (nowhere-at i (PlaceTakes (t ∷ puts)) (λ p q h. h.1) old new h)

-- each stays at its address
all-stay : (ps : List Placed) → BenchWhere everyone (λ o n. Unit {0}) ps ps
all-stay [] = tt
all-stay (p ∷ ps) = ((refl, tt), all-stay ps)

pub stays-at : (i : ℕ) (Change : Occupant → Occupant → Type 0) (old new : List Placed) → AtPlace i (λ p q. (q.at ≡ p.at) × Change p.occupant q.occupant) old new
    → BenchWhere everyone (λ o n. Unit {0}) old new
stays-at zero Change [] new h = absurd h
stays-at (suc i) Change [] new h = absurd h
stays-at zero Change (p ∷ ps) [] h = absurd h
stays-at (suc i) Change (p ∷ ps) [] h = absurd h
stays-at zero Change (p ∷ ps) (q ∷ qs) h =
    ((h.0.0, tt), subst (λ (zs : List Placed). BenchWhere everyone (λ o n. Unit {0}) ps zs) (sym h.1) (all-stay ps))
stays-at (suc i) Change (p ∷ ps) (q ∷ qs) h = ((ap (λ (z : Placed). z.at) h.0, tt), stays-at i Change ps qs h.1)

-- the same of what a slice held
pub held-at : {X Z : Type 0} (f : X → Placed) (i : ℕ) (Change : Placed → Placed → Type 0) (v : Vec X Z) (bench : List Placed) (here ws : List X) → here ≡ v.items → length ws ≡ v.len
    → map f v.items ≡ bench → AtPlace i Change (map f here) (map f ws) → AtPlace i Change bench (map f (with_items v ws).items)
held-at f i Change v bench here ws held long view change =
    subst (λ (zs : List _). AtPlace i Change bench (map f zs)) (sym (with_items_is v ws long))
    (subst (λ (ps : List Placed). AtPlace i Change ps (map f ws)) (ap (map f) held ∙ view) change)

-- whom an address decides stays
pub indices-after : (p : Addr → Bool) (w : Wire) (n : ℕ) (puts : List Transfer) (old new : List Placed) → BenchTakes w puts old new
    → indices (λ r. p r.at) n new ≡ indices (λ r. p r.at) n old
indices-after p w n [] old new h = ap (indices (λ r. p r.at) n) h
indices-after p w n (Put b end ∷ puts) old new h =
    indices-after p w n puts h.1.0 new h.1.2 ∙ indices-kept p (listens w) (TakesByte b end) n old h.1.0 h.1.1
indices-after p w n (_ ∷ puts) old new h = absurd h

-- ---- the bus

-- a bus with so many moves and asks, and these instruments
abbrev with_counts : SimState → List Transfer → ℕ → List Placed → SimState
with_counts s moves asks bench = record s { means = record s.means { moves = moves; asks = asks }; bench = bench }

-- Puts that none of them held are steps of the bus, where no call is told to fail.
pub run-walk : (puts : List Transfer) (old : SimState) (bench : List Placed) → old.failing ≡ None → BenchTakes old.means.wire puts old.bench bench
    → Walk (λ s. s.means) Through old (map Went puts) (after_bytes puts (record old { bench = bench }))
run-walk [] old bench none h =
    let same : old.means.asks + 0 ≡ old.means.asks = omega arith in
    ap (λ (moves : List Transfer). with_counts old moves (old.means.asks + 0) bench) (append-nil old.means.moves)
    ∙ ap (λ n. with_counts old old.means.moves n bench) same
    ∙ ap (λ (ps : List Placed). record old { bench = ps }) h
run-walk (Put b end ∷ puts) old bench none h =
    let next : SimState = after_bytes (Put b end ∷ []) (record old { bench = h.1.0 }) in
    let through : Through old (Went (Put b end)) next = ((ap is_next none, h.0), refl, h.1.1, none ∙ sym (ap nearer none), refl) in
    let W : SimState → Type 0 = λ new. Walk (λ s. s.means) Through next (map Went puts) new in
    let many : old.means.asks + 1 + length puts ≡ old.means.asks + length (Put b end ∷ puts) = omega arith in
    let same : after_bytes puts (record next { bench = bench }) ≡ after_bytes (Put b end ∷ puts) (record old { bench = bench }) =
    ap (λ (moves : List Transfer). with_counts old moves (old.means.asks + 1 + length puts) bench) (append_assoc old.means.moves (Put b end ∷ []) puts)
    ∙ ap (λ n. with_counts old (old.means.moves ++ Put b end ∷ puts) n bench) many in
    (next, steps-to old next (Went (Put b end)) through, subst W same (run-walk puts next bench none h.1.2))
run-walk (_ ∷ puts) old bench none h = absurd h

-- as a burst so far
pub puts-run : (bytes : List ℕ) (end : Bool) (n : ℕ) (old new : SimState) (bench : List Placed) → n ≤ length bytes → old.failing ≡ None
    → BenchTakes old.means.wire (take n (ended Put end bytes)) old.bench bench → new ≡ after_bytes (take n (ended Put end bytes)) (record old { bench = bench })
    → PutsSoFar (λ s. s.means) Through bytes end n old new
puts-run bytes end n old new bench within none takes is =
    let puts : List Transfer = take n (ended Put end bytes) in
    let W : SimState → Type 0 = λ s. Walk (λ s. s.means) Through old (map Went puts) s in
    record {
      walk = subst W (sym is) (run-walk puts old bench none takes);
      asks = ap (λ (s : SimState). s.means.asks) is ∙ ap (λ k. old.means.asks + k) (front-long Put end bytes n within);
      within = within;
    }

-- one more of these bytes is noted
pub noted-next : (made : ℕ → Bool → Transfer) (end : Bool) (bytes : List ℕ) (n d : ℕ) (last : Bool) (old now new : List Transfer) → n < length bytes → last ≡ (end && (n + 1 == length bytes))
    → now ≡ old ++ take n (ended made end bytes) → new ≡ now ++ made (get_or bytes n d) last ∷ [] → new ≡ old ++ take (n + 1) (ended made end bytes)
noted-next made end bytes n d last old now new more is far noted =
    noted ∙ ap (λ (ts : List Transfer). ts ++ made (get_or bytes n d) last ∷ []) far
    ∙ append_assoc old (take n (ended made end bytes)) (made (get_or bytes n d) last ∷ [])
    ∙ ap (λ (ts : List Transfer). old ++ ts) (sym (front-next made end bytes n d last more is))

-- all of them
pub front-all : (made : ℕ → Bool → Transfer) (end : Bool) (bytes : List ℕ) → take (length bytes) (ended made end bytes) ≡ ended made end bytes
front-all made end bytes =
    ap (λ k. take k (ended made end bytes)) (sym (length-ended made end bytes)) ∙ take-length (ended made end bytes)
