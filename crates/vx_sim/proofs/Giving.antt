-- Gets one after the other that the talker answers as a run.
use Rattle.std.proofs.Common.{◌≡◌, ℕ, zero, suc, ◌+◌, ◌<◌, Bool, true, false, not, cond, ◌&&◌, ◌||◌, List, [], ◌∷◌, ◌++◌, map, length, take, Option, None, Some, refl, sym, ap, ◌∙◌, subst, arith, append_assoc}
use Rattle.std.specs.List.{list_any, position, position_or_len}
use Rattle.std.proofs.lemmas.List.{append-nil}
use Rattle.vx_488.specs.declared.transfers.Transfer.{Transfer}
use Rattle.vx_488.specs.declared.transfers.Transfer.TheVariants.{Got}
use Rattle.vx_488.specs.declared.wire.Wire.{Wire}
use Rattle.vx_488.specs.Wire.{is_talking}
use Rattle.vx_inst.specs.Laws.{gives_byte}
use Rattle.vx_488.specs.declared.asks.Ask.TheVariants as ask
use Rattle.vx_488.specs.Bursts.{ended, gets_steps, refused_get, is_end}
use Rattle.vx_488.specs.declared.bursts.Stop.{Stop}
use Rattle.vx_488.specs.declared.bursts.Stop.TheVariants as stop
use Rattle.vx_488.specs.Means.{Means}
use Rattle.vx_488.specs.Steps.{Step, Went, Held, Path}
use Rattle.vx_488.specs.Walks.{Walk}
use Rattle.vx_sim.specs.Attaching.{AreApart}
use Rattle.vx_sim.specs.Occupants.{Placed, seen, GivesBy}
use Rattle.vx_sim.specs.Bench.{talks, answers_get, can_answer, holds_get, BenchWhere, PlaceGives, TalkerGives}
use Rattle.vx_sim.specs.Shown.{AtPlace, TalkerGave}
use Rattle.vx_sim.specs.SimState.{SimState, is_next, nearer, means_after, means_past, after_bytes, Through}
use Rattle.vx_sim.proofs.Apart.{talker_gave, no_other, apart-changed}
use Rattle.vx_sim.proofs.Finding.{position-is, quiet}
use Rattle.vx_sim.proofs.Runs.{same-place, nowhere-at, front-all}
use Rattle.vx_sim.proofs.Stepping.{steps-to}

-- ---- a bench of which it is the talker

-- the first talker is at this index
abbrev First : Wire → ℕ → List Placed → Type 0
First w i [] = ⊥
First w zero (p ∷ ps) = talks w p ≡ true
First w (suc i) (p ∷ ps) = (talks w p ≡ false) × First w i ps

first-by : (w : Wire) (ps : List Placed) (i : ℕ) → position_or_len (talks w) ps ≡ i → i < length ps → First w i ps
first-by w [] i e h = absurd (omega arith)
first-by w (p ∷ ps) zero e h = at (talks w p) refl e
  where
    at : (b : Bool) → talks w p ≡ b → cond (not b) (1 + position_or_len (talks w) ps) 0 ≡ 0 → talks w p ≡ true
    at true is e = is
    at false is e = absurd (omega (arith, e))
first-by w (p ∷ ps) (suc i) e h = at (talks w p) refl e (λ f l. first-by w ps i f l)
  where
    at : (b : Bool) → talks w p ≡ b → cond (not b) (1 + position_or_len (talks w) ps) 0 ≡ suc i → (position_or_len (talks w) ps ≡ i → i < length ps → First w i ps)
        → (talks w p ≡ false) × First w i ps
    at true is e rest = absurd (omega (arith, e))
    at false is e rest = (is, rest (omega (arith, e)) (omega (arith, h)))

first-at : (w : Wire) (ps : List Placed) (i : ℕ) → position (talks w) ps ≡ Some i → First w i ps
first-at w ps i h = let is = position-is (talks w) ps i h in first-by w ps i is.0 is.1

pub talker-within : (w : Wire) (ps : List Placed) (i : ℕ) → position (talks w) ps ≡ Some i → i < length ps
talker-within w ps i h = (position-is (talks w) ps i h).1

-- one step of the instrument at a place
abbrev Gives : Step → Placed → Placed → Type 0
Gives s p q = (q.at ≡ p.at) × GivesBy p.occupant s q.occupant

abbrev Split : ℕ → Step → List Step → List Placed → List Placed → Type 0
Split i s steps old new = (next : List Placed) × AtPlace i (Gives s) old next × AtPlace i (PlaceGives steps) next new

split-at : (i : ℕ) (s : Step) (steps : List Step) (old new : List Placed) → AtPlace i (PlaceGives (s ∷ steps)) old new → Split i s steps old new
split-at zero s steps [] new h = absurd h
split-at (suc i) s steps [] new h = absurd h
split-at zero s steps (p ∷ ps) [] h = absurd h
split-at (suc i) s steps (p ∷ ps) [] h = absurd h
split-at zero s steps (p ∷ ps) (q ∷ qs) h =
    (record { at = p.at; occupant = h.0.1.0 } ∷ ps, ((refl, h.0.1.1), refl), ((h.0.0, h.0.1.2), h.1))
split-at (suc i) s steps (p ∷ ps) (q ∷ qs) h =
    let r = split-at i s steps ps qs h.1 in
    (p ∷ r.0, (refl, r.1), (h.0, r.2))

first-stays : (w : Wire) (i : ℕ) (s : Step) (old new : List Placed) → First w i old → AtPlace i (Gives s) old new → First w i new
first-stays w i s [] new f h = absurd f
first-stays w zero s (p ∷ ps) [] f h = absurd h
first-stays w (suc i) s (p ∷ ps) [] f h = absurd h
first-stays w zero s (p ∷ ps) (q ∷ qs) f h = ap (λ a. is_talking w.talker a) h.0.0 ∙ f
first-stays w (suc i) s (p ∷ ps) (q ∷ qs) f h = (ap (talks w) h.0 ∙ f.0, first-stays w i s ps qs f.1 h.1)

-- it gives as the talker of this wire does
gave-at : (w : Wire) (i b : ℕ) (end : Bool) (old new : List Placed) → w.polling ≡ false → First w i old → AtPlace i (Gives (Went (Got b end))) old new
    → AtPlace i (TalkerGave w (record { value = b; end = end })) old new
gave-at w i b end [] new plain f h = absurd f
gave-at w zero b end (p ∷ ps) [] plain f h = absurd h
gave-at w (suc i) b end (p ∷ ps) [] plain f h = absurd h
gave-at w zero b end (p ∷ ps) (q ∷ qs) plain f h =
    ((f, h.0.0, subst (λ c. TalkerGives c (record { value = b; end = end }) p.occupant q.occupant) (sym plain) h.0.1.1), h.1)
gave-at w (suc i) b end (p ∷ ps) (q ∷ qs) plain f h = (h.0, gave-at w i b end ps qs plain f.1 h.1)

-- so a get isn't held
answered : (w : Wire) (i b : ℕ) (end : Bool) (old new : List Placed) → w.polling ≡ false → First w i old → AtPlace i (Gives (Went (Got b end))) old new
    → list_any (answers_get w) old ≡ true
answered w i b end [] new plain f h = absurd f
answered w zero b end (p ∷ ps) [] plain f h = absurd h
answered w (suc i) b end (p ∷ ps) [] plain f h = absurd h
answered w zero b end (p ∷ ps) (q ∷ qs) plain f h =
    ap (λ c. (c && can_answer w p) || list_any (answers_get w) ps) f
    ∙ ap (λ c. (c || gives_byte (seen p.occupant)) || list_any (answers_get w) ps) plain
    ∙ ap (λ c. c || list_any (answers_get w) ps) h.0.1.0
answered w (suc i) b end (p ∷ ps) (q ∷ qs) plain f h =
    ap (λ c. (c && can_answer w p) || list_any (answers_get w) ps) f.0 ∙ answered w i b end ps qs plain f.1 h.1

-- and where it has none to give, it is
silent : (w : Wire) (i : ℕ) (old new : List Placed) → w.polling ≡ false → First w i old → AreApart old → AtPlace i (Gives (Held ask.Get)) old new
    → list_any (answers_get w) old ≡ false
silent w i [] new plain f apart h = absurd f
silent w zero (p ∷ ps) [] plain f apart h = absurd h
silent w (suc i) (p ∷ ps) [] plain f apart h = absurd h
silent w zero (p ∷ ps) (q ∷ qs) plain f apart h =
    ap (λ c. (c && can_answer w p) || list_any (answers_get w) ps) f
    ∙ ap (λ c. (c || gives_byte (seen p.occupant)) || list_any (answers_get w) ps) plain
    ∙ ap (λ c. c || list_any (answers_get w) ps) h.0.1.0
    ∙ quiet w ps (no_other w p ps f apart.0)
silent w (suc i) (p ∷ ps) (q ∷ qs) plain f apart h =
    ap (λ c. (c && can_answer w p) || list_any (answers_get w) ps) f.0 ∙ silent w i ps qs plain f.1 apart.1 h.1

unmoved : (i : ℕ) (old new : List Placed) → AtPlace i (Gives (Held ask.Get)) old new → AtPlace i (λ p q. (q.at ≡ p.at) × (q.occupant ≡ p.occupant)) old new
unmoved zero [] new h = h
unmoved (suc i) [] new h = h
unmoved zero (p ∷ ps) [] h = h
unmoved (suc i) (p ∷ ps) [] h = h
unmoved zero (p ∷ ps) (q ∷ qs) h = ((h.0.0, h.0.1.1), h.1)
unmoved (suc i) (p ∷ ps) (q ∷ qs) h = (h.0, unmoved i ps qs h.1)

-- a get on a bench: it goes, or it is held
abbrev pub BenchGets : Wire → List Placed → Step → List Placed → Type 0
BenchGets w old (Went (Got b end)) new =
    (holds_get w old ≡ false) × BenchWhere (talks w) (TalkerGives w.polling (record { value = b; end = end })) old new
BenchGets w old (Held ask.Get) new = (holds_get w old ≡ true) × (new ≡ old)
BenchGets w old _ new = ⊥

by-first : (w : Wire) (i : ℕ) (steps : List Step) (old new : List Placed) → w.polling ≡ false → First w i old → AreApart old → AtPlace i (PlaceGives steps) old new
    → Path (BenchGets w) old steps new
by-first w i [] old new plain f apart h = same-place i old new h
by-first w i (Went (Got b end) ∷ steps) old new plain f apart h =
    let Give = TalkerGives w.polling (record { value = b; end = end }) in
    let r = split-at i (Went (Got b end)) steps old new h in
    let gave : BenchWhere (talks w) Give old r.0 = talker_gave w Give i old r.0 apart (gave-at w i b end old r.0 plain f r.1) in (
      r.0,
      (ap not (answered w i b end old r.0 plain f r.1), gave),
      by-first w i steps r.0 new plain (first-stays w i (Went (Got b end)) old r.0 f r.1) (apart-changed (talks w) Give old r.0 gave apart) r.2,
    )
by-first w i (Held ask.Get ∷ steps) old new plain f apart h =
    let r = split-at i (Held ask.Get) steps old new h in
    let same : r.0 ≡ old = same-place i old r.0 (unmoved i old r.0 r.1) in (
      r.0,
      (ap not (silent w i old r.0 plain f apart r.1), same),
      by-first w i steps r.0 new plain (first-stays w i (Held ask.Get) old r.0 f r.1) (subst AreApart (sym same) apart) r.2,
    )
by-first w i (s ∷ steps) old new plain f apart h =
    let r = split-at i s steps old new h in
    absurd (nowhere-at i (Gives s) (λ p q h. h.1) old r.0 r.1)

-- What the talker gives comes as gets of the bench.
pub bench-gives : (w : Wire) (i : ℕ) (steps : List Step) (old new : List Placed) → w.polling ≡ false → position (talks w) old ≡ Some i → AreApart old
    → AtPlace i (PlaceGives steps) old new → Path (BenchGets w) old steps new
bench-gives w i steps old new plain first apart h = by-first w i steps old new plain (first-at w old i first) apart h

-- ---- the bus

-- These are steps of the bus, where no call is told to fail.
pub gets-walk : (steps : List Step) (old : SimState) (bench : List Placed) → old.failing ≡ None → Path (BenchGets old.means.wire) old.bench steps bench
    → Walk (λ s. s.means) Through old steps (record old { means = means_past old.means steps; bench = bench })
gets-walk [] old bench none h = ap (λ (ps : List Placed). record old { bench = ps }) h
gets-walk (Went (Got b end) ∷ steps) old bench none h =
    let next : SimState = record old { means = means_after old.means (Went (Got b end)); bench = h.0 } in
    let through : Through old (Went (Got b end)) next = ((ap is_next none, h.1.0), refl, h.1.1, none ∙ sym (ap nearer none), refl) in
    (next, steps-to old next (Went (Got b end)) through, gets-walk steps next bench none h.2)
gets-walk (Held ask.Get ∷ steps) old bench none h =
    let next : SimState = record old { means = means_after old.means (Held ask.Get); bench = h.0 } in
    let through : Through old (Held ask.Get) next = ((ap is_next none, h.1.0), refl, h.1.1, none ∙ sym (ap nearer none), refl) in
    (next, steps-to old next (Held ask.Get) through, gets-walk steps next bench none h.2)
gets-walk (s ∷ steps) old bench none h = absurd h.1

-- what the bus means behind bytes that came
pub means-gots : (end : Bool) (bytes : List ℕ) (m : Means) (rest : List Step)
    → means_past m (map Went (ended Got end bytes) ++ rest) ≡ means_past (record m { moves = m.moves ++ ended Got end bytes; asks = m.asks + length (ended Got end bytes) }) rest
means-gots end [] m rest =
    let same : m.asks ≡ m.asks + 0 = omega arith in
    ap (λ (moves : List Transfer). means_past (record m { moves = moves; asks = m.asks }) rest) (sym (append-nil m.moves))
    ∙ ap (λ n. means_past (record m { moves = m.moves ++ []; asks = n }) rest) same
means-gots end (b ∷ []) m rest = refl
means-gots end (b ∷ c ∷ bs) m rest =
    let ts = ended Got end (c ∷ bs) in
    let many : m.asks + 1 + length ts ≡ m.asks + length (Got b false ∷ ts) = omega arith in
    means-gots end (c ∷ bs) (means_after m (Went (Got b false))) rest
    ∙ ap (λ (moves : List Transfer). means_past (record m { moves = moves; asks = m.asks + 1 + length ts }) rest) (append_assoc m.moves (Got b false ∷ []) ts)
    ∙ ap (λ n. means_past (record m { moves = m.moves ++ Got b false ∷ ts; asks = n }) rest) many

-- as many as came are all of them
pub all-came : (end : Bool) (bytes : List ℕ) (old now : SimState) → now ≡ after_bytes (take (length bytes) (ended Got end bytes)) old → now ≡ after_bytes (ended Got end bytes) old
all-came end bytes old now is = is ∙ ap (λ (ts : List Transfer). after_bytes ts old) (front-all Got end bytes)

-- bytes that came are noted, and then a burst stopped so
pub gots-noted : (bytes : List ℕ) (why : Stop) (old now : SimState) → now ≡ after_bytes (ended Got (is_end why) bytes) old → refused_get why ≡ []
    → now ≡ record old { means = means_past old.means (gets_steps bytes why) }
gots-noted bytes why old now is none =
    is ∙ ap (λ (m : Means). record old { means = m }) (sym (means-gots (is_end why) bytes old.means []))
    ∙ ap (λ (rest : List Step). record old { means = means_past old.means (map Went (ended Got (is_end why) bytes) ++ rest) }) (sym none)

-- or the next was held
pub gots-held : (bytes : List ℕ) (old now new : SimState) → now ≡ after_bytes (ended Got false bytes) old → old.failing ≡ None
    → new ≡ record now { means = means_after now.means (Held ask.Get); failing = nearer now.failing }
    → new ≡ record old { means = means_past old.means (gets_steps bytes stop.Held) }
gots-held bytes old now new is none held =
    let further : SimState → SimState = λ s. record s { means = means_after s.means (Held ask.Get); failing = nearer s.failing } in
    held ∙ ap further is
    ∙ ap (λ (failing : Option ℕ). record (further (after_bytes (ended Got false bytes) old)) { failing = failing }) (ap nearer none ∙ sym none)
    ∙ ap (λ (m : Means). record old { means = m }) (sym (means-gots false bytes old.means (Held ask.Get ∷ [])))
