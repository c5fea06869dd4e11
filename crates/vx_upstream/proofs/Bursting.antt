-- Bursts of data bytes, told step by step.
use Rattle.std.proofs.Common.{◌≡◌, ℕ, zero, suc, ◌+◌, ◌<◌, ◌≤◌, Bool, false, ◌&&◌, ◌==◌, List, [], ◌∷◌, ◌++◌, map, length, take, drop, get_or, refl, sym, ap, ◌∙◌, subst, arith, inl, inr}
use Rattle.std.proofs.lemmas.Bool.{cases_lt}
use Rattle.std.proofs.lemmas.List.{map-append, append-nil}
use Rattle.vx_488.specs.declared.transfers.Transfer.{Transfer}
use Rattle.vx_488.specs.declared.transfers.Transfer.TheVariants.{Put, Got}
use Rattle.vx_488.specs.Means.{Means}
use Rattle.vx_488.specs.Steps.{Step, Went, Held, Failed, Told, Cut, move_step, get_step}
use Rattle.vx_488.specs.Walks.{StepsTo, Walk}
use Rattle.vx_488.specs.Bursts.{ended, puts_steps, gets_steps, refused_put, refused_get, is_end, StopsAt}
use Rattle.vx_488.proofs.Laws.Puts.{ended-at, take-next, length-ended}
use Rattle.vx_488.specs.declared.asks.Ask.TheVariants as ask
use Rattle.vx_488.specs.declared.asks.Move.{Move}
use Rattle.vx_488.specs.declared.asks.Move.TheVariants as answer
use Rattle.vx_488.specs.declared.bursts.Many.{Many}
use Rattle.vx_488.specs.declared.bursts.ManyGot.{ManyGot}
use Rattle.vx_488.specs.declared.bursts.Stop.{Stop}
use Rattle.vx_488.specs.declared.bursts.Stop.TheVariants as stop
use Rattle.std.specs.Prelude.{slice_index, Option, None}
use Rattle.std.proofs.Math.Seq.{take-length}
use Rattle.vx_client.specs.State.{ClientState}
use Rattle.vx_upstream.specs.UpstreamState.{UpstreamState, Kept, IsHere, IsAway, after, past}
use Rattle.vx_upstream.specs.Answering.{got_one}
use Rattle.vx_upstream.specs.Sending.{LinkWords, Wrote, ReadMany}
use Rattle.vx_upstream.specs.Stepping.{Comes, Through}

-- ---- what a bus means after steps

-- after two lists of steps
pub past-append : (m : Kept) (xs ys : List Step) → past m (xs ++ ys) ≡ past (past m xs) ys
past-append m [] ys = refl
past-append m (x ∷ xs) ys = past-append (after m x) xs ys

-- ---- data bytes alone

-- a step that moved a data byte, or was to
abbrev pub IsByteStep : Step → Type 0
IsByteStep (Went (Put b end)) = Unit {0}
IsByteStep (Went (Got b end)) = Unit {0}
IsByteStep (Held (ask.Put b end)) = Unit {0}
IsByteStep (Held ask.Get) = Unit {0}
IsByteStep (Failed (ask.Put b end)) = Unit {0}
IsByteStep (Failed ask.Get) = Unit {0}
IsByteStep _ = ⊥

abbrev pub AreByteSteps : List Step → Type 0
AreByteSteps [] = Unit {0}
AreByteSteps (s ∷ steps) = IsByteStep s × AreByteSteps steps

-- these are puts
abbrev ArePutTransfers : List Transfer → Type 0
ArePutTransfers [] = Unit {0}
ArePutTransfers (Put b end ∷ ts) = ArePutTransfers ts
ArePutTransfers (_ ∷ ts) = ⊥

-- the steps of a burst of puts are such, and so are those of a burst of gets
ended-bytes : (end : Bool) (bytes : List ℕ) → ArePutTransfers (ended Put end bytes)
ended-bytes end [] = tt
ended-bytes end (b ∷ []) = tt
ended-bytes end (b ∷ c ∷ bs) = ended-bytes end (c ∷ bs)

take-bytes : (n : ℕ) (ts : List Transfer) → ArePutTransfers ts → ArePutTransfers (take n ts)
take-bytes zero ts h = tt
take-bytes (suc n) [] h = tt
take-bytes (suc n) (Put b end ∷ ts) h = take-bytes n ts h
take-bytes (suc n) (_ ∷ ts) h = absurd h

drop-bytes : (n : ℕ) (ts : List Transfer) → ArePutTransfers ts → ArePutTransfers (drop n ts)
drop-bytes zero ts h = h
drop-bytes (suc n) [] h = tt
drop-bytes (suc n) (Put b end ∷ ts) h = drop-bytes n ts h
drop-bytes (suc n) (_ ∷ ts) h = absurd h

refused-puts : (how : Move) (ts : List Transfer) → ArePutTransfers ts → AreByteSteps (refused_put how ts)
refused-puts answer.Went ts h = tt
refused-puts answer.Held [] h = tt
refused-puts answer.Held (Put b end ∷ ts) h = (tt, tt)
refused-puts answer.Held (_ ∷ ts) h = absurd h
refused-puts answer.Failed [] h = tt
refused-puts answer.Failed (Put b end ∷ ts) h = (tt, tt)
refused-puts answer.Failed (_ ∷ ts) h = absurd h

went-puts : (ts : List Transfer) (steps : List Step) → ArePutTransfers ts → AreByteSteps steps → AreByteSteps (map Went ts ++ steps)
went-puts [] steps h rest = rest
went-puts (Put b end ∷ ts) steps h rest = (tt, went-puts ts steps h rest)
went-puts (_ ∷ ts) steps h rest = absurd h

puts-are : (bytes : List ℕ) (end : Bool) (m : Many) → AreByteSteps (puts_steps bytes end m)
puts-are bytes end m =
    went-puts (take m.moved (ended Put end bytes)) (refused_put m.last (drop m.moved (ended Put end bytes)))
    (take-bytes m.moved (ended Put end bytes) (ended-bytes end bytes))
    (refused-puts m.last (drop m.moved (ended Put end bytes)) (drop-bytes m.moved (ended Put end bytes) (ended-bytes end bytes)))

gets-are-ended : (end : Bool) (bytes : List ℕ) (steps : List Step) → AreByteSteps steps → AreByteSteps (map Went (ended Got end bytes) ++ steps)
gets-are-ended end [] steps h = h
gets-are-ended end (b ∷ []) steps h = (tt, h)
gets-are-ended end (b ∷ c ∷ bs) steps h = (tt, gets-are-ended end (c ∷ bs) steps h)

refused-gets : (why : Stop) → AreByteSteps (refused_get why)
refused-gets stop.Full = tt
refused-gets stop.End = tt
refused-gets stop.Char = tt
refused-gets stop.Held = (tt, tt)
refused-gets stop.Failed = (tt, tt)

gets-are : (bytes : List ℕ) (why : Stop) → AreByteSteps (gets_steps bytes why)
gets-are bytes why = gets-are-ended (is_end why) bytes (refused_get why) (refused-gets why)

-- ---- a burst that was made by one call

module _ {L : Type 0} (t : LinkWords L) (old : UpstreamState L) (client : ClientState L) where
  -- the bus behind the call, which means this, and of whose steps these are due
  abbrev amid : Kept → List Step → UpstreamState L
  amid m due = record old { client = client; kept = m; due = due }

  abbrev Goes : UpstreamState L → List Step → UpstreamState L → Type 0
  Goes a steps b = Walk (λ (s : UpstreamState L). s.kept.means) (λ (o : UpstreamState L) s n. Through t o s n) a steps b

  -- a step that was due is told
  told-step : (m : Kept) (s : Step) (due : List Step) → IsByteStep s
      → StepsTo (λ (s : UpstreamState L). s.kept.means) (λ (o : UpstreamState L) s n. Through t o s n) (amid m (s ∷ due)) s (amid (after m s) due)
  told-step m (Went (Put b end)) due h = (refl, (refl, refl, ((refl, refl, refl, refl), inl (refl, refl))))
  told-step m (Went (Got b end)) due h = (refl, (refl, refl, ((refl, refl, refl, refl), inl (refl, refl))))
  told-step m (Went _) due h = absurd h
  told-step m (Held (ask.Put b end)) due h = (refl, (refl, refl, ((refl, refl, refl, refl), inl (refl, refl))))
  told-step m (Held ask.Get) due h = (refl, (refl, refl, ((refl, refl, refl, refl), inl (refl, refl))))
  told-step m (Held _) due h = absurd h
  told-step m (Failed (ask.Put b end)) due h = (refl, (refl, refl, ((refl, refl, refl, refl), inl (inl (refl, refl)))))
  told-step m (Failed ask.Get) due h = (refl, (refl, refl, ((refl, refl, refl, refl), inl (inl (refl, refl)))))
  told-step m (Failed _) due h = absurd h
  told-step m (Told now) due h = absurd h
  told-step m Cut due h = absurd h

  -- and all that are due are
  told-walk : (m : Kept) (steps : List Step) → AreByteSteps steps → Goes (amid m steps) steps (amid (past m steps) [])
  told-walk m [] h = refl
  told-walk m (s ∷ steps) h = (amid (after m s) steps, told-step m s steps h.0, told-walk (after m s) steps h.1)

  module _ (all : List Step) (comes : (kept : Kept) (due : List Step) → Comes t all old (amid kept due)) (free : old.due ≡ []) (here : IsHere old) where
    -- the call came to the first step and those that are due behind it
    begun : (s : Step) (due : List Step) → s ∷ due ≡ all → Comes t (s ∷ due) old (amid (after old.kept s) due)
    begun s due is = subst (λ (ss : List Step). Comes t ss old (amid (after old.kept s) due)) (sym is) (comes (after old.kept s) due)

    -- the call is made for the first step
    first-step : (s : Step) (due : List Step) → IsByteStep s → s ∷ due ≡ all
        → StepsTo (λ (s : UpstreamState L). s.kept.means) (λ (o : UpstreamState L) s n. Through t o s n) old s (amid (after old.kept s) due)
    first-step (Went (Put b e)) due h is = (refl, (refl, refl, ((refl, refl, refl, refl), inr (free, here, begun (Went (Put b e)) due is))))
    first-step (Went (Got b e)) due h is = (refl, (refl, refl, ((refl, refl, refl, refl), inr (free, here, begun (Went (Got b e)) due is))))
    first-step (Went _) due h is = absurd h
    first-step (Held (ask.Put b e)) due h is = (refl, (refl, refl, ((refl, refl, refl, refl), inr (free, here, begun (Held (ask.Put b e)) due is))))
    first-step (Held ask.Get) due h is = (refl, (refl, refl, ((refl, refl, refl, refl), inr (free, here, begun (Held ask.Get) due is))))
    first-step (Held _) due h is = absurd h
    first-step (Failed (ask.Put b e)) due h is = (refl, (refl, refl, ((refl, refl, refl, refl), inl (inr (free, here, begun (Failed (ask.Put b e)) due is)))))
    first-step (Failed ask.Get) due h is = (refl, (refl, refl, ((refl, refl, refl, refl), inl (inr (free, here, begun (Failed ask.Get) due is)))))
    first-step (Failed _) due h is = absurd h
    first-step (Told now) due h is = absurd h
    first-step Cut due h is = absurd h

    -- and then the others are told
    some-walk : (steps : List Step) → AreByteSteps steps → 0 < length steps → steps ≡ all → Goes old steps (amid (past old.kept steps) [])
    some-walk [] h some is = absurd (omega (arith, some))
    some-walk (s ∷ steps) h some is = (amid (after old.kept s) steps, first-step s steps h.0 is, told-walk (after old.kept s) steps h.1)

    -- the steps that one call came to
    call-walk : AreByteSteps all → 0 < length all → (made new : UpstreamState L) → made ≡ record old { client = client } → new ≡ record made { kept = past made.kept all } → Goes old all new
    call-walk are some made new is said =
        let same : new ≡ amid (past old.kept all) [] =
        said ∙ ap (λ (w : UpstreamState L). record w { kept = past w.kept all }) is
        ∙ ap (λ (d : List Step). record old { client = client; kept = past old.kept all; due = d }) free in
        subst (λ (n : UpstreamState L). Goes old all n) (sym same) (some-walk all are some refl)

  -- a burst of puts
  pub piece-walk : (bytes : List ℕ) (end : Bool) (m : Many) (made : UpstreamState L) → made ≡ record old { client = client } → old.due ≡ [] → IsHere old → Wrote t bytes end m old made
      → 0 < length (puts_steps bytes end m) → (new : UpstreamState L) → new ≡ record made { kept = past made.kept (puts_steps bytes end m) } → Goes old (puts_steps bytes end m) new
  piece-walk bytes end m made is free here wrote some new said =
      call-walk (puts_steps bytes end m)
      (λ kept due. inl (bytes, end, m, subst (λ (w : UpstreamState L). Wrote t bytes end m old (record old { client = w.client; kept = kept; due = due })) is wrote, refl))
      free here (puts-are bytes end m) some made new is said

  -- a burst of gets
  pub gets-walk : (room : ℕ) (char : Option ℕ) (bytes : List ℕ) (m : ManyGot) (made : UpstreamState L) → made ≡ record old { client = client } → old.due ≡ [] → IsHere old → ReadMany t room char bytes m old made
      → 0 < length (gets_steps bytes m.stop) → (new : UpstreamState L) → new ≡ record made { kept = past made.kept (gets_steps bytes m.stop) } → Goes old (gets_steps bytes m.stop) new
  gets-walk room char bytes m made is free here read some new said =
      call-walk (gets_steps bytes m.stop)
      (λ kept due. inr (room, char, bytes, m, subst (λ (w : UpstreamState L). ReadMany t room char bytes m old (record old { client = w.client; kept = kept; due = due })) is read, refl))
      free here (gets-are bytes m.stop) some made new is said

-- ---- a burst of a bus that is away

module _ {L : Type 0} (t : LinkWords L) (old new : UpstreamState L) (away : IsAway old) (free : old.due ≡ []) where
  -- the first put failed, and nothing was sent
  pub idle-puts : (bytes : List ℕ) (end : Bool) → 0 < length bytes
      → new ≡ record old { kept = past old.kept (puts_steps bytes end (record { moved = 0; last = answer.Failed })) }
      → Walk (λ (s : UpstreamState L). s.kept.means) (λ (o : UpstreamState L) s n. Through t o s n) old (puts_steps bytes end (record { moved = 0; last = answer.Failed })) new
  idle-puts [] end some is = absurd (omega (arith, some))
  idle-puts (b ∷ []) end some is =
      (record old { kept = after old.kept (Failed (ask.Put b end)) }, (refl, (refl, refl, ((refl, refl, refl, refl), inr (free, free, away, refl)))), is)
  idle-puts (b ∷ c ∷ bs) end some is =
      (record old { kept = after old.kept (Failed (ask.Put b false)) }, (refl, (refl, refl, ((refl, refl, refl, refl), inr (free, free, away, refl)))), is)

  -- so did the first get
  pub idle-gets : new ≡ record old { kept = past old.kept (gets_steps [] stop.Failed) }
      → Walk (λ (s : UpstreamState L). s.kept.means) (λ (o : UpstreamState L) s n. Through t o s n) old (gets_steps [] stop.Failed) new
  idle-gets is =
      (record old { kept = after old.kept (Failed ask.Get) }, (refl, (refl, refl, ((refl, refl, refl, refl), inr (free, free, away, refl)))), is)

-- ---- what is told of a burst

-- one more put went
pub told-next : (make : ℕ → Bool → Transfer) (end : Bool) (bytes : List ℕ) (n d : ℕ) (last : Bool) (m : Kept) → n < length bytes → last ≡ (end && (n + 1 == length bytes))
    → after (past m (map Went (take n (ended make end bytes)))) (Went (make (get_or bytes n d) last)) ≡ past m (map Went (take (n + 1) (ended make end bytes)))
told-next make end bytes n d last m more is =
    let next : Transfer = make (get_or bytes n d) last in
    let front : List Transfer = take n (ended make end bytes) in
    let made : take (n + 1) (ended make end bytes) ≡ front ++ next ∷ [] =
    take-next (ended make end bytes) n next (drop (n + 1) (ended make end bytes))
    (ended-at make end bytes n d more ∙ ap (λ e. make (get_or bytes n d) e ∷ drop (n + 1) (ended make end bytes)) (sym is)) in
    sym (ap (λ (ts : List Transfer). past m (map Went ts)) made
    ∙ ap (past m) (map-append Went front (next ∷ []))
    ∙ past-append m (map Went front) (Went next ∷ []))

-- what a burst came to, by its parts
many-is : (m : Many) (n : ℕ) (how : Move) → n ≡ m.moved → how ≡ m.last → m ≡ record { moved = n; last = how }
many-is m n how en eh = sym (ap (λ (k : ℕ). record { moved = k; last = how }) en ∙ ap (λ (h : Move). record { moved = m.moved; last = h }) eh)

-- the step of the put that didn't go
refused-one : (how : Move) → ¬ (how ≡ answer.Went) → (t : Transfer) (ts : List Transfer) → move_step t how ∷ [] ≡ refused_put how (t ∷ ts)
refused-one answer.Went isnt t ts = absurd (isnt refl)
refused-one answer.Held isnt t ts = refl
refused-one answer.Failed isnt t ts = refl

-- the last one didn't go
pub told-last : (end : Bool) (bytes : List ℕ) (n d : ℕ) (kept : Kept) (how : Move) (m : Many) → n < length bytes → ¬ (how ≡ answer.Went) → n ≡ m.moved → how ≡ m.last
    → after (past kept (map Went (take n (ended Put end bytes)))) (move_step (Put (get_or bytes n d) (end && (n + 1 == length bytes))) how) ≡ past kept (puts_steps bytes end m)
told-last end bytes n d kept how m more isnt en eh =
    let next : Transfer = Put (get_or bytes n d) (end && (n + 1 == length bytes)) in
    let front : List Transfer = take n (ended Put end bytes) in
    let rest : List Transfer = drop (n + 1) (ended Put end bytes) in
    sym (ap (λ (k : Many). past kept (puts_steps bytes end k)) (many-is m n how en eh)
    ∙ ap (λ (ts : List Transfer). past kept (map Went front ++ refused_put how ts)) (ended-at Put end bytes n d more)
    ∙ ap (λ (ss : List Step). past kept (map Went front ++ ss)) (sym (refused-one how isnt next rest))
    ∙ past-append kept (map Went front) (move_step next how ∷ []))

-- all went
pub told-all : (end : Bool) (bytes : List ℕ) (n : ℕ) (kept : Kept) (m : Many) → n ≡ m.moved → answer.Went ≡ m.last
    → past kept (map Went (take n (ended Put end bytes))) ≡ past kept (puts_steps bytes end m)
told-all end bytes n kept m en eh =
    ap (past kept) (sym (append-nil (map Went (take n (ended Put end bytes)))))
    ∙ sym (ap (λ (k : Many). past kept (puts_steps bytes end k)) (many-is m n answer.Went en eh))

-- one that stopped early has a byte left
pub beside : (how : Move) (moved len n : ℕ) → moved ≤ len → (moved ≡ len → how ≡ answer.Went) → n ≡ moved → ¬ (how ≡ answer.Went) → n < len
beside how moved len n within from at isnt =
    elim (cases_lt n len) [ inl less ↦ less | inr le ↦ let same : moved ≡ len = omega (arith, le, at, within) in absurd (isnt (from same)) ]

-- ---- a burst has a step

-- one of these went, or the first didn't
some-of : (n : ℕ) (how : Move) (t : Transfer) (ts : List Transfer) → (n ≡ 0 → ¬ (how ≡ answer.Went)) → 0 < length (map Went (take n (t ∷ ts)) ++ refused_put how (drop n (t ∷ ts)))
some-of zero answer.Went t ts isnt = absurd (isnt refl refl)
some-of zero answer.Held t ts isnt = omega arith
some-of zero answer.Failed t ts isnt = omega arith
some-of (suc n) how t ts isnt = omega arith

-- so of these bytes as puts
some-ended : (n : ℕ) (how : Move) (end : Bool) (bytes : List ℕ) → 0 < length bytes → (n ≡ 0 → ¬ (how ≡ answer.Went))
    → 0 < length (map Went (take n (ended Put end bytes)) ++ refused_put how (drop n (ended Put end bytes)))
some-ended n how end [] some isnt = absurd (omega (arith, some))
some-ended n how end (b ∷ []) some isnt = some-of n how (Put b end) [] isnt
some-ended n how end (b ∷ c ∷ bs) some isnt = some-of n how (Put b false) (ended Put end (c ∷ bs)) isnt

-- a burst of puts has a step
pub some-steps : (bytes : List ℕ) (end : Bool) (m : Many) → 0 < length bytes → (m.last ≡ answer.Went → m.moved ≡ length bytes) → 0 < length (puts_steps bytes end m)
some-steps bytes end m some full = some-ended m.moved m.last end bytes some (λ none went. let all = full went in absurd (omega (arith, none, all, some)))

-- ---- a burst of one

-- the steps of a burst of one put
one-step : (b n : ℕ) (end : Bool) (how : Move) → n ≤ 1 → (how ≡ answer.Went → n ≡ 1) → (n ≡ 1 → how ≡ answer.Went)
    → map Went (take n (Put b end ∷ [])) ++ refused_put how (drop n (Put b end ∷ [])) ≡ move_step (Put b end) how ∷ []
one-step b zero end answer.Went le to from = let isnt : 0 ≡ 1 = to refl in absurd (omega (arith, isnt))
one-step b zero end answer.Held le to from = refl
one-step b zero end answer.Failed le to from = refl
one-step b (suc zero) end answer.Went le to from = refl
one-step b (suc zero) end answer.Held le to from = let isnt : answer.Held ≡ answer.Went = from refl in cc
one-step b (suc zero) end answer.Failed le to from = let isnt : answer.Failed ≡ answer.Went = from refl in cc
one-step b (suc (suc n)) end how le to from = absurd (omega (arith, le))

-- so it is one step
pub walk-one : {B : Type 0} (means : B → Means) (through : B → Step → B → Type 0) (old new : B) (b : ℕ) (end : Bool) (m : Many)
    → m.moved ≤ 1 → (m.last ≡ answer.Went → m.moved ≡ 1) → (m.moved ≡ 1 → m.last ≡ answer.Went)
    → Walk means through old (puts_steps (b ∷ []) end m) new → StepsTo means through old (move_step (Put b end) m.last) new
walk-one means through old new b end m le to from walk =
    let one : Walk means through old (move_step (Put b end) m.last ∷ []) new =
    subst (λ (ss : List Step). Walk means through old ss new) (one-step b m.moved end m.last le to from) walk in
    subst (λ n. StepsTo means through old (move_step (Put b end) m.last) n) (sym one.2) one.1

-- ---- gets

-- none went behind these
pub told-refused : (end : Bool) (bytes : List ℕ) (kept : Kept) (why : Stop) (s : Step) → end ≡ is_end why → refused_get why ≡ s ∷ []
    → after (past kept (map Went (take (length bytes) (ended Got end bytes)))) s ≡ past kept (gets_steps bytes why)
told-refused end bytes kept why s is refused =
    sym (ap (λ (ss : List Step). past kept (map Went (ended Got (is_end why) bytes) ++ ss)) refused
    ∙ past-append kept (map Went (ended Got (is_end why) bytes)) (s ∷ [])
    ∙ ap (λ (e : Bool). after (past kept (map Went (ended Got e bytes))) s) (sym is)
    ∙ ap (λ (ts : List Transfer). after (past kept (map Went ts)) s) (sym (whole end bytes)))
  where
    whole : (end : Bool) (bytes : List ℕ) → take (length bytes) (ended Got end bytes) ≡ ended Got end bytes
    whole end bytes = ap (λ k. take k (ended Got end bytes)) (sym (length-ended Got end bytes)) ∙ take-length (ended Got end bytes)

-- all that came are told
pub told-came : (end : Bool) (bytes : List ℕ) (kept : Kept) (why : Stop) → end ≡ is_end why → refused_get why ≡ []
    → past kept (map Went (take (length bytes) (ended Got end bytes))) ≡ past kept (gets_steps bytes why)
told-came end bytes kept why is none =
    sym (ap (λ (ss : List Step). past kept (map Went (ended Got (is_end why) bytes) ++ ss)) none
    ∙ ap (past kept) (append-nil (map Went (ended Got (is_end why) bytes)))
    ∙ ap (λ (e : Bool). past kept (map Went (ended Got e bytes))) (sym is)
    ∙ ap (λ (ts : List Transfer). past kept (map Went ts)) (sym (ap (λ k. take k (ended Got end bytes)) (sym (length-ended Got end bytes)) ∙ take-length (ended Got end bytes))))

-- nothing has no last element
no-last : (front : List ℕ) (last : ℕ) → [] ≡ front ++ last ∷ [] → ⊥
no-last [] last e = cc
no-last (x ∷ xs) last e = cc

-- a burst of gets has a step, where it stopped for what it brought
pub some-gets : (char : Option ℕ) (room : ℕ) (bytes : List ℕ) (why : Stop) → 0 < room → StopsAt char room bytes why → 0 < length (gets_steps bytes why)
some-gets char room [] stop.Full some stops = absurd (omega (arith, some, stops.0))
some-gets char room [] stop.End some stops = absurd (no-last stops.0 stops.1 stops.2)
some-gets char room [] stop.Char some stops = absurd (no-last stops.0 stops.1 stops.2)
some-gets char room [] stop.Held some stops = omega arith
some-gets char room [] stop.Failed some stops = omega arith
some-gets char room (b ∷ []) why some stops = omega arith
some-gets char room (b ∷ c ∷ bs) why some stops = omega arith

-- a burst of one
one-get : (room : List ℕ) (n : ℕ) (why : Stop) → length room ≡ 1 → n ≤ 1 → StopsAt None 1 (take n room) why
    → gets_steps (take n room) why ≡ get_step (got_one why (slice_index room 0)) ∷ []
one-get [] n why long le stops = absurd (omega (arith, long))
one-get (b ∷ c ∷ bs) n why long le stops = absurd (omega (arith, long))
one-get (b ∷ []) (suc (suc n)) why long le stops = absurd (omega (arith, le))
one-get (b ∷ []) zero stop.Full long le stops = absurd (omega (arith, stops.0))
one-get (b ∷ []) zero stop.End long le stops = absurd (no-last stops.0 stops.1 stops.2)
one-get (b ∷ []) zero stop.Char long le stops = absurd (no-last stops.0 stops.1 stops.2)
one-get (b ∷ []) zero stop.Held long le stops = refl
one-get (b ∷ []) zero stop.Failed long le stops = refl
one-get (b ∷ []) (suc zero) stop.Full long le stops = refl
one-get (b ∷ []) (suc zero) stop.End long le stops = refl
one-get (b ∷ []) (suc zero) stop.Char long le stops = refl
one-get (b ∷ []) (suc zero) stop.Held long le stops = absurd (omega (arith, stops.0))
one-get (b ∷ []) (suc zero) stop.Failed long le stops = absurd (omega (arith, stops.0))

-- so it is one step
pub walk-one-get : {B : Type 0} (means : B → Means) (through : B → Step → B → Type 0) (old new : B) (room : List ℕ) (m : ManyGot)
    → length room ≡ 1 → m.got ≤ 1 → StopsAt None 1 (take m.got room) m.stop → Walk means through old (gets_steps (take m.got room) m.stop) new
    → StepsTo means through old (get_step (got_one m.stop (slice_index room 0))) new
walk-one-get means through old new room m long le stops walk =
    let out = got_one m.stop (slice_index room 0) in
    let one : Walk means through old (get_step out ∷ []) new = subst (λ (ss : List Step). Walk means through old ss new) (one-get room m.got m.stop long le stops) walk in
    subst (λ n. StepsTo means through old (get_step out) n) (sym one.2) one.1
