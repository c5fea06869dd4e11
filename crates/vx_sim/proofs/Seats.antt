-- Runs of an instrument that is no table, and what is noted of them.
use Rattle.std.proofs.Common.{◌≡◌, ℕ, zero, suc, ◌+◌, ◌<◌, ◌≤◌, Bool, true, false, List, [], ◌∷◌, ◌++◌, map, length, take, get_or, ◌&&◌, ◌==◌, refl, sym, ap, ◌∙◌, subst, arith, append_assoc}
use Rattle.std.proofs.lemmas.List.{append-nil, map-append, length-take-le}
use Rattle.vx_488.specs.declared.transfers.Transfer.{Transfer}
use Rattle.vx_488.specs.declared.transfers.Transfer.TheVariants.{Put, Got}
use Rattle.vx_488.specs.declared.asks.Ask.TheVariants as ask
use Rattle.vx_488.specs.declared.bursts.Stop.{Stop}
use Rattle.vx_488.specs.declared.bursts.Stop.TheVariants as stop
use Rattle.vx_488.specs.Steps.{Step, Went, Held, Path}
use Rattle.vx_488.specs.Bursts.{ended, gets_steps, refused_get}
use Rattle.vx_inst.specs.declared.done.Done.{Done}
use Rattle.vx_inst.specs.declared.done.Done.TheVariants.{Took, Gave}
use Rattle.vx_inst.specs.View.{View}
use Rattle.vx_inst.specs.Behavior.{Behavior, seen, after, after_all}
use Rattle.vx_inst.specs.Laws.{takes_byte, gives_byte, InstTakes, InstGives}
use Rattle.vx_inst.specs.Runs.{TakesRun, GivesNext, takings, gave}
use Rattle.vx_inst.proofs.Laws.Runs.{front-next}
use Rattle.vx_sim.specs.Histories.{calls_of, IsAfter}
use Rattle.vx_sim.specs.Occupants.{Boxed, Seated, TakesPuts, GivesBy}

-- one that had calls more, and is seen so then
abbrev pub with_calls : Seated → List Done → View → Seated
with_calls s calls shown = record s { calls = s.calls ++ calls; shown = shown }

-- no calls more
none-more : (s : Seated) (v : View) → v ≡ s.shown → with_calls s [] v ≡ s
none-more s v is = ap (λ (calls : List Done). record s { calls = calls; shown = v }) (append-nil s.calls) ∙ ap (λ (w : View). record s { shown = w }) is

-- some more, and then the others
some-more : (s : Seated) (calls more : List Done) (v w : View) → with_calls (with_calls s calls v) more w ≡ with_calls s (calls ++ more) w
some-more s calls more v w = ap (λ (all : List Done). record s { calls = all; shown = w }) (append_assoc s.calls calls more)

pub boxed-takes : (puts : List Transfer) (old new : Behavior) (s : Seated) → s.shown ≡ seen old → TakesRun puts old new
    → TakesPuts puts (Boxed s) (Boxed (with_calls s (takings puts) (seen new)))
boxed-takes [] old new s is run = ap (λ (t : Seated). Boxed t) (none-more s (seen new) (ap seen run ∙ sym is))
boxed-takes (Put b end ∷ puts) old new s is run =
    let mid : Behavior = run.0 in
    let t : Seated = with_calls s (Took b end ∷ []) (seen mid) in
    let rest : TakesPuts puts (Boxed t) (Boxed (with_calls t (takings puts) (seen new))) = boxed-takes puts mid new t refl run.2 in (
      ap takes_byte is ∙ run.1.0,
      (
        Boxed t,
        (refl, subst (λ (v : View). InstTakes v b end (seen mid)) (sym is) run.1.1, run.1.3),
        subst (λ (u : Seated). TakesPuts puts (Boxed t) (Boxed u)) (some-more s (Took b end ∷ []) (takings puts) (seen mid) (seen new)) rest,
      ),
    )
boxed-takes (_ ∷ puts) old new s is run = absurd run

pub after-takes : (puts : List Transfer) (old new : Behavior) → TakesRun puts old new → new ≡ after_all (takings puts) old
after-takes [] old new run = run
after-takes (Put b end ∷ puts) old new run = after-takes puts run.0 new run.2 ∙ ap (after_all (takings puts)) run.1.2
after-takes (_ ∷ puts) old new run = absurd run

-- the calls that steps of gets are
abbrev pub givings : List Step → List Done
givings [] = []
givings (Went (Got b end) ∷ steps) = Gave ∷ givings steps
givings (_ ∷ steps) = givings steps

pub boxed-gives : (steps : List Step) (old new : Behavior) (s : Seated) → s.shown ≡ seen old → Path GivesNext old steps new
    → Path GivesBy (Boxed s) steps (Boxed (with_calls s (givings steps) (seen new)))
boxed-gives [] old new s is run = ap (λ (t : Seated). Boxed t) (none-more s (seen new) (ap seen run ∙ sym is))
boxed-gives (Went (Got b end) ∷ steps) old new s is run =
    let mid : Behavior = run.0 in
    let t : Seated = with_calls s (Gave ∷ []) (seen mid) in
    let rest : Path GivesBy (Boxed t) steps (Boxed (with_calls t (givings steps) (seen new))) = boxed-gives steps mid new t refl run.2 in
    let gives : InstGives s.shown (record { value = b; end = end }) (seen mid) =
    subst (λ (v : View). InstGives v (record { value = b; end = end }) (seen mid)) (sym is) run.1.1 in (
      Boxed t,
      (ap gives_byte is ∙ run.1.0, (gives, (refl, gives, run.1.3))),
      subst (λ (u : Seated). Path GivesBy (Boxed t) steps (Boxed u)) (some-more s (Gave ∷ []) (givings steps) (seen mid) (seen new)) rest,
    )
boxed-gives (Held ask.Get ∷ steps) old new s is run =
    (Boxed s, (ap gives_byte is ∙ run.1.0, refl), boxed-gives steps run.0 new s (is ∙ ap seen (sym run.1.1)) run.2)
boxed-gives (_ ∷ steps) old new s is run = absurd run.1

pub after-gives : (steps : List Step) (old new : Behavior) → Path GivesNext old steps new → new ≡ after_all (givings steps) old
after-gives [] old new run = run
after-gives (Went (Got b end) ∷ steps) old new run = after-gives steps run.0 new run.2 ∙ ap (after_all (givings steps)) run.1.2
after-gives (Held ask.Get ∷ steps) old new run = after-gives steps run.0 new run.2 ∙ ap (after_all (givings steps)) run.1.1
after-gives (_ ∷ steps) old new run = absurd run.1

-- as many as bytes came
givings-went : (end : Bool) (bytes : List ℕ) (rest : List Step) → givings rest ≡ [] → givings (map Went (ended Got end bytes) ++ rest) ≡ gave (length bytes)
givings-went end [] rest none = none
givings-went end (b ∷ []) rest none = ap (λ ds. Gave ∷ ds) none
givings-went end (b ∷ c ∷ bs) rest none = ap (λ ds. Gave ∷ ds) (givings-went end (c ∷ bs) rest none)

pub givings-are : (bytes : List ℕ) (why : Stop) → givings (gets_steps bytes why) ≡ gave (length bytes)
givings-are bytes stop.Full = givings-went false bytes [] refl
givings-are bytes stop.End = givings-went true bytes [] refl
givings-are bytes stop.Char = givings-went false bytes [] refl
givings-are bytes stop.Held = givings-went false bytes (refused_get stop.Held) refl
givings-are bytes stop.Failed = givings-went false bytes (refused_get stop.Failed) refl

-- one more
pub gave-more : (n : ℕ) → gave (n + 1) ≡ gave n ++ Gave ∷ []
gave-more n = let one : n + 1 ≡ suc n = omega arith in ap gave one ∙ behind n
  where
    behind : (k : ℕ) → gave (suc k) ≡ gave k ++ Gave ∷ []
    behind zero = refl
    behind (suc k) = ap (λ ds. Gave ∷ ds) (behind k)

pub takings-more : (puts : List Transfer) (b : ℕ) (end : Bool) → takings (puts ++ Put b end ∷ []) ≡ takings puts ++ Took b end ∷ []
takings-more [] b end = refl
takings-more (Put c e ∷ puts) b end = ap (λ ds. Took c e ∷ ds) (takings-more puts b end)
takings-more (_ ∷ puts) b end = takings-more puts b end

-- it behaves as the one that was handed in after all of these calls
after-both : (calls more : List Done) (b : Behavior) → after_all (calls ++ more) b ≡ after_all more (after_all calls b)
after-both [] more b = refl
after-both (d ∷ ds) more b = after-both ds more (after d b)

pub after-more : {I : Type 0} (behaves : I → Behavior) (notes : List (I × Unit {0})) (calls more : List Done) (old new : I)
    → IsAfter behaves notes calls old → behaves new ≡ after_all more (behaves old) → IsAfter behaves notes (calls ++ more) new
after-more behaves [] calls more old new far is = absurd far
after-more behaves (p ∷ ps) calls more old new far is = is ∙ ap (after_all more) far ∙ sym (after-both calls more (behaves p.0))

-- ---- a seat

-- it takes what its instrument does, and that is noted
pub seat-takes : (o : View) (n : List ℕ) (calls noted : List Done) (s : Seated) (puts : List Transfer) (old new : Behavior)
    → record { origin = o; nature = n; calls = calls; shown = seen old } ≡ s → TakesRun puts old new → noted ≡ calls ++ takings puts
    → TakesPuts puts (Boxed s) (Boxed (record { origin = o; nature = n; calls = noted; shown = seen new }))
seat-takes o n calls noted s puts old new view run is =
    let t : Seated = record { origin = o; nature = n; calls = calls; shown = seen old } in
    subst (λ (u : Seated). TakesPuts puts (Boxed u) (Boxed (record { origin = o; nature = n; calls = noted; shown = seen new }))) view
    (subst (λ (ds : List Done). TakesPuts puts (Boxed t) (Boxed (record { origin = o; nature = n; calls = ds; shown = seen new }))) (sym is)
    (boxed-takes puts old new t refl run))

pub seat-gives : (o : View) (n : List ℕ) (calls noted : List Done) (s : Seated) (steps : List Step) (old new : Behavior)
    → record { origin = o; nature = n; calls = calls; shown = seen old } ≡ s → Path GivesNext old steps new → noted ≡ calls ++ givings steps
    → Path GivesBy (Boxed s) steps (Boxed (record { origin = o; nature = n; calls = noted; shown = seen new }))
seat-gives o n calls noted s steps old new view run is =
    let t : Seated = record { origin = o; nature = n; calls = calls; shown = seen old } in
    subst (λ (u : Seated). Path GivesBy (Boxed u) steps (Boxed (record { origin = o; nature = n; calls = noted; shown = seen new }))) view
    (subst (λ (ds : List Done). Path GivesBy (Boxed t) steps (Boxed (record { origin = o; nature = n; calls = ds; shown = seen new }))) (sym is)
    (boxed-gives steps old new t refl run))

-- one call more is noted
pub noted-next : (begun calls now : List (Done × Unit {0})) (done : List Done) (d : Done) → calls_of calls ≡ calls_of begun ++ done → now ≡ calls ++ (d, tt) ∷ []
    → calls_of now ≡ calls_of begun ++ (done ++ d ∷ [])
noted-next begun calls now done d far is =
    ap calls_of is ∙ map-append (λ p. p.0) calls ((d, tt) ∷ []) ∙ ap (λ (ds : List Done). ds ++ d ∷ []) far ∙ append_assoc (calls_of begun) done (d ∷ [])

pub takings-next : (end : Bool) (bytes : List ℕ) (n d : ℕ) (last : Bool) → n < length bytes → last ≡ (end && (n + 1 == length bytes))
    → takings (take (n + 1) (ended Put end bytes)) ≡ takings (take n (ended Put end bytes)) ++ Took (get_or bytes n d) last ∷ []
takings-next end bytes n d last more is =
    ap takings (front-next Put end bytes n d last more is) ∙ takings-more (take n (ended Put end bytes)) (get_or bytes n d) last

-- so many bytes of a room are so many calls
pub gave-room : (got : ℕ) (room : List ℕ) (why : Stop) → got ≤ length room → givings (gets_steps (take got room) why) ≡ gave got
gave-room got room why within = givings-are (take got room) why ∙ ap gave (length-take-le got room within)
