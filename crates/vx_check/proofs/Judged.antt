-- What a trace was found to be, and how a check ends that tells it.
use Rattle.std.proofs.Common.{◌≡◌, ◌≢◌, ℕ, suc, ◌+◌, ◌==◌, true, false, cond, List, [], ◌∷◌, length, map, ◌⊎◌, inl, inr, refl, sym, ap, ◌∙◌, subst, arith}
use Rattle.std.proofs.lemmas.Bool.{eqb-true}
use Rattle.std.proofs.KnownBytes.{Consumes-nil}
use Rattle.vx_text.specs.Reading.{GivesAll, GivesTooMuch, GivesUpTo}
use Rattle.vx_text.specs.TextLines.{lines}
use Rattle.vx_history.specs.declared.cause.Cause.{Cause}
use Rattle.vx_history.specs.declared.cause.Cause.TheVariants as cause
use Rattle.vx_check.specs.declared.run.CheckStatus.{CheckStatus}
use Rattle.vx_check.specs.declared.run.CheckStatus.TheVariants as status
use Rattle.vx_check.specs.declared.run.Verdict.{Verdict}
use Rattle.vx_check.specs.declared.run.Verdict.TheVariants as verdict
use Rattle.vx_history.specs.CheckState.{beginning}
use Rattle.vx_history.specs.History.{Through, Stops, Walks, Lawful, Faulty, TraceTells}
use Rattle.vx_history.specs.Laws.{LawfulLaw}
use Rattle.vx_check.specs.Outcome.{CheckEnds, IsUnread, ReadsLegal, ReadsSpoiled, ReadsFront, Spoils, ReadsTooMuch, IsOutcome, legal_line, spoiled_line, check_long_line, check_usage_line}
use Rattle.vx_check.specs.Telling.{IsJudged, IsFrontJudged, IsCheckTold, CheckPutsLine, verdict_of}
use Rattle.vx_history.specs.declared.lines.Far.{Far}
use Rattle.vx_history.specs.declared.lines.Far.TheVariants as far
use Rattle.vx_history.specs.Walking.{EndsWalk, GoesThrough}

-- ---- whole traces

-- all lines were taken, and the trace is at its end
pub judged-legal : LawfulLaw → (bytes : List ℕ) (texts : List (List ℕ)) (next : ℕ) → texts ≡ lines bytes → GoesThrough texts next true → IsJudged bytes verdict.Legal
judged-legal law bytes texts next same through =
    let all : GoesThrough (lines bytes) next true = subst (λ ts. GoesThrough ts next true) same through in
    let tells : TraceTells bytes (Lawful all.events) = record {
      far = Through all.events all.after;
      walks = all.walks;
      told_is = ap (λ b. cond b (Lawful all.events) (Faulty (length (lines bytes) + 1) cause.Place)) all.over_is;
    } in
    (all.events, tells, law bytes all.events tells)

-- all lines were taken, and it isn't
pub judged-open : (bytes : List ℕ) (texts : List (List ℕ)) (next : ℕ) → texts ≡ lines bytes → GoesThrough texts next false → TraceTells bytes (Faulty next cause.Place)
judged-open bytes texts next same through =
    let all : GoesThrough (lines bytes) next false = subst (λ ts. GoesThrough ts next false) same through in
    record {
      far = Through all.events all.after;
      walks = all.walks;
      told_is = ap (λ n. Faulty n cause.Place) all.next_is
          ∙ ap (λ b. cond b (Lawful all.events) (Faulty (length (lines bytes) + 1) cause.Place)) all.over_is;
    }

-- a line has a cause against it
pub judged-stops : (bytes : List ℕ) (texts : List (List ℕ)) (line : ℕ) (why : Cause) → texts ≡ lines bytes → Walks 1 beginning texts (Stops line why) → TraceTells bytes (Faulty line why)
judged-stops bytes texts line why same walks = record { far = Stops line why; walks = subst (λ ts. Walks 1 beginning ts (Stops line why)) same walks; told_is = refl }

-- ---- how a check ends

-- the line of a legal trace
told-legal : (most : ℕ) (words : List (List ℕ)) (ends : CheckEnds) (result : CheckStatus) → ReadsLegal most words ends → CheckPutsLine status.Legal legal_line ends.sink ends.sink_after result → IsOutcome most words ends result
told-legal most words ends result reads (inl (is, wrote)) = subst (IsOutcome most words ends) (sym is) (reads, wrote)
told-legal most words ends result reads (inr (is, stops)) = subst (IsOutcome most words ends) (sym is) (inl (reads, stops))

-- that of one that isn't
told-spoiled : (most : ℕ) (words : List (List ℕ)) (ends : CheckEnds) (line : ℕ) (why : Cause) (result : CheckStatus) → Spoils most words ends line why
    → CheckPutsLine status.Spoiled (spoiled_line line why) ends.sink ends.sink_after result → IsOutcome most words ends result
told-spoiled most words ends line why result spoils (inl (is, wrote)) = subst (IsOutcome most words ends) (sym is) (line, why, spoils, wrote)
told-spoiled most words ends line why result spoils (inr (is, stops)) = subst (IsOutcome most words ends) (sym is) (inr (inr (inl (line, why, spoils, stops))))

told-long : (most : ℕ) (words : List (List ℕ)) (ends : CheckEnds) (result : CheckStatus) → ReadsTooMuch most words ends → CheckPutsLine status.TooLong check_long_line ends.sink ends.sink_after result → IsOutcome most words ends result
told-long most words ends result reads (inl (is, wrote)) = subst (IsOutcome most words ends) (sym is) (reads, wrote)
told-long most words ends result reads (inr (is, stops)) = subst (IsOutcome most words ends) (sym is) (inr (inr (inr (reads, stops))))

pub told-usage : (most : ℕ) (words : List (List ℕ)) (ends : CheckEnds) (result : CheckStatus) → IsUnread words ends → CheckPutsLine status.Usage check_usage_line ends.sink ends.sink_after result → IsOutcome most words ends result
told-usage most words ends result unread (inl (is, wrote)) = subst (IsOutcome most words ends) (sym is) (unread, wrote)
told-usage most words ends result unread (inr (is, stops)) = subst (IsOutcome most words ends) (sym is) (inr (inl (unread, stops)))

-- memory ran out behind the reading
told-lost : (most : ℕ) (words : List (List ℕ)) (ends : CheckEnds) (result : CheckStatus) → words ≡ [] → GivesUpTo (most + 1) ends.source ends.source_after
    → (result ≡ status.NoMemory) × (ends.sink_after ≡ ends.sink) → IsOutcome most words ends result
told-lost most words ends result none read told = subst (IsOutcome most words ends) (sym told.0) (record { no_words = none; read = read; unwritten = told.1 })

all-read : (most : ℕ) (ends : CheckEnds) (bytes : List ℕ) → GivesAll most ends.source ends.source_after bytes → GivesUpTo (most + 1) ends.source ends.source_after
all-read most ends bytes read = record { bytes = bytes; given = read.given; within = (let low = read.within in omega arith) }

much-read : (most : ℕ) (ends : CheckEnds) (bytes : List ℕ) → GivesTooMuch most ends.source ends.source_after bytes → GivesUpTo (most + 1) ends.source ends.source_after
much-read most ends bytes read = record { bytes = bytes; given = read.given; within = read.within }

-- a whole trace
pub whole-ended : (most : ℕ) (words : List (List ℕ)) (ends : CheckEnds) (bytes : List ℕ) (found : Verdict) (result : CheckStatus) → words ≡ []
    → GivesAll most ends.source ends.source_after bytes → IsJudged bytes found → IsCheckTold found ends.sink ends.sink_after result → IsOutcome most words ends result
whole-ended most words ends bytes verdict.Legal result none read (events, tells, legal) told =
    told-legal most words ends result (record { no_words = none; bytes = bytes; read = read; events = events; tells = tells; legal = legal }) told
whole-ended most words ends bytes (verdict.Spoiled line why) result none read tells told =
    told-spoiled most words ends line why result (record { no_words = none; reads = inl (record { bytes = bytes; read = read; tells = tells }) }) told
whole-ended most words ends bytes verdict.TooLong result none read judged told = absurd judged
whole-ended most words ends bytes verdict.NoMemory result none read judged told = told-lost most words ends result none (all-read most ends bytes read) told

-- the front of a longer one
pub front-ended : (most : ℕ) (words : List (List ℕ)) (ends : CheckEnds) (bytes : List ℕ) (found : Verdict) (result : CheckStatus) → words ≡ []
    → GivesTooMuch most ends.source ends.source_after bytes → IsFrontJudged most bytes found → IsCheckTold found ends.sink ends.sink_after result → IsOutcome most words ends result
front-ended most words ends bytes verdict.Legal result none read judged told = absurd judged
front-ended most words ends bytes (verdict.Spoiled line why) result none read begins told =
    told-spoiled most words ends line why result (record { no_words = none; reads = inr (record { bytes = bytes; read = read; begins = begins }) }) told
front-ended most words ends bytes verdict.TooLong result none read (events, after, begins) told =
    told-long most words ends result (record { no_words = none; bytes = bytes; read = read; events = events; after = after; begins = begins }) told
front-ended most words ends bytes verdict.NoMemory result none read judged told = told-lost most words ends result none (much-read most ends bytes read) told

-- ---- words

pub no-words : {X : Type 0} (f : X → List ℕ) (xs : List X) → (length xs == 0) ≡ true → map f xs ≡ []
no-words f [] is = refl
no-words f (x ∷ xs) is = let none : suc (length xs) ≡ 0 = eqb-true (suc (length xs)) 0 is in absurd (omega arith)

pub some-words : {X : Type 0} (f : X → List ℕ) (xs : List X) → (length xs == 0) ≡ false → map f xs ≢ []
some-words f [] is same = cc
some-words f (x ∷ xs) is same = cc

-- ---- what was read, whatever comes of it

unread : (most : ℕ) (ends : CheckEnds) → ends.source_after ≡ ends.source → GivesUpTo (most + 1) ends.source ends.source_after
unread most ends same =
    subst (GivesUpTo (most + 1) ends.source) (sym same) (record { bytes = []; given = Consumes-nil ends.source.bytes; within = omega arith })

spoils-read : (most : ℕ) (words : List (List ℕ)) (ends : CheckEnds) (line : ℕ) (why : Cause) → Spoils most words ends line why → GivesUpTo (most + 1) ends.source ends.source_after
spoils-read most words ends line why spoils = by-reads spoils.reads
  where
    by-reads : ReadsSpoiled most ends line why ⊎ ReadsFront most ends line why → GivesUpTo (most + 1) ends.source ends.source_after
    by-reads (inl reads) = all-read most ends reads.bytes reads.read
    by-reads (inr reads) = much-read most ends reads.bytes reads.read

pub outcome-read : (most : ℕ) (words : List (List ℕ)) (ends : CheckEnds) (how : CheckStatus) → IsOutcome most words ends how → GivesUpTo (most + 1) ends.source ends.source_after
outcome-read most words ends status.Legal (reads, wrote) = all-read most ends reads.bytes reads.read
outcome-read most words ends status.Usage (not_read, wrote) = unread most ends not_read.unread
outcome-read most words ends status.SourceFailed (reads, rose) = reads.read
outcome-read most words ends status.Spoiled (line, why, spoils, wrote) = spoils-read most words ends line why spoils
outcome-read most words ends status.SinkFailed (inl (reads, stops)) = all-read most ends reads.bytes reads.read
outcome-read most words ends status.SinkFailed (inr (inl (not_read, stops))) = unread most ends not_read.unread
outcome-read most words ends status.SinkFailed (inr (inr (inl (line, why, spoils, stops)))) = spoils-read most words ends line why spoils
outcome-read most words ends status.SinkFailed (inr (inr (inr (reads, stops)))) = much-read most ends reads.bytes reads.read
outcome-read most words ends status.NoMemory reads = reads.read
outcome-read most words ends status.TooLong (reads, wrote) = much-read most ends reads.bytes reads.read

-- what becomes of a walk along all lines
pub judged-by : LawfulLaw → (bytes : List ℕ) (texts : List (List ℕ)) (walked : Far) → texts ≡ lines bytes → EndsWalk texts walked → IsJudged bytes (verdict_of walked)
judged-by law bytes texts (far.Through next true) same ends = judged-legal law bytes texts next same ends
judged-by law bytes texts (far.Through next false) same ends = judged-open bytes texts next same ends
judged-by law bytes texts (far.Stops line why) same ends = judged-stops bytes texts line why same ends
judged-by law bytes texts far.NoMemory same ends = tt
