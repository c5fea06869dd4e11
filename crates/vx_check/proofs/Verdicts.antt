-- What is answered of a trace that its source tells.
use Rattle.std.proofs.Common.{◌≡◌, ℕ, ◌<◌, ◌≤◌, ◌⊎◌, inl, inr, List, length, take, Option, Some, None, ap, ◌∙◌, subst, arith}
use Rattle.std.specs.Option.{IfSome}
use Rattle.std.specs.Io.KnownBytes.{Consumes}
use Rattle.std.proofs.lemmas.List.{take-append-le}
use Rattle.vx_text.specs.Ends.{End}
use Rattle.vx_text.specs.Reading.{GivesAll, GivesTooMuch}
use Rattle.vx_text.proofs.Laws.Moved.{gives_within}
use Rattle.vx_history.specs.declared.cause.Cause.{Cause}
use Rattle.vx_check.specs.declared.run.CheckStatus.{CheckStatus}
use Rattle.vx_check.specs.declared.run.CheckStatus.TheVariants as status
use Rattle.vx_history.specs.History.{History, Lawful, Faulty, Walk, Through, Stops, TraceTells, TraceBegins}
use Rattle.vx_history.specs.Laws.{OneHistoryLaw, OneFrontLaw}
use Rattle.vx_check.specs.Outcome.{CheckEnds, Wrote, ReadsSpoiled, ReadsFront, IsOutcome, CheckEndsSo, check_status_number, spoiled_line}
use Rattle.vx_check.specs.Verdicts.{IsUndisturbed, RanOut, IsCheckAnswered, Completes, IsFrontAnswered, CompletesLong, EndsFormed}
use Rattle.vx_history.specs.declared.limits.TheConstants.{TRACE_MAX}
use Rattle.vx_history.specs.Formed.{run_trace, told_events, FormedLaw}

-- ---- what a source gave that tells its bytes

-- a front of them
gave-front : (most : ℕ) (after : Option (List ℕ)) (all bytes : List ℕ) → Consumes (Some all) after bytes → most < length bytes → take most all ≡ take most bytes
gave-front most None all bytes h above = absurd h
gave-front most (Some rest) all bytes h above = ap (take most) h ∙ take-append-le most bytes rest (omega arith)

-- all of them, where it was read whole
gave-all : (most : ℕ) (before after : End) (all bytes : List ℕ) → before.bytes ≡ Some all → GivesAll most before after bytes → all ≡ bytes
gave-all most before after all bytes told read = subst (λ (o : Option (List ℕ)). IfSome o (λ whole. whole ≡ bytes)) told read.whole

-- too much only where there is too much
not-much : (most : ℕ) (before after : End) (all bytes : List ℕ) → before.bytes ≡ Some all → length all ≤ most → GivesTooMuch most before after bytes → ⊥
not-much most before after all bytes told few read =
    let less = gives_within after.bytes all bytes (subst (λ o. Consumes o after.bytes bytes) told read.given) in
    let above = read.above in
    absurd (omega (arith, less, above, few))

-- and whole only where there isn't
not-whole : (most : ℕ) (before after : End) (all bytes : List ℕ) → before.bytes ≡ Some all → most < length all → GivesAll most before after bytes → ⊥
not-whole most before after all bytes told above read =
    let same : length all ≡ length bytes = ap length (gave-all most before after all bytes told read) in
    let within = read.within in
    absurd (omega (arith, same, above, within))

-- ---- how a check ends

-- a trace that isn't too long tells one thing, and that is answered
pub completes : OneHistoryLaw → (most : ℕ) (words : List (List ℕ)) (ends : CheckEnds) (number : ℕ) → CheckEndsSo most words ends number → Completes most words ends number
completes one most words ends number (how, is, outcome) bytes told calm few tells = by how is outcome where
  same : (read : List ℕ) (other : History) → GivesAll most ends.source ends.source_after read → TraceTells read other → other ≡ told
  same read other all others =
      one read other told others (subst (λ b. TraceTells b told) (gave-all most ends.source ends.source_after bytes read calm.told all) tells)

  answered : (other : History) → other ≡ told → IsCheckAnswered ends number other → RanOut ends number ⊎ IsCheckAnswered ends number told
  answered other e so = inr (subst (IsCheckAnswered ends number) e so)

  never : (read : List ℕ) → GivesTooMuch most ends.source ends.source_after read → ⊥
  never read much = not-much most ends.source ends.source_after bytes read calm.told few much

  spoiled : (line : ℕ) (why : Cause) → number ≡ check_status_number status.Spoiled → Wrote ends (spoiled_line line why)
      → ReadsSpoiled most ends line why ⊎ ReadsFront most ends line why → RanOut ends number ⊎ IsCheckAnswered ends number told
  spoiled line why e wrote (inl r) = answered (Faulty line why) (same r.bytes (Faulty line why) r.read r.tells) (e, wrote)
  spoiled line why e wrote (inr r) = absurd (never r.bytes r.read)

  by : (how : CheckStatus) → number ≡ check_status_number how → IsOutcome most words ends how → RanOut ends number ⊎ IsCheckAnswered ends number told
  by status.Legal e (r, wrote) = answered (Lawful r.events) (same r.bytes (Lawful r.events) r.read r.tells) (e, r.legal, wrote)
  by status.Usage e h = absurd (h.0.some calm.no_words)
  by status.SourceFailed e h = absurd (calm.source_good h.1)
  by status.Spoiled e (line, why, h, wrote) = spoiled line why e wrote h.reads
  by status.SinkFailed e (inl h) = absurd (calm.sink_good h.1.rose)
  by status.SinkFailed e (inr (inl h)) = absurd (calm.sink_good h.1.rose)
  by status.SinkFailed e (inr (inr (inl (line, why, h, stops)))) = absurd (calm.sink_good stops.rose)
  by status.SinkFailed e (inr (inr (inr h))) = absurd (calm.sink_good h.1.rose)
  by status.NoMemory e h = inl (e, h.unwritten)
  by status.TooLong e h = absurd (never h.0.bytes h.0.read)

-- the front of one that is too long tells one thing, and that is answered
pub completes-long : OneFrontLaw → (most : ℕ) (words : List (List ℕ)) (ends : CheckEnds) (number : ℕ) → CheckEndsSo most words ends number → CompletesLong most words ends number
completes-long one most words ends number (how, is, outcome) bytes far calm above begins = by how is outcome where
  same : (read : List ℕ) (other : Walk) → GivesTooMuch most ends.source ends.source_after read → TraceBegins (take most read) other → other ≡ far
  same read other much others =
      let given = subst (λ o. Consumes o ends.source_after.bytes read) calm.told much.given in
      one (take most read) other far others (subst (λ b. TraceBegins b far) (gave-front most ends.source_after.bytes bytes read given much.above) begins)

  answered : (other : Walk) → other ≡ far → IsFrontAnswered ends number other → RanOut ends number ⊎ IsFrontAnswered ends number far
  answered other e so = inr (subst (IsFrontAnswered ends number) e so)

  never : (read : List ℕ) → GivesAll most ends.source ends.source_after read → ⊥
  never read all = not-whole most ends.source ends.source_after bytes read calm.told above all

  spoiled : (line : ℕ) (why : Cause) → number ≡ check_status_number status.Spoiled → Wrote ends (spoiled_line line why)
      → ReadsSpoiled most ends line why ⊎ ReadsFront most ends line why → RanOut ends number ⊎ IsFrontAnswered ends number far
  spoiled line why e wrote (inl r) = absurd (never r.bytes r.read)
  spoiled line why e wrote (inr r) = answered (Stops line why) (same r.bytes (Stops line why) r.read r.begins) (e, wrote)

  by : (how : CheckStatus) → number ≡ check_status_number how → IsOutcome most words ends how → RanOut ends number ⊎ IsFrontAnswered ends number far
  by status.Legal e (r, wrote) = absurd (never r.bytes r.read)
  by status.Usage e h = absurd (h.0.some calm.no_words)
  by status.SourceFailed e h = absurd (calm.source_good h.1)
  by status.Spoiled e (line, why, h, wrote) = spoiled line why e wrote h.reads
  by status.SinkFailed e (inl h) = absurd (calm.sink_good h.1.rose)
  by status.SinkFailed e (inr (inl h)) = absurd (calm.sink_good h.1.rose)
  by status.SinkFailed e (inr (inr (inl (line, why, h, stops)))) = absurd (calm.sink_good stops.rose)
  by status.SinkFailed e (inr (inr (inr h))) = absurd (calm.sink_good h.1.rose)
  by status.NoMemory e h = inl (e, h.unwritten)
  by status.TooLong e (r, wrote) = answered (Through r.events r.after) (same r.bytes (Through r.events r.after) r.read r.begins) (e, wrote)

-- where the trace of a formed run is given, a check ends with `legal`, or for want of memory
pub formed-ends : FormedLaw → OneHistoryLaw → (words : List (List ℕ)) (ends : CheckEnds) (number : ℕ) → CheckEndsSo TRACE_MAX words ends number → EndsFormed words ends number
formed-ends law one words ends number so r =
    by (completes one TRACE_MAX words ends number so (run_trace r.items) (Lawful (told_events r.items)) calm r.few (law r.items r.formed r.printable))
  where
    calm : IsUndisturbed words ends (run_trace r.items)
    calm = record { no_words = r.no_words; told = r.given; source_good = r.read_well; sink_good = r.written_well }

    by : RanOut ends number ⊎ IsCheckAnswered ends number (Lawful (told_events r.items)) → (number ≡ 0) ⊎ (number ≡ 5)
    by (inl lacking) = inr lacking.0
    by (inr legal) = inl legal.0
