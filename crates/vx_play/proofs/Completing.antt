-- A play that nothing disturbs is written whole, and so is a run.
use Rattle.std.proofs.Common.{◌≡◌, ℕ, ◌+◌, ◌≤◌, ◌<◌, List, [], ◌++◌, length, Option, Some, None, IfSome, IsSome, ap, sym, subst, ◌∙◌, inl, inr, arith}
use Rattle.std.specs.Prelude.{is_some}
use Rattle.std.proofs.lemmas.Bool.{false≢true}
use Rattle.std.specs.Io.KnownBytes.{Appends, Consumes}
use Rattle.std.proofs.KnownBytes.{Consumes-nil}
use Rattle.vx_io_traits.specs.Faults.{Rose}
use Rattle.vx_play.specs.declared.run.TheConstants.{SCRIPT_MAX}
use Rattle.vx_play.specs.declared.run.PlayStatus.{PlayStatus}
use Rattle.vx_play.specs.declared.run.PlayStatus.TheVariants as status
use Rattle.vx_text.specs.Ends.{End}
use Rattle.vx_text.specs.Reading.{GivesAll, GivesTooMuch, GivesUpTo}
use Rattle.vx_text.proofs.Laws.Moved.{gives_within}
use Rattle.vx_run.specs.Item.{Item, Fault, last_line}
use Rattle.vx_run.specs.RunText.{text}
use Rattle.vx_play.specs.Ended.{version_in}
use Rattle.vx_setup.specs.Rack.{SpareShown}
use Rattle.vx_player.specs.Play.{IsPlay}
use Rattle.vx_play.specs.Ended as ended
use Rattle.vx_play.specs.Ended.{EndsScript}
use Rattle.vx_gen.specs.declared.words.Ask.{Ask}
use Rattle.vx_gen.specs.Asked.{spelled}
use Rattle.vx_play.specs.RunEnded.{PlayEndsRun}
use Rattle.vx_play.specs.declared.run.Order.{Order}
use Rattle.vx_play.specs.declared.run.Order.TheVariants as order
use Rattle.vx_lift.specs.Lifted.{strange_line}
use Rattle.vx_play.specs.Outcome.{PlayEnds, IsUnread, ReadsTooMuch, EndsLifted, IsOutcome, order_of, play_status_number}
use Rattle.vx_play.specs.Laws.{WritesWhole, IsUndisturbed, IsLifted, Completes, CompletesLift, CompletesRun, whole_status}
use Rattle.vx_play.proofs.Laws.{one_order}

-- a source that tells a script gave it
told_is : (before after : End) (bytes t : List ℕ) → GivesAll SCRIPT_MAX before after bytes → before.bytes ≡ Some t → t ≡ bytes
told_is before after bytes t read told = subst (λ o. IfSome o (λ all. all ≡ bytes)) told read.whole

-- what was written is the play of the script that the source tells
written_whole : (rack : List SpareShown) (ends : PlayEnds) (bytes t : List ℕ) (items : List Item) (fault : Option Fault) (number : ℕ) → t ≡ bytes
    → ended.IsPlayed bytes rack items fault → Appends ends.sink.bytes ends.sink_after.bytes (text (version_in bytes) items ++ last_line fault) → number ≡ play_status_number (whole_status fault)
    → WritesWhole rack ends t number
written_whole rack ends bytes t items fault number same played taken is = record {
  items = items;
  fault = fault;
  play = subst (λ b. IsPlay b rack items fault) (sym same) played.play;
  status = is;
  written = subst (λ b. Appends ends.sink.bytes ends.sink_after.bytes (text (version_in b) items ++ last_line fault)) (sym same) taken;
}

-- the words of a run ask for nothing that reads the source
no_order : (words : List (List ℕ)) (ask : Ask) → words ≡ spelled ask → IsSome (order_of words) → ⊥
no_order words ask are some = false≢true (ap (λ (ws : List (List ℕ)). is_some (order_of ws)) (sym are) ∙ some)

no_script : (words : List (List ℕ)) (ask : Ask) (asked : Order) → words ≡ spelled ask → order_of words ≡ Some asked → ⊥
no_script words ask asked are command = no_order words ask are (ap is_some command)

-- and not for nothing
some_order : (words : List (List ℕ)) (asked : Order) → order_of words ≡ None → order_of words ≡ Some asked → ⊥
some_order words asked none some = absurd (cc)

-- a source that tells a script that isn't too long doesn't give too much
not_much : (words : List (List ℕ)) (asked : Order) (ends : PlayEnds) (t : List ℕ) → ReadsTooMuch words ends → IsUndisturbed asked words ends t → ⊥
not_much words asked ends t out calm =
    let much = out.read in
    let fits = gives_within ends.source_after.bytes t out.bytes (subst (λ o. Consumes o ends.source_after.bytes out.bytes) calm.told much.given) in
    let above : SCRIPT_MAX < length out.bytes = much.above in
    let within : length t ≤ SCRIPT_MAX = calm.within in
    absurd (omega arith)

-- the sink failed in the text of a play, or of a lift
play_stopped : (rack : List SpareShown) (bytes : List ℕ) (before after : End) → EndsScript bytes rack before after status.SinkFailed → Rose before.faults after.faults
play_stopped rack bytes before after (inl (front, is, stops)) = stops.rose
play_stopped rack bytes before after (inr (all, at, is, stops)) = stops.rose

lift_stopped : (bytes : List ℕ) (before after : End) → EndsLifted bytes before after status.SinkFailed → Rose before.faults after.faults
lift_stopped bytes before after (inl stops) = stops.rose
lift_stopped bytes before after (inr (line, is, stops)) = stops.rose

-- how an undisturbed play ends
pub completes : (words : List (List ℕ)) (rack : List SpareShown) (ends : PlayEnds) (how : PlayStatus) (number : ℕ) → number ≡ play_status_number how → IsOutcome words rack ends how
    → Completes words rack ends number
completes words rack ends status.Done number is (inr (inr made)) t calm = absurd (no_script words made.ask order.Play made.words_are calm.command)
completes words rack ends status.Done number is (inr (inl out)) t calm = absurd (one_order words calm.command out.command)
completes words rack ends status.Done number is (inl out) t calm =
    inr (written_whole rack ends out.bytes t out.ended.0 None number (told_is _ _ _ t out.read calm.told) out.ended.1 out.ended.2 is)
completes words rack ends status.Usage number is out t calm = absurd (some_order words order.Play out.0.no_command calm.command)
completes words rack ends status.SourceFailed number is out t calm = absurd (calm.source_good out.1)
completes words rack ends status.Fault number is (inr (inr made)) t calm = absurd (no_script words made.ask order.Play made.words_are calm.command)
completes words rack ends status.Fault number is (inr (inl out)) t calm = absurd (one_order words calm.command out.command)
completes words rack ends status.Fault number is (inl out) t calm =
    inr (written_whole rack ends out.bytes t out.ended.0 (Some out.ended.1) number (told_is _ _ _ t out.read calm.told) out.ended.2 out.ended.3 is)
completes words rack ends status.SinkFailed number is (inl out) t calm = absurd (calm.sink_good out.1.rose)
completes words rack ends status.SinkFailed number is (inr (inl out)) t calm = absurd (calm.sink_good out.1.rose)
completes words rack ends status.SinkFailed number is (inr (inr (inl out))) t calm = absurd (calm.sink_good (play_stopped rack out.bytes ends.sink ends.sink_after out.ended))
completes words rack ends status.SinkFailed number is (inr (inr (inr (inl out)))) t calm = absurd (one_order words calm.command out.command)
completes words rack ends status.SinkFailed number is (inr (inr (inr (inr made)))) t calm = absurd (no_script words made.ask order.Play made.words_are calm.command)
completes words rack ends status.NoMemory number is out t calm = inl is
completes words rack ends status.TooLong number is out t calm = absurd (not_much words order.Play ends t out.0 calm)

-- what was written is what the script that the source tells is lifted to
lifted_whole : (ends : PlayEnds) (bytes t : List ℕ) (number : ℕ) (line : Option ℕ) → t ≡ bytes → strange_line bytes ≡ line → IsLifted ends bytes number line
    → IsLifted ends t number (strange_line t)
lifted_whole ends bytes t number line same is lifted_so =
    subst (λ b. IsLifted ends b number (strange_line b)) (sym same) (subst (IsLifted ends bytes number) (sym is) lifted_so)

-- how an undisturbed lift ends
pub lift-completes : (words : List (List ℕ)) (rack : List SpareShown) (ends : PlayEnds) (how : PlayStatus) (number : ℕ) → number ≡ play_status_number how → IsOutcome words rack ends how
    → CompletesLift words ends number
lift-completes words rack ends status.Done number is (inl out) t calm = absurd (one_order words out.command calm.command)
lift-completes words rack ends status.Done number is (inr (inl out)) t calm =
    inr (lifted_whole ends out.bytes t number None (told_is _ _ _ t out.read calm.told) out.ended.0 (is, out.ended.1))
lift-completes words rack ends status.Done number is (inr (inr made)) t calm = absurd (no_script words made.ask order.Lift made.words_are calm.command)
lift-completes words rack ends status.Usage number is out t calm = absurd (some_order words order.Lift out.0.no_command calm.command)
lift-completes words rack ends status.SourceFailed number is out t calm = absurd (calm.source_good out.1)
lift-completes words rack ends status.Fault number is (inl out) t calm = absurd (one_order words out.command calm.command)
lift-completes words rack ends status.Fault number is (inr (inl out)) t calm =
    inr (lifted_whole ends out.bytes t number (Some out.ended.0) (told_is _ _ _ t out.read calm.told) out.ended.1 (is, out.ended.2))
lift-completes words rack ends status.Fault number is (inr (inr made)) t calm = absurd (no_script words made.ask order.Lift made.words_are calm.command)
lift-completes words rack ends status.SinkFailed number is (inl out) t calm = absurd (calm.sink_good out.1.rose)
lift-completes words rack ends status.SinkFailed number is (inr (inl out)) t calm = absurd (calm.sink_good out.1.rose)
lift-completes words rack ends status.SinkFailed number is (inr (inr (inl out))) t calm = absurd (one_order words out.command calm.command)
lift-completes words rack ends status.SinkFailed number is (inr (inr (inr (inl out)))) t calm = absurd (calm.sink_good (lift_stopped out.bytes ends.sink ends.sink_after out.ended))
lift-completes words rack ends status.SinkFailed number is (inr (inr (inr (inr made)))) t calm = absurd (no_script words made.ask order.Lift made.words_are calm.command)
lift-completes words rack ends status.NoMemory number is out t calm = inl is
lift-completes words rack ends status.TooLong number is out t calm = absurd (not_much words order.Lift ends t out.0 calm)

-- a source that isn't read gives nothing
kept_source : (ends : PlayEnds) (limit : ℕ) → ends.source_after ≡ ends.source → GivesUpTo limit ends.source ends.source_after
kept_source ends limit same =
    subst (GivesUpTo limit ends.source) (sym same) (record { bytes = []; given = Consumes-nil ends.source.bytes; within = omega arith })

unread : (words : List (List ℕ)) (ends : PlayEnds) (limit : ℕ) → IsUnread words ends → GivesUpTo limit ends.source ends.source_after
unread words ends limit u = kept_source ends limit u.unread

-- a source that is read whole gives no more than it may, and one that is too long one byte more
whole : (most : ℕ) (before after : End) (bytes : List ℕ) → GivesAll most before after bytes → GivesUpTo (most + 1) before after
whole most before after bytes g = record { bytes = bytes; given = g.given; within = (let w = g.within in omega arith) }

above : (most : ℕ) (before after : End) (bytes : List ℕ) → GivesTooMuch most before after bytes → GivesUpTo (most + 1) before after
above most before after bytes g = record { bytes = bytes; given = g.given; within = g.within }

-- however a play ends, no more than one byte above the longest script is read
pub reads-bounded : (words : List (List ℕ)) (rack : List SpareShown) (ends : PlayEnds) (how : PlayStatus) → IsOutcome words rack ends how
    → GivesUpTo (SCRIPT_MAX + 1) ends.source ends.source_after
reads-bounded words rack ends status.Done (inl out) = whole SCRIPT_MAX _ _ out.bytes out.read
reads-bounded words rack ends status.Done (inr (inl out)) = whole SCRIPT_MAX _ _ out.bytes out.read
reads-bounded words rack ends status.Done (inr (inr made)) = kept_source ends _ made.unread
reads-bounded words rack ends status.Usage out = unread words ends _ out.0
reads-bounded words rack ends status.SourceFailed out = out.0.read
reads-bounded words rack ends status.Fault (inl out) = whole SCRIPT_MAX _ _ out.bytes out.read
reads-bounded words rack ends status.Fault (inr (inl out)) = whole SCRIPT_MAX _ _ out.bytes out.read
reads-bounded words rack ends status.Fault (inr (inr made)) = kept_source ends _ made.unread
reads-bounded words rack ends status.SinkFailed (inl out) = unread words ends _ out.0
reads-bounded words rack ends status.SinkFailed (inr (inl out)) = above SCRIPT_MAX _ _ out.0.bytes out.0.read
reads-bounded words rack ends status.SinkFailed (inr (inr (inl out))) = whole SCRIPT_MAX _ _ out.bytes out.read
reads-bounded words rack ends status.SinkFailed (inr (inr (inr (inl out)))) = whole SCRIPT_MAX _ _ out.bytes out.read
reads-bounded words rack ends status.SinkFailed (inr (inr (inr (inr made)))) = kept_source ends _ made.unread
reads-bounded words rack ends status.NoMemory (inl out) = out.read
reads-bounded words rack ends status.NoMemory (inr (inl out)) = whole SCRIPT_MAX _ _ out.bytes out.read
reads-bounded words rack ends status.NoMemory (inr (inr (inl out))) = whole SCRIPT_MAX _ _ out.bytes out.read
reads-bounded words rack ends status.NoMemory (inr (inr (inr made))) = kept_source ends _ made.unread
reads-bounded words rack ends status.TooLong out = above SCRIPT_MAX _ _ out.0.bytes out.0.read

-- a run whose sink failed
run_stopped : (ask : Ask) (rack : List SpareShown) (before after : End) → PlayEndsRun ask rack before after status.SinkFailed → Rose before.faults after.faults
run_stopped ask rack before after (inl stops) = stops.rose
run_stopped ask rack before after (inr (inl (items, run, stops))) = stops.rose
run_stopped ask rack before after (inr (inr (items, fault, halted, stops))) = stops.rose

-- how a run ends whose sink doesn't fail
pub run-completes : (words : List (List ℕ)) (rack : List SpareShown) (ends : PlayEnds) (how : PlayStatus) (number : ℕ) → number ≡ play_status_number how → IsOutcome words rack ends how
    → CompletesRun words rack ends number
run-completes words rack ends status.Done number is (inl out) ask range are good = absurd (no_script words ask order.Play are out.command)
run-completes words rack ends status.Done number is (inr (inl out)) ask range are good = absurd (no_script words ask order.Lift are out.command)
run-completes words rack ends status.Done number is (inr (inr made)) ask range are good = inr (None, is, made)
run-completes words rack ends status.Usage number is out ask range are good = absurd (out.0.no_run ask range are)
run-completes words rack ends status.SourceFailed number is out ask range are good = absurd (no_order words ask are out.0.command)
run-completes words rack ends status.Fault number is (inl out) ask range are good = absurd (no_script words ask order.Play are out.command)
run-completes words rack ends status.Fault number is (inr (inl out)) ask range are good = absurd (no_script words ask order.Lift are out.command)
run-completes words rack ends status.Fault number is (inr (inr made)) ask range are good = inr (Some made.ended.1, is, made)
run-completes words rack ends status.SinkFailed number is (inl out) ask range are good = absurd (good out.1.rose)
run-completes words rack ends status.SinkFailed number is (inr (inl out)) ask range are good = absurd (good out.1.rose)
run-completes words rack ends status.SinkFailed number is (inr (inr (inl out))) ask range are good = absurd (no_script words ask order.Play are out.command)
run-completes words rack ends status.SinkFailed number is (inr (inr (inr (inl out)))) ask range are good = absurd (no_script words ask order.Lift are out.command)
run-completes words rack ends status.SinkFailed number is (inr (inr (inr (inr made)))) ask range are good =
    absurd (good (run_stopped made.ask rack ends.sink ends.sink_after made.ended))
run-completes words rack ends status.NoMemory number is out ask range are good = inl is
run-completes words rack ends status.TooLong number is out ask range are good = absurd (no_order words ask are out.0.command)
