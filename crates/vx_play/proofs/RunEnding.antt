-- How a run ends that a number makes, its lines written.
use Rattle.std.proofs.Common.{◌≡◌, ◌≤◌, ℕ, ◌+◌, ◌*◌, List, Some, refl, sym, ap, ◌∙◌, subst, inl, inr}
use Rattle.std.specs.Io.KnownBytes.{Appends}
use Rattle.std.proofs.KnownBytes.{Appends-trans}
use Rattle.vx_script.specs.declared.Cause.{Cause}
use Rattle.vx_script.specs.Cause.{cause_word}
use Rattle.vx_trace.specs.Output.{FaultLine}
use Rattle.vx_trace.specs.Text.{line_text}
use Rattle.vx_setup.specs.declared.stops.Refusal.{Refusal}
use Rattle.vx_setup.specs.declared.stops.Refusal.TheVariants as stop
use Rattle.vx_setup.specs.Rack.{SpareShown}
use Rattle.vx_text.specs.Ends.{End}
use Rattle.vx_text.specs.Writing.{StopsIn}
use Rattle.vx_gen.specs.declared.steps.TheConstants.{HEAD_STEPS}
use Rattle.vx_gen.specs.declared.telling.Counts.{Counts}
use Rattle.vx_gen.specs.declared.words.Ask.{Ask}
use Rattle.vx_gen.specs.SummaryText.{title_text, summary_text}
use Rattle.vx_player.specs.declared.made_run.Halt.{Halt}
use Rattle.vx_play.specs.declared.run.PlayStatus.{PlayStatus}
use Rattle.vx_play.specs.declared.run.PlayStatus.TheVariants as status
use Rattle.vx_run.specs.Item.{Fault, last_line}
use Rattle.vx_player.specs.Stage.{refusal}
use Rattle.vx_player.specs.PlayerState.{PlayerState}
use Rattle.vx_player.specs.Wanting.{StopsFor}
use Rattle.vx_player.specs.Generated.{IsPlayerRun, IsHalted, counts_of}
use Rattle.vx_gen.specs.Asked.{IsInRange, spelled}
use Rattle.vx_play.specs.Ended.{PutsLast}
use Rattle.vx_play.specs.Outcome.{PlayEnds, IsUnread, IsOutcome, play_usage_line}
use Rattle.vx_play.specs.RunEnded.{PlayEndsRun}
use Rattle.vx_play.specs.StepsEnded.{EndsSteps}
use Rattle.vx_player.specs.Counting.{Running, HaltsIn}
use Rattle.vx_player.proofs.Laws.Halting.{driven-halts}
use Rattle.vx_player.proofs.Laws.Upholding.{plays-uphold}
use Rattle.vx_text.proofs.Laws.Moved.{stops-behind}

-- ---- how a run ends

-- a run that was made whole
pub run-whole : (ask : Ask) (own rack : List SpareShown) (count : ℕ) (player : PlayerState) (counts : Counts) → own ≡ rack
    → (r : Running ask.seed own (HEAD_STEPS + 2 * ask.steps) player counts) → IsPlayerRun ask rack r.items × (counts ≡ counts_of r.items)
run-whole ask own rack count player counts alike r = (
  subst (λ x. IsPlayerRun ask x r.items) alike
      (record { end = r.stage; front = r.front; upholds = plays-uphold own r.front.steps r.items r.stage r.front.driven }),
  r.counted,
)

-- a run of which a step is refused
pub run-refused : (ask : Ask) (own rack : List SpareShown) (halt : Halt) (fault : Fault) → own ≡ rack → (h : HaltsIn ask.seed own halt) → halt.stop ≡ stop.Refused fault.cause
    → fault.line ≡ halt.number → IsHalted ask rack h.items fault
run-refused ask own rack halt fault alike h is line =
    let refused : refusal h.stage h.command ≡ Some fault.cause = subst (StopsFor h.stage h.command) is h.stops in
    let found = driven-halts ask.seed own h.place h.items h.stage h.front h.command fault.cause h.next refused in
    subst (λ x. IsHalted ask x h.items fault) alike
    (record {
      place = h.place;
      end = h.stage;
      front = h.front;
      upholds = plays-uphold own h.front.steps h.items h.stage h.front.driven;
      p = found.p;
      name = found.name;
      next = found.next;
      lacks = found.lacks;
      refused = subst (λ c. refusal h.stage c ≡ Some fault.cause) found.command_is refused;
      spare = found.spare;
      line = line ∙ h.number;
    })

-- its last lines are written, or the sink failed in them
pub whole-put : (ask : Ask) (own rack : List SpareShown) (player : PlayerState) (counts : Counts) (line : List ℕ) (before after : End) (result : PlayStatus) → own ≡ rack
    → Running ask.seed own (HEAD_STEPS + 2 * ask.steps) player counts → line ≡ summary_text counts → PutsLast status.Done line before after result
    → EndsSteps ask rack before after result
whole-put ask own rack player counts line before after result alike r line_is put = ending put
  where
    whole : IsPlayerRun ask rack r.items × (counts ≡ counts_of r.items)
    whole = run-whole ask own rack 0 player counts alike r

    text_is : line ≡ summary_text (counts_of r.items)
    text_is = line_is ∙ ap summary_text whole.1

    ending : PutsLast status.Done line before after result → EndsSteps ask rack before after result
    ending (inl (is, taken)) = subst (EndsSteps ask rack before after) (sym is) (r.items, whole.0, subst (Appends before.bytes after.bytes) text_is taken)
    ending (inr (is, stops)) = subst (EndsSteps ask rack before after) (sym is) (inl (r.items, whole.0, subst (StopsIn before after) text_is stops))

pub fault-put : (ask : Ask) (own rack : List SpareShown) (halt : Halt) (fault : Fault) (before after : End) (result : PlayStatus) → own ≡ rack
    → HaltsIn ask.seed own halt → halt.stop ≡ stop.Refused fault.cause → fault.line ≡ halt.number
    → PutsLast status.Fault (last_line (Some fault)) before after result → EndsSteps ask rack before after result
fault-put ask own rack halt fault before after result alike h is line put = ending put
  where
    halted : IsHalted ask rack h.items fault
    halted = run-refused ask own rack halt fault alike h is line

    ending : PutsLast status.Fault (last_line (Some fault)) before after result → EndsSteps ask rack before after result
    ending (inl (is, taken)) = subst (EndsSteps ask rack before after) (sym is) (h.items, fault, halted, taken)
    ending (inr (is, stops)) = subst (EndsSteps ask rack before after) (sym is) (inr (h.items, fault, halted, stops))

-- a step that isn't taken ends the run
pub stop-put : (ask : Ask) (own rack : List SpareShown) (number : ℕ) (why : Refusal) (before after : End) (result : PlayStatus) → own ≡ rack
    → HaltsIn ask.seed own (record { number = number; stop = why })
    → ((cause : Cause) → why ≡ stop.Refused cause → PutsLast status.Fault (last_line (Some (record { line = number; cause = cause }))) before after result)
    → (why ≡ stop.NoMemory → (result ≡ status.NoMemory) × (after ≡ before)) → EndsSteps ask rack before after result
stop-put ask own rack number (stop.Refused cause) before after result alike h refused memory =
    fault-put ask own rack (record { number = number; stop = stop.Refused cause }) (record { line = number; cause = cause }) before after result alike h refl refl (refused cause refl)
stop-put ask own rack number stop.NoMemory before after result alike h refused memory =
    let ended = memory refl in
    subst (EndsSteps ask rack before after) (sym ended.0) ended.1

-- the line of a step that is refused
pub refused-line : (why : Refusal) (found cause : Cause) (number : ℕ) (line word : List ℕ) → why ≡ stop.Refused found → why ≡ stop.Refused cause → word ≡ cause_word found
    → line ≡ line_text (FaultLine number word) → line ≡ last_line (Some (record { line = number; cause = cause }))
refused-line why found cause number line word first second word_is line_is =
    let same : found ≡ cause = cc in
    line_is ∙ ap (λ w. line_text (FaultLine number w)) (word_is ∙ ap cause_word same)

-- behind its first line a run ends so
pub run-ended : (ask : Ask) (rack : List SpareShown) (before mid after : End) (result : PlayStatus) → Appends before.bytes mid.bytes (title_text ask) → before.faults ≤ mid.faults
    → EndsSteps ask rack mid after result → PlayEndsRun ask rack before after result
run-ended ask rack before mid after status.Done title counted (items, run, taken) =
    (items, run, Appends-trans before.bytes mid.bytes after.bytes _ _ title taken)
run-ended ask rack before mid after status.Fault title counted (items, fault, halted, taken) =
    (items, fault, halted, Appends-trans before.bytes mid.bytes after.bytes _ _ title taken)
run-ended ask rack before mid after status.SinkFailed title counted (inl (items, run, stops)) =
    inr (inl (items, run, stops-behind before mid after _ _ title counted stops))
run-ended ask rack before mid after status.SinkFailed title counted (inr (items, fault, halted, stops)) =
    inr (inr (items, fault, halted, stops-behind before mid after _ _ title counted stops))
run-ended ask rack before mid after status.NoMemory title counted same =
    subst (λ (e : End). Appends before.bytes e.bytes (title_text ask)) (sym same) title
run-ended ask rack before mid after status.Usage title counted h = absurd h
run-ended ask rack before mid after status.SourceFailed title counted h = absurd h
run-ended ask rack before mid after status.TooLong title counted h = absurd h

-- ---- how the program ends

-- words that ask for a run
pub run-outcome : (words : List (List ℕ)) (rack : List SpareShown) (ends : PlayEnds) (ask : Ask) (how : PlayStatus) → IsInRange ask → words ≡ spelled ask
    → ends.source_after ≡ ends.source → PlayEndsRun ask rack ends.sink ends.sink_after how → IsOutcome words rack ends how
run-outcome words rack ends ask status.Done range are unread ended = inr (inr (record { ask = ask; in_range = range; words_are = are; unread = unread; ended = ended }))
run-outcome words rack ends ask status.Fault range are unread ended = inr (inr (record { ask = ask; in_range = range; words_are = are; unread = unread; ended = ended }))
run-outcome words rack ends ask status.SinkFailed range are unread ended =
    inr (inr (inr (inr (record { ask = ask; in_range = range; words_are = are; unread = unread; ended = ended }))))
run-outcome words rack ends ask status.NoMemory range are unread ended =
    inr (inr (inr (record { ask = ask; in_range = range; words_are = are; unread = unread; ended = ended })))
run-outcome words rack ends ask status.Usage range are unread ended = absurd ended
run-outcome words rack ends ask status.SourceFailed range are unread ended = absurd ended
run-outcome words rack ends ask status.TooLong range are unread ended = absurd ended

-- words of no command
pub usage-outcome : (words : List (List ℕ)) (rack : List SpareShown) (ends : PlayEnds) (result : PlayStatus) → IsUnread words ends
    → PutsLast status.Usage play_usage_line ends.sink ends.sink_after result → IsOutcome words rack ends result
usage-outcome words rack ends result unread (inl (is, taken)) = subst (IsOutcome words rack ends) (sym is) (unread, taken)
usage-outcome words rack ends result unread (inr (is, stops)) = subst (IsOutcome words rack ends) (sym is) (inl (unread, stops))
