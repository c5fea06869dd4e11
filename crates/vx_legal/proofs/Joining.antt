-- What the player writes is what the checker calls legal: the parts of the law.
use Rattle.std.proofs.Common.{◌≡◌, ℕ, List, [], ◌++◌, Option, Some, None, IfSome, ap, sym, subst, ◌∙◌, inl, inr, ◌⊎◌, arith}
use Rattle.std.specs.Prelude.{is_some, ◌≤◌, length}
use Rattle.std.specs.Io.KnownBytes.{Appends}
use Rattle.std.proofs.lemmas.Bool.{false≢true}
use Rattle.vx_setup.specs.Rack.{SpareShown}
use Rattle.vx_rules.specs.Legal.{IsLegal}
use Rattle.vx_run.specs.Item.{last_line}
use Rattle.vx_run.specs.RunText.{text}
use Rattle.vx_play.specs.declared.run.Order.TheVariants as order
use Rattle.vx_play.specs.declared.run.PlayStatus.{PlayStatus}
use Rattle.vx_play.specs.declared.run.PlayStatus.TheVariants as status
use Rattle.vx_play.specs.Ended.{version_in}
use Rattle.vx_play.specs.Outcome as player
use Rattle.vx_play.specs.Outcome.{order_of, play_status_number, IsOutcome, MakesRun}
use Rattle.vx_play.proofs.Laws.{one_order}
use Rattle.vx_history.specs.CheckState.{abort_port}
use Rattle.vx_history.specs.declared.limits.TheConstants.{TRACE_MAX}
use Rattle.vx_history.specs.History.{Lawful}
use Rattle.vx_history.specs.Formed.{FormedLaw, FormedLegalLaw, ToldLaw, run_trace, told_events}
use Rattle.vx_check.specs.Outcome.{Wrote, legal_line}
use Rattle.vx_check.specs.Verdicts.{IsUndisturbed, RanOut, IsCheckAnswered}
use Rattle.vx_legal.specs.Joined.{WritesLegal, PlaysLegal, PlaysAreLegal, RunsAreLegal, PlaysAreAnswered}

-- the play of a script of version 2 is a formed run that can be printed
pub plays-legal : FormedLaw → ToldLaw → FormedLegalLaw → PlaysAreLegal
plays-legal tells told legal t rack before after (items, played, written) two = record {
  items = items;
  play = played.play;
  written = subst (λ v. Appends before.bytes after.bytes (text v items ++ last_line None)) two written;
  tells = tells items played.upholds.formed (played.printable two);
  legal = subst (IsLegal abort_port) (sym (told items)) (legal items played.upholds.formed (played.printable two));
  all = told items;
}

no_run : (words : List (List ℕ)) (rack : List SpareShown) (ends : player.PlayEnds) (how : PlayStatus) → order_of words ≡ Some order.Play → MakesRun words rack ends how → ⊥
no_run words rack ends how command made = false≢true (ap (λ (ws : List (List ℕ)). is_some (order_of ws)) (sym made.words_are) ∙ ap is_some command)

-- a play that ended with 0
pub runs-legal : PlaysAreLegal → RunsAreLegal
runs-legal law words rack ends (how, is, outcome) command = by how is outcome where
  by : (how : PlayStatus) → 0 ≡ play_status_number how → IsOutcome words rack ends how → PlaysLegal rack ends
  by status.Done is (inl out) = record { script_text = out.bytes; read = out.read; legal = law out.bytes rack ends.sink ends.sink_after out.ended }
  by status.Done is (inr (inl lift)) = absurd (one_order words command lift.command)
  by status.Done is (inr (inr made)) = absurd (no_run words rack ends status.Done command made)
  by status.Usage is outcome = let e : 0 ≡ 1 = is in absurd (omega arith)
  by status.SourceFailed is outcome = let e : 0 ≡ 2 = is in absurd (omega arith)
  by status.Fault is outcome = let e : 0 ≡ 3 = is in absurd (omega arith)
  by status.SinkFailed is outcome = let e : 0 ≡ 4 = is in absurd (omega arith)
  by status.NoMemory is outcome = let e : 0 ≡ 5 = is in absurd (omega arith)
  by status.TooLong is outcome = let e : 0 ≡ 6 = is in absurd (omega arith)

-- what was taken by a sink that had nothing
all-taken : (before after : Option (List ℕ)) (trace bytes : List ℕ) → before ≡ Some [] → after ≡ Some trace → Appends before after bytes → trace ≡ bytes
all-taken before after trace bytes empty taken written = subst (λ b. Appends (Some []) b bytes) taken (subst (λ a. Appends a after bytes) empty written)

-- what the checker answers of it
pub plays-answered : RunsAreLegal → PlaysAreAnswered
plays-answered law words rack played checked number h ended completes =
    by (completes (run_trace wrote.items) (Lawful (told_events wrote.items)) given few wrote.tells)
  where
    run : PlaysLegal rack played
    run = law words rack played ended h.command

    same : h.script_text ≡ run.script_text
    same = subst (λ o. IfSome o (λ all. all ≡ run.script_text)) h.told run.read.whole

    wrote : WritesLegal run.script_text rack played.sink.bytes played.sink_after.bytes
    wrote = run.legal (ap version_in (sym same) ∙ h.version_is)

    trace_is : h.trace ≡ run_trace wrote.items
    trace_is = all-taken played.sink.bytes played.sink_after.bytes h.trace (run_trace wrote.items) h.empty h.taken wrote.written

    given : IsUndisturbed [] checked (run_trace wrote.items)
    given = subst (IsUndisturbed [] checked) trace_is h.given

    few : length (run_trace wrote.items) ≤ TRACE_MAX
    few = subst (λ xs. length xs ≤ TRACE_MAX) trace_is h.few

    by : RanOut checked number ⊎ IsCheckAnswered checked number (Lawful (told_events wrote.items)) → RanOut checked number ⊎ ((number ≡ 0) × Wrote checked legal_line)
    by (inl lacking) = inl lacking
    by (inr legal) = inr (legal.0, legal.2)
