-- What a trace was found to be, and how that is told.
use Rattle.std.specs.Prelude.{◌≡◌, ℕ, true, false, ⊤, List, take, ◌⊎◌}
use Rattle.std.specs.Io.KnownBytes.{Appends}
use Rattle.vx_text.specs.Ends.{End}
use Rattle.vx_text.specs.Writing.{StopsIn}
use Rattle.vx_rules.specs.Legal.{IsLegal}
use Rattle.vx_flow.specs.Event.{Event}
use Rattle.vx_flow.specs.Linearization.{linearization}
use Rattle.vx_history.specs.declared.cause.Cause.TheVariants as cause
use Rattle.vx_history.specs.declared.lines.Far.{Far}
use Rattle.vx_history.specs.declared.lines.Far.TheVariants as far
use Rattle.vx_check.specs.declared.run.CheckStatus.{CheckStatus}
use Rattle.vx_check.specs.declared.run.CheckStatus.TheVariants as status
use Rattle.vx_check.specs.declared.run.Verdict.{Verdict}
use Rattle.vx_check.specs.declared.run.Verdict.TheVariants as verdict
use Rattle.vx_history.specs.CheckState.{CheckState, abort_port}
use Rattle.vx_history.specs.History.{Lawful, Faulty, Through, Stops, TraceTells, TraceBegins}
use Rattle.vx_check.specs.Outcome.{legal_line, spoiled_line, check_long_line}

-- what the walk along all lines of a trace finds
abbrev pub verdict_of : Far → Verdict
verdict_of (far.Through next true) = verdict.Legal
verdict_of (far.Through next false) = verdict.Spoiled next cause.Place
verdict_of (far.Stops line why) = verdict.Spoiled line why
verdict_of far.NoMemory = verdict.NoMemory

-- what a whole trace was found to be
abbrev pub IsJudged : List ℕ → Verdict → Type 0
IsJudged bytes verdict.Legal = (events : List Event) × TraceTells bytes (Lawful events) × IsLegal abort_port (linearization events)
IsJudged bytes (verdict.Spoiled line why) = TraceTells bytes (Faulty line why)
IsJudged bytes verdict.TooLong = ⊥
IsJudged bytes verdict.NoMemory = ⊤

-- what the front of a longer trace was found to be
abbrev pub IsFrontJudged : ℕ → List ℕ → Verdict → Type 0
IsFrontJudged most bytes verdict.Legal = ⊥
IsFrontJudged most bytes (verdict.Spoiled line why) = TraceBegins (take most bytes) (Stops line why)
IsFrontJudged most bytes verdict.TooLong = (events : List Event) × (after : CheckState) × TraceBegins (take most bytes) (Through events after)
IsFrontJudged most bytes verdict.NoMemory = ⊤

-- a line was written by a check that ends so, or the sink failed in it
abbrev pub CheckPutsLine : CheckStatus → List ℕ → End → End → CheckStatus → Type 0
CheckPutsLine how line before after result = ((result ≡ how) × Appends before.bytes after.bytes line) ⊎ ((result ≡ status.SinkFailed) × StopsIn before after line)

-- what a trace was found to be was told
abbrev pub IsCheckTold : Verdict → End → End → CheckStatus → Type 0
IsCheckTold verdict.Legal before after result = CheckPutsLine status.Legal legal_line before after result
IsCheckTold (verdict.Spoiled line why) before after result = CheckPutsLine status.Spoiled (spoiled_line line why) before after result
IsCheckTold verdict.TooLong before after result = CheckPutsLine status.TooLong check_long_line before after result
IsCheckTold verdict.NoMemory before after result = (result ≡ status.NoMemory) × (after ≡ before)
