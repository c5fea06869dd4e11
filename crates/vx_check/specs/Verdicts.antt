-- To be believed.
-- What is answered of a trace that its source tells, where neither end has a fault.
use Rattle.std.specs.Prelude.{◌≡◌, ◌≤◌, ◌<◌, ℕ, List, [], length, take, Some, ◌⊎◌}
use Rattle.vx_io_traits.specs.Faults.{Rose}
use Rattle.vx_rules.specs.Legal.{IsLegal}
use Rattle.vx_flow.specs.Linearization.{linearization}
use Rattle.vx_check.specs.declared.run.CheckStatus.TheVariants as status
use Rattle.vx_history.specs.CheckState.{abort_port}
use Rattle.vx_history.specs.Formed.{run_trace}
use Rattle.vx_history.specs.declared.limits.TheConstants.{TRACE_MAX}
use Rattle.vx_run.specs.Item.{Item}
use Rattle.vx_run.specs.RunText.{IsPrintable}
use Rattle.vx_run.specs.Forming.{IsFormed}
use Rattle.std.specs.List.{All}
use Rattle.vx_history.specs.History.{History, Lawful, Faulty, Walk, Through, Stops, TraceTells, TraceBegins}
use Rattle.vx_check.specs.Outcome.{CheckEnds, Wrote, check_status_number, legal_line, spoiled_line, check_long_line}

-- there are no words, the source has these bytes to give, and neither count of faults rose
pub record IsUndisturbed (words : List (List ℕ)) (ends : CheckEnds) (bytes : List ℕ) : Type 0 where
  pub no_words : words ≡ []
  pub told : ends.source.bytes ≡ Some bytes
  pub source_good : Rose ends.source.faults ends.source_after.faults → ⊥
  pub sink_good : Rose ends.sink.faults ends.sink_after.faults → ⊥

-- memory ran out, and nothing was written
abbrev pub RanOut : CheckEnds → ℕ → Type 0
RanOut ends number = (number ≡ check_status_number status.NoMemory) × (ends.sink_after ≡ ends.sink)

-- what is answered where the bytes tell this
abbrev pub IsCheckAnswered : CheckEnds → ℕ → History → Type 0
IsCheckAnswered ends number (Lawful events) = (number ≡ check_status_number status.Legal) × IsLegal abort_port (linearization events) × Wrote ends legal_line
IsCheckAnswered ends number (Faulty line why) = (number ≡ check_status_number status.Spoiled) × Wrote ends (spoiled_line line why)

-- a trace that isn't too long is answered so, or memory is wanting
abbrev pub Completes : ℕ → List (List ℕ) → CheckEnds → ℕ → Type 0
Completes most words ends number = (bytes : List ℕ) (told : History) → IsUndisturbed words ends bytes → length bytes ≤ most → TraceTells bytes told
    → RanOut ends number ⊎ IsCheckAnswered ends number told

-- what is answered where the lines of a trace that end within the longest are taken so far
abbrev pub IsFrontAnswered : CheckEnds → ℕ → Walk → Type 0
IsFrontAnswered ends number (Through events after) = (number ≡ check_status_number status.TooLong) × Wrote ends check_long_line
IsFrontAnswered ends number (Stops line why) = (number ≡ check_status_number status.Spoiled) × Wrote ends (spoiled_line line why)

-- a trace that is too long is answered so, or memory is wanting
abbrev pub CompletesLong : ℕ → List (List ℕ) → CheckEnds → ℕ → Type 0
CompletesLong most words ends number = (bytes : List ℕ) (far : Walk) → IsUndisturbed words ends bytes → most < length bytes → TraceBegins (take most bytes) far
    → RanOut ends number ⊎ IsFrontAnswered ends number far

-- there are no words; the source has exactly the trace of a formed run to give, which isn't too long; and neither count of faults rose
pub record GivesRun (words : List (List ℕ)) (ends : CheckEnds) : Type 0 where
  pub no_words : words ≡ []
  pub items : List Item
  pub formed : IsFormed abort_port items
  pub printable : All IsPrintable items
  pub few : length (run_trace items) ≤ TRACE_MAX
  pub given : ends.source.bytes ≡ Some (run_trace items)
  pub read_well : Rose ends.source.faults ends.source_after.faults → ⊥
  pub written_well : Rose ends.sink.faults ends.sink_after.faults → ⊥

-- where the trace of a formed run is given, it is legal, or memory ran out
abbrev pub EndsFormed : List (List ℕ) → CheckEnds → ℕ → Type 0
EndsFormed words ends number = GivesRun words ends → (number ≡ 0) ⊎ (number ≡ 5)
