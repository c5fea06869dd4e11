-- To be believed.
-- A run that a number makes: its steps, each by its place and by where the play then stands, what is counted of it, and how it ends.
use Rattle.std.specs.Prelude.{◌≡◌, ℕ, ◌+◌, ◌*◌, Bool, true, false, is_some, List, [], ◌∷◌, length, count_by, Some, None, ◌⊎◌}
use Rattle.std.specs.List.{flat_map, slice_get}
use Rattle.vx_calls.specs.declared.codes.ErrorCode.{ErrorCode}
use Rattle.vx_calls.specs.declared.codes.ErrorCode.TheVariants as code
use Rattle.vx_script.specs.declared.Cause.TheVariants as cause
use Rattle.vx_script.specs.Command.{Command, At, Plug}
use Rattle.vx_trace.specs.Output.{Output}
use Rattle.vx_exchange.specs.SrqState.{Srq, Front}
use Rattle.vx_rules.specs.State.{pending_at}
use Rattle.vx_flow.specs.Event.{Event, Take}
use Rattle.vx_setup.specs.Script.{Step}
use Rattle.vx_setup.specs.Rack.{SpareShown, spare_at}
use Rattle.vx_gen.specs.declared.telling.Counts.{Counts}
use Rattle.vx_gen.specs.declared.words.Ask.{Ask}
use Rattle.vx_gen.specs.Drawing.{draw, connection}
use Rattle.vx_gen.specs.Generating.{head, drawn}
use Rattle.vx_run.specs.Item.{Item, Fault, noted, events, answer_errors, moved}
use Rattle.vx_player.specs.Stage.{Stage, tables_of, beginning, refusal}
use Rattle.vx_run.specs.Notes.{is_wait}
use Rattle.vx_player.specs.Play.{Plays}
use Rattle.vx_player.specs.Upholding.{Upholds}

-- ---- the steps

-- a call of the connection isn't answered yet
abbrev pub has_call : Stage → ℕ → Bool
has_call s conn = is_some (pending_at (tables_of s) conn)

-- the step of the k-th draw at a stage, where k is counted from 1: by the draw, and by whether the connection that it chooses has a call
abbrev pub drawn_at : (seed k : ℕ) → Stage → Command
drawn_at seed k s = drawn k (draw seed k) (has_call s (connection (draw seed k)))

-- A command is that of a place, counted from 0, of a run at this stage: the head's; or, behind the head, the moment k and then the
-- step of the k-th draw, for k = 1, 2, 3 and so on.
abbrev pub IsGenerated : (seed place : ℕ) → Stage → Command → Type 0
IsGenerated seed place s command =
    (slice_get head place ≡ Some command)
    ⊎ ((k : ℕ) × (place ≡ length head + 2 * k) × (command ≡ At (k + 1)))
    ⊎ ((k : ℕ) × (place ≡ length head + 2 * k + 1) × (command ≡ drawn_at seed (k + 1) s))

-- the steps that a play takes from a place of a run on are those of their places, each at the stage that stands before it, and are
-- numbered from 1
abbrev pub AreGenerated : (seed place : ℕ) (before : Stage) (steps : List Step) (items : List Item) (after : Stage) → Plays before steps items after → Type 0
AreGenerated seed place before [] [] after played = Unit {0}
AreGenerated seed place before (step ∷ steps) (item ∷ items) after played =
    (step.line ≡ place + 1) × IsGenerated seed place before step.command × AreGenerated seed (place + 1) played.1 steps items after played.3
AreGenerated seed place before [] (item ∷ items) after played = ⊥
AreGenerated seed place before (step ∷ steps) [] after played = ⊥

-- ---- what is counted

abbrev pub is_failure : ErrorCode → Bool
is_failure code.Ok = false
is_failure _ = true

-- the interrupt that a take gave, where it gave one
abbrev pub interrupts : Event → List Srq
interrupts (Take conn channel (Front srq)) = srq ∷ []
interrupts _ = []

-- the errors of the answers to calls, in order
abbrev pub errors : List Item → List ErrorCode
errors items = flat_map answer_errors (events items)

-- the notes of these steps, in order
abbrev pub notes : List Item → List Output
notes items = flat_map (λ item. noted item.note) items

-- the answers of a run, those with an error, the transfers of its turns' moves, the interrupts that were taken, and the notes that
-- a call waits
abbrev pub counts_of : List Item → Counts
counts_of items = record {
  answers = length (errors items);
  errors = count_by is_failure (errors items);
  transfers = length (flat_map moved (events items));
  interrupts = length (flat_map interrupts (events items));
  waits = count_by is_wait (notes items);
}

-- ---- how a run ends

-- so many steps of a run are taken, with these spares
pub record IsDriven (seed : ℕ) (rack : List SpareShown) (count : ℕ) (items : List Item) (end : Stage) : Type 0 where
  pub steps : List Step
  pub driven : Plays (beginning rack) steps items end
  pub generated : AreGenerated seed 0 (beginning rack) steps items end driven
  pub number : length steps ≡ count

-- a whole run: the head, and a moment and a step for each draw
pub record IsPlayerRun (ask : Ask) (rack : List SpareShown) (items : List Item) : Type 0 where
  pub end : Stage
  pub front : IsDriven ask.seed rack (length head + 2 * ask.steps) items end
  pub upholds : Upholds items

-- The next step of a run behind these is one of the head's `plug` commands, and the rack has no spare of its name: it is refused for
-- that. The steps are numbered from 1.
pub record IsHalted (ask : Ask) (rack : List SpareShown) (items : List Item) (fault : Fault) : Type 0 where
  pub place : ℕ
  pub end : Stage
  pub front : IsDriven ask.seed rack place items end
  pub upholds : Upholds items
  pub p : ℕ
  pub name : List ℕ
  pub next : slice_get head place ≡ Some (Plug p None name)
  pub lacks : spare_at rack name ≡ None
  pub refused : refusal end (Plug p None name) ≡ Some fault.cause
  pub spare : fault.cause ≡ cause.Spare
  pub line : fault.line ≡ place + 1
