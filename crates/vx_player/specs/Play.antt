-- To be believed.
-- A play: its items, one for each step, and how it ends.
use Rattle.std.specs.Prelude.{◌≡◌, ℕ, List, [], ◌∷◌, ◌++◌, position, Option, Some, None, ◌⊎◌}
use Rattle.std.specs.Str.{bytes_eq}
use Rattle.vx_script.specs.declared.Cause.TheVariants as cause
use Rattle.vx_script.specs.Command.{Command, Plug}
use Rattle.vx_setup.specs.Script.{Step, script}
use Rattle.vx_run.specs.Position.{streams_after, xids_after, moment_after, message_after}
use Rattle.vx_run.specs.Item.{Item, Fault}
use Rattle.vx_setup.specs.Rack.{SpareShown, without_at}
use Rattle.vx_player.specs.Stage.{Stage, tables_of, beginning, refusal}
use Rattle.vx_player.specs.Making.{Makes}

-- the bytes of a connection's stream since its last whole record, after a command
abbrev pub stream_after : Stage → Command → ℕ → List ℕ
stream_after s command n = streams_after s.streams command n

-- the xid of the last call that a connection kept, after a command
abbrev pub xid_after : Stage → Command → ℕ → ℕ
xid_after s command n = xids_after (tables_of s) s.streams s.xids command n

-- the message of the record that a command brings to its end
abbrev pub message_of : Stage → Command → Option (List ℕ)
message_of s command = message_after s.streams command

-- the spares without the first of the name of a `plug`
abbrev pub rack_after : List SpareShown → Command → List SpareShown
rack_after rack (Plug p secondary name) = without_at rack (position (λ spare. bytes_eq spare.name name) rack)
rack_after rack _ = rack

-- an item takes a play from one stage to the next: its command isn't refused, and it made what it should
pub record PlayerTakes (before : Stage) (item : Item) (after : Stage) : Type 0 where
  pub allowed : refusal before item.command ≡ None
  pub makes : Makes before item.command item.group item.note after.gateway
  pub message : item.message ≡ message_of before item.command
  pub at : item.moment ≡ after.moment
  pub streams : (conn : ℕ) → after.streams conn ≡ stream_after before item.command conn
  pub xids : (conn : ℕ) → after.xids conn ≡ xid_after before item.command conn
  pub rack : after.rack ≡ rack_after before.rack item.command
  pub moment : after.moment ≡ moment_after before.moment item.command

-- these steps, one item each, take a play from one stage to another
abbrev pub Plays : Stage → List Step → List Item → Stage → Type 0
Plays before [] [] after = after ≡ before
Plays before (step ∷ steps) (item ∷ items) after =
    (item.command ≡ step.command) × (next : Stage) × PlayerTakes before item next × Plays next steps items after
Plays before [] (item ∷ items) after = ⊥
Plays before (step ∷ steps) [] after = ⊥

-- the steps of a script in front of one that is refused, or all of them, with these spares
pub record PlaysFront (script_text : List ℕ) (rack : List SpareShown) (steps : List Step) (items : List Item) (end : Stage) : Type 0 where
  pub later : List Step
  pub front : (script script_text).steps ≡ steps ++ later
  pub played : Plays (beginning rack) steps items end

-- the next step is refused for its cause
pub record IsPlayerRefused (script_text : List ℕ) (steps : List Step) (end : Stage) (fault : Fault) : Type 0 where
  pub step : Step
  pub later : List Step
  pub next : (script script_text).steps ≡ steps ++ step ∷ later
  pub line : fault.line ≡ step.line
  pub refused : refusal end step.command ≡ Some fault.cause

-- each step was taken, and the line behind them is outside the grammar
pub record IsPlayerOutside (script_text : List ℕ) (steps : List Step) (fault : Fault) : Type 0 where
  pub all : (script script_text).steps ≡ steps
  pub bad : (script script_text).bad ≡ Some fault.line
  pub form : fault.cause ≡ cause.Form

-- each line was played
pub record IsPlayerWhole (script_text : List ℕ) (steps : List Step) : Type 0 where
  pub all : (script script_text).steps ≡ steps
  pub none_bad : (script script_text).bad ≡ None

-- how a play ends behind these steps: at the end of the script, or at its first fault
abbrev pub EndsBehind : List ℕ → List Step → Stage → Option Fault → Type 0
EndsBehind script_text steps end None = IsPlayerWhole script_text steps
EndsBehind script_text steps end (Some fault) = IsPlayerRefused script_text steps end fault ⊎ IsPlayerOutside script_text steps fault

-- the play of a script: its items, and the fault at which it ends
pub record IsPlay (script_text : List ℕ) (rack : List SpareShown) (items : List Item) (fault : Option Fault) : Type 0 where
  pub steps : List Step
  pub end : Stage
  pub played : PlaysFront script_text rack steps items end
  pub ends : EndsBehind script_text steps end fault
