-- A device_docmd whose command takes its input, on some gateway.
use Rattle.std.specs.Prelude.{◌≡◌, ℕ, Bool, true, ⊤, List, Option, Some, None}
use Rattle.vx_rules.specs.Table.{Table}
use Rattle.vx_calls.specs.Call.{Call}
use Rattle.vx_calls.specs.Call as call
use Rattle.vx_rules.specs.Docmd.{Command, command_of, takes_input}

-- the command, where there is one, takes this input at some own address and with some links
abbrev pub TakesIt : Option Command → Bool → List ℕ → Type 0
TakesIt None big bytes = ⊤
TakesIt (Some command) big bytes = (own : ℕ) × (links : Table) × (takes_input command own links big bytes ≡ true)

abbrev pub TakesInput : ℕ → Bool → List ℕ → Type 0
TakesInput cmd big bytes = TakesIt (command_of cmd) big bytes

-- a device_docmd has such input
abbrev pub HasInput : Call → Type 0
HasInput (call.Docmd lid flags io_timeout lock_timeout cmd big size bytes) = TakesInput cmd big bytes
HasInput _ = ⊤
