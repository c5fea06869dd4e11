-- To be believed.
-- The commands of device_docmd (after VXI-11.2): their numbers, the input of each, and the job that each is.
use Rattle.std.specs.Prelude.{ℕ, ◌+◌, ◌*◌, Bool, true, not, ◌&&◌, ◌==◌, nat_le, if◌then◌else◌, List, [], ◌∷◌, length, Option, Some, None}
use Rattle.vx_488.specs.declared.transfers.TheConstants.{ADDRESS_MAX}
use Rattle.vx_calls.specs.declared.limits.TheConstants.{DOCMD_MAX}
use Rattle.vx_plan.specs.declared.tasks.Task.{Task}
use Rattle.vx_plan.specs.declared.tasks.Task.TheVariants.{Commands, Status, Atn, Ren, Pass, Own, Ifc}
use Rattle.vx_rules.specs.Table.{Table, uses_address}

pub data Command : Type 0 where
  SendCommand : Command
  BusStatus : Command
  AtnControl : Command
  RenControl : Command
  PassControl : Command
  BusAddress : Command
  IfcControl : Command

abbrev pub command_of : ℕ → Option Command
command_of cmd =
    if cmd == 0x020000 then Some SendCommand
    else if cmd == 0x020001 then Some BusStatus
    else if cmd == 0x020002 then Some AtnControl
    else if cmd == 0x020003 then Some RenControl
    else if cmd == 0x020004 then Some PassControl
    else if cmd == 0x02000A then Some BusAddress
    else if cmd == 0x020010 then Some IfcControl
    else None

-- the number that bytes are, the high one first
abbrev pub big_number : List ℕ → ℕ
big_number bytes = fold_number 0 bytes
  where
    fold_number : ℕ → List ℕ → ℕ
    fold_number n [] = n
    fold_number n (b ∷ bs) = fold_number (256 * n + b) bs

-- the same, the low one first
abbrev pub little_number : List ℕ → ℕ
little_number [] = 0
little_number (b ∷ bs) = b + 256 * little_number bs

abbrev pub number_in : Bool → List ℕ → ℕ
number_in big bytes = if big then big_number bytes else little_number bytes

-- how long the input has to be
abbrev pub has_length : Command → ℕ → Bool
has_length SendCommand n = nat_le n DOCMD_MAX
has_length BusStatus n = n == 2
has_length AtnControl n = n == 2
has_length RenControl n = n == 2
has_length PassControl n = n == 4
has_length BusAddress n = n == 4
has_length IfcControl n = n == 0

-- whether the number in the input is one that the command takes, on a gateway at this own address with these links: a
-- selector 1 to 8; an address up to 30 that isn't the own one; one that is no live link's primary address
abbrev pub takes_number : Command → ℕ → Table → ℕ → Bool
takes_number BusStatus own t n = nat_le 1 n && nat_le n 8
takes_number PassControl own t n = nat_le n ADDRESS_MAX && not (n == own)
takes_number BusAddress own t n = nat_le n ADDRESS_MAX && not (uses_address t n)
takes_number _ own t n = true

-- whether the command takes this input
abbrev pub takes_input : Command → ℕ → Table → Bool → List ℕ → Bool
takes_input command own t big bytes = has_length command (length bytes) && takes_number command own t (number_in big bytes)

-- the job that a command with this input is; of the controls, 0 is off and any other number is on
abbrev pub command_task : Command → Bool → List ℕ → Task
command_task SendCommand big bytes = Commands (length bytes)
command_task BusStatus big bytes = Status (number_in big bytes)
command_task AtnControl big bytes = Atn (not (number_in big bytes == 0))
command_task RenControl big bytes = Ren (not (number_in big bytes == 0))
command_task PassControl big bytes = Pass (number_in big bytes)
command_task BusAddress big bytes = Own (number_in big bytes)
command_task IfcControl big bytes = Ifc
