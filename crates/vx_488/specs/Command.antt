-- To be believed.
-- What a command byte means (IEEE 488.1, 2.13 and its table of multiline interface messages).
use Rattle.std.specs.Prelude.{ℕ, ◌-◌, ◌%◌, ◌==◌, nat_lt, if◌then◌else◌}
use Rattle.vx_488.specs.declared.commands.Command.{Command}
use Rattle.vx_488.specs.declared.commands.Command.TheVariants.{GoToLocal, SelectedClear, Trigger, TakeControl, LocalLockout, DeviceClear, PollEnable, PollDisable, Listen, Unlisten, Talk, Untalk, Secondary, OtherPrimary, NoMeaning}

-- the addressed and universal commands, below 0x20
abbrev pub addressed_or_universal : ℕ → Command
addressed_or_universal c =
    if c == 0x01 then GoToLocal
    else if c == 0x04 then SelectedClear
    else if c == 0x08 then Trigger
    else if c == 0x09 then TakeControl
    else if c == 0x11 then LocalLockout
    else if c == 0x14 then DeviceClear
    else if c == 0x18 then PollEnable
    else if c == 0x19 then PollDisable
    else OtherPrimary

-- the meaning of a code of seven bits
abbrev pub command_of_code : ℕ → Command
command_of_code c =
    if nat_lt c 0x20 then addressed_or_universal c
    else if nat_lt c 0x3F then Listen (c - 0x20)
    else if c == 0x3F then Unlisten
    else if nat_lt c 0x5F then Talk (c - 0x40)
    else if c == 0x5F then Untalk
    else if nat_lt c 0x7F then Secondary (c - 0x60)
    else NoMeaning

-- a command byte means its low seven bits
abbrev pub command_of : ℕ → Command
command_of b = command_of_code (b % 128)
