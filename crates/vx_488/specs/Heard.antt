-- To be believed.
-- Whom transfers reach, and what is heard (IEEE 488.1, 2.5 to 2.11).
use Rattle.std.specs.Prelude.{ℕ, Bool, if◌then◌else◌, List, [], ◌∷◌, ◌++◌, map}
use Rattle.std.specs.Option.{option_to_list}
use Rattle.std.specs.List.{range_with_len}
use Rattle.vx_488.specs.declared.transfers.Addr.{Addr}
use Rattle.vx_488.specs.declared.transfers.Transfer.{Transfer}
use Rattle.vx_488.specs.declared.transfers.Transfer.TheVariants.{Cmd, Put, Got, Ren, Atn, Ifc, Own}
use Rattle.vx_488.specs.declared.wire.Wire.{Wire}
use Rattle.vx_488.specs.Address.{address_at}
use Rattle.vx_488.specs.Listening.{has_address}
use Rattle.vx_488.specs.declared.commands.Command.TheVariants as command
use Rattle.vx_488.specs.declared.commands.Command.{Command}
use Rattle.vx_488.specs.Command.{command_of}
use Rattle.vx_488.specs.Wire.{step}

-- every address of a bus: 31 primaries, each alone and with 31 secondaries
unfoldable pub every_address : List Addr
every_address = map address_at (range_with_len 0 992)

-- whom a command reaches: the listeners, the talker, or every device
abbrev pub reached_by_command : Wire → Command → List Addr
reached_by_command w command.GoToLocal = w.listeners
reached_by_command w command.SelectedClear = w.listeners
reached_by_command w command.Trigger = w.listeners
reached_by_command w command.TakeControl = option_to_list w.talker
reached_by_command w command.LocalLockout = every_address
reached_by_command w command.DeviceClear = every_address
reached_by_command w _ = []

-- whom a transfer reaches: a byte put reaches the listeners, a byte got comes from the talker, and REN going off
-- reaches every device
abbrev pub reached_by : Wire → Transfer → List Addr
reached_by w (Cmd b) = reached_by_command w (command_of b)
reached_by w (Put b end) = w.listeners
reached_by w (Got b end) = option_to_list w.talker
reached_by w (Ren on) = if on then [] else every_address
reached_by w (Atn on) = []
reached_by w Ifc = []
reached_by w (Own a) = []

-- the addresses that a list of transfers reaches, from this bus on
abbrev pub reached : Wire → List Transfer → List Addr
reached w [] = []
reached w (t ∷ ts) = reached_by w t ++ reached (step w t) ts

-- a byte, and whether END stood on it
pub record Byte : Type 0 where
  pub value : ℕ
  pub end : Bool

-- what an address hears of a transfer: a byte put while it is a listener
abbrev pub heard_of : Addr → Wire → Transfer → List Byte
heard_of a w (Put b end) = if has_address w.listeners a then record { value = b; end = end } ∷ [] else []
heard_of a w _ = []

-- what an address hears of a list of transfers, from this bus on
abbrev pub heard : Addr → Wire → List Transfer → List Byte
heard a w [] = []
heard a w (t ∷ ts) = heard_of a w t ++ heard a (step w t) ts
