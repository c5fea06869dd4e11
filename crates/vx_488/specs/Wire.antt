-- To be believed.
-- What transfers mean for the bus: the fold of a table over a list (IEEE 488.1, 2.5 to 2.13).
use Rattle.std.specs.Prelude.{ℕ, Bool, true, false, ◌==◌, if◌then◌else◌, List, [], ◌∷◌, Option, Some, None}
use Rattle.vx_488.specs.declared.transfers.Addr.{Addr}
use Rattle.vx_488.specs.declared.transfers.Transfer.{Transfer}
use Rattle.vx_488.specs.declared.transfers.Transfer.TheVariants.{Cmd, Put, Got, Ren, Atn, Ifc, Own}
use Rattle.vx_488.specs.declared.wire.Wire.{Wire}
use Rattle.vx_488.specs.declared.wire.Pending.{Pending}
use Rattle.vx_488.specs.declared.wire.Pending.TheVariants as pending
use Rattle.vx_488.specs.Address.{primary, secondary, same_address}
use Rattle.vx_488.specs.Listening.{has_address, with_address, without_address}
use Rattle.vx_488.specs.declared.commands.Command.TheVariants as command
use Rattle.vx_488.specs.declared.commands.Command.{Command}
use Rattle.vx_488.specs.Command.{command_of}

-- no talker, no listener, REN off, the gateway in charge at address 0, no serial poll mode
abbrev pub first_wire : Wire
first_wire = record {
  talker = None;
  listeners = [];
  pending = pending.Nothing;
  ren = false;
  incharge = true;
  own = 0;
  polling = false;
}

-- whether the talker is there, and is this address alone
abbrev pub is_talking : Option Addr → Addr → Bool
is_talking None a = false
is_talking (Some t) a = same_address t a

-- whether the talker is there, and isn't at this primary address
abbrev pub talks_elsewhere : Option Addr → ℕ → Bool
talks_elsewhere None own = false
talks_elsewhere (Some t) own = if t.p == own then false else true

-- the gateway's own address, without a secondary, is the talker, or a listener
abbrev pub own_talks : Wire → Bool
own_talks w = is_talking w.talker (primary w.own)

abbrev pub own_listens : Wire → Bool
own_listens w = has_address w.listeners (primary w.own)

-- no secondary address is awaited any more
abbrev pub settled : Wire → Wire
settled w = record w { pending = pending.Nothing }

-- a secondary address takes the place of its primary alone
abbrev pub on_secondary : Wire → ℕ → Pending → Wire
on_secondary w s pending.Nothing = w
on_secondary w s (pending.Listen p) = record w { listeners = with_address (secondary p s) (without_address (primary p) w.listeners) }
on_secondary w s (pending.Talk p) = record w { talker = Some (secondary p s) }

-- control goes to a talker that isn't the gateway
abbrev pub on_take_control : Wire → Wire
on_take_control w = if talks_elsewhere w.talker w.own then record w { incharge = false } else w

-- what a command changes
abbrev pub on_command : Wire → Command → Wire
on_command w (command.Listen p) = record w { listeners = with_address (primary p) w.listeners; pending = pending.Listen p }
on_command w (command.Talk p) = record w { talker = Some (primary p); pending = pending.Talk p }
on_command w (command.Secondary s) = on_secondary w s w.pending
on_command w command.Unlisten = settled (record w { listeners = [] })
on_command w command.Untalk = settled (record w { talker = None })
on_command w command.PollEnable = settled (record w { polling = true })
on_command w command.PollDisable = settled (record w { polling = false })
on_command w command.TakeControl = settled (on_take_control w)
on_command w command.NoMeaning = w
on_command w _ = settled w

-- interface clear: no talker, no listener, no serial poll mode, and control is the gateway's again
abbrev pub on_interface_clear : Wire → Wire
on_interface_clear w = settled (record w { talker = None; listeners = []; polling = false; incharge = true })

-- the bus after one more transfer
abbrev pub step : Wire → Transfer → Wire
step w (Cmd b) = on_command w (command_of b)
step w (Put b end) = w
step w (Got b end) = w
step w (Ren on) = record w { ren = on }
step w (Atn on) = w
step w Ifc = on_interface_clear w
step w (Own a) = record w { own = a }

-- the bus after a list of transfers
abbrev pub wire_after : Wire → List Transfer → Wire
wire_after w [] = w
wire_after w (t ∷ ts) = wire_after (step w t) ts
