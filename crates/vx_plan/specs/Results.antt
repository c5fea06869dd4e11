-- To be believed.
-- The replies that a list of transfers gives: where it is whole, and where it isn't.
use Rattle.std.specs.Prelude.{ℕ, ◌+◌, ◌/◌, ◌%◌, Bool, true, false, ◌==◌, if◌then◌else◌, List, [], ◌∷◌, map, length, count_by, Option, Some, None}
use Rattle.std.specs.List.{filter_map}
use Rattle.std.specs.Option.{option_map_or}
use Rattle.vx_calls.specs.declared.codes.ErrorCode.TheVariants as code
use Rattle.vx_calls.specs.Reply.{Reply}
use Rattle.vx_calls.specs.Reply as reply
use Rattle.vx_488.specs.declared.transfers.Transfer.{Transfer}
use Rattle.vx_488.specs.declared.transfers.Transfer.TheVariants as transfer
use Rattle.vx_488.specs.declared.wire.Wire.{Wire}
use Rattle.vx_488.specs.Wire.{own_talks, own_listens}
use Rattle.vx_plan.specs.declared.tasks.Task.{Task}
use Rattle.vx_plan.specs.declared.tasks.Task.TheVariants.{Write, Read, Stb, Clear, Trigger, Remote, Local, Status}
use Rattle.vx_plan.specs.Transfers.{got_of}
use Rattle.vx_plan.specs.Plan.{is_stop}

-- the bytes that a list got, each with its END mark, and the bytes alone
abbrev pub gots : List Transfer → List (ℕ × Bool)
gots ts = filter_map got_of ts

abbrev pub bytes_got : List Transfer → List ℕ
bytes_got ts = map (λ g. g.0) (gots ts)

-- the last of these bytes, or the one that was found before
abbrev pub last_of : Option (ℕ × Bool) → List (ℕ × Bool) → Option (ℕ × Bool)
last_of found [] = found
last_of found (g ∷ gs) = last_of (Some g) gs

-- the last byte that a list got
abbrev pub last_got : List Transfer → Option (ℕ × Bool)
last_got ts = last_of None (gots ts)

abbrev pub is_put : Transfer → Bool
is_put (transfer.Put b end) = true
is_put _ = false

-- how many data bytes a list put
abbrev pub puts_made : List Transfer → ℕ
puts_made ts = count_by is_put ts

-- the reasons of a read that ended: 1 as many bytes as were asked for, 2 the stop byte, 4 END (VXI-11, device_read)
abbrev pub reason_of : ℕ → Option ℕ → ℕ → Option (ℕ × Bool) → ℕ
reason_of max stop count last =
    (if count == max then 1 else 0) + (if option_map_or (λ g. is_stop stop g.0) last false then 2 else 0)
    + (if option_map_or (λ g. g.1) last false then 4 else 0)

abbrev pub read_reason : ℕ → Option ℕ → List Transfer → ℕ
read_reason max stop ts = reason_of max stop (length (gots ts)) (last_got ts)

-- the status byte of a serial poll
abbrev pub status_got : List Transfer → ℕ
status_got ts = option_map_or (λ g. g.0) (last_got ts) 0

abbrev pub flag_number : Bool → ℕ
flag_number on = if on then 1 else 0

-- what bus status tells of a selector, on this bus and with this level of SRQ or NDAC
abbrev pub status_number : ℕ → Wire → Bool → ℕ
status_number selector w level =
    if selector == 1 then flag_number w.ren
    else if selector == 2 then flag_number level
    else if selector == 3 then flag_number level
    else if selector == 4 then 1
    else if selector == 5 then flag_number w.incharge
    else if selector == 6 then flag_number (own_talks w)
    else if selector == 7 then flag_number (own_listens w)
    else w.own

-- a number below 2^16 as two bytes, the high one first or last
abbrev pub two_bytes : Bool → ℕ → List ℕ
two_bytes big n = if big then n / 256 ∷ n % 256 ∷ [] else n % 256 ∷ n / 256 ∷ []

-- The reply of a list that is whole. A device_docmd answers its bytes, but for bus status, whose answer is in this byte
-- order and takes the level that the bus gave.
abbrev pub whole_reply : Task → List ℕ → Wire → Bool → Bool → List Transfer → Reply
whole_reply (Write t len end) bytes w big level ts = reply.Write code.Ok len
whole_reply (Read t max stop) bytes w big level ts = reply.Read code.Ok (read_reason max stop ts) (bytes_got ts)
whole_reply (Stb t) bytes w big level ts = reply.Stb code.Ok (status_got ts)
whole_reply (Clear t) bytes w big level ts = reply.Error code.Ok
whole_reply (Trigger t) bytes w big level ts = reply.Error code.Ok
whole_reply (Remote t) bytes w big level ts = reply.Error code.Ok
whole_reply (Local t) bytes w big level ts = reply.Error code.Ok
whole_reply (Status selector) bytes w big level ts = reply.Docmd code.Ok (two_bytes big (status_number selector w level))
whole_reply _ bytes w big level ts = reply.Docmd code.Ok bytes
