-- What a box's answers mean to whoever asks the bus.
use Rattle.std.specs.Prelude.{ℕ, ◌-◌, ◌==◌, if◌then◌else◌, Bool, true, false, not, nat_lt, length, min, bit_and, slice_index, take, List, [], ◌∷◌, Option, Result, Ok, Err}
use Rattle.std.specs.List.{list_any}
use Rattle.vx_488.specs.Bursts.{is_char}
use Rattle.vx_488.specs.declared.asks.Move.{Move}
use Rattle.vx_488.specs.declared.asks.Move.TheVariants as answer
use Rattle.vx_488.specs.declared.asks.GetOut.{GetOut}
use Rattle.vx_488.specs.declared.asks.GetOut.TheVariants as get
use Rattle.vx_488.specs.declared.bursts.Many.{Many}
use Rattle.vx_488.specs.declared.bursts.ManyGot.{ManyGot}
use Rattle.vx_488.specs.declared.bursts.Stop.{Stop}
use Rattle.vx_488.specs.declared.bursts.Stop.TheVariants as stop
use Rattle.vx_client.specs.declared.answers.ReadEnd.{ReadEnd}
use Rattle.vx_client.specs.declared.answers.ClientErr.{ClientErr}
use Rattle.vx_client.specs.declared.answers.ClientErr.TheVariants as err
use Rattle.vx_upstream.specs.declared.upstream.Standing.{Standing}
use Rattle.vx_upstream.specs.declared.upstream.Standing.TheVariants.{Lost}

-- ---- commands, lines, interface clear, the own address

-- What a device_docmd came to. None is held: a box whose time passed doesn't tell whether the byte went.
abbrev pub order_move : Result ℕ ClientErr → Move
order_move (Ok len) = answer.Went
order_move (Err e) = answer.Failed

-- ---- a write

-- with an error other than 15, or with a size that no write of so many bytes can have, its last byte at least didn't go
abbrev pub failed_at : ℕ → ℕ → Many
failed_at len size = record { moved = min size (len - 1); last = answer.Failed }

-- with error 15 (I/O timeout) so many went as the box took, and the next is held; or all went
abbrev pub held_at : ℕ → ℕ → Many
held_at len size =
    if nat_lt size len then record { moved = size; last = answer.Held }
    else (if size == len then record { moved = len; last = answer.Went } else failed_at len size)

-- what a device_write of so many bytes came to, where its reply tells that the box took so many of them (VXI-11, Device_WriteResp)
abbrev pub many_of : ℕ → Result Unit ClientErr → ℕ → Many
many_of len (Ok done) size = record { moved = len; last = answer.Went }
many_of len (Err (err.Device n)) size = if n == 15 then held_at len size else failed_at len size
many_of len (Err e) size = record { moved = 0; last = answer.Failed }

-- ---- a read

-- what an error of a read is as the answer of the get behind its bytes: at 15 (I/O timeout) the next byte isn't there yet
abbrev pub byte_error : ClientErr → Move
byte_error (err.Device n) = if n == 15 then answer.Held else answer.Failed
byte_error _ = answer.Failed

abbrev pub byte_move : Result ReadEnd ClientErr → Move
byte_move (Ok e) = answer.Went
byte_move (Err e) = byte_error e

-- the bytes that came by a device_read, where its record brings these: with an error of the box too, and none where it broke off
abbrev pub bytes_come : Result ReadEnd ClientErr → List ℕ → List ℕ
bytes_come (Ok e) told = told
bytes_come (Err (err.Device n)) told = told
bytes_come (Err e) told = []

-- it tells END, 4 among its reasons (VXI-11, Device_ReadResp)
abbrev pub tells_end : Result ReadEnd ClientErr → Bool
tells_end (Ok e) = not (bit_and e.reason 4 == 0)
tells_end (Err e) = false

-- no byte came
abbrev pub none_came : Move → Stop
none_came answer.Held = stop.Held
none_came _ = stop.Failed

-- why no more came where some did, and nothing of them says so
abbrev pub short_of : Move → Stop
short_of answer.Failed = stop.Failed
short_of _ = stop.Held

-- What so many bytes come to as a burst of gets: whether there are none; whether they are more than were asked for, or have the
-- stop byte before the last, which no box may send; whether END was told; whether the last is the stop byte, and the room full.
abbrev pub verdict : ℕ → (none over early ended char full : Bool) → Move → ManyGot
verdict n true over early ended char full how = record { got = 0; stop = none_came how }
verdict n false true early ended char full how = record { got = 0; stop = stop.Failed }
verdict n false false true ended char full how = record { got = 0; stop = stop.Failed }
verdict n false false false true char full how = record { got = n; stop = stop.End }
verdict n false false false false true full how = record { got = n; stop = stop.Char }
verdict n false false false false false true how = record { got = n; stop = stop.Full }
verdict n false false false false false false how = record { got = n; stop = short_of how }

abbrev pub front_of : List ℕ → List ℕ
front_of bytes = take (length bytes - 1) bytes

abbrev pub last_byte : List ℕ → ℕ
last_byte bytes = slice_index bytes (length bytes - 1)

-- what these bytes come to as a burst of gets into so much room
abbrev pub got_of : ℕ → Option ℕ → List ℕ → Bool → Move → ManyGot
got_of room char bytes ended how =
    verdict (length bytes) (length bytes == 0) (nat_lt room (length bytes)) (list_any (is_char char) (front_of bytes)) ended (is_char char (last_byte bytes)) (length bytes == room) how

-- what a burst of gets into one byte came to, where that byte is this one
abbrev pub got_one : Stop → ℕ → GetOut
got_one stop.End b = get.Byte b true
got_one stop.Full b = get.Byte b false
got_one stop.Char b = get.Byte b false
got_one stop.Held b = get.Held
got_one stop.Failed b = get.Failed

-- ---- a look at a line

-- the level that a bus status of two bytes tells, its low byte last (VXI-11.2, bus status); of another length it tells none
abbrev pub level_in : List ℕ → Bool → Bool
level_in (high ∷ low ∷ []) before = not (low == 0)
level_in _ before = before

-- the level behind a look at it: as before where the box doesn't tell it
abbrev pub level_of : Result ℕ ClientErr → List ℕ → Bool → Bool
level_of (Ok len) told before = level_in told before
level_of (Err e) told before = before

-- and the standing of the bus: a look that the box answers, with an error too, leaves it, and one that breaks off shows that the
-- link to the box is lost
abbrev pub standing_after : Result ℕ ClientErr → Standing → Standing
standing_after (Ok len) at = at
standing_after (Err (err.Device n)) at = at
standing_after (Err e) at = Lost
