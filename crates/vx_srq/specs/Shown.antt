-- What the rows show, and what holds of each.
use Rattle.std.specs.Prelude.{ℕ, ◌≤◌, List, map, length}
use Rattle.std.specs.Option.{option_map}
use Rattle.std.specs.VecDeque.{deque_capacity}
use Rattle.vx_calls.specs.declared.calls.Handle.{Handle}
use Rattle.vx_calls.specs.declared.replies.Taken.{Taken}
use Rattle.vx_calls.specs.declared.replies.Taken.TheVariants as seen
use Rattle.vx_srq.specs.declared.slots.ChannelRow.{ChannelRow}
use Rattle.vx_srq.specs.declared.slots.SlotRow.{SlotRow}
use Rattle.vx_srq.specs.declared.enables.EnableRow.{EnableRow}
use Rattle.vx_rules.specs.declared.limits.TheConstants.{OUTBOX_MAX}
use Rattle.vx_rules.specs.SrqState.{Channel, ChannelSlot, Enable, Given, Front, Empty, Gone}

-- the bytes of a handle
abbrev pub handle_shown : Handle → List ℕ
handle_shown h = h.bytes.items

-- the channel that a row shows, with this outbox
abbrev pub channel_shown : List Handle → ChannelRow → Channel
channel_shown outbox c = record { number = c.chan; program = c.prog; version = c.vers; next_xid = c.xid; outbox = map handle_shown outbox }

-- the slot that a row shows
abbrev pub slot_shown : SlotRow → ChannelSlot
slot_shown r = record { connection = r.conn; channel = option_map (channel_shown r.outbox.items) r.channel }

-- the enable that a row shows
abbrev pub enable_shown : EnableRow → Enable
enable_shown r = record { link = r.lid; connection = r.conn; on = r.on; handle = handle_shown r.handle }

-- what a take gave
abbrev pub given_shown : Taken → Given
given_shown (seen.Srq i) = Front (record { xid = i.xid; program = i.prog; version = i.vers; handle = handle_shown i.handle })
given_shown seen.Empty = Empty
given_shown seen.Gone = Gone

-- the room of an outbox stands, and no more than it takes waits in it
pub record SrqHasRoom (r : SlotRow) : Type 0 where
  pub room : OUTBOX_MAX ≤ deque_capacity r.outbox
  pub few : length r.outbox.items ≤ OUTBOX_MAX
