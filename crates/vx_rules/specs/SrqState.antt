-- To be believed.
-- Service requests: interrupt channels with their outboxes, the links that are enabled, and the level of the SRQ line.
use Rattle.std.specs.Prelude.{ℕ, ◌<◌, ◌≤◌, ◌+◌, ◌%◌, ◌^◌, Bool, false, not, ◌&&◌, ◌==◌, nat_lt, nat_le, if◌then◌else◌, List, [], ◌∷◌, ◌++◌, length, map, find, filter, Option, Some, None, option_and_then}
use Rattle.std.specs.Option.{option_map, IfSome}
use Rattle.std.specs.List.{list_any, All, AllPairs}
use Rattle.vx_calls.specs.declared.limits.TheConstants.{CONNECTION_LAST, LINK_MAX}
use Rattle.vx_rules.specs.declared.limits.TheConstants.{OUTBOX_MAX}

-- An interrupt channel: its number, the program and version that its calls have, the xid of the next one, and the
-- handles that wait to go out, in order.
pub record Channel : Type 0 where
  pub number : ℕ
  pub program : ℕ
  pub version : ℕ
  pub next_xid : ℕ
  pub outbox : List (List ℕ)

-- a connection, and its channel, where it has one
pub record ChannelSlot : Type 0 where
  pub connection : ℕ
  pub channel : Option Channel

-- a link for which an enable came: the connection that it belongs to, whether it is enabled, and its handle
pub record Enable : Type 0 where
  pub link : ℕ
  pub connection : ℕ
  pub on : Bool
  pub handle : List ℕ

-- the connections in order of number, the enables in order of the links' numbers, the number of the next channel, and the
-- level of SRQ at the last sample
pub record SrqState : Type 0 where
  pub slots : List ChannelSlot
  pub enables : List Enable
  pub next_channel : ℕ
  pub level : Bool

-- nobody, and no level
abbrev pub empty : SrqState
empty = record { slots = []; enables = []; next_channel = 1; level = false }

-- the channel of a connection, where it has one
abbrev pub slot_at : SrqState → ℕ → Option ChannelSlot
slot_at d conn = find (λ p. p.connection == conn) d.slots

abbrev pub channel_at : SrqState → ℕ → Option Channel
channel_at d conn = option_and_then (λ p. p.channel) (slot_at d conn)

-- whether a channel number is left
abbrev pub has_number : SrqState → Bool
has_number d = nat_le d.next_channel CONNECTION_LAST

-- the slot, with this channel or none where it is the connection's
abbrev pub slot_with : ℕ → Option Channel → ChannelSlot → ChannelSlot
slot_with conn channel p = if p.connection == conn then record p { channel = channel } else p

abbrev pub with_channel : SrqState → ℕ → Option Channel → SrqState
with_channel d conn channel = record d { slots = map (slot_with conn channel) d.slots }

-- one connection more, without a channel
abbrev pub with_slot : SrqState → ℕ → SrqState
with_slot d conn = record d { slots = d.slots ++ record { connection = conn; channel = None } ∷ [] }

-- the connection gone, and with it its channel and the enables of its links
abbrev pub without_slot : SrqState → ℕ → SrqState
without_slot d conn = record d {
  slots = filter (λ p. not (p.connection == conn)) d.slots;
  enables = filter (λ e. not (e.connection == conn)) d.enables;
}

-- a channel as it is made
abbrev pub new_channel : ℕ → ℕ → ℕ → Channel
new_channel number program version = record { number = number; program = program; version = version; next_xid = 1; outbox = [] }

-- the connection has a channel with the next number
abbrev pub with_new_channel : SrqState → ℕ → ℕ → ℕ → SrqState
with_new_channel d conn program version =
    record (with_channel d conn (Some (new_channel d.next_channel program version))) { next_channel = d.next_channel + 1 }

-- the list with this enable at its place, in place of the link's earlier one
abbrev pub enable_put : Enable → List Enable → List Enable
enable_put e [] = e ∷ []
enable_put e (f ∷ fs) = if nat_lt e.link f.link then e ∷ f ∷ fs else if e.link == f.link then e ∷ fs else f ∷ enable_put e fs

abbrev pub with_enable : SrqState → Enable → SrqState
with_enable d e = record d { enables = enable_put e d.enables }

-- no enable of this link
abbrev pub without_enable : SrqState → ℕ → SrqState
without_enable d lid = record d { enables = filter (λ e. not (e.link == lid)) d.enables }

-- the handles of a connection's enabled links, in order of the links' numbers
abbrev pub handles_of : List Enable → ℕ → List (List ℕ)
handles_of enables conn = map (λ e. e.handle) (filter (λ e. e.on && (e.connection == conn)) enables)

-- a channel with these handles behind those that wait, or none where there would be more than an outbox takes
abbrev pub queued_on : List (List ℕ) → Channel → Option Channel
queued_on handles c = if nat_le (length (c.outbox ++ handles)) OUTBOX_MAX then Some (record c { outbox = c.outbox ++ handles }) else None

-- what a rise does to a connection: a channel queues the handles of its enabled links, or is closed
abbrev pub risen_slot : List Enable → ChannelSlot → ChannelSlot
risen_slot enables p = record p { channel = option_and_then (queued_on (handles_of enables p.connection)) p.channel }

-- the level goes from off to on
abbrev pub is_rise : Bool → Bool → Bool
is_rise before now = now && not before

-- the state of service requests after a sample of the SRQ line
abbrev pub sampled : SrqState → Bool → SrqState
sampled d level =
    if is_rise d.level level then record d { slots = map (risen_slot d.enables) d.slots; level = level } else record d { level = level }

-- one interrupt call (VXI-11, device_intr_srq): its xid, program, version and handle
pub record Srq : Type 0 where
  pub xid : ℕ
  pub program : ℕ
  pub version : ℕ
  pub handle : List ℕ

-- what a take gives: the front of the outbox, nothing, or that the channel isn't the connection's
pub data Given : Type 0 where
  Front : Srq → Given
  Empty : Given
  Gone : Given

abbrev pub front_given : Channel → List (List ℕ) → Given
front_given c [] = Empty
front_given c (handle ∷ rest) = Front (record { xid = c.next_xid; program = c.program; version = c.version; handle = handle })

abbrev pub given_by : Option Channel → ℕ → Given
given_by None number = Gone
given_by (Some c) number = if c.number == number then front_given c c.outbox else Gone

-- what a take from this channel of a connection gives
abbrev pub given : SrqState → ℕ → ℕ → Given
given d conn number = given_by (channel_at d conn) number

-- the channel without the front of its outbox, and with the next xid, modulo 2^32
abbrev pub front_taken : Channel → List (List ℕ) → Channel
front_taken c [] = c
front_taken c (handle ∷ rest) = record c { next_xid = (c.next_xid + 1) % (2 ^ 32); outbox = rest }

abbrev pub taken_from : ℕ → Channel → Channel
taken_from number c = if c.number == number then front_taken c c.outbox else c

abbrev pub slot_taken : ℕ → ℕ → ChannelSlot → ChannelSlot
slot_taken conn number p = if p.connection == conn then record p { channel = option_map (taken_from number) p.channel } else p

-- the state of service requests after a take from this channel of a connection
abbrev pub taken : SrqState → ℕ → ℕ → SrqState
taken d conn number = record d { slots = map (slot_taken conn number) d.slots }

-- the connections' numbers, in order of the slots
abbrev pub connections : SrqState → List ℕ
connections d = map (λ p. p.connection) d.slots

-- whether the connection was added
abbrev pub is_added : SrqState → ℕ → Bool
is_added d conn = list_any (λ p. p.connection == conn) d.slots

-- each link's number is below those of the links after it
abbrev pub LinksRise : List Enable → Type 0
LinksRise enables = AllPairs (λ a b. a.link < b.link) enables

-- a channel's outbox has no more than it takes, and its number was given out before this one
abbrev pub IsBelow : ℕ → Channel → Type 0
IsBelow next c = (length c.outbox ≤ OUTBOX_MAX) × (0 < c.number) × (c.number < next)

-- so is the channel of a slot, where it has one
abbrev pub HasChannelBelow : ℕ → ChannelSlot → Type 0
HasChannelBelow next p = IfSome p.channel (IsBelow next)

-- What holds of every state of service requests that the calls make: enables in order of the links' numbers, as many as links may live; no
-- outbox above what it takes; and each channel's number below the next one, which is at most one past the greatest.
pub record IsSound (d : SrqState) : Type 0 where
  pub links : LinksRise d.enables
  pub few : length d.enables ≤ LINK_MAX
  pub channels : All (HasChannelBelow d.next_channel) d.slots
  pub first : 0 < d.next_channel
  pub last : d.next_channel ≤ CONNECTION_LAST + 1
