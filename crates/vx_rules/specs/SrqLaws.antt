-- What holds of every state of service requests.
use Rattle.std.specs.Prelude.{◌≡◌, ◌≢◌, ℕ, ◌<◌, Bool, true, false, ◌&&◌, ◌==◌, filter, Option, None, option_and_then}
use Rattle.std.specs.Option.{option_map, IfSome}
use Rattle.std.specs.List.{All, AllPairs}
use Rattle.vx_rules.specs.SrqState.{SrqState, Channel, IsSound, IsBelow, LinksRise, channel_at, connections, with_slot, without_slot, with_channel, with_new_channel, sampled, taken, taken_from, is_rise, queued_on, handles_of}

-- after a rise each channel that lives has queued exactly the handles of its connection's enabled links, or is closed
-- where its outbox would go above what it takes
abbrev pub RiseQueues : Type 0
RiseQueues = (d : SrqState) (conn : ℕ) → d.level ≡ false → channel_at (sampled d true) conn ≡ option_and_then (queued_on (handles_of d.enables conn)) (channel_at d conn)

-- these links stand in order of their numbers
abbrev pub RiseInOrder : Type 0
RiseInOrder = (d : SrqState) (conn : ℕ) → LinksRise d.enables → LinksRise (filter (λ e. e.on && (e.connection == conn)) d.enables)

-- a sample that is no rise leaves every slot as it was, and one with the level unchanged the whole state
abbrev pub SteadyQueuesNothing : Type 0
SteadyQueuesNothing = (d : SrqState) (level : Bool) → is_rise d.level level ≡ false → (sampled d level).slots ≡ d.slots

abbrev pub SameLevelSame : Type 0
SameLevelSame = (d : SrqState) → sampled d d.level ≡ d

-- a channel that lives has a number that was given out before the next one, and no more in its outbox than it takes
abbrev pub ChannelBelow : Type 0
ChannelBelow = (d : SrqState) (conn : ℕ) → IsSound d → IfSome (channel_at d conn) (IsBelow d.next_channel)

-- so the next number is no living channel's
abbrev pub NextIsNew : Type 0
NextIsNew = (d : SrqState) (conn : ℕ) → IsSound d → IfSome (channel_at d conn) (λ c. c.number ≢ d.next_channel)

-- a take leaves the connection's channel without its front, where it has this number, and every other one as it was
abbrev pub TakenHere : Type 0
TakenHere = (d : SrqState) (conn number : ℕ) → channel_at (taken d conn number) conn ≡ option_map (taken_from number) (channel_at d conn)

abbrev pub TakenElsewhere : Type 0
TakenElsewhere = (d : SrqState) (conn other number : ℕ) → other ≢ conn → channel_at (taken d conn number) other ≡ channel_at d other

-- a connection whose channel is closed has none, and every other one keeps its own
abbrev pub ClosedHere : Type 0
ClosedHere = (d : SrqState) (conn : ℕ) → channel_at (with_channel d conn None) conn ≡ None

abbrev pub ClosedElsewhere : Type 0
ClosedElsewhere = (d : SrqState) (conn other : ℕ) (channel : Option Channel) → other ≢ conn → channel_at (with_channel d conn channel) other ≡ channel_at d other

-- the calls on channels, samples and takes keep the connections
pub record KeepsConnections : Type 0 where
  pub channel : (d : SrqState) (conn : ℕ) (channel : Option Channel) → connections (with_channel d conn channel) ≡ connections d
  pub made : (d : SrqState) (conn program version : ℕ) → connections (with_new_channel d conn program version) ≡ connections d
  pub sample : (d : SrqState) (level : Bool) → connections (sampled d level) ≡ connections d
  pub take : (d : SrqState) (conn number : ℕ) → connections (taken d conn number) ≡ connections d

-- connections that are added in order of their numbers stand in that order, without repeats, and stay so when one goes
abbrev pub Rising : SrqState → Type 0
Rising d = AllPairs (λ a b. a < b) (connections d)

abbrev pub AddedRises : Type 0
AddedRises = (d : SrqState) (conn : ℕ) → Rising d → All (λ n. n < conn) (connections d) → Rising (with_slot d conn)

abbrev pub GoneRises : Type 0
GoneRises = (d : SrqState) (conn : ℕ) → Rising d → Rising (without_slot d conn)
