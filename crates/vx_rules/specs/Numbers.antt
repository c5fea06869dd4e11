-- To be believed.
-- The numbers that a history gives to links, connections and interrupt channels, and that none is given twice.
use Rattle.std.specs.Prelude.{◌≡◌, ◌<◌, ◌≤◌, ◌+◌, ℕ, Bool, true, if◌then◌else◌, List, [], ◌∷◌, ◌++◌, Option, Some, None}
use Rattle.std.specs.Option.{option_map_or}
use Rattle.std.specs.List.{AllPairs, flat_map}
use Rattle.vx_calls.specs.declared.calls.Role.{Role}
use Rattle.vx_calls.specs.declared.codes.ErrorCode.TheVariants as code
use Rattle.vx_calls.specs.ErrorCode.{same_error}
use Rattle.vx_calls.specs.Reply.{Reply}
use Rattle.vx_calls.specs.Reply as reply
use Rattle.vx_488.specs.declared.transfers.Transfer.{Transfer}
use Rattle.vx_rules.specs.SrqState.{channel_at}
use Rattle.vx_rules.specs.State.{State, first}
use Rattle.vx_rules.specs.Entry.{Entry, Up, Answer}
use Rattle.vx_rules.specs.AtomicStep.{atomic_step}
use Rattle.vx_rules.specs.Legal.{legal_state}

-- the number of the connection that an entry brings up
abbrev pub connection_given : Entry → List ℕ
connection_given (Up conn r) = conn ∷ []
connection_given _ = []

-- the number of the link that a reply says was made
abbrev pub link_told : Reply → List ℕ
link_told (reply.CreateLink error lid abort_port max) = if same_error error code.Ok then lid ∷ [] else []
link_told _ = []

-- the number of the link that an entry makes
abbrev pub link_given : Entry → List ℕ
link_given (Answer conn now begun moves failed dialed level told) = link_told told
link_given _ = []

-- the number of a connection's channel, where it has one
abbrev pub channel_number : ℕ → State → List ℕ
channel_number conn t = option_map_or (λ c. c.number ∷ []) (channel_at t.tables.srq_state conn) []

-- the number of the channel that an entry makes, which leads to this state: at an answer to a dial that came up
abbrev pub channel_given : Entry → Option State → List ℕ
channel_given (Answer conn now begun moves failed (Some true) level told) (Some t) = channel_number conn t
channel_given _ _ = []

-- the numbers that a history gives, in order: those of links and of connections, and those of channels from this state on
abbrev pub links_given : List Entry → List ℕ
links_given history = flat_map link_given history

abbrev pub connections_given : List Entry → List ℕ
connections_given history = flat_map connection_given history

abbrev pub channels_given : Option State → List Entry → List ℕ
channels_given None history = []
channels_given (Some s) [] = []
channels_given (Some s) (e ∷ es) = channel_given e (atomic_step s e) ++ channels_given (atomic_step s e) es

-- no entry lowers the number that comes next
abbrev pub NumbersRiseLaw : Type 0
NumbersRiseLaw = (s t : State) (e : Entry) → atomic_step s e ≡ Some t
    → (s.tables.links.next ≤ t.tables.links.next) × (s.tables.next_connection ≤ t.tables.next_connection)
    × (s.tables.srq_state.next_channel ≤ t.tables.srq_state.next_channel)

-- a number that is given is the one that comes next, and it is used up: the number of a link that is made
abbrev pub LinkGivenLaw : Type 0
LinkGivenLaw = (s t : State) (conn now begun : ℕ) (moves : List Transfer) (failed : Bool) (dialed : Option Bool) (level : Bool) (lid abort_port max : ℕ)
    → atomic_step s (Answer conn now begun moves failed dialed level (reply.CreateLink code.Ok lid abort_port max)) ≡ Some t
    → (lid ≡ s.tables.links.next) × (t.tables.links.next ≡ lid + 1)

-- of a connection that comes up
abbrev pub ConnectionGivenLaw : Type 0
ConnectionGivenLaw = (s t : State) (conn : ℕ) (r : Role) → atomic_step s (Up conn r) ≡ Some t
    → (conn ≡ s.tables.next_connection) × (t.tables.next_connection ≡ conn + 1)

-- and of the channel that a connection has once its dial came up
abbrev pub ChannelGivenLaw : Type 0
ChannelGivenLaw = (abort_port : ℕ) (history : List Entry) (s t : State) (conn now begun : ℕ) (moves : List Transfer) (failed level : Bool) (told : Reply)
    → legal_state abort_port history ≡ Some s
    → atomic_step s (Answer conn now begun moves failed (Some true) level told) ≡ Some t
    → (channel_number conn t ≡ s.tables.srq_state.next_channel ∷ []) × (t.tables.srq_state.next_channel ≡ s.tables.srq_state.next_channel + 1)

-- the numbers that a history gives rise, so that none is given twice: those of links
abbrev pub LinksGivenOnceLaw : Type 0
LinksGivenOnceLaw = (abort_port : ℕ) (history : List Entry) (s : State) → legal_state abort_port history ≡ Some s
    → AllPairs (λ earlier later. earlier < later) (links_given history)

-- of connections
abbrev pub ConnectionsGivenOnceLaw : Type 0
ConnectionsGivenOnceLaw = (abort_port : ℕ) (history : List Entry) (s : State) → legal_state abort_port history ≡ Some s
    → AllPairs (λ earlier later. earlier < later) (connections_given history)

-- and of channels
abbrev pub ChannelsGivenOnceLaw : Type 0
ChannelsGivenOnceLaw = (abort_port : ℕ) (history : List Entry) (s : State) → legal_state abort_port history ≡ Some s
    → AllPairs (λ earlier later. earlier < later) (channels_given (Some (first abort_port)) history)
