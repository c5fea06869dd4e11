-- To be believed.
-- Laws of interleaved events.
use Rattle.std.specs.Prelude.{◌≡◌, ◌≢◌, ◌≤◌, ℕ, Bool, true, false, List, [], ◌∷◌, ◌++◌, if◌then◌else◌, ◌&&◌, ◌==◌, ◌+◌, ◌%◌, ◌^◌, Option, Some, None, option_and_then}
use Rattle.std.specs.List.{All, flat_map}
use Rattle.vx_calls.specs.declared.codes.ErrorCode.TheVariants as code
use Rattle.vx_calls.specs.declared.targets.Target.{Target}
use Rattle.vx_calls.specs.declared.targets.Target.TheVariants.{Interface, Device}
use Rattle.vx_calls.specs.Target.{IsReachable, conflict}
use Rattle.vx_calls.specs.Call as call
use Rattle.vx_calls.specs.Reply as reply
use Rattle.vx_488.specs.declared.transfers.Addr.{Addr}
use Rattle.vx_488.specs.declared.transfers.Transfer.{Transfer}
use Rattle.vx_488.specs.Listening.{has_address}
use Rattle.vx_488.specs.Heard.{Byte, reached, heard}
use Rattle.vx_rules.specs.Table.{Link}
use Rattle.vx_rules.specs.Locks.{Lock, holds, holder_of}
use Rattle.vx_rules.specs.SrqState.{Channel, Srq, Front, channel_at, handles_of, queued_on}
use Rattle.vx_rules.specs.Lists.{along}
use Rattle.vx_rules.specs.Lines.{ahead}
use Rattle.vx_rules.specs.State.{Pending, State, first, pending_at, link_of}
use Rattle.vx_rules.specs.Calls.{link_named, sets_end}
use Rattle.vx_rules.specs.Checks.{OnLink, named_link}
use Rattle.vx_rules.specs.Entry.{Entry, Answer, Down, Sample, Take}
use Rattle.vx_rules.specs.AtomicStep.{atomic_step}
use Rattle.vx_rules.specs.Legal.{legal_state, queued_along}
use Rattle.vx_flow.specs.Event.{Event, Move}
use Rattle.vx_flow.specs.InterleavedState.{Turn, InterleavedState, first_interleaved, before_turn}
use Rattle.vx_flow.specs.InterleavedStep.{interleaved_step, job_of, turn_stand, is_whole}
use Rattle.vx_flow.specs.Sound.{IsSound}
use Rattle.vx_flow.specs.Poll.{at_moment}
use Rattle.vx_flow.specs.Linearization.{linearization}

-- the state after a list of events of a gateway with this abort port, or none where one of them isn't allowed at its place
abbrev pub interleaved_along : ℕ → List Event → Option InterleavedState
interleaved_along abort_port h = along interleaved_step (Some (first_interleaved abort_port)) h

-- Interleaved events linearize to a history of the gateway of one thread. Its state is theirs before the turn under way, at that
-- moment or an earlier one.
abbrev pub LinearizationLaw : Type 0
LinearizationLaw = (abort_port : ℕ) (h : List Event) (f : InterleavedState) → interleaved_along abort_port h ≡ Some f
    → (moment : ℕ) × (legal_state abort_port (linearization h) ≡ Some (before_turn f moment)) × (moment ≤ f.state.moment)

-- an address as what a lock may be on
abbrev pub at_address : Addr → Target
at_address a = Device a.p a.s

-- no address of these is kept by a lock of another link than the call's
abbrev pub AreFree : Option ℕ → List Lock → List Addr → Type 0
AreFree named locks addresses =
    All (λ a. All (λ k. named ≢ Some k.link → conflict (at_address a) k.target ≡ false) locks) addresses

-- the link that a connection's call names
abbrev pub link_called : State → ℕ → Option ℕ
link_called s conn = option_and_then (λ p. link_named p.call) (pending_at s.tables conn)

-- the transfers of a turn reach no address that another link's lock keeps
abbrev pub MovesFreelyLaw : Type 0
MovesFreelyLaw = (abort_port : ℕ) (h : List Event) (f g : InterleavedState) (conn : ℕ) (moves : List Transfer)
    → interleaved_along abort_port h ≡ Some f → interleaved_step f (Move conn moves) ≡ Some g
    → AreFree (link_called f.state conn) f.state.tables.locks (reached f.state.wire moves)

-- the connection and the transfers of an answer, and of the end of a connection
abbrev pub ReachesFreely : State → Entry → Type 0
ReachesFreely s (Answer conn now begun moves failed dialed level told) = AreFree (link_called s conn) s.tables.locks (reached s.wire moves)
ReachesFreely s (Down conn moves) = AreFree (link_called s conn) s.tables.locks (reached s.wire moves)
ReachesFreely s _ = Unit {0}

-- so it is at each entry of a history of the gateway of one thread
abbrev pub EntriesFreeLaw : Type 0
EntriesFreeLaw = (abort_port : ℕ) (earlier : List Entry) (e : Entry) (s t : State)
    → legal_state abort_port earlier ≡ Some s → atomic_step s e ≡ Some t → ReachesFreely s e

-- the bytes of a write, with END on the last one where it is asked for
abbrev pub marked_bytes : Bool → List ℕ → List Byte
marked_bytes end [] = []
marked_bytes end (b ∷ []) = record { value = b; end = end } ∷ []
marked_bytes end (b ∷ c ∷ bs) = record { value = b; end = false } ∷ marked_bytes end (c ∷ bs)

-- A write on a device that is answered without an error: the device heard its bytes, in order, with END as asked, and every
-- other address heard nothing.
abbrev pub HeardLaw : Type 0
HeardLaw = (abort_port : ℕ) (earlier : List Entry) (s t : State) (conn now begun : ℕ) (moves : List Transfer) (failed : Bool) (dialed : Option Bool)
    (level : Bool) (size lid io_timeout lock_timeout flags : ℕ) (bytes : List ℕ) (arrival : ℕ) (aborted : Bool) (l : Link) (p : ℕ) (secondary : Option ℕ)
    → legal_state abort_port earlier ≡ Some s
    → pending_at s.tables conn ≡ Some (record { call = call.Write lid io_timeout lock_timeout flags bytes; arrival = arrival; aborted = aborted })
    → link_of s.tables conn lid ≡ Some l → l.target ≡ Device p secondary
    → atomic_step s (Answer conn now begun moves failed dialed level (reply.Write code.Ok size)) ≡ Some t
    → (heard (record { p = p; s = secondary }) s.wire moves ≡ marked_bytes (sets_end flags) bytes)
    × ((a : Addr) → a ≢ record { p = p; s = secondary } → heard a s.wire moves ≡ [])

-- A write on the interface that is answered without an error: each listener heard its bytes, and nobody else anything.
abbrev pub HeardOnInterfaceLaw : Type 0
HeardOnInterfaceLaw = (abort_port : ℕ) (earlier : List Entry) (s t : State) (conn now begun : ℕ) (moves : List Transfer) (failed : Bool) (dialed : Option Bool)
    (level : Bool) (size lid io_timeout lock_timeout flags : ℕ) (bytes : List ℕ) (arrival : ℕ) (aborted : Bool) (l : Link)
    → legal_state abort_port earlier ≡ Some s
    → pending_at s.tables conn ≡ Some (record { call = call.Write lid io_timeout lock_timeout flags bytes; arrival = arrival; aborted = aborted })
    → link_of s.tables conn lid ≡ Some l → l.target ≡ Interface
    → atomic_step s (Answer conn now begun moves failed dialed level (reply.Write code.Ok size)) ≡ Some t
    → (a : Addr) → heard a s.wire moves ≡ (if has_address s.wire.listeners a then marked_bytes (sets_end flags) bytes else [])

-- the interrupt calls that an entry takes from a channel of a connection
abbrev pub srqs_of : ℕ → ℕ → Entry → List Srq
srqs_of conn chan (Take c n (Front srq)) = if (c == conn) && (n == chan) then srq ∷ [] else []
srqs_of conn chan _ = []

-- the interrupt calls of a channel that take these handles out, with xids from this one on, modulo 2^32
abbrev pub sent : ℕ → ℕ → ℕ → List (List ℕ) → List Srq
sent xid program version [] = []
sent xid program version (handle ∷ handles) =
    record { xid = xid; program = program; version = version; handle = handle } ∷ sent ((xid + 1) % (2 ^ 32)) program version handles

-- For a channel that lives behind a history, which may be a front of another: the interrupts that were taken from it and then its
-- outbox are, in order, the handles that rises queued while it lived, with xids 1, 2, 3 and so on.
abbrev pub QueuedLaw : Type 0
QueuedLaw = (abort_port : ℕ) (history : List Entry) (s : State) (conn : ℕ) (c : Channel)
    → legal_state abort_port history ≡ Some s → channel_at s.tables.srq_state conn ≡ Some c
    → (handles : List (List ℕ)) × (flat_map (srqs_of conn c.number) history ≡ sent 1 c.program c.version handles)
    × (handles ++ c.outbox ≡ queued_along conn c.number (Some (first abort_port)) history)

-- A rise closes exactly the channels whose outbox would have more than 1,024 entries, and queues nothing for them.
abbrev pub ClosedLaw : Type 0
ClosedLaw = (s t : State) (now conn : ℕ) (c : Channel) → s.tables.srq_state.level ≡ false → channel_at s.tables.srq_state conn ≡ Some c
    → atomic_step s (Sample now true) ≡ Some t → channel_at t.tables.srq_state conn ≡ queued_on (handles_of s.tables.srq_state.enables conn) c

-- what holds between events holds at the start, and behind each event that is allowed
abbrev pub FirstSoundLaw : Type 0
FirstSoundLaw = (abort_port : ℕ) → IsSound (first_interleaved abort_port)

abbrev pub StaysSoundLaw : Type 0
StaysSoundLaw = (f g : InterleavedState) (e : Event) → IsSound f → interleaved_step f e ≡ Some g → IsSound g

-- and at a later moment
abbrev pub LaterSoundLaw : Type 0
LaterSoundLaw = (f : InterleavedState) (now : ℕ) → IsSound f → f.state.moment ≤ now → IsSound (at_moment f now)

-- an event that leaves the turn under way leaves its call, which may be marked, and the call's job
abbrev pub CallStaysLaw : Type 0
CallStaysLaw = (f g : InterleavedState) (e : Event) (u : Turn) (p : Pending) → IsSound f → interleaved_step f e ≡ Some g → f.turn ≡ Some u → g.turn ≡ Some u
    → pending_at f.state.tables u.connection ≡ Some p
    → (aborted : Bool) × (pending_at g.state.tables u.connection ≡ Some (record p { aborted = aborted }))
    × (job_of g.state.tables u.connection p ≡ job_of f.state.tables u.connection p)

-- What holds of the turn under way from its beginning on, where it has made no transfer yet too. Of the link of its call: no lock
-- of another link keeps it off its target. No earlier waiter is passed over: where that link holds no lock, no call that came before
-- the turn's stands in line for what conflicts with its target, at the present moment or at any other from the beginning on. Of all
-- live links: what each is to can be reached from the address that the gateway had as the turn began, so that none is to a device at
-- that address. Where the turn's list isn't whole the gateway has this address still, and so they can be reached from the address
-- that it has now.
pub record IsTurnFree (f : InterleavedState) (u : Turn) (l : Link) : Type 0 where
  pub unlocked : holder_of f.state.tables.locks l.number l.target ≡ None
  pub began : u.begun ≤ f.state.moment
  pub first : holds f.state.tables.locks l.number ≡ false → (at : ℕ) → u.begun ≤ at → ahead f.state.tables None at u.connection l.target ≡ []
  pub reachable : IsReachable f.before.own l.target
  pub all_reachable : All (λ k. IsReachable f.before.own k.target) f.state.tables.links.links
  pub steady : is_whole (turn_stand f u u.moves) ≡ false → f.state.wire.own ≡ f.before.own
  pub reachable_now : is_whole (turn_stand f u u.moves) ≡ false → IsReachable f.state.wire.own l.target
  pub all_reachable_now : is_whole (turn_stand f u u.moves) ≡ false → All (λ k. IsReachable f.state.wire.own k.target) f.state.tables.links.links

abbrev pub TurnFreeLaw : Type 0
TurnFreeLaw = (abort_port : ℕ) (h : List Event) (f : InterleavedState) (u : Turn) (p : Pending) (l : Link)
    → interleaved_along abort_port h ≡ Some f → f.turn ≡ Some u → pending_at f.state.tables u.connection ≡ Some p
    → named_link f.state.tables u.connection p.call ≡ OnLink l → IsTurnFree f u l

-- Events that are allowed from a state at a later moment are allowed at the earlier one, where what holds between events holds, and
-- lead to the same state, but for its moment, which is no later.
abbrev pub EarlierLaw : Type 0
EarlierLaw = (f g : InterleavedState) (now : ℕ) (h : List Event) → IsSound f → f.state.moment ≤ now → along interleaved_step (Some (at_moment f now)) h ≡ Some g
    → (moment : ℕ) × (along interleaved_step (Some f) h ≡ Some (at_moment g moment)) × (moment ≤ g.state.moment)
