-- To be believed.
-- All that is claimed of a list of interleaved events that are allowed, in one record.
use Rattle.std.specs.Prelude.{◌≡◌, ◌≢◌, ◌≤◌, ℕ, Bool, true, false, List, [], ◌∷◌, ◌++◌, if◌then◌else◌, Option, Some}
use Rattle.std.specs.List.{All, flat_map}
use Rattle.vx_calls.specs.declared.codes.ErrorCode.TheVariants as code
use Rattle.vx_calls.specs.declared.targets.Target.TheVariants.{Interface, Device}
use Rattle.vx_calls.specs.Call as call
use Rattle.vx_calls.specs.Reply as reply
use Rattle.vx_488.specs.declared.transfers.Addr.{Addr}
use Rattle.vx_488.specs.declared.transfers.Transfer.{Transfer}
use Rattle.vx_488.specs.Listening.{has_address}
use Rattle.vx_488.specs.Heard.{reached, heard}
use Rattle.vx_rules.specs.Table.{Link}
use Rattle.vx_rules.specs.SrqState.{Channel, LinksRise, channel_at, handles_of, queued_on}
use Rattle.vx_rules.specs.State.{Pending, State, first, pending_at, link_of}
use Rattle.vx_rules.specs.Calls.{sets_end}
use Rattle.vx_rules.specs.Checks.{OnLink, named_link}
use Rattle.vx_rules.specs.Entry.{Entry, Answer, Sample}
use Rattle.vx_rules.specs.AtomicStep.{atomic_step}
use Rattle.vx_rules.specs.Legal.{legal_state, queued_along}
use Rattle.vx_rules.specs.Sound.{IsOwned}
use Rattle.vx_flow.specs.Event.{Event, Move}
use Rattle.vx_flow.specs.InterleavedState.{Turn, InterleavedState, before_turn}
use Rattle.vx_flow.specs.Linearization.{linearization}
use Rattle.vx_flow.specs.Laws.{interleaved_along, AreFree, link_called, ReachesFreely, IsTurnFree, marked_bytes, srqs_of, sent}

-- Every event is allowed at its place, and they linearize to a history of the gateway of one thread. Its state is theirs before
-- the turn under way, at their moment or an earlier one.
pub record IsLinearized (abort_port : ℕ) (h : List Event) : Type 0 where
  pub last : InterleavedState
  pub moment : ℕ
  pub allowed : interleaved_along abort_port h ≡ Some last
  pub legal : legal_state abort_port (linearization h) ≡ Some (before_turn last moment)
  pub earlier : moment ≤ last.state.moment

-- the transfers of each move of a turn reach no address that another link's lock keeps
abbrev pub MovesFreely : ℕ → List Event → Type 0
MovesFreely abort_port h = (front behind : List Event) (conn : ℕ) (moves : List Transfer) (f : InterleavedState)
    → h ≡ front ++ Move conn moves ∷ behind → interleaved_along abort_port front ≡ Some f
    → AreFree (link_called f.state conn) f.state.tables.locks (reached f.state.wire moves)

-- nor do those of an answer and of the end of a connection in a history of the gateway of one thread
abbrev pub EntriesFree : ℕ → List Entry → Type 0
EntriesFree abort_port history = (front behind : List Entry) (e : Entry) (s : State)
    → history ≡ front ++ e ∷ behind → legal_state abort_port front ≡ Some s → ReachesFreely s e

-- Each write on a device that is answered without an error: the device heard its bytes, in order, with END as asked, and every
-- other address heard nothing.
abbrev pub WritesHeard : ℕ → List Entry → Type 0
WritesHeard abort_port history = (front behind : List Entry) (s : State) (conn now begun : ℕ) (moves : List Transfer) (failed : Bool) (dialed : Option Bool)
    (level : Bool) (size lid io_timeout lock_timeout flags : ℕ) (bytes : List ℕ) (arrival : ℕ) (aborted : Bool) (l : Link) (p : ℕ) (secondary : Option ℕ)
    → history ≡ front ++ Answer conn now begun moves failed dialed level (reply.Write code.Ok size) ∷ behind
    → legal_state abort_port front ≡ Some s
    → pending_at s.tables conn ≡ Some (record { call = call.Write lid io_timeout lock_timeout flags bytes; arrival = arrival; aborted = aborted })
    → link_of s.tables conn lid ≡ Some l → l.target ≡ Device p secondary
    → (heard (record { p = p; s = secondary }) s.wire moves ≡ marked_bytes (sets_end flags) bytes)
    × ((a : Addr) → a ≢ record { p = p; s = secondary } → heard a s.wire moves ≡ [])

-- Each write on the interface that is answered without an error: each listener heard its bytes, and nobody else anything.
abbrev pub WritesHeardOnInterface : ℕ → List Entry → Type 0
WritesHeardOnInterface abort_port history = (front behind : List Entry) (s : State) (conn now begun : ℕ) (moves : List Transfer) (failed : Bool)
    (dialed : Option Bool) (level : Bool) (size lid io_timeout lock_timeout flags : ℕ) (bytes : List ℕ) (arrival : ℕ) (aborted : Bool) (l : Link)
    → history ≡ front ++ Answer conn now begun moves failed dialed level (reply.Write code.Ok size) ∷ behind
    → legal_state abort_port front ≡ Some s
    → pending_at s.tables conn ≡ Some (record { call = call.Write lid io_timeout lock_timeout flags bytes; arrival = arrival; aborted = aborted })
    → link_of s.tables conn lid ≡ Some l → l.target ≡ Interface
    → (a : Addr) → heard a s.wire moves ≡ (if has_address s.wire.listeners a then marked_bytes (sets_end flags) bytes else [])

-- Each rise closes exactly the channels whose outbox would have more than 1,024 entries, and queues nothing for them.
abbrev pub OverflowCloses : ℕ → List Entry → Type 0
OverflowCloses abort_port history = (front behind : List Entry) (s t : State) (now conn : ℕ) (c : Channel)
    → history ≡ front ++ Sample now true ∷ behind → legal_state abort_port front ≡ Some s → atomic_step s (Sample now true) ≡ Some t
    → s.tables.srq_state.level ≡ false → channel_at s.tables.srq_state conn ≡ Some c
    → channel_at t.tables.srq_state conn ≡ queued_on (handles_of s.tables.srq_state.enables conn) c

-- At each front of the history, for a channel that lives there: the interrupts that were taken from it so far and then its outbox
-- are, in order, the handles that rises queued while it lived, with xids 1, 2, 3 and so on. So the claim is of a channel that is
-- closed later too, up to its end.
abbrev pub IsQueued : ℕ → List Entry → Type 0
IsQueued abort_port history = (front behind : List Entry) (s : State) (conn : ℕ) (c : Channel)
    → history ≡ front ++ behind → legal_state abort_port front ≡ Some s → channel_at s.tables.srq_state conn ≡ Some c
    → (handles : List (List ℕ)) × (flat_map (srqs_of conn c.number) front ≡ sent 1 c.program c.version handles)
    × (handles ++ c.outbox ≡ queued_along conn c.number (Some (first abort_port)) front)

-- At each front of the history: the enables stand in order of their links' numbers, so that no link has two, and each is of a
-- live link of its connection. So what is due at a rise is one handle for each enabled link, in order of the links' numbers.
abbrev pub EnablesInOrder : ℕ → List Entry → Type 0
EnablesInOrder abort_port history = (front behind : List Entry) (s : State)
    → history ≡ front ++ behind → legal_state abort_port front ≡ Some s
    → LinksRise s.tables.srq_state.enables × All (IsOwned s.tables) s.tables.srq_state.enables

-- The call of the turn under way has no answer yet and is on a live link, which the turn has free: no lock of another link keeps it
-- off its target, and, where it holds no lock, no call that came before is a waiter on a conflicting target.
pub record HasFreeLink (f : InterleavedState) (u : Turn) : Type 0 where
  pub asked : Pending
  pub link : Link
  pub call_at : pending_at f.state.tables u.connection ≡ Some asked
  pub on_link : named_link f.state.tables u.connection asked.call ≡ OnLink link
  pub is_free : IsTurnFree f u link

-- So it is at each front of the events at which a turn is under way, from its beginning on: no turn is against another link's lock, and
-- none passes an earlier waiter over.
abbrev pub TurnsFree : ℕ → List Event → Type 0
TurnsFree abort_port h = (front behind : List Event) (f : InterleavedState) (u : Turn)
    → h ≡ front ++ behind → interleaved_along abort_port front ≡ Some f → f.turn ≡ Some u → HasFreeLink f u

pub record Claims (abort_port : ℕ) (h : List Event) : Type 0 where
  pub linearized : IsLinearized abort_port h
  pub turns_free : TurnsFree abort_port h
  pub moves_free : MovesFreely abort_port h
  pub entries_free : EntriesFree abort_port (linearization h)
  pub heard : WritesHeard abort_port (linearization h)
  pub heard_on_interface : WritesHeardOnInterface abort_port (linearization h)
  pub closes : OverflowCloses abort_port (linearization h)
  pub queued : IsQueued abort_port (linearization h)
  pub enables : EnablesInOrder abort_port (linearization h)

-- all of it holds of every list of interleaved events that are allowed
abbrev pub ClaimsLaw : Type 0
ClaimsLaw = (abort_port : ℕ) (h : List Event) (f : InterleavedState) → interleaved_along abort_port h ≡ Some f → Claims abort_port h
