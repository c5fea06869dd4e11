-- To be believed.
-- How far a session has come.
use Rattle.std.specs.Prelude.{◌≡◌, ◌≤◌, ℕ, List, [], ◌∷◌, map, count_by, Option, Some, None}
use Rattle.std.specs.List.{flat_map}
use Rattle.vx_io_traits.specs.Rung.{AddsCalls}
use Rattle.vx_io_traits.specs.declared.clocks.Clock.{Ghosts as OfClock}
use Rattle.vx_io_traits.specs.declared.dials.Dial.{Ghosts as OfDial}
use Rattle.vx_io_traits.specs.declared.dials.Rang.{Rang}
use Rattle.vx_calls.specs.declared.calls.Role.{Role}
use Rattle.vx_calls.specs.declared.calls.Role.TheVariants as role
use Rattle.vx_calls.specs.Call.{Call}
use Rattle.vx_gate.specs.PassView.{PassView}
use Rattle.vx_group.specs.Groups.{Group, events_of}
use Rattle.vx_group.specs.Poll.{Dialed}
use Rattle.vx_exchange.specs.Meaning.{Meaning, Junk}
use Rattle.vx_stream.specs.Answered.{Answered}
use Rattle.vx_session.specs.Origin.{Origin}
use Rattle.vx_session.specs.Placing.{Placed, Makes}
use Rattle.vx_session.specs.Parts.{moment_at}
use Rattle.vx_session.specs.Dialing.{DialShown, RoseBy, is_failed_dial, dial_shown}
use Rattle.vx_session.specs.Serving.{Item, SessionGoesOn, IsCalled, IsSessionServed}

-- the messages of these items with their replies, their groups, and the calls of the dial
abbrev pub answered : List Item → List Answered
answered items = map (λ i. i.answered) items

abbrev pub placed : List Item → List Placed
placed items = flat_map (λ i. i.placed) items

abbrev pub calls : List Item → List Rang
calls items = flat_map (λ i. i.calls) items

-- how many of these groups' answers are behind a dial that failed
abbrev pub failed_dials : List Placed → ℕ
failed_dials groups = count_by is_failed_dial (events_of (map (λ p. p.group) groups))

-- the dial was called so, and each answer that says that it failed has a fault of its own
pub record Rings (old : DialShown) (groups : List Placed) (rung : List Rang) (new : DialShown) : Type 0 where
  pub told : AddsCalls old.calls new.calls rung
  pub failed : RoseBy (failed_dials groups) old.faults new.faults

-- A clock was called once for each of these groups, in their order. The moment of a group is the greater of the one that was told for it
-- and the one that the history before it keeps. `tells` is what a call of the clock does.
abbrev pub Clocked : {C : Type 0} → (C → ℕ → C → Type 0) → (clock clock' : C) → List Placed → Type 0
Clocked tells clock clock' [] = clock' ≡ clock
Clocked {C} tells clock clock' (p ∷ ps) =
    (told : ℕ) × (next : C) × tells clock told next × (p.group.moment ≡ moment_at p told) × Clocked tells next clock' ps

-- So it was for the groups of calls. No clock is called for a device_abort.
abbrev pub ClockedAs : {C : Type 0} → Role → (C → ℕ → C → Type 0) → (clock clock' : C) → List Placed → Type 0
ClockedAs role.Core tells clock clock' groups = Clocked tells clock clock' groups
ClockedAs role.Abort tells clock clock' groups = clock' ≡ clock

-- no clock is called
abbrev pub unclocked : List Placed → Type 0
unclocked groups = Unit {0}

-- A pass made some groups, for which a clock and a dial were called so, and this holds of them.
pub record Uses (clocked : List Placed → Type 0) (told : ℕ) (pass : PassView Group) (dial : DialShown) (holds : List Placed → List Rang → Type 0) (pass' : PassView Group) (dial' : DialShown) : Type 0 where
  pub placed : List Placed
  pub rung : List Rang
  pub makes : Makes told pass placed pass'
  pub asks : clocked placed
  pub rings : Rings dial placed rung dial'
  pub holding : holds placed rung

-- the call of this xid was answered, by the record that stands in the room
abbrev pub AnswersCall : {B : Type 0} → Origin B → (List Placed → Type 0) → (told : ℕ) → PassView Group → (conn xid : ℕ) → Call → DialShown → List ℕ → PassView Group → DialShown → Type 0
AnswersCall g clocked told pass conn xid call dial out pass' dial' = Uses clocked told pass dial (λ placed rung. IsCalled g pass.number conn xid call placed rung out) pass' dial'

-- the dial that a call asked for was made, and the call answered, by the record that stands in the room
abbrev pub AnswersDial : {B : Type 0} → Origin B → (List Placed → Type 0) → (told : ℕ) → PassView Group → (conn xid : ℕ) → Call → (host port : ℕ) → DialShown → List ℕ → PassView Group → DialShown → Type 0
AnswersDial g clocked told pass conn xid call host port dial out pass' dial' =
    Uses clocked told pass dial (λ placed rung. SessionGoesOn g pass.number conn xid call (Dialed host port) placed rung out) pass' dial'

-- a message of this meaning was served, by the reply that stands in the room
abbrev pub ServesMeaning : {B : Type 0} → Origin B → (List Placed → Type 0) → (told : ℕ) → PassView Group → (conn : ℕ) → Meaning → DialShown → List ℕ → PassView Group → DialShown → Type 0
ServesMeaning g clocked told pass conn m dial out pass' dial' =
    Uses clocked told pass dial (λ placed rung. IsSessionServed g pass.number conn m placed rung out) pass' dial'

-- what a session has between two messages: the connection's role and number, its pass, its clock and the greatest moment that that has
-- told, and its dial
pub record SessionState (C : Type 0) : Type 0 where
  pub role : Role
  pub conn : ℕ
  pub pass : Option (PassView Group)
  pub clock : C
  pub told : ℕ
  pub dial : DialShown

-- what it is, by what the types of its clock and its dial tell
abbrev pub session_state : {C D : Type 0} → OfClock C → OfDial D → Role → ℕ → Option (PassView Group) → C → D → SessionState C
session_state by_clock by_dial r conn pass clock dial = record { role = r; conn = conn; pass = pass; clock = clock; told = by_clock.told clock; dial = dial_shown by_dial dial }

-- a message of this meaning was served by this reply, by the pass that the session had, and has
pub record IsSessionAnswered {B C : Type 0} (g : Origin B) (tells : C → ℕ → C → Type 0) (s : SessionState C) (m : Meaning) (reply : List ℕ) (s' : SessionState C) : Type 0 where
  pub pass : PassView Group
  pub pass' : PassView Group
  pub had : s.pass ≡ Some pass
  pub has : s'.pass ≡ Some pass'
  pub serves : ServesMeaning g (ClockedAs s.role tells s.clock s'.clock) s'.told pass s.conn m s.dial reply pass' s'.dial

-- junk is no call and changes nothing; any other message is served
abbrev pub SessionHasReply : {B C : Type 0} → Origin B → (C → ℕ → C → Type 0) → SessionState C → Meaning → Option (List ℕ) → SessionState C → Type 0
SessionHasReply g tells s m None s' = (m ≡ Junk) × (s'.pass ≡ s.pass) × (s'.dial ≡ s.dial) × (s'.clock ≡ s.clock)
SessionHasReply g tells s m (Some reply) s' = IsSessionAnswered g tells s m reply s'

-- what a message of this meaning does on the connection
pub record MeaningDoes {B C : Type 0} (g : Origin B) (tells : C → ℕ → C → Type 0) (s : SessionState C) (m : Meaning) (reply : Option (List ℕ)) (s' : SessionState C) : Type 0 where
  pub role : s'.role ≡ s.role
  pub conn : s'.conn ≡ s.conn
  pub later : s.told ≤ s'.told
  pub has : SessionHasReply g tells s m reply s'

-- what a message on the connection does, by what a message means on a connection of a role
abbrev pub MessageDoes : {B C : Type 0} → (means : List ℕ → Role → Meaning) → Origin B → (C → ℕ → C → Type 0) → SessionState C → List ℕ → Option (List ℕ) → SessionState C → Type 0
MessageDoes means g tells s message reply s' = MeaningDoes g tells s (means message s.role) reply s'
