-- To be believed.
-- How one record on a connection to a fleet of so many buses is served: the groups that its call adds to one bus's history, and its reply.
use Rattle.std.specs.Prelude.{◌≡◌, ◌≤◌, ◌<◌, ◌==◌, if◌then◌else◌, ℕ, List, [], map, Option, Some, None}
use Rattle.std.specs.List.{flat_map}
use Rattle.vx_io_traits.specs.declared.clocks.Clock.{Ghosts as OfClock}
use Rattle.vx_io_traits.specs.declared.dials.Rang.{Rang}
use Rattle.vx_calls.specs.declared.calls.Role.{Role}
use Rattle.vx_calls.specs.Call.{Call}
use Rattle.vx_calls.specs.Call as call
use Rattle.vx_record.specs.Fragments.{record_of}
use Rattle.vx_gate.specs.PassView.{PassView}
use Rattle.vx_desks.specs.Four.{Four, at, put}
use Rattle.vx_group.specs.Groups.{Group}
use Rattle.vx_desks.specs.declared.routes.counts.Count.{Count}
use Rattle.vx_desks.specs.Counts.{count_number}
use Rattle.vx_desks.specs.Replying.{renumbered}
use Rattle.vx_stream.specs.Answered.{Answered}
use Rattle.vx_session.specs.Origin.{Origin}
use Rattle.vx_session.specs.Placing.{Placed, Makes}
use Rattle.vx_session.specs.Progress.{ClockedAs}
use Rattle.vx_session.specs.Serving.{IsCalled, IsAborted}
use Rattle.vx_exchange.specs.Meaning as one
use Rattle.vx_exchange.specs.Meaning.{Meaning, meaning}
use Rattle.vx_desks.specs.Origins.{Origins, on}
use Rattle.vx_desks.specs.Meant.{Meant, Junk, Told, Asks, Aborts, by_meaning, meant}

-- the record of a reply as the client is told it: in a create_link's the number of the link is the one over all buses
abbrev pub outward : Call → ℕ → List ℕ → List ℕ
outward (call.CreateLink client lock lock_timeout device) bus given = renumbered bus given
outward asked bus given = given

-- A call was answered by its bus, as its session there answers it, and the client was told the reply.
pub record IsFleetAsked {B : Type 0} (g : Origin B) (number conn xid : ℕ) (asked : Call) (bus : ℕ) (placed : List Placed) (out : List ℕ) : Type 0 where
  pub calls : List Rang
  pub given : List ℕ
  pub called : IsCalled g number conn xid asked placed calls given
  pub out_is : out ≡ outward asked bus given

-- A message that is answered without a bus adds no group; a call adds its groups to its bus's history; junk isn't served. `numbers` are
-- those of the passes, and `conns` those of the connections, by their buses.
abbrev pub IsFleetServed : {B : Type 0} → Origins B → (numbers conns : Four ℕ) → Meant → (bus : ℕ) → List Placed → List ℕ → Type 0
IsFleetServed g numbers conns Junk bus placed out = ⊥
IsFleetServed g numbers conns (Told message) bus placed out = (placed ≡ []) × (out ≡ record_of message)
IsFleetServed g numbers conns (Asks b xid there) bus placed out = (bus ≡ b) × IsFleetAsked (on bus g) (at bus numbers) (at bus conns) xid there bus placed out
IsFleetServed g numbers conns (Aborts b xid lid) bus placed out = (bus ≡ b) × IsAborted (at bus conns) xid lid placed [] out

-- A record's message and the record of its reply; the bus that it was served by, and the groups that it added to that one's history.
pub record Item : Type 0 where
  pub answered : Answered
  pub bus : ℕ
  pub placed : List Placed

-- it was served so, by one of so many buses
pub record FleetServes {B : Type 0} (count : Count) (g : Origins B) (numbers conns : Four ℕ) (r : Role) (item : Item) : Type 0 where
  pub within : item.bus < count_number count
  pub served : IsFleetServed g numbers conns (meant count item.answered.message r) item.bus item.placed item.answered.reply

-- the messages of these items with their replies
abbrev pub answered : List Item → List Answered
answered items = map (λ i. i.answered) items

-- the groups that they added to all histories, in the order of the items
abbrev pub placed : List Item → List Placed
placed items = flat_map (λ i. i.placed) items

-- and those that they added to this bus's history
abbrev pub placed_on : ℕ → List Item → List Placed
placed_on bus items = flat_map (λ i. if i.bus == bus then i.placed else []) items

-- the numbers of four passes
abbrev pub numbers : Four (PassView Group) → Four ℕ
numbers f = record { zero_ = f.zero_.number; one = f.one.number; two = f.two.number; three = f.three.number }

-- ---- a message

-- what a session has between two messages: how many buses are served, the connections' role, their numbers, the passes, its clock, and the
-- greatest moment that that has told
pub record State (C : Type 0) : Type 0 where
  pub count : Count
  pub role : Role
  pub conns : Four ℕ
  pub passes : Option (Four (PassView Group))
  pub clock : C
  pub told : ℕ

-- what it is, by what the type of its clock tells
abbrev pub fleet_state : {C : Type 0} → OfClock C → Count → Role → Four ℕ → Option (Four (PassView Group)) → C → State C
fleet_state by_clock count r conns passes clock =
    record { count = count; role = r; conns = conns; passes = passes; clock = clock; told = by_clock.told clock }

-- A message of this meaning was served by this reply. Its bus is served, and that one's pass went on; the other three stay as they were.
pub record IsFleetAnswered {B C : Type 0} (g : Origins B) (tells : C → ℕ → C → Type 0) (s : State C) (m : Meaning) (reply : List ℕ) (s' : State C) : Type 0 where
  pub passes : Four (PassView Group)
  pub bus : ℕ
  pub within : bus < count_number s.count
  pub placed : List Placed
  pub own : PassView Group
  pub had : s.passes ≡ Some passes
  pub has : s'.passes ≡ Some (put bus own passes)
  pub makes : Makes s'.told (at bus passes) placed own
  pub asks : ClockedAs s.role tells s.clock s'.clock placed
  pub served : IsFleetServed g (numbers passes) s.conns (by_meaning s.count m) bus placed reply

-- junk is no call and changes nothing; any other message is served
abbrev pub FleetHasReply : {B C : Type 0} → Origins B → (C → ℕ → C → Type 0) → State C → Meaning → Option (List ℕ) → State C → Type 0
FleetHasReply g tells s m None s' = (m ≡ one.Junk) × (s'.passes ≡ s.passes) × (s'.clock ≡ s.clock)
FleetHasReply g tells s m (Some reply) s' = IsFleetAnswered g tells s m reply s'

-- what a message of this meaning does on the connections
pub record MeaningDoes {B C : Type 0} (g : Origins B) (tells : C → ℕ → C → Type 0) (s : State C) (m : Meaning) (reply : Option (List ℕ)) (s' : State C) : Type 0 where
  pub count : s'.count ≡ s.count
  pub role : s'.role ≡ s.role
  pub conns : s'.conns ≡ s.conns
  pub later : s.told ≤ s'.told
  pub has : FleetHasReply g tells s m reply s'

-- what a message on the connections does
abbrev pub MessageDoes : {B C : Type 0} → Origins B → (C → ℕ → C → Type 0) → State C → List ℕ → Option (List ℕ) → State C → Type 0
MessageDoes g tells s message reply s' = MeaningDoes g tells s (meaning message s.role) reply s'

-- a message of this meaning was served by one of so many buses, or by none
pub record ServesCall {B : Type 0} (count : Count) (g : Origins B) (clocked : List Placed → Type 0) (told : ℕ) (passes : Four (PassView Group)) (conns : Four ℕ) (m : Meant) (out : List ℕ) (passes' : Four (PassView Group)) : Type 0 where
  pub bus : ℕ
  pub within : bus < count_number count
  pub placed : List Placed
  pub own : PassView Group
  pub is : passes' ≡ put bus own passes
  pub makes : Makes told (at bus passes) placed own
  pub asks : clocked placed
  pub served : IsFleetServed g (numbers passes) conns m bus placed out
