-- To be believed.
-- What a guard does with the peers of a door, one after another.
use Rattle.std.specs.Prelude.{◌≡◌, ◌≢◌, ◌≤◌, ◌||◌, ℕ, Bool, true, false, List, [], Option, Some, None}
use Rattle.vx_io_traits.specs.declared.Sink.{Ghosts as OfSink}
use Rattle.vx_io_traits.specs.declared.clocks.Clock.{Ghosts as OfClock}
use Rattle.vx_io_traits.specs.declared.dials.Dial.{Ghosts as OfDial}
use Rattle.vx_io_traits.specs.declared.links.Link.{Ghosts as OfLink}
use Rattle.vx_door.specs.Going.{Went}
use Rattle.vx_door.specs.Shown.{DoorShown, DoorTold, door_shown}
use Rattle.vx_door.specs.declared.doors.Met.{Met}
use Rattle.vx_session.specs.Origin.{Origin}
use Rattle.vx_gate.specs.PassView.{PassView, GateId}
use Rattle.vx_gate.specs.Seats.{nowhere}
use Rattle.vx_text.specs.Ends.{End, sink_shown}
use Rattle.vx_group.specs.Groups.{Group}
use Rattle.vx_stream.specs.declared.ends.End.TheVariants as stream
use Rattle.vx_session.specs.Dialing.{DialShown, dial_shown}
use Rattle.vx_session.specs.Progress.{Clocked}
use Rattle.vx_session.specs.Counting.{IsSessionClear}
use Rattle.vx_policy.specs.declared.rules.Rule.{Rule}
use Rattle.vx_peers.specs.Outcome.{PeerShows}
use Rattle.vx_desks.specs.declared.ruled_sessions.GuardEnd.TheVariants as guard
use Rattle.vx_desks.specs.declared.ruled_links.Guarded.{Guarded}
use Rattle.vx_desks.specs.declared.ruled_links.Guarded.TheVariants as guarded
use Rattle.vx_exchange.specs.Meaning.{meaning}
use Rattle.vx_desks.specs.RuledLinking.{GuardLinkDid}
use Rattle.vx_desks.specs.Wholes.{GuardHolding}

-- what a guard has between two peers: its pass, its clock and the greatest moment that that has told, its dial, what its note took, and
-- whether that failed
pub record GuardHas (C : Type 0) : Type 0 where
  pub pass : PassView Group
  pub clock : C
  pub told : ℕ
  pub dial : DialShown
  pub note : End
  pub failed : Bool

-- what it has, by what the types of its clock, its dial and its note tell
abbrev pub guard_has : {C D K : Type 0} → OfClock C → OfDial D → OfSink K → PassView Group → C → D → K → (failed : Bool) → GuardHas C
guard_has by_clock by_dial by_sink pass clock dial note failed =
    record { pass = pass; clock = clock; told = by_clock.told clock; dial = dial_shown by_dial dial; note = sink_shown by_sink note; failed = failed }

-- a pass of no gate
abbrev pub no_pass : PassView Group
no_pass = record { gate = nowhere; number = 0; parts = 0; seen = []; own = [] }

-- the pass, where it is in its place
abbrev pub pass_in : Option (PassView Group) → PassView Group
pass_in None = no_pass
pass_in (Some pass) = pass

-- and with the door that is its link
abbrev pub holding : {C N : Type 0} → GuardHas C → N → GuardHolding N
holding s door = record { pass = s.pass; link = door; dial = s.dial; note = s.note }

-- what holds of the pass of a guard between two peers: it is of this gate, the first one there, and has all parts, so it is alone
pub record CanServe (gate : GateId) (pass : PassView Group) : Type 0 where
  pub gate_is : pass.gate ≡ gate
  pub number : pass.number ≡ 0
  pub parts : pass.parts ≡ 4294967296

-- and behind so many peers: the pass is in its place, and each of its connections went again, so many at most
pub record IsGuardReady (gate : GateId) (count : ℕ) (held : Option (PassView Group)) : Type 0 where
  pub pass : PassView Group
  pub has : held ≡ Some pass
  pub can : CanServe gate pass
  pub clear : IsSessionClear count pass

-- what a bus, a clock and a door are to what is said of them
pub record GuardShows (B C N : Type 0) : Type 1 where
  pub bus : Origin B
  pub clock : C → ℕ → C → Type 0
  pub link : OfLink N
  pub tells : Bool
  pub waits : N → Met → N → Type 0
  pub door : N → DoorShown

-- what they are, by what the types of the clock and the door tell
abbrev pub guard_shown : {B C N : Type 0} → Origin B → OfClock C → OfLink N → DoorTold N → GuardShows B C N
guard_shown bus clock link door = record { bus = bus; clock = clock.tells; link = link; tells = door.tells; waits = door.meets; door = door_shown door }

-- the note failed in the line of a denial
abbrev pub is_note_fault : Guarded → Bool
is_note_fault (guarded.Ended guard.NoteFault) = true
is_note_fault _ = false

-- it ended for a cause of the guard's own, for which bytes of the peer may be left: junk, a record that is too long, a note that failed,
-- or no connection
abbrev pub is_own : Guarded → Bool
is_own (guarded.Ended (guard.Ended (stream.Junk count))) = true
is_own (guarded.Ended (guard.Ended stream.TooLong)) = true
is_own (guarded.Ended (guard.Ended _)) = false
is_own (guarded.Ended guard.NoteFault) = true
is_own guarded.Full = true
is_own guarded.NoMemory = true

-- whether all replies were sent
abbrev pub is_whole : Guarded → Bool
is_whole (guarded.Ended (guard.Ended stream.WriteFault)) = false
is_whole _ = true

-- A peer was served by these rules: it had its guarded session, or none came up, as there was no memory. It is judged by the address
-- that the door's list of its peers ends with. The door went by receives and sends alone, and the guard knows whether the note failed.
pub record GuardsPeer {B C N : Type 0} (n : GuardShows B C N) (rules : List Rule) (s : GuardHas C) (door : N) (how : Guarded) (s' : GuardHas C) (door' : N) : Type 0 where
  pub did : GuardLinkDid meaning n.bus n.link (Clocked n.clock s.clock s'.clock) s'.told rules (holding s door) how (holding s' door')
  pub later : s.told ≤ s'.told
  pub went : Went n.link.receives n.link.sends door door'
  pub failed : s'.failed ≡ (s.failed || is_note_fault how)
  -- its connection wasn't refused for want of room
  pub room : how ≢ guarded.Full

-- how a guard by these rules is seen as what serves the peers of a door: where its note failed it serves no further one
abbrev pub serving : {B C N : Type 0} → GuardShows B C N → List Rule → PeerShows N (GuardHas C) Guarded
serving n rules = record {
  stands = n.link.stands;
  tells = n.tells;
  waits = n.waits;
  door = n.door;
  did = GuardsPeer n rules;
  own = is_own;
  whole = is_whole;
  stopped = λ s. s.failed;
}
