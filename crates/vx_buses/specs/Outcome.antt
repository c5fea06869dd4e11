-- To be believed.
-- How a run of the program of four buses ends: for each status, what was opened and served, what was printed, and why.
use Rattle.std.specs.Prelude.{◌≡◌, ◌⊎◌, ℕ, Bool, false, List, codes}
use Rattle.vx_io_traits.specs.declared.links.Link.{Ghosts as OfLink}
use Rattle.vx_text.specs.Ends.{End}
use Rattle.vx_door.specs.Shown.{DoorShown, DoorTold, door_shown}
use Rattle.vx_door.specs.Opening.{Opening}
use Rattle.vx_peers.specs.Running.{KeepsOwn}
use Rattle.vx_door.specs.declared.doors.Met.{Met}
use Rattle.vx_peers.specs.declared.words.Ask.{Ask}
use Rattle.vx_peers.specs.declared.serving.DoorStatus.{DoorStatus}
use Rattle.vx_peers.specs.declared.serving.DoorStatus.TheVariants as status
use Rattle.vx_peers.specs.Outcome.{PeerShows, PeerAsks, AsksNothing, PeerPutsLine, IsPeerServed, peer_status_number}
use Rattle.vx_488.specs.declared.bus.Bus.{Ghosts}
use Rattle.vx_core.specs.CoreState.{CoreState}
use Rattle.vx_desks.specs.Four.{Four}
use Rattle.vx_session.specs.declared.links.Linked.{Linked}
use Rattle.vx_desks.specs.FleetLinking.{is_own, is_whole}
use Rattle.vx_buses.specs.Hosting.{Hosting, FleetBegins, PeerDid}

-- the words have another form
abbrev pub fleet_usage_line : List ℕ
fleet_usage_line = codes "usage: vxbuses PORT N\n"

-- what a door is to what is said of it
pub record FleetShows (N : Type 0) : Type 1 where
  pub link : OfLink N
  pub tells : Bool
  pub waits : N → Met → N → Type 0
  pub door : N → DoorShown
  pub opening : Opening N

-- what it is, by what its type tells as a link and as a door
abbrev pub fleet_shows : {N : Type 0} → OfLink N → DoorTold N → FleetShows N
fleet_shows link told = record { link = link; tells = told.tells; waits = told.meets; door = door_shown told; opening = record { opens = told.opens; ready = told.is_ready } }

module _ {B C N : Type 0} (g : Ghosts B) (clock : C → ℕ → C → Type 0) (n : FleetShows N) where
  -- serving a link of the door
  abbrev pub Does : Hosting B C → N → Linked → Hosting B C → N → Type 0
  Does = PeerDid g clock n.link

  -- the door with what its server does, as a program over a door has it
  abbrev pub hosted : PeerShows N (Hosting B C) Linked
  hosted = record { stands = n.link.stands; tells = n.tells; waits = n.waits; door = n.door; did = Does; own = is_own; whole = is_whole; stopped = λ server. false }

  -- `start` tells of the cores, each with its bus, that the four gates are started over
  module _ (start : Four (CoreState B) → Type 0) where
    -- The work at the port that is asked for, by four gates that begin with nothing. As serving a link leaves the door's own counts, those tell how many
    -- it met over the whole run.
    pub record Hosts (ask : Ask) (old new : N) (before after : End) (how : DoorStatus) : Type 0 where
      pub server : Hosting B C
      pub begins : FleetBegins start server
      pub server' : Hosting B C
      pub served : IsPeerServed hosted n.opening ask server old server' new before after how
      pub keeps : KeepsOwn n.door Does

    -- How what is asked ends: there was no memory, and nothing was opened or written; or the work at the port ended.
    abbrev pub IsFleetAskRun : Ask → N → N → End → End → DoorStatus → Type 0
    IsFleetAskRun ask old new before after status.NoMemory = (new ≡ old) × (after ≡ before)
    IsFleetAskRun ask old new before after how = Hosts ask old new before after how

    -- How a run ends: the words ask nothing, which is told; or what they ask is done.
    abbrev pub IsFleetRun : List (List ℕ) → N → N → End → End → DoorStatus → Type 0
    IsFleetRun words old new before after how =
        (AsksNothing words × (new ≡ old) × PeerPutsLine status.Usage fleet_usage_line before after how)
        ⊎ ((ask : Ask) × PeerAsks words ask × IsFleetAskRun ask old new before after how)

    -- it ends with the number of its status
    abbrev pub FleetEndsRun : List (List ℕ) → N → N → End → End → ℕ → Type 0
    FleetEndsRun words old new before after number = (how : DoorStatus) × (number ≡ peer_status_number how) × IsFleetRun words old new before after how
