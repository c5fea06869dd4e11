-- To be believed.
-- How a run over a door ends: for each status, who was served, what was printed, and why.
use Rattle.std.specs.Prelude.{◌≡◌, ◌≢◌, ◌≤◌, ◌⊎◌, ℕ, Bool, true, false, List}
use Rattle.std.specs.Io.KnownBytes.{Appends}
use Rattle.vx_io_traits.specs.declared.dials.DialOut.TheVariants.{Up, Failed}
use Rattle.vx_text.specs.Ends.{End}
use Rattle.vx_text.specs.Writing.{StopsIn}
use Rattle.vx_door.specs.Shown.{DoorShown, DoorTold, door_shown}
use Rattle.vx_door.specs.Opening.{Opening, Opens}
use Rattle.vx_peers.specs.Running.{ServesPeers}
use Rattle.vx_door.specs.declared.doors.Met.{Met}
use Rattle.vx_peers.specs.declared.stopping.DoorEnd.{DoorEnd}
use Rattle.vx_peers.specs.declared.stopping.DoorEnd.TheVariants as door
use Rattle.vx_peers.specs.declared.words.Ask.{Ask}
use Rattle.vx_peers.specs.declared.servers.PeerServer.{Ghosts as ServerTold}
use Rattle.vx_peers.specs.declared.stopping.WhyStopped.{WhyStopped}
use Rattle.vx_peers.specs.declared.stopping.WhyStopped.TheVariants as stop
use Rattle.vx_peers.specs.declared.serving.PortEnd.{PortEnd}
use Rattle.vx_peers.specs.declared.serving.PortEnd.TheVariants as port
use Rattle.vx_peers.specs.declared.serving.DoorStatus.{DoorStatus}
use Rattle.vx_peers.specs.declared.serving.DoorStatus.TheVariants as status
use Rattle.vx_peers.specs.Asked.{spelled, IsPeerInRange}
use Rattle.vx_peers.specs.Due.{peer_served_line}

-- the number of a status
abbrev pub peer_status_number : DoorStatus → ℕ
peer_status_number status.Served = 0
peer_status_number status.Usage = 1
peer_status_number status.NetFailed = 3
peer_status_number status.NoMemory = 5
peer_status_number status.SinkFailed = 6

-- what a door is to what is said of it, what its server does with a peer, and whether that serves no further one
pub record PeerShows (N S E : Type 0) : Type 1 where
  pub stands : N → List ℕ → List ℕ → Type 0
  pub tells : Bool
  pub waits : N → Met → N → Type 0
  pub door : N → DoorShown
  pub did : S → N → E → S → N → Type 0
  pub own : E → Bool
  pub whole : E → Bool
  pub stopped : S → Bool

-- what they are, by what the types of both tell
abbrev pub peer_shows : {N S E : Type 0} → DoorTold N → ServerTold S N E → PeerShows N S E
peer_shows door server = record {
  stands = door.stands;
  tells = door.tells;
  waits = door.meets;
  door = door_shown door;
  did = server.did;
  own = server.is_own;
  whole = server.is_whole;
  stopped = server.is_stopped;
}

-- these words ask this
pub record PeerAsks (words : List (List ℕ)) (ask : Ask) : Type 0 where
  pub range : IsPeerInRange ask
  pub words_are : words ≡ spelled ask

-- words that ask nothing
abbrev pub AsksNothing : List (List ℕ) → Type 0
AsksNothing words = (ask : Ask) → IsPeerInRange ask → words ≢ spelled ask

-- a line was written by a run that ends so, or the sink failed in it
abbrev pub PeerPutsLine : DoorStatus → List ℕ → End → End → DoorStatus → Type 0
PeerPutsLine how line before after result =
    ((result ≡ how) × Appends before.bytes after.bytes line) ⊎ ((result ≡ status.SinkFailed) × StopsIn before after line)

-- how it is told what became of a port: nothing is told where that couldn't be opened, or the door failed
abbrev pub IsPeerTold : PortEnd → End → End → DoorStatus → Type 0
IsPeerTold port.Unopened before after result = (result ≡ status.NetFailed) × (after ≡ before)
IsPeerTold (port.Served (stop.Door door.Failed) number) before after result = (result ≡ status.NetFailed) × (after ≡ before)
IsPeerTold (port.Served (stop.Door door.Served) number) before after result = PeerPutsLine status.Served (peer_served_line number) before after result
IsPeerTold (port.Served (stop.Door door.Ended) number) before after result = PeerPutsLine status.Served (peer_served_line number) before after result
IsPeerTold (port.Served stop.Server number) before after result = PeerPutsLine status.Served (peer_served_line number) before after result

module _ {N S E : Type 0} (n : PeerShows N S E) where
  -- so many peers were met and served, at most `limit` of them, until it ended so
  abbrev pub PeerServes : (limit : ℕ) → DoorEnd → (number : ℕ) → S → N → S → N → Type 0
  PeerServes limit ended number server old server' new = ServesPeers n.stands n.tells n.waits n.door n.did n.own n.whole server old limit ended number server' new

  -- Why no more were served of at most `limit`: as the door tells, by a server that isn't stopped; or the server is stopped behind the
  -- last.
  abbrev pub StopsPeers : (limit : ℕ) → WhyStopped → (number : ℕ) → S → N → S → N → Type 0
  StopsPeers limit (stop.Door ended) number server old server' new = PeerServes limit ended number server old server' new × (n.stopped server' ≡ false)
  StopsPeers limit stop.Server number server old server' new =
      PeerServes number door.Served number server old server' new × (number ≤ limit) × (n.stopped server' ≡ true)

  -- all that were to be were served, or no more came, and the line was written
  pub record ServesAll (ask : Ask) (server : S) (old : N) (server' : S) (new : N) (before after : End) : Type 0 where
    pub ended : DoorEnd
    pub number : ℕ
    pub whole : ended ≢ door.Failed
    pub serves : PeerServes ask.number ended number server old server' new
    pub written : Appends before.bytes after.bytes (peer_served_line number)

  -- the door failed, and nothing was written
  pub record Fails (ask : Ask) (server : S) (old : N) (server' : S) (new : N) (before after : End) : Type 0 where
    pub number : ℕ
    pub serves : PeerServes ask.number door.Failed number server old server' new
    pub same : after ≡ before

  -- the sink failed in the line
  pub record StopsLine (ask : Ask) (server : S) (old : N) (server' : S) (new : N) (before after : End) : Type 0 where
    pub ended : DoorEnd
    pub number : ℕ
    pub serves : PeerServes ask.number ended number server old server' new
    pub stops : StopsIn before after (peer_served_line number)

  -- how the work at a port that was opened ends
  abbrev pub IsOpenServed : Ask → S → N → S → N → End → End → DoorStatus → Type 0
  IsOpenServed ask server old server' new before after status.Served = ServesAll ask server old server' new before after
  IsOpenServed ask server old server' new before after status.NetFailed = Fails ask server old server' new before after
  IsOpenServed ask server old server' new before after status.SinkFailed = StopsLine ask server old server' new before after
  IsOpenServed ask server old server' new before after _ = ⊥

  -- the port that is asked for was opened, once and no other, and of the door as it was then this holds
  pub record OpensPort (o : Opening N) (ask : Ask) (old : N) (Holds : N → Type 0) : Type 0 where
    pub opened : N
    pub opens : Opens o n.stands n.door ask.port old Up opened
    pub came : Holds opened

  -- what became of a port: it couldn't be opened, and nobody was served; or it was, and so many were served there, until this stopped it
  abbrev pub IsPortServed : Opening N → Ask → S → N → PortEnd → S → N → Type 0
  IsPortServed o ask server old port.Unopened server' new = Opens o n.stands n.door ask.port old Failed new × (server' ≡ server)
  IsPortServed o ask server old (port.Served why number) server' new = OpensPort o ask old (λ opened. StopsPeers ask.number why number server opened server' new)

  -- the port was opened, and the work there ended so
  abbrev pub OpensAndServes : Opening N → Ask → S → N → S → N → End → End → DoorStatus → Type 0
  OpensAndServes o ask server old server' new before after how = OpensPort o ask old (λ opened. IsOpenServed ask server opened server' new before after how)

  -- how the work at a port ends: that couldn't be opened, and nothing was served or written; or the work there ended
  abbrev pub IsPeerServed : Opening N → Ask → S → N → S → N → End → End → DoorStatus → Type 0
  IsPeerServed o ask server old server' new before after status.NetFailed =
      (Opens o n.stands n.door ask.port old Failed new × (server' ≡ server) × (after ≡ before)) ⊎ OpensAndServes o ask server old server' new before after status.NetFailed
  IsPeerServed o ask server old server' new before after how = OpensAndServes o ask server old server' new before after how
