-- To be believed.
-- How a run of the port mapper ends: for each status, what was opened and served, what was printed, and why.
use Rattle.std.specs.Prelude.{◌≡◌, ◌≢◌, ◌≤◌, ◌⊎◌, ℕ, Bool, List, [], ◌∷◌, ◌++◌}
use Rattle.std.specs.Io.KnownBytes.{Appends}
use Rattle.vx_io_traits.specs.Faults.{Rose}
use Rattle.vx_io_traits.specs.Rung.{OnDialFailed}
use Rattle.vx_io_traits.specs.declared.dials.DialOut.{DialOut}
use Rattle.vx_io_traits.specs.declared.dials.DialOut.TheVariants.{Up, Failed}
use Rattle.vx_io_traits.specs.declared.links.Link.{Ghosts}
use Rattle.vx_text.specs.Ends.{End}
use Rattle.vx_text.specs.Writing.{StopsIn}
use Rattle.vx_door.specs.Shown.{DoorShown}
use Rattle.vx_door.specs.Opening.{Opening, Opens as OpensDoor}
use Rattle.vx_door.specs.declared.doors.Met.{Met}
use Rattle.vx_peers.specs.Running.{ServesPeers, RoseOver}
use Rattle.vx_peers.specs.Outcome.{peer_status_number}
use Rattle.vx_peers.specs.Due.{peer_served_line}
use Rattle.vx_peers.specs.declared.stopping.DoorEnd.{DoorEnd}
use Rattle.vx_peers.specs.declared.stopping.DoorEnd.TheVariants as door
use Rattle.vx_peers.specs.declared.serving.DoorStatus.{DoorStatus}
use Rattle.vx_peers.specs.declared.serving.DoorStatus.TheVariants as status
use Rattle.vx_portmap.specs.declared.table.Mapping.{Mapping}
use Rattle.vx_portmap.specs.declared.serving.PacketEnd.{PacketEnd}
use Rattle.vx_portmap.specs.declared.serving.PacketEnd.TheVariants as packet
use Rattle.vx_portmap.specs.declared.words.Kind.{Kind}
use Rattle.vx_portmap.specs.declared.words.Kind.TheVariants as kind
use Rattle.vx_portmap.specs.declared.words.Ask.{Ask}
use Rattle.vx_portmap.specs.declared.run.WorkEnd.{WorkEnd}
use Rattle.vx_portmap.specs.declared.run.WorkEnd.TheVariants as work
use Rattle.vx_portmap.specs.Asked.{spelled, IsMapInRange}
use Rattle.vx_portmap.specs.Due.{mapping_line, map_usage_line}
use Rattle.vx_portmap.specs.Mapped.{StreamMapped, is_own, is_whole}
use Rattle.vx_portmap.specs.Packing.{BoxShown, PacketsCounted}

-- what a net is to what is said of it: its door's link, its door, its box of packets, and what opening either does
pub record MapShows (N : Type 0) : Type 1 where
  pub ways : Ghosts N
  pub tells : Bool
  pub waits : N → Met → N → Type 0
  pub door : N → DoorShown
  pub box : N → BoxShown
  pub box_faults : N → ℕ
  pub opening : Opening N
  pub opens_box : N → ℕ → DialOut → N → Type 0

-- the programs of the core and of the abort channel, version 1 over TCP, at the ports that are asked for (VXI-11, programs
-- DEVICE_CORE and DEVICE_ASYNC)
abbrev pub mappings : Ask → List Mapping
mappings ask =
    record { prog = 0x0607AF; vers = 1; prot = 6; port = ask.core }
    ∷ record { prog = 0x0607B0; vers = 1; prot = 6; port = ask.abort }
    ∷ []

-- these words ask this
pub record MapAsks (words : List (List ℕ)) (ask : Ask) : Type 0 where
  pub range : IsMapInRange ask
  pub words_are : words ≡ spelled ask

-- words that ask nothing
abbrev pub AsksNothing : List (List ℕ) → Type 0
AsksNothing words = (ask : Ask) → IsMapInRange ask → words ≢ spelled ask

-- The box was opened once, at this port and no other, or couldn't be. It took no packet and gave none.
pub record OpensBox {N : Type 0} (n : MapShows N) (port : ℕ) (old : N) (answer : DialOut) (new : N) : Type 0 where
  pub opened : n.opens_box old port answer new
  pub counted : n.box_faults old ≤ n.box_faults new
  pub failed : OnDialFailed answer (Rose (n.box_faults old) (n.box_faults new))
  pub ended : (n.box new).ended ≡ (n.box old).ended
  pub takes : (n.box new).take_faults ≡ (n.box old).take_faults
  pub gives : (n.box new).give_faults ≡ (n.box old).give_faults

-- this port was opened for streams or for packets, or couldn't be
abbrev pub MapOpens : {N : Type 0} → MapShows N → Kind → ℕ → N → DialOut → N → Type 0
MapOpens n kind.Stream port old answer new = OpensDoor n.opening n.ways.stands n.door port old answer new
MapOpens n kind.Packets port old answer new = OpensBox n port old answer new

-- how the work over a door ended, and over a box
abbrev pub door_end : DoorEnd → WorkEnd
door_end door.Served = work.Done
door_end door.Ended = work.Done
door_end door.Failed = work.Failed

abbrev pub packets_end : PacketEnd → WorkEnd
packets_end packet.Served = work.Done
packets_end packet.Ended = work.Done
packets_end packet.ReadFault = work.Failed
packets_end packet.WriteFault = work.Failed

-- the streams of a door's peers were served one after another
pub record ServesStreams {N : Type 0} (n : MapShows N) (ports : List Mapping) (limit : ℕ) (old : N) (how : WorkEnd) (number : ℕ) (new : N) : Type 0 where
  pub ended : DoorEnd
  pub how_is : how ≡ door_end ended
  pub left : List Mapping
  pub serves : ServesPeers n.ways.stands n.tells n.waits n.door (StreamMapped n.ways) is_own is_whole ports old limit ended number left new
  -- the door met so many, and where it told that no more come, or failed, that count rose
  pub counts : RoseOver ended number (n.door old) (n.door new)

-- the packets of a box were answered one after another
pub record ServesPackets {N : Type 0} (n : MapShows N) (ports : List Mapping) (limit : ℕ) (old : N) (how : WorkEnd) (number : ℕ) (new : N) : Type 0 where
  pub ended : PacketEnd
  pub how_is : how ≡ packets_end ended
  pub serves : PacketsCounted ports limit (n.box old) ended number (n.box new)

-- so many streams or packets were served
abbrev pub Works : {N : Type 0} → MapShows N → Kind → List Mapping → ℕ → N → WorkEnd → ℕ → N → Type 0
Works n kind.Stream ports limit old how number new = ServesStreams n ports limit old how number new
Works n kind.Packets ports limit old how number new = ServesPackets n ports limit old how number new

-- all was served that was to be, and both lines were written
pub record ServesAll {N : Type 0} (n : MapShows N) (ask : Ask) (old new : N) (before after : End) : Type 0 where
  pub number : ℕ
  pub works : Works n ask.kind (mappings ask) ask.number old work.Done number new
  pub written : Appends before.bytes after.bytes (mapping_line ask.port ++ peer_served_line number)

-- the door or the box failed behind the first line
pub record Fails {N : Type 0} (n : MapShows N) (ask : Ask) (old new : N) (before after : End) : Type 0 where
  pub number : ℕ
  pub works : Works n ask.kind (mappings ask) ask.number old work.Failed number new
  pub written : Appends before.bytes after.bytes (mapping_line ask.port)

-- the sink failed in the first line, and nothing was served
abbrev pub StopsFirst : {N : Type 0} → Ask → N → N → End → End → Type 0
StopsFirst ask old new before after = (new ≡ old) × StopsIn before after (mapping_line ask.port)

-- or it failed in the second
pub record StopsSecond {N : Type 0} (n : MapShows N) (ask : Ask) (old new : N) (before after : End) : Type 0 where
  pub number : ℕ
  pub works : Works n ask.kind (mappings ask) ask.number old work.Done number new
  pub between : End
  pub written : Appends before.bytes between.bytes (mapping_line ask.port)
  pub stops : StopsIn between after (peer_served_line number)

-- how the work at a port that was opened ends
abbrev pub IsMapServed : {N : Type 0} → MapShows N → Ask → N → N → End → End → DoorStatus → Type 0
IsMapServed n ask old new before after status.Served = ServesAll n ask old new before after
IsMapServed n ask old new before after status.NetFailed = Fails n ask old new before after
IsMapServed n ask old new before after status.SinkFailed = StopsFirst ask old new before after ⊎ StopsSecond n ask old new before after
IsMapServed n ask old new before after _ = ⊥

-- the port that is asked for was opened, once and no other, and the work there ended so
pub record MapServes {N : Type 0} (n : MapShows N) (ask : Ask) (old new : N) (before after : End) (how : DoorStatus) : Type 0 where
  pub opened : N
  pub opens : MapOpens n ask.kind ask.port old Up opened
  pub serves : IsMapServed n ask opened new before after how

-- How what is asked ends: there was no memory, and nothing was opened or written; or the port couldn't be opened, and nothing was
-- written; or the work there ended.
abbrev pub IsMapAskRun : {N : Type 0} → MapShows N → Ask → N → N → End → End → DoorStatus → Type 0
IsMapAskRun n ask old new before after status.NoMemory = (new ≡ old) × (after ≡ before)
IsMapAskRun n ask old new before after status.NetFailed =
    (MapOpens n ask.kind ask.port old Failed new × (after ≡ before)) ⊎ MapServes n ask old new before after status.NetFailed
IsMapAskRun n ask old new before after how = MapServes n ask old new before after how

-- How a run ends: the words ask nothing, which is told; or what they ask is done.
abbrev pub IsMapRun : {N : Type 0} → MapShows N → List (List ℕ) → N → N → End → End → DoorStatus → Type 0
IsMapRun n words old new before after how =
    (AsksNothing words × (new ≡ old) × (((how ≡ status.Usage) × Appends before.bytes after.bytes map_usage_line) ⊎ ((how ≡ status.SinkFailed) × StopsIn before after map_usage_line)))
    ⊎ ((ask : Ask) × MapAsks words ask × IsMapAskRun n ask old new before after how)

-- it ends with the number of its status
abbrev pub MapEndsRun : {N : Type 0} → MapShows N → List (List ℕ) → N → N → End → End → ℕ → Type 0
MapEndsRun n words old new before after number = (how : DoorStatus) × (number ≡ peer_status_number how) × IsMapRun n words old new before after how
