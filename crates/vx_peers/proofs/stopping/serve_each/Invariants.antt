use Rattle.std.proofs.Common.{◌≡◌, ◌-◌, ◌≤◌, false}
use Rattle.vx_door.specs.Shown.{door_told}
use Rattle.vx_peers.specs.Outcome.{PeerShows, peer_shows}
use Rattle.vx_peers.proofs.Rounds.{SoFar}
use Rattle.vx_peers.proofs.stopping.serve_each.Given as goal

-- what the door and its server are to what is said of them
abbrev pub shows : (g : goal.Over) → PeerShows g.row.N.Denot g.row.S.Denot g.row.S-End.Denot
shows g = peer_shows (door_told g.N.Link g.N.Door) g.S.PeerServer

abbrev pub invariant-loop-number : goal.invariant-loop-number
invariant-loop-number g l =
    g.S.PeerServer.can l.server l.number
    × (l.number ≤ l.limit)
    × SoFar (shows g) l.initial.server l.initial.door l.number l.server l.door
    × (g.S.PeerServer.is_stopped l.server ≡ false)

abbrev pub decreases-loop-number : goal.decreases-loop-number
decreases-loop-number g l = l.limit - l.number
