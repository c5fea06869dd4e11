-- How a run by a server that never stops comes to its end: what became of the port was told.
use Rattle.std.proofs.Common.{◌≡◌, ◌≢◌, inl, inr, ℕ, false, sym, ◌∙◌}
use Rattle.std.proofs.lemmas.Bool.{false≢true}
use Rattle.vx_text.specs.Ends.{End}
use Rattle.vx_door.specs.Opening.{Opening, Opens}
use Rattle.vx_peers.specs.declared.stopping.DoorEnd.{DoorEnd}
use Rattle.vx_peers.specs.declared.stopping.DoorEnd.TheVariants as door
use Rattle.vx_io_traits.specs.declared.dials.DialOut.TheVariants.{Up}
use Rattle.vx_peers.specs.declared.words.Ask.{Ask}
use Rattle.vx_peers.specs.declared.stopping.WhyStopped.TheVariants as stop
use Rattle.vx_peers.specs.declared.serving.PortEnd.{PortEnd}
use Rattle.vx_peers.specs.declared.serving.PortEnd.TheVariants as port
use Rattle.vx_peers.specs.declared.serving.DoorStatus.{DoorStatus}
use Rattle.vx_peers.specs.declared.serving.DoorStatus.TheVariants as status
use Rattle.vx_peers.specs.Due.{peer_served_line}
use Rattle.vx_peers.specs.Outcome.{PeerShows, PeerPutsLine, IsPeerTold, PeerServes, IsPortServed, IsPeerServed}

module _ {N S E : Type 0} (n : PeerShows N S E) (o : Opening N) (ask : Ask) (server : S) (old : N) (server' : S) (new : N) (before after : End) (how : DoorStatus) where
  -- the line was written, or the sink failed in it
  line-told : (opened : N) → Opens o n.stands n.door ask.port old Up opened → (ended : DoorEnd) → ended ≢ door.Failed → (number : ℕ) → PeerServes n ask.number ended number server opened server' new
      → PeerPutsLine status.Served (peer_served_line number) before after how → IsPeerServed n o ask server old server' new before after how
  line-told opened opens ended whole number serves (inl told) =
      rw told.0 (record { opened = opened; opens = opens; came = record { ended = ended; number = number; whole = whole; serves = serves; written = told.1 } })
  line-told opened opens ended whole number serves (inr told) =
      rw told.0 (record { opened = opened; opens = opens; came = record { ended = ended; number = number; serves = serves; stops = told.1 } })

  -- what became of the port was told
  pub port-told : ((s : S) → n.stopped s ≡ false) → (end : PortEnd) → IsPortServed n o ask server old end server' new → IsPeerTold end before after how
      → IsPeerServed n o ask server old server' new before after how
  port-told lasting port.Unopened did told = rw told.0 (inl (did.0, did.1, told.1))
  port-told lasting (port.Served (stop.Door door.Failed) number) did told =
      rw told.0 (inr (record { opened = did.opened; opens = did.opens; came = record { number = number; serves = did.came.0; same = told.1 } }))
  port-told lasting (port.Served (stop.Door door.Served) number) did told = line-told did.opened did.opens door.Served (λ e. absurd cc) number did.came.0 told
  port-told lasting (port.Served (stop.Door door.Ended) number) did told = line-told did.opened did.opens door.Ended (λ e. absurd cc) number did.came.0 told
  port-told lasting (port.Served stop.Server number) did told = absurd (false≢true (sym (lasting server') ∙ did.came.2))
