-- To be believed.
-- What the instruments hear of a write over a link to a gateway.
use Rattle.std.specs.Prelude.{◌≡◌, ◌≢◌, ℕ, true, false, List, [], Some}
use Rattle.std.specs.List.{flat_map}
use Rattle.vx_calls.specs.declared.targets.Target.TheVariants.{Device}
use Rattle.vx_488.specs.declared.transfers.Addr.{Addr}
use Rattle.vx_488.specs.Heard.{Byte, heard}
use Rattle.vx_488.specs.Steps.{Step}
use Rattle.vx_rules.specs.Table.{Link}
use Rattle.vx_rules.specs.State.{link_of}
use Rattle.vx_flow.specs.Event.{Event}
use Rattle.vx_loop.specs.Gateway.{Gateway, gateway_of}
use Rattle.vx_flow.specs.Frames.{moves_by}
use Rattle.vx_client.specs.State.{ClientState}
use Rattle.vx_loop.specs.LoopState.{ServedState, LoopState, IsIdle}
use Rattle.vx_loop.specs.Exchanges.{LoopAdds}
use Rattle.vx_loop.specs.Serving.{lives}

-- What happened in a gateway let an address hear these bytes, in order, and every other one none: of the transfers of the turns'
-- moves, from the bus as it was before.
pub record Hears (before after : Gateway) (a : Addr) (bytes : List Byte) : Type 0 where
  pub group : List Event
  pub steps : List Step
  pub adds : LoopAdds before group steps after
  pub here : heard a before.interleaved.state.wire (flat_map moves_by group) ≡ bytes
  pub elsewhere : (b : Addr) → b ≢ a → heard b before.interleaved.state.wire (flat_map moves_by group) ≡ []

-- a client whose link is to this gateway, between calls: it keeps no byte behind the last reply, and isn't spent
pub record IsResting (c : ClientState LoopState) (s : ServedState) : Type 0 where
  pub serves : c.link.served ≡ Some s
  pub idle : IsIdle s
  pub fit : c.spent ≡ false
  pub none_kept : c.kept ≡ []

-- a live link of connection 1 to a device
pub record IsToDevice (s : ServedState) (lid : ℕ) (a : Addr) : Type 0 where
  pub link : Link
  pub live : link_of s.core.interleaved.state.tables 1 lid ≡ Some link
  pub target : link.target ≡ Device a.p a.s

-- Over a client between calls a write, in one piece or several, did this to the device that its link is to; and the client is between
-- calls again. The connection lived, and lives now, and the links are the same.
pub record IsHeard (old new : ClientState LoopState) (lid : ℕ) (bytes : List Byte) (s : ServedState) : Type 0 where
  pub then_served : ServedState
  pub rests : IsResting new then_served
  pub before : lives (gateway_of s.core) ≡ true
  pub alive : lives (gateway_of then_served.core) ≡ true
  pub links : then_served.core.interleaved.state.tables.links ≡ s.core.interleaved.state.tables.links
  pub hears : (a : Addr) → IsToDevice s lid a → Hears (gateway_of s.core) (gateway_of then_served.core) a bytes
