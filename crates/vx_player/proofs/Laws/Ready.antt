-- A player at the beginning of a play.
use Rattle.std.proofs.Common.{◌≡◌, ◌≤◌, ℕ, List, [], refl, subst, sym, ap, ◌∙◌, arith}
use Rattle.vx_flow.specs.InterleavedState.{InterleavedState, first_interleaved}
use Rattle.vx_sim.specs.SimState.{SimState, first_state}
use Rattle.vx_core.specs.CoreState.{CoreState}
use Rattle.vx_player.specs.Gateway.{Gateway, abort_port}
use Rattle.vx_setup.specs.Rack.{SpareShown}
use Rattle.vx_player.specs.Stage.{beginning}
use Rattle.vx_player.specs.PlayerState.{PlayerState}
use Rattle.vx_player.specs.Standing.{PlayerStands}

-- a player at the beginning is at the beginning with its own spares
pub begins-own : (player : PlayerState) (rack : List SpareShown) → PlayerStands player (beginning rack) → PlayerStands player (beginning player.rack)
begins-own player rack h = subst (λ r. PlayerStands player (beginning r)) (sym h.rack) h

-- a player over a core as it starts, on a bus with nothing on it, is at the beginning
pub fresh-stands : (core : CoreState SimState) (reply message : List ℕ) (rack : List SpareShown) → core.interleaved ≡ first_interleaved abort_port → core.bus ≡ first_state
    → PlayerStands (record { core = core; incoming = []; reply = reply; message = message; rack = rack; moment = 0 }) (beginning rack)
fresh-stands core reply message rack interleaved bus =
    let of : InterleavedState → SimState → Gateway = λ f b. record { interleaved = f; bus = b } in
    record {
      gateway = ap (λ (f : InterleavedState). of f core.bus) interleaved ∙ ap (λ (b : SimState). of (first_interleaved abort_port) b) bus;
      late = subst (λ (f : InterleavedState). f.state.moment ≤ 0) (sym interleaved) (omega arith);
      moment = refl;
      rack = refl;
      incoming = λ conn. refl;
    }
