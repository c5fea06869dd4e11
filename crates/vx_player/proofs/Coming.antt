-- The connections of a run's head come up: none is refused, and behind them no call is pending, and none has a channel.
use Rattle.std.proofs.Common.{◌≡◌, ◌==◌, ℕ, Bool, true, false, cond, not, [], Option, Some, None, ◌⊎◌, inl, inr, refl, sym, ap, ◌∙◌, subst, arith}
use Rattle.vx_calls.specs.declared.calls.Role.{Role}
use Rattle.vx_calls.specs.declared.calls.Role.TheVariants as role
use Rattle.vx_script.specs.declared.Cause.{Cause}
use Rattle.vx_script.specs.declared.Cause.TheVariants as cause
use Rattle.vx_script.specs.Command.{Up}
use Rattle.vx_rules.specs.Lists.{along}
use Rattle.vx_rules.specs.SrqState.{channel_at}
use Rattle.vx_rules.specs.State.{role_at, pending_at, has_room, with_connection}
use Rattle.vx_flow.specs.Event as event
use Rattle.vx_flow.specs.InterleavedState.{InterleavedState, first_interleaved}
use Rattle.vx_flow.specs.InterleavedStep.{interleaved_step}
use Rattle.vx_flow.specs.Does.{beside}
use Rattle.vx_flow.specs.Sound.{IsSound}
use Rattle.vx_flow.proofs.Laws.{interleaved-does, stays_sound-law, first-sound}
use Rattle.vx_player.specs.Gateway.{abort_port}
use Rattle.vx_run.specs.Item.{Item}
use Rattle.vx_player.specs.Stage.{Stage, refusal}
use Rattle.vx_player.specs.Play.{PlayerTakes}
use Rattle.vx_player.proofs.Idle.{idle-stays}
use Rattle.vx_player.proofs.Room.{HasRoom}
use Rattle.vx_player.proofs.Resting.{IsResting}
use Rattle.vx_player.proofs.Served.{IsCore, IsServed, made, streams-left}

-- the gateway with one connection more
abbrev pub up : InterleavedState → Role → InterleavedState
up f r = beside f (with_connection f.state.tables r) f.state.moment f.dialed

-- Connections came up to such a gateway, and nothing else came.
pub record HasComeUp (f : InterleavedState) (s : Stage) : Type 0 where
  pub interleaved : s.gateway.interleaved ≡ f
  pub sound : IsSound s.gateway.interleaved
  pub idle : (n : ℕ) → pending_at s.gateway.interleaved.state.tables n ≡ None
  pub streams : (conn : ℕ) → s.streams conn ≡ []

-- why a connection doesn't come up
abbrev pub up_refused : InterleavedState → ℕ → Role → Option Cause
up_refused f conn r =
    cond (not (conn == f.state.tables.next_connection)) (Some cause.Number) (cond (has_room f.state.tables r) None (Some cause.Full))

-- one that may come up isn't refused
pub up-allowed : (f : InterleavedState) (s : Stage) (conn : ℕ) (r : Role) → HasComeUp f s → up_refused f conn r ≡ None → refusal s (Up conn r) ≡ None
up-allowed f s conn r came free = ap (λ g. up_refused g conn r) came.interleaved ∙ free

-- and leaves this
pub up-leads : (f : InterleavedState) (s t : Stage) (item : Item) (conn : ℕ) (r : Role) → HasComeUp f s → item.command ≡ Up conn r → PlayerTakes s item t → HasComeUp (up f r) t
up-leads f s t item conn r came is takes =
    let m = made s t item (Up conn r) is takes in
    let h : interleaved_step s.gateway.interleaved (event.Up conn r) ≡ Some t.gateway.interleaved = subst (λ es. along interleaved_step (Some s.gateway.interleaved) es ≡ Some t.gateway.interleaved) m.0 m.1.events in
    record {
      interleaved = (interleaved-does s.gateway.interleaved t.gateway.interleaved (event.Up conn r) h).step.leads ∙ ap (λ g. up g r) came.interleaved;
      sound = stays_sound-law s.gateway.interleaved t.gateway.interleaved (event.Up conn r) came.sound h;
      idle = λ n. idle-stays n s.gateway.interleaved t.gateway.interleaved (event.Up conn r) refl h (came.idle n);
      streams = streams-left s t item (Up conn r) is takes (λ n. left n (n == conn));
    }
  where
    left : (n : ℕ) (b : Bool) → cond b [] (s.streams n) ≡ []
    left n true = refl
    left n false = came.streams n

-- ---- the five of the head

abbrev pub up_0 : InterleavedState
up_0 = first_interleaved abort_port

abbrev pub up_1 : InterleavedState
up_1 = up up_0 role.Core

abbrev pub up_2 : InterleavedState
up_2 = up up_1 role.Core

abbrev pub up_3 : InterleavedState
up_3 = up up_2 role.Core

abbrev pub up_4 : InterleavedState
up_4 = up up_3 role.Core

abbrev pub up_5 : InterleavedState
up_5 = up up_4 role.Abort

-- none is up at first
pub none-up : (s : Stage) → s.gateway.interleaved ≡ up_0 → ((conn : ℕ) → s.streams conn ≡ []) → HasComeUp up_0 s
none-up s is anew = record {
  interleaved = is;
  sound = subst IsSound (sym is) (first-sound abort_port);
  idle = λ n. ap (λ (f : InterleavedState). pending_at f.state.tables n) is;
  streams = anew;
}

-- behind them the gateway is served
pub up-served : (s : Stage) → HasComeUp up_5 s → IsServed s
up-served s came = record {
  serving = record {
    core = λ n is. ap (λ (f : InterleavedState). role_at f.state.tables n) came.interleaved ∙ core n is;
    abort = ap (λ (f : InterleavedState). role_at f.state.tables 5) came.interleaved;
    idle = came.idle 5;
  };
  streams = came.streams;
}
  where
    core : (n : ℕ) → IsCore n → role_at up_5.state.tables n ≡ Some role.Core
    core n (inl e) = ap (role_at up_5.state.tables) e
    core n (inr (inl e)) = ap (role_at up_5.state.tables) e
    core n (inr (inr (inl e))) = ap (role_at up_5.state.tables) e
    core n (inr (inr (inr e))) = ap (role_at up_5.state.tables) e

-- the connections that get a channel
abbrev pub GetsChannel : ℕ → Type 0
GetsChannel n = (n ≡ 1) ⊎ (n ≡ 4)

-- and rests
pub up-rests : (s : Stage) → HasComeUp up_5 s → IsResting 1 GetsChannel s.gateway.interleaved
up-rests s came = record {
  sound = came.sound;
  room = subst (λ (f : InterleavedState). HasRoom 1 GetsChannel f.state.tables) (sym came.interleaved) (record { few = omega arith; numbers = omega arith; free = free });
  idle = came.idle;
}
  where
    free : (n : ℕ) → GetsChannel n → channel_at up_5.state.tables.srq_state n ≡ None
    free n (inl e) = ap (channel_at up_5.state.tables.srq_state) e
    free n (inr e) = ap (channel_at up_5.state.tables.srq_state) e
