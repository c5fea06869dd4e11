-- To be believed.
-- What contracts see of a link to connection 1 of a gateway.
use Rattle.std.specs.Prelude.{◌≡◌, ℕ, Bool, List, [], ◌∷◌, Option, None}
use Rattle.vx_488.specs.Steps.{Cut}
use Rattle.vx_calls.specs.declared.calls.Role.TheVariants as role
use Rattle.vx_calls.specs.declared.limits.TheConstants.{RECORD_MAX}
use Rattle.vx_record.specs.Buffer.{BufState, fresh}
use Rattle.vx_sim.specs.SimState.{SimState}
use Rattle.vx_rules.specs.SrqState as srq_state
use Rattle.vx_rules.specs.State.{pending_at, first_tables, first}
use Rattle.vx_flow.specs.Event.{Up}
use Rattle.vx_flow.specs.InterleavedState.{InterleavedState, first_interleaved}
use Rattle.vx_core.specs.CoreState.{CoreState}
use Rattle.vx_loop.specs.Gateway.{Gateway, gateway_of, Happens}

-- a gateway that serves a link
pub record ServedState : Type 0 where
  pub core : CoreState SimState
  -- what has come of the next record
  pub buffer : BufState
  -- the xid of the last call that came
  pub xid : ℕ
  -- what is left to give of the last reply
  pub left : List ℕ

pub record LoopState : Type 0 where
  -- none only while the gateway is looked at apart from the link
  pub served : Option ServedState
  -- how many receives failed, and how many sends
  pub receive_faults : ℕ
  pub send_faults : ℕ

-- no call is pending, no part of a record has come, and no byte of a reply is left to give
pub record IsIdle (s : ServedState) : Type 0 where
  pub answered : pending_at s.core.interleaved.state.tables 1 ≡ None
  pub fresh_is : s.buffer ≡ fresh RECORD_MAX
  pub given : s.left ≡ []

-- a gateway on which no connection was ever made: it may have sampled the SRQ line
abbrev pub unconnected : (abort_port : ℕ) (level : Bool) (moment : ℕ) → InterleavedState
unconnected abort_port level moment = record (first_interleaved abort_port) {
  state = record (first abort_port) {
    tables = record (first_tables abort_port) { srq_state = record srq_state.empty { level = level } };
    moment = moment;
  };
}

abbrev pub IsUnconnected : InterleavedState → Type 0
IsUnconnected f = f ≡ unconnected f.state.tables.abort_port f.state.tables.srq_state.level f.state.moment

-- connection 1 came up on this gateway, and nothing else happened on it
abbrev pub OnlyComesUp : Gateway → Gateway → Type 0
OnlyComesUp before after = Happens before (Up 1 role.Core ∷ []) (Cut ∷ []) after

-- a link as it is made: connection 1 has come up on a gateway that had none before
pub record IsBeginning (s : ServedState) : Type 0 where
  pub idle : IsIdle s
  pub before : Gateway
  pub alone : IsUnconnected before.interleaved
  pub up : OnlyComesUp before (gateway_of s.core)
