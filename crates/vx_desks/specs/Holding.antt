-- What a session holds: its passes of four gates, and its connections behind them.
use Rattle.std.specs.Prelude.{◌≡◌, ℕ, List, slice_index}
use Rattle.vx_calls.specs.declared.calls.Role.{Role}
use Rattle.vx_gate.specs.PassView.{PassView, GateId}
use Rattle.vx_desks.specs.Four.{Four, Each}
use Rattle.vx_desks.specs.Passing.{IsOf}
use Rattle.vx_group.specs.Groups.{Group}
use Rattle.vx_group.specs.Phases.{Idle}
use Rattle.vx_session.specs.Turning.{phase_at}

-- the four numbers of a list
abbrev pub four_of : List ℕ → Four ℕ
four_of xs = record { zero_ = slice_index xs 0; one = slice_index xs 1; two = slice_index xs 2; three = slice_index xs 3 }

-- each pass has a connection of this role that is up and has no call
abbrev pub AreIdle : Four (PassView Group) → Four ℕ → Role → Type 0
AreIdle passes conns r = Each (λ pass conn. phase_at pass conn ≡ Idle r) passes conns

-- the passes are of these gates, and have such connections
pub record FleetHolds (passes : Four (PassView Group)) (gates : Four GateId) (conns : Four ℕ) (r : Role) : Type 0 where
  pub of : Each IsOf passes gates
  pub idle : AreIdle passes conns r
