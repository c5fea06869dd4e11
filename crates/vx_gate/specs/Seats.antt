-- How a pass is seen, and what holds of its seat.
use Rattle.std.specs.Prelude.{◌≡◌, []}
use Rattle.atomic_table.specs.declared.shared.Seat.{Seat}
use Rattle.vx_gate.specs.declared.views.View.{View}
use Rattle.vx_gate.specs.declared.views.Stage.{Stage}
use Rattle.vx_gate.specs.declared.views.Stage.TheVariants.{Idle, Spent}
use Rattle.vx_gate.specs.History.{made_by}
use Rattle.vx_gate.specs.PassView.{PassView, GateId}

-- no gate: a gate has words
abbrev pub nowhere : GateId
nowhere = record { words = 0; slots = 0; views_name = 0; atom = 0; block = 0; offset = 0; slot_names = [] }

-- a pass that came back from the close of its gate is of no gate any more
abbrev pub gate_at : GateId → Stage → GateId
gate_at z Spent = nowhere
gate_at z _ = z

-- between two calls a pass has no ticket
abbrev pub Rests : Stage → Type 0
Rests Idle = Unit {0}
Rests Spent = Unit {0}
Rests _ = ⊥

module _ {K G : Type 0} where
  abbrev pub pass_view : Seat K (View G) → PassView G
  pass_view s = record { gate = gate_at s.table_id s.me.0.stage; number = s.id; parts = s.me.0.parts; seen = s.me.0.seen; own = s.me.0.own }

  -- it has no slot and no ticket, and its own groups are those of its number among what it has seen
  pub record IsPass (s : Seat K (View G)) : Type 0 where
    pub empty : s.me.1 ≡ []
    pub rests : Rests s.me.0.stage
    pub order : made_by s.id s.me.0.seen ≡ s.me.0.own
