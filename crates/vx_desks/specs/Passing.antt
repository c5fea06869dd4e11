-- To be believed.
-- The passes of four gates, as a contract sees them.
use Rattle.std.specs.Prelude.{◌≡◌, ◌⊎◌, ◌+◌, ◌-◌, []}
use mathlib.Core.List.{IsPrefix}
use Rattle.vx_gate.specs.History.{made_by}
use Rattle.vx_gate.specs.PassView.{PassView, GateId}
use Rattle.vx_desks.specs.Four.{Four}
use Rattle.vx_desks.specs.declared.fleet.passes.Passes.{Passes}

-- the passes by their numbers
abbrev pub passes_shown : {K G : Type 0} → Passes K G → Four (PassView G)
passes_shown p = record { zero_ = p.zero; one = p.one; two = p.two; three = p.three }

module _ {G : Type 0} where
  -- the pass is of this gate
  abbrev pub IsOf : PassView G → GateId → Type 0
  IsOf pass gate = pass.gate ≡ gate

  -- a first pass of its gate, with all parts, which has seen nothing and made nothing
  pub record IsFirst (pass : PassView G) (gate : GateId) : Type 0 where
    pub gate_is : pass.gate ≡ gate
    pub number : pass.number ≡ 0
    pub parts : pass.parts ≡ 4294967296
    pub seen : pass.seen ≡ []
    pub own : pass.own ≡ []

  -- a pass gave one part away
  abbrev pub Parts : PassView G → PassView G → Type 0
  Parts pass pass' = pass' ≡ record pass { parts = pass.parts - 1 }

  -- the pass that got it, which has seen the same and made nothing
  pub record IsParted (pass : PassView G) (other : PassView G) : Type 0 where
    pub gate_is : other.gate ≡ pass.gate
    pub parts : other.parts ≡ 1
    pub seen : other.seen ≡ pass.seen
    pub own : other.own ≡ []

  -- the groups that either made are those of its number among what it has seen
  abbrev pub InOrder : PassView G → PassView G → Type 0
  InOrder first second = (made_by first.number first.seen ≡ first.own) × (made_by second.number second.seen ≡ [])

  -- a pass goes on with the parts of two and the longer of both seen lists, of which the other is a beginning
  pub record IsMet (into other met : PassView G) : Type 0 where
    pub gate_is : met.gate ≡ into.gate
    pub number : met.number ≡ into.number
    pub own : met.own ≡ into.own
    pub parts : met.parts ≡ into.parts + other.parts
    pub longer : (met.seen ≡ into.seen) ⊎ (met.seen ≡ other.seen)
    pub begins : IsPrefix into.seen met.seen × IsPrefix other.seen met.seen
    pub order : made_by met.number met.seen ≡ met.own
