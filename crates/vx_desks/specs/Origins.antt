-- To be believed.
-- What the histories of four gateways begin with.
use Rattle.std.specs.Prelude.{ℕ}
use Rattle.vx_488.specs.declared.bus.Bus.{Ghosts}
use Rattle.vx_core.specs.CoreState.{CoreState}
use Rattle.vx_desks.specs.Four.{Four, at}
use Rattle.vx_session.specs.Origin.{Origin, origin}

-- what a bus names of itself, and the cores, each with its bus, that the four gates were started over, by the buses' numbers
pub record Origins (B : Type 0) : Type 1 where
  pub bus : Ghosts B
  pub firsts : Four (CoreState B)

abbrev pub origins : {B : Type 0} → Ghosts B → Four (CoreState B) → Origins B
origins bus firsts = record { bus = bus; firsts = firsts }

-- what the history of the bus of this number begins with
abbrev pub on : {B : Type 0} → ℕ → Origins B → Origin B
on b g = origin g.bus (at b g.firsts)

-- a fact of each of four buses: of what its history begins with, and of three of its number
pub record OnEach {B X Y Z : Type 0} (P : Origin B → X → Y → Z → Type 0) (g : Origins B) (x : Four X) (y : Four Y) (z : Four Z) : Type 0 where
  pub zero_ : P (on 0 g) x.zero_ y.zero_ z.zero_
  pub one : P (on 1 g) x.one y.one z.one
  pub two : P (on 2 g) x.two y.two z.two
  pub three : P (on 3 g) x.three y.three z.three
