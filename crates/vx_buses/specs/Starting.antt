-- To be believed.
-- The four gateways of the program as they start.
use Rattle.std.specs.Prelude.{◌≡◌, ℕ, List, [], ◌∷◌, ◌++◌, None}
use Rattle.vx_488.specs.declared.transfers.Addr.{Addr}
use Rattle.vx_488.specs.declared.bus.Bus.{Ghosts}
use Rattle.vx_flow.specs.InterleavedState.{first_interleaved}
use Rattle.vx_inst.specs.Behavior.{Behavior}
use Rattle.vx_rack.specs.declared.Spare.{Spare}
use Rattle.vx_sim.specs.Occupants.{Seated, Boxed, handed_in}
use Rattle.vx_sim.specs.SimState.{SimState, first_state}
use Rattle.vx_sim.specs.Attaching.{IsAttached}
use Rattle.vx_core.specs.CoreState.{CoreState}
use Rattle.vx_core.specs.Standing.{Became}
use Rattle.vx_desks.specs.Four.{Four, listed}

-- primary address 5, without a secondary
abbrev pub place : Addr
place = record { p = 5; s = None }

-- a gateway with nothing in it, whose abort channel is at port 9011, over a bus that nobody has asked yet, on which this instrument
-- stands at primary address 5
pub record IsFurnished (inst : Seated) (core : CoreState SimState) : Type 0 where
  pub interleaved : core.interleaved ≡ first_interleaved 9011
  pub bus : IsAttached place (Boxed inst) first_state core.bus

-- one for each of these instruments, in their order
abbrev pub AreFurnished : List Seated → List (CoreState SimState) → Type 0
AreFurnished [] [] = Unit {0}
AreFurnished [] (core ∷ cores) = ⊥
AreFurnished (inst ∷ insts) [] = ⊥
AreFurnished (inst ∷ insts) (core ∷ cores) = IsFurnished inst core × AreFurnished insts cores

-- the first core of each of four gates is over the instrument of its place in these
abbrev pub StandInOrder : List Seated → Four (CoreState SimState) → Type 0
StandInOrder insts firsts = AreFurnished insts (listed firsts)

module _ {B : Type 0} (g : Ghosts B) (stands : Seated → B → Type 0) where
  -- a gateway with nothing in it, whose abort channel is at port 9011, over a bus on which this instrument stands
  pub record Begins (inst : Seated) (core : CoreState B) : Type 0 where
    pub interleaved : core.interleaved ≡ first_interleaved 9011
    pub bus : stands inst core.bus
    pub became : Became g.means g.through core core []

  -- the first instrument of a rack was taken, and a gateway over it stands behind the others
  pub record AddsCore {I : Type 0} (behaves : I → Behavior) (nature : I → List ℕ) (rack : List (Spare I)) (cores : List (CoreState B)) (rack' : List (Spare I)) (cores' : List (CoreState B)) : Type 0 where
    pub spare : Spare I
    pub core : CoreState B
    pub rack_is : rack ≡ spare ∷ rack'
    pub cores_are : cores' ≡ cores ++ core ∷ []
    pub begins : Begins (handed_in behaves nature spare.inst) core
