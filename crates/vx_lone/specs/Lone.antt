-- To be believed.
-- A simulated bus with one instrument of a rack on it, at primary address 5, and nothing else.
use Rattle.std.specs.Prelude.{◌≡◌, ◌⊎◌, ℕ, List, [], ◌∷◌, map, None}
use Rattle.vx_488.specs.declared.transfers.Addr.{Addr}
use Rattle.vx_488.specs.Steps.{Step}
use Rattle.vx_488.specs.declared.bus.Bus.{Ghosts}
use Rattle.vx_inst.specs.Behavior.{Behavior}
use Rattle.vx_rack.specs.declared.Spare.{Spare}
use Rattle.vx_sim.specs.Bench.{some_asks, some_refuses}
use Rattle.vx_sim.specs.Occupants.{Seated, Boxed, Placed, handed_in}
use Rattle.vx_sim.specs.SimState.{SimState, Through}

-- primary address 5, without a secondary
abbrev pub place : Addr
place = record { p = 5; s = None }

-- the instruments of a rack, as they are handed in
abbrev pub handed : {I : Type 0} → (I → Behavior) → (I → List ℕ) → List (Spare I) → List Seated
handed behaves nature rack = map (λ s. handed_in behaves nature s.inst) rack

-- an instrument is one of these: it was seen, and was else, as that one when it was handed in
abbrev pub IsOneOf : List Seated → Seated → Type 0
IsOneOf [] inst = ⊥
IsOneOf (one ∷ more) inst = ((inst.origin ≡ one.origin) × (inst.nature ≡ one.nature)) ⊎ IsOneOf more inst

-- one instrument of a rack stands on the bench, at that address, and nothing else
pub record StandsAlone (rack : List Seated) (bench : List Placed) : Type 0 where
  pub inst : Seated
  pub racked : IsOneOf rack inst
  pub alone : bench ≡ (record { at = place; occupant = Boxed inst }) ∷ []

-- one step of a simulated bus on which it stands so before and after
pub record IsLoneStep (rack : List Seated) (old : SimState) (s : Step) (new : SimState) : Type 0 where
  pub before : StandsAlone rack old.bench
  pub steps : Through old s new
  pub after : StandsAlone rack new.bench

-- the bus, as sessions see a bus
abbrev pub lone : List Seated → Ghosts SimState
lone rack = record { means = λ s. s.means; srq_level = λ s. some_asks s.bench; ndac_level = λ s. some_refuses s.means.wire s.bench; through = IsLoneStep rack }
