-- Laws of groups and phases, proved: what the crates above cite.
pub mod Onward
use Rattle.std.proofs.Common.{◌≡◌, ◌++◌, ℕ, List, [], ◌∷◌, Option, append-nil, refl, ap, ◌∙◌}
use Rattle.std.proofs.lemmas.List.Concat.{flat_map-append}
use Rattle.vx_flow.specs.Event.{Event}
use Rattle.vx_group.specs.Groups.{Group, events_of, steps_of}
use Rattle.vx_group.specs.Phases.{Phase, phase_after, phase_along}
use Rattle.vx_group.specs.MadeLinks.{numbers_next, numbers_along}

-- the events of one group more
pub events-more : (log : List Group) (x : Group) → events_of (log ++ x ∷ []) ≡ events_of log ++ x.events
events-more log x = flat_map-append (λ (g : Group). g.events) log (x ∷ []) ∙ ap (λ es. events_of log ++ es) (append-nil x.events)

-- the steps of the bus along one group more
pub steps-more : (log : List Group) (x : Group) → steps_of (log ++ x ∷ []) ≡ steps_of log ++ x.steps
steps-more log x = flat_map-append (λ (g : Group). g.steps) log (x ∷ []) ∙ ap (λ steps. steps_of log ++ steps) (append-nil x.steps)

-- the phase behind one list of events, and then another
pub phase-append : (conn : ℕ) (phase : Phase) (xs ys : List Event) → phase_along conn phase (xs ++ ys) ≡ phase_along conn (phase_along conn phase xs) ys
phase-append conn phase [] ys = refl
phase-append conn phase (x ∷ xs) ys = phase-append conn (phase_after conn phase x) xs ys

-- the numbers behind one list of events, and then another
pub numbers-append : (conn : ℕ) (phase : Phase) (numbers : Option (List ℕ)) (xs ys : List Event)
    → numbers_along conn phase numbers (xs ++ ys) ≡ numbers_along conn (phase_along conn phase xs) (numbers_along conn phase numbers xs) ys
numbers-append conn phase numbers [] ys = refl
numbers-append conn phase numbers (x ∷ xs) ys = numbers-append conn (phase_after conn phase x) (numbers_next conn phase numbers x) xs ys
