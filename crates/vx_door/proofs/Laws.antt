-- A law for what serves the peers of a door, proved.
use Rattle.std.proofs.Common.{◌≡◌, ℕ, List, refl, ◌∙◌}
use Rattle.vx_io_traits.specs.declared.ReadOut.{ReadOut}
use Rattle.vx_io_traits.specs.declared.WriteOut.{WriteOut}
use Rattle.vx_door.specs.Meeting.{KeepsCounts}
use Rattle.vx_door.specs.Going.{Went, Not_yet, By_receive, By_send}

-- A door that went by receives and sends alone has its own counts as they were. The two premises are the laws of a door.
pub went_keeps : {L : Type 0} (receives : L → List ℕ → ReadOut → List ℕ → L → Type 0) (sends : L → List ℕ → WriteOut → L → Type 0) (met ended faults : L → ℕ)
    → ((old new : L) (slice given : List ℕ) (answer : ReadOut) → receives old slice answer given new → KeepsCounts met ended faults old new)
    → ((old new : L) (bytes : List ℕ) (answer : WriteOut) → sends old bytes answer new → KeepsCounts met ended faults old new)
    → (old new : L) → Went receives sends old new → KeepsCounts met ended faults old new
went_keeps receives sends met ended faults r s old new (Not_yet a) = (refl, refl, refl)
went_keeps receives sends met ended faults r s old new (By_receive a b c slice given answer went call) =
    let before = went_keeps receives sends met ended faults r s old b went in
    let last = r b new slice given answer call in
    (last.0 ∙ before.0, last.1 ∙ before.1, last.2 ∙ before.2)
went_keeps receives sends met ended faults r s old new (By_send a b c bytes answer went call) =
    let before = went_keeps receives sends met ended faults r s old b went in
    let last = s b new bytes answer call in
    (last.0 ∙ before.0, last.1 ∙ before.1, last.2 ∙ before.2)
