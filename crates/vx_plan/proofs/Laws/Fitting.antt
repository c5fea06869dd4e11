-- A transfer fits a slot exactly where it is the slot's own, or any byte got.
use Rattle.std.proofs.Common.{◌≡◌, Bool, true, false, refl, ap, ◌∙◌}
use Rattle.std.proofs.lemmas.Bool.{false≢true, eq-eqb, and_from}
use Rattle.vx_488.specs.declared.transfers.Transfer.{Transfer}
use Rattle.vx_488.specs.declared.transfers.Transfer.TheVariants.{Cmd, Put, Got, Ren, Atn, Ifc, Own}
use Rattle.vx_plan.specs.Transfers.{same_bool, same_transfer, is_got}
use Rattle.vx_plan.specs.Plan.{Slot, This, AnyByte, fits}
use Rattle.vx_plan.specs.Whole.{Fits}
use Rattle.vx_plan.proofs.Laws.Parts.{same_transfer-is}

same_bool-refl : (a : Bool) → same_bool a a ≡ true
same_bool-refl true = refl
same_bool-refl false = refl

-- a transfer is the same as itself
pub same_transfer-refl : (a : Transfer) → same_transfer a a ≡ true
same_transfer-refl (Cmd a) = eq-eqb a a refl
same_transfer-refl (Put a e) = and_from _ _ (eq-eqb a a refl) (same_bool-refl e)
same_transfer-refl (Got a e) = and_from _ _ (eq-eqb a a refl) (same_bool-refl e)
same_transfer-refl (Ren a) = same_bool-refl a
same_transfer-refl (Atn a) = same_bool-refl a
same_transfer-refl Ifc = refl
same_transfer-refl (Own a) = eq-eqb a a refl

-- what passes the test of a slot fits it
pub Fits-from_fits : (slot : Slot) (t : Transfer) → fits slot t ≡ true → Fits slot t
Fits-from_fits (This a) t h = same_transfer-is a t h
Fits-from_fits AnyByte (Got b end) h = (record { value = b; end = end }, refl)
Fits-from_fits AnyByte _ h = absurd (false≢true h)

-- and what fits it passes
pub fits-from_Fits : (slot : Slot) (t : Transfer) → Fits slot t → fits slot t ≡ true
fits-from_Fits (This a) t h = ap (same_transfer a) h ∙ same_transfer-refl a
fits-from_Fits AnyByte t h = ap is_got h.1
