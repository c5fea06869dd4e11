-- A server that ends in a later step, before which nothing was written, ends so as a whole.
use Rattle.std.proofs.Common.{◌≡◌, ℕ, Result, Err, sym, subst}
use Rattle.std.specs.Prelude.{IfErr}
use Rattle.vx_text.specs.Ends.{End}
use Rattle.vx_startup.specs.declared.status.ServerStatus.{ServerStatus}
use Rattle.vx_startup.specs.Outcome.{ServerIo}
use Rattle.vx_startup.specs.Preparing.{Early, IsQuiet}

-- an early end of a later step, before which nothing was written, is answered as one of all steps
pub answered : {X : Type 0} (EndsHere : ServerIo → ServerIo → ℕ → ServerStatus → Type 0) (first before after : End) (r : Result X ServerStatus) (how : ServerStatus)
    → IsQuiet first before → Early EndsHere before after how → r ≡ Err how → IfErr r (λ why. Early EndsHere first after why)
answered EndsHere first before after r how quiet early is =
    subst (λ r. IfErr r (λ why. Early EndsHere first after why)) (sym is) (subst (λ sink. Early EndsHere sink after how) quiet early)
