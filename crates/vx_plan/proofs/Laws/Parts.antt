-- Laws of transfers, of what is left of a plan, and of jobs.
use Rattle.std.proofs.Common.{◌≡◌, Bool, true, false, refl, List, [], ◌∷◌, None, ◌++◌, Option, ◌≢◌, Some, sym, subst, ℕ, ap, ◌≤◌, arith}
use Rattle.std.proofs.lemmas.Bool.{false≢true, eqb-true, and_parts}
use Rattle.std.specs.Prelude.{option_and_then}
use Rattle.vx_plan.specs.Transfers.{same_bool, same_transfer}
use Rattle.vx_488.specs.declared.transfers.Transfer.{Transfer}
use Rattle.vx_plan.specs.Plan.{left_after, Plan, left_after_one, Slot, Reading, Off, stand_of}
use Rattle.vx_plan.specs.declared.tasks.Task.{Task}
use Rattle.vx_plan.specs.declared.tasks.Task.TheVariants as task
use Rattle.vx_plan.specs.Tasks.{most_bytes, is_own_task, IsTargetPlain}
use Rattle.vx_calls.specs.declared.limits.TheConstants.{WRITE_MAX}
use Rattle.vx_calls.specs.declared.targets.Target.{Target}
use Rattle.vx_calls.specs.declared.targets.Target.TheVariants.{Interface, Device}
use Rattle.vx_calls.specs.Target.{IsReachable}
use Rattle.vx_488.specs.declared.transfers.Transfer.TheVariants.{Cmd, Put, Got, Ren, Atn, Ifc, Own}

-- two truth values that the test takes for one are one
pub same_bool-is : (a b : Bool) → same_bool a b ≡ true → a ≡ b
same_bool-is true true h = refl
same_bool-is true false h = absurd (false≢true h)
same_bool-is false true h = absurd (false≢true h)
same_bool-is false false h = refl

-- two transfers that pass the test are one
pub same_transfer-is : (a b : Transfer) → same_transfer a b ≡ true → b ≡ a
same_transfer-is (Cmd a) (Cmd b) h = ap Cmd (sym (eqb-true a b h))
same_transfer-is (Put a e) (Put b f) h =
    let both = and_parts _ _ h in
    let byte = eqb-true a b both.0 in
    let end = same_bool-is e f both.1 in
    cc
same_transfer-is (Got a e) (Got b f) h =
    let both = and_parts _ _ h in
    let byte = eqb-true a b both.0 in
    let end = same_bool-is e f both.1 in
    cc
same_transfer-is (Ren a) (Ren b) h = ap Ren (sym (same_bool-is a b h))
same_transfer-is (Atn a) (Atn b) h = ap Atn (sym (same_bool-is a b h))
same_transfer-is Ifc Ifc h = refl
same_transfer-is (Own a) (Own b) h = ap Own (sym (eqb-true a b h))
same_transfer-is _ _ h = absurd (false≢true h)

-- nothing is left behind a list that left its plan
pub left_after-none : (ts : List Transfer) → left_after None ts ≡ None
left_after-none [] = refl
left_after-none (t ∷ ts) = left_after-none ts

-- what is left of a plan after one list and then another
pub left_after-append : (p : Option Plan) (xs ys : List Transfer) → left_after p (xs ++ ys) ≡ left_after (left_after p xs) ys
left_after-append p [] ys = refl
left_after-append p (x ∷ xs) ys = left_after-append (option_and_then (λ left. left_after_one left x) p) xs ys

-- what is left of a plan isn't off it
pub left-on : (p : Option Plan) (left : Plan) → p ≡ Some left → stand_of p ≢ Off
left-on p left e = subst (λ o. stand_of o ≢ Off) (sym e) (by left.front left.reading) where
  by : (front : List Slot) (reading : Option Reading) → stand_of (Some (record { front = front; reading = reading })) ≢ Off
  by [] None = λ off. cc
  by [] (Some r) = λ off. cc
  by (slot ∷ slots) reading = λ off. cc

-- the job of a new own address, as one
pub own-job : (job : Task) → is_own_task job ≡ true → (n : ℕ) × (job ≡ task.Own n)
own-job (task.Own n) h = (n, refl)
own-job _ h = absurd (false≢true h)

-- a target that a gateway can reach has addresses up to 30
pub reachable-plain : (own : ℕ) (t : Target) → IsReachable own t → IsTargetPlain t
reachable-plain own Interface h = tt
reachable-plain own (Device p None) h = (h.0, tt)
reachable-plain own (Device p (Some s)) h = (h.0, h.2)

-- no job brings more bytes than a device_write may
pub most_bytes-within : (task : Task) → most_bytes task ≤ WRITE_MAX
most_bytes-within (task.Write t len end) = omega arith
most_bytes-within task = omega arith
