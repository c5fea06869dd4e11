-- What lists of transfers leave behind on the bus, where they keep to the plan of a job that can be done.
use Rattle.std.proofs.Common.{◌≡◌, ◌≢◌, ◌≤◌, ℕ, Bool, true, false, cond, ◌⊎◌, inl, inr, List, [], ◌∷◌, Option, Some, None, refl, sym, ap, ◌∙◌, subst, arith}
use Rattle.std.specs.Prelude.{length}
use Rattle.std.proofs.lemmas.Bool.{cases_Bool}
use Rattle.vx_488.specs.declared.transfers.TheConstants.{ADDRESS_MAX}
use Rattle.vx_488.specs.declared.transfers.Transfer.{Transfer}
use Rattle.vx_488.specs.declared.transfers.Transfer.TheVariants as transfer
use Rattle.vx_488.specs.declared.wire.Wire.{Wire}
use Rattle.vx_488.specs.Wire.{step, wire_after}
use Rattle.vx_plan.specs.declared.tasks.Task.{Task}
use Rattle.vx_plan.specs.declared.tasks.Task.TheVariants as task
use Rattle.vx_plan.specs.Transfers.{same_transfer}
use Rattle.vx_plan.specs.Plan.{Plan, Stand, Whole, Part, Off, done, left_after, stand_of, stand}
use Rattle.vx_plan.specs.Tasks.{plan, is_own_task, IsPlainTask}
use Rattle.vx_plan.proofs.Laws.{left_after-none, most_bytes-within, own-job, same_transfer-is, bound-law, own_stays-law}
use Rattle.vx_rules.specs.Serving.{IsDoable}
use Rattle.vx_model.specs.Stepping.{IsOrderly}

-- what is left of the plan of a new own address after one transfer
abbrev after_own : Bool → Option Plan
after_own fit = cond fit (Some done) None

-- after its one transfer a list has left its plan or is at its end
own_begun : (n : ℕ) (w : Wire) (t : Transfer) (ts : List Transfer) (fit : Bool) → same_transfer (transfer.Own n) t ≡ fit → n ≤ ADDRESS_MAX
    → stand_of (left_after (after_own fit) ts) ≢ Off → (wire_after (step w t) ts).own ≤ ADDRESS_MAX
own_begun n w t [] true e within on = subst (λ x. (step w x).own ≤ ADDRESS_MAX) (sym (same_transfer-is (transfer.Own n) t e)) within
own_begun n w t (u ∷ us) true e within on = absurd (on (ap stand_of (left_after-none us)))
own_begun n w t ts false e within on = absurd (on (ap stand_of (left_after-none ts)))

-- a list that keeps to its plan leaves an own address of at most 30
own_front : (n : ℕ) (bytes : List ℕ) (polling : Bool) (own : ℕ) (w : Wire) (ts : List Transfer) → w.own ≤ ADDRESS_MAX → n ≤ ADDRESS_MAX
    → stand (plan (task.Own n) bytes polling own) ts ≢ Off → (wire_after w ts).own ≤ ADDRESS_MAX
own_front n bytes polling own w [] h within on = h
own_front n bytes polling own w (t ∷ ts) h within on = own_begun n w t ts (same_transfer (transfer.Own n) t) refl within on

-- a list that keeps to the plan of a job that can be done leaves an own address of at most 30
own_after : (job : Task) (bytes : List ℕ) (polling : Bool) (own : ℕ) (w : Wire) (ts : List Transfer) → w.own ≤ ADDRESS_MAX → IsPlainTask job
    → stand (plan job bytes polling own) ts ≢ Off → (wire_after w ts).own ≤ ADDRESS_MAX
own_after job bytes polling own w ts h plain on = by (cases_Bool (is_own_task job)) where
  by : (is_own_task job ≡ true) ⊎ (is_own_task job ≡ false) → (wire_after w ts).own ≤ ADDRESS_MAX
  by (inl e) =
      let is = own-job job e in
      own_front is.0 bytes polling own w ts h (subst IsPlainTask is.1 plain) (subst (λ j. stand (plan j bytes polling own) ts ≢ Off) is.1 on)
  by (inr e) = subst (λ n. n ≤ ADDRESS_MAX) (sym (own_stays-law job bytes polling own ts w e on)) h

-- and it has no more transfers than the longest job
pub orderly : (job : Task) (bytes : List ℕ) (w : Wire) (ts : List Transfer) → w.own ≤ ADDRESS_MAX → IsDoable job bytes
    → stand (plan job bytes w.polling w.own) ts ≢ Off → IsOrderly w ts
orderly job bytes w ts h d on = record {
  own = own_after job bytes w.polling w.own w ts h d.plain on;
  few = bound-law job bytes w.polling w.own ts (omega (arith, d.few, most_bytes-within job)) on;
}

-- so does no transfer
pub orderly_none : (w : Wire) (ts : List Transfer) → w.own ≤ ADDRESS_MAX → length ts ≡ 0 → IsOrderly w ts
orderly_none w [] h e = record { own = h; few = omega arith }
orderly_none w (t ∷ ts) h e = absurd (omega (arith, e))

-- a job that stands as whole or as a part hasn't left its plan
pub whole_on : (x : Stand) → Whole ≡ x → x ≢ Off
whole_on x h e = let bad : Whole ≡ Off = h ∙ e in cc

-- or a part
pub part_on : (x : Stand) → Part ≡ x → x ≢ Off
part_on x h e = let bad : Part ≡ Off = h ∙ e in cc
