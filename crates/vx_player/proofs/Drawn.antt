-- The drawn steps of a run: none is refused.
use Rattle.std.proofs.Common.{◌≡◌, ◌==◌, ◌≤◌, ◌<◌, ◌+◌, ◌/◌, ◌%◌, ℕ, zero, suc, Bool, true, false, Option, Some, None, is_some, inl, inr, refl, sym, arith}
use Rattle.std.proofs.lemmas.Bool.{false≢true}
use Rattle.vx_rules.specs.State.{pending_at}
use Rattle.vx_gen.specs.Drawing.{kind, connection}
use Rattle.vx_gen.specs.Generating.{call_of, drawn}
use Rattle.vx_gen.proofs.Laws.Spelled.{either, call-spelled}
use Rattle.vx_exchange.specs.Meaning.{Asks, by_call}
use Rattle.vx_player.specs.Stage.{Stage, tables_of}
use Rattle.vx_player.specs.Generated.{has_call}
use Rattle.vx_player.proofs.Served.{IsCore, IsServed, Goes, IsCoreCall, goes-sample, goes-take, goes-poll, goes-asking, goes-aborting}

-- the connection of a draw is one of the four
one-of-four : (m : ℕ) → m < 4 → IsCore (1 + m)
one-of-four zero h = inl refl
one-of-four (suc zero) h = inr (inl refl)
one-of-four (suc (suc zero)) h = inr (inr (inl refl))
one-of-four (suc (suc (suc zero))) h = inr (inr (inr refl))
one-of-four (suc (suc (suc (suc m)))) h = absurd (omega arith)

-- so is that of a step
drawn-core : (x : ℕ) → IsCore (connection x)
drawn-core x = one-of-four (x / 65536 / 8 % 4) (omega arith)

-- whose number is at most 4
core-small : (n : ℕ) → IsCore n → n ≤ 4
core-small n (inl e) = omega arith
core-small n (inr (inl e)) = omega arith
core-small n (inr (inr (inl e))) = omega arith
core-small n (inr (inr (inr e))) = omega arith

-- each drawn call is one of the core channel
drawn-call : (kind lid : ℕ) → lid ≤ 4 → IsCoreCall (call_of kind lid)
drawn-call kind lid small = record {
  spelled = call-spelled kind lid small;
  asks = λ xid.
      either (λ c. by_call xid c ≡ Asks xid c) (kind == 2) _ _ refl
      (either (λ c. by_call xid c ≡ Asks xid c) (kind == 3) _ _ refl
      (either (λ c. by_call xid c ≡ Asks xid c) (kind == 4) _ _ refl (either (λ c. by_call xid c ≡ Asks xid c) (kind == 5) _ _ refl refl)));
}

-- the step of a draw, at a stage behind the head
pub goes-drawn : (s : Stage) (k x : ℕ) → IsServed s → Goes s (drawn k x (has_call s (connection x)))
goes-drawn s k x served = by (has_call s (connection x)) refl where
  is_core : IsCore (connection x)
  is_core = drawn-core x

  none : {X : Type 0} (o : Option X) → is_some o ≡ false → o ≡ None
  none None h = refl
  none (Some y) h = absurd (false≢true (sym h))

  by : (b : Bool) → has_call s (connection x) ≡ b → Goes s (drawn k x b)
  by true has =
      either (Goes s) (kind x == 7) _ _ (goes-aborting s k (connection x) (core-small (connection x) is_core) served) (goes-poll s (connection x) is_core has served)
  by false has =
      either (Goes s) (kind x == 6) _ _ (goes-sample s served)
      (either (Goes s) (kind x == 7) _ _ (goes-take s (connection x) is_core served)
      (goes-asking s (connection x) k (call_of (kind x) (connection x)) is_core (drawn-call (kind x) (connection x) (core-small (connection x) is_core))
      (none (pending_at (tables_of s) (connection x)) has) served))
