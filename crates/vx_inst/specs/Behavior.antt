-- To be believed.
-- How an instrument behaves: how it is seen from the bus after each list of calls.
use Rattle.std.specs.Prelude.{ℕ, Bool, List, [], ◌∷◌, fold}
use Rattle.vx_inst.specs.declared.done.Done.{Done}
use Rattle.vx_inst.specs.declared.done.Done.TheVariants.{Took, Gave, Polled, Cleared, Triggered, ToLocal, StatusSet, Told}
use Rattle.vx_inst.specs.View.{View}
use Rattle.vx_inst.specs.Laws.{with_status}
use Rattle.vx_inst.specs.Shared.{after_give, after_poll, after_clear}

-- how it is seen after these calls, in order
abbrev pub Behavior : Type 0
Behavior = List Done → View

-- how it is seen now
abbrev pub seen : Behavior → View
seen behavior = behavior []

-- how it behaves after one call
abbrev pub after : Done → Behavior → Behavior
after done behavior = λ later. behavior (done ∷ later)

-- how it behaves after these calls
abbrev pub after_all : List Done → Behavior → Behavior
after_all calls behavior = fold (λ b done. after done b) behavior calls

-- how something behaves that a rule changes call by call, by how it is seen
abbrev pub by_rule : {S : Type 0} → (S → Done → S) → (S → View) → S → Behavior
by_rule rule shown state = λ calls. shown (fold rule state calls)

-- what a call makes of a simple instrument, which has rules of its own for a byte that it takes and for a trigger
abbrev pub simply : (View → ℕ → Bool → View) → (View → View) → View → Done → View
simply takes triggered v (Took b end) = takes v b end
simply takes triggered v Gave = after_give v
simply takes triggered v Polled = after_poll v
simply takes triggered v Cleared = after_clear v
simply takes triggered v Triggered = triggered v
simply takes triggered v ToLocal = v
simply takes triggered v (StatusSet b) = with_status v b
simply takes triggered v (Told now) = v
