-- An instrument that asks for service at the end of each message and at each trigger.
use Rattle.std.specs.Prelude.{ℕ, true, false, Bool}
use Rattle.vx_inst.specs.View.{View}
use Rattle.vx_inst.specs.declared.done.Done.{Done}
use Rattle.vx_inst.specs.Behavior.{Behavior, by_rule, simply}
use Rattle.vx_inst.specs.Shared.{with_byte, without_message}

-- it asks for service, with a message available
abbrev pub asking : View → View
asking v = record v { stb = 16; rqs = true }

-- A byte is taken by a model that asks for service at END.
abbrev pub asker_after_take : View → ℕ → Bool → View
asker_after_take v b false = with_byte v b
asker_after_take v b true = asking (without_message v)

-- what a call makes of it, and how it behaves
abbrev pub asker_rule : View → Done → View
asker_rule v done = simply asker_after_take asking v done

abbrev pub asker_behavior : View → Behavior
asker_behavior = by_rule asker_rule (λ v. v)
