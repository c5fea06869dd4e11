-- An echo: it gives back each message that it is sent.
use Rattle.vx_inst.specs.View.{View}
use Rattle.vx_inst.specs.declared.done.Done.{Done}
use Rattle.vx_inst.specs.Behavior.{Behavior, by_rule, simply}
use Rattle.vx_inst.specs.Shared.{echo_after_take}

-- what a call makes of it, and how it behaves
abbrev pub echo_rule : View → Done → View
echo_rule v done = simply echo_after_take (λ w. w) v done

abbrev pub echo_behavior : View → Behavior
echo_behavior = by_rule echo_rule (λ v. v)
