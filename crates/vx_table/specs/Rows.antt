-- The rules, as a value spells them and as an instrument keeps them.
use Rattle.std.specs.Prelude.{ℕ, List, Option}
use Rattle.std.specs.List.{slice_get}
use Rattle.std.specs.Option.{option_map}
use Rattle.vx_table.specs.declared.Waiting.{Waiting}
use Rattle.vx_table.specs.declared.spelled.Spelled.{Spelled}
use Rattle.vx_table.specs.Table.{Rule, Delayed}

abbrev pub spelled_rule : Spelled → Rule
spelled_rule s = record { asked = s.asked.now; reply = s.reply.now; status = s.status; delay = s.delay }

abbrev pub delayed_since : ℕ → Rule → Delayed
delayed_since since r = record { rule = r; since = since }

-- the rule at its place in the table
abbrev pub delayed_of : List Rule → Waiting → Option Delayed
delayed_of rules w = option_map (delayed_since w.since) (slice_get rules w.place)
