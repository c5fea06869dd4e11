-- To be believed.
-- An instrument whose replies stand in a table: its rules, and what each call makes of it.
use Rattle.std.specs.Prelude.{ℕ, ◌+◌, Bool, true, false, ◌==◌, nat_le, max, if◌then◌else◌, List, [], ◌∷◌, find, Option, Some, None}
use Rattle.std.specs.Str.{bytes_eq}
use Rattle.vx_inst.specs.View.{View}
use Rattle.vx_inst.specs.Laws.{with_status}
use Rattle.vx_inst.specs.declared.done.Done.{Done}
use Rattle.vx_inst.specs.declared.done.Done.TheVariants.{Took, Gave, Polled, Cleared, Triggered, ToLocal, StatusSet, Told}
use Rattle.vx_inst.specs.Behavior.{Behavior, by_rule}
use Rattle.vx_inst.specs.Shared.{fresh, with_byte, without_message, replied, after_give, after_poll, after_clear}

-- a rule: the message that it is for, its reply, the status byte that it sets, if any, and its delay in milliseconds
pub record Rule : Type 0 where
  pub asked : List ℕ
  pub reply : List ℕ
  pub status : Option ℕ
  pub delay : ℕ

-- a rule that waits, and the moment from which its delay counts
pub record Delayed : Type 0 where
  pub rule : Rule
  pub since : ℕ

-- its view, its rules, the rule that waits, and the greatest moment that it was told, 0 at first
pub record TableState : Type 0 where
  pub seen : View
  pub rules : List Rule
  pub delayed : Option Delayed
  pub told : ℕ

abbrev pub fresh_table : List Rule → TableState
fresh_table rules = record { seen = fresh; rules = rules; delayed = None; told = 0 }

abbrev pub table_with_seen : TableState → View → TableState
table_with_seen s v = record s { seen = v }

-- ready for a byte, or not
abbrev pub with_ready : View → Bool → View
with_ready v ready = record v { ready = ready }

-- a message without its line feed, where it ends in one
abbrev pub without_line_feed : List ℕ → List ℕ
without_line_feed [] = []
without_line_feed (b ∷ []) = if b == 10 then [] else b ∷ []
without_line_feed (b ∷ c ∷ bs) = b ∷ without_line_feed (c ∷ bs)

-- the first rule for a message
abbrev pub rule_for : List ℕ → List Rule → Option Rule
rule_for text rules = find (λ r. bytes_eq r.asked text) rules

-- the status byte is set, where one is given
abbrev pub with_status_given : View → Option ℕ → View
with_status_given v None = v
with_status_given v (Some b) = with_status v b

-- A rule acts: its reply is appended, and its status byte is set.
abbrev pub acted : View → Rule → View
acted v r = with_status_given (replied v r.reply) r.status

-- a rule waits from now on, and the instrument isn't ready
abbrev pub delaying : TableState → Rule → TableState
delaying s r = record s { seen = with_ready s.seen false; delayed = Some (record { rule = r; since = s.told }) }

-- The rule for a message acts at once, or after its delay.
abbrev pub begun : TableState → Option Rule → TableState
begun s None = s
begun s (Some r) = if r.delay == 0 then table_with_seen s (acted s.seen r) else delaying s r

-- A message is over, and the first rule for it begins.
abbrev pub finished : TableState → TableState
finished s = begun (table_with_seen s (without_message s.seen)) (rule_for (without_line_feed s.seen.inbox) s.rules)

-- A byte joins the inbox; at END the message is over.
abbrev pub table_after_take : TableState → ℕ → Bool → TableState
table_after_take s b false = table_with_seen s (with_byte s.seen b)
table_after_take s b true = finished (table_with_seen s (with_byte s.seen b))

abbrev pub table_after_give : TableState → TableState
table_after_give s = table_with_seen s (after_give s.seen)

abbrev pub table_after_poll : TableState → TableState
table_after_poll s = table_with_seen s (after_poll s.seen)

-- A clear drops the rule that waits, too, and makes it ready.
abbrev pub table_after_clear : TableState → TableState
table_after_clear s = record s { seen = with_ready (after_clear s.seen) true; delayed = None }

abbrev pub table_with_status : TableState → ℕ → TableState
table_with_status s b = table_with_seen s (with_status s.seen b)

-- No rule waits any more: that one acts, and the instrument is ready.
abbrev pub ended_delay : TableState → Rule → TableState
ended_delay s r = record s { seen = acted (with_ready s.seen true) r; delayed = None }

-- A rule that waits acts once its delay has passed.
abbrev pub after_delay : TableState → Option Delayed → TableState
after_delay s None = s
after_delay s (Some d) = if nat_le (d.since + d.rule.delay) s.told then ended_delay s d.rule else s

-- An earlier moment than one that it was told counts as that one.
abbrev pub table_after_moment : TableState → ℕ → TableState
table_after_moment s now = after_delay (record s { told = max s.told now }) s.delayed

-- what a call makes of it, and how it behaves
abbrev pub table_rule : TableState → Done → TableState
table_rule s (Took b end) = table_after_take s b end
table_rule s Gave = table_after_give s
table_rule s Polled = table_after_poll s
table_rule s Cleared = table_after_clear s
table_rule s Triggered = s
table_rule s ToLocal = s
table_rule s (StatusSet b) = table_with_status s b
table_rule s (Told now) = table_after_moment s now

abbrev pub table_behavior : TableState → Behavior
table_behavior = by_rule table_rule (λ s. s.seen)
