-- To be believed.
-- The rules that a JSON value spells, or why it spells none (RFC 8259).
use Rattle.std.specs.Prelude.{ℕ, ◌+◌, nat_lt, nat_le, if◌then◌else◌, List, [], ◌∷◌, length, codes, Option, Some, None, option_and_then, option_map, Result, Ok, Err}
use Rattle.serde_json.specs.Data.{Data, Items, no_items, item}
use Rattle.serde_json.specs.Events.{items_len}
use Rattle.serde_json.specs.Find.{get, as_array, as_str, as_number, as_u64}
use Rattle.vx_table.specs.declared.TheConstants.{RULES_MAX, ASKED_MAX, REPLY_MAX}
use Rattle.vx_table.specs.declared.TableErr.{TableErr}
use Rattle.vx_table.specs.declared.TableErr.TheVariants.{NotObject, TooMany, BadRule}
use Rattle.vx_table.specs.Table.{Rule}

-- a string of at most this many bytes
abbrev pub text_within : ℕ → Data → Option (List ℕ)
text_within most d = option_and_then (λ s. if nat_le (length s) most then Some s else None) (as_str d)

-- a whole number from 0 to this one, written without a point, an exponent and a sign
abbrev pub number_within : ℕ → Data → Option ℕ
number_within most d = option_and_then (λ n. if nat_le n most then Some n else None) (option_and_then as_u64 (as_number d))

-- what a key spells that may be missing
abbrev pub or_missing : {A : Type 0} → A → (Data → Option A) → Option Data → Option A
or_missing missing spelled None = Some missing
or_missing missing spelled (Some d) = spelled d

-- the message, the reply, the status byte and the delay of a rule
abbrev pub asked_of : Data → Option (List ℕ)
asked_of d = option_and_then (text_within ASKED_MAX) (get (codes "in") d)

abbrev pub reply_of : Data → Option (List ℕ)
reply_of d = or_missing [] (text_within REPLY_MAX) (get (codes "out") d)

abbrev pub status_of : Data → Option (Option ℕ)
status_of d = or_missing None (λ v. option_map Some (number_within 255 v)) (get (codes "stb") d)

abbrev pub delay_of : Data → Option ℕ
delay_of d = or_missing 0 (number_within 4294967295) (get (codes "delay") d)

-- a rule of four parts, where each of them is there
abbrev pub rule_of_parts : Option (List ℕ) → Option (List ℕ) → Option (Option ℕ) → Option ℕ → Option Rule
rule_of_parts (Some asked) (Some reply) (Some status) (Some delay) =
    Some (record { asked = asked; reply = reply; status = status; delay = delay })
rule_of_parts asked reply status delay = None

abbrev pub rule_of : Data → Option Rule
rule_of d = rule_of_parts (asked_of d) (reply_of d) (status_of d) (delay_of d)

-- a rule and those behind it, or that it is bad, as the rule of this number
abbrev pub and_rules : ℕ → Option Rule → Result (List Rule) TableErr → Result (List Rule) TableErr
and_rules number None rest = Err (BadRule number)
and_rules number (Some r) (Ok rules) = Ok (r ∷ rules)
and_rules number (Some r) (Err why) = Err why

-- the rules of an array, the first of which has this number, or the first that is bad
abbrev pub rules_from : ℕ → Items → Result (List Rule) TableErr
rules_from number no_items = Ok []
rules_from number (item d ds) = and_rules number (rule_of d) (rules_from (number + 1) ds)

abbrev pub rules_of_array : Option Items → Result (List Rule) TableErr
rules_of_array None = Err NotObject
rules_of_array (Some items) = if nat_lt RULES_MAX (items_len items) then Err TooMany else rules_from 1 items

-- the rules of a table: an object with an array of them
abbrev pub rules_of : Data → Result (List Rule) TableErr
rules_of d = rules_of_array (option_and_then as_array (get (codes "rules") d))
