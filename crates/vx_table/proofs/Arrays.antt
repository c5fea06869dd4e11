-- What an array of values spells.
use Rattle.std.proofs.Common.{◌≡◌, ℕ, zero, suc, ◌+◌, ◌<◌, ◌≤◌, nat_lt, Bool, true, false, cond, List, [], ◌∷◌, map, length, Option, Some, None, Result, Ok, Err, refl, sym, ap, ◌∙◌, arith}
use Rattle.std.specs.Prelude.{codes, is_none, is_ok, option_and_then}
use Rattle.std.specs.List.{All, position_from}
use Rattle.std.proofs.lemmas.Bool.{cond-true, cond-false}
use Rattle.std.proofs.lemmas.Bool.Decides.{nat_tests}
use Rattle.serde_json.specs.Data.{Data, Items}
use Rattle.serde_json.specs.Events.{items_len}
use Rattle.serde_json.specs.Find.{get, as_array}
use Rattle.serde_json.specs.View.{view, items_view}
use Rattle.serde_json.specs.declared.value.Value.{Value}
use Rattle.serde_json.proofs.Views.{items_len-items_view}
use Rattle.vx_table.specs.declared.TheConstants.{RULES_MAX}
use Rattle.vx_table.specs.declared.TableErr.{TableErr}
use Rattle.vx_table.specs.declared.TableErr.TheVariants.{TooMany, BadRule}
use Rattle.vx_table.specs.Table.{Rule}
use Rattle.vx_table.specs.Spelling.{rule_of, and_rules, rules_from, rules_of_array, rules_of}

-- The rules of a value with an array of them are those of the array.
pub array-found : (d found : Data) (items : Items) → Some found ≡ get (codes "rules") d → Some items ≡ as_array found
    → rules_of d ≡ rules_of_array (Some items)
array-found d found items got is =
    ap (λ (o : Option Data). rules_of_array (option_and_then as_array o)) (sym got) ∙ ap rules_of_array (sym is)

-- An array above the room has too many rules.
pub over-room : (vs : List Value) → RULES_MAX < length vs → rules_of_array (Some (items_view vs)) ≡ Err TooMany
over-room vs h =
    let over : nat_lt RULES_MAX (items_len (items_view vs)) ≡ true = let same = items_len-items_view vs in grind (arith, nat_tests, same, h) in
    cond-true (nat_lt RULES_MAX (items_len (items_view vs))) (Err TooMany) (rules_from 1 (items_view vs)) over

-- An array within the room has the rules of its items.
pub within-room : (vs : List Value) → length vs ≤ RULES_MAX → rules_of_array (Some (items_view vs)) ≡ rules_from 1 (items_view vs)
within-room vs h =
    let within : nat_lt RULES_MAX (items_len (items_view vs)) ≡ false = let same = items_len-items_view vs in grind (arith, nat_tests, same, h) in
    cond-false (nat_lt RULES_MAX (items_len (items_view vs))) (Err TooMany) (rules_from 1 (items_view vs)) within

-- whether a value isn't of a rule's form
abbrev pub bad : Value → Bool
bad v = is_none (rule_of (view v))

abbrev bad_rule : ℕ → Result (List Rule) TableErr
bad_rule number = Err (BadRule number)

-- The head is the first bad one, or the first bad one is behind it.
bad-head : (n : ℕ) (o : Option Rule) (p : Option ℕ) (rest : Result (List Rule) TableErr) (place : ℕ) → (p ≡ Some place → rest ≡ bad_rule (place + 1))
    → cond (is_none o) (Some n) p ≡ Some place → and_rules (n + 1) o rest ≡ bad_rule (place + 1)
bad-head n None p rest place later h = let same : n ≡ place = cc in ap (λ (k : ℕ). bad_rule (k + 1)) same
bad-head n (Some r) p rest place later h = ap (and_rules (n + 1) (Some r)) (later h)

-- The first bad value is the bad rule, of the number one above its place.
pub first-bad : (n : ℕ) (vs : List Value) (place : ℕ) → position_from bad n vs ≡ Some place
    → rules_from (n + 1) (items_view vs) ≡ Err (BadRule (place + 1))
first-bad n [] place h = cc
first-bad n (v ∷ vs) place h =
    bad-head n (rule_of (view v)) (position_from bad (n + 1) vs) (rules_from (n + 1 + 1) (items_view vs)) place (first-bad (n + 1) vs place) h

good-head : (b : Bool) (n : ℕ) (p : Option ℕ) → cond b (Some n) p ≡ None → b ≡ false
good-head true n p h = cc
good-head false n p h = refl

good-tail : (b : Bool) (n : ℕ) (p : Option ℕ) → cond b (Some n) p ≡ None → p ≡ None
good-tail true n p h = cc
good-tail false n p h = h

-- Where no value is the first bad one, none is bad.
pub none-bad : (n : ℕ) (vs : List Value) → position_from bad n vs ≡ None → All (λ v. bad v ≡ false) vs
none-bad n [] h k d inside = absurd (omega arith)
none-bad n (v ∷ vs) h zero d inside = good-head (bad v) n (position_from bad (n + 1) vs) h
none-bad n (v ∷ vs) h (suc k) d inside = none-bad (n + 1) vs (good-tail (bad v) n (position_from bad (n + 1) vs) h) k d (omega arith)

whole-head : (n : ℕ) (o : Option Rule) (rest : Result (List Rule) TableErr) → is_none o ≡ false → is_ok rest ≡ true → is_ok (and_rules n o rest) ≡ true
whole-head n None rest some whole = cc
whole-head n (Some r) (Ok rules) some whole = refl
whole-head n (Some r) (Err why) some whole = whole

-- Where no value is bad, the array spells rules.
pub good-whole : (n : ℕ) (vs : List Value) → All (λ v. bad v ≡ false) vs → is_ok (rules_from n (items_view vs)) ≡ true
good-whole n [] good = refl
good-whole n (v ∷ vs) good =
    whole-head n (rule_of (view v)) (rules_from (n + 1) (items_view vs)) (good zero v (omega arith))
    (good-whole (n + 1) vs (λ k d inside. good (suc k) d (omega arith)))

-- Where each value spells a rule, these are the rules of the array.
pub rules-spelled : (n : ℕ) (vs : List Value) (rules : List Rule) → map Some rules ≡ map (λ v. rule_of (view v)) vs
    → rules_from n (items_view vs) ≡ Ok rules
rules-spelled n [] [] h = refl
rules-spelled n [] (r ∷ rules) h = cc
rules-spelled n (v ∷ vs) [] h = cc
rules-spelled n (v ∷ vs) (r ∷ rules) h =
    let head : Some r ≡ rule_of (view v) = cc in
    let tail : map Some rules ≡ map (λ v. rule_of (view v)) vs = cc in
    ap (λ (o : Option Rule). and_rules n o (rules_from (n + 1) (items_view vs))) (sym head)
    ∙ ap (and_rules n (Some r)) (rules-spelled (n + 1) vs rules tail)
