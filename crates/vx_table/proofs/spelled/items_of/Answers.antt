use Rattle.std.proofs.Common.{◌≡◌, ◌<◌, ◌≤◌, length, Some, None, ap, sym, ◌∙◌, arith}
use Rattle.std.specs.Prelude.{is_ok}
use Rattle.std.specs.List.{position_from}
use Rattle.serde_json.specs.View.{view, items_view}
use Rattle.vx_table.specs.declared.TheConstants.{RULES_MAX}
use Rattle.vx_table.proofs.Arrays.{array-found, over-room, within-room, bad, first-bad, none-bad, good-whole}
use Rattle.vx_table.proofs.spelled.items_of.Goals as goal

pub returns-then-len-gt-RULES_MAX-clause-refused : goal.returns-then-len-gt-RULES_MAX-clause-refused
returns-then-len-gt-RULES_MAX-clause-refused c =
    let over : RULES_MAX < length c.in-Some-as_array.items.now.items = omega (arith, c.if-len-gt-RULES_MAX.true, c.len.ensures) in
    array-found (view c.args.value.now) (view c.in-Some.rules.now) (items_view c.in-Some-as_array.items.now.items) c.in-Some.ensures c.in-Some-as_array.ensures ∙ over-room c.in-Some-as_array.items.now.items over

pub returns-in-Some-first_bad-clause-refused : goal.returns-in-Some-first_bad-clause-refused
returns-in-Some-first_bad-clause-refused c =
    let within : length c.in-Some-as_array.items.now.items ≤ RULES_MAX = omega (arith, c.if-len-gt-RULES_MAX.false, c.len.ensures) in
    let at : position_from bad 0 c.in-Some-as_array.items.now.items ≡ Some c.in-Some-first_bad.place =
    ap (position_from bad 0) (sym c.deref.ensures.value) ∙ sym c.in-Some-first_bad.ensures.first in
    array-found (view c.args.value.now) (view c.in-Some.rules.now) (items_view c.in-Some-as_array.items.now.items) c.in-Some.ensures c.in-Some-as_array.ensures ∙ within-room c.in-Some-as_array.items.now.items within
    ∙ first-bad 0 c.in-Some-as_array.items.now.items c.in-Some-first_bad.place at

pub returns-in-None-clause-array : goal.returns-in-None-clause-array
returns-in-None-clause-array c =
    let within : length c.in-Some-as_array.items.now.items ≤ RULES_MAX = omega (arith, c.if-len-gt-RULES_MAX.false, c.len.ensures) in
    array-found (view c.args.value.now) (view c.in-Some.rules.now) (items_view c.in-Some-as_array.items.now.items) c.in-Some.ensures c.in-Some-as_array.ensures ∙ within-room c.in-Some-as_array.items.now.items within

pub returns-in-None-clause-good : goal.returns-in-None-clause-good
returns-in-None-clause-good c =
    let at : position_from bad 0 c.in-Some-as_array.items.now.items ≡ None =
    ap (position_from bad 0) (sym c.deref.ensures.value) ∙ sym c.in-None.ensures.first in
    none-bad 0 c.in-Some-as_array.items.now.items at

pub returns-in-None-clause-whole : goal.returns-in-None-clause-whole
returns-in-None-clause-whole c =
    let at : position_from bad 0 c.in-Some-as_array.items.now.items ≡ None =
    ap (position_from bad 0) (sym c.deref.ensures.value) ∙ sym c.in-None.ensures.first in
    ap is_ok (returns-in-None-clause-array c) ∙ good-whole 1 c.in-Some-as_array.items.now.items (none-bad 0 c.in-Some-as_array.items.now.items at)
