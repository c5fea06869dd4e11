use Rattle.std.proofs.Common.{true, map, None, ap, ◌∙◌}
use Rattle.serde_json.specs.View.{view}
use Rattle.serde_json.specs.declared.value.Value.{Value}
use Rattle.vx_inst.specs.View.{View}
use Rattle.vx_table.specs.Spelling.{rule_of}
use Rattle.vx_table.proofs.Arrays.{rules-spelled}
use Rattle.vx_table.proofs.Places.{of_body}
use Rattle.vx_table.proofs.TableInst.from_json.Goals as goal

pub returns-clause-made : goal.returns-clause-made
returns-clause-made c =
    let spelled = c.in_ok-rows.ensures ∙ ap (map (λ (v : Value). rule_of (view v))) c.deref.ensures.value in (
      c.in_ok-rows.rows.items,
      c.in_ok-items.ensures.array ∙ rules-spelled 1 c.in_ok-items.items.now.items c.in_ok-rows.rows.items spelled,
      ap (λ (b : View). of_body b c.in_ok-rows.rows.items true None 0) c.in_ok-body.ensures,
    )
