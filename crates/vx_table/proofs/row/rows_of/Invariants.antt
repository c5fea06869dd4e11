use Rattle.std.proofs.Common.{◌≡◌, map, take, Some}
use Rattle.serde_json.specs.View.{view}
use Rattle.vx_table.specs.Spelling.{rule_of}
use Rattle.vx_table.proofs.row.rows_of.Given as goal

abbrev pub invariant-loop-item : goal.invariant-loop-item
invariant-loop-item l = map Some l.rows.items ≡ map (λ v. rule_of (view v)) (take l.item-index l.items)
