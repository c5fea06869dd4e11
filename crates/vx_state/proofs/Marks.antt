-- A loop that changes each row in turn.
use Rattle.std.proofs.Common.{◌≡◌, ℕ, ◌+◌, ◌<◌, List, ◌++◌, map, length, take, drop, get_or, set, sym, ap, ◌∙◌, arith}
use Rattle.std.proofs.lemmas.List.{map-set, length-map, length-set, get_or-map}
use Rattle.std.proofs.lemmas.List.Edits.{map_over_more}
use Rattle.vx_state.specs.declared.tables.rows.Row.{Row}
use Rattle.vx_rules.specs.State.{Connection}
use Rattle.vx_state.specs.Rows.{connection_of}

-- the first i rows are changed by f, and the others are as they were
pub record Changed (f : Connection → Connection) (before now : List Row) (i : ℕ) : Type 0 where
  pub rows : map connection_of now ≡ map f (take i (map connection_of before)) ++ drop i (map connection_of before)
  pub long : length now ≡ length before

-- one more is changed
pub changed_more : (f : Connection → Connection) (before now : List Row) (i : ℕ) (d new : Row) → Changed f before now i → i < length now
    → connection_of new ≡ f (connection_of (get_or now i d)) → Changed f before (set now i new) (i + 1)
changed_more f before now i d new changed within shown =
    let old = connection_of (get_or now i d) in
    let within' : i < length (map connection_of before) = omega (arith, length-map before connection_of, changed.long) in
    record {
      rows = map-set connection_of now i new ∙ ap (set (map connection_of now) i) shown
          ∙ map_over_more f (map connection_of before) (map connection_of now) i old within' changed.rows (sym (get_or-map connection_of now i d old within));
      long = length-set now i new ∙ changed.long;
    }
