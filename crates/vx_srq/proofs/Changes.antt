-- A loop that changes each slot in turn.
use Rattle.std.proofs.Common.{◌≡◌, ℕ, ◌+◌, ◌<◌, List, ◌++◌, map, length, take, drop, get_or, set, refl, sym, ap, ◌∙◌, arith}
use Rattle.std.specs.List.{All}
use Rattle.std.proofs.lemmas.List.{map-set, length-map, length-set, get_or-map}
use Rattle.std.proofs.lemmas.List.Edits.{map_over_more}
use Rattle.std.proofs.lemmas.List.Elements.{All-set}
use Rattle.vx_srq.specs.declared.slots.SlotRow.{SlotRow}
use Rattle.vx_rules.specs.SrqState.{ChannelSlot}
use Rattle.vx_srq.specs.Shown.{slot_shown, SrqHasRoom}

-- the first i slots are changed by f, the others are as they were, and each has room
pub record Changed (f : ChannelSlot → ChannelSlot) (before now : List SlotRow) (i : ℕ) : Type 0 where
  pub slots : map slot_shown now ≡ map f (take i (map slot_shown before)) ++ drop i (map slot_shown before)
  pub long : length now ≡ length before
  pub room : All SrqHasRoom now

-- at the start none is changed
pub changed_none : (f : ChannelSlot → ChannelSlot) (rows : List SlotRow) → All SrqHasRoom rows → Changed f rows rows 0
changed_none f rows room = record { slots = refl; long = refl; room = room }

-- one more is changed
pub changed_more : (f : ChannelSlot → ChannelSlot) (before now : List SlotRow) (i : ℕ) (d new : SlotRow) → Changed f before now i → i < length now
    → slot_shown new ≡ f (slot_shown (get_or now i d)) → SrqHasRoom new → Changed f before (set now i new) (i + 1)
changed_more f before now i d new changed within shown room =
    let old = slot_shown (get_or now i d) in
    let within' : i < length (map slot_shown before) = omega (arith, length-map before slot_shown, changed.long) in
    record {
      slots = map-set slot_shown now i new ∙ ap (set (map slot_shown now) i) shown
          ∙ map_over_more f (map slot_shown before) (map slot_shown now) i old within' changed.slots (sym (get_or-map slot_shown now i d old within));
      long = length-set now i new ∙ changed.long;
      room = All-set SrqHasRoom now i new room changed.room;
    }
