-- A meter: it counts its readings, and each reply is the number of one.
use Rattle.std.specs.Prelude.{ℕ, ◌+◌, Bool, true, false, ◌||◌, min, if◌then◌else◌, List, [], ◌∷◌, ◌++◌, codes, decimal}
use Rattle.std.specs.Str.{bytes_eq}
use Rattle.vx_inst.specs.View.{View}
use Rattle.vx_inst.specs.Laws.{with_status}
use Rattle.vx_inst.specs.declared.done.Done.{Done}
use Rattle.vx_inst.specs.declared.done.Done.TheVariants.{Took, Gave, Polled, Cleared, Triggered, ToLocal, StatusSet, Told}
use Rattle.vx_inst.specs.Behavior.{Behavior, by_rule}
use Rattle.vx_inst.specs.Shared.{fresh, with_byte, without_message, replied, after_give, after_poll, after_clear}

-- its view, and the number of its last reading, 0 at first
pub record MeterState : Type 0 where
  pub seen : View
  pub count : ℕ

abbrev pub fresh_meter : MeterState
fresh_meter = record { seen = fresh; count = 0 }

-- what a reading replies: its number in decimal digits, and a line feed
abbrev pub number_line : ℕ → List ℕ
number_line n = decimal n ++ 10 ∷ []

-- the number of the next reading, which stays at the greatest number of 64 bits
abbrev pub next_number : ℕ → ℕ
next_number n = min (n + 1) 18446744073709551615

-- A reading: its reply is the next number, which is used up also where the reply is dropped.
abbrev pub after_reading : MeterState → MeterState
after_reading m = record { seen = replied m.seen (number_line (next_number m.count)); count = next_number m.count }

-- whether a message asks for a reading: it is READ?, with or without a line feed behind it
abbrev pub asks_reading : List ℕ → Bool
asks_reading text = bytes_eq text (codes "READ?") || bytes_eq text (codes "READ?\n")

abbrev pub with_seen : MeterState → View → MeterState
with_seen m v = record m { seen = v }

-- A message is over: one that asks for a reading has one, and any other has no reply.
abbrev pub finished : MeterState → MeterState
finished m =
    if asks_reading m.seen.inbox then after_reading (with_seen m (without_message m.seen))
    else with_seen m (without_message m.seen)

-- A byte joins the inbox; at END the message is over.
abbrev pub meter_after_take : MeterState → ℕ → Bool → MeterState
meter_after_take m b false = with_seen m (with_byte m.seen b)
meter_after_take m b true = finished (with_seen m (with_byte m.seen b))

-- what a call makes of it, and how it behaves
abbrev pub meter_rule : MeterState → Done → MeterState
meter_rule m (Took b end) = meter_after_take m b end
meter_rule m Gave = with_seen m (after_give m.seen)
meter_rule m Polled = with_seen m (after_poll m.seen)
meter_rule m Cleared = with_seen m (after_clear m.seen)
meter_rule m Triggered = after_reading m
meter_rule m ToLocal = m
meter_rule m (StatusSet b) = with_seen m (with_status m.seen b)
meter_rule m (Told now) = m

abbrev pub meter_behavior : MeterState → Behavior
meter_behavior = by_rule meter_rule (λ m. m.seen)
