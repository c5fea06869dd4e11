-- To be believed.
-- A plan: which lists of transfers do a job, and where a list stands in one.
use Rattle.std.specs.Prelude.{ℕ, ◌-◌, Bool, false, ◌||◌, ◌==◌, if◌then◌else◌, List, [], ◌∷◌, Option, Some, None, option_and_then}
use Rattle.vx_488.specs.declared.transfers.Transfer.{Transfer}
use Rattle.vx_488.specs.declared.transfers.Transfer.TheVariants.{Got}
use Rattle.vx_plan.specs.Transfers.{same_transfer, is_got}

-- what may stand at one place of a list: this transfer, or a byte got, whichever it is
pub data Slot : Type 0 where
  This : Transfer → Slot
  AnyByte : Slot

-- When a read ends: with a byte that has END, with one that equals the stop byte, or with the last of this many.
pub record Reading : Type 0 where
  pub most : ℕ
  pub stop : Option ℕ

-- The transfers that are to be made, in order, and the read behind them, where there is one.
pub record Plan : Type 0 where
  pub front : List Slot
  pub reading : Option Reading

-- nothing is left to do
abbrev pub done : Plan
done = record { front = []; reading = None }

abbrev pub fits : Slot → Transfer → Bool
fits (This a) t = same_transfer a t
fits AnyByte t = is_got t

abbrev pub is_stop : Option ℕ → ℕ → Bool
is_stop None b = false
is_stop (Some stop) b = b == stop

-- a read ends with this byte
abbrev pub ends_with : Reading → ℕ → Bool → Bool
ends_with r b end = end || is_stop r.stop b || (r.most == 1)

-- what is left of a read after this byte
abbrev pub read_left : Reading → ℕ → Bool → Option Reading
read_left r b end = if ends_with r b end then None else Some (record r { most = r.most - 1 })

-- what is left of a plan of which only a read is left, after a transfer, or none where it doesn't fit
abbrev pub reading_left : Option Reading → Transfer → Option Plan
reading_left (Some r) (Got b end) = Some (record { front = []; reading = read_left r b end })
reading_left _ _ = None

abbrev pub front_left : List Slot → Option Reading → Transfer → Option Plan
front_left [] reading t = reading_left reading t
front_left (slot ∷ slots) reading t = if fits slot t then Some (record { front = slots; reading = reading }) else None

-- what is left of a plan after a transfer, or none where the transfer isn't its next
abbrev pub left_after_one : Plan → Transfer → Option Plan
left_after_one p t = front_left p.front p.reading t

-- what is left of a plan after a list, or none where the list leaves the plan
abbrev pub left_after : Option Plan → List Transfer → Option Plan
left_after p [] = p
left_after p (t ∷ ts) = left_after (option_and_then (λ left. left_after_one left t) p) ts

-- a list does all of a job, or a part of it, or leaves it
pub data Stand : Type 0 where
  Whole : Stand
  Part : Stand
  Off : Stand

abbrev pub stand_of : Option Plan → Stand
stand_of None = Off
stand_of (Some left) = standing left.front left.reading
  where
    standing : List Slot → Option Reading → Stand
    standing [] None = Whole
    standing _ _ = Part

abbrev pub stand : Plan → List Transfer → Stand
stand p ts = stand_of (left_after (Some p) ts)

-- what a plan wants next, where anything is left
abbrev pub next_slot : Plan → Option Slot
next_slot p = front_slot p.front p.reading
  where
    front_slot : List Slot → Option Reading → Option Slot
    front_slot [] None = None
    front_slot [] (Some r) = Some AnyByte
    front_slot (slot ∷ slots) reading = Some slot
