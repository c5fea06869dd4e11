-- Data bytes that come in a row, and where a turn is behind a run of transfers.
use Rattle.std.specs.Prelude.{◌≡◌, ◌≢◌, ℕ, ◌+◌, Bool, true, false, not, min, List, [], drop, count_by, Option, Some}
use Rattle.vx_calls.specs.declared.limits.TheConstants.{READ_MAX}
use Rattle.vx_488.specs.declared.transfers.Transfer.{Transfer}
use Rattle.vx_488.specs.declared.transfers.Transfer.TheVariants as transfer
use Rattle.vx_plan.specs.declared.tasks.Task.{Task}
use Rattle.vx_plan.specs.declared.tasks.Task.TheVariants.{Write, Read}
use Rattle.vx_plan.specs.declared.tasks.Place.{Place}
use Rattle.vx_plan.specs.Plan.{Slot, This, AnyByte, Plan, next_slot}
use Rattle.vx_plan.specs.Tasks.{puts, just}
use Rattle.vx_plan.specs.Results.{gots, last_of}
use Rattle.vx_plan.specs.Places.{carries_data, Reaches}

-- a put is wanted, or a byte that is got
abbrev pub wants_put : Option Slot → Bool
wants_put (Some (This (transfer.Put b end))) = true
wants_put _ = false

abbrev pub wants_get : Option Slot → Bool
wants_get (Some AnyByte) = true
wants_get _ = false

-- So many data bytes come in a row, where a plan is left and so many were moved: all that a write has left to put, and
-- nothing else is left of it; or as many as a read may still get. None come where something else is wanted, or nothing.
abbrev pub DataLeft : Task → List ℕ → ℕ → Plan → ℕ → Type 0
DataLeft (Write t len end) bytes moved left n =
    (n ≡ 0 → wants_put (next_slot left) ≡ false) × (n ≢ 0 → (left ≡ just (puts end (drop moved bytes))) × (moved + n ≡ len))
DataLeft (Read t max stop) bytes moved left n =
    (n ≡ 0 → wants_get (next_slot left) ≡ false)
    × (n ≢ 0 → (left ≡ record { front = []; reading = Some (record { most = n; stop = stop }) }) × (moved + n ≡ min max READ_MAX))
DataLeft _ bytes moved left n = n ≡ 0

-- whichever bytes and list reached the place
abbrev pub IsDataLeft : Task → Place → ℕ → Type 0
IsDataLeft task place n = (bytes : List ℕ) (ts : List Transfer) (left : Plan) → Reaches task bytes ts left place → DataLeft task bytes place.moved left n

-- the place behind these transfers
abbrev pub place_behind : Task → Place → List Transfer → Place
place_behind task place run = record place {
  step = place.step + count_by (λ t. not (carries_data task t)) run;
  moved = place.moved + count_by (carries_data task) run;
  last = last_of place.last (gots run);
}
