-- What the claims say of the worked lists.
use Rattle.std.proofs.Common.{ℕ, ◌==◌, Bool, true, false, List, [], ◌∷◌, Option, Some, None, refl, sym, ap, arith}
use Rattle.std.proofs.lemmas.Bool.{true≢false}
use Rattle.vx_calls.specs.declared.targets.Target.TheVariants.{Device}
use Rattle.vx_488.specs.declared.transfers.Transfer.TheVariants.{Put}
use Rattle.vx_488.specs.Heard.{Byte}
use Rattle.vx_rules.specs.Locks.{Lock}
use Rattle.vx_flow.specs.Event.{Event, Arrive, Move}
use Rattle.vx_flow.specs.Linearization.{linearization}
use Rattle.vx_flow.specs.Claims.{MovesFreely, EntriesFree, WritesHeard}
use Rattle.vx_test_low.specs.Lists.{changed, first, behind, puts, write}
use Rattle.vx_test_low.specs.Turns.{shared, both, address, entry_2}
use Rattle.vx_test_low.specs.Claims.{trespass}

-- whether END stands on the last of some bytes
abbrev pub ends : List Byte → Bool
ends [] = false
ends (b ∷ []) = b.end
ends (b ∷ c ∷ bs) = ends (c ∷ bs)

-- the flags ask for no END, and the last byte has it
abbrev pub unasked : List Event
unasked = changed 7 (Arrive 1 (write 1 0 (65 ∷ 66 ∷ [])) 20) shared

pub end_unasked : WritesHeard 9011 (linearization unasked) → ⊥
end_unasked claim = true≢false (ap ends
    (claim (linearization (first 12 unasked)) (entry_2 ∷ []) _ 1 24 22 both false None false 2 1 1000 0 0 (65 ∷ 66 ∷ []) 20 false _ 5 None
    refl refl refl refl refl).0)

-- they ask for it, and the last byte hasn't it
abbrev pub unmarked : List Event
unmarked = changed 12 (Move 1 (Put 66 false ∷ [])) shared

pub no_end : WritesHeard 9011 (linearization unmarked) → ⊥
no_end claim = true≢false (sym (ap ends
    (claim (linearization (first 12 unmarked)) (entry_2 ∷ []) _ 1 24 22 _ false None false 2 1 1000 0 8 (65 ∷ 66 ∷ []) 20 false _ 5 None
    refl refl refl refl refl).0))

-- the last byte goes to device 7
abbrev pub astray : List Event
astray = changed 12 (Move 1 (puts 7 66 true)) shared

pub other_device : WritesHeard 9011 (linearization astray) → ⊥
other_device claim = true≢false (sym (ap ends
    (claim (linearization (first 12 astray)) (entry_2 ∷ []) _ 1 24 22 _ false None false 2 1 1000 0 8 (65 ∷ 66 ∷ []) 20 false _ 5 None
    refl refl refl refl refl).0))

-- the move reaches device 7, which the lock of link 3 keeps
abbrev pub is_first : Option ℕ → Bool
is_first None = false
is_first (Some lid) = lid == 1

abbrev pub kept : Lock
kept = record { link = 3; target = Device 7 None }

pub moves_to_locked : MovesFreely 9011 trespass → ⊥
moves_to_locked claim = true≢false
    (claim (first 13 trespass) (behind 14 trespass) 1 (puts 7 66 true) _ refl refl 0 (address 7) (omega arith) 0 kept (omega arith)
    (λ e. true≢false (ap is_first e)))

pub linearizes_to_locked : EntriesFree 9011 (linearization trespass) → ⊥
linearizes_to_locked claim = true≢false
    (claim (linearization (first 14 trespass)) [] _ _ refl refl 1 (address 7) (omega arith) 0 kept (omega arith)
    (λ e. true≢false (ap is_first e)))
