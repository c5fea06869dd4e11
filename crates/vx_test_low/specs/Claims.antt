-- What the claims say of worked lists: they hold of a list that is allowed, and not of one in which a
-- transfer, or the flags of its call, are others.
use Rattle.std.specs.Prelude.{◌≡◌, true, false, List, [], ◌∷◌, Some, None}
use Rattle.std.specs.List.{flat_map}
use Rattle.vx_calls.specs.Call as call
use Rattle.vx_488.specs.declared.transfers.Transfer.TheVariants.{Put}
use Rattle.vx_rules.specs.SrqState.{channel_at}
use Rattle.vx_rules.specs.State.{first}
use Rattle.vx_rules.specs.Legal.{queued_along}
use Rattle.vx_flow.specs.Event.{Event, Arrive, Move}
use Rattle.vx_flow.specs.Linearization.{linearization}
use Rattle.vx_flow.specs.Laws.{srqs_of, sent}
use Rattle.vx_flow.specs.Claims.{MovesFreely, EntriesFree, WritesHeard, IsQueued, EnablesInOrder}
use Rattle.vx_test_low.specs.Lists.{changed, part, puts, write}
use Rattle.vx_test_low.specs.Turns.{shared}
use Rattle.vx_test_low.specs.Locks.{beside, done}
use Rattle.vx_test_low.specs.Interrupts.{handle, rises, rises_gone, two_links}

-- the lock of link 3 on device 7 is granted in the turn on device 5, whose second move then goes to device 7
abbrev pub trespass : List Event
trespass = changed 14 (Move 1 (puts 7 66 true)) (beside (call.Lock 3 0 0) done)

pub record ClaimsTell : Type 0 where
  -- device 5 hears AB with END, and device 7 C with END, each alone
  pub heard : WritesHeard 9011 (linearization shared)
  -- END where the flags ask for none, no END where they do, and a byte to another device
  pub end_unasked : WritesHeard 9011 (linearization (changed 7 (Arrive 1 (write 1 0 (65 ∷ 66 ∷ [])) 20) shared)) → ⊥
  pub no_end : WritesHeard 9011 (linearization (changed 12 (Move 1 (Put 66 false ∷ [])) shared)) → ⊥
  pub other_device : WritesHeard 9011 (linearization (changed 12 (Move 1 (puts 7 66 true)) shared)) → ⊥
  -- a turn keeps off a device that another link's lock is on
  pub free : MovesFreely 9011 (beside (call.Lock 3 0 0) done)
  pub moves_to_locked : MovesFreely 9011 trespass → ⊥
  pub linearizes_to_locked : EntriesFree 9011 (linearization trespass) → ⊥
  -- the interrupts that were taken have xids 1 and 2, of a channel that is gone at the end too
  pub queued : IsQueued 9011 (linearization rises_gone)
  pub gone : part (λ f. channel_at f.state.tables.srq_state 1) rises_gone ≡ Some None
  pub taken : flat_map (srqs_of 1 1) (linearization rises) ≡ sent 1 0x607B1 1 (handle ∷ handle ∷ [])
  pub due : queued_along 1 1 (Some (first 9011)) (linearization rises) ≡ handle ∷ handle ∷ []
  -- the enables of two links are in order of the links' numbers
  pub enables : EnablesInOrder 9011 (linearization two_links)
