-- The law of queued interrupts says something:
-- in a history that is allowed SRQ rises twice for an enabled link, and one of its two interrupts is taken.
use Rattle.std.proofs.Common.{◌≡◌, ℕ, true, false, List, [], ◌∷◌, Some, None, refl}
use Rattle.std.specs.Prelude.{pos, option_and_then}
use Rattle.std.specs.List.{flat_map}
use Rattle.vx_calls.specs.declared.calls.Role.TheVariants as role
use Rattle.vx_calls.specs.declared.codes.ErrorCode.TheVariants as code
use Rattle.vx_calls.specs.declared.limits.TheConstants.{WRITE_MAX}
use Rattle.vx_calls.specs.Call as call
use Rattle.vx_calls.specs.Reply as reply
use Rattle.vx_rules.specs.SrqState.{Front, Gone, channel_at}
use Rattle.vx_rules.specs.State.{State, first}
use Rattle.vx_rules.specs.Entry.{Entry, Up, Arrive, Answer, Sample, Take}
use Rattle.vx_rules.specs.Legal.{legal_state, queued_along}
use Rattle.vx_flow.specs.Laws.{srqs_of}

-- gpib0,5, and the handle of its link
abbrev text : List ℕ
text = 103 ∷ 112 ∷ 105 ∷ 98 ∷ 48 ∷ 44 ∷ 53 ∷ []

abbrev handle : List ℕ
handle = 7 ∷ 9 ∷ []

-- the second take names a channel that isn't the connection's
abbrev history : List Entry
history =
    Up 1 role.Core
    ∷ Arrive 1 (call.CreateLink (pos 1) false 0 text) 10 ∷ Answer 1 10 0 [] false None false (reply.CreateLink code.Ok 1 9011 WRITE_MAX)
    ∷ Arrive 1 (call.EnableSrq 1 true handle) 20 ∷ Answer 1 20 0 [] false None false (reply.Error code.Ok)
    ∷ Arrive 1 (call.CreateIntr 0 1025 0x607B1 1 0) 30 ∷ Answer 1 31 0 [] false (Some true) false (reply.Error code.Ok)
    ∷ Sample 40 true ∷ Take 1 1 (Front (record { xid = 1; program = 0x607B1; version = 1; handle = handle }))
    ∷ Sample 41 true ∷ Sample 42 false ∷ Sample 43 true ∷ Take 1 2 Gone ∷ []

are-queued : queued_along 1 1 (Some (first 9011)) history ≡ handle ∷ handle ∷ []
are-queued = refl

is-taken : flat_map (srqs_of 1 1) history ≡ record { xid = 1; program = 0x607B1; version = 1; handle = handle } ∷ []
is-taken = refl

waits : option_and_then (λ (s : State). channel_at s.tables.srq_state 1) (legal_state 9011 history)
    ≡ Some (record { number = 1; program = 0x607B1; version = 1; next_xid = 2; outbox = handle ∷ [] })
waits = refl
