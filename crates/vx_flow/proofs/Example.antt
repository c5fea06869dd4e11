-- The law of gathering says something: this list of events is allowed, with a turn in two moves, a lock that another connection
-- takes between them, and an abort that ends it.
use Rattle.std.proofs.Common.{◌≡◌, ℕ, true, false, List, [], ◌∷◌, None, is_some, refl}
use Rattle.std.specs.Prelude.{pos}
use Rattle.vx_calls.specs.declared.calls.Role.TheVariants as role
use Rattle.vx_calls.specs.declared.codes.ErrorCode.TheVariants as code
use Rattle.vx_calls.specs.declared.limits.TheConstants.{WRITE_MAX}
use Rattle.vx_calls.specs.Call as call
use Rattle.vx_calls.specs.Reply as reply
use Rattle.vx_488.specs.declared.transfers.Transfer.TheVariants.{Cmd, Put}
use Rattle.vx_flow.specs.Event.{Event, Up, Arrive, Answer, Abort, Begin, Move}
use Rattle.vx_flow.specs.Laws.{interleaved_along}

-- gpib0,5 and gpib0,7
abbrev text : ℕ → List ℕ
text digit = 103 ∷ 112 ∷ 105 ∷ 98 ∷ 48 ∷ 44 ∷ digit ∷ []

abbrev events : List Event
events =
    Up 1 role.Core ∷ Up 2 role.Core ∷ Up 3 role.Abort
    ∷ Arrive 1 (call.CreateLink (pos 1) false 0 (text 53)) 10 ∷ Answer 1 10 false None false (reply.CreateLink code.Ok 1 9011 WRITE_MAX)
    ∷ Arrive 1 (call.Write 1 1000 0 8 (65 ∷ 66 ∷ [])) 20 ∷ Begin 1 21 ∷ Move 1 (Cmd 0x3F ∷ [])
    ∷ Arrive 2 (call.CreateLink (pos 2) true 0 (text 55)) 30 ∷ Answer 2 30 false None false (reply.CreateLink code.Ok 2 9011 WRITE_MAX)
    ∷ Move 1 (Cmd 0x40 ∷ Cmd 0x25 ∷ Put 65 false ∷ []) ∷ Abort 3 1 code.Ok ∷ Answer 1 40 false None false (reply.Write code.Abort 1) ∷ []

are-allowed : is_some (interleaved_along 9011 events) ≡ true
are-allowed = refl
