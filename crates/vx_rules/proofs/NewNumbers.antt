-- The laws of numbers say something:
-- in a history that is allowed a link, a channel and a connection go, and those that come after them have new numbers.
use Rattle.std.proofs.Common.{◌≡◌, ℕ, true, false, List, [], ◌∷◌, Some, None, is_some, refl}
use Rattle.std.specs.Prelude.{pos}
use Rattle.vx_calls.specs.declared.calls.Role.TheVariants as role
use Rattle.vx_calls.specs.declared.codes.ErrorCode.TheVariants as code
use Rattle.vx_calls.specs.declared.limits.TheConstants.{WRITE_MAX}
use Rattle.vx_calls.specs.Call as call
use Rattle.vx_calls.specs.Reply as reply
use Rattle.vx_rules.specs.State.{first}
use Rattle.vx_rules.specs.Entry.{Entry, Up, Down, Arrive, Answer}
use Rattle.vx_rules.specs.Legal.{legal_state}
use Rattle.vx_rules.specs.Numbers.{links_given, connections_given, channels_given}

-- gpib0,5
abbrev text : List ℕ
text = 103 ∷ 112 ∷ 105 ∷ 98 ∷ 48 ∷ 44 ∷ 53 ∷ []

abbrev history : List Entry
history =
    Up 1 role.Core
    ∷ Arrive 1 (call.CreateLink (pos 1) false 0 text) 10 ∷ Answer 1 10 0 [] false None false (reply.CreateLink code.Ok 1 9011 WRITE_MAX)
    ∷ Arrive 1 (call.DestroyLink 1) 20 ∷ Answer 1 20 0 [] false None false (reply.Error code.Ok)
    ∷ Arrive 1 (call.CreateLink (pos 1) false 0 text) 30 ∷ Answer 1 30 0 [] false None false (reply.CreateLink code.Ok 2 9011 WRITE_MAX)
    ∷ Arrive 1 (call.CreateIntr 0 1025 0x607B1 1 0) 40 ∷ Answer 1 41 0 [] false (Some true) false (reply.Error code.Ok)
    ∷ Arrive 1 call.DestroyIntr 50 ∷ Answer 1 50 0 [] false None false (reply.Error code.Ok)
    ∷ Arrive 1 (call.CreateIntr 0 1025 0x607B1 1 0) 60 ∷ Answer 1 61 0 [] false (Some true) false (reply.Error code.Ok)
    ∷ Down 1 [] ∷ Up 2 role.Core ∷ []

is-allowed : is_some (legal_state 9011 history) ≡ true
is-allowed = refl

links-are : links_given history ≡ 1 ∷ 2 ∷ []
links-are = refl

connections-are : connections_given history ≡ 1 ∷ 2 ∷ []
connections-are = refl

channels-are : channels_given (Some (first 9011)) history ≡ 1 ∷ 2 ∷ []
channels-are = refl
