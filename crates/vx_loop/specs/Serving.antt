-- To be believed.
-- What serving a record, and polling its call again, leave of a gateway and of what is given.
use Rattle.std.specs.Prelude.{◌≡◌, ◌≤◌, ℕ, Bool, true, is_some, List, [], ◌∷◌, ◌++◌, length, Option, Some, None, ◌⊎◌}
use Rattle.std.specs.List.{list_all}
use Rattle.vx_488.specs.Steps.{Step, Told, Cut}
use Rattle.vx_calls.specs.declared.calls.Role.TheVariants as role
use Rattle.vx_calls.specs.Call.{Call}
use Rattle.vx_calls.specs.Reply.{Reply}
use Rattle.vx_record.specs.Fragments.{record_of}
use Rattle.vx_exchange.specs.Meaning.{Meaning, Junk, Asks, Aborts, reply_record}
use Rattle.vx_exchange.specs.Meaning as meant
use Rattle.vx_exchange.specs.declared.record.TheConstants.{REPLY_ROOM}
use Rattle.vx_exchange.specs.declared.polls.PollEnd.{PollEnd}
use Rattle.vx_exchange.specs.declared.polls.PollEnd.TheVariants as end
use Rattle.vx_rules.specs.State.{pending_at, lives_as}
use Rattle.vx_flow.specs.Event.{Event, Arrive, Answer}
use Rattle.vx_flow.specs.InterleavedState.{Turn}
use Rattle.vx_flow.specs.Sound.{IsSound}
use Rattle.vx_loop.specs.Gateway.{Gateway, Happens, moments}
use Rattle.vx_loop.specs.Exchanges.{LoopAdds, of_turn}

-- what is needed of a gateway before a poll of connection 1's call
pub record IsFit (g : Gateway) : Type 0 where
  pub sound : IsSound g.interleaved
  pub own : (u : Turn) → g.interleaved.turn ≡ Some u → u.connection ≡ 1

-- how long the reply is that a poll wrote; 0 where it wrote none
abbrev pub reply_len : PollEnd → ℕ
reply_len (end.Replied len error) = len
reply_len _ = 0

-- whether connection 1 lives
abbrev pub lives : Gateway → Bool
lives g = lives_as g.interleaved.state.tables 1 role.Core

-- a pending call's turn went on at this moment, and the call was answered: no turn is left
pub record IsReplied (before : Gateway) (xid now : ℕ) (dialed : Option Bool) (after : Gateway) (left : List ℕ) : Type 0 where
  pub turn : List Event
  pub steps : List Step
  pub failed : Bool
  pub level : Bool
  pub told : Reply
  pub turn_is : list_all of_turn turn ≡ true
  pub adds : LoopAdds before (turn ++ Answer 1 now failed dialed level told ∷ []) steps after
  pub moment : after.interleaved.state.moment ≡ now
  pub told_is : moments steps ≡ now ∷ []
  pub left_is : left ≡ reply_record xid told
  pub short : length left ≤ REPLY_ROOM
  pub answered : pending_at after.interleaved.state.tables 1 ≡ None
  pub over : after.interleaved.turn ≡ None
  pub lives_on : lives after ≡ lives before

-- or it waits: a turn that is left is its own
pub record IsLeft (before : Gateway) (now : ℕ) (after : Gateway) (left : List ℕ) : Type 0 where
  pub turn : List Event
  pub steps : List Step
  pub turn_is : list_all of_turn turn ≡ true
  pub adds : LoopAdds before turn steps after
  pub moment : after.interleaved.state.moment ≡ now
  pub told_is : moments steps ≡ now ∷ []
  pub none_left : left ≡ []
  pub pending : is_some (pending_at after.interleaved.state.tables 1) ≡ true
  pub own : (u : Turn) → after.interleaved.turn ≡ Some u → u.connection ≡ 1
  pub lives_on : lives after ≡ lives before

-- a poll at this moment did either
abbrev pub Continues : Gateway → (xid now : ℕ) → Gateway → List ℕ → Type 0
Continues before xid now after left = IsReplied before xid now None after left ⊎ IsLeft before now after left

-- a call came, and was polled, at the gateway's moment
pub record CallsOn (before : Gateway) (xid : ℕ) (asked : Call) (after : Gateway) (left : List ℕ) : Type 0 where
  pub come : Gateway
  pub arrives : Happens before (Arrive 1 asked before.interleaved.state.moment ∷ []) (Cut ∷ Told before.interleaved.state.moment ∷ []) come
  pub continues : Continues come xid before.interleaved.state.moment after left

-- what a message leaves: a call comes; another that has a reply is answered without the gateway
abbrev pub LoopServes : Gateway → Meaning → ℕ → Gateway → List ℕ → Type 0
LoopServes before Junk xid after left = ⊥
LoopServes before (meant.Answered message) xid after left = (after ≡ before) × (left ≡ record_of message) × (length left ≤ REPLY_ROOM)
LoopServes before (Asks number asked) xid after left = (xid ≡ number) × CallsOn before number asked after left
LoopServes before (Aborts number lid) xid after left = ⊥
