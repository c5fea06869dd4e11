-- When a client over a link to a gateway is between calls: from the first one on, as long as it isn't spent.
use Rattle.std.specs.Prelude.{◌≡◌, ℕ, false, List, [], length, Some, None}
use Rattle.std.specs.List.{flat_map}
use Rattle.vx_calls.specs.Call.{Call}
use Rattle.vx_loop.specs.Exchanges.{IsRecord}
use Rattle.vx_client.specs.State.{ClientState}
use Rattle.vx_client.specs.Message.{IsSendable}
use Rattle.vx_client.specs.Exchange.{Exchange, Exchanged}
use Rattle.vx_loop.specs.LoopState.{ServedState, LoopState, IsBeginning}
use Rattle.vx_loop.specs.Standing.{LoopStandsFor}
use Rattle.vx_loop.specs.Heard.{IsResting}

-- a record on a stream: its bytes, and its message
pub record Sent : Type 0 where
  pub stream : List ℕ
  pub message : List ℕ
  pub whole : IsRecord stream message

abbrev pub streams : List Sent → List ℕ
streams rs = flat_map (λ r. r.stream) rs

-- Its link stands for whole records, each answered by a whole one, and it keeps no byte more.
pub record IsLoopAnswered (c : ClientState LoopState) : Type 0 where
  pub taken : List ℕ
  pub given : List ℕ
  pub stands : LoopStandsFor c.link taken given
  pub calls : List Sent
  pub replies : List Sent
  pub taken_is : taken ≡ streams calls
  pub given_is : given ≡ streams replies
  pub even : length calls ≡ length replies
  pub fit : c.spent ≡ false
  pub none_kept : c.kept ≡ []

-- a new client over a new link
abbrev pub FirstLaw : Type 0
FirstLaw = (c : ClientState LoopState) (s : ServedState) → c.link.served ≡ Some s → IsBeginning s → c.spent ≡ false → c.kept ≡ [] → IsLoopAnswered c

-- and after each of its calls that doesn't leave it spent, however the call's exchange ended
abbrev pub CallLaw : Type 0
CallLaw = (old new : ClientState LoopState) (asked : Call) (room : ℕ) (how : Exchange) → IsSendable asked → IsLoopAnswered old
    → Exchanged LoopStandsFor (λ l. None) (λ l. l.receive_faults) (λ l. l.send_faults) old new asked room how → new.spent ≡ false → IsLoopAnswered new

-- such a client is between calls: its link has no pending call, no part of a record, and no byte left to give
abbrev pub RestLaw : Type 0
RestLaw = (c : ClientState LoopState) → IsLoopAnswered c → (s : ServedState) × IsResting c s
