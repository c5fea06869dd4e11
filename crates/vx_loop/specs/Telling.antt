-- To be believed.
-- What a link to a gateway tells of its calls, and what a write over it comes to where it ends by them.
use Rattle.std.specs.Prelude.{◌≡◌, ℕ, true, false, List, [], take, Some, IfSome, Result, Err}
use Rattle.vx_io_traits.specs.declared.ReadOut.{ReadOut}
use Rattle.vx_io_traits.specs.declared.WriteOut.{WriteOut}
use Rattle.vx_io_traits.specs.Outs.{IfTook, OnEnd, OnReadFailed, OnWriteFailed}
use Rattle.vx_client.specs.State.{ClientState}
use Rattle.vx_client.specs.declared.answers.ClientErr.{ClientErr}
use Rattle.vx_client.specs.declared.answers.ClientErr.TheVariants as err
use Rattle.vx_loop.specs.Gateway.{gateway_of}
use Rattle.vx_loop.specs.LoopState.{ServedState, LoopState}
use Rattle.vx_loop.specs.Serving.{lives}
use Rattle.vx_loop.specs.Standing.{LoopGoesOn, IsUnanswered, IsDrained, IsLoopRefused, LivesAlike, LivesOn, HasEnded, EndsEarly}

-- A receive ends no connection. It comes to the end only where no call waits and nothing of a reply is left, and fails only where
-- a call waits at the last moment.
abbrev pub IsReceive : LoopState → List ℕ → ReadOut → List ℕ → LoopState → Type 0
IsReceive old slice answer written new =
    LivesAlike old.served new.served × OnEnd answer (IfSome new.served IsDrained) × OnReadFailed answer (IfSome new.served IsUnanswered)

-- A send that took bytes goes on so, and the connection lives on exactly where the link is ready. It fails only where the
-- connection lives and its bytes end a record that is too long, or that is no call; the connection has ended then.
abbrev pub IsSend : LoopState → List ℕ → WriteOut → LoopState → Type 0
IsSend old bytes answer new =
    IfTook answer (λ n. LoopGoesOn old new (take n bytes) [] × LivesOn old.served new.served bytes × EndsEarly old.served new.served)
    × OnWriteFailed answer (IfSome old.served (λ s. IsLoopRefused s bytes × (lives (gateway_of s.core) ≡ true)) × HasEnded new.served)

-- A call over a client found the connection ended: it didn't live as the call began, and doesn't live now.
pub record FindsEnded (new : ClientState LoopState) (s : ServedState) : Type 0 where
  pub then_served : ServedState
  pub serves : new.link.served ≡ Some then_served
  pub before : lives (gateway_of s.core) ≡ false
  pub now : lives (gateway_of then_served.core) ≡ false

-- facts for one answer of a call; where the answer is another, each holds
abbrev pub OnClosed : {X : Type 0} → Result X ClientErr → Type 0 → Type 0
OnClosed (Err err.Closed) P = P
OnClosed _ P = Unit {0}

abbrev pub OnReadFault : {X : Type 0} → Result X ClientErr → Type 0 → Type 0
OnReadFault (Err err.ReadFault) P = P
OnReadFault _ P = Unit {0}

abbrev pub OnWriteFault : {X : Type 0} → Result X ClientErr → Type 0 → Type 0
OnWriteFault (Err err.WriteFault) P = P
OnWriteFault _ P = Unit {0}
