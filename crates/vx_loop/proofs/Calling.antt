-- A call over a link that is looked at from its start, as the link itself knows it.
use Rattle.std.proofs.Common.{◌≡◌, ℕ, true, List, [], take, Option, Some, None, Result, inl, refl, sym, subst}
use Rattle.vx_io_traits.specs.Stands.{Goes}
use Rattle.vx_io_traits.proofs.Laws.Goings.{Goes-none}
use Rattle.vx_calls.specs.Call.{Call}
use Rattle.vx_codec.specs.Answered.{Outcome}
use Rattle.vx_client.specs.State.{ClientState}
use Rattle.vx_client.specs.Message.{call_record}
use Rattle.vx_client.specs.Exchange.{Exchange, Idle, Unsent, StopsIn, ClientAsks, Exchanged, IsCalled}
use Rattle.vx_client.specs.declared.answers.ClientErr.{ClientErr}
use Rattle.vx_loop.specs.Gateway.{gateway_of}
use Rattle.vx_loop.specs.LoopState.{ServedState, LoopState, IsIdle}
use Rattle.vx_loop.specs.Serving.{lives}
use Rattle.vx_loop.specs.Standing.{Went, Since, LoopStandsFor, MarkedStands}

-- there is a gateway, and its connection lives
abbrev pub IsLive : Option ServedState → Type 0
IsLive (Some s) = lives (gateway_of s.core) ≡ true
IsLive None = ⊥

-- an idle gateway has taken and given nothing since
idle-went : (s : ServedState) → IsIdle s → Went (gateway_of s.core) s [] []
idle-went s idle = record {
  done = [];
  reached = gateway_of s.core;
  open_part = [];
  exchanged = refl;
  taken_is = refl;
  given_is = idle.given;
  stands = inl (record { same = refl; answered = idle.answered; held = idle.fresh_is });
}

pub idle-since : (o : Option ServedState) (s : ServedState) → o ≡ Some s → IsIdle s → Since (gateway_of s.core) o [] []
idle-since o s is idle = subst (λ p. Since (gateway_of s.core) p [] []) (sym is) (idle-went s idle)

pub marked-first : (start : LoopState) → MarkedStands start start [] []
marked-first start = (Goes-none LoopStandsFor start, λ s is idle. idle-since start.served s is idle)

-- what a call did from the start
pub marked-from : (start new : LoopState) (sent got : List ℕ) → Goes (MarkedStands start) start new sent got → MarkedStands start new sent got
marked-from start new sent got h = h [] [] (marked-first start)

plain : (start new : LoopState) (sent got : List ℕ) → Goes (MarkedStands start) start new sent got → Goes LoopStandsFor start new sent got
plain start new sent got h = (marked-from start new sent got h).0

module _ (left : LoopState → Option (List ℕ)) (receives sends : LoopState → ℕ) (old new : ClientState LoopState) (call : Call) where
  stops-plain : (text : List ℕ) → StopsIn (MarkedStands old.link) sends old.link new.link text → StopsIn LoopStandsFor sends old.link new.link text
  stops-plain text h = record { rose = h.rose; count = h.count; within = h.within; goes = plain old.link new.link (take h.count text) [] h.goes }

  asks-plain : (Came : List ℕ → List ℕ → Type 0) → ClientAsks (MarkedStands old.link) left old new call Came → ClientAsks LoopStandsFor left old new call Came
  asks-plain Came h = record {
    got = h.got;
    moved = record { goes = plain old.link new.link (call_record old.next call) h.got h.moved.goes; given = h.moved.given };
    came = h.came;
  }

  exchanged-plain : (room : ℕ) (how : Exchange) → Exchanged (MarkedStands old.link) left receives sends old new call room how
      → Exchanged LoopStandsFor left receives sends old new call room how
  exchanged-plain room Idle h = h
  exchanged-plain room Unsent h = (h.0, stops-plain (call_record old.next call) h.1, h.2)
  exchanged-plain room _ h = (h.0, asks-plain _ h.1)

  -- it is the same call of the link itself
  pub called-plain : {X : Type 0} (room : ℕ) (view : Outcome → X) (result : Result X ClientErr) → IsCalled (MarkedStands old.link) left receives sends old new call room view result
      → IsCalled LoopStandsFor left receives sends old new call room view result
  called-plain room view result h = record {
    how = h.how;
    exchanged = exchanged-plain room h.how h.exchanged;
    answer = h.answer;
    receives_counted = h.receives_counted;
    sends_counted = h.sends_counted;
  }
