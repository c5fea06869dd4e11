-- A call that comes and its first poll, at one moment.
use Rattle.std.proofs.Common.{◌≡◌, ℕ, max, List, [], ◌∷◌, Some, subst, arith}
use Rattle.vx_calls.specs.Call.{Call}
use Rattle.vx_488.specs.Steps.{Told, Cut}
use Rattle.vx_488.specs.Walks.{Walk}
use Rattle.vx_488.specs.declared.bus.Bus.{Ghosts}
use Rattle.vx_flow.specs.Event.{Arrive}
use Rattle.vx_flow.specs.InterleavedStep.{interleaved_step}
use Rattle.vx_core.specs.CoreState.{CoreState}
use Rattle.vx_exchange.specs.Doing.{Polled, Came}
use Rattle.vx_exchange.proofs.Laws.{arrive-moment}
use Rattle.vx_exchange.specs.declared.polls.PollEnd.{PollEnd}

-- the moment of a poll behind the arrival is the arrival's
same-moment : (first now mid : ℕ) → mid ≡ max first now → max mid now ≡ max first now
same-moment first now mid h = omega arith

-- a call that came was polled at the moment at which it came
pub came-so : {B : Type 0} (g : Ghosts B) (before come after : CoreState B) (conn now xid : ℕ) (asked : Call) (room : List ℕ) (said : PollEnd)
    → interleaved_step before.interleaved (Arrive conn asked (max before.interleaved.state.moment now)) ≡ Some come.interleaved
    → Walk g.means g.through before.bus (Cut ∷ Told (max before.interleaved.state.moment now) ∷ []) come.bus
    → Polled g come conn (max come.interleaved.state.moment now) xid room said after
    → Came g before conn asked (max before.interleaved.state.moment now) xid room said after
came-so g before come after conn now xid asked room said arrives walk polled =
    let moment = max before.interleaved.state.moment now in
    record {
      come = come;
      arrives = arrives;
      walk = walk;
      polled = subst (λ n. Polled g come conn n xid room said after)
          (same-moment before.interleaved.state.moment now come.interleaved.state.moment (arrive-moment before.interleaved come.interleaved conn moment asked arrives)) polled;
    }
