-- What messages do at the desk of a fleet, by what calls do there.
use Rattle.std.proofs.Common.{ℕ, List, Option, None, Some, refl, sym, subst, arith}
use Rattle.vx_io_traits.specs.declared.clocks.Clock.{Ghosts as OfClock}
use Rattle.vx_calls.specs.declared.calls.Role.{Role}
use Rattle.vx_calls.specs.declared.calls.Role.TheVariants as role
use Rattle.vx_calls.specs.Call.{Call}
use Rattle.vx_488.specs.declared.bus.Bus.{Ghosts}
use Rattle.vx_core.specs.CoreState.{CoreState}
use Rattle.vx_gate.specs.PassView.{PassView, GateId}
use Rattle.vx_group.specs.Groups.{Group}
use Rattle.vx_exchange.specs.Meaning.{Meaning, Junk, Answered, Asks, Aborts, meaning}
use Rattle.vx_session.specs.Desks.{DeskAnswers, Attends}
use Rattle.vx_session.specs.declared.desks.Desk.{Ghosts as OfDesk}
use Rattle.vx_session.specs.declared.attending.Attending.{Attending}
use Rattle.vx_desks.specs.declared.routes.counts.Count.{Count}
use Rattle.vx_desks.specs.Four.{Four}
use Rattle.vx_desks.specs.Origins.{origins}
use Rattle.vx_desks.specs.FleetServing.{State, MeaningDoes, MessageDoes, fleet_state}
use Rattle.vx_desks.specs.FleetDesk.{AreIdleAt}
use Rattle.vx_desks.proofs.Answered.{answered-does}

module _ {B C D : Type 0} (bus : Ghosts B) (by_clock : OfClock C) (ways : OfDesk D) (firsts : D → Four (CoreState B)) (gates : D → Four GateId)
    (count : D → Count) (conns : D → Four ℕ) (passes : D → Option (Four (PassView Group))) (clock : D → C)
    (idles : (s : D) (r : Role) → ways.idle s r → AreIdleAt (gates s) r (fleet_state by_clock (count s) r (conns s) (passes s) (clock s)))
    (asks : (s s' : D) (xid : ℕ) (call : Call) (reply : Option (List ℕ)) → ways.asks s xid call reply s'
    → MeaningDoes (origins bus (firsts s)) by_clock.tells (fleet_state by_clock (count s) role.Core (conns s) (passes s) (clock s)) (Asks xid call) reply (fleet_state by_clock (count s') role.Core (conns s') (passes s') (clock s')))
    (aborts : (s s' : D) (xid lid : ℕ) (reply : List ℕ) → ways.aborts s xid lid reply s'
    → MeaningDoes (origins bus (firsts s)) by_clock.tells (fleet_state by_clock (count s) role.Abort (conns s) (passes s) (clock s)) (Aborts xid lid) (Some reply) (fleet_state by_clock (count s') role.Abort (conns s') (passes s') (clock s'))) where
  abbrev shown : Role → D → State C
  shown r s = fleet_state by_clock (count s) r (conns s) (passes s) (clock s)

  -- a message of a meaning does on the connections what it does at the desk
  answers-do : (m : Meaning) (r : Role) (s s' : D) (reply : Option (List ℕ)) → ways.idle s r → DeskAnswers ways r s m reply s' → MeaningDoes (origins bus (firsts s)) by_clock.tells (shown r s) m reply (shown r s')
  answers-do Junk r s s' None idle did =
      subst (λ x. MeaningDoes (origins bus (firsts s)) by_clock.tells (shown r s) Junk None (shown r x)) (sym did)
      (record { count = refl; role = refl; conns = refl; later = omega arith; has = (refl, refl, refl) })
  answers-do Junk r s s' (Some out) idle did = absurd did
  answers-do (Answered message) r s s' None idle did = absurd did
  answers-do (Answered message) r s s' (Some out) idle did =
      let has = idles s r idle in
      subst (λ x. MeaningDoes (origins bus (firsts s)) by_clock.tells (shown r s) (Answered message) (Some out) (shown r x)) (sym did.1)
      (answered-does (origins bus (firsts s)) by_clock.tells (shown r s) has.passes has.has message out did.0)
  answers-do (Asks xid call) r s s' reply idle did =
      subst (λ x. MeaningDoes (origins bus (firsts s)) by_clock.tells (shown x s) (Asks xid call) reply (shown x s')) (sym did.0) (asks s s' xid call reply did.1)
  answers-do (Aborts xid lid) r s s' None idle did = absurd did
  answers-do (Aborts xid lid) r s s' (Some out) idle did =
      subst (λ x. MeaningDoes (origins bus (firsts s)) by_clock.tells (shown x s) (Aborts xid lid) (Some out) (shown x s')) (sym did.0) (aborts s s' xid lid out did.1)

  -- so does a message
  pub fleet-does : (s s' : Attending D) (message : List ℕ) (reply : Option (List ℕ)) → Attends ways s message reply s'
      → MessageDoes (origins bus (firsts s.desk)) by_clock.tells (shown s.role s.desk) message reply (shown s'.role s'.desk)
  fleet-does s s' message reply did =
      subst (λ r. MeaningDoes (origins bus (firsts s.desk)) by_clock.tells (shown s.role s.desk) (meaning message s.role) reply (shown r s'.desk)) (sym did.role)
      (answers-do (meaning message s.role) s.role s.desk s'.desk reply did.idle did.answers)
