-- A message of a session to several buses: what it means, and how it is served.
use Rattle.std.proofs.Common.{◌≡◌, ◌≤◌, ◌<◌, ℕ, zero, suc, List, [], Some, refl, sym, ap, ◌∙◌, subst, arith}
use Rattle.std.proofs.lemmas.Option.{same_Some}
use Rattle.vx_calls.specs.declared.calls.Role.{Role}
use Rattle.vx_calls.specs.declared.calls.Role.TheVariants as role
use Rattle.vx_calls.specs.Call.{Call}
use Rattle.vx_calls.specs.Reply.{Reply}
use Rattle.vx_record.specs.Fragments.{record_of}
use Rattle.vx_exchange.specs.Meaning as one
use Rattle.vx_gate.specs.PassView.{PassView, GateId}
use Rattle.vx_desks.specs.declared.routes.counts.Count.{Count}
use Rattle.vx_desks.specs.Four.{Four, at, Each}
use Rattle.vx_desks.specs.Counts.{count_number}
use Rattle.vx_desks.specs.Passing.{IsOf}
use Rattle.vx_group.specs.Groups.{Group}
use Rattle.vx_group.specs.Phases.{Idle}
use Rattle.vx_desks.specs.Replying.{success_record}
use Rattle.vx_desks.specs.Routing.{Way, Refused, Goes, route_of, fleet_place_of}
use Rattle.vx_session.specs.Placing.{Placed}
use Rattle.vx_session.specs.Progress.{Clocked, ClockedAs, unclocked}
use Rattle.vx_session.proofs.Laws.{makes-none, makes-later, clockedas-none}
use Rattle.vx_session.specs.Serving.{IsAborted}
use Rattle.vx_session.specs.Turning.{phase_at}
use Rattle.vx_desks.specs.Asking.{OnBus}
use Rattle.vx_desks.specs.Holding.{AreIdle, FleetHolds}
use Rattle.vx_desks.specs.FleetDesk.{AreAtGates, AreIdleAt}
use Rattle.vx_desks.specs.Meant.{by_way}
use Rattle.vx_desks.specs.Origins.{Origins, on}
use Rattle.vx_desks.specs.FleetServing.{IsFleetServed, IsFleetAsked, ServesCall, State, MeaningDoes, numbers}
use Rattle.vx_desks.proofs.Laws.Fours.{at-put, each-at, each-put}
use Rattle.vx_desks.proofs.Counted.{some-served}

-- the number of a bus's pass
at-numbers : (b : ℕ) (f : Four (PassView Group)) → (at b f).number ≡ at b (numbers f)
at-numbers zero f = refl
at-numbers (suc zero) f = refl
at-numbers (suc (suc zero)) f = refl
at-numbers (suc (suc (suc n))) f = refl

-- ---- what is held

-- passes in their place are of the gates that they are at
pub held-at : {C : Type 0} (gates : Four GateId) (s : State C) (passes : Four (PassView Group)) → s.passes ≡ Some passes → AreAtGates gates s → Each IsOf passes gates
held-at gates s passes had free = subst (λ p. Each IsOf p gates) (same_Some free.passes passes (sym free.has ∙ had)) free.of

-- and have the connections that are idle
pub held-idle : {C : Type 0} (gates : Four GateId) (r : Role) (s : State C) (passes : Four (PassView Group)) → s.passes ≡ Some passes → AreIdleAt gates r s → FleetHolds passes gates s.conns r
held-idle gates r s passes had idle = subst (λ p. FleetHolds p gates s.conns r) (same_Some idle.passes passes (sym idle.has ∙ had)) idle.holds

-- of what is held, the connection of a bus is idle
pub idle-at : (b : ℕ) (passes : Four (PassView Group)) (gates : Four GateId) (conns : Four ℕ) (r : Role) → FleetHolds passes gates conns r → phase_at (at b passes) (at b conns) ≡ Idle r
idle-at b passes gates conns r holds = each-at (λ pass conn. phase_at pass conn ≡ Idle r) b passes conns holds.idle

-- it is held still where one bus's pass went on and its connection is idle again
pub holds-on : (clocked : List Placed → Type 0) (told b : ℕ) (P : List Placed → Type 0) (passes passes' : Four (PassView Group)) (gates : Four GateId) (conns : Four ℕ) (r : Role) → FleetHolds passes gates conns r
    → OnBus clocked told passes b P passes' → phase_at (at b passes') (at b conns) ≡ Idle r → FleetHolds passes' gates conns r
holds-on clocked told b P passes passes' gates conns r holds went phase =
    let own = went.own in
    let here : at b passes' ≡ own = ap (at b) went.is ∙ at-put b own passes in
    record {
      of = subst (λ p. Each IsOf p gates) (sym went.is) (each-put IsOf b own passes gates holds.of (went.makes.gate ∙ each-at IsOf b passes gates holds.of));
      idle = subst (λ p. AreIdle p conns r) (sym went.is)
          (each-put (λ pass conn. phase_at pass conn ≡ Idle r) b own passes conns holds.idle (subst (λ p. phase_at p (at b conns) ≡ Idle r) here phase));
    }

module _ {B : Type 0} (count : Count) (g : Origins B) (told : ℕ) (passes : Four (PassView Group)) (conns : Four ℕ) where
  -- ---- a call

  -- a call that is refused is answered without a bus
  pub refused-served : (xid : ℕ) (asked : Call) (answer : Reply) (out : List ℕ) → Refused answer ≡ route_of count asked → out ≡ success_record xid answer
      → (clocked : List Placed → Type 0) → clocked [] → ServesCall count g clocked told passes conns (by_way xid (route_of count asked)) out passes
  refused-served xid asked answer out way out_is clocked none = record {
    bus = 0;
    within = some-served count;
    placed = [];
    own = passes.zero_;
    is = refl;
    makes = makes-none told passes.zero_;
    asks = none;
    served = subst (λ (w : Way). IsFleetServed g (numbers passes) conns (by_way xid w) 0 [] out) way (refl, out_is);
  }

  -- any other is answered by its bus
  pub asked-served : (clocked : List Placed → Type 0) (xid : ℕ) (asked there : Call) (bus : ℕ) (out : List ℕ) (passes' : Four (PassView Group)) → Goes bus there ≡ route_of count asked → bus < count_number count
      → OnBus clocked told passes bus (λ placed. IsFleetAsked (on bus g) (at bus passes).number (at bus conns) xid there bus placed out) passes'
      → ServesCall count g clocked told passes conns (by_way xid (route_of count asked)) out passes'
  asked-served clocked xid asked there bus out passes' way within went = record {
    bus = bus;
    within = within;
    placed = went.placed;
    own = went.own;
    is = went.is;
    makes = went.makes;
    asks = went.asks;
    served = subst (λ (w : Way). IsFleetServed g (numbers passes) conns (by_way xid w) bus went.placed out) way
        (refl, subst (λ n. IsFleetAsked (on bus g) n (at bus conns) xid there bus went.placed out) (at-numbers bus passes) went.holding);
  }

-- ---- a message

module _ {B C : Type 0} (g : Origins B) (tells : C → ℕ → C → Type 0) where
  -- a message that says what is answered without a bus
  pub answered-does : (s : State C) (passes : Four (PassView Group)) → s.passes ≡ Some passes → (text out : List ℕ) → out ≡ record_of text → MeaningDoes g tells s (one.Answered text) (Some out) s
  answered-does s passes had text out is = record {
    count = refl;
    role = refl;
    conns = refl;
    later = omega arith;
    has = record {
      passes = passes;
      bus = 0;
      within = some-served s.count;
      placed = [];
      own = passes.zero_;
      had = had;
      has = had;
      makes = makes-none s.told passes.zero_;
      asks = clockedas-none tells s.role s.clock s.clock refl;
      served = (refl, is);
    };
  }

  -- any other, of connections with these numbers, whose passes were in their place and are again
  module _ (s s' : State C) (passes passes' : Four (PassView Group)) (count_is : s'.count ≡ s.count) (role_is : s'.role ≡ s.role) (conns_are : s'.conns ≡ s.conns) (later : s.told ≤ s'.told) (had : s.passes ≡ Some passes) (has : s'.passes ≡ Some passes') where
    -- a call
    pub asks-does : s.role ≡ role.Core → (xid : ℕ) (asked : Call) (out : List ℕ) → ServesCall s.count g (Clocked tells s.clock s'.clock) s'.told passes s.conns (by_way xid (route_of s.count asked)) out passes'
        → MeaningDoes g tells s (one.Asks xid asked) (Some out) s'
    asks-does of_role xid asked out serves = record {
      count = count_is;
      role = role_is;
      conns = conns_are;
      later = later;
      has = record {
        passes = passes;
        bus = serves.bus;
        within = serves.within;
        placed = serves.placed;
        own = serves.own;
        had = had;
        has = has ∙ ap Some serves.is;
        makes = serves.makes;
        asks = subst (λ r. ClockedAs r tells s.clock s'.clock serves.placed) (sym of_role) serves.asks;
        served = serves.served;
      };
    }

    -- a device_abort
    pub aborts-does : s.role ≡ role.Abort → s'.clock ≡ s.clock → (xid lid bus link : ℕ) (out : List ℕ) → (bus, link) ≡ fleet_place_of s.count lid → bus < count_number s.count
        → OnBus unclocked 0 passes bus (λ placed. IsAborted (at bus s.conns) xid link placed [] out) passes' → MeaningDoes g tells s (one.Aborts xid lid) (Some out) s'
    aborts-does of_role same xid lid bus link out place within went = record {
      count = count_is;
      role = role_is;
      conns = conns_are;
      later = later;
      has = record {
        passes = passes;
        bus = bus;
        within = within;
        placed = went.placed;
        own = went.own;
        had = had;
        has = has ∙ ap Some went.is;
        makes = makes-later 0 s'.told (at bus passes) went.own went.placed (omega arith) went.makes;
        asks = subst (λ r. ClockedAs r tells s.clock s'.clock went.placed) (sym of_role) same;
        served = (ap (λ (p : ℕ × ℕ). p.0) place, subst (λ n. IsAborted (at bus s.conns) xid n went.placed [] out) (ap (λ (p : ℕ × ℕ). p.1) place) went.holding);
      };
    }
