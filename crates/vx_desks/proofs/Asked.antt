-- A call, or a device_abort, at the one of four buses that it goes to: its pass is brought to the first place, and back.
use Rattle.std.proofs.Common.{◌≡◌, ◌≤◌, ℕ, List, [], ◌∷◌, take, refl, sym, ap, ◌∙◌, subst, slice_index}
use Rattle.vx_calls.specs.declared.calls.Role.{Role}
use Rattle.vx_calls.specs.Call.{Call}
use Rattle.vx_488.specs.declared.bus.Bus.{Ghosts}
use Rattle.vx_exchange.specs.declared.polls.Aborted.{Aborted}
use Rattle.vx_core.specs.CoreState.{CoreState}
use Rattle.vx_gate.specs.PassView.{PassView, GateId}
use Rattle.vx_desks.specs.Four.{Four, at, put, swapped, Each}
use Rattle.vx_desks.specs.Passing.{IsOf}
use Rattle.vx_group.specs.Event.{Abort}
use Rattle.vx_group.specs.Groups.{Group}
use Rattle.vx_group.specs.Phases.{Idle}
use Rattle.vx_session.specs.Origin.{Origin, origin}
use Rattle.vx_session.specs.Dialing.{DialShown}
use Rattle.vx_session.specs.Placing.{Placed, Makes}
use Rattle.vx_session.specs.Progress.{AnswersCall, unclocked}
use Rattle.vx_session.specs.Serving.{IsCalled, IsAborted}
use Rattle.vx_session.specs.Turning as turning
use Rattle.vx_session.specs.Turning.{phase_at}
use Rattle.vx_desks.specs.Asking.{OnBus}
use Rattle.vx_desks.specs.Holding.{four_of}
use Rattle.vx_desks.specs.Origins.{origins, on}
use Rattle.vx_desks.specs.FleetServing.{IsFleetAsked, outward}
use Rattle.vx_desks.proofs.Laws.Fours.{brought, put-back, at-put, each-at, each-number}

-- the connection of a bus
pub conn-at : (conns : List ℕ) (b : ℕ) → b ≤ 3 → slice_index conns b ≡ at b (four_of conns)
conn-at conns = each-number (λ b. slice_index conns b ≡ at b (four_of conns)) refl refl refl refl

-- the pass that was brought to the first place is of the bus's gate
pub first-gate : (passes : Four (PassView Group)) (bus : ℕ) (first : Four (PassView Group)) (gates : Four GateId) (gate : GateId) → first ≡ swapped bus passes → gate ≡ at bus gates → Each IsOf passes gates → first.zero_.gate ≡ gate
first-gate passes bus first gates gate first_is is each = ap (λ (p : PassView Group). p.gate) (brought bus passes first first_is) ∙ each-at IsOf bus passes gates each ∙ sym is

-- and has the bus's connection idle
pub first-idle : (passes : Four (PassView Group)) (bus : ℕ) (first : Four (PassView Group)) (conns : Four ℕ) (conn : ℕ) (r : Role) → first ≡ swapped bus passes → conn ≡ at bus conns → phase_at (at bus passes) (at bus conns) ≡ Idle r → phase_at first.zero_ conn ≡ Idle r
first-idle passes bus first conns conn r first_is is idle =
    subst (λ (p : PassView Group). phase_at p conn ≡ Idle r) (sym (brought bus passes first first_is)) (subst (λ n. phase_at (at bus passes) n ≡ Idle r) (sym is) idle)

module _ (passes : Four (PassView Group)) (bus : ℕ) (first : Four (PassView Group)) (first_is : first ≡ swapped bus passes) (own : PassView Group) (last : Four (PassView Group))
    (last_is : last ≡ swapped bus (record { zero_ = own; one = first.one; two = first.two; three = first.three })) where
  -- the pass that was brought there is the bus's
  own-first : first.zero_ ≡ at bus passes
  own-first = brought bus passes first first_is

  -- it went on, and the other three stay as they were
  one-went : last ≡ put bus own passes
  one-went = put-back bus passes first last own first_is last_is

  -- its connection is idle where it was so in its first place
  pub last-idle : (conns : Four ℕ) (conn : ℕ) (r : Role) → conn ≡ at bus conns → phase_at own conn ≡ Idle r → phase_at (at bus last) (at bus conns) ≡ Idle r
  last-idle conns conn r is idle =
      subst (λ (p : PassView Group). phase_at p (at bus conns) ≡ Idle r) (sym (ap (at bus) one-went ∙ at-put bus own passes)) (subst (λ n. phase_at own n ≡ Idle r) is idle)

  -- a call was answered there, and told
  pub asked-on-bus : {B : Type 0} (g : Ghosts B) (firsts : Four (CoreState B)) (core : CoreState B) (clocked : List Placed → Type 0) (told : ℕ) (conns : Four ℕ) (conn xid : ℕ) (asked : Call) (dial dial' : DialShown) (given out : List ℕ) → core ≡ at bus firsts → conn ≡ at bus conns
      → AnswersCall (origin g core) clocked told first.zero_ conn xid asked dial given own dial' → out ≡ outward asked bus given
      → OnBus clocked told passes bus (λ placed. IsFleetAsked (on bus (origins g firsts)) (at bus passes).number (at bus conns) xid asked bus placed out) last
  asked-on-bus g firsts core clocked told conns conn xid asked dial dial' given out core_is conn_is answers out_is = record {
    own = own;
    is = one-went;
    placed = answers.placed;
    makes = subst (λ p. Makes told p answers.placed own) own-first answers.makes;
    asks = answers.asks;
    holding = record {
      calls = answers.rung;
      given = given;
      called = subst (λ (c : CoreState _). IsCalled (origin g c) (at bus passes).number (at bus conns) xid asked answers.placed answers.rung given) core_is
          (subst (λ (p : PassView Group). IsCalled (origin g core) p.number (at bus conns) xid asked answers.placed answers.rung given) own-first
          (subst (λ n. IsCalled (origin g core) first.zero_.number n xid asked answers.placed answers.rung given) conn_is answers.holding));
      out_is = out_is;
    };
  }

  -- a device_abort was told there
  pub aborted-on-bus : {B : Type 0} (g : Origin B) (conns : Four ℕ) (conn xid lid : ℕ) (room : List ℕ) (aborted : Aborted) → conn ≡ at bus conns → turning.SessionAborts g first.zero_ conn lid xid room aborted own
      → OnBus unclocked 0 passes bus (λ placed. IsAborted (at bus conns) xid lid placed [] (take aborted.len room)) last
  aborted-on-bus g conns conn xid lid room aborted conn_is aborts = record {
    own = own;
    is = one-went;
    placed = aborts.placed ∷ [];
    makes = subst (λ p. Makes 0 p (aborts.placed ∷ []) own) own-first aborts.turns.makes;
    asks = tt;
    holding = record {
      group = aborts.placed;
      error = aborted.error;
      groups = refl;
      events = subst (λ n. aborts.placed.group.events ≡ Abort n lid aborted.error ∷ []) conn_is aborts.events;
      steps = aborts.steps;
      rung = refl;
      reply_is = aborts.stands.record_is;
    };
  }
