-- A link as it is made.
use Rattle.std.proofs.Common.{◌≡◌, ℕ, Bool, true, false, cond, List, [], ◌∷◌, Some, None, Result, Ok, Err, refl, sym, ap, ◌∙◌, subst, arith}
use Rattle.std.specs.Prelude.{OnOk, OnErr, IfOk, is_err, nat_le}
use Rattle.std.proofs.lemmas.Bool.{false≢true, true≢false}
use Rattle.std.proofs.lemmas.Option.{none-some}
use Rattle.vx_calls.specs.declared.calls.Role.TheVariants as role
use Rattle.vx_calls.specs.declared.limits.TheConstants.{RECORD_MAX}
use Rattle.vx_record.specs.Buffer.{BufState, fresh}
use Rattle.vx_488.specs.Steps.{Cut}
use Rattle.vx_sim.specs.SimState.{SimState}
use Rattle.vx_rules.specs.SrqState as srq_state
use Rattle.vx_rules.specs.Lists.{along}
use Rattle.vx_rules.specs.State.{State, pending_at}
use Rattle.vx_flow.specs.Event.{Up, Sample}
use Rattle.vx_flow.specs.InterleavedState.{InterleavedState, first_interleaved}
use Rattle.vx_flow.specs.InterleavedStep.{interleaved_step, interleaved_after}
use Rattle.std.specs.Option.{option_map}
use Rattle.std.proofs.lemmas.Bool.Decides.{nat_tests}
use Rattle.vx_flow.specs.Laws.{interleaved_along}
use Rattle.vx_flow.specs.Does.{ComesUp}
use Rattle.vx_flow.proofs.Laws.{interleaved-does}
use Rattle.vx_core.specs.CoreState.{CoreState}
use Rattle.vx_loop.specs.Gateway.{gateway_of, BusGoes}
use Rattle.vx_loop.specs.LoopState.{unconnected, IsUnconnected, OnlyComesUp, IsBeginning}
use Rattle.vx_loop.specs.Standing.{IsReached, IsLoopKept}

-- what holds of a failed result, and of one that didn't fail
pub on-err : {A E : Type 0} (r : Result A E) (P : Type 0) → is_err r ≡ true → OnErr r P → P
on-err (Ok a) P h p = absurd (false≢true h)
on-err (Err e) P h p = p

pub on-ok : {A E : Type 0} (r : Result A E) (P : Type 0) → is_err r ≡ false → OnOk r P → P
on-ok (Ok a) P h p = p
on-ok (Err e) P h p = absurd (true≢false h)

pub if-ok : {A E : Type 0} (r : Result A E) (P : A → Type 0) → is_err r ≡ false → IfOk r P → (a : A) × P a
if-ok (Ok a) P h p = (a, p)
if-ok (Err e) P h p = absurd (true≢false h)

-- the gateway before is one that was sampled, once
abbrev sampled_state : ℕ → Bool → ℕ → State
sampled_state port level moment =
    let s = (first_interleaved port).state in record s { tables = record s.tables { srq_state = srq_state.sampled s.tables.srq_state level }; moment = moment }

abbrev Samples : ℕ → Bool → ℕ → Bool → Type 0
Samples port level moment b =
    option_map (interleaved_after (first_interleaved port) (Sample moment level) []) (cond b (Some (sampled_state port level moment)) None) ≡ Some (unconnected port level moment)

sampled-first : (port : ℕ) (level : Bool) (moment : ℕ) → interleaved_along port (Sample moment level ∷ []) ≡ Some (unconnected port level moment)
sampled-first port true moment = let early : nat_le 0 moment ≡ true = grind (arith, nat_tests) in subst (Samples port true moment) (sym early) refl
sampled-first port false moment = let early : nat_le 0 moment ≡ true = grind (arith, nat_tests) in subst (Samples port false moment) (sym early) refl

-- a connection that comes up on it
module _ (old core : CoreState SimState) (conn : ℕ) (alone : IsUnconnected old.interleaved) (up : interleaved_step old.interleaved (Up conn role.Core) ≡ Some core.interleaved) where
  abbrev start_interleaved : InterleavedState
  start_interleaved = unconnected old.interleaved.state.tables.abort_port old.interleaved.state.tables.srq_state.level old.interleaved.state.moment

  -- what comes up on the gateway comes up on that state
  from-start : (n : ℕ) → interleaved_step old.interleaved (Up n role.Core) ≡ Some core.interleaved → interleaved_step start_interleaved (Up n role.Core) ≡ Some core.interleaved
  from-start n h = subst (λ (x : InterleavedState). interleaved_step x (Up n role.Core) ≡ Some core.interleaved) alone h

  comes-up : ComesUp start_interleaved conn role.Core core.interleaved
  comes-up = (interleaved-does start_interleaved core.interleaved (Up conn role.Core) (from-start conn up)).step

  -- has number 1
  up-interleaved : interleaved_step old.interleaved (Up 1 role.Core) ≡ Some core.interleaved
  up-interleaved = subst (λ n. interleaved_step old.interleaved (Up n role.Core) ≡ Some core.interleaved) comes-up.number up

  up-turn : core.interleaved.turn ≡ None
  up-turn = ap (λ (f : InterleavedState). f.turn) comes-up.leads

  up-reached : IsReached core.interleaved
  up-reached = record {
    abort_port = old.interleaved.state.tables.abort_port;
    history = Sample old.interleaved.state.moment old.interleaved.state.tables.srq_state.level ∷ Up 1 role.Core ∷ [];
    last = core.interleaved;
    allowed =
        ap (λ o. along interleaved_step o (Up 1 role.Core ∷ [])) (sampled-first old.interleaved.state.tables.abort_port old.interleaved.state.tables.srq_state.level old.interleaved.state.moment)
        ∙ from-start 1 up-interleaved;
    late = omega arith;
    at_now = refl;
  }

  -- nothing but connection 1 has come
  pub new-up : BusGoes old.bus (Cut ∷ []) core.bus → OnlyComesUp (gateway_of old) (gateway_of core)
  new-up bus = record { events = up-interleaved; bus = bus }

  -- the link is kept as it is made, and has just begun
  module _ (buffer : BufState) (xid : ℕ) (left : List ℕ) (fresh_is : buffer ≡ fresh RECORD_MAX) where
    pub new-kept : IsLoopKept (record { core = core; buffer = buffer; xid = xid; left = left })
    new-kept = record {
      limit = ap (λ (b : BufState). b.limit) fresh_is;
      waits = ap (λ (b : BufState). b.state) fresh_is;
      reached = up-reached;
      own = λ u is. absurd (none-some u (sym up-turn ∙ is));
      calm = λ none. up-turn;
    }

    pub new-begins : BusGoes old.bus (Cut ∷ []) core.bus → left ≡ [] → IsBeginning (record { core = core; buffer = buffer; xid = xid; left = left })
    new-begins bus none = record {
      idle = record { answered = ap (λ (f : InterleavedState). pending_at f.state.tables 1) comes-up.leads; fresh_is = fresh_is; given = none };
      before = gateway_of old;
      alone = alone;
      up = new-up bus;
    }
