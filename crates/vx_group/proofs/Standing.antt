-- What a state stands for: one group more, and the claims.
use Rattle.std.proofs.Common.{◌≡◌, ◌≤◌, ℕ, List, [], ◌∷◌, ◌++◌, Some, refl, sym, ap, ◌∙◌, subst, arith}
use Rattle.std.specs.List.{All}
use Rattle.std.proofs.lemmas.List.Elements.{All-push, All-weaker}
use Rattle.vx_rules.specs.Lists.{along}
use Rattle.vx_rules.proofs.Laws.Lists.{along-append}
use Rattle.vx_flow.specs.InterleavedState.{InterleavedState, first_interleaved}
use Rattle.vx_flow.specs.InterleavedStep.{interleaved_step}
use Rattle.vx_flow.specs.Poll.{at_moment}
use Rattle.vx_flow.specs.Sound.{IsSound}
use Rattle.vx_flow.specs.Laws.{interleaved_along}
use Rattle.vx_flow.proofs.Laws.{interleaved-linearizes, later-sound, earlier_law-holds, claims_law-holds}
use Rattle.vx_group.specs.Groups.{Group, events_of, moment_behind, IsBy, MomentsRise}
use Rattle.vx_group.specs.Laws.{group_after, StandsOnLaw, ClaimsOfGroupsLaw, SoundLaw}
use Rattle.vx_group.proofs.Laws.{events-more}
use Rattle.vx_group.proofs.Laws.Onward.{along-onward}

-- one group more keeps its moment
moment-more : (log : List Group) (from : ℕ) (x : Group) → moment_behind from (log ++ x ∷ []) ≡ x.moment
moment-more [] from x = refl
moment-more (g ∷ log) from x = moment-more log g.moment x

-- and the moments rise with it, where it is no earlier
rise-more : (log : List Group) (from : ℕ) (x : Group) → MomentsRise from log → moment_behind from log ≤ x.moment → All (IsBy x.moment) x.events
    → MomentsRise from (log ++ x ∷ [])
rise-more [] from x rise late all = (late, all, tt)
rise-more (g ∷ log) from x rise late all = (rise.0, rise.1, rise-more log g.moment x rise.2 late all)

-- the events of a history and more behind them
allowed-more : (port : ℕ) (log : List Group) (x : Group) (last g : InterleavedState) → interleaved_along port (events_of log) ≡ Some last → along interleaved_step (Some last) x.events ≡ Some g
    → interleaved_along port (events_of (log ++ x ∷ [])) ≡ Some g
allowed-more port log x last g before behind =
    ap (interleaved_along port) (events-more log x)
    ∙ along-append interleaved_step (Some (first_interleaved port)) (events_of log) x.events
    ∙ ap (λ o. along interleaved_step o x.events) before
    ∙ behind

-- a state goes on to stand for one group more
pub stands_on-holds : StandsOnLaw
stands_on-holds f g log events steps moment stands goes late =
    let x = group_after f events steps moment in
    let port = f.state.tables.abort_port in
    let on = along-onward events f g goes in
    let from_last : along interleaved_step (Some (at_moment stands.last f.state.moment)) events ≡ Some g = ap (λ s. along interleaved_step (Some s) events) (sym stands.same) ∙ goes in
    let led = earlier_law-holds stands.last g f.state.moment events (interleaved-linearizes port (events_of log) stands.last stands.allowed).sound stands.later from_last in
    record {
      last = at_moment g led.0;
      allowed = subst (λ p. interleaved_along p (events_of (log ++ x ∷ [])) ≡ Some (at_moment g led.0)) (sym on.port)
          (allowed-more port log x stands.last (at_moment g led.0) stands.allowed led.1);
      same = refl;
      later = omega (arith, led.2, late);
      moment = sym (moment-more log 0 x);
      slots = All-push (λ (y : Group). y.abort_port ≡ g.state.tables.abort_port) log x
          (All-weaker (λ (y : Group). y.abort_port ≡ port) (λ (y : Group). y.abort_port ≡ g.state.tables.abort_port) (λ y h. h ∙ sym on.port) log stands.slots)
          (sym on.port);
      rise = rise-more log 0 x stands.rise (omega (arith, stands.moment, on.moment, late))
          (All-weaker (IsBy g.state.moment) (IsBy moment) (λ e h now is. let le = h now is in omega (arith, le, late)) events on.now_by);
    }

-- ---- the claims

-- all claims hold of the events of a history
pub claims-holds : ClaimsOfGroupsLaw
claims-holds log f stands = claims_law-holds f.state.tables.abort_port (events_of log) stands.last stands.allowed

-- and of its state what holds between events
pub sound-holds : SoundLaw
sound-holds log f stands =
    subst IsSound (sym stands.same)
    (later-sound stands.last f.state.moment (interleaved-linearizes f.state.tables.abort_port (events_of log) stands.last stands.allowed).sound stands.later)
