-- What a turn made: one group, behind the history that it found, at moments that were told.
use Rattle.std.proofs.Common.{◌≡◌, ◌≤◌, ◌<◌, ◌⊎◌, inl, inr, ℕ, max, List, [], ◌∷◌, ◌++◌, Some, refl, sym, ap, ◌∙◌, subst, arith}
use Rattle.std.specs.List.{All}
use Rattle.std.proofs.lemmas.Bool.{cases_lt}
use Rattle.std.proofs.lemmas.List.Elements.{All-nil, All-cons, All-weaker}
use Rattle.vx_gate.specs.declared.views.Logged.{Logged}
use Rattle.vx_gate.specs.History.{made, groups}
use Rattle.vx_gate.specs.PassView.{PassView}
use Rattle.vx_gate.specs.Turning.{Turned}
use Rattle.vx_flow.specs.Event.{Event}
use Rattle.vx_flow.specs.InterleavedState.{InterleavedState}
use Rattle.vx_488.specs.Steps.{Step}
use Rattle.vx_core.specs.CoreState.{CoreState}
use Rattle.vx_core.specs.Standing.{Became}
use Rattle.vx_group.specs.Groups.{Group, last_moment, now_of, StandsFor}
use Rattle.vx_group.specs.Owning.{MayAdd}
use Rattle.vx_group.specs.Laws.{group_after}
use Rattle.vx_session.specs.Origin.{Origin}
use Rattle.vx_session.specs.Placing.{Placed, IsSessionTold, IsTimely}
use Rattle.vx_session.specs.Turning.{Turns}
use Rattle.vx_session.specs.Parts.{IsAt, moment_at}

-- ---- moments

-- the greater of a moment that is kept and one that is told is one of the two
max-told : (kept told : ℕ) → IsSessionTold kept told (max kept told)
max-told kept told = by (cases_lt kept told) where
  by : (kept < told) ⊎ (told ≤ kept) → IsSessionTold kept told (max kept told)
  by (inl lt) = inr (omega arith)
  by (inr ge) = inl (omega arith)

-- a group of events at a moment that is one of the two, after which the gateway is at that moment
timely : (told now : ℕ) (log : List (Logged Group)) (f g : InterleavedState) (events : List Event) (steps : List Step) → StandsFor f (groups log) → All (IsAt now) events
    → g.state.moment ≡ now → IsSessionTold f.state.moment told now → IsTimely told (record { before = log; group = group_after f events steps g.state.moment })
timely told now log f g events steps stands at now_is is_told =
    let kept = last_moment (groups log) in
    let here : IsSessionTold kept told now = subst (λ k. IsSessionTold k told now) stands.moment is_told in
    record {
      moment = subst (IsSessionTold kept told) (sym now_is) here;
      events = All-weaker (IsAt now) (λ e. (n : ℕ) → now_of e ≡ Some n → IsSessionTold kept told n) (λ e at_now n is. subst (IsSessionTold kept told) (sym (at_now n is)) here)
          events at;
    }

-- the greater of the moment of a state that stands for the history, and of a told one, is the turn's
pub now-is : (told : ℕ) (log : List (Logged Group)) (f : InterleavedState) (group : Group) → StandsFor f (groups log)
    → max f.state.moment told ≡ moment_at (record { before = log; group = group }) told
now-is told log f group stands = ap (λ m. max m told) stands.moment

-- one at the greater of the two
pub timely-now : (told : ℕ) (log : List (Logged Group)) (f g : InterleavedState) (events : List Event) (steps : List Step) → StandsFor f (groups log) → All (IsAt (max f.state.moment told)) events
    → g.state.moment ≡ max f.state.moment told → IsTimely told (record { before = log; group = group_after f events steps g.state.moment })
timely-now told log f g events steps stands at now_is = timely told (max f.state.moment told) log f g events steps stands at now_is (max-told f.state.moment told)

-- and one that leaves the moment that is kept
pub timely-still : (log : List (Logged Group)) (f g : InterleavedState) (events : List Event) (steps : List Step) → StandsFor f (groups log) → All (IsAt f.state.moment) events
    → g.state.moment ≡ f.state.moment → IsTimely 0 (record { before = log; group = group_after f events steps g.state.moment })
timely-still log f g events steps stands at same = timely 0 f.state.moment log f g events steps stands at same (inl refl)

-- ---- the turn

module _ {B A R : Type 0} {does : A → CoreState B → R → A → CoreState B → Type 0} {adds : A → CoreState B → R → A → CoreState B → Group} where
  -- A turn that took an act so added the act's group, behind the history that it found.
  pub turns : (g : Origin B) (told : ℕ) {pass : PassView Group} {act : A} {answer : R} {act' : A} {pass' : PassView Group}
      → (t : Turned (Became g.bus.means g.bus.through g.first) MayAdd does adds pass act answer act' pass')
      → IsTimely told (record { before = t.log; group = adds act t.before answer act' t.after })
      → Turns g told pass (record { before = t.log; group = adds act t.before answer act' t.after }) pass'
  turns g told {pass = pass} {act = act} {answer = answer} {act' = act'} t timely_is =
      let p : Placed = record { before = t.log; group = adds act t.before answer act' t.after } in
      record {
        makes = record {
          gate = t.gate;
          number = t.number;
          parts = t.parts;
          chain = (t.fits.begins, t.fits.mine ∙ sym t.fits.within, t.seen);
          own = t.own;
          timely = All-cons (IsTimely told) p [] timely_is (All-nil (IsTimely told));
          alone = λ all. t.seen ∙ ap (λ l. l ++ made pass.number p.group ∷ []) (t.alone all);
        };
        history = record { core = t.after; became = t.stands_now; lawful = t.lawful };
      }
