-- Events lead on: the moment never falls and isn't before theirs, the port of the abort channel stays, and no number of a
-- connection comes again.
use Rattle.std.proofs.Common.{◌≡◌, ◌≤◌, ℕ, List, [], ◌∷◌, Option, Some, None, refl, sym, ◌∙◌, subst, arith}
use Rattle.std.specs.List.{All}
use Rattle.std.proofs.lemmas.Option.{none-some, same_Some}
use Rattle.std.proofs.lemmas.List.Elements.{All-nil, All-cons}
use Rattle.vx_rules.specs.Lists.{along}
use Rattle.vx_rules.proofs.Laws.Lists.{along-none}
use Rattle.vx_flow.specs.Event.{Event, Arrive, Answer, Sample, Begin, Dial}
use Rattle.vx_flow.specs.InterleavedState.{InterleavedState}
use Rattle.vx_flow.specs.InterleavedStep.{interleaved_step}
use Rattle.vx_flow.specs.Frames.{moment_after}
use Rattle.vx_flow.proofs.Laws.{interleaved-frame}
use Rattle.vx_group.specs.Groups.{now_of, IsBy}

-- an event leads on
pub record Onward (f : InterleavedState) (e : Event) (g : InterleavedState) : Type 0 where
  pub moment : f.state.moment ≤ g.state.moment
  pub now_by : IsBy g.state.moment e
  pub port : g.state.tables.abort_port ≡ f.state.tables.abort_port
  pub next : f.state.tables.next_connection ≤ g.state.tables.next_connection

-- the moment behind an event that has one is the event's
told-moment : (e : Event) (before now : ℕ) → now_of e ≡ Some now → moment_after before e ≡ now
told-moment (Arrive conn asked told) before now h = same_Some told now h
told-moment (Answer conn told failed dialed level reply) before now h = same_Some told now h
told-moment (Sample told srq) before now h = same_Some told now h
told-moment (Begin conn told) before now h = same_Some told now h
told-moment (Dial conn told) before now h = same_Some told now h
told-moment _ before now h = absurd (none-some now h)

-- each event that is allowed leads on
pub interleaved-onward : (e : Event) (f g : InterleavedState) → interleaved_step f e ≡ Some g → Onward f e g
interleaved-onward e f g h =
    let frame = interleaved-frame f g e h in
    record {
      moment = frame.late;
      now_by = λ now is. let at = told-moment e f.state.moment now is in omega (arith, frame.moment_is, at);
      port = frame.port;
      next = frame.connection_numbers;
    }

-- and a list of them
pub record AllOnward (f : InterleavedState) (es : List Event) (g : InterleavedState) : Type 0 where
  pub moment : f.state.moment ≤ g.state.moment
  pub now_by : All (IsBy g.state.moment) es
  pub port : g.state.tables.abort_port ≡ f.state.tables.abort_port

-- without an event the state is the same
none-onward : (f : InterleavedState) → AllOnward f [] f
none-onward f = record { moment = omega arith; now_by = All-nil (IsBy f.state.moment); port = refl }

-- one event, and those behind it
more-onward : (f mid g : InterleavedState) (e : Event) (es : List Event) → Onward f e mid → AllOnward mid es g → AllOnward f (e ∷ es) g
more-onward f mid g e es one rest = record {
  moment = omega (arith, one.moment, rest.moment);
  now_by = All-cons (IsBy g.state.moment) e es (λ now is. let le = one.now_by now is in omega (arith, le, rest.moment)) rest.now_by;
  port = rest.port ∙ one.port;
}

-- events that are allowed lead on
pub along-onward : (es : List Event) (f g : InterleavedState) → along interleaved_step (Some f) es ≡ Some g → AllOnward f es g
along-onward [] f g h = subst (AllOnward f []) (same_Some f g h) (none-onward f)
along-onward (e ∷ es) f g h = by (interleaved_step f e) refl h (along-onward es) where
  by : (o : Option InterleavedState) → interleaved_step f e ≡ o → along interleaved_step o es ≡ Some g → ((f g : InterleavedState) → along interleaved_step (Some f) es ≡ Some g → AllOnward f es g)
      → AllOnward f (e ∷ es) g
  by None is h rest = absurd (none-some g (sym (along-none interleaved_step es) ∙ h))
  by (Some mid) is h rest = more-onward f mid g e es (interleaved-onward e f mid is) (rest mid g h)
