-- The moments of events, and of the state behind them.
use Rattle.std.proofs.Common.{◌≡◌, ◌≤◌, ℕ, List, [], ◌∷◌, Option, Some, None, refl, sym, ap, ◌∙◌, arith}
use Rattle.std.specs.Prelude.{unwrap_or}
use Rattle.std.specs.List.{All}
use Rattle.std.proofs.lemmas.Option.{none-some, same_Some}
use Rattle.std.proofs.lemmas.List.Elements.{All-nil, All-cons, All-head, All-tail}
use Rattle.vx_calls.specs.Call.{Call}
use Rattle.vx_488.specs.declared.transfers.Transfer.{Transfer}
use Rattle.vx_rules.specs.Lists.{along}
use Rattle.vx_rules.proofs.Laws.Lists.{along-none}
use Rattle.vx_flow.specs.Event.{Event, Up, Arrive}
use Rattle.vx_flow.specs.InterleavedState.{InterleavedState}
use Rattle.vx_flow.specs.InterleavedStep.{interleaved_step}
use Rattle.vx_flow.specs.Poll.{Ending}
use Rattle.vx_flow.specs.Frames as frames
use Rattle.vx_flow.proofs.Laws.{interleaved-frame}
use Rattle.vx_group.specs.Groups.{now_of}
use Rattle.vx_session.specs.Acting.{poll_events}
use Rattle.vx_session.specs.Parts.{IsAt}
use Rattle.vx_session.proofs.Laws.{has-moment, has-none, poll-at}

-- ---- behind one event, and behind a list of them

-- the moment behind an event: the event's, where it has one
abbrev moment_after : ℕ → Event → ℕ
moment_after before e = unwrap_or (now_of e) before

-- each event leaves it so
moment-told : (before : ℕ) (e : Event) → frames.moment_after before e ≡ moment_after before e
moment-told before (Up conn r) = refl
moment-told before _ = refl

-- so does each event that is allowed
pub interleaved-moment : (e : Event) (f g : InterleavedState) → interleaved_step f e ≡ Some g → g.state.moment ≡ moment_after f.state.moment e
interleaved-moment e f g h = (interleaved-frame f g e h).moment_is ∙ moment-told f.state.moment e

-- from no later than a moment such an event leads no later
at-most : (e : Event) (f g : InterleavedState) (moment : ℕ) → interleaved_step f e ≡ Some g → f.state.moment ≤ moment → IsAt moment e → g.state.moment ≤ moment
at-most e f g moment h le at = by (now_of e) at (interleaved-moment e f g h) where
  by : (o : Option ℕ) → ((now : ℕ) → o ≡ Some now → now ≡ moment) → g.state.moment ≡ unwrap_or o f.state.moment → g.state.moment ≤ moment
  by None at is = omega arith
  by (Some now) at is = let same = at now refl in omega arith

-- and so does a list of them
pub along-most : (es : List Event) (f g : InterleavedState) (moment : ℕ) → along interleaved_step (Some f) es ≡ Some g → f.state.moment ≤ moment → All (IsAt moment) es → g.state.moment ≤ moment
along-most [] f g moment h le at = let same : f ≡ g = same_Some f g h in omega (arith, ap (λ (x : InterleavedState). x.state.moment) same)
along-most (e ∷ es) f g moment h le at = by (interleaved_step f e) refl h (along-most es) where
  by : (o : Option InterleavedState) → interleaved_step f e ≡ o → along interleaved_step o es ≡ Some g
      → ((f g : InterleavedState) (moment : ℕ) → along interleaved_step (Some f) es ≡ Some g → f.state.moment ≤ moment → All (IsAt moment) es → g.state.moment ≤ moment) → g.state.moment ≤ moment
  by None is h rest = absurd (none-some g (sym (along-none interleaved_step es) ∙ h))
  by (Some mid) is h rest = rest mid g moment h (at-most e f mid moment is le (All-head (IsAt moment) e es at)) (All-tail (IsAt moment) e es at)

-- ---- one event, and a call that comes

-- one event at this moment
pub one-at : (e : Event) (moment : ℕ) → IsAt moment e → All (IsAt moment) (e ∷ [])
one-at e moment at = All-cons (IsAt moment) e [] at (All-nil (IsAt moment))

-- one event that has this moment
pub one-moment : (e : Event) (moment : ℕ) → now_of e ≡ Some moment → All (IsAt moment) (e ∷ [])
one-moment e moment is = one-at e moment (has-moment e moment is)

-- one event that has none
pub one-without : (e : Event) (moment : ℕ) → now_of e ≡ None → All (IsAt moment) (e ∷ [])
one-without e moment none = one-at e moment (has-none e moment none)

-- a call that comes and its poll, from the state behind its coming, have one moment
pub come-at : (mid : InterleavedState) (conn now : ℕ) (asked : Call) (moves : List Transfer) (ending : Ending)
    → All (IsAt now) (Arrive conn asked now ∷ poll_events mid conn now moves ending)
come-at mid conn now asked moves ending =
    All-cons (IsAt now) (Arrive conn asked now) (poll_events mid conn now moves ending) (has-moment (Arrive conn asked now) now refl)
    (poll-at mid conn now moves ending)
