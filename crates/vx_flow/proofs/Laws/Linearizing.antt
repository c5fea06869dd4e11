-- Interleaved events linearize to a history of the gateway of one thread.
use Rattle.std.proofs.Common.{◌≡◌, ◌≤◌, ℕ, true, List, [], ◌∷◌, Option, Some, None, refl, sym, ap, ◌∙◌, subst, arith}
use Rattle.std.proofs.lemmas.Option.{none-some, same_Some}
use Rattle.vx_lemmas.proofs.Laws.Conditions.{chosen}
use Rattle.vx_rules.specs.Lists.{along}
use Rattle.vx_rules.specs.State.{Pending}
use Rattle.vx_rules.specs.Checks.{named_link}
use Rattle.vx_rules.specs.Effects.{task_of}
use Rattle.vx_rules.specs.AtomicStep.{atomic_step}
use Rattle.vx_flow.specs.Event.{Event, Up, Down, Arrive, Answer, Abort, Sample, Take, Begin, Move, Dial}
use Rattle.vx_flow.specs.InterleavedState.{InterleavedState, first_interleaved, before_turn, turn_after}
use Rattle.vx_flow.specs.InterleavedStep.{comes_in_turn, any_turn_step, interleaved_step}
use Rattle.vx_flow.specs.Linearization.{linearized, linearization_from}
use Rattle.vx_flow.specs.Laws.{interleaved_along, LinearizationLaw, StaysSoundLaw, CallStaysLaw}
use Rattle.vx_flow.specs.Sound.{Stands, TurnStands, IsSound}
use Rattle.vx_rules.proofs.Laws.Lists.{along-none, along-append}
use Rattle.vx_flow.proofs.Laws.Kept.{is-open, named-stays}
use Rattle.vx_flow.proofs.Laws.Calm.{GoesOn, up, sample, take, dial, arrive, abort}
use Rattle.vx_flow.proofs.Laws.Turning.{begin, move}
use Rattle.vx_flow.proofs.Laws.Ending.{down}
use Rattle.vx_flow.proofs.Laws.Replies.{replied}
use Rattle.vx_rules.proofs.Laws.Keeping.{first-sound as empty-sound}

-- every event that is allowed leads on
step-goes : (e : Event) (f g : InterleavedState) (k : ℕ) → IsSound f → k ≤ f.state.moment → comes_in_turn f e f.turn ≡ true → any_turn_step f e ≡ Some g → GoesOn f k e g
step-goes (Up conn r) f g k sound early comes h = up f g k conn r sound early (is-open f (Up conn r) comes (λ n. refl)) h
step-goes (Down conn) f g k sound early comes h = down f g k conn sound early (is-open f (Down conn) comes (λ n. refl)) h
step-goes (Arrive conn asked now) f g k sound early comes h = arrive f g k conn asked now sound early (is-open f (Arrive conn asked now) comes (λ n. refl)) h
step-goes (Answer conn now failed dialed level told) f g k sound early comes h = replied f g k conn now failed dialed level told sound early comes h
step-goes (Abort conn lid told) f g k sound early comes h = abort f g k conn lid told sound early (is-open f (Abort conn lid told) comes (λ n. refl)) h
step-goes (Sample now srq) f g k sound early comes h = sample f g k now srq sound early (is-open f (Sample now srq) comes (λ n. refl)) h
step-goes (Take conn chan told) f g k sound early comes h = take f g k conn chan told sound early (is-open f (Take conn chan told) comes (λ n. refl)) h
step-goes (Begin conn now) f g k sound early comes h = begin f g k conn now sound early h
step-goes (Move conn moves) f g k sound early comes h = move f g k conn moves sound early (is-open f (Move conn moves) comes (λ n. refl)) h
step-goes (Dial conn now) f g k sound early comes h = dial f g k conn now sound early (is-open f (Dial conn now) comes (λ n. refl)) h

pub interleaved-goes : (e : Event) (f g : InterleavedState) (k : ℕ) → IsSound f → k ≤ f.state.moment → interleaved_step f e ≡ Some g → GoesOn f k e g
interleaved-goes e f g k sound early h =
    let parts = chosen (comes_in_turn f e f.turn) (any_turn_step f e) g h in step-goes e f g k sound early parts.0 parts.1

-- what holds between events holds behind each one
pub stays_sound-law : StaysSoundLaw
stays_sound-law f g e sound h = (interleaved-goes e f g f.state.moment sound (omega arith) h).sound

-- the call of a turn that is left
pub call_stays-law : CallStaysLaw
call_stays-law f g e u p sound h is after at =
    let goes = interleaved-goes e f g f.state.moment sound (omega arith) h in
    let stands : Stands f.state.tables f.before f.state.wire f.state.moment u =
    subst (TurnStands f.state.tables f.before f.state.wire f.state.moment) is sound.turn_stands in
    let stays = goes.stays u (sym goes.turn_is ∙ after ∙ sym is) is stands in
    let same : stands.asked ≡ p = same_Some stands.asked p (sym stands.call_at ∙ at) in (
      stays.aborted,
      stays.call_at ∙ ap (λ (x : Pending). Some (record x { aborted = stays.aborted })) same,
      ap (λ (x : Pending). task_of (named_link g.state.tables u.connection x.call) x.call) (sym same)
          ∙ ap (λ a. task_of a stands.asked.call) (named-stays f.state.tables g.state.tables u.connection stands.link stands.asked.call stands.on_link stays.links ∙ sym stands.on_link)
          ∙ ap (λ (x : Pending). task_of (named_link f.state.tables u.connection x.call) x.call) same,
    )

-- From the state before the turn the linearized events lead to that of the last interleaved state, and what is kept is kept.
pub record Linearizes (f : InterleavedState) (k : ℕ) (h : List Event) (g : InterleavedState) : Type 0 where
  pub moment : ℕ
  pub reaches : along atomic_step (Some (before_turn f k)) (linearization_from f.turn h) ≡ Some (before_turn g moment)
  pub earlier : moment ≤ g.state.moment
  pub sound : IsSound g

-- one event, and those behind it
linearizes-more : (f mid g : InterleavedState) (k : ℕ) (e : Event) (es : List Event) (goes : GoesOn f k e mid) → Linearizes mid goes.moment es g → Linearizes f k (e ∷ es) g
linearizes-more f mid g k e es goes rest = record {
  moment = rest.moment;
  reaches =
      along-append atomic_step (Some (before_turn f k)) (linearized f.turn e) (linearization_from (turn_after f.turn e) es)
      ∙ ap (λ o. along atomic_step o (linearization_from (turn_after f.turn e) es)) goes.reaches
      ∙ ap (λ turn. along atomic_step (Some (before_turn mid goes.moment)) (linearization_from turn es)) (sym goes.turn_is)
      ∙ rest.reaches;
  earlier = rest.earlier;
  sound = rest.sound;
}

pub linearizes : (h : List Event) (f g : InterleavedState) (k : ℕ) → IsSound f → k ≤ f.state.moment → along interleaved_step (Some f) h ≡ Some g → Linearizes f k h g
linearizes [] f g k sound early h =
    subst (Linearizes f k []) (same_Some f g h) (record { moment = k; reaches = refl; earlier = early; sound = sound })
linearizes (e ∷ es) f g k sound early h = by (interleaved_step f e) refl h (linearizes es) where
  by : (o : Option InterleavedState) → interleaved_step f e ≡ o → along interleaved_step o es ≡ Some g
      → ((f g : InterleavedState) (k : ℕ) → IsSound f → k ≤ f.state.moment → along interleaved_step (Some f) es ≡ Some g → Linearizes f k es g) → Linearizes f k (e ∷ es) g
  by None is h rest = absurd (none-some g (sym (along-none interleaved_step es) ∙ h))
  by (Some mid) is h rest =
      let goes = interleaved-goes e f mid k sound early is in
      linearizes-more f mid g k e es goes (rest mid g goes.moment goes.sound goes.earlier h)

-- a gateway as it starts
pub first-sound : (abort_port : ℕ) → IsSound (first_interleaved abort_port)
first-sound abort_port = record { turn_stands = refl; have_come = λ conn p at. absurd (none-some p at); tables = empty-sound abort_port }

-- what is kept holds behind every list of events that is allowed
pub interleaved-linearizes : (abort_port : ℕ) (h : List Event) (f : InterleavedState) → interleaved_along abort_port h ≡ Some f → Linearizes (first_interleaved abort_port) 0 h f
interleaved-linearizes abort_port h f is = linearizes h (first_interleaved abort_port) f 0 (first-sound abort_port) (omega arith) is

pub linearization_law-holds : LinearizationLaw
linearization_law-holds abort_port h f is = let made = interleaved-linearizes abort_port h f is in (made.moment, made.reaches, made.earlier)
