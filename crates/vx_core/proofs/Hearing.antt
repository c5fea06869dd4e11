-- A poll as it begins: the bus is cut and told the moment.
use Rattle.std.proofs.Common.{◌≡◌, ◌≤◌, ℕ, Bool, List, [], ◌∷◌, Some, sym, ap, ◌∙◌, subst, arith}
use Rattle.std.specs.Prelude.{IsSome, max}
use Rattle.vx_488.specs.declared.transfers.TheConstants.{ADDRESS_MAX}
use Rattle.vx_488.specs.declared.transfers.Transfer.{Transfer}
use Rattle.vx_488.specs.declared.wire.Wire.{Wire}
use Rattle.vx_plan.specs.Plan.{Part}
use Rattle.vx_488.specs.Means.{Means}
use Rattle.vx_488.specs.Steps.{Step, Told, Cut}
use Rattle.vx_488.specs.Walks.{Walk}
use Rattle.vx_rules.specs.State.{Pending, pending_at}
use Rattle.vx_flow.specs.InterleavedState.{Turn, InterleavedState}
use Rattle.vx_flow.specs.InterleavedStep.{turn_stand}
use Rattle.vx_flow.specs.Sound.{IsSound}
use Rattle.vx_flow.specs.Poll.{Ending, Answered, Waited, RanTo, EndsBy, ran_of, run_events, end_events, at_moment}
use Rattle.vx_flow.specs.declared.progress.Ran.{Ran}
use Rattle.vx_flow.specs.declared.progress.Ran.TheVariants as ran
use Rattle.vx_flow.proofs.Laws.{later-sound, earlier_law-holds, not_yet-at}
use Rattle.vx_core.specs.declared.ended.Ended.{Ended}
use Rattle.vx_core.specs.KernelState.{KernelState}
use Rattle.vx_core.specs.Shown.{cut_means, interleaved_of, turn_shown, before_shown}
use Rattle.vx_core.specs.Ending.{ended_shown}
use Rattle.vx_core.specs.Keeping.{Keeps}
use Rattle.vx_core.specs.Turning.{HasHeard}
use Rattle.vx_core.specs.Polling.{asks, IsTold, PollOnBus}
use Rattle.vx_core.specs.Leaving.{Leaves, EndsFrom}
use Rattle.vx_core.proofs.Ends.{sound-along}

-- the state of a core that was told a moment
heard-at : {B : Type 0} (means : B → Means) (k : KernelState B) (bus : B) (moment : ℕ) → (means bus).wire ≡ (means k.bus).wire
    → interleaved_of means (record k { bus = bus; moment = moment }) ≡ at_moment (interleaved_of means k) moment
heard-at means k bus moment e =
    let At : Wire → InterleavedState = λ w. record {
      state = record { tables = k.tables; wire = w; moment = moment };
      turn = turn_shown k.running k.made;
      before = before_shown k.running k.before w;
      dialed = k.dialed;
    } in
    ap At e

-- a core that was told a moment keeps what it keeps
pub heard-keeps : {B : Type 0} (means : B → Means) (k : KernelState B) (bus : B) (moment : ℕ) → Keeps means k → k.moment ≤ moment
    → means bus ≡ cut_means (means k.bus) → Keeps means (record k { bus = bus; moment = moment })
heard-keeps {B} means k bus moment keeps late cut =
    let wire : (means bus).wire ≡ (means k.bus).wire = ap (λ (m : Means). m.wire) cut in
    let h = keeps.holds in
    let P : InterleavedState → Type 0 = λ f. (u : Turn) → f.turn ≡ Some u → turn_stand f u u.moves ≡ Part in
    record {
      holds = record {
        sound = subst IsSound (sym (heard-at means k bus moment wire)) (later-sound (interleaved_of means k) moment h.sound late);
        own = subst (λ (w : Wire). w.own ≤ ADDRESS_MAX) (sym wire) h.own;
        runs = λ r at.
            let x = h.runs r at in
            record {
              asked = x.asked;
              call_at = x.call_at;
              job_is = x.job_is;
              plain = x.plain;
              sent = x.sent;
              few = x.few;
              own = x.own;
              begins = record { left = x.begins.left; had_made = x.begins.had_made; bus = wire ∙ x.begins.bus };
              holds = x.holds;
            };
        dials = h.dials;
        few = h.few;
      };
      is_part = subst P (sym (heard-at means k bus moment wire)) keeps.is_part;
    }

pub has-heard : {B : Type 0} (means : B → Means) (k new : KernelState B) (conn now : ℕ) → IsSome (pending_at k.tables conn) → Keeps means k
    → new ≡ record k { bus = new.bus; moment = max k.moment now } → means new.bus ≡ cut_means (means k.bus) → HasHeard means new conn
has-heard {B} means k new conn now pending keeps kept cut = record {
  pending = subst (λ (s : KernelState B). IsSome (pending_at s.tables conn)) (sym kept) pending;
  keeps = subst (Keeps means) (sym kept) (heard-keeps means k new.bus (max k.moment now) keeps (omega arith) cut);
  cut = ap (λ (m : Means). m.moves) cut;
  asks = ap (λ (m : Means). m.asks) cut;
}

-- a poll from the state at the moment that the bus was told is one from the state before
ran-earlier : (b : InterleavedState) (moment conn now : ℕ) (p : Pending) (moves : List Transfer) (ran : Ran) → RanTo b conn now p moves ran
    → RanTo (at_moment b moment) conn now p moves ran
ran-earlier b moment conn now p moves ran.Still h = h
ran-earlier b moment conn now p moves _ h = h

ends-earlier : (b : InterleavedState) (moment conn now : ℕ) (p : Pending) (ending : Ending) → EndsBy b conn now p ending → EndsBy (at_moment b moment) conn now p ending
ends-earlier b moment conn now p (Waited w) h = not_yet-at b moment conn now p w h
ends-earlier b moment conn now p _ h = h

told-earlier : (b : InterleavedState) (moment conn : ℕ) (p : Pending) (srq ndac : Bool) (ending : Ending) → IsTold b conn p srq ndac ending
    → IsTold (at_moment b moment) conn p srq ndac ending
told-earlier b moment conn p srq ndac (Answered ran.Finished level reply) h = h
told-earlier b moment conn p srq ndac _ h = h

earlier-over : {B : Type 0} (means : B → Means) (through : B → Step → B → Type 0) (srq ndac : B → Bool) (f g : InterleavedState) (bus mid after : B) (conn now : ℕ) (ending : Ending)
    → IsSound f → f.state.moment ≤ now → Walk means through bus (Cut ∷ Told now ∷ []) mid → PollOnBus means through srq ndac (at_moment f now) mid conn now [] ending g after
    → PollOnBus means through srq ndac f bus conn now (Cut ∷ Told now ∷ []) ending g after
earlier-over {B} means through srq ndac f g bus mid after conn now ending sound late walk o =
    let moves : List Transfer = (means after).moves in
    let b : InterleavedState = o.polls.behind in
    let first = earlier_law-holds f b now (run_events f conn now moves) sound late o.polls.runs_to in
    let then_sound = sound-along (run_events f conn now moves) f (at_moment b first.0) sound first.1 in
    let second = earlier_law-holds (at_moment b first.0) o.polls.last b.state.moment (end_events conn now ending) then_sound first.2 o.polls.ended in
    let W : B → Type 0 = λ at. Walk means through at (asks b conn o.polls.asked moves (ran_of ending)) after in
    record {
      polls = record {
        asked = o.polls.asked;
        call_at = o.polls.call_at;
        late = late;
        behind = at_moment b first.0;
        runs_to = first.1;
        ran = ran-earlier b first.0 conn now o.polls.asked moves (ran_of ending) o.polls.ran;
        few = o.polls.few;
        ends_by = ends-earlier b first.0 conn now o.polls.asked ending o.polls.ends_by;
        last = at_moment o.polls.last second.0;
        ended = second.1;
        at_now = o.polls.at_now;
      };
      wire = sym (ap (λ (m : Means). m.wire) walk.1.0) ∙ sym (ap (λ (m : Means). m.wire) walk.2.1.0) ∙ sym (ap (λ b. (means b).wire) walk.2.2) ∙ o.wire;
      walk = (walk.0, walk.1, (walk.2.0, walk.2.1, subst W walk.2.2 o.walk));
      told = told-earlier b first.0 conn o.polls.asked (srq after) (ndac after) ending o.told;
    }

-- what a poll leaves, once its end is noted
pub poll-leaves : {B : Type 0} (means : B → Means) (through : B → Step → B → Type 0) (srq ndac : B → Bool) (k heard left new : KernelState B) (conn now : ℕ) (ended : Ended) (began : Bool)
    → Keeps means k → heard ≡ record k { bus = heard.bus; moment = max k.moment now } → means heard.bus ≡ cut_means (means k.bus)
    → Walk means through k.bus (Cut ∷ Told (max k.moment now) ∷ []) heard.bus
    → EndsFrom means through srq ndac heard conn ended left → new ≡ record left { last = Some ended; began = began }
    → Leaves means through srq ndac k conn now ended new
poll-leaves {B} means through srq ndac k heard left new conn now ended began keeps kept cut walk ends noted =
    let n : ℕ = max k.moment now in
    let moment : heard.moment ≡ n = ap (λ (s : KernelState B). s.moment) kept in
    let wire : (means heard.bus).wire ≡ (means k.bus).wire = ap (λ (m : Means). m.wire) cut in
    let at : interleaved_of means heard ≡ at_moment (interleaved_of means k) n = ap (interleaved_of means) kept ∙ heard-at means k heard.bus n wire in
    let P : InterleavedState → ℕ → Type 0 = λ f now. PollOnBus means through srq ndac f heard.bus conn now [] (ended_shown ended left.room) (interleaved_of means left) left.bus in
    let over : P (at_moment (interleaved_of means k) n) n = subst (λ f. P f n) at (subst (P (interleaved_of means heard)) moment ends.over) in
    subst (Leaves means through srq ndac k conn now ended) (sym noted)
    (earlier-over means through srq ndac (interleaved_of means k) (interleaved_of means left) k.bus heard.bus left.bus conn n (ended_shown ended left.room) keeps.holds.sound (omega arith) walk over)

-- and what the core keeps then
pub noted-keeps : {B : Type 0} (means : B → Means) (left new : KernelState B) (ended : Ended) (began : Bool) → Keeps means left → new ≡ record left { last = Some ended; began = began } → Keeps means new
noted-keeps {B} means left new ended began keeps noted =
    let h = keeps.holds in
    subst (Keeps means) (sym noted) (record {
      holds = record {
        sound = h.sound;
        own = h.own;
        runs = λ r at.
            let x = h.runs r at in
            record {
              asked = x.asked;
              call_at = x.call_at;
              job_is = x.job_is;
              plain = x.plain;
              sent = x.sent;
              few = x.few;
              own = x.own;
              begins = x.begins;
              holds = x.holds;
            };
        dials = h.dials;
        few = h.few;
      };
      is_part = keeps.is_part;
    })
