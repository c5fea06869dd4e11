-- How a poll ends, in the kernel's words.
use Rattle.std.proofs.Common.{◌≡◌, ◌≤◌, ◌==◌, ℕ, Bool, true, false, cond, List, [], ◌∷◌, ◌++◌, map, append-nil, Option, Some, None, refl, sym, ap, ◌∙◌, subst}
use Rattle.std.specs.Prelude.{if◌then◌else◌, nat_le, is_none, is_some, ◌&&◌}
use Rattle.std.proofs.lemmas.Bool.{and_parts, cond-true, true≢false}
use Rattle.std.proofs.lemmas.Option.{same_Some}
use Rattle.vx_lemmas.proofs.Laws.Conditions.{chosen, eqb-self}
use Rattle.vx_calls.specs.declared.limits.TheConstants.{READ_MAX}
use Rattle.vx_calls.specs.Reply.{Reply}
use Rattle.vx_488.specs.declared.transfers.Transfer.{Transfer}
use Rattle.vx_488.specs.Means.{Means}
use Rattle.vx_488.specs.Steps.{Step, Went}
use Rattle.vx_488.specs.Walks.{Walk}
use Rattle.vx_rules.specs.Lists.{along}
use Rattle.vx_rules.specs.State.{Pending, Tables, pending_at, with_pending}
use Rattle.vx_rules.specs.Lines.{first_lines}
use Rattle.vx_rules.specs.Decide.{has_job_role}
use Rattle.vx_rules.specs.Decide.{has_job_role}
use Rattle.vx_flow.specs.Event.{Event, Answer, Begin, Move}
use Rattle.vx_flow.specs.InterleavedState.{Turn, InterleavedState, turn_of}
use Rattle.vx_flow.specs.InterleavedStep.{interleaved_step, may_begin, is_passed, job_of, without_dial}
use Rattle.vx_flow.specs.Does.{Moves}
use Rattle.vx_flow.specs.Sound.{IsSound}
use Rattle.vx_flow.specs.Poll.{Ending, Answered, Waited, Dialed, Polls, begins, begun_events, moved_events, run_events, at_moment, is_broken, RanTo, runs, ran_of}
use Rattle.vx_flow.specs.declared.progress.Ran.{Ran}
use Rattle.vx_flow.specs.declared.progress.Why.{Why}
use Rattle.vx_flow.specs.declared.progress.Ran.TheVariants as ran
use Rattle.vx_flow.specs.Ways.{over, moved_on, begun_now}
use Rattle.vx_flow.proofs.Laws.{interleaved-does, interleaved-frame, step-made, stays_sound-law}
use Rattle.vx_core.specs.declared.ended.Ended.{Ended}
use Rattle.vx_core.specs.KernelState.{KernelState}
use Rattle.vx_core.specs.Shown.{interleaved_of, closed}
use Rattle.vx_core.specs.Ending.{ended_shown, ended_len}
use Rattle.vx_core.specs.Keeping.{KeepsDials, Holds, Keeps}
use Rattle.vx_core.specs.Polling.{wanted, refused_ask, asks, PollOnBus}
use Rattle.vx_core.specs.Leaving.{EndsFrom}
use Rattle.vx_core.proofs.Keeping.{LeavesTurn, keeps-after}
use Rattle.vx_core.proofs.CoreCalls.{left-shown, left-leaves}
use Rattle.vx_rules.specs.Lines.{first_lines_in}
use Rattle.vx_flow.proofs.Laws.{busy-passes, passed-is}

-- ---- the state behind a poll's transfers

-- where the call's own turn is under way it has made the poll's transfers more
pub behind-own : (f b : InterleavedState) (conn now : ℕ) (u : Turn) (moves : List Transfer) → f.turn ≡ Some u → along interleaved_step (Some f) (run_events f conn now moves) ≡ Some b
    → b ≡ moved_on f u moves
behind-own f b conn now u moves turn h = by moves (sym (ap (λ es. along interleaved_step (Some f) (es ++ moved_events conn moves)) none) ∙ h) where
  none : begun_events f conn now ≡ []
  none = ap (λ t. cond (is_none t && may_begin f.state conn now (pending_at f.state.tables conn)) (Begin conn now ∷ []) []) turn

  by : (ts : List Transfer) → along interleaved_step (Some f) (moved_events conn ts) ≡ Some b → b ≡ moved_on f u ts
  by [] x =
      sym (same_Some f b x)
      ∙ ap (λ t. record f { turn = t }) turn
      ∙ ap (λ ts. record f { turn = Some (record u { moves = ts }) }) (sym (append-nil u.moves))
  by (t ∷ ts) x =
      let made : Moves f conn (t ∷ ts) b = (interleaved-does f b (Move conn (t ∷ ts)) x).step in
      made.leads ∙ ap (λ (v : Turn). moved_on f v (t ∷ ts)) (same_Some made.turn u (sym made.under_way ∙ turn))

-- what a beginning leads to, where it is allowed
pub begun-so : (f b : InterleavedState) (conn now : ℕ) → interleaved_step f (Begin conn now) ≡ Some b
    → (is_none f.turn ≡ true) × (may_begin f.state conn now (pending_at f.state.tables conn) ≡ true) × (begun_now f conn now ≡ b)
begun-so f b conn now h =
    let may = may_begin f.state conn now (pending_at f.state.tables conn) in
    let parts = chosen (is_none f.turn && nat_le f.state.moment now && may) (Some (begun_now f conn now)) b (step-made f b (Begin conn now) h) in
    let tests = and_parts (is_none f.turn && nat_le f.state.moment now) may parts.0 in
    ((and_parts (is_none f.turn) (nat_le f.state.moment now) tests.0).0, tests.1, same_Some (begun_now f conn now) b parts.1)

-- a turn that begins runs on
pub begun-runs : (f : InterleavedState) (conn now : ℕ) (p : Pending) → pending_at f.state.tables conn ≡ Some p → may_begin f.state conn now (pending_at f.state.tables conn) ≡ true
    → runs (begun_now f conn now) conn now p ≡ true
begun-runs f conn now p at may =
    let u : Turn = record { connection = conn; begun = now; moves = [] } in
    let own : turn_of (Some u) conn ≡ Some u = cond-true (conn == conn) (Some u) None (eqb-self conn) in
    let tests = and_parts (is_passed (first_lines f.state.tables f.state.wire.own conn false p now)) (has_job_role f.state.wire (job_of f.state.tables conn p))
    (sym (ap (may_begin f.state conn now) at) ∙ may) in
    ap (λ t. is_passed (first_lines_in f.state.tables (Some conn) (if is_some t then f.state.wire else f.state.wire).own conn false p now) && is_some t) own
    ∙ ap (λ l. is_passed l && true)
    (busy-passes f.state.tables f.state.wire.own conn p now conn false (passed-is (first_lines f.state.tables f.state.wire.own conn false p now) tests.0))

-- where the call's turn didn't go on the poll made nothing
pub behind-still : (f g : InterleavedState) (conn now : ℕ) (ending : Ending) → (polls : Polls f conn now [] ending g) → ran_of ending ≡ ran.Still → polls.behind ≡ f
behind-still f g conn now ending polls still = by (begins f conn now) polls.runs_to where
  by : (b : Bool) → along interleaved_step (Some f) (cond b (Begin conn now ∷ []) [] ++ []) ≡ Some polls.behind → polls.behind ≡ f
  by false x = sym (same_Some f polls.behind x)
  by true x =
      let so = begun-so f polls.behind conn now x in
      let gone : RanTo polls.behind conn now polls.asked [] ran.Still = subst (RanTo polls.behind conn now polls.asked []) still polls.ran in
      let on = begun-runs f conn now polls.asked polls.call_at so.1 in
      absurd (true≢false (sym on ∙ ap (λ b. runs b conn now polls.asked) so.2 ∙ gone.0))

-- what holds between events holds behind a list of them
pub sound-along : (h : List Event) (f g : InterleavedState) → IsSound f → along interleaved_step (Some f) h ≡ Some g → IsSound g
sound-along [] f g sound x = subst IsSound (same_Some f g x) sound
sound-along (e ∷ es) f g sound x = by (interleaved_step f e) refl x (λ mid s y. sound-along es mid g s y) where
  none : (es : List Event) → along interleaved_step None es ≡ None
  none [] = refl
  none (e ∷ es) = none es

  by : (o : Option InterleavedState) → interleaved_step f e ≡ o → along interleaved_step o es ≡ Some g → ((mid : InterleavedState) → IsSound mid → along interleaved_step (Some mid) es ≡ Some g → IsSound g) → IsSound g
  by None is y rest = let n = none es in cc
  by (Some mid) is y rest = rest mid (stays_sound-law f mid e sound is) y

-- ---- the end of a poll

-- the answer of a poll leads from the state behind its transfers to the one that it leaves
pub answer-ends : (f g : InterleavedState) (conn now : ℕ) (moves : List Transfer) (ran : Ran) (level : Bool) (told : Reply)
    → (polls : Polls f conn now moves (Answered ran level told) g) → interleaved_step polls.behind (Answer conn now (is_broken ran) None level told) ≡ Some g
answer-ends f g conn now moves ran level told polls =
    let at : polls.last.state.moment ≡ now = (interleaved-frame polls.behind polls.last (Answer conn now (is_broken ran) None level told) polls.ended).moment_is in
    polls.ended ∙ ap (λ n. Some (at_moment polls.last n)) at ∙ ap Some (sym polls.at_now)

-- ---- what a call leaves that is over

-- the state of a core whose call is over, with these tables
pub interleaved-closed : {B : Type 0} (means : B → Means) (k : KernelState B) (conn : ℕ) (after : Tables)
    → interleaved_of means (closed (record k { tables = after }) conn) ≡ over (interleaved_of means k) conn k.moment after
interleaved-closed means k conn after = left-shown means k k.bus (with_pending after conn None) k.moment conn refl

-- its turn is as it was, or over
pub closed-leaves : {B : Type 0} (means : B → Means) (k : KernelState B) (conn : ℕ) (after : Tables) → LeavesTurn means k (closed (record k { tables = after }) conn)
closed-leaves means k conn after = left-leaves means k k.bus (with_pending after conn None) k.moment conn refl

-- ---- a poll that makes no transfer

-- the steps of a poll that makes none
no-steps : {B : Type 0} (means : B → Means) (through : B → Step → B → Type 0) (bus : B) (steps : List Step) → steps ≡ [] → Walk means through bus steps bus
no-steps means through bus steps e = subst (λ ss. Walk means through bus ss bus) (sym e) refl

-- a poll that made no transfer, and whose call's turn didn't go on, asked the bus for nothing
no-asks : (b : InterleavedState) (conn : ℕ) (p : Pending) (moves : List Transfer) (r : Ran) → moves ≡ [] → r ≡ ran.Still → asks b conn p moves r ≡ []
no-asks b conn p moves r none still =
    ap (λ ts. map Went ts ++ refused_ask r (wanted b conn p)) none ∙ ap (λ x. refused_ask x (wanted b conn p)) still

-- a call that is answered where no transfer was made
pub still-ends : {B : Type 0} (means : B → Means) (through : B → Step → B → Type 0) (srq ndac : B → Bool) (k : KernelState B) (conn : ℕ) (after : Tables)
    (given : Reply) (ended : Ended) → Holds means k → (means k.bus).moves ≡ []
    → Polls (interleaved_of means k) conn k.moment [] (Answered ran.Still false given) (over (interleaved_of means k) conn k.moment after)
    → ended_shown ended k.room ≡ Answered ran.Still false given → ended_len ended ≤ READ_MAX
    → EndsFrom means through srq ndac k conn ended (closed (record k { tables = after }) conn)
still-ends {B} means through srq ndac k conn after given ended holds cut polls shown within =
    let f : InterleavedState = interleaved_of means k in
    let new : KernelState B = closed (record k { tables = after }) conn in
    let e : Event = Answer conn k.moment false None false given in
    let left : Polls f conn k.moment [] (Answered ran.Still false given) (interleaved_of means new) =
    subst (Polls f conn k.moment [] (Answered ran.Still false given)) (sym (interleaved-closed means k conn after)) polls in
    let behind : left.behind ≡ f = behind-still f (interleaved_of means new) conn k.moment (Answered ran.Still false given) left refl in
    let goes : interleaved_step f e ≡ Some (interleaved_of means new) = ap (λ b. interleaved_step b e) (sym behind) ∙ answer-ends f (interleaved_of means new) conn k.moment [] ran.Still false given left in
    let P : Ending → Type 0 = λ ending. PollOnBus means through srq ndac f k.bus conn k.moment [] ending (interleaved_of means new) k.bus in
    let M : List Transfer → Type 0 = λ moves. Polls f conn k.moment moves (Answered ran.Still false given) (interleaved_of means new) in
    record {
      keeps = keeps-after means k new e refl holds (closed-leaves means k conn after) goes;
      moment = refl;
      within = within;
      over = subst P (sym shown) (record {
        polls = subst M (sym cut) left;
        wire = refl;
        walk = no-steps means through k.bus _ (ap (λ ts. map Went ts ++ []) cut);
        told = refl;
      });
    }

-- a call that waits where no transfer was made
pub waits-ends : {B : Type 0} (means : B → Means) (through : B → Step → B → Type 0) (srq ndac : B → Bool) (k : KernelState B) (conn : ℕ) (why : Why) (ended : Ended)
    → Keeps means k → (means k.bus).moves ≡ [] → ran_of (Waited why) ≡ ran.Still
    → Polls (interleaved_of means k) conn k.moment [] (Waited why) (interleaved_of means k)
    → ended_shown ended k.room ≡ Waited why → ended_len ended ≤ READ_MAX
    → EndsFrom means through srq ndac k conn ended k
waits-ends {B} means through srq ndac k conn why ended keeps cut still polls shown within =
    let f : InterleavedState = interleaved_of means k in
    let P : Ending → Type 0 = λ ending. PollOnBus means through srq ndac f k.bus conn k.moment [] ending f k.bus in
    let M : List Transfer → Type 0 = λ moves. Polls f conn k.moment moves (Waited why) f in
    let here : Polls f conn k.moment (means k.bus).moves (Waited why) f = subst M (sym cut) polls in
    record {
      keeps = keeps;
      moment = refl;
      within = within;
      over = subst P (sym shown) (record {
        polls = here;
        wire = refl;
        walk = no-steps means through k.bus _ (no-asks here.behind conn here.asked (means k.bus).moves (ran_of (Waited why)) cut still);
        told = tt;
      });
    }

-- a call of which a dial is asked for
pub dials-ends : {B : Type 0} (means : B → Means) (through : B → Step → B → Type 0) (srq ndac : B → Bool) (k : KernelState B) (conn host port : ℕ) (ended : Ended)
    → Keeps means k → (means k.bus).moves ≡ []
    → KeepsDials k.tables (without_dial k.dialed conn ++ conn ∷ [])
    → Polls (interleaved_of means k) conn k.moment [] (Dialed host port) (record (interleaved_of means k) { dialed = without_dial k.dialed conn ++ conn ∷ [] })
    → ended_shown ended k.room ≡ Dialed host port → ended_len ended ≤ READ_MAX
    → EndsFrom means through srq ndac k conn ended (record k { dialed = without_dial k.dialed conn ++ conn ∷ [] })
dials-ends {B} means through srq ndac k conn host port ended keeps cut dials polls shown within =
    let f : InterleavedState = interleaved_of means k in
    let new : KernelState B = record k { dialed = without_dial k.dialed conn ++ conn ∷ [] } in
    let g : InterleavedState = interleaved_of means new in
    let P : Ending → Type 0 = λ ending. PollOnBus means through srq ndac f k.bus conn k.moment [] ending g k.bus in
    let M : List Transfer → Type 0 = λ moves. Polls f conn k.moment moves (Dialed host port) g in
    let h = keeps.holds in
    record {
      keeps = record {
        holds = record {
          sound = record { turn_stands = h.sound.turn_stands; have_come = h.sound.have_come; tables = h.sound.tables };
          own = h.own;
          runs = λ r at.
              let x = h.runs r at in
              record { asked = x.asked; call_at = x.call_at; job_is = x.job_is; plain = x.plain; sent = x.sent; few = x.few; own = x.own; begins = x.begins; holds = x.holds };
          dials = dials;
          few = h.few;
        };
        is_part = keeps.is_part;
      };
      moment = refl;
      within = within;
      over = subst P (sym shown) (record {
        polls = subst M (sym cut) polls;
        wire = refl;
        walk = no-steps means through k.bus _ (ap (λ ts. map Went ts ++ []) cut);
        told = tt;
      });
    }
