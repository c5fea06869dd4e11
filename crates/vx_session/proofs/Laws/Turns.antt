-- Laws of polls in turns, and of the groups that a pass makes, one list of them after another.
use Rattle.std.proofs.Common.{◌≡◌, ◌≤◌, ◌==◌, inl, inr, ℕ, Bool, true, false, List, [], ◌∷◌, ◌++◌, map, cond, Some, None, refl, sym, ap, ◌∙◌, subst, append_assoc, append-nil, arith}
use Rattle.std.proofs.lemmas.Bool.{eq-eqb, cond-true}
use Rattle.std.proofs.lemmas.List.{map-append}
use Rattle.std.proofs.lemmas.List.Elements.{All-nil, All-cons, All-append, All-weaker}
use Rattle.std.proofs.lemmas.Option.{none-some, same_Some}
use Rattle.std.specs.List.{All}
use Rattle.vx_calls.specs.declared.calls.Role.{Role}
use Rattle.vx_calls.specs.declared.calls.Role.TheVariants as role
use Rattle.vx_calls.specs.Call.{Call}
use Rattle.vx_calls.specs.Reply.{Reply}
use Rattle.vx_488.specs.declared.transfers.Transfer.{Transfer}
use Rattle.vx_488.specs.Steps.{Step}
use Rattle.vx_488.specs.declared.bus.Bus.{Ghosts}
use Rattle.vx_core.specs.CoreState.{CoreState}
use Rattle.vx_gate.specs.declared.views.Logged.{Logged}
use Rattle.vx_gate.specs.History.{made, groups}
use Rattle.vx_gate.specs.PassView.{PassView}
use Rattle.vx_flow.specs.Event.{Event, Answer, Begin, Move, Dial}
use Rattle.vx_flow.specs.InterleavedState.{InterleavedState}
use Rattle.vx_flow.specs.Poll.{Ending, Answered, Waited, Dialed, is_broken, begins, begun_events, moved_events, run_events, end_events}
use Rattle.vx_group.specs.Groups.{Group, last_moment, now_of}
use Rattle.vx_group.specs.Phases.{Phase, Idle, Asked, phase_along}
use Rattle.vx_group.proofs.Laws.{phase-append}
use Rattle.vx_session.specs.Acting.{poll_events}
use Rattle.vx_session.specs.Placing.{Placed, Chain, IsSessionTold, IsTimely, Makes, behind, logged}
use Rattle.vx_session.specs.Parts.{IsSessionPolled, IsAt, phase_behind}
use Rattle.vx_session.specs.Progress.{Clocked, ClockedAs}

-- ---- polls

-- what holds of a beginning, of transfers, of an answer behind no dial and of a dial holds of each event of a poll
pub poll-all : (P : Event → Type 0) (f : InterleavedState) (conn now : ℕ) (moves : List Transfer) (ending : Ending) → P (Begin conn now) → ((made : List Transfer) → P (Move conn made))
    → ((failed level : Bool) (told : Reply) → P (Answer conn now failed None level told)) → P (Dial conn now) → All P (poll_events f conn now moves ending)
poll-all P f conn now moves ending begun moved answered dials =
    All-append P (run_events f conn now moves) (end_events conn now ending)
    (All-append P (begun_events f conn now) (moved_events conn moves) (first (begins f conn now)) (then_moved moves))
    (last ending)
  where
    first : (b : Bool) → All P (cond b (Begin conn now ∷ []) [])
    first true = All-cons P (Begin conn now) [] begun (All-nil P)
    first false = All-nil P

    then_moved : (made : List Transfer) → All P (moved_events conn made)
    then_moved [] = All-nil P
    then_moved (t ∷ ts) = All-cons P (Move conn (t ∷ ts)) [] (moved (t ∷ ts)) (All-nil P)

    last : (end : Ending) → All P (end_events conn now end)
    last (Answered ran level told) = All-cons P (Answer conn now (is_broken ran) None level told) [] (answered (is_broken ran) level told) (All-nil P)
    last (Waited why) = All-nil P
    last (Dialed host port) = All-cons P (Dial conn now) [] dials (All-nil P)

-- so it does of each event of a poll in a turn
pub ispolled-all : {B : Type 0} (P : Event → Type 0) {g : Ghosts B} {before : CoreState B} {conn now : ℕ} {ending : Ending} {events : List Event} {steps : List Step} → IsSessionPolled g before conn now ending events steps
    → P (Begin conn now) → ((made : List Transfer) → P (Move conn made)) → ((failed level : Bool) (told : Reply) → P (Answer conn now failed None level told)) → P (Dial conn now)
    → All P events
ispolled-all P {g = g} {before = before} {conn = conn} {now = now} {ending = ending} p begun moved answered dials =
    subst (All P) (sym p.are) (poll-all P before.interleaved conn now (g.means p.after.bus).moves ending begun moved answered dials)

-- an event that has this moment is at it
pub has-moment : (e : Event) (moment : ℕ) → now_of e ≡ Some moment → IsAt moment e
has-moment e moment is now at = same_Some now moment (sym at ∙ is)

-- an event that has none is at every moment
pub has-none : (e : Event) (moment : ℕ) → now_of e ≡ None → IsAt moment e
has-none e moment none now at = absurd (none-some now (sym none ∙ at))

-- the events of a poll have its moment, or none
pub poll-at : (f : InterleavedState) (conn now : ℕ) (moves : List Transfer) (ending : Ending) → All (IsAt now) (poll_events f conn now moves ending)
poll-at f conn now moves ending =
    poll-all (IsAt now) f conn now moves ending (has-moment (Begin conn now) now refl) (λ made. has-none (Move conn made) now refl)
    (λ failed level told. has-moment (Answer conn now failed None level told) now refl) (has-moment (Dial conn now) now refl)

-- ---- the phase behind a poll

-- a choice by the connection's own number takes the first way
pub chosen-own : {A : Type 0} (conn : ℕ) (x y : A) → cond (conn == conn) x y ≡ x
chosen-own conn x y = cond-true (conn == conn) x y (eq-eqb conn conn refl)

-- a beginning leaves the phase
phase-begun : (conn now : ℕ) (phase : Phase) (b : Bool) → phase_along conn phase (cond b (Begin conn now ∷ []) []) ≡ phase
phase-begun conn now phase true = refl
phase-begun conn now phase false = refl

-- transfers leave the phase
phase-moved : (conn : ℕ) (phase : Phase) (moves : List Transfer) → phase_along conn phase (moved_events conn moves) ≡ phase
phase-moved conn phase [] = refl
phase-moved conn phase (t ∷ ts) = refl

-- the end of a poll leaves what it tells
phase-end : (conn now : ℕ) (call : Call) (dialed : Bool) (ending : Ending) → phase_along conn (Asked call dialed) (end_events conn now ending) ≡ phase_behind call dialed ending
phase-end conn now call dialed (Answered ran level told) = chosen-own conn (Idle role.Core) (Asked call dialed)
phase-end conn now call dialed (Waited why) = refl
phase-end conn now call dialed (Dialed host port) = chosen-own conn (Asked call true) (Asked call dialed)

-- and so does the whole poll
pub poll-phase : (f : InterleavedState) (conn now : ℕ) (moves : List Transfer) (ending : Ending) (call : Call) (dialed : Bool)
    → phase_along conn (Asked call dialed) (poll_events f conn now moves ending) ≡ phase_behind call dialed ending
poll-phase f conn now moves ending call dialed =
    let phase = Asked call dialed in
    let last = end_events conn now ending in
    let first = begun_events f conn now in
    let moved = moved_events conn moves in
    phase-append conn phase (first ++ moved) last
    ∙ ap (λ s. phase_along conn s last)
    (phase-append conn phase first moved ∙ ap (λ s. phase_along conn s moved) (phase-begun conn now phase (begins f conn now)) ∙ phase-moved conn phase moves)
    ∙ phase-end conn now call dialed ending

pub ispolled-phase : {B : Type 0} {g : Ghosts B} {before : CoreState B} {conn now : ℕ} {ending : Ending} {events : List Event} {steps : List Step} (call : Call) (dialed : Bool)
    → IsSessionPolled g before conn now ending events steps → phase_along conn (Asked call dialed) events ≡ phase_behind call dialed ending
ispolled-phase {g = g} {before = before} {conn = conn} {now = now} {ending = ending} call dialed p =
    ap (phase_along conn (Asked call dialed)) p.are ∙ poll-phase before.interleaved conn now (g.means p.after.bus).moves ending call dialed

-- ---- groups of a pass

-- a moment that a clock has told is one that it has told later
told-later : (kept told told' moment : ℕ) → told ≤ told' → IsSessionTold kept told moment → IsSessionTold kept told' moment
told-later kept told told' moment later (inl same) = inl same
told-later kept told told' moment later (inr within) = inr (omega arith)

-- so are the moments of a group
timely-later : (told told' : ℕ) (p : Placed) → told ≤ told' → IsTimely told p → IsTimely told' p
timely-later told told' p later timely =
    let kept = last_moment (groups p.before) in
    record {
      moment = told-later kept told told' p.group.moment later timely.moment;
      events = All-weaker (λ (e : Event). (now : ℕ) → now_of e ≡ Some now → IsSessionTold kept told now) (λ (e : Event). (now : ℕ) → now_of e ≡ Some now → IsSessionTold kept told' now)
          (λ e h now is. told-later kept told told' now later (h now is)) p.group.events timely.events;
    }

all-later : (told told' : ℕ) (ps : List Placed) → told ≤ told' → All (IsTimely told) ps → All (IsTimely told') ps
all-later told told' ps later timely = All-weaker (IsTimely told) (IsTimely told') (λ p h. timely-later told told' p later h) ps timely

-- groups at their places, and then more of them
chain-goes : (number : ℕ) (seen seen' seen'' : List (Logged Group)) (ps qs : List Placed) → Chain number seen ps seen' → Chain number seen' qs seen'' → Chain number seen (ps ++ qs) seen''
chain-goes number seen seen' seen'' [] qs before after = subst (λ s. Chain number s qs seen'') before after
chain-goes number seen seen' seen'' (p ∷ ps) qs before after = (before.0, before.1, chain-goes number (behind number p) seen' seen'' ps qs before.2 after)

-- a pass that made nothing
pub makes-none : (told : ℕ) (pass : PassView Group) → Makes told pass [] pass
makes-none told pass = record {
  gate = refl;
  number = refl;
  parts = refl;
  chain = refl;
  own = sym (append-nil pass.own);
  timely = All-nil (IsTimely told);
  alone = λ _. sym (append-nil pass.seen);
}

-- groups, and then more of them
pub makes-goes : (told told' : ℕ) (p q r : PassView Group) (ps qs : List Placed) → told ≤ told' → Makes told p ps q → Makes told' q qs r → Makes told' p (ps ++ qs) r
makes-goes told told' p q r ps qs later before after =
    let of : Placed → Group = λ k. k.group in
    record {
      gate = after.gate ∙ before.gate;
      number = after.number ∙ before.number;
      parts = after.parts ∙ before.parts;
      chain = chain-goes p.number p.seen q.seen r.seen ps qs before.chain (subst (λ n. Chain n q.seen qs r.seen) before.number after.chain);
      own = after.own ∙ ap (λ o. o ++ map of qs) before.own ∙ append_assoc p.own (map of ps) (map of qs) ∙ ap (λ l. p.own ++ l) (sym (map-append of ps qs));
      timely = All-append (IsTimely told') ps qs (all-later told told' ps later before.timely) after.timely;
      alone = λ all. after.alone (before.parts ∙ all) ∙ ap (λ n. q.seen ++ logged n qs) before.number ∙ ap (λ s. s ++ logged p.number qs) (before.alone all)
          ∙ append_assoc p.seen (logged p.number ps) (logged p.number qs) ∙ ap (λ l. p.seen ++ l) (sym (map-append (λ (k : Placed). made p.number k.group) ps qs));
    }

-- a clock that has told more
pub makes-later : (told told' : ℕ) (p q : PassView Group) (ps : List Placed) → told ≤ told' → Makes told p ps q → Makes told' p ps q
makes-later told told' p q ps later makes = subst (λ qs. Makes told' p qs q) (append-nil ps) (makes-goes told told' p q q ps [] later makes (makes-none told' q))

-- ---- a clock

-- the calls of a clock for some groups, and then those for more of them
pub clocked-goes : {C : Type 0} (tells : C → ℕ → C → Type 0) (a b c : C) (ps qs : List Placed) → Clocked tells a b ps → Clocked tells b c qs → Clocked tells a c (ps ++ qs)
clocked-goes tells a b c [] qs before after = subst (λ x. Clocked tells x c qs) before after
clocked-goes tells a b c (p ∷ ps) qs before after = (before.0, before.1, before.2, before.3, clocked-goes tells before.1 b c ps qs before.4 after)

module _ {C : Type 0} (tells : C → ℕ → C → Type 0) where
  -- on a connection of a role: for no group
  pub clockedas-none : (r : Role) (a b : C) → b ≡ a → ClockedAs r tells a b []
  clockedas-none role.Core a b same = same
  clockedas-none role.Abort a b same = same

  -- and for groups, and then more of them
  pub clockedas-goes : (r : Role) (a b c : C) (ps qs : List Placed) → ClockedAs r tells a b ps → ClockedAs r tells b c qs → ClockedAs r tells a c (ps ++ qs)
  clockedas-goes role.Core a b c ps qs before after = clocked-goes tells a b c ps qs before after
  clockedas-goes role.Abort a b c ps qs before after = after ∙ before
