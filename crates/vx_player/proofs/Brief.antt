-- A poll of a call that needs no bus: it makes no transfers, and ends with an answer, or with a dial where the call asks for one.
use Rattle.std.proofs.Common.{◌≡◌, ◌≤◌, ℕ, Bool, true, false, cond, List, [], ◌∷◌, ◌++◌, Option, Some, None, refl, sym, ap, ◌∙◌, subst, arith}
use Rattle.std.specs.Prelude.{not, ◌&&◌, ◌||◌, ◌==◌}
use Rattle.std.specs.Option.{option_and_then}
use Rattle.std.proofs.lemmas.Bool.{false≢true, true≢false}
use Rattle.std.proofs.lemmas.Option.{none-some, same_Some}
use Rattle.std.proofs.Math.Bool.{and-false}
use Rattle.vx_calls.specs.Call.{Call}
use Rattle.vx_calls.specs.Call as call
use Rattle.vx_calls.specs.Reply.{Reply}
use Rattle.vx_calls.specs.declared.codes.ErrorCode.{ErrorCode}
use Rattle.vx_calls.specs.declared.codes.ErrorCode.TheVariants as code
use Rattle.vx_488.specs.declared.transfers.Transfer.{Transfer}
use Rattle.vx_plan.specs.declared.tasks.Task.{Task}
use Rattle.vx_rules.specs.Lists.{along}
use Rattle.vx_rules.specs.State.{Pending, Tables, pending_at}
use Rattle.vx_rules.specs.Calls.{is_bus_call, is_lock_call, asks_dial}
use Rattle.vx_rules.specs.Checks.{NamedLink, NoLink, DeadLink, OnLink, named_link, check}
use Rattle.vx_rules.specs.Decide.{BusInput}
use Rattle.vx_rules.specs.Lines.{LockRequest, lock_request, first_ahead, Bar, HeldBy, Behind, bar_by, bar_against, Refused, Waiting, checked_lines, first_lines_in}
use Rattle.vx_rules.specs.Locks.{holder_of}
use Rattle.vx_rules.proofs.Laws.{no-job}
use Rattle.vx_flow.specs.Event.{Event, Answer, Begin, Move, Dial}
use Rattle.vx_flow.specs.InterleavedState.{Turn, InterleavedState, turn_of}
use Rattle.vx_flow.specs.InterleavedStep.{interleaved_step, busy_with, wire_for, job_of, waits_for, bus_input}
use Rattle.vx_flow.specs.Frames.{moment_after}
use Rattle.vx_flow.specs.Sound.{IsSound}
use Rattle.vx_flow.specs.Poll.{Ending, Answered, Waited, Dialed, is_broken, at_moment, moved_events, run_events, end_events, NotYet, EndsBy, Polls}
use Rattle.vx_flow.specs.declared.progress.Why.{Why}
use Rattle.vx_flow.specs.declared.progress.Why.TheVariants as why
use Rattle.vx_flow.specs.Does.{IsAnswered, AnsweredBy, ByAbort, ByNoLink, ByCheck, ByBar, ByDialUp, ByDialDown, ByEffect, ByNoRole, ByFault, ByWhole, ByTimeout}
use Rattle.vx_flow.proofs.Laws.Ways.{no-own-turn, table-begins}
use Rattle.vx_flow.proofs.Laws.{interleaved-does, interleaved-frame, stays_sound-law, turn-own}

-- a call that needs no bus and takes no lock
pub record IsBrief (asked : Call) : Type 0 where
  pub no_bus : is_bus_call asked ≡ false
  pub no_lock : is_lock_call asked ≡ false

-- ---- nothing is under way for it

-- no transfers are made
no-move : (f g : InterleavedState) (conn : ℕ) (moves : List Transfer) → turn_of f.turn conn ≡ None → interleaved_step f (Move conn moves) ≡ Some g → ⊥
no-move f g conn moves none h =
    let d = (interleaved-does f g (Move conn moves) h).step in
    none-some d.turn (sym none ∙ turn-own f.turn conn d.turn d.under_way d.of_call)

-- so the state stays up to the poll's end
pub stays-put : (f behind : InterleavedState) (conn now : ℕ) (p : Pending) (moves : List Transfer) → IsSound f → pending_at f.state.tables conn ≡ Some p
    → is_bus_call p.call ≡ false → along interleaved_step (Some f) (run_events f conn now moves) ≡ Some behind → behind ≡ f
stays-put f behind conn now p moves sound at no_bus h =
    by moves (ap (λ b. along interleaved_step (Some f) (cond b (Begin conn now ∷ []) [] ++ moved_events conn moves)) (sym (table-begins f conn now p at no_bus)) ∙ h)
  where
    by : (moves : List Transfer) → along interleaved_step (Some f) (moved_events conn moves) ≡ Some behind → behind ≡ f
    by [] h = sym (same_Some f behind h)
    by (t ∷ ts) h = absurd (no-move f behind conn (t ∷ ts) (no-own-turn f conn p sound at no_bus) h)

-- ---- nothing keeps it off

-- it isn't under locks
no-request : (own : ℕ) (about : NamedLink) (asked : Call) → IsBrief asked → lock_request own about asked ≡ None
no-request own (OnLink l) asked brief =
    ap (λ b. cond (b || is_lock_call asked) (Some (record { link = l.number; target = l.target })) None) brief.no_bus
    ∙ ap (λ b. cond b (Some (record { link = l.number; target = l.target })) None) brief.no_lock
no-request own NoLink (call.CreateLink client true lock_timeout device) brief = absurd (true≢false brief.no_lock)
no-request own NoLink (call.CreateLink client false lock_timeout device) brief = refl
no-request own NoLink _ brief = refl
no-request own DeadLink asked brief = refl

-- so neither a lock nor a call before it keeps it off
pub no-bar : (t : Tables) (busy : Option ℕ) (own now conn : ℕ) (about : NamedLink) (asked : Call) → IsBrief asked → bar_against t busy own now conn about asked ≡ None
no-bar t busy own now conn about asked brief =
    ap (λ o. bar_by (option_and_then (λ (c : LockRequest). holder_of t.locks c.link c.target) o) (option_and_then (first_ahead t busy now conn) o))
    (no-request own about asked brief)

-- so it never waits for one of them
no-bar-wait : (t : Tables) (busy : Option ℕ) (own conn : ℕ) (p : Pending) (now : ℕ) (bar : Bar) → IsBrief p.call
    → first_lines_in t busy own conn false p now ≡ Waiting bar → ⊥
no-bar-wait t busy own conn p now bar brief h =
    by p.aborted (check t own conn false (named_link t conn p.call) p.call)
    (ap (λ o. cond p.aborted (Refused code.Abort) (checked_lines p now (check t own conn false (named_link t conn p.call) p.call) o))
    (sym (no-bar t busy own now conn (named_link t conn p.call) p.call brief)) ∙ h)
  where
    by : (aborted : Bool) (o : Option ErrorCode) → cond aborted (Refused code.Abort) (checked_lines p now o None) ≡ Waiting bar → ⊥
    by true o h = cc
    by false (Some error) h = cc
    by false None h = cc

-- nor for a turn
no-turn-wait : (t : Tables) (own conn : ℕ) (p : Pending) (u : Turn) → IsBrief p.call → waits_for t own conn p u ≡ true → ⊥
no-turn-wait t own conn p u brief h =
    false≢true
    (sym (and-false (not (u.connection == conn)))
    ∙ ap (λ b. not (u.connection == conn) && b) (sym (neither (is_bus_call p.call) (is_lock_call p.call) _ brief.no_bus brief.no_lock)) ∙ h)
  where
    neither : (a b c : Bool) → a ≡ false → b ≡ false → (a || (b && c)) ≡ false
    neither a b c ha hb = rw (ha, hb) refl

-- it doesn't wait
pub no-wait : (f : InterleavedState) (conn now : ℕ) (p : Pending) (w : Why) → IsBrief p.call → turn_of f.turn conn ≡ None → NotYet f conn now p w → ⊥
no-wait f conn now p (why.Locked link) brief none waits = no-bar-wait f.state.tables (busy_with f.turn) (wire_for f conn).own conn p now (HeldBy link) brief waits
no-wait f conn now p (why.Behind other) brief none waits = no-bar-wait f.state.tables (busy_with f.turn) (wire_for f conn).own conn p now (Behind other) brief waits
no-wait f conn now p (why.Turn other) brief none (passed, u, under_way, of_other, waits) =
    no-turn-wait f.state.tables (wire_for f conn).own conn p u brief waits
no-wait f conn now p why.Held brief none (passed, u, own, later) = none-some u (sym none ∙ own)
no-wait f conn now p why.Slice brief none (passed, u, own) = none-some u (sym none ∙ own)

-- ---- how its poll ends

-- a call was answered in a poll, without a dial
pub record IsAnsweredNow (f : InterleavedState) (conn now : ℕ) (g : InterleavedState) : Type 0 where
  pub from_outside : BusInput
  pub told : Reply
  pub last : InterleavedState
  pub answered : IsAnswered f conn now from_outside told last
  pub undialed : from_outside.dialed ≡ None
  pub sound : IsSound last
  pub late : last.state.moment ≤ now
  pub at_now : g ≡ at_moment last now

-- a dial was asked for
pub record IsDialedNow (f : InterleavedState) (conn now : ℕ) (g : InterleavedState) : Type 0 where
  pub last : InterleavedState
  pub dials : interleaved_step f (Dial conn now) ≡ Some last
  pub late : last.state.moment ≤ now
  pub at_now : g ≡ at_moment last now

-- such a poll doesn't wait
abbrev EndsNow : InterleavedState → ℕ → ℕ → InterleavedState → Ending → Type 0
EndsNow f conn now g (Answered ran level reply) = IsAnsweredNow f conn now g
EndsNow f conn now g (Waited why) = ⊥
EndsNow f conn now g (Dialed host port) = IsDialedNow f conn now g

-- so it ends
ends-now : (f g : InterleavedState) (conn now : ℕ) (p : Pending) (moves : List Transfer) (ending : Ending) → IsSound f → pending_at f.state.tables conn ≡ Some p
    → IsBrief p.call → Polls f conn now moves ending g → EndsNow f conn now g ending
ends-now f g conn now p moves ending sound at brief polls = by ending polls.ends_by polls.ended where
  put : polls.behind ≡ f
  put = stays-put f polls.behind conn now p moves sound at brief.no_bus polls.runs_to

  same : polls.asked ≡ p
  same = same_Some polls.asked p (sym polls.call_at ∙ at)

  now-late : (f last : InterleavedState) (e : Event) → interleaved_step f e ≡ Some last → moment_after f.state.moment e ≡ now → last.state.moment ≤ now
  now-late f last e h is =
      let same = (interleaved-frame f last e h).moment_is in
      omega arith

  by : (ending : Ending) → EndsBy polls.behind conn now polls.asked ending → along interleaved_step (Some polls.behind) (end_events conn now ending) ≡ Some polls.last
      → EndsNow f conn now g ending
  by (Answered ran level reply) ends h =
      let e = Answer conn now (is_broken ran) None level reply in
      let from_here : interleaved_step f e ≡ Some polls.last = subst (λ x. interleaved_step x e ≡ Some polls.last) put h in
      record {
        from_outside = bus_input f conn (is_broken ran) None level;
        told = reply;
        last = polls.last;
        answered = (interleaved-does f polls.last e from_here).step;
        undialed = refl;
        sound = stays_sound-law f polls.last e sound from_here;
        late = now-late f polls.last e from_here refl;
        at_now = polls.at_now;
      }
  by (Waited w) ends h =
      no-wait f conn now p w brief (no-own-turn f conn p sound at brief.no_bus) (subst (λ x. NotYet x conn now p w) put (subst (λ q. NotYet polls.behind conn now q w) same ends))
  by (Dialed host port) ends h =
      let from_here : interleaved_step f (Dial conn now) ≡ Some polls.last = subst (λ x. interleaved_step x (Dial conn now) ≡ Some polls.last) put h in
      record { last = polls.last; dials = from_here; late = now-late f polls.last (Dial conn now) from_here refl; at_now = polls.at_now }

-- one that asks for no dial is answered
pub answered-now : (f g : InterleavedState) (conn now : ℕ) (p : Pending) (moves : List Transfer) (ending : Ending) → IsSound f → pending_at f.state.tables conn ≡ Some p
    → IsBrief p.call → asks_dial p.call ≡ false → Polls f conn now moves ending g → IsAnsweredNow f conn now g
answered-now f g conn now p moves ending sound at brief no_dial polls = by ending (ends-now f g conn now p moves ending sound at brief polls) where
  by : (ending : Ending) → EndsNow f conn now g ending → IsAnsweredNow f conn now g
  by (Answered ran level reply) h = h
  by (Waited w) h = absurd h
  by (Dialed host port) h =
      let d = (interleaved-does f h.last (Dial conn now) h.dials).step in
      absurd (false≢true (sym no_dial ∙ ap (λ (q : Pending). asks_dial q.call) (same_Some p d.asked (sym at ∙ d.call_at)) ∙ d.asks))

-- a create_intr_chan that its own checks let pass isn't answered without a dial
unanswered : (f : InterleavedState) (conn now : ℕ) (p : Pending) (o : BusInput) (told : Reply) (after : Tables) → p.aborted ≡ false → asks_dial p.call ≡ true → IsBrief p.call
    → named_link f.state.tables conn p.call ≡ NoLink → check f.state.tables (wire_for f conn).own conn false (named_link f.state.tables conn p.call) p.call ≡ None
    → o.dialed ≡ None → AnsweredBy f conn now p o told after → ⊥
unanswered f conn now p o told after unmarked dial brief free checked undialed = by where
  no_job : (job : Task) → job_of f.state.tables conn p ≡ Some job → ⊥
  no_job job h = none-some job (sym (no-job (named_link f.state.tables conn p.call) p.call brief.no_bus) ∙ h)

  by : AnsweredBy f conn now p o told after → ⊥
  by (ByAbort marked still stops) = false≢true (sym unmarked ∙ marked)
  by (ByNoLink unmarked dead still stops) = no-dead (sym free ∙ dead) where
    no-dead : NoLink ≡ DeadLink → ⊥
    no-dead h = cc
  by (ByCheck error unmarked lives refused still stops) = none-some error (sym checked ∙ refused)
  by (ByBar bar unmarked passes barred waits still stops) =
      none-some bar (sym (no-bar f.state.tables (busy_with f.turn) (wire_for f conn).own now conn _ p.call brief) ∙ barred)
  by (ByDialUp clear d told_is after_is) = none-some true (sym undialed ∙ d.told_so)
  by (ByDialDown clear d told_is after_is) = none-some false (sym undialed ∙ d.told_so)
  by (ByEffect clear bus no_dial still given) = true≢false (sym dial ∙ no_dial)
  by (ByNoRole job clear has role still stops) = no_job job has
  by (ByFault clear broken stops) = no_job broken.own.job broken.own.has_job
  by (ByWhole clear done) = no_job done.own.job done.own.has_job
  by (ByTimeout clear overdue stops) = no_job overdue.own.job overdue.own.has_job

-- so its dial is asked for
pub dialed-now : (f g : InterleavedState) (conn now : ℕ) (p : Pending) (moves : List Transfer) (ending : Ending) → IsSound f → pending_at f.state.tables conn ≡ Some p
    → IsBrief p.call → p.aborted ≡ false → asks_dial p.call ≡ true → named_link f.state.tables conn p.call ≡ NoLink
    → check f.state.tables (wire_for f conn).own conn false (named_link f.state.tables conn p.call) p.call ≡ None → Polls f conn now moves ending g → IsDialedNow f conn now g
dialed-now f g conn now p moves ending sound at brief unmarked dial free checked polls = by ending (ends-now f g conn now p moves ending sound at brief polls) where
  by : (ending : Ending) → EndsNow f conn now g ending → IsDialedNow f conn now g
  by (Answered ran level reply) h =
      let a = h.answered in
      let same : a.asked ≡ p = same_Some a.asked p (sym a.call_at ∙ at) in
      absurd (unanswered f conn now p h.from_outside h.told a.after unmarked dial brief free checked h.undialed
      (subst (λ q. AnsweredBy f conn now q h.from_outside h.told a.after) same a.line))
  by (Waited w) h = absurd h
  by (Dialed host port) h = h
