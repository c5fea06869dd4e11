-- What a call's polls tell of links: its answer comes by one of the lines, and a link is made by its effect alone.
use Rattle.std.proofs.Common.{◌≡◌, ◌≤◌, ◌==◌, ◌++◌, ℕ, Bool, true, false, cond, List, [], ◌∷◌, Option, Some, None, Result, Ok, Err, refl, sym, ap, ◌∙◌, subst, arith, ℤ}
use Rattle.std.specs.Prelude.{is_some}
use Rattle.std.proofs.lemmas.Bool.{false≢true}
use Rattle.std.proofs.lemmas.Bool.Decides.{nat_tests}
use Rattle.std.proofs.lemmas.Option.{none-some, same_Some}
use Rattle.vx_lemmas.proofs.Laws.Conditions.{unchosen}
use Rattle.vx_calls.specs.declared.limits.TheConstants.{LINK_LAST}
use Rattle.vx_calls.specs.declared.calls.Role.TheVariants as role
use Rattle.vx_calls.specs.declared.codes.ErrorCode.{ErrorCode}
use Rattle.vx_calls.specs.declared.codes.ErrorCode.TheVariants as code
use Rattle.vx_calls.specs.declared.targets.Target.{Target}
use Rattle.vx_calls.specs.ErrorCode.{error_number}
use Rattle.vx_calls.specs.Target.{comma_parts, target}
use Rattle.vx_calls.specs.Call.{Call}
use Rattle.vx_calls.specs.Call as call
use Rattle.vx_calls.specs.Reply.{Reply}
use Rattle.vx_calls.specs.Reply as reply
use Rattle.vx_488.specs.Steps.{Step}
use Rattle.vx_488.specs.declared.bus.Bus.{Ghosts}
use Rattle.vx_rules.specs.Table.{is_full}
use Rattle.vx_rules.specs.Lists.{along}
use Rattle.vx_rules.proofs.Laws.Lists.{along-none}
use Rattle.vx_rules.specs.State.{Pending, Tables, pending_at}
use Rattle.vx_rules.specs.Calls.{asks_dial}
use Rattle.vx_rules.proofs.Laws.Rows.{pending-put}
use Rattle.vx_rules.proofs.Laws.Naming.{IsError, NamesWell, parts-well}
use Rattle.vx_rules.specs.Checks.{NamedLink, NoLink, DeadLink, OnLink, named_link, check_create, check}
use Rattle.vx_rules.specs.Effects.{task_of, stopped_reply, create, effect}
use Rattle.vx_rules.specs.Decide.{BusInput}
use Rattle.vx_rules.specs.AtomicStep.{arrived}
use Rattle.vx_flow.specs.Event.{Event, Arrive, Answer, Begin, Move, Dial}
use Rattle.vx_flow.specs.InterleavedState.{InterleavedState}
use Rattle.vx_flow.specs.InterleavedStep.{wire_for, bus_input, interleaved_step}
use Rattle.vx_flow.specs.Does.{AnsweredBy, ByAbort, ByNoLink, ByCheck, ByBar, ByDialUp, ByDialDown, ByEffect, ByNoRole, ByFault, ByWhole, ByTimeout}
use Rattle.vx_flow.specs.Poll as poll
use Rattle.vx_flow.specs.Poll.{Ending, Waited, Dialed, Polls, begins, moved_events, is_broken}
use Rattle.vx_flow.proofs.Laws.{interleaved-does, interleaved-frame}
use Rattle.vx_core.specs.CoreState.{CoreState}
use Rattle.vx_session.specs.Parts.{IsSessionPolled}
use Rattle.vx_session.specs.LinkLaws.{TellsLinks}

-- ---- what refuses a call is an error

-- a device text that names nothing
refused-well : (text : List ℕ) (own : ℕ) (e : ErrorCode) → target text own ≡ Err e → IsError e
refused-well text own e is = subst NamesWell is (parts-well own (comma_parts text))

-- a create_link
abbrev makes_link : Call → Bool
makes_link (call.CreateLink client lock lock_timeout device) = true
makes_link _ = false

-- a call that ends with an error made no link
stopped-tells : (asked : Call) (error : ErrorCode) (moves : _) → (makes_link asked ≡ true → IsError error) → TellsLinks asked (stopped_reply asked error moves)
stopped-tells (call.CreateLink client lock lock_timeout device) error moves h = λ none. absurd (false≢true (sym (h refl) ∙ none))
stopped-tells (call.DestroyLink lid) error moves h = tt
stopped-tells _ error moves h = tt

-- nor did one that a check refuses
refused-tells : (t : Tables) (device : List ℕ) (own : ℕ) (error : ErrorCode) (r : Result Target ErrorCode) → target device own ≡ r → check_create t r ≡ Some error → (error_number error == 0) ≡ true
    → (0 ≤ LINK_LAST) × (at : ℕ) × (named : Target) × (target device at ≡ Ok named)
refused-tells t device own error (Ok named) is checked none = (omega arith, own, named, is)
refused-tells t device own error (Err e) is checked none =
    absurd (false≢true (sym (subst IsError (same_Some e error checked) (refused-well device own e is)) ∙ none))

check-tells : (t : Tables) (own conn : ℕ) (settling : Bool) (asked : Call) (error : ErrorCode) (moves : _) → check t own conn settling (named_link t conn asked) asked ≡ Some error
    → TellsLinks asked (stopped_reply asked error moves)
check-tells t own conn settling (call.CreateLink client lock lock_timeout device) error moves checked = λ none. refused-tells t device own error (target device own) refl checked none
check-tells t own conn settling (call.DestroyLink lid) error moves checked = tt
check-tells t own conn settling _ error moves checked = tt

-- ---- the effects

-- a link is made
made-tells : (t after : Tables) (own conn : ℕ) (client : ℤ) (lock : Bool) (lock_timeout : ℕ) (device : List ℕ) (told : Reply) (r : Result Target ErrorCode) → target device own ≡ r
    → check_create t r ≡ None → create t conn lock r ≡ Some (told, after) → TellsLinks (call.CreateLink client lock lock_timeout device) told
made-tells t after own conn client lock lock_timeout device told (Err e) is checked given = absurd (none-some (told, after) given)
made-tells t after own conn client lock lock_timeout device told (Ok named) is checked given =
    let room : is_full t.links ≡ false = unchosen (is_full t.links) code.NoResources checked in
    let same : reply.CreateLink code.Ok t.links.next t.abort_port _ ≡ told = ap (λ d. d.0) (same_Some _ (told, after) given) in
    subst (TellsLinks (call.CreateLink client lock lock_timeout device)) same (λ none. (low room, own, named, is))
  where
    low : is_full t.links ≡ false → t.links.next ≤ LINK_LAST
    low h = grind (arith, nat_tests)

-- one is destroyed
destroyed-tells : (t after : Tables) (own conn lid : ℕ) (about : NamedLink) (told : Reply) → effect t own conn about (call.DestroyLink lid) ≡ Some (told, after) → TellsLinks (call.DestroyLink lid) told
destroyed-tells t after own conn lid NoLink told given = absurd (none-some (told, after) given)
destroyed-tells t after own conn lid DeadLink told given = absurd (none-some (told, after) given)
destroyed-tells t after own conn lid (OnLink l) told given =
    subst (TellsLinks (call.DestroyLink lid)) (ap (λ d. d.0) (same_Some (reply.Error code.Ok, _) (told, after) given)) tt

effect-tells : (t after : Tables) (own conn : ℕ) (settling : Bool) (asked : Call) (told : Reply) → check t own conn settling (named_link t conn asked) asked ≡ None
    → effect t own conn (named_link t conn asked) asked ≡ Some (told, after) → TellsLinks asked told
effect-tells t after own conn settling (call.CreateLink client lock lock_timeout device) told checked given =
    made-tells t after own conn client lock lock_timeout device told (target device own) refl checked given
effect-tells t after own conn settling (call.DestroyLink lid) told checked given = destroyed-tells t after own conn lid (named_link t conn (call.DestroyLink lid)) told given
effect-tells t after own conn settling _ told checked given = tt

-- ---- the other lines

-- neither call has a job
job-tells : (asked : Call) (about : NamedLink) (told : Reply) → is_some (task_of about asked) ≡ true → TellsLinks asked told
job-tells (call.CreateLink client lock lock_timeout device) NoLink told h = absurd (false≢true h)
job-tells (call.CreateLink client lock lock_timeout device) _ told h = absurd (false≢true h)
job-tells (call.DestroyLink lid) NoLink told h = absurd (false≢true h)
job-tells (call.DestroyLink lid) _ told h = absurd (false≢true h)
job-tells _ about told h = tt

-- a call that asks for a dial is neither
pub dial-tells : (asked : Call) (told : Reply) → asks_dial asked ≡ true → TellsLinks asked told
dial-tells (call.CreateLink client lock lock_timeout device) told h = absurd (false≢true h)
dial-tells (call.DestroyLink lid) told h = absurd (false≢true h)
dial-tells _ told h = tt

-- an answer, by whichever line
line-tells : (f : InterleavedState) (conn now : ℕ) (p : Pending) (o : BusInput) (told : Reply) (after : Tables) → AnsweredBy f conn now p o told after → TellsLinks p.call told
line-tells f conn now p o told after (ByAbort marked still stops) = subst (TellsLinks p.call) (sym stops.reply_is) (stopped-tells p.call code.Abort o.moves (λ h. refl))
line-tells f conn now p o told after (ByNoLink unmarked dead still stops) = subst (TellsLinks p.call) (sym stops.reply_is) (stopped-tells p.call code.InvalidLink o.moves (λ h. refl))
line-tells f conn now p o told after (ByCheck error unmarked lives checked still stops) =
    subst (TellsLinks p.call) (sym stops.reply_is) (check-tells f.state.tables (wire_for f conn).own conn false p.call error o.moves checked)
line-tells f conn now p o told after (ByBar bar unmarked checked kept waits still stops) = subst (TellsLinks p.call) (sym stops.reply_is) (stopped-tells p.call code.Locked o.moves (λ h. refl))
line-tells f conn now p o told after (ByDialUp clear d told_is after_is) = dial-tells p.call told (ap asks_dial d.asks)
line-tells f conn now p o told after (ByDialDown clear d told_is after_is) = dial-tells p.call told (ap asks_dial d.asks)
line-tells f conn now p o told after (ByEffect clear bus dial still given) = effect-tells f.state.tables after (wire_for f conn).own conn false p.call told clear.admitted.checked given
line-tells f conn now p o told after (ByNoRole job clear has role still stops) = subst (TellsLinks p.call) (sym stops.reply_is) (stopped-tells p.call code.BusFault o.moves (λ h. refl))
line-tells f conn now p o told after (ByFault clear broken stops) = subst (TellsLinks p.call) (sym stops.reply_is) (stopped-tells p.call code.BusFault o.moves (λ h. refl))
line-tells f conn now p o told after (ByWhole clear done) = job-tells p.call (named_link f.state.tables conn p.call) told (ap is_some done.own.has_job)
line-tells f conn now p o told after (ByTimeout clear overdue stops) = subst (TellsLinks p.call) (sym stops.reply_is) (stopped-tells p.call code.Timeout o.moves (λ h. refl))

-- ---- polls

-- this is the connection's call without an answer
pub record HasCall (f : InterleavedState) (conn : ℕ) (call : Call) : Type 0 where
  pub pending : Pending
  pub call_at : pending_at f.state.tables conn ≡ Some pending
  pub call_is : pending.call ≡ call

-- what the end of a poll tells of links
abbrev pub EndTells : Call → Ending → Type 0
EndTells call (poll.Answered ran level told) = TellsLinks call told
EndTells call (Waited why) = Unit {0}
EndTells call (Dialed host port) = asks_dial call ≡ true

-- the call without an answer that the state has of the connection is this one
same-call : (f : InterleavedState) (conn : ℕ) (call : Call) (p : Pending) → HasCall f conn call → pending_at f.state.tables conn ≡ Some p → p.call ≡ call
same-call f conn call p has at = ap (λ (q : Pending). q.call) (same_Some p has.pending (sym at ∙ has.call_at)) ∙ has.call_is

-- the end of a poll
end-tells : (f g : InterleavedState) (conn now : ℕ) (call : Call) (ending : Ending) → HasCall f conn call → along interleaved_step (Some f) (poll.end_events conn now ending) ≡ Some g → EndTells call ending
end-tells f g conn now call (poll.Answered ran level told) has h =
    let d = (interleaved-does f g (Answer conn now (is_broken ran) None level told) h).step in
    subst (λ c. TellsLinks c told) (same-call f conn call d.asked has d.call_at) (line-tells f conn now d.asked (bus_input f conn (is_broken ran) None level) told d.after d.line)
end-tells f g conn now call (Waited why) has h = tt
end-tells f g conn now call (Dialed host port) has h =
    let d = (interleaved-does f g (Dial conn now) h).step in
    subst (λ c. asks_dial c ≡ true) (same-call f conn call d.asked has d.call_at) d.asks

-- a beginning and transfers leave the tables
moved-tables : (f g : InterleavedState) (conn : ℕ) (moves : _) → along interleaved_step (Some f) (moved_events conn moves) ≡ Some g → g.state.tables ≡ f.state.tables
moved-tables f g conn [] h = ap (λ (x : InterleavedState). x.state.tables) (sym (same_Some f g h))
moved-tables f g conn (t ∷ ts) h = (interleaved-frame f g (Move conn (t ∷ ts)) h).tables

-- and so do both
run-tables : (f g : InterleavedState) (conn now : ℕ) (begun : Bool) (moves : _) → along interleaved_step (Some f) (cond begun (Begin conn now ∷ []) [] ++ moved_events conn moves) ≡ Some g
    → g.state.tables ≡ f.state.tables
run-tables f g conn now false moves h = moved-tables f g conn moves h
run-tables f g conn now true moves h = by (interleaved_step f (Begin conn now)) refl h where
  by : (o : Option InterleavedState) → interleaved_step f (Begin conn now) ≡ o → along interleaved_step o (moved_events conn moves) ≡ Some g → g.state.tables ≡ f.state.tables
  by None is rest = absurd (none-some g (sym (along-none interleaved_step (moved_events conn moves)) ∙ rest))
  by (Some mid) is rest = moved-tables mid g conn moves rest ∙ (interleaved-frame f mid (Begin conn now) is).tables

-- a poll
pub polled-tells : {B : Type 0} (g : Ghosts B) (before : CoreState B) (conn now : ℕ) (ending : Ending) (events : List Event) (steps : List Step) (call : Call) → HasCall before.interleaved conn call
    → IsSessionPolled g before conn now ending events steps → EndTells call ending
polled-tells g before conn now ending events steps call has polled =
    let p = polled.over.polls in
    let same = run-tables before.interleaved p.behind conn now (begins before.interleaved conn now) (g.means polled.after.bus).moves p.runs_to in
    end-tells p.behind p.last conn now call ending
    (record { pending = has.pending; call_at = ap (λ (t : Tables). pending_at t conn) same ∙ has.call_at; call_is = has.call_is }) p.ended

-- a call that came is its connection's
pub come-call : (f g : InterleavedState) (conn now : ℕ) (call : Call) → interleaved_step f (Arrive conn call now) ≡ Some g → HasCall g conn call
come-call f g conn now call h =
    let d = (interleaved-does f g (Arrive conn call now) h).step in
    record {
      pending = arrived call now;
      call_at = ap (λ (x : InterleavedState). pending_at x.state.tables conn) d.leads ∙ pending-put f.state.tables conn (Some (arrived call now)) role.Core d.core;
      call_is = refl;
    }
