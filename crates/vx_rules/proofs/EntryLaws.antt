-- The laws of the gateway of one thread.
use Rattle.std.proofs.Common.{◌≡◌, ℕ, Bool, List, Option, Some, sym, ap, ◌∙◌}
use Rattle.std.proofs.lemmas.Bool.{and_parts}
use Rattle.std.proofs.lemmas.Option.{cond_some, same_Some, option_and_then_some}
use Rattle.vx_lemmas.proofs.Laws.Conditions.{chosen}
use Rattle.vx_calls.specs.Reply.{Reply}
use Rattle.vx_calls.proofs.Laws.{same_reply-is, same_error-is}
use Rattle.vx_488.specs.declared.transfers.Transfer.{Transfer}
use Rattle.vx_rules.specs.SrqState.{given, taken}
use Rattle.vx_rules.specs.State.{State}
use Rattle.vx_rules.specs.Entry.{Answer}
use Rattle.vx_rules.specs.Decide.{BusInput}
use Rattle.vx_rules.specs.AtomicStep.{atomic_step, answer, if_reply, abort_reply, abort_tables}
use Rattle.vx_rules.specs.Laws.{OneReplyLaw, OneAbortLaw, OneTakeLaw, LinkNumbersLaw, LocksApartLaw, ArrivalsLaw}
use Rattle.vx_rules.proofs.Laws.{same_given-is}
use Rattle.vx_rules.proofs.Laws.Walks.{legal-sound}
use Rattle.vx_rules.proofs.Laws.Ordered.{legal-ordered}

-- an Answer gives the reply and the state that were found
pub record GivesAnswer (s : State) (conn now : ℕ) (o : BusInput) (told : Reply) (t : State) : Type 0 where
  pub found : answer s conn now o ≡ Some (told, t)

pub answer-given : (s t : State) (conn now begun : ℕ) (moves : List Transfer) (failed : Bool) (dialed : Option Bool) (level : Bool) (told : Reply)
    → atomic_step s (Answer conn now begun moves failed dialed level told) ≡ Some t
    → GivesAnswer s conn now (record { begun = begun; moves = moves; failed = failed; dialed = dialed; level = level }) told t
answer-given s t conn now begun moves failed dialed level told h =
    let o : BusInput = record { begun = begun; moves = moves; failed = failed; dialed = dialed; level = level } in
    option_and_then_some (if_reply told) (answer s conn now o) t (chosen _ _ t h).1 (λ result e f.
    let parts = cond_some _ result.1 t f in
    record { found = e ∙ ap (λ r. Some (r, result.1)) (same_reply-is result.0 told parts.0) ∙ ap (λ u. Some (told, u)) parts.1 })

pub one_reply-law : OneReplyLaw
one_reply-law s t u conn now begun moves failed dialed level told other first second =
    let a = answer-given s t conn now begun moves failed dialed level told first in
    let b = answer-given s u conn now begun moves failed dialed level other second in
    let same = same_Some (told, t) (other, u) (sym a.found ∙ b.found) in
    (ap (λ x. x.0) same, ap (λ x. x.1) same)

pub one_abort-law : OneAbortLaw
one_abort-law s t u conn lid told other first second =
    let a = cond_some _ (record s { tables = abort_tables s.tables lid }) t first in
    let b = cond_some _ (record s { tables = abort_tables s.tables lid }) u second in
    (sym (same_error-is (abort_reply s.tables lid) told (and_parts _ _ a.0).1) ∙ same_error-is (abort_reply s.tables lid) other (and_parts _ _ b.0).1, sym a.1 ∙ b.1)

pub one_take-law : OneTakeLaw
one_take-law s t u conn chan told other first second =
    let a = cond_some _ (record s { tables = record s.tables { srq_state = taken s.tables.srq_state conn chan } }) t first in
    let b = cond_some _ (record s { tables = record s.tables { srq_state = taken s.tables.srq_state conn chan } }) u second in
    (sym (same_given-is (given s.tables.srq_state conn chan) told (and_parts _ _ a.0).1) ∙ same_given-is (given s.tables.srq_state conn chan) other (and_parts _ _ b.0).1, sym a.1 ∙ b.1)

pub link_numbers-law : LinkNumbersLaw
link_numbers-law abort_port history s h =
    let sound = legal-sound abort_port history s h in
    (sound.numbered.rising, λ k d i. (sound.numbered.given k d i).1)

pub locks_apart-law : LocksApartLaw
locks_apart-law abort_port history s h = (legal-sound abort_port history s h).apart

pub arrivals-law : ArrivalsLaw
arrivals-law abort_port history s h =
    let sound = legal-sound abort_port history s h in
    (sound.once, sound.waiting, (legal-ordered abort_port history s h).ordered)
