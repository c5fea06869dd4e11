-- What the first lines' letting pass says to those who serve the call.
use Rattle.std.proofs.Common.{◌≡◌, ℕ, Bool, true, false, cond, Option, Some, None, refl, ap, ◌∙◌}
use Rattle.std.specs.Prelude.{is_none}
use Rattle.std.specs.Option.{option_map}
use Rattle.std.proofs.lemmas.Bool.{false≢true}
use Rattle.vx_calls.specs.declared.codes.ErrorCode.{ErrorCode}
use Rattle.vx_calls.specs.declared.codes.ErrorCode.TheVariants as code
use Rattle.vx_calls.specs.Call.{Call}
use Rattle.vx_calls.specs.Call as call
use Rattle.vx_rules.specs.State.{Pending, Tables}
use Rattle.vx_rules.specs.Calls.{asks_dial}
use Rattle.vx_rules.specs.Checks.{named_link, check}
use Rattle.vx_rules.specs.Lines.{Behind, Refused, Passed, bar_by, checks_pass, checked_lines}
use Rattle.vx_rules.specs.Serving.{can_settle}
use Rattle.vx_rules.specs.PassLaws.{PassedLets, LetsPass, PassedSettles}
use Rattle.vx_rules.proofs.Laws.Walks.{passed-says}
use Rattle.vx_rules.proofs.Laws.Passing.{lets-says}

both_none : (checked : Option ErrorCode) (holder : Option ℕ) → checked ≡ None → holder ≡ None → checks_pass checked holder ≡ true
both_none checked holder c h = ap (λ x. checks_pass x holder) c ∙ ap (checks_pass None) h

pub passed_lets : PassedLets
passed_lets t busy own conn now p h = let says = passed-says p now p.aborted _ _ _ h in both_none _ _ says.checks says.locks

passes_now : (p : Pending) (now : ℕ) (aborted : Bool) (checked : Option ErrorCode) (holder first : Option ℕ) → aborted ≡ false → checked ≡ None → holder ≡ None
    → first ≡ None → cond aborted (Refused code.Abort) (checked_lines p now checked (bar_by holder first)) ≡ Passed
passes_now p now aborted checked holder first a c h f =
    ap (λ x. cond x (Refused code.Abort) (checked_lines p now checked (bar_by holder first))) a ∙ ap (λ x. checked_lines p now x (bar_by holder first)) c
    ∙ ap (λ x. checked_lines p now None (bar_by x first)) h ∙ ap (λ x. checked_lines p now None (option_map Behind x)) f

none_first : (o : Option ℕ) → is_none o ≡ true → o ≡ None
none_first None h = refl
none_first (Some n) h = absurd (false≢true h)

pub lets_pass-law : LetsPass
lets_pass-law t own conn now p lets first unmarked =
    let says = lets-says _ _ lets in passes_now p now p.aborted _ _ _ unmarked says.checks says.locks (none_first _ first)

settles_call : (t : Tables) (own conn : ℕ) (asked : Call) → check t own conn true (named_link t conn asked) asked ≡ None → asks_dial asked ≡ true → can_settle t conn asked ≡ true
settles_call t own conn (call.CreateIntr host port prog vers family) checks dial = ap is_none checks
settles_call t own conn _ checks dial = absurd (false≢true dial)

pub passed_settles : PassedSettles
passed_settles t own conn now p h dial = settles_call t own conn p.call (passed-says p now p.aborted _ _ _ h).checks dial
