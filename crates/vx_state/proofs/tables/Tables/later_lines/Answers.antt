use Rattle.std.proofs.Common.{◌≡◌, refl, sym, ap, subst, ◌∙◌}
use Rattle.std.specs.Option.{option_and_then}
use Rattle.vx_rules.specs.State.{Pending}
use Rattle.vx_rules.specs.Locks.{holder_of}
use Rattle.vx_rules.specs.Checks as checks
use Rattle.vx_rules.specs.Lines as lines
use Rattle.vx_state.specs.Rows.{pending_of, asked_call}
use Rattle.vx_state.specs.Shown.{lines_shown}
use Rattle.vx_state.proofs.Closing.{pending_is}
use Rattle.vx_state.proofs.tables.Tables.later_lines.Goals as goal

pub returns-in-None : goal.returns-in-None
returns-in-None c = λ p here.
    let t = c.args.self.now in
    let row = c.args.row.now in
    let asked = c.asked_of-asked.result in
    let text = c.as_slice-text.result.now in
    let handle = row.handle.bytes.items in
    let q = asked_call asked text handle in
    let named = c.named-about.ensures text handle in
    let asks = c.lock_request-request.ensures handle ∙ ap (λ a. lines.lock_request c.args.own a q.call) named in
    let checked = ap (λ a. checks.check t c.args.own c.args.conn c.args.settling a q.call) (sym named) ∙ sym (c.check.ensures handle) ∙ c.in-None.is in
    subst (λ (k : Pending). lines_shown c.lock_lines.result ≡ lines.later_lines_in t c.args.busy c.args.own c.args.conn c.args.settling k c.args.now)
    (ap (λ bytes. asked_call asked bytes handle) c.as_slice-text.ensures.value ∙ pending_is row asked (pending_of row) p refl c.asked_of-asked.ensures here)
    (c.lock_lines.ensures text handle
    ∙ ap (lines.lock_lines q c.args.now) (c.bar_against.ensures
    ∙ ap (λ o. lines.bar_by (option_and_then (λ c. holder_of t.locks c.link c.target) o) (option_and_then (lines.first_ahead t c.args.busy c.args.now c.args.conn) o)) asks)
    ∙ ap (λ e. lines.checked_lines q c.args.now e (lines.bar_against t c.args.busy c.args.own c.args.now c.args.conn (checks.named_link t c.args.conn q.call) q.call)) (sym checked))
