use Rattle.std.proofs.Common.{◌≡◌, ◌≤◌, length, Some, sym, ap, subst, ◌∙◌}
use Rattle.vx_links.specs.Shown.{link_shown}
use Rattle.std.specs.Prelude.{IfSome}
use Rattle.std.specs.List.{All}
use Rattle.vx_calls.specs.declared.limits.TheConstants.{WRITE_MAX}
use Rattle.vx_rules.specs.Calls.{bytes_of}
use Rattle.vx_rules.specs.Effects.{task_on}
use Rattle.vx_rules.specs.Serving.{IsPlainLink, IsDoable}
use Rattle.vx_state.proofs.Doable.{passed_few, passed_doable, few_any, if_some}
use Rattle.vx_rules.specs.State.{Pending, Tables, pending_at}
use Rattle.vx_state.specs.Held.{kept_call}
use Rattle.vx_state.specs.Rows.{asked_call}
use Rattle.vx_rules.specs.Input.{HasInput}
use Rattle.vx_state.specs.Shown.{named_shown}
use Rattle.vx_state.proofs.JobInput.{passed-input, any_handle}
use Rattle.vx_state.proofs.Closing.{pending_is, seen_pending}
use Rattle.vx_state.proofs.tables.Tables.job.Goals as goal

pub task_on-requires-clause-takes : goal.task_on-requires-clause-takes
task_on-requires-clause-takes c =
    let row = c.held-row.result.now in
    let asked = c.asked_of-asked.result in
    let here : pending_at c.args.self.now c.args.conn ≡ Some (asked_call asked row.text.bytes.items row.handle.bytes.items) =
    sym c.held-row.ensures.pending ∙ seen_pending row asked c.asked_of-asked.ensures in
    let passes = c.requires.passes _ here in
    let input = passed-input c.args.self.now passes.0 c.args.conn (asked_call asked row.text.bytes.items row.handle.bytes.items) (link_shown c.in-On.link) passes.1
    (sym (c.named.ensures row.text.bytes.items row.handle.bytes.items) ∙ ap named_shown c.in-On.is) in
    λ handle. subst (λ bytes. HasInput (kept_call asked.call bytes handle)) (sym c.as_slice.ensures.value) (any_handle asked.call row.text.bytes.items row.handle.bytes.items handle input)

pub task_on-requires-clause-short : goal.task_on-requires-clause-short
task_on-requires-clause-short c =
    let row = c.held-row.result.now in
    let asked = c.asked_of-asked.result in
    let here : pending_at c.args.self.now c.args.conn ≡ Some (asked_call asked row.text.bytes.items row.handle.bytes.items) =
    sym c.held-row.ensures.pending ∙ seen_pending row asked c.asked_of-asked.ensures in
    let passes = c.requires.passes _ here in
    let few = passed_few c.args.self.now passes.0 c.args.conn (asked_call asked row.text.bytes.items row.handle.bytes.items) (link_shown c.in-On.link) passes.1
    (sym (c.named.ensures row.text.bytes.items row.handle.bytes.items) ∙ ap named_shown c.in-On.is) in
    λ handle. subst (λ bytes. length (bytes_of (kept_call asked.call bytes handle)) ≤ WRITE_MAX) (sym c.as_slice.ensures.value)
    (few_any asked.call row.text.bytes.items row.handle.bytes.items handle few)

pub returns-in-On-clause-doable : goal.returns-in-On-clause-doable
returns-in-On-clause-doable c = λ p here.
    let row = c.held-row.result.now in
    let asked = c.asked_of-asked.result in
    let handle = row.handle.bytes.items in
    let q = asked_call asked row.text.bytes.items handle in
    let there : pending_at c.args.self.now c.args.conn ≡ Some q = sym c.held-row.ensures.pending ∙ seen_pending row asked c.asked_of-asked.ensures in
    let passes = c.requires.passes _ there in
    let all = subst (λ (t : Tables). All IsPlainLink t.links.links) c.self.view_is c.self.invariant.plain in
    subst (λ (k : Pending). IfSome c.task_on.result (λ task. IsDoable task (bytes_of k.call)))
    (pending_is row asked (pending_at c.args.self.now c.args.conn) p c.held-row.ensures.pending c.asked_of-asked.ensures here)
    (if_some (λ task. IsDoable task (bytes_of q.call)) c.task_on.result (λ job e.
    passed_doable c.args.self.now passes.0 c.args.conn q (link_shown c.in-On.link) job all passes.1
    (sym (c.named.ensures row.text.bytes.items handle) ∙ ap named_shown c.in-On.is)
    (ap (λ bytes. task_on c.in-On.link.target (kept_call asked.call bytes handle)) (sym c.as_slice.ensures.value) ∙ sym (c.task_on.ensures handle) ∙ e)))
