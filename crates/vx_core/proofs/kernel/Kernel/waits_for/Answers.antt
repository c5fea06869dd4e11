use Rattle.std.proofs.Common.{◌≡◌, ◌==◌, true, Option, Some, sym, ap, ◌∙◌, subst}
use Rattle.std.specs.Prelude.{is_some, not}
use Rattle.vx_rules.specs.State.{Pending, pending_at}
use Rattle.vx_state.specs.declared.tables.lines.Request.{Request}
use Rattle.vx_flow.specs.InterleavedState.{Turn}
use Rattle.vx_flow.specs.InterleavedStep.{wire_for, waits_for}
use Rattle.vx_core.specs.KernelState.{KernelState}
use Rattle.vx_core.specs.Shown.{interleaved_of, own_of, turn_shown}
use Rattle.vx_core.specs.Keeping.{Holds}
use Rattle.vx_core.proofs.Laws.{the_pending}
use Rattle.vx_core.proofs.Turning.{kernel_of, conflicting, waits-for-is}
use Rattle.vx_core.proofs.kernel.Kernel.waits_for.Goals as goal

pub returns-in-Some-Some : goal.returns-in-Some-Some
returns-in-Some-Some g c =
    let i = c.self.inside in
    let k : KernelState g.row.B.Denot = kernel_of i.bus i.tables i.moment i.running i.before i.made.items i.room.items i.dialed.items i.last i.began in
    let P : KernelState g.row.B.Denot → Type 0 = λ k. (p : Pending) (u : Turn) → pending_at k.tables c.args.conn ≡ Some p → turn_shown k.running k.made ≡ Some u
    → c.conflicts.result ≡ waits_for k.tables (wire_for (interleaved_of g.B.Bus.means k) c.args.conn).own c.args.conn p u in
    let H : KernelState g.row.B.Denot → Type 0 = λ k. Holds g.B.Bus.means k in
    let R : KernelState g.row.B.Denot → Type 0 = λ k. is_some (pending_at k.tables c.args.other) ≡ true in
    let T : KernelState g.row.B.Denot → Type 0 = λ k. (v : Turn) × ((interleaved_of g.B.Bus.means k).turn ≡ Some v) × (v.connection ≡ c.args.other) × (not (c.args.other == c.args.conn) ≡ true) in
    let O : KernelState g.row.B.Denot → Type 0 = λ k. c.own_for.result ≡ own_of g.B.Bus.means k c.args.conn in
    let q = the_pending (pending_at i.tables c.args.other) (subst R (sym c.self.view_is) c.requires.under) in
    let asked : Option Request = c.lock_request-asked.result in
    let held : Option Request = c.lock_request-held.result in
    let clash : conflicting asked held ≡ c.conflicts.result =
    ap (λ x. conflicting x held) c.in-Some-Some.is-0 ∙ ap (conflicting (Some c.in-Some-Some.asked)) c.in-Some-Some.is-1 ∙ sym c.conflicts.ensures in
    subst P c.self.view_is (λ p u at e.
    sym (waits-for-is g.B.Bus.means k c.args.conn c.args.other p q.0 u c.own_for.result i.before.own asked held
    (subst H (sym c.self.view_is) c.requires.holds) (subst T (sym c.self.view_is) c.requires.turn) e q.1 (sym (c.is_bus_call.ensures p at) ∙ c.if-is_bus_call.false)
    (subst O (sym c.self.view_is) c.own_for.ensures)
    (c.lock_request-asked.ensures p at) (c.lock_request-held.ensures q.0 q.1) ∙ clash))
