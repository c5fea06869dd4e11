use Rattle.std.proofs.Common.{◌≡◌, true, Some, sym, ◌∙◌, subst}
use Rattle.std.specs.Prelude.{is_some}
use Rattle.vx_rules.specs.State.{Pending, pending_at}
use Rattle.vx_rules.specs.Calls.{bytes_of, is_bus_call}
use Rattle.vx_core.specs.declared.running.Running.{Running}
use Rattle.vx_core.specs.KernelState.{KernelState}
use Rattle.vx_core.specs.Keeping.{Holds}
use Rattle.vx_core.specs.Turning.{HasPassed, BeginsTurn}
use Rattle.vx_core.proofs.Laws.{the_pending}
use Rattle.vx_core.proofs.Turning.{kernel_of, passes, no-job, begins-turn, doable-some}
use Rattle.vx_core.proofs.kernel.Kernel.begin.Goals as goal

pub job-requires-clause-passes : goal.job-requires-clause-passes
job-requires-clause-passes g c =
    let i = c.self.inside in
    let k : KernelState g.row.B.Denot = kernel_of i.bus i.tables i.moment i.running i.before i.made.items i.room.items i.dialed.items i.last i.began in
    let P : KernelState g.row.B.Denot → Type 0 = λ k. HasPassed g.B.Bus.means k c.args.conn in
    passes g.B.Bus.means k c.args.conn c.passed_calls.ensures.passed (subst P (sym c.self.view_is) c.requires.passed)

pub unreachable-requires : goal.unreachable-requires
unreachable-requires g c =
    let i = c.self.inside in
    let k : KernelState g.row.B.Denot = kernel_of i.bus i.tables i.moment i.running i.before i.made.items i.room.items i.dialed.items i.last i.began in
    let P : KernelState g.row.B.Denot → Type 0 = λ k. HasPassed g.B.Bus.means k c.args.conn in
    let Q : KernelState g.row.B.Denot → Type 0 = λ k. (p : Pending) → pending_at k.tables c.args.conn ≡ Some p → is_bus_call p.call ≡ true in
    let R : KernelState g.row.B.Denot → Type 0 = λ k. is_some (pending_at k.tables c.args.conn) ≡ true in
    let p = the_pending (pending_at k.tables c.args.conn) (subst R (sym c.self.view_is) c.requires.pending) in
    let lets = passes g.B.Bus.means k c.args.conn c.passed_calls.ensures.passed (subst P (sym c.self.view_is) c.requires.passed) p.0 p.1 in
    no-job k.tables lets.0 c.args.conn p.0 lets.1 (subst Q (sym c.self.view_is) c.requires.bus p.0 p.1) (sym (c.job.ensures.job p.0 p.1) ∙ c.in_default.is)

pub begin-requires-clause-plain : goal.begin-requires-clause-plain
begin-requires-clause-plain g c =
    let i = c.self.inside in
    let R : KernelState g.row.B.Denot → Type 0 = λ k. is_some (pending_at k.tables c.args.conn) ≡ true in
    let p = the_pending (pending_at i.tables c.args.conn) (subst R (sym c.self.view_is) c.requires.pending) in
    let doable = doable-some c.job.result c.in-Some.job (bytes_of p.0.call) (c.job.ensures.doable p.0 p.1) c.in-Some.is in
    doable.plain

pub returns-then-has_role-clause-begun : goal.returns-then-has_role-clause-begun
returns-then-has_role-clause-begun g c = λ yes.
    let i = c.self.inside in
    let k : KernelState g.row.B.Denot = kernel_of i.bus i.tables i.moment i.running i.before i.made.items i.room.items i.dialed.items i.last i.began in
    let R : KernelState g.row.B.Denot → Type 0 = λ k. is_some (pending_at k.tables c.args.conn) ≡ true in
    let H : KernelState g.row.B.Denot → Type 0 = λ k. Holds g.B.Bus.means k in
    let p = the_pending (pending_at i.tables c.args.conn) (subst R (sym c.self.view_is) c.requires.pending) in
    let doable = doable-some c.job.result c.in-Some.job (bytes_of p.0.call) (c.job.ensures.doable p.0 p.1) c.in-Some.is in
    let running : Running = record { conn = c.args.conn; turn = c.begin.result } in
    let P : KernelState g.row.B.Denot → Type 0 = λ old. BeginsTurn g.B.Bus.means old c.args.conn
    (record k { running = Some running; before = c.wire-wire.result; made = c.clear.new.self.items }) in
    subst P c.self.view_is (begins-turn g.B.Bus.means k c.args.conn c.begin.result c.wire-wire.result c.clear.new.self.items c.in-Some.job p.0
    (subst H (sym c.self.view_is) c.requires.holds) p.1 (sym (c.job.ensures.job p.0 p.1) ∙ c.in-Some.is) doable c.wire-wire.ensures c.clear.ensures.items
    c.begin.ensures.task c.begin.ensures.begun c.begin.ensures.nothing c.begin.ensures.holds)
