use Rattle.std.proofs.Common.{sym, ◌∙◌, subst}
use Rattle.vx_core.specs.KernelState.{KernelState}
use Rattle.vx_core.specs.Turning.{HasTurn}
use Rattle.vx_core.specs.Leaving.{EndsFrom}
use Rattle.vx_core.proofs.Ordering.{goes-on, no-role-ends, has-begun, begun-ends}
use Rattle.vx_core.proofs.order.run.Goals as goal
use Rattle.vx_core.proofs.order.run.Goals.{else-not-has_turn-via-then-not-has_turn+else-not-begin, else-not-has_turn-via-else-not-has_turn}

pub returns-then-not-begin : goal.returns-then-not-begin
returns-then-not-begin g c =
    let off = c.if-not-begin.true in
    no-role-ends g.B.Bus.means g.B.Bus.through g.B.Bus.srq_level g.B.Bus.ndac_level c.args.kernel.now c.begin.new.self c.stop.new.self c.args.conn c.begin.result c.stop.result
    c.requires.heard c.requires.passed (sym c.has_turn.ensures ∙ c.if-not-has_turn.true) c.begin.ensures.role off (c.begin.ensures.none off)
    c.stop.ensures.kept c.stop.ensures.reply c.stop.ensures.within

pub go-requires : goal.go-requires
go-requires g c =
    let P : KernelState g.row.B.Denot → Type 0 = λ k. HasTurn g.B.Bus.means k c.args.conn in
    record {
      turn = elim c.else-not-has_turn.branch [
        | else-not-has_turn-via-then-not-has_turn+else-not-begin w ↦
            let on = w.if-not-begin.false in
            subst P (sym w.kernel-is)
            (has-begun g.B.Bus.means c.args.kernel.now w.begin.new.self c.args.conn w.begin.result c.requires.heard c.requires.passed
            (sym c.has_turn.ensures ∙ w.if-not-has_turn.true) w.begin.ensures.role on (w.begin.ensures.begun on)).turn
        | else-not-has_turn-via-else-not-has_turn w ↦
            subst P (sym w.kernel-is)
            (goes-on g.B.Bus.means c.args.kernel.now c.args.conn c.requires.heard c.requires.passed c.requires.free c.requires.bus
            (sym c.has_turn.ensures ∙ w.if-not-has_turn.false))
      ];
    }

pub returns : goal.returns
returns g c =
    let P : KernelState g.row.B.Denot → Type 0 = λ k. EndsFrom g.B.Bus.means g.B.Bus.through g.B.Bus.srq_level g.B.Bus.ndac_level k c.args.conn c.go.result c.go.new.kernel in
    elim c.else-not-has_turn.branch [
      | else-not-has_turn-via-then-not-has_turn+else-not-begin w ↦
          let on = w.if-not-begin.false in
          begun-ends g.B.Bus.means g.B.Bus.through g.B.Bus.srq_level g.B.Bus.ndac_level c.args.kernel.now w.begin.new.self c.go.new.kernel c.args.conn c.go.result
          (has-begun g.B.Bus.means c.args.kernel.now w.begin.new.self c.args.conn w.begin.result c.requires.heard c.requires.passed
          (sym c.has_turn.ensures ∙ w.if-not-has_turn.true) w.begin.ensures.role on (w.begin.ensures.begun on))
          (subst P w.kernel-is c.go.ensures)
      | else-not-has_turn-via-else-not-has_turn w ↦ subst P w.kernel-is c.go.ensures
    ]
