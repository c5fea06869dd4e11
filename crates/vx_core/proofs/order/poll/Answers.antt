use Rattle.std.proofs.Common.{max, ap, ◌∙◌, refl}
use Rattle.std.specs.Prelude.{not, ◌&&◌}
use Rattle.vx_core.specs.KernelState.{KernelState}
use Rattle.vx_core.specs.Shown.{interleaved_of}
use Rattle.vx_core.specs.Ending.{has_run}
use Rattle.vx_core.proofs.Hearing.{has-heard, poll-leaves, noted-keeps}
use Rattle.vx_core.proofs.Began.{began-so}
use Rattle.vx_core.proofs.order.poll.Goals as goal

pub answer-ended-requires : goal.answer-ended-requires
answer-ended-requires g c =
    record { heard = has-heard g.B.Bus.means c.args.kernel.now c.hear.new.self c.args.conn c.args.now c.requires.pending c.requires.keeps c.hear.ensures.kept c.hear.ensures.means }

pub returns-clause-keeps : goal.returns-clause-keeps
returns-clause-keeps g c = noted-keeps g.B.Bus.means c.answer-ended.new.kernel c.note_end.new.self c.answer-ended.result _ c.answer-ended.ensures.keeps c.note_end.ensures

pub returns-clause-leaves : goal.returns-clause-leaves
returns-clause-leaves g c =
    poll-leaves g.B.Bus.means g.B.Bus.through g.B.Bus.srq_level g.B.Bus.ndac_level c.args.kernel.now c.hear.new.self c.answer-ended.new.kernel c.note_end.new.self
    c.args.conn c.args.now c.answer-ended.result _ c.requires.keeps c.hear.ensures.kept c.hear.ensures.means c.hear.ensures.walk c.answer-ended.ensures c.note_end.ensures

pub returns-clause-began : goal.returns-clause-began
returns-clause-began g c =
    let k : KernelState g.row.B.Denot = c.args.kernel.now in
    let leaves = poll-leaves g.B.Bus.means g.B.Bus.through g.B.Bus.srq_level g.B.Bus.ndac_level k c.hear.new.self c.answer-ended.new.kernel c.note_end.new.self
    c.args.conn c.args.now c.answer-ended.result _ c.requires.keeps c.hear.ensures.kept c.hear.ensures.means c.hear.ensures.walk c.answer-ended.ensures c.note_end.ensures in
    ap (λ (s : KernelState g.row.B.Denot). s.began) c.note_end.ensures
    ∙ c.began_by-began.ensures
    ∙ ap (λ b. not b && has_run c.answer-ended.result) c.has_turn-had_turn.ensures
    ∙ began-so (interleaved_of g.B.Bus.means k) _ c.args.conn (max k.moment c.args.now) _ k.running k.made c.answer-ended.result _ refl leaves.polls
