use Rattle.std.proofs.Common.{Some, ap, ◌∙◌}
use Rattle.std.specs.Prelude.{option_map}
use Rattle.vx_lemmas.proofs.Laws.Slices.{behind-mark}
use Rattle.vx_portmap.specs.declared.limits.TheConstants.{MESSAGE_MAX}
use Rattle.vx_record.specs.Fragments.{record_of}
use Rattle.vx_portmap.proofs.sending.put_record.Goals as goal

pub returns-in-Reply-clause-record : goal.returns-in-Reply-clause-record
returns-in-Reply-clause-record c =
    ap Some
    (c.close_record.ensures.record
    ∙ ap record_of (behind-mark c.args.out.now c.map_answer.new.out c.in-Reply.len MESSAGE_MAX c.requires c.map_answer.auto.out c.in-Reply.ensures.within.1))
    ∙ ap (option_map record_of) c.in-Reply.ensures.answer
