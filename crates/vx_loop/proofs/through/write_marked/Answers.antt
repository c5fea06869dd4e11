use Rattle.std.proofs.Common.{sym, ◌∙◌, subst}
use Rattle.vx_client.specs.Message.{call_record}
use Rattle.vx_client.specs.Ending.{TellsCalls}
use Rattle.vx_client.specs.Chunks.{write_call}
use Rattle.vx_loop.specs.LoopState.{LoopState}
use Rattle.vx_loop.specs.Telling.{IsReceive, IsSend}
use Rattle.vx_loop.proofs.through.write_marked.Goals as goal

pub returns-clause-told : goal.returns-clause-told
returns-clause-told g c =
    let text = call_record c.args.client.now.next (write_call c.args.lid c.args.opts.now c.args.flags c.args.bytes.now) in
    subst (λ (new : LoopState). TellsCalls IsReceive IsSend c.args.link.now new text c.write_piece_over-result.result) (sym (c.put_back.ensures ∙ c.into_link.ensures))
    (subst (λ (old : LoopState). TellsCalls IsReceive IsSend old c.write_piece_over-result.new.link text c.write_piece_over-result.result) (c.new-marked.ensures ∙ c.replace.ensures.value)
    c.write_piece_over-result.ensures.told)
