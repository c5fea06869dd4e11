use Rattle.std.proofs.Common.{length, ap, ◌&&◌, ◌∙◌, take}
use Rattle.std.specs.Str.{bytes_eq}
use Rattle.vx_record.specs.Fragments.{last_header}
use Rattle.vx_history.proofs.Told.{record-test}
use Rattle.vx_history.proofs.replies.is_record_of.Goals as goal

pub returns : goal.returns
returns c =
    let mark = last_header (length c.args.message.now) in
    c.is_marked.ensures
    ∙ ap (λ xs. bytes_eq mark xs && bytes_eq c.args.message.now c.behind.result.now) c.front_of.ensures
    ∙ ap (λ xs. bytes_eq mark (take 4 c.args.bytes.now) && bytes_eq c.args.message.now xs) c.behind.ensures
    ∙ record-test _ _ _ _ c.args.message.now c.args.bytes.now
