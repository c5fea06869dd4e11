use Rattle.std.proofs.Common.{◌++◌, take, drop, ap, ◌∙◌, arith}
use Rattle.vx_xdr.specs.Spelling.{word}
use Rattle.vx_desks.specs.Replying.{told_number}
use Rattle.vx_desks.proofs.Renumbered.{renumbered-is}
use Rattle.vx_desks.proofs.routes.replies.renumber.Goals as goal

pub returns : goal.returns
returns c =
    renumbered-is c.args.bus c.args.bytes.now c.write_u32.new.buf (omega (arith, c.if-bytes.false))
    (c.write_u32.ensures
    ∙ ap (λ n. word n ++ drop 4 (take 4 (drop 32 c.args.bytes.now))) (c.told_number-told.ensures ∙ ap (told_number c.args.bus) c.read_u32.ensures))
