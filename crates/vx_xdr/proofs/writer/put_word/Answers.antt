use Rattle.std.proofs.Common.{◌-◌, length, refl, ap, ◌∙◌}
use borrow.Rule.Slice.PartMut.{put_mid}
use Rattle.vx_xdr.specs.Spelling.{word}
use Rattle.vx_xdr.proofs.Overwrites.{overwritten-tail}
use Rattle.vx_xdr.proofs.writer.put_word.Goals as goal

pub returns : goal.returns
returns c =
    let k = length c.args.out.now - c.args.at in
    ap (put_mid c.args.at k c.args.out.now) c.write_u32.ensures ∙ overwritten-tail c.args.out.now c.args.at k 4 (word c.args.value) refl refl
