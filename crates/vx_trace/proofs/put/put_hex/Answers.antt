use Rattle.std.proofs.Common.{◌≡◌, ◌+◌, ◌*◌, ◌-◌, length, map, ap, ◌∙◌, arith}
use Rattle.std.specs.Char.{to_ascii_uppercase}
use borrow.Rule.Slice.PartMut.{put_mid}
use Rattle.hex.specs.Hex.{encode_upper}
use Rattle.vx_lemmas.proofs.Laws.Hexadecimal.{upper_text, length_upper}
use Rattle.vx_trace.proofs.Overwrites.{overwritten-part}
use Rattle.vx_trace.proofs.put.put_hex.Goals as goal

pub returns-clause-bytes : goal.returns-clause-bytes
returns-clause-bytes c =
    let bytes = c.args.bytes.now in
    let k = c.args.at + 2 * length bytes - c.args.at in
    let text : c.make_ascii_uppercase.new.self ≡ encode_upper bytes =
    c.make_ascii_uppercase.ensures.after ∙ ap (map to_ascii_uppercase) c.in-Ok.ensures.written ∙ upper_text bytes in
    ap (put_mid c.args.at k c.args.out.now) text ∙ overwritten-part c.args.out.now (encode_upper bytes) c.args.at k (omega (arith, length_upper bytes))
