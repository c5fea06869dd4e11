use Rattle.std.proofs.Common.{◌≡◌, ◌*◌, ◌++◌, ◌∷◌, [], length, drop, map, ap, ◌∙◌, arith}
use Rattle.std.proofs.lemmas.List.{take_at, take_more_set, length-append, length-drop}
use Rattle.std.specs.Char.{to_ascii_uppercase}
use Rattle.hex.specs.Hex.{encode_upper}
use Rattle.vx_lemmas.proofs.Laws.Hexadecimal.{upper_text, length_upper}
use Rattle.vx_client.proofs.lines.hex_line.Goals as goal

pub returns : goal.returns
returns c =
    let bytes = c.args.bytes.now in
    let end = 2 * length bytes in
    let text : c.make_ascii_uppercase.new.self ≡ encode_upper bytes =
    c.make_ascii_uppercase.ensures.after ∙ ap (map to_ascii_uppercase) c.in-Ok.ensures.written ∙ upper_text bytes in
    let digits = c.make_ascii_uppercase.new.self in
    let rest = drop end c.args.out.now in
    let len : length digits ≡ end = ap length text ∙ length_upper bytes in
    let both = length-append digits rest in
    let behind = length-drop end c.args.out.now in
    let room = c.requires in
    take_more_set (digits ++ rest) end 10 (omega arith) ∙ ap (λ xs. xs ++ 10 ∷ []) (take_at digits rest end len ∙ text)
