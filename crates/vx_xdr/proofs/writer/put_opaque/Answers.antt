use Rattle.std.proofs.Common.{◌≡◌, ◌+◌, ◌≤◌, ℕ, List, length, take, replicate, refl, ap, ◌∙◌, arith}
use Rattle.std.proofs.lemmas.List.{take-replicate}
use Rattle.vx_xdr.specs.Spelling.{padding, word}
use Rattle.vx_xdr.specs.Writing.{overwritten}
use Rattle.vx_xdr.proofs.Overwrites.{overwritten-thrice}
use Rattle.vx_xdr.proofs.writer.put_opaque.Goals as goal

pub returns : goal.returns
returns c =
    let v = c.args.v.now in
    let pad : c.args.pad ≤ 3 = omega arith in
    let zeros : take c.args.pad (replicate 3 0) ≡ padding (length v) = take-replicate c.args.pad 3 0 pad ∙ ap (λ (n : ℕ). replicate n 0) c.requires.pad_is in
    let third = c.put_bytes-2.ensures ∙ ap (λ (z : List ℕ). overwritten c.put_bytes.new.out (c.args.at + 4 + length v) z) zeros in
    let room : c.args.at ≤ length c.args.out.now = omega arith in
    overwritten-thrice c.args.out.now c.args.at (word (length v)) v (padding (length v)) _ _ _ (c.args.at + 4) (c.args.at + 4 + length v) room refl refl c.put_word.ensures c.put_bytes.ensures third
