use Rattle.std.proofs.Common.{◌≡◌, ◌≤◌, ◌∙◌, ap, sym, subst, arith, length, take, ◌++◌, ◌∷◌, [], slice_set}
use Rattle.std.proofs.lemmas.Grind.{common_steps}
use Rattle.vx_record.specs.Buffer.{BufState, header_byte, opened}
use Rattle.vx_record.proofs.Feeding.{header_byte-full, set-last}
use Rattle.vx_record.proofs.buffer.RecordBuf.take_header_byte.Goals as goal

-- the fourth byte of a header opens its fragment
pub returns : goal.returns
returns c =
    let s = c.self.inside in
    let seen : BufState = record {
      limit = s.limit;
      kept = s.kept.items;
      header = take s.seen s.header;
      last = s.last;
      left = s.left;
      state = s.state;
      rest = s.rest;
    } in
    let three : 3 ≤ length (take s.seen s.header) = grind (arith, common_steps) in
    let whole : slice_set s.header s.seen c.args.byte ≡ take s.seen s.header ++ c.args.byte ∷ [] =
    set-last s.header s.seen c.args.byte (omega arith) (omega arith) (omega arith) in
    subst (λ (v : BufState). c.open.new.self ≡ header_byte v c.args.byte) c.self.view_is
    (c.open.ensures ∙ ap (opened seen) whole ∙ sym (header_byte-full seen c.args.byte three))
