use Rattle.std.proofs.Common.{◌-◌, length, drop, refl, sym, ap, ◌∙◌, arith, length-drop}
use Rattle.std.proofs.lemmas.List.{length-take}
use Rattle.vx_door.specs.Going.{Not_yet}
use Rattle.vx_record.specs.Buffer.{BufState}
use Rattle.vx_stream.proofs.Moving.{went-then}
use Rattle.vx_stream.proofs.Piecewise.{piece-none, piece-more, piece-answered, piece-stops, piece-long, piece-all}
use Rattle.vx_stream.proofs.pieces.answer_piece.Goals as goal

pub loop-at-init : goal.loop-at-init
loop-at-init g c = record {
  so_far = piece-none g.S.Answers.does g.L.Link c.args.server c.args.link.now c.args.incoming.now c.args.piece.now c.requires.more;
  went = Not_yet _;
  can = c.requires.can;
  limit = refl;
  len = refl;
}

pub loop-at-preserved-in-More : goal.loop-at-preserved-in-More
loop-at-preserved-in-More g c = record {
  so_far = piece-more g.S.Answers.does g.L.Link c.args.server c.args.link.now c.args.incoming.now c.args.piece.now c.loop-at.at c.feed-fed.result.took
      c.loop-at.server c.loop-at.link c.loop-at.incoming c.feed-fed.new.self c.loop-at.invariant.so_far
      (record { after = c.feed-fed.ensures.after; took_is = c.feed-fed.ensures.took })
      (sym c.feed-fed.ensures.state ∙ c.in-More.is);
  went = c.loop-at.invariant.went;
  can = c.loop-at.invariant.can;
  limit = c.feed-fed.ensures.limit ∙ c.loop-at.invariant.limit;
  len = c.loop-at.invariant.len;
}

pub returns-in-TooLong-clause-answers : goal.returns-in-TooLong-clause-answers
returns-in-TooLong-clause-answers g c =
    piece-long g.S.Answers.does g.L.Link c.args.server c.args.link.now c.args.incoming.now c.args.piece.now c.loop-at.at c.feed-fed.result.took
    c.loop-at.server c.loop-at.link c.loop-at.incoming c.feed-fed.new.self c.loop-at.invariant.so_far
    (c.feed-fed.ensures.some (omega (arith, c.loop-at-test.true, length-drop c.loop-at.at c.args.piece.now, length-take (length c.args.piece.now - c.loop-at.at) (drop c.loop-at.at c.args.piece.now))))
    (record { after = c.feed-fed.ensures.after; took_is = c.feed-fed.ensures.took })
    (sym c.feed-fed.ensures.state ∙ c.in-TooLong.is)

pub returns-then-is_some-clause-answers : goal.returns-then-is_some-clause-answers
returns-then-is_some-clause-answers g c =
    piece-stops g.S.Answers.does g.L.Link c.args.server c.args.link.now c.args.incoming.now c.args.piece.now c.loop-at.at c.feed-fed.result.took
    c.loop-at.server _ c.loop-at.link _ c.loop-at.incoming c.feed-fed.new.self _ c.answer_whole-served.result.1 c.loop-at.invariant.so_far
    (c.feed-fed.ensures.some (omega (arith, c.loop-at-test.true, length-drop c.loop-at.at c.args.piece.now, length-take (length c.args.piece.now - c.loop-at.at) (drop c.loop-at.at c.args.piece.now))))
    (record { after = c.feed-fed.ensures.after; took_is = c.feed-fed.ensures.took })
    (sym c.feed-fed.ensures.state ∙ c.in-Whole.is) c.answer_whole-served.ensures.answers (sym c.is_some.ensures ∙ c.if-is_some.true)

pub returns-then-is_some-clause-went : goal.returns-then-is_some-clause-went
returns-then-is_some-clause-went g c = went-then g.L.Link.receives g.L.Link.sends _ _ _ c.loop-at.invariant.went c.answer_whole-served.ensures.went

pub loop-at-preserved : goal.loop-at-preserved
loop-at-preserved g c = record {
  so_far = piece-answered g.S.Answers.does g.L.Link c.args.server c.args.link.now c.args.incoming.now c.args.piece.now c.loop-at.at c.feed-fed.result.took
      c.loop-at.server _ c.loop-at.link _ c.loop-at.incoming c.feed-fed.new.self _ c.answer_whole-served.result.1 c.loop-at.invariant.so_far
      (record { after = c.feed-fed.ensures.after; took_is = c.feed-fed.ensures.took })
      (sym c.feed-fed.ensures.state ∙ c.in-Whole.is) c.answer_whole-served.ensures.answers (sym c.is_some.ensures ∙ c.if-is_some.false)
      c.answer_whole-served.ensures.buffer;
  went = went-then g.L.Link.receives g.L.Link.sends _ _ _ c.loop-at.invariant.went c.answer_whole-served.ensures.went;
  can = c.answer_whole-served.ensures.can;
  limit = ap (λ (b : BufState). b.limit) c.answer_whole-served.ensures.buffer ∙ c.feed-fed.ensures.limit ∙ c.loop-at.invariant.limit;
  len = c.answer_whole-served.ensures.len ∙ c.loop-at.invariant.len;
}

pub returns-clause-answers : goal.returns-clause-answers
returns-clause-answers g c =
    piece-all g.S.Answers.does g.L.Link c.args.server c.args.link.now c.args.incoming.now c.args.piece.now c.loop-at.at c.loop-at.server c.loop-at.link
    c.loop-at.incoming c.loop-at.invariant.so_far c.loop-at-test.false
