use Rattle.std.proofs.Common.{◌-◌, drop, refl, ◌∙◌, arith, length-append, length-drop}
use Rattle.std.proofs.lemmas.List.{length-take}
use Rattle.vx_door.specs.Going.{Not_yet}
use Rattle.vx_stream.proofs.Moving.{went-then}
use Rattle.vx_stream.proofs.Streamwise.{streamed-none, streamed-on, streamed-stops, streamed-spent}
use Rattle.vx_stream.proofs.streams.answer_up_to.Goals as goal

pub loop-left-init : goal.loop-left-init
loop-left-init g c = record {
  so_far = streamed-none g.S.Answers.does g.L.Link _ _ _ c.args.server c.args.link.now c.args.most c.args.incoming.now c.requires.buffer (omega arith);
  went = Not_yet _;
  can = c.requires.can;
  limit = refl;
  piece_len = refl;
  len = refl;
}

pub loop-left-preserved : goal.loop-left-preserved
loop-left-preserved g c = record {
  so_far = streamed-on g.S.Answers.does g.L.Link c.args.incoming.now.limit _ _ c.args.server c.args.link.now c.pieces_law.ensures c.loop-left.left (c.loop-left.left - c.in-Came.count) _
      c.loop-left.server _ c.loop-left.link _ c.loop-left.incoming _ c.answer_next-served.result.1 c.in-Came.count c.loop-left.invariant.so_far
      c.answer_next-served.ensures.answers c.in-Came.is
      (λ received piece len fits rest. omega (arith, length-append received piece, len, fits, rest, c.min-fits.ensures, length-take c.min-fits.result c.loop-left.piece));
  went = went-then g.L.Link.receives g.L.Link.sends _ _ _ c.loop-left.invariant.went c.answer_next-served.ensures.went;
  can = c.answer_next-served.ensures.can;
  limit = c.answer_next-served.ensures.limit ∙ c.loop-left.invariant.limit;
  piece_len = omega (
    arith,
    length-append c.answer_next-served.new.piece (drop c.min-fits.result c.loop-left.piece),
    c.answer_next-served.ensures.piece,
    length-take c.min-fits.result c.loop-left.piece,
    length-drop c.min-fits.result c.loop-left.piece,
    c.loop-left.invariant.piece_len,
  );
  len = c.answer_next-served.ensures.len ∙ c.loop-left.invariant.len;
}

pub returns-in-Ends-clause-answers : goal.returns-in-Ends-clause-answers
returns-in-Ends-clause-answers g c =
    streamed-stops g.S.Answers.does g.L.Link _ _ _ c.args.server c.args.link.now c.pieces_law.ensures c.loop-left.left _ c.loop-left.server _ c.loop-left.link _
    c.loop-left.incoming _ c.answer_next-served.result.1 c.in-Ends.end c.loop-left-test.true
    (omega (arith, c.min-fits.ensures, length-take c.min-fits.result c.loop-left.piece))
    (omega (arith, c.min-fits.ensures, length-take c.min-fits.result c.loop-left.piece, c.loop-left.invariant.piece_len)) c.requires.piece c.loop-left.invariant.so_far
    c.answer_next-served.ensures.answers c.in-Ends.is

pub returns-in-Ends-clause-went : goal.returns-in-Ends-clause-went
returns-in-Ends-clause-went g c = went-then g.L.Link.receives g.L.Link.sends _ _ _ c.loop-left.invariant.went c.answer_next-served.ensures.went

pub returns-clause-answers : goal.returns-clause-answers
returns-clause-answers g c =
    streamed-spent g.S.Answers.does g.L.Link _ _ _ c.args.server c.args.link.now c.pieces_law.ensures c.loop-left.left c.loop-left.server c.loop-left.link
    c.loop-left.incoming c.loop-left.invariant.so_far c.requires.piece
    (omega (arith, c.loop-left-test.false, c.loop-left.invariant.so_far.rest))
