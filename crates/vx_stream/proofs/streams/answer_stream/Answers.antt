use Rattle.std.proofs.Common.{refl, ◌∙◌, arith}
use Rattle.vx_door.specs.Going.{Not_yet}
use Rattle.vx_stream.proofs.Moving.{went-then}
use Rattle.vx_stream.proofs.Streamwise.{streamed-none, streamed-on, streamed-stops}
use Rattle.vx_stream.proofs.streams.answer_stream.Goals as goal

pub loop-init : goal.loop-init
loop-init g c = record {
  so_far = streamed-none g.S.Answers.does g.L.Link _ _ _ c.args.server c.args.link.now _ c.args.incoming.now c.requires.buffer tt;
  went = Not_yet _;
  can = c.requires.can;
  limit = refl;
  piece_len = refl;
  len = refl;
}

pub returns-in-Ends-clause-answers : goal.returns-in-Ends-clause-answers
returns-in-Ends-clause-answers g c =
    streamed-stops g.S.Answers.does g.L.Link _ _ _ c.args.server c.args.link.now c.pieces_law.ensures _ _ c.loop.server _ c.loop.link _ c.loop.incoming _
    c.answer_next-served.result.1 c.in-Ends.end (omega (arith, c.requires.piece, c.loop.invariant.piece_len)) (omega arith)
    (omega (arith, c.loop.invariant.piece_len)) c.requires.piece c.loop.invariant.so_far
    c.answer_next-served.ensures.answers c.in-Ends.is

pub returns-in-Ends-clause-went : goal.returns-in-Ends-clause-went
returns-in-Ends-clause-went g c = went-then g.L.Link.receives g.L.Link.sends _ _ _ c.loop.invariant.went c.answer_next-served.ensures.went

pub loop-preserved : goal.loop-preserved
loop-preserved g c = record {
  so_far = streamed-on g.S.Answers.does g.L.Link _ _ _ c.args.server c.args.link.now c.pieces_law.ensures _ _ _ c.loop.server _ c.loop.link _ c.loop.incoming _
      c.answer_next-served.result.1 c.in_default.field-0 c.loop.invariant.so_far c.answer_next-served.ensures.answers c.in_default.is (λ received piece len fits rest. tt);
  went = went-then g.L.Link.receives g.L.Link.sends _ _ _ c.loop.invariant.went c.answer_next-served.ensures.went;
  can = c.answer_next-served.ensures.can;
  limit = c.answer_next-served.ensures.limit ∙ c.loop.invariant.limit;
  piece_len = c.answer_next-served.ensures.piece ∙ c.loop.invariant.piece_len;
  len = c.answer_next-served.ensures.len ∙ c.loop.invariant.len;
}
