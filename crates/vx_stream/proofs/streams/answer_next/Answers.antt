use Rattle.std.proofs.Common.{◌≡◌, length, take, inl, inr, refl, ap, ◌∙◌, subst, arith}
use Rattle.std.proofs.lemmas.List.{length-take-le}
use Rattle.vx_door.specs.Going.{Not_yet, By_receive}
use Rattle.vx_stream.specs.Pieces.{AnswersPiece}
use Rattle.vx_stream.specs.Stopping.{input_end}
use Rattle.vx_stream.proofs.Moving.{went-then}
use Rattle.vx_stream.proofs.streams.answer_next.Goals as goal

pub returns-in-Failed-clause-answers : goal.returns-in-Failed-clause-answers
returns-in-Failed-clause-answers g c = inr
    (record {
      ended = record {
        stays = c.in-Failed.ensures.failed.2;
        left = c.in-Failed.ensures.failed.1;
        peers = c.in-Failed.ensures.peers;
        receives = c.in-Failed.ensures.counted;
        sends = c.in-Failed.ensures.apart;
      };
      received = record { slice = _; answer = _; filled = _; called = c.in-Failed.ensures.receives; gave = refl };
      why = inl (refl, c.in-Failed.ensures.failed.0);
      same = refl;
    })

pub returns-in-End-clause-answers : goal.returns-in-End-clause-answers
returns-in-End-clause-answers g c = inr
    (record {
      ended = record {
        stays = c.in-End.ensures.end.2;
        left = c.in-End.ensures.end.1;
        peers = c.in-End.ensures.peers;
        receives = c.in-End.ensures.counted;
        sends = c.in-End.ensures.apart;
      };
      received = record { slice = _; answer = _; filled = _; called = c.in-End.ensures.receives; gave = refl };
      why = inr (c.end_of_input.ensures ∙ ap input_end c.rest.ensures.rest, c.in-End.ensures.end.0);
      same = refl;
    })

pub returns-in-None-clause-answers : goal.returns-in-None-clause-answers
returns-in-None-clause-answers g c =
    let len : length (take c.in-Got.count c.receive.new.into) ≡ c.in-Got.count = length-take-le c.in-Got.count c.receive.new.into c.in-Got.ensures.got.1 in (
      record {
        piece = take c.in-Got.count c.receive.new.into;
        mid = c.receive.new.self;
        some = omega (arith, len, c.in-Got.ensures.got.0);
        fits = omega (arith, len, c.in-Got.ensures.got.1, c.receive.auto.into);
        gave = record {
          gives = c.in-Got.ensures.got.3;
          goes = record {
            left = c.in-Got.ensures.got.2;
            peers = c.in-Got.ensures.peers;
            receives = c.in-Got.ensures.counted;
            sends = omega (arith, c.in-Got.ensures.apart);
          };
        };
        received = record { slice = _; answer = _; filled = _; called = c.in-Got.ensures.receives; gave = refl };
        answers = subst (λ o. AnswersPiece g.S.Answers.does g.L.Link c.args.server c.receive.new.self c.args.incoming.now (take c.in-Got.count c.receive.new.into)
            o c.answer_piece-server.result.0 c.answer_piece-server.new.link c.answer_piece-server.new.incoming)
            c.in-None.is c.answer_piece-server.ensures.answers;
      },
      len,
    )

pub returns-in-Failed-clause-went : goal.returns-in-Failed-clause-went
returns-in-Failed-clause-went g c = By_receive _ c.args.link.now _ _ _ _ (Not_yet _) c.in-Failed.ensures.receives

pub returns-in-End-clause-went : goal.returns-in-End-clause-went
returns-in-End-clause-went g c = By_receive _ c.args.link.now _ _ _ _ (Not_yet _) c.in-End.ensures.receives

pub returns-in-None-clause-went : goal.returns-in-None-clause-went
returns-in-None-clause-went g c =
    went-then g.L.Link.receives g.L.Link.sends _ _ _ (By_receive _ c.args.link.now _ _ _ _ (Not_yet _) c.in-Got.ensures.receives) c.answer_piece-server.ensures.went

pub returns-in-Some-clause-went : goal.returns-in-Some-clause-went
returns-in-Some-clause-went g c =
    went-then g.L.Link.receives g.L.Link.sends _ _ _ (By_receive _ c.args.link.now _ _ _ _ (Not_yet _) c.in-Got.ensures.receives) c.answer_piece-server.ensures.went
