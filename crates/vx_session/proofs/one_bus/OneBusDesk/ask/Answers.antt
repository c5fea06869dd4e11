use Rattle.std.proofs.Common.{refl, rules}
use Rattle.vx_session.proofs.one_bus.OneBusDesk.ask.Goals as goal

pub returns-clause-asks : goal.returns-clause-asks
returns-clause-asks g c = (
  record {
    out = _;
    reply_is = refl;
    does = record {
      role = refl;
      conn = refl;
      later = c.answer_call-pass.ensures.told;
      has = record {
        pass = c.in-Some.pass;
        pass' = c.answer_call-pass.result.0;
        had = search rules;
        has = refl;
        serves = c.answer_call-pass.ensures.answers;
      };
    };
    history = c.answer_call-pass.ensures.history;
    idle = c.answer_call-pass.ensures.phase;
  },
  refl,
  refl,
  refl,
  refl,
)
