use Rattle.vx_session.specs.Origin.{origin}
use Rattle.vx_session.proofs.Laws.{joined-holds, refused-holds, left-holds, clear-first, clear-on, never-full}
use Rattle.vx_session.proofs.theorems.turns_law.Goals as goal

pub returns : goal.returns
returns g c = record {
  joined = λ first. joined-holds (origin g.B.Bus first);
  refused = λ first. refused-holds (origin g.B.Bus first);
  left = λ first. left-holds (origin g.B.Bus first);
  first = clear-first;
  clear = clear-on;
  never_full = λ first. never-full (origin g.B.Bus first);
}
