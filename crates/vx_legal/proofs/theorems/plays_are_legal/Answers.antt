use Rattle.vx_legal.proofs.Joining.{plays-legal, runs-legal, plays-answered}
use Rattle.vx_legal.proofs.theorems.plays_are_legal.Goals as goal

pub returns-clause-plays : goal.returns-clause-plays
returns-clause-plays c = plays-legal c.formed_runs.ensures.tells c.formed_runs.ensures.told c.formed_runs.ensures.legal

pub returns-clause-runs : goal.returns-clause-runs
returns-clause-runs c = runs-legal (plays-legal c.formed_runs.ensures.tells c.formed_runs.ensures.told c.formed_runs.ensures.legal)

pub returns-clause-answered : goal.returns-clause-answered
returns-clause-answered c =
    plays-answered (runs-legal (plays-legal c.formed_runs.ensures.tells c.formed_runs.ensures.told c.formed_runs.ensures.legal))
