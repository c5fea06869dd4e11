use Rattle.vx_loop.proofs.Going.{waits-none, waits-trans}
use Rattle.vx_loop.proofs.served.Serving.wait.Goals as goal

pub loop-self-init : goal.loop-self-init
loop-self-init g c = waits-none c.args.self.now c.requires.kept

pub loop-self-preserved : goal.loop-self-preserved
loop-self-preserved g c = waits-trans c.args.self.now c.loop-self.self c.poll.new.self c.loop-self.invariant c.poll.ensures.waits

pub returns-then-is_dialing-clause-waits : goal.returns-then-is_dialing-clause-waits
returns-then-is_dialing-clause-waits g c = waits-trans c.args.self.now c.loop-self.self c.refuse.new.self c.loop-self.invariant c.refuse.ensures.waits

pub returns-then-not-poll-clause-waits : goal.returns-then-not-poll-clause-waits
returns-then-not-poll-clause-waits g c = waits-trans c.args.self.now c.loop-self.self c.poll.new.self c.loop-self.invariant c.poll.ensures.waits

pub returns-clause-waits : goal.returns-clause-waits
returns-clause-waits g c = c.loop-self.invariant
