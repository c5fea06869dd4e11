use Rattle.std.proofs.Common.{max}
use Rattle.vx_flow.specs.Event.{Sample}
use Rattle.vx_session.proofs.Adding.{one-becomes}
use Rattle.vx_session.proofs.acts.SampleAtActCore.run.Goals as goal

pub returns-clause-stands : goal.returns-clause-stands
returns-clause-stands g c =
    one-becomes g.B.Bus c.became_law.ensures c.args.kept.now c.sample.new.self
    (Sample (max c.args.kept.now.interleaved.state.moment c.args.self.now.now) (g.B.Bus.srq_level c.sample.new.self.bus)) _ c.sample.ensures.interleaved c.sample.ensures.walk
