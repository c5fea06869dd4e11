use Rattle.vx_session.proofs.samples.sample_turn.Goals as goal

pub returns-clause-samples : goal.returns-clause-samples
returns-clause-samples g c = record { told = c.now-now.result; asked = c.now-now.ensures.tells; rises = c.now-now.ensures.told; samples = c.sample.ensures }
