use Rattle.vx_desks.proofs.NoNames.{no_names-same, no_names-meaning, no_names-session, no_names-link}
use Rattle.vx_desks.proofs.named_laws.names_law.Goals as goal

pub returns-clause-calls : goal.returns-clause-calls
returns-clause-calls g c = no_names-same

pub returns-clause-messages : goal.returns-clause-messages
returns-clause-messages g c = no_names-meaning

pub returns-clause-sessions : goal.returns-clause-sessions
returns-clause-sessions g c = no_names-session g.D.Desk g.L.Link

pub returns-clause-links : goal.returns-clause-links
returns-clause-links g c = no_names-link g.D.Desk g.L.Link
