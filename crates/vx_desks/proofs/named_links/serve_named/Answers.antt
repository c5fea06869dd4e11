use Rattle.std.proofs.Common.{refl}
use Rattle.vx_calls.specs.declared.calls.Role.TheVariants as role
use Rattle.vx_desks.proofs.NoNames.{named-link}
use Rattle.vx_desks.proofs.named_links.serve_named.Goals as goal

pub returns-clause-did : goal.returns-clause-did
returns-clause-did g c = named-link g.K.Desk c.args.names.now g.L.Link role.Core _ _ _ _ _ refl c.serve_core_link-desk.ensures.did
