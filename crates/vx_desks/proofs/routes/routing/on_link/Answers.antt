use Rattle.std.proofs.Common.{sym, ap}
use Rattle.vx_calls.specs.declared.calls.CallRef.{CallRef}
use Rattle.vx_calls.specs.Call.{call_shown}
use Rattle.vx_desks.specs.Routing.{fleet_with_link}
use Rattle.vx_desks.proofs.routes.routing.on_link.Goals as goal

pub returns-in-Write : goal.returns-in-Write
returns-in-Write c = ap (λ (k : CallRef). fleet_with_link (call_shown k) c.args.link) (sym c.in-Write.is)

pub returns-in-Read : goal.returns-in-Read
returns-in-Read c = ap (λ (k : CallRef). fleet_with_link (call_shown k) c.args.link) (sym c.in-Read.is)

pub returns-in-Docmd : goal.returns-in-Docmd
returns-in-Docmd c = ap (λ (k : CallRef). fleet_with_link (call_shown k) c.args.link) (sym c.in-Docmd.is)
