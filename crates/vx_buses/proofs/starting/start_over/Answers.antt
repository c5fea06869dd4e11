use Rattle.std.specs.List.{AllZip}
use Rattle.vx_desks.specs.Four.{listed}
use Rattle.vx_desks.specs.Standing.{firsts_shown}
use Rattle.vx_buses.specs.Starting.{Begins}
use Rattle.vx_buses.proofs.Furnished.{begun-four, begun-stand, order-kept}
use Rattle.vx_buses.proofs.starting.start_over.Goals as goal

pub start-requires-clause-four : goal.start-requires-clause-four
start-requires-clause-four g c = begun-four g.B.Bus g.B.BusOver.stands _ c.args.rack.items c.in-Some.cores.items c.requires.four c.in-Some.ensures

pub start-requires-clause-stand : goal.start-requires-clause-stand
start-requires-clause-stand g c = begun-stand g.B.Bus g.B.BusOver.stands _ c.in-Some.cores.items c.in-Some.ensures

pub returns-clause-begin : goal.returns-clause-begin
returns-clause-begin g c =
    order-kept (AllZip (Begins g.B.Bus g.B.BusOver.stands) _) c.in-Some.cores.items (λ r. listed (firsts_shown r.0)) c.start.result c.ok.result c.start.ensures.order c.ok.ensures.value c.in-Some.ensures
