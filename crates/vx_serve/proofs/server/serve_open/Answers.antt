use Rattle.std.proofs.Common.{refl}
use Rattle.std.proofs.Math.Nat.{le_refl}
use Rattle.vx_startup.specs.Running.{Ports}
use Rattle.vx_startup.proofs.Laws.Written.{started}
use Rattle.vx_serve.specs.Hosting.{ports_shown}
use Rattle.vx_serve.proofs.server.serve_open.Goals as goal

pub returns-in-Ok-clause-ends : goal.returns-in-Ok-clause-ends
returns-in-Ok-clause-ends g c =
    let before : Ports = ports_shown g.N.Net g.K.Sink c.args.host.now.net.now c.args.host.now.sink.now in
    started c.args.options before before.net
    (g.W.Spawner.faults c.args.host.now.spawner.now)
    (ports_shown g.N.Net g.K.Sink c.serve_accepting.new.net c.serve_accepting.new.sink)
    (g.W.Spawner.faults c.start_all.new.spawner) c.serve_accepting.result.tally c.serve_accepting.result.status
    refl refl (le_refl before.net.faults) c.serve_accepting.ensures
