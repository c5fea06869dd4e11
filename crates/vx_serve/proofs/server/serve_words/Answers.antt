use Rattle.std.proofs.Common.{map, string_bytes, subst, sym}
use Rattle.vx_startup.specs.Ends.{End, source_shown, sink_shown}
use Rattle.vx_startup.specs.Spares.{spare_shown}
use Rattle.vx_sim.specs.Occupants.{handed_in}
use Rattle.vx_startup.specs.Outcome.{ServerEnds, ServerIo}
use Rattle.vx_startup.specs.Running.{ServerEndsRun, net_shown}
use Rattle.vx_startup.proofs.Laws.Written.{ready}
use Rattle.vx_serve.specs.Hosting.{ports_shown}
use Rattle.vx_serve.proofs.server.serve_words.Goals as goal

pub returns-in-Ok-clause-ends : goal.returns-in-Ok-clause-ends
returns-in-Ok-clause-ends g c =
    let net = net_shown g.N.Net c.args.host.now.net.now in
    let first : End = sink_shown g.K.Sink c.args.host.now.sink.now in
    let refused = g.W.Spawner.faults c.args.host.now.spawner.now in
    let after : ServerIo = record {
      ports = ports_shown g.N.Net g.K.Sink c.serve_bus.new.host.net.now c.serve_bus.new.host.sink.now;
      refused = g.W.Spawner.faults c.serve_bus.new.host.spawner.now;
    } in
    ready (map string_bytes c.args.words.now) (map (spare_shown (handed_in (λ i. g.I.Instrument.behaves i) (λ i. g.I.Instrument.nature i))) c.args.rack.items)
    (source_shown g.S.Source c.args.bench.now)
    (source_shown g.S.Source c.prepare-prepared.new.bench) c.in-Ok.options c.in-Ok.names
    (record { ports = record { net = net; sink = first }; refused = refused }) after c.serve_bus.result.tally c.serve_bus.result.status
    c.in-Ok.ensures.ready
    (subst
    (λ (sink : End). ServerEndsRun c.in-Ok.options (record { net = net; sink = sink }) refused after.ports after.refused c.serve_bus.result.tally c.serve_bus.result.status)
    c.in-Ok.ensures.silent c.serve_bus.ensures.ends)

pub returns-in-Err-clause-ends : goal.returns-in-Err-clause-ends
returns-in-Err-clause-ends g c =
    let net = net_shown g.N.Net c.args.host.now.net.now in
    let refused = g.W.Spawner.faults c.args.host.now.spawner.now in
    subst
    (λ how. ServerEnds (map string_bytes c.args.words.now) (map (spare_shown (handed_in (λ i. g.I.Instrument.behaves i) (λ i. g.I.Instrument.nature i))) c.args.rack.items)
    (source_shown g.S.Source c.args.bench.now)
    (source_shown g.S.Source c.prepare-prepared.new.bench)
    (record {
      ports = record { net = net; sink = sink_shown g.K.Sink c.args.host.now.sink.now };
      refused = refused;
    })
    (record {
      ports = record { net = net; sink = sink_shown g.K.Sink c.prepare-prepared.new.sink };
      refused = refused;
    }) c.early.result.tally how) (sym c.early.ensures) (c.in-Err.ensures.early net refused c.early.result.tally)
