use Rattle.std.proofs.Common.{◌≡◌, ℕ, ◌≤◌, ◌∙◌, inl, inr}
use Rattle.vx_io_traits.proofs.Laws.{rose_earlier}
use Rattle.vx_startup.specs.declared.words.Options.{Options}
use Rattle.vx_startup.specs.declared.status.ServerStatus.{ServerStatus}
use Rattle.vx_startup.specs.declared.status.ServerStatus.TheVariants as status
use Rattle.vx_startup.specs.Running.{NetShown, Ports, ServerEndsRun, net_shown}
use Rattle.vx_startup.proofs.Laws.Written.{started}
use Rattle.vx_serve.specs.Hosting.{ports_shown}
use Rattle.vx_serve.proofs.server.serve_bus.Goals as goal

-- the end of a server that has opened its ports is its end with these
opened : (o : Options) (before : Ports) (mid : NetShown) (refused : ℕ) (after : Ports) (refused' tally : ℕ) (how : ServerStatus)
    → mid.given ≡ before.net.given → mid.ended ≡ before.net.ended → before.net.faults ≤ mid.faults
    → ServerEndsRun o (record { net = mid; sink = before.sink }) refused after refused' tally how → ServerEndsRun o before refused after refused' tally how
opened o before mid refused after refused' tally status.NetFailed given ended counted (inl s) =
    inl (rose_earlier before.net.faults mid.faults after.net.faults counted s.0, (s.1.0 ∙ given, s.1.1 ∙ ended, s.1.2))
opened o before mid refused after refused' tally status.NetFailed given ended counted (inr s) =
    started o before mid refused after refused' tally status.NetFailed given ended counted s
opened o before mid refused after refused' tally status.WorkerRefused given ended counted s =
    (s.0, (s.1.0 ∙ given, s.1.1 ∙ ended, s.1.2))
opened o before mid refused after refused' tally status.NoMemory given ended counted s = (s.0 ∙ given, s.1 ∙ ended, s.2)
opened o before mid refused after refused' tally status.Served given ended counted s =
    started o before mid refused after refused' tally status.Served given ended counted s
opened o before mid refused after refused' tally status.SinkFailed given ended counted s =
    started o before mid refused after refused' tally status.SinkFailed given ended counted s
opened o before mid refused after refused' tally status.Told given ended counted s = s
opened o before mid refused after refused' tally status.Usage given ended counted s = s
opened o before mid refused after refused' tally status.BenchFault given ended counted s = s
opened o before mid refused after refused' tally status.SourceFailed given ended counted s = s

pub returns-in-Some-clause-ends : goal.returns-in-Some-clause-ends
returns-in-Some-clause-ends g c =
    opened c.args.options
    (ports_shown g.N.Net g.K.Sink c.args.host.now.net.now c.args.host.now.sink.now)
    (net_shown g.N.Net c.open_ports.new.net)
    (g.W.Spawner.faults c.args.host.now.spawner.now)
    (ports_shown g.N.Net g.K.Sink c.serve_gate.new.host.net.now c.serve_gate.new.host.sink.now)
    (g.W.Spawner.faults c.serve_gate.new.host.spawner.now) c.serve_gate.result.tally c.serve_gate.result.status
    c.open_ports.ensures.given c.open_ports.ensures.ended c.open_ports.ensures.counted c.serve_gate.ensures.ends
