use Rattle.std.proofs.Common.{ap}
use Rattle.vx_upstream.specs.UpstreamState.{UpstreamState}
use Rattle.vx_upstream.specs.Sending.{words_of}
use Rattle.vx_upstream.proofs.Asking.{read-asked}
use Rattle.vx_upstream.proofs.upstream.UpstreamBus.ask_bytes.Goals as goal

pub returns-clause-called : goal.returns-clause-called
returns-clause-called g c =
    read-asked (words_of g.L.Link g.L.Reach.refused g.L.Reach.tries) c.args.self.now c.self.inside.client c.read_front.new.client c.self.inside.made.lid c.stop_flag.result c.stop_byte.result
    c.args.many c.args.stop c.opts-opts.result c.read_front.result
    (ap (λ (s : UpstreamState g.row.L.Denot). s.client) c.self.view_is) (ap (λ (s : UpstreamState g.row.L.Denot). s.made.lid) c.self.view_is)
    c.opts-opts.ensures c.stop_flag.ensures c.stop_byte.ensures c.read_front.ensures
