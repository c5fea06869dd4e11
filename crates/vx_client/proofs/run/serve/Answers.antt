use Rattle.std.proofs.Common.{inl, subst}
use Rattle.vx_client.specs.Asked.{ask_shown}
use Rattle.vx_text.specs.Ends.{End, sink_shown}
use Rattle.vx_client.specs.Outcome.{IsOver}
use Rattle.vx_client.proofs.run.serve.Goals as goal

pub returns-in-Ok : goal.returns-in-Ok
returns-in-Ok g c =
    let before : End = sink_shown g.K.Sink c.args.sink.now in
    let after : End = sink_shown g.K.Sink c.over-status.new.sink in
    inl (record {
      last = c.over-status.new.client;
      over = subst (λ client. IsOver g.R.Link.stands g.R.Link.left g.R.Link.receive_faults g.R.Link.send_faults (ask_shown c.args.ask.now) client c.over-status.new.client before after c.over-status.result)
          c.in-Ok.ensures.made c.over-status.ensures;
      back = c.into_link.ensures;
    })
