use Rattle.vx_calls.specs.Call.{call_shown}
use Rattle.vx_client.specs.Message.{call_record}
use Rattle.vx_client.proofs.Ending.{calls-last}
use Rattle.vx_client.proofs.client.Client.ask.Goals as goal

pub returns-clause-called : goal.returns-clause-called
returns-clause-called g c = rw (← c.self.view_is) c.ask.ensures.called

pub returns-clause-last : goal.returns-clause-last
returns-clause-last g c =
    calls-last g.L.Link.receives g.L.Link.sends c.self.inside.link c.ask.new.link (call_record c.self.inside.talk.next (call_shown c.args.call.now)) c.ask.result c.ask.ensures.told

pub returns-clause-into : goal.returns-clause-into
returns-clause-into g c = rw (← c.self.view_is) c.ask.ensures.into
