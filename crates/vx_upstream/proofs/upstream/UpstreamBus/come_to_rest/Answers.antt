use Rattle.vx_upstream.specs.Sending.{words_of}
use Rattle.vx_upstream.proofs.Resting.{asked-behind, rest-behind}
use Rattle.vx_upstream.proofs.upstream.UpstreamBus.come_to_rest.Goals as goal

pub returns-in-Err-docmd-clause-unrested : goal.returns-in-Err-docmd-clause-unrested
returns-in-Err-docmd-clause-unrested g c = (
  c.docmd.new.self.client,
  c.docmd-2.new.self.client,
  (c.in-Ok.field-0, c.in-Ok.ensures.called),
  asked-behind (words_of g.L.Link g.L.Reach.refused g.L.Reach.tries) c.args.self.now c.docmd.new.self c.docmd-2.new.self _ _ _ c.docmd.ensures.rest c.in-Err-docmd.ensures.called,
)

pub returns-in-Ok-docmd-2-clause-rested : goal.returns-in-Ok-docmd-2-clause-rested
returns-in-Ok-docmd-2-clause-rested g c = record {
  cleared = c.docmd.new.self.client;
  unremote = c.docmd-2.new.self.client;
  ifc = (c.in-Ok.field-0, c.in-Ok.ensures.called);
  ren_off = (
    c.in-Ok-docmd.field-0,
    asked-behind (words_of g.L.Link g.L.Reach.refused g.L.Reach.tries) c.args.self.now c.docmd.new.self c.docmd-2.new.self _ _ _ c.docmd.ensures.rest c.in-Ok-docmd.ensures.called,
  );
  address = (
    c.in-Ok-docmd-2.field-0,
    asked-behind (words_of g.L.Link g.L.Reach.refused g.L.Reach.tries) c.args.self.now c.docmd-2.new.self c.docmd-3.new.self _ _ _
        (rest-behind (words_of g.L.Link g.L.Reach.refused g.L.Reach.tries) c.args.self.now c.docmd.new.self c.docmd-2.new.self c.docmd.ensures.rest c.docmd-2.ensures.rest) c.in-Ok-docmd-2.ensures.called,
  );
}

pub returns-in-Err-docmd-2-clause-unrested : goal.returns-in-Err-docmd-2-clause-unrested
returns-in-Err-docmd-2-clause-unrested g c = (
  c.docmd.new.self.client,
  c.docmd-2.new.self.client,
  c.docmd-3.new.self.client,
  (c.in-Ok.field-0, c.in-Ok.ensures.called),
  (
    c.in-Ok-docmd.field-0,
    asked-behind (words_of g.L.Link g.L.Reach.refused g.L.Reach.tries) c.args.self.now c.docmd.new.self c.docmd-2.new.self _ _ _ c.docmd.ensures.rest c.in-Ok-docmd.ensures.called,
  ),
  asked-behind (words_of g.L.Link g.L.Reach.refused g.L.Reach.tries) c.args.self.now c.docmd-2.new.self c.docmd-3.new.self _ _ _
      (rest-behind (words_of g.L.Link g.L.Reach.refused g.L.Reach.tries) c.args.self.now c.docmd.new.self c.docmd-2.new.self c.docmd.ensures.rest c.docmd-2.ensures.rest) c.in-Err-docmd-2.ensures.called,
)

pub returns-in-Err-clause-unrested : goal.returns-in-Err-clause-unrested
returns-in-Err-clause-unrested g c = (c.docmd.new.self.client, c.in-Err.ensures.called)
