use Rattle.std.proofs.Common.{ap, ◌∙◌, sym, take}
use Rattle.vx_record.specs.Buffer.{fed, taken}
use Rattle.vx_client.specs.Inbox.{InboxState}
use Rattle.vx_client.proofs.Reading.{part-of}
use Rattle.vx_client.proofs.inbox.Inbox.feed.Goals as goal

pub returns-clause-reply : goal.returns-clause-reply
returns-clause-reply c =
    let part = part-of c.self.inside.room.items c.deref.result.now c.args.self.now.kept c.self.inside.from c.self.inside.to c.args.most c.min-part.result
    c.deref.ensures.value (ap (λ (s : InboxState). s.kept) (sym c.self.view_is)) c.min-part.ensures c.self.invariant.1 in
    c.feed-fed.ensures.after ∙ ap (fed c.self.inside.reply) part ∙ ap (λ (s : InboxState). fed s.reply (take c.args.most c.args.self.now.kept)) c.self.view_is

pub returns-clause-took : goal.returns-clause-took
returns-clause-took c =
    let part = part-of c.self.inside.room.items c.deref.result.now c.args.self.now.kept c.self.inside.from c.self.inside.to c.args.most c.min-part.result
    c.deref.ensures.value (ap (λ (s : InboxState). s.kept) (sym c.self.view_is)) c.min-part.ensures c.self.invariant.1 in
    c.feed-fed.ensures.took ∙ ap (taken c.self.inside.reply) part ∙ ap (λ (s : InboxState). taken s.reply (take c.args.most c.args.self.now.kept)) c.self.view_is
