use Rattle.std.proofs.Common.{take, sym, refl, ap, subst, ◌∙◌}
use Rattle.vx_io_traits.specs.Faults.{Rose}
use Rattle.vx_calls.specs.Call.{call_shown}
use Rattle.vx_client.specs.Message.{call_record}
use Rattle.vx_client.specs.Stream.{IsReply, IsTooLong, IsClientOpen}
use Rattle.vx_client.specs.Inbox.{IsAll, last_of}
use Rattle.vx_client.proofs.Calling.{sent-ok, sent-err, swaps-of}
use Rattle.vx_client.proofs.Ending.{sends-whole, sends-broken, all-kept}
use Rattle.vx_client.proofs.client.exchange.Goals as goal

pub returns-in-Record-clause-swapped : goal.returns-in-Record-clause-swapped
returns-in-Record-clause-swapped g c =
    let brought = c.in-Record.ensures.brought in
    let sent = sent-ok g.L.Link.stands g.L.Link.send_faults c.args.link.now c.send_all.new.link (take c.put_record-len.result c.put_record-len.new.out) c.send_all.result (sym c.is_err.ensures.value ∙ c.if-is_err.false) c.send_all.ensures.sent in (
      swaps-of g.L.Link.stands g.L.Link.left c.args.link.now c.send_all.new.link c.read_record.new.link c.args.inbox.now.kept (call_record c.args.xid (call_shown c.args.call.now)) (take c.put_record-len.result c.put_record-len.new.out) brought.0 (λ stream got. IsReply stream c.read_record.new.self.reply.kept c.read_record.new.self.kept) c.put_record-len.ensures.text sent c.send_all.ensures.left brought.1 brought.2.0,
      brought.2.1,
    )

pub returns-in-End-clause-swapped : goal.returns-in-End-clause-swapped
returns-in-End-clause-swapped g c =
    let brought = c.in-End.ensures.brought in
    let sent = sent-ok g.L.Link.stands g.L.Link.send_faults c.args.link.now c.send_all.new.link (take c.put_record-len.result c.put_record-len.new.out) c.send_all.result (sym c.is_err.ensures.value ∙ c.if-is_err.false) c.send_all.ensures.sent in (
      swaps-of g.L.Link.stands g.L.Link.left c.args.link.now c.send_all.new.link c.read_record.new.link c.args.inbox.now.kept (call_record c.args.xid (call_shown c.args.call.now)) (take c.put_record-len.result c.put_record-len.new.out) brought.0 (λ stream got. IsClientOpen stream × IsAll g.L.Link.left c.args.link.now got) c.put_record-len.ensures.text sent c.send_all.ensures.left brought.1 (brought.2.0, all-kept (g.L.Link.left c.args.link.now) (g.L.Link.left c.send_all.new.link) brought.0 c.send_all.ensures.left brought.2.1),
      brought.2.2,
    )

pub returns-in-TooLong-clause-swapped : goal.returns-in-TooLong-clause-swapped
returns-in-TooLong-clause-swapped g c =
    let brought = c.in-TooLong.ensures.brought in
    let sent = sent-ok g.L.Link.stands g.L.Link.send_faults c.args.link.now c.send_all.new.link (take c.put_record-len.result c.put_record-len.new.out) c.send_all.result (sym c.is_err.ensures.value ∙ c.if-is_err.false) c.send_all.ensures.sent in (
      refl,
      swaps-of g.L.Link.stands g.L.Link.left c.args.link.now c.send_all.new.link c.read_record.new.link c.args.inbox.now.kept (call_record c.args.xid (call_shown c.args.call.now)) (take c.put_record-len.result c.put_record-len.new.out) brought.0 (λ stream got. IsTooLong stream) c.put_record-len.ensures.text sent c.send_all.ensures.left brought.1 brought.2.0,
      brought.2.1,
    )

pub returns-in-End-clause-told : goal.returns-in-End-clause-told
returns-in-End-clause-told g c = record {
  mid = c.send_all.new.link;
  whole = sends-whole g.L.Link.sends c.args.link.now c.send_all.new.link (call_record c.args.xid (call_shown c.args.call.now)) (take c.put_record-len.result c.put_record-len.new.out) c.send_all.result
      c.put_record-len.ensures.text (sym c.is_err.ensures.value ∙ c.if-is_err.false) c.send_all.ensures.told;
  ends = c.in-End.ensures.told;
}

pub returns-in-Failed-clause-told : goal.returns-in-Failed-clause-told
returns-in-Failed-clause-told g c = record {
  mid = c.send_all.new.link;
  whole = sends-whole g.L.Link.sends c.args.link.now c.send_all.new.link (call_record c.args.xid (call_shown c.args.call.now)) (take c.put_record-len.result c.put_record-len.new.out) c.send_all.result
      c.put_record-len.ensures.text (sym c.is_err.ensures.value ∙ c.if-is_err.false) c.send_all.ensures.told;
  ends = c.in-Failed.ensures.told;
}

pub returns-in-Record-clause-told : goal.returns-in-Record-clause-told
returns-in-Record-clause-told g c = record {
  mid = c.send_all.new.link;
  whole = sends-whole g.L.Link.sends c.args.link.now c.send_all.new.link (call_record c.args.xid (call_shown c.args.call.now)) (take c.put_record-len.result c.put_record-len.new.out) c.send_all.result
      c.put_record-len.ensures.text (sym c.is_err.ensures.value ∙ c.if-is_err.false) c.send_all.ensures.told;
  received = c.in-Record.ensures.told;
}

pub returns-in-TooLong-clause-told : goal.returns-in-TooLong-clause-told
returns-in-TooLong-clause-told g c = record {
  mid = c.send_all.new.link;
  whole = sends-whole g.L.Link.sends c.args.link.now c.send_all.new.link (call_record c.args.xid (call_shown c.args.call.now)) (take c.put_record-len.result c.put_record-len.new.out) c.send_all.result
      c.put_record-len.ensures.text (sym c.is_err.ensures.value ∙ c.if-is_err.false) c.send_all.ensures.told;
  received = c.in-TooLong.ensures.told;
}

pub returns-in-Failed-clause-swapped : goal.returns-in-Failed-clause-swapped
returns-in-Failed-clause-swapped g c =
    let brought = c.in-Failed.ensures.brought in
    let sent = sent-ok g.L.Link.stands g.L.Link.send_faults c.args.link.now c.send_all.new.link (take c.put_record-len.result c.put_record-len.new.out) c.send_all.result (sym c.is_err.ensures.value ∙ c.if-is_err.false) c.send_all.ensures.sent in
    let after = g.L.Link.receive_faults c.read_record.new.link in (
      swaps-of g.L.Link.stands g.L.Link.left c.args.link.now c.send_all.new.link c.read_record.new.link c.args.inbox.now.kept (call_record c.args.xid (call_shown c.args.call.now)) (take c.put_record-len.result c.put_record-len.new.out) brought.0 (λ stream got. IsClientOpen stream × Rose (g.L.Link.receive_faults c.args.link.now) after) c.put_record-len.ensures.text sent c.send_all.ensures.left brought.1 (brought.2.0, subst (λ n. Rose n after) c.send_all.ensures.receives brought.2.1),
      brought.2.2,
    )

pub returns-then-is_err-clause-swapped : goal.returns-then-is_err-clause-swapped
returns-then-is_err-clause-swapped g c = (
  sent-err g.L.Link.stands g.L.Link.send_faults c.args.link.now c.send_all.new.link (call_record c.args.xid (call_shown c.args.call.now)) (take c.put_record-len.result c.put_record-len.new.out) c.send_all.result
      c.put_record-len.ensures.text (sym c.is_err.ensures.value ∙ c.if-is_err.true) c.send_all.ensures.sent,
  c.send_all.ensures.left,
  ap last_of c.requires.inbox,
)

pub returns-then-is_err-clause-told : goal.returns-then-is_err-clause-told
returns-then-is_err-clause-told g c =
    sends-broken g.L.Link.sends c.args.link.now c.send_all.new.link (call_record c.args.xid (call_shown c.args.call.now)) (take c.put_record-len.result c.put_record-len.new.out) c.send_all.result
    c.put_record-len.ensures.text (sym c.is_err.ensures.value ∙ c.if-is_err.true) c.send_all.ensures.told
