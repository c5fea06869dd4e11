use Rattle.std.proofs.Common.{◌≡◌, ◌≤◌, length, Some, IsSome, sym, ap, ◌∙◌, subst, nat_cmp, rules, arith}
use Rattle.std.specs.BTreeMap.{get}
use Rattle.std.proofs.lemmas.Option.{same_Some}
use Rattle.vx_calls.specs.declared.limits.TheConstants.{RECORD_MAX}
use Rattle.vx_rules.specs.State.{connection_at}
use Rattle.vx_rules.proofs.Laws.{role-connection, lives-role}
use Rattle.vx_exchange.specs.Meaning.{Junk, meaning}
use Rattle.vx_player.specs.Gateway.{Gateway, gateway_of}
use Rattle.vx_player.specs.Serving.{PlayerServes}
use Rattle.vx_player.proofs.Feeds.{if-there, record-served, record-junk}
use Rattle.vx_player.proofs.pieces.answer.Goals as goal

pub serve-requires-clause-short : goal.serve-requires-clause-short
serve-requires-clause-short g c =
    let limit : c.in-Some.kept.now.buffer.limit ≡ RECORD_MAX =
    if-there (λ k. k.buffer.limit ≡ RECORD_MAX) (get nat_cmp c.args.incoming.now c.args.conn) c.in-Some.kept.now (sym c.in-Some.ensures.value) c.requires.limit in
    let fits : length c.whole-whole.result.now ≤ c.in-Some.kept.now.buffer.limit = c.whole-whole.ensures.fits in
    omega arith

pub end-requires : goal.end-requires
end-requires g c =
    subst (λ (v : Gateway). IsSome (connection_at v.interleaved.state.tables c.args.conn)) (sym c.in-None.ensures.stays)
    (role-connection c.args.core.now.interleaved.state.tables c.args.conn c.args.role (lives-role c.args.core.now.interleaved.state.tables c.args.conn c.args.role c.requires.lives))

pub returns-in-Some-serve-clause-answered : goal.returns-in-Some-serve-clause-answered
returns-in-Some-serve-clause-answered g c = λ kept was.
    let same : c.in-Some.kept.now ≡ kept = same_Some c.in-Some.kept.now kept (c.in-Some.ensures.value ∙ was) in
    let there : get nat_cmp (c.get_mut.follows.lender (record { buffer = c.next.new.self; xid = c.in-Some-serve.served.xid })) c.args.conn
    ≡ Some (record { buffer = c.next.new.self; xid = c.in-Some-serve.served.xid }) = search rules in
    rw c.of_intake.ensures (record-served (gateway_of c.args.core.now) c.serve.new.core c.args.conn c.args.now c.args.role c.in-Some.kept.now kept c.serve.new.reply c.keep.new.self _ c.in-Some-serve.served same
    (subst (λ b. PlayerServes (gateway_of c.args.core.now) c.args.conn c.args.now c.in-Some.kept.now.xid (meaning b c.args.role) c.serve.new.reply c.in-Some-serve.served c.serve.new.core)
    c.whole-whole.ensures.bytes c.in-Some-serve.ensures.served)
    (c.keep.ensures ∙ c.whole-whole.ensures.bytes)
    (there ∙ ap (λ b. Some (record c.in-Some.kept.now { buffer = b; xid = c.in-Some-serve.served.xid })) c.next.ensures))

pub returns-in-None-clause-answered : goal.returns-in-None-clause-answered
returns-in-None-clause-answered g c = λ kept was.
    let same : c.in-Some.kept.now ≡ kept = same_Some c.in-Some.kept.now kept (c.in-Some.ensures.value ∙ was) in
    let junk = subst (λ b. meaning b c.args.role ≡ Junk) c.whole-whole.ensures.bytes c.in-None.ensures.junk in
    rw c.of_intake-in-None.ensures (rw c.of.ensures (record-junk c.args.core.now c.serve.new.core c.end.new.core c.args.conn c.args.now c.args.role c.in-Some.kept.now kept c.serve.new.reply c.keep.new.self _
    same junk (c.keep.ensures ∙ c.whole-whole.ensures.bytes) c.in-None.ensures.stays c.end.ensures.happens c.end.ensures.gone))
