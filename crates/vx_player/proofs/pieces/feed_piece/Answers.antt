use Rattle.std.proofs.Common.{refl, nat_cmp}
use Rattle.std.specs.BTreeMap.{get}
use Rattle.vx_record.specs.declared.Feed.TheVariants as feed
use Rattle.vx_player.specs.Gateway.{gateway_of}
use Rattle.vx_rules.proofs.Laws.{role-connection}
use Rattle.vx_rules.proofs.Laws.{lives-role}
use Rattle.vx_player.proofs.Feeds.{fed-whole, feeds-piece, stops-piece, fed-state, fed-limits}
use Rattle.vx_player.proofs.pieces.feed_piece.Goals as goal

pub answer-requires-clause-whole : goal.answer-requires-clause-whole
answer-requires-clause-whole g c =
    fed-state (get nat_cmp c.args.incoming.now c.args.conn) (get nat_cmp c.feed.new.incoming c.args.conn) c.args.bytes.now c.in-Some.fed feed.Whole c.in-Some.ensures.fed c.in-Whole.is

pub answer-requires-clause-limit : goal.answer-requires-clause-limit
answer-requires-clause-limit g c =
    fed-limits (get nat_cmp c.args.incoming.now c.args.conn) (get nat_cmp c.feed.new.incoming c.args.conn) c.args.bytes.now c.in-Some.fed c.in-Some.ensures.fed c.requires.limit

pub end-requires : goal.end-requires
end-requires g c =
    role-connection c.args.core.now.interleaved.state.tables c.args.conn c.args.role (lives-role c.args.core.now.interleaved.state.tables c.args.conn c.args.role c.requires.lives)

pub returns-in-None-clause-stopped : goal.returns-in-None-clause-stopped
returns-in-None-clause-stopped g c = λ kept was. let none = c.in-None.ensures.none in absurd (cc (was, none))

pub returns-in-Some-clause-stopped : goal.returns-in-Some-clause-stopped
returns-in-Some-clause-stopped g c = λ kept was.
    stops-piece (get nat_cmp c.args.incoming.now c.args.conn) (get nat_cmp c.feed.new.incoming c.args.conn) kept c.args.bytes.now c.in-Some.fed c.in-Some.ensures.fed was c.if-fed-bytes.true

pub returns-in-More-clause-taken : goal.returns-in-More-clause-taken
returns-in-More-clause-taken g c = λ kept was.
    let is = fed-whole (get nat_cmp c.args.incoming.now c.args.conn) (get nat_cmp c.feed.new.incoming c.args.conn) kept c.args.bytes.now c.in-Some.fed feed.More
    c.in-Some.ensures.fed was c.if-fed-bytes.false c.in-More.is in
    feeds-piece (gateway_of c.args.core.now) c.args.conn c.args.now c.args.role kept c.args.bytes.now c.args.reply.now c.args.message.now _ _ _ c.args.core.now feed.More is (refl, is.is, refl)

pub returns-in-Whole-clause-taken : goal.returns-in-Whole-clause-taken
returns-in-Whole-clause-taken g c = λ kept was.
    let is = fed-whole (get nat_cmp c.args.incoming.now c.args.conn) (get nat_cmp c.feed.new.incoming c.args.conn) kept c.args.bytes.now c.in-Some.fed feed.Whole
    c.in-Some.ensures.fed was c.if-fed-bytes.false c.in-Whole.is in
    feeds-piece (gateway_of c.args.core.now) c.args.conn c.args.now c.args.role kept c.args.bytes.now c.answer.new.reply c.answer.new.message _ _ _ c.answer.new.core feed.Whole is
    (c.answer.ensures.answered _ is.is)

pub returns-in-TooLong-clause-taken : goal.returns-in-TooLong-clause-taken
returns-in-TooLong-clause-taken g c = λ kept was.
    let is = fed-whole (get nat_cmp c.args.incoming.now c.args.conn) (get nat_cmp c.feed.new.incoming c.args.conn) kept c.args.bytes.now c.in-Some.fed feed.TooLong
    c.in-Some.ensures.fed was c.if-fed-bytes.false c.in-TooLong.is in
    feeds-piece (gateway_of c.args.core.now) c.args.conn c.args.now c.args.role kept c.args.bytes.now c.args.reply.now c.args.message.now _ _ _ c.end.new.core feed.TooLong is
    (c.end.ensures.happens, c.end.ensures.gone, c.of.ensures)
