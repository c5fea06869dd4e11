use Rattle.std.proofs.Common.{sym, ◌∙◌, subst, refl}
use Rattle.std.proofs.lemmas.List.{with_items_is}
use Rattle.vx_player.specs.Standing.{PlayerStands, IsPlayerReady}
use Rattle.vx_rules.proofs.Laws.{role-lives}
use Rattle.vx_player.proofs.Laws.Connections.{none-of, piece-unknown, piece-busy, pieces-taken, pieces-stopped, pieces-printable}
use Rattle.vx_player.proofs.player.Player.piece.Goals as goal

pub returns-in_default-clause-stopped : goal.returns-in_default-clause-stopped
returns-in_default-clause-stopped g c = λ stage stands.
    let there = subst (λ p. PlayerStands p stage) (sym c.self.view_is) stands in
    piece-unknown stage _ c.args.conn c.args.bytes.now there (sym c.role.ensures ∙ c.in_default.is)

pub returns-then-pending-clause-stopped : goal.returns-then-pending-clause-stopped
returns-then-pending-clause-stopped g c = λ stage stands.
    let there = subst (λ p. PlayerStands p stage) (sym c.self.view_is) stands in
    piece-busy stage _ c.args.conn c.in-Some.role c.args.bytes.now there (sym c.in-Some.ensures) (sym c.pending.ensures ∙ c.if-pending.true)

pub feed_piece-requires-clause-lives : goal.feed_piece-requires-clause-lives
feed_piece-requires-clause-lives g c = role-lives c.self.inside.core.interleaved.state.tables c.args.conn c.in-Some.role (sym c.in-Some.ensures)

pub feed_piece-requires-clause-idle : goal.feed_piece-requires-clause-idle
feed_piece-requires-clause-idle g c = none-of _ (sym c.pending.ensures ∙ c.if-pending.false)

pub feed_piece-requires-clause-waits : goal.feed_piece-requires-clause-waits
feed_piece-requires-clause-waits g c =
    let ready = subst IsPlayerReady (sym c.self.view_is) c.requires.ready in
    ready.waits c.args.conn

pub feed_piece-requires-clause-limit : goal.feed_piece-requires-clause-limit
feed_piece-requires-clause-limit g c =
    let ready = subst IsPlayerReady (sym c.self.view_is) c.requires.ready in
    ready.limits c.args.conn

pub returns-clause-taken : goal.returns-clause-taken
returns-clause-taken g c =
    pieces-taken _ _ _ c.args.conn c.in-Some.role c.args.bytes.now c.feed_piece.new.reply c.feed_piece.result c.self.view_is (record {
      live = sym c.in-Some.ensures;
      idle = none-of _ (sym c.pending.ensures ∙ c.if-pending.false);
      some = c.requires.bytes;
      taken = c.feed_piece.ensures.taken;
      known = c.feed_piece.ensures.known;
      stopped = c.feed_piece.ensures.stopped;
      late = c.feed_piece.ensures.late;
      others = c.feed_piece.ensures.others;
      rack = refl;
      moment = refl;
      room_is = with_items_is c.self.inside.reply c.feed_piece.new.reply (c.feed_piece.auto.reply ∙ c.deref_mut.ensures.len);
    })

pub returns-clause-stopped : goal.returns-clause-stopped
returns-clause-stopped g c =
    pieces-stopped _ _ _ c.args.conn c.in-Some.role c.args.bytes.now c.feed_piece.new.reply c.feed_piece.result c.self.view_is (record {
      live = sym c.in-Some.ensures;
      idle = none-of _ (sym c.pending.ensures ∙ c.if-pending.false);
      some = c.requires.bytes;
      taken = c.feed_piece.ensures.taken;
      known = c.feed_piece.ensures.known;
      stopped = c.feed_piece.ensures.stopped;
      late = c.feed_piece.ensures.late;
      others = c.feed_piece.ensures.others;
      rack = refl;
      moment = refl;
      room_is = with_items_is c.self.inside.reply c.feed_piece.new.reply (c.feed_piece.auto.reply ∙ c.deref_mut.ensures.len);
    })

pub returns-clause-printable : goal.returns-clause-printable
returns-clause-printable g c =
    pieces-printable _ _ _ c.args.conn c.in-Some.role c.args.bytes.now c.feed_piece.new.reply c.feed_piece.result c.self.view_is (record {
      live = sym c.in-Some.ensures;
      idle = none-of _ (sym c.pending.ensures ∙ c.if-pending.false);
      some = c.requires.bytes;
      taken = c.feed_piece.ensures.taken;
      known = c.feed_piece.ensures.known;
      stopped = c.feed_piece.ensures.stopped;
      late = c.feed_piece.ensures.late;
      others = c.feed_piece.ensures.others;
      rack = refl;
      moment = refl;
      room_is = with_items_is c.self.inside.reply c.feed_piece.new.reply (c.feed_piece.auto.reply ∙ c.deref_mut.ensures.len);
    })
