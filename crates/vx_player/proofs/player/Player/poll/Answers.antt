use Rattle.std.proofs.Common.{◌≡◌, true, is_some, sym, subst, ◌∙◌, IfSome}
use Rattle.std.proofs.lemmas.List.{with_items_is}
use denote.Param.{param}
use Rattle.vx_calls.specs.declared.calls.Role.TheVariants as role
use Rattle.vx_script.specs.Command.{Poll}
use Rattle.vx_rules.specs.State.{lives_as, pending_at}
use Rattle.vx_player.specs.contracts.player.Player.{the_view}
use Rattle.vx_player.specs.PlayerState.{PlayerState, incoming_at}
use Rattle.vx_player.specs.Standing.{PlayerStands, IsPlayerReady, HasLineRoom, TakesTo}
use Rattle.vx_player.proofs.Calling.{poll-stranger, poll-idle, poll-takes}
use Rattle.vx_player.proofs.player.Player.poll.Goals as goal

pub returns-in-Err-clause-stopped : goal.returns-in-Err-clause-stopped
returns-in-Err-clause-stopped g c = λ stage stands. poll-stranger c.args.self.now stage c.args.conn _ stands c.in-Err.ensures.err

pub returns-then-not-is_pending-clause-stopped : goal.returns-then-not-is_pending-clause-stopped
returns-then-not-is_pending-clause-stopped g c = λ stage stands.
    poll-idle c.args.self.now stage c.args.conn stands c.in-Ok.ensures.ok (sym c.is_pending.ensures ∙ c.if-not-is_pending.true)

pub poll_call-requires-clause-pending : goal.poll_call-requires-clause-pending
poll_call-requires-clause-pending g c =
    subst (λ (q : PlayerState). is_some (pending_at q.core.interleaved.state.tables c.args.conn) ≡ true) (sym c.self.view_is) (sym c.is_pending.ensures ∙ c.if-not-is_pending.false)

pub poll_call-requires-clause-late : goal.poll_call-requires-clause-late
poll_call-requires-clause-late g c = (subst IsPlayerReady (sym c.self.view_is) c.requires.ready).late

pub returns-clause-printable : goal.returns-clause-printable
returns-clause-printable g c =
    let p : PlayerState = the_view (param 0 g.row.I) g.I.Instrument c.self.inside in
    let room = with_items_is c.self.inside.reply c.poll_call.new.reply (c.poll_call.auto.reply ∙ c.deref_mut.ensures.len) in
    subst (λ xs. HasLineRoom (record p { core = c.poll_call.new.core; reply = xs }) c.poll_call.result) (sym room)
    (record { note = c.poll_call.ensures.made.note; few = c.poll_call.ensures.made.few })

pub returns-clause-taken : goal.returns-clause-taken
returns-clause-taken g c = λ stage stands.
    let p : PlayerState = the_view (param 0 g.row.I) g.I.Instrument c.self.inside in
    let room = with_items_is c.self.inside.reply c.poll_call.new.reply (c.poll_call.auto.reply ∙ c.deref_mut.ensures.len) in
    subst (λ xs. TakesTo stage (Poll c.args.conn) c.poll_call.result
    (record p { core = c.poll_call.new.core; reply = xs })) (sym room)
    (poll-takes p stage c.poll_call.new.core c.poll_call.new.reply c.poll_call.result c.args.conn c.xid-xid.result
    (subst (λ q. PlayerStands q stage) (sym c.self.view_is) stands)
    (subst (λ (q : PlayerState). lives_as q.core.interleaved.state.tables c.args.conn role.Core ≡ true) (sym c.self.view_is) c.in-Ok.ensures.ok)
    (subst (λ (q : PlayerState). is_some (pending_at q.core.interleaved.state.tables c.args.conn) ≡ true) (sym c.self.view_is) (sym c.is_pending.ensures ∙ c.if-not-is_pending.false))
    (subst (λ (q : PlayerState). IfSome (incoming_at q.incoming c.args.conn) (λ kept. c.xid-xid.result ≡ kept.xid)) (sym c.self.view_is) c.xid-xid.ensures)
    c.poll_call.ensures.made c.poll_call.ensures.quiet c.poll_call.ensures.late)
