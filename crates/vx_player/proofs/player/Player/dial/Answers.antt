use Rattle.std.proofs.Common.{◌≡◌, true, Some, None, sym, subst, ◌∙◌, IfSome}
use Rattle.std.proofs.lemmas.Bool.{false≢true}
use Rattle.std.proofs.lemmas.List.{with_items_is}
use denote.Param.{param}
use Rattle.vx_calls.specs.declared.calls.Role.TheVariants as role
use Rattle.vx_script.specs.Command.{Dial}
use Rattle.vx_rules.specs.State.{lives_as}
use Rattle.vx_player.specs.declared.note.Intake.TheVariants as intake
use Rattle.vx_player.specs.declared.note.Note.TheVariants as note
use Rattle.vx_player.specs.contracts.player.Player.{the_view}
use Rattle.vx_player.specs.PlayerState.{PlayerState, incoming_at}
use Rattle.vx_player.specs.Standing.{PlayerStands, HasLineRoom, TakesTo}
use Rattle.vx_player.proofs.Calling.{dial-stranger, dial-idle, dial-takes}
use Rattle.vx_player.proofs.player.Player.dial.Goals as goal

pub returns-in-Err-clause-stopped : goal.returns-in-Err-clause-stopped
returns-in-Err-clause-stopped g c = λ stage stands. dial-stranger c.args.self.now stage c.args.conn c.args.up _ stands c.in-Err.ensures.err

pub returns-then-not-dialing-clause-stopped : goal.returns-then-not-dialing-clause-stopped
returns-then-not-dialing-clause-stopped g c = λ stage stands.
    let there = subst (λ q. PlayerStands q stage) (sym c.self.view_is) stands in
    dial-idle _ stage c.args.conn c.args.up there
    (subst (λ (q : PlayerState). lives_as q.core.interleaved.state.tables c.args.conn role.Core ≡ true) (sym c.self.view_is) c.in-Ok.ensures.ok)
    (sym c.dialing.ensures ∙ c.if-not-dialing.true)

pub settle-answered-requires-clause-dialed : goal.settle-answered-requires-clause-dialed
settle-answered-requires-clause-dialed g c = sym c.dialing.ensures ∙ c.if-not-dialing.false

pub returns-clause-printable : goal.returns-clause-printable
returns-clause-printable g c =
    let p : PlayerState = the_view (param 0 g.row.I) g.I.Instrument c.self.inside in
    let answered = c.settle-answered.result in
    let stands = c.settle-answered.ensures.settles.stands in
    let room = with_items_is c.self.inside.reply c.settle-answered.new.reply (c.settle-answered.auto.reply ∙ c.deref_mut.ensures.len) in
    subst (λ xs. HasLineRoom (record p { core = c.settle-answered.new.core; reply = xs })
    (record { intake = intake.Dialed c.args.conn c.args.up; polled = None; note = note.Replied c.args.conn answered.len; answered = Some answered.error })) (sym room)
    (record { note = (stands.some, stands.within); few = λ h. absurd (false≢true h) })

pub returns-clause-taken : goal.returns-clause-taken
returns-clause-taken g c = λ stage stands.
    let p : PlayerState = the_view (param 0 g.row.I) g.I.Instrument c.self.inside in
    let answered = c.settle-answered.result in
    let room = with_items_is c.self.inside.reply c.settle-answered.new.reply (c.settle-answered.auto.reply ∙ c.deref_mut.ensures.len) in
    subst (λ xs. TakesTo stage (Dial c.args.conn c.args.up) (record { intake = intake.Dialed c.args.conn c.args.up; polled = None; note = note.Replied c.args.conn answered.len; answered = Some answered.error })
    (record p { core = c.settle-answered.new.core; reply = xs })) (sym room)
    (dial-takes p stage c.settle-answered.new.core c.settle-answered.new.reply c.args.conn c.xid-xid.result c.args.up answered
    (subst (λ q. PlayerStands q stage) (sym c.self.view_is) stands)
    (subst (λ (q : PlayerState). lives_as q.core.interleaved.state.tables c.args.conn role.Core ≡ true) (sym c.self.view_is) c.in-Ok.ensures.ok)
    (sym c.dialing.ensures ∙ c.if-not-dialing.false)
    (subst (λ (q : PlayerState). IfSome (incoming_at q.incoming c.args.conn) (λ kept. c.xid-xid.result ≡ kept.xid)) (sym c.self.view_is) c.xid-xid.ensures)
    c.settle-answered.ensures.settles)
