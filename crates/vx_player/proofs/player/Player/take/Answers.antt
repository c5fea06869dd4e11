use Rattle.std.proofs.Common.{◌≡◌, true, None, Some, sym, ap, subst, ◌∙◌, refl, option_map}
use Rattle.std.proofs.lemmas.Bool.{false≢true}
use Rattle.std.proofs.lemmas.List.{with_items_is}
use Rattle.std.specs.Vec.{with_items}
use denote.Param.{param}
use Rattle.vx_calls.specs.declared.calls.Role.TheVariants as role
use Rattle.vx_calls.specs.declared.replies.Taken.TheVariants as seen
use Rattle.vx_exchange.specs.SrqState.{Channel, channel_at}
use Rattle.vx_exchange.specs.Shown.{given_shown}
use Rattle.vx_script.specs.Command.{Take}
use Rattle.vx_trace.specs.Output.{Irq}
use Rattle.vx_rules.specs.State.{lives_as}
use Rattle.vx_rules.proofs.Laws.{role-connection, lives-role}
use Rattle.vx_player.specs.declared.note.StepMade.{StepMade}
use Rattle.vx_player.specs.declared.note.Intake.TheVariants as intake
use Rattle.vx_player.specs.declared.note.Note.TheVariants as note
use Rattle.vx_player.specs.contracts.player.Player.{the_view}
use Rattle.vx_player.specs.PlayerState.{PlayerState}
use Rattle.vx_player.specs.Standing.{PlayerStands, HasLineRoom, TakesTo}
use Rattle.vx_player.proofs.Calling.{take-stranger, none-takes, take-takes}
use Rattle.vx_player.proofs.player.Player.take.Goals as goal

pub returns-in-Err-clause-stopped : goal.returns-in-Err-clause-stopped
returns-in-Err-clause-stopped g c = λ stage stands. take-stranger c.args.self.now stage c.args.conn _ stands c.in-Err.ensures.err

pub returns-in_default-clause-taken : goal.returns-in_default-clause-taken
returns-in_default-clause-taken g c = λ stage stands.
    let none : c.channel.result ≡ None = cc in
    subst (λ (m : StepMade). TakesTo stage (Take c.args.conn) m c.args.self.now) (sym c.of.ensures)
    (none-takes c.args.self.now stage c.args.conn stands c.in-Ok.ensures.ok
    (subst (λ (q : PlayerState). None ≡ option_map (λ (k : Channel). k.number) (channel_at q.core.interleaved.state.tables.srq_state c.args.conn)) c.self.view_is
    (sym none ∙ c.channel.ensures)))

pub returns-in-Srq-clause-taken : goal.returns-in-Srq-clause-taken
returns-in-Srq-clause-taken g c = λ stage stands.
    let p : PlayerState = the_view (param 0 g.row.I) g.I.Instrument c.self.inside in
    let room = with_items_is c.self.inside.reply c.put_srq_record-len.new.reply (c.put_srq_record-len.auto.reply ∙ c.deref_mut.ensures.len) in
    subst (λ (m : StepMade). TakesTo stage (Take c.args.conn) m
    (record p { core = c.take_interrupt.new.self; reply = (with_items c.self.inside.reply c.put_srq_record-len.new.reply).items })) (sym c.of-in-Srq.ensures)
    (subst (λ xs. TakesTo stage (Take c.args.conn)
    (record { intake = intake.Nothing; polled = None; note = note.Interrupt c.args.conn c.put_srq_record-len.result; answered = None })
    (record p { core = c.take_interrupt.new.self; reply = xs })) (sym room)
    (take-takes p stage c.take_interrupt.new.self c.put_srq_record-len.new.reply (note.Interrupt c.args.conn c.put_srq_record-len.result) c.args.conn c.in-Some.chan
    (given_shown (seen.Srq c.in-Srq.interrupt))
    (subst (λ q. PlayerStands q stage) (sym c.self.view_is) stands)
    (subst (λ (q : PlayerState). lives_as q.core.interleaved.state.tables c.args.conn role.Core ≡ true) (sym c.self.view_is) c.in-Ok.ensures.ok)
    c.in-Some.ensures c.in-Srq.ensures.interleaved c.take_interrupt.ensures.walk
    (ap (λ bytes. Some (Irq c.args.conn bytes)) c.put_srq_record-len.ensures.record)
    (c.put_srq_record-len.ensures.some, c.put_srq_record-len.ensures.within)))

pub returns-in-Empty-clause-taken : goal.returns-in-Empty-clause-taken
returns-in-Empty-clause-taken g c = λ stage stands.
    let p : PlayerState = the_view (param 0 g.row.I) g.I.Instrument c.self.inside in
    subst (λ (m : StepMade). TakesTo stage (Take c.args.conn) m
    (record p { core = c.take_interrupt.new.self })) (sym c.of-in-Empty.ensures)
    (take-takes p stage c.take_interrupt.new.self p.reply (note.NoInterrupt c.args.conn) c.args.conn c.in-Some.chan (given_shown seen.Empty)
    (subst (λ q. PlayerStands q stage) (sym c.self.view_is) stands)
    (subst (λ (q : PlayerState). lives_as q.core.interleaved.state.tables c.args.conn role.Core ≡ true) (sym c.self.view_is) c.in-Ok.ensures.ok)
    c.in-Some.ensures c.in-Empty.ensures.interleaved c.take_interrupt.ensures.walk refl tt)

pub returns-in-Gone-clause-taken : goal.returns-in-Gone-clause-taken
returns-in-Gone-clause-taken g c = λ stage stands.
    let p : PlayerState = the_view (param 0 g.row.I) g.I.Instrument c.self.inside in
    subst (λ (m : StepMade). TakesTo stage (Take c.args.conn) m
    (record p { core = c.take_interrupt.new.self })) (sym c.of-in-Gone.ensures)
    (take-takes p stage c.take_interrupt.new.self p.reply (note.NoChannel c.args.conn) c.args.conn c.in-Some.chan (given_shown seen.Gone)
    (subst (λ q. PlayerStands q stage) (sym c.self.view_is) stands)
    (subst (λ (q : PlayerState). lives_as q.core.interleaved.state.tables c.args.conn role.Core ≡ true) (sym c.self.view_is) c.in-Ok.ensures.ok)
    c.in-Some.ensures c.in-Gone.ensures.interleaved c.take_interrupt.ensures.walk refl tt)

pub take_interrupt-requires : goal.take_interrupt-requires
take_interrupt-requires g c =
    let t = c.self.inside.core.interleaved.state.tables in
    role-connection t c.args.conn role.Core (lives-role t c.args.conn role.Core
    (subst (λ (q : PlayerState). lives_as q.core.interleaved.state.tables c.args.conn role.Core ≡ true) (sym c.self.view_is) c.in-Ok.ensures.ok))

pub returns-in_default-clause-printable : goal.returns-in_default-clause-printable
returns-in_default-clause-printable g c =
    subst (HasLineRoom c.args.self.now) (sym c.of.ensures) (record { note = tt; few = λ h. absurd (false≢true h) })

pub returns-in-Srq-clause-printable : goal.returns-in-Srq-clause-printable
returns-in-Srq-clause-printable g c =
    let p : PlayerState = the_view (param 0 g.row.I) g.I.Instrument c.self.inside in
    let room = with_items_is c.self.inside.reply c.put_srq_record-len.new.reply (c.put_srq_record-len.auto.reply ∙ c.deref_mut.ensures.len) in
    subst (HasLineRoom (record p { core = c.take_interrupt.new.self; reply = (with_items c.self.inside.reply c.put_srq_record-len.new.reply).items })) (sym c.of-in-Srq.ensures)
    (subst (λ xs. HasLineRoom (record p { core = c.take_interrupt.new.self; reply = xs })
    (record { intake = intake.Nothing; polled = None; note = note.Interrupt c.args.conn c.put_srq_record-len.result; answered = None })) (sym room)
    (record { note = (c.put_srq_record-len.ensures.some, c.put_srq_record-len.ensures.within); few = λ h. absurd (false≢true h) }))

pub returns-in-Empty-clause-printable : goal.returns-in-Empty-clause-printable
returns-in-Empty-clause-printable g c =
    let p : PlayerState = the_view (param 0 g.row.I) g.I.Instrument c.self.inside in
    subst (HasLineRoom (record p { core = c.take_interrupt.new.self })) (sym c.of-in-Empty.ensures) (record { note = tt; few = λ h. absurd (false≢true h) })

pub returns-in-Gone-clause-printable : goal.returns-in-Gone-clause-printable
returns-in-Gone-clause-printable g c =
    let p : PlayerState = the_view (param 0 g.row.I) g.I.Instrument c.self.inside in
    subst (HasLineRoom (record p { core = c.take_interrupt.new.self })) (sym c.of-in-Gone.ensures) (record { note = tt; few = λ h. absurd (false≢true h) })
