use Rattle.std.proofs.Common.{◌≡◌, ◌≤◌, true, ap, sym, subst, ◌∙◌, max, arith}
use Rattle.std.specs.Prelude.{is_none}
use Rattle.std.proofs.lemmas.Bool.{and_from}
use Rattle.std.proofs.Math.Nat.{max-eq_right}
use Rattle.vx_calls.specs.declared.calls.Role.TheVariants as role
use Rattle.vx_calls.specs.Call.{call_shown}
use Rattle.vx_rules.specs.State.{lives_as, pending_at}
use Rattle.vx_flow.specs.Event.{Abort}
use Rattle.vx_flow.proofs.Laws.{interleaved-frame}
use Rattle.vx_exchange.specs.Meaning.{meaning}
use Rattle.vx_exchange.proofs.Laws.{came-ends}
use Rattle.vx_player.specs.Gateway.{gateway_of}
use Rattle.vx_player.specs.Serving.{PlayerServes}
use Rattle.vx_player.proofs.PollMade.{sim, answered-serves, aborted-serves, called-serves}
use Rattle.vx_player.proofs.serve.serve.Goals as goal

pub come-end-requires-clause-idle : goal.come-end-requires-clause-idle
come-end-requires-clause-idle g c =
    let t = c.args.core.now.interleaved.state.tables in
    and_from (lives_as t c.args.conn role.Core) (is_none (pending_at t c.args.conn))
    (subst (λ r. lives_as t c.args.conn r ≡ true) c.in-Asks.ensures.role.0 c.requires.lives) (ap is_none c.requires.idle)

pub abort-len-requires-clause-lives : goal.abort-len-requires-clause-lives
abort-len-requires-clause-lives g c =
    subst (λ r. lives_as c.args.core.now.interleaved.state.tables c.args.conn r ≡ true) c.in-Aborts.ensures.role c.requires.lives

pub returns-in-Answered-clause-served : goal.returns-in-Answered-clause-served
returns-in-Answered-clause-served g c =
    let opens = c.in-Answered.ensures.opens in
    subst (λ m. PlayerServes (gateway_of c.args.core.now) c.args.conn c.args.now c.args.last (meaning c.args.message.now c.args.role) c.open.new.reply
    (record { made = m; xid = c.args.last }) c.args.core.now) (sym c.of.ensures)
    (answered-serves c.args.core.now c.args.conn c.args.now c.args.last c.in-Answered.len (meaning c.args.message.now c.args.role) opens.0 c.open.new.reply opens.1 opens.2)

pub returns-in-Asks-clause-served : goal.returns-in-Asks-clause-served
returns-in-Asks-clause-served g c =
    subst (λ m. PlayerServes (gateway_of c.args.core.now) c.args.conn c.args.now c.args.last (meaning c.args.message.now c.args.role) c.come-end.new.reply
    (record { made = m; xid = c.in-Asks.xid }) c.come-end.new.core) (sym c.of_poll.ensures)
    (called-serves c.args.core.now c.come-end.new.core c.args.conn c.args.now c.args.last c.in-Asks.xid (meaning c.args.message.now c.args.role)
    (call_shown c.in-Asks.call) c.come-end.new.reply c.come-end.result c.in-Asks.ensures.opens
    (record { sound = c.sound_law.ensures.sound; links = c.sound_law.ensures.links; own = c.sound_law.ensures.own }) c.requires.late c.come-end.ensures.came)

pub returns-in-Asks-clause-late : goal.returns-in-Asks-clause-late
returns-in-Asks-clause-late g c =
    let at = came-ends sim c.args.core.now c.args.conn (call_shown c.in-Asks.call) (max c.args.core.now.interleaved.state.moment c.args.now) c.in-Asks.xid c.come-end.new.reply
    c.come-end.result c.come-end.new.core c.come-end.ensures.came ∙ max-eq_right c.requires.late in
    subst (λ m. m ≤ c.args.now) (sym at) (omega arith)

pub returns-in-Aborts-clause-served : goal.returns-in-Aborts-clause-served
returns-in-Aborts-clause-served g c =
    subst (λ m. PlayerServes (gateway_of c.args.core.now) c.args.conn c.args.now c.args.last (meaning c.args.message.now c.args.role) c.abort-len.new.reply
    (record { made = m; xid = c.args.last }) c.abort-len.new.core) (sym c.of-in-Aborts.ensures)
    (aborted-serves c.args.core.now c.abort-len.new.core c.args.conn c.args.now c.args.last c.in-Aborts.xid c.in-Aborts.lid (meaning c.args.message.now c.args.role)
    c.abort-len.new.reply c.abort-len.result c.in-Aborts.ensures.opens c.abort-len.ensures.aborts)

pub returns-in-Aborts-clause-late : goal.returns-in-Aborts-clause-late
returns-in-Aborts-clause-late g c =
    subst (λ m. m ≤ c.args.now) (sym (interleaved-frame c.args.core.now.interleaved c.abort-len.new.core.interleaved (Abort c.args.conn c.in-Aborts.lid c.abort-len.result.error) c.abort-len.ensures.aborts.aborts).moment_is)
    c.requires.late
