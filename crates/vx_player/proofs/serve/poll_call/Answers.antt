use Rattle.std.proofs.Common.{◌≤◌, sym, subst, ◌∙◌, max, arith}
use Rattle.std.proofs.Math.Nat.{max-eq_right}
use Rattle.vx_exchange.proofs.Laws.{polled-moment}
use Rattle.vx_player.specs.Gateway.{gateway_of}
use Rattle.vx_player.specs.Making.{PollMakes}
use Rattle.vx_player.specs.Serving.{MadeBy, poll_made}
use Rattle.vx_player.proofs.PollMade.{sim, poll-made}
use Rattle.vx_player.proofs.serve.poll_call.Goals as goal

pub returns-clause-made : goal.returns-clause-made
returns-clause-made g c =
    subst (λ m. MadeBy (PollMakes (gateway_of c.args.core.now) c.args.conn c.args.now c.args.xid) c.again-end.new.reply m c.again-end.new.core) (sym c.of_poll.ensures)
    (subst (λ now. MadeBy (PollMakes (gateway_of c.args.core.now) c.args.conn now c.args.xid) c.again-end.new.reply (poll_made c.args.conn c.again-end.result) c.again-end.new.core)
    (max-eq_right c.requires.late)
    (poll-made c.args.core.now c.again-end.new.core c.args.conn (max c.args.core.now.interleaved.state.moment c.args.now) c.args.xid c.again-end.new.reply c.again-end.result
    (record { sound = c.sound_law.ensures.sound; links = c.sound_law.ensures.links; own = c.sound_law.ensures.own }) c.again-end.ensures.polled))

pub returns-clause-late : goal.returns-clause-late
returns-clause-late g c =
    let at = polled-moment sim c.args.core.now c.args.conn (max c.args.core.now.interleaved.state.moment c.args.now) c.args.xid c.again-end.new.reply c.again-end.result
    c.again-end.new.core c.again-end.ensures.polled ∙ max-eq_right c.requires.late in
    subst (λ m. m ≤ c.args.now) (sym at) (omega arith)
