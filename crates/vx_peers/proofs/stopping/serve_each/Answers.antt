use Rattle.std.proofs.Common.{sym, ◌∙◌, arith}
use Rattle.vx_peers.proofs.Rounds.{so-none, so-more, so-served, so-ended, so-failed}
use Rattle.vx_peers.proofs.stopping.serve_each.Invariants.{shows}
use Rattle.vx_peers.proofs.stopping.serve_each.Goals as goal

pub serve_next-after-requires-clause-few : goal.serve_next-after-requires-clause-few
serve_next-after-requires-clause-few g c = omega (arith, c.requires.few, c.loop-number-test.true)

pub loop-number-init : goal.loop-number-init
loop-number-init g c = (c.requires.can, omega arith, so-none (shows g) c.args.server c.args.door.now, c.requires.going)

pub loop-number-preserved : goal.loop-number-preserved
loop-number-preserved g c =
    let next = c.serve_next-after in (
      rw c.in-Peer.is at next.ensures.can,
      omega (arith, c.loop-number-test.true),
      so-more (shows g) c.args.server c.args.door.now c.loop-number.invariant.2 (rw c.in-Peer.is at next.ensures.met),
      sym c.is_stopped.ensures ∙ c.if-is_stopped.false,
    )

pub returns-then-is_stopped : goal.returns-then-is_stopped
returns-then-is_stopped g c =
    let next = c.serve_next-after in (
      so-served (shows g) c.args.server c.args.door.now
          (so-more (shows g) c.args.server c.args.door.now c.loop-number.invariant.2 (rw c.in-Peer.is at next.ensures.met)) (omega arith) (omega arith),
      omega (arith, c.loop-number-test.true),
      sym c.is_stopped.ensures ∙ c.if-is_stopped.true,
    )

pub returns-in-Ended : goal.returns-in-Ended
returns-in-Ended g c =
    let none = rw c.in-Ended.is at c.serve_next-after.ensures.none in
    (so-ended (shows g) c.args.server c.args.door.now c.loop-number.invariant.2 c.loop-number.invariant.1 none, rw none.0 c.loop-number.invariant.3)

pub returns-in-Failed : goal.returns-in-Failed
returns-in-Failed g c =
    let none = rw c.in-Failed.is at c.serve_next-after.ensures.none in
    (so-failed (shows g) c.args.server c.args.door.now c.loop-number.invariant.2 c.loop-number.invariant.1 none, rw none.0 c.loop-number.invariant.3)

pub returns : goal.returns
returns g c =
    (so-served (shows g) c.args.server c.args.door.now c.loop-number.invariant.2 c.loop-number.invariant.1 (omega (arith, c.loop-number-test.false)), c.loop-number.invariant.3)
