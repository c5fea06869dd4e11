use Rattle.std.proofs.Common.{[], subst, take}
use Rattle.vx_io_traits.specs.Faults.{Rose}
use Rattle.vx_io_traits.specs.Stands.{Takes, Stays}
use Rattle.vx_loop.specs.LoopState.{LoopState}
use Rattle.vx_loop.specs.Standing.{MarkedStands}
use Rattle.vx_loop.specs.Telling.{IsSend}
use Rattle.vx_loop.proofs.Looking.{goes-takes, goes-stays, marked-goes, took-both, refused-both}
use Rattle.vx_loop.proofs.marked.MarkedLink.send.Goals as goal

pub returns-clause-took : goal.returns-clause-took
returns-clause-took g c =
    let start = g.M.Mark.start in
    let new = c.send.new.self in
    took-both c.send.result _ _ _ c.send.ensures.went c.send.ensures.took
    (λ n went took. (
      took.0,
      took.1,
      subst (λ (old : LoopState). Takes (MarkedStands start) old new (take n c.args.from.now)) c.self.view_is
          (goes-takes (MarkedStands start) c.self.inside.link new (take n c.args.from.now) (marked-goes start c.self.inside.link new (take n c.args.from.now) [] went)),
    ))

pub returns-clause-failed : goal.returns-clause-failed
returns-clause-failed g c =
    let start = g.M.Mark.start in
    let new = c.send.new.self in
    refused-both c.send.result _ _ _ c.send.ensures.broke c.send.ensures.failed
    (λ broke failed. subst (λ (old : LoopState). Rose old.send_faults new.send_faults × Stays (MarkedStands start) old new) c.self.view_is
    (failed.0, goes-stays (MarkedStands start) c.self.inside.link new (marked-goes start c.self.inside.link new [] [] broke)))

pub returns-clause-sends : goal.returns-clause-sends
returns-clause-sends g c = subst (λ (old : LoopState). IsSend old c.args.from.now c.send.result c.send.new.self) c.self.view_is c.send.ensures.sends
