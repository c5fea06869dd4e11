use Rattle.std.proofs.Common.{[], subst, take}
use Rattle.vx_io_traits.specs.Faults.{Rose}
use Rattle.vx_io_traits.specs.Stands.{Gives, Stays}
use Rattle.vx_loop.specs.LoopState.{LoopState}
use Rattle.vx_loop.specs.Standing.{MarkedStands}
use Rattle.vx_loop.specs.Telling.{IsReceive}
use Rattle.vx_loop.proofs.Looking.{goes-gives, goes-stays, marked-goes, got-both, end-both, failed-both}
use Rattle.vx_loop.proofs.marked.MarkedLink.receive.Goals as goal

pub returns-clause-got : goal.returns-clause-got
returns-clause-got g c =
    let start = g.M.Mark.start in
    let new = c.receive.new.self in
    got-both c.receive.result _ _ _ c.receive.ensures.went c.receive.ensures.got
    (λ n went got. (
      got.0,
      got.1,
      tt,
      subst (λ (old : LoopState). Gives (MarkedStands start) old new (take n c.receive.new.into)) c.self.view_is
          (goes-gives (MarkedStands start) c.self.inside.link new (take n c.receive.new.into) (marked-goes start c.self.inside.link new [] (take n c.receive.new.into) went)),
    ))

pub returns-clause-end : goal.returns-clause-end
returns-clause-end g c =
    let start = g.M.Mark.start in
    let new = c.receive.new.self in
    end-both c.receive.result _ _ _ c.receive.ensures.stayed c.receive.ensures.end
    (λ stayed end. (tt, tt, subst (λ (old : LoopState). Stays (MarkedStands start) old new) c.self.view_is (goes-stays (MarkedStands start) c.self.inside.link new (marked-goes start c.self.inside.link new [] [] stayed))))

pub returns-clause-failed : goal.returns-clause-failed
returns-clause-failed g c =
    let start = g.M.Mark.start in
    let new = c.receive.new.self in
    failed-both c.receive.result _ _ _ c.receive.ensures.broke c.receive.ensures.failed
    (λ broke failed.
    let both = subst (λ (old : LoopState). Rose old.receive_faults new.receive_faults × Stays (MarkedStands start) old new) c.self.view_is
    (failed.0, goes-stays (MarkedStands start) c.self.inside.link new (marked-goes start c.self.inside.link new [] [] broke)) in
    (both.0, tt, both.1))

pub returns-clause-receives : goal.returns-clause-receives
returns-clause-receives g c =
    subst (λ (old : LoopState). IsReceive old c.args.into.now c.receive.result c.receive.new.into c.receive.new.self) c.self.view_is c.receive.ensures.receives
