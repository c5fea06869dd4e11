use Rattle.std.proofs.Common.{◌≡◌, ◌+◌, ◌<◌, ◌&&◌, ◌==◌, length, get_or, refl, sym, ap, ◌∙◌, arith}
use Rattle.vx_488.specs.declared.transfers.Transfer.{Transfer}
use Rattle.vx_488.specs.declared.transfers.Transfer.TheVariants.{Put}
use Rattle.vx_488.specs.declared.asks.Move.TheVariants as answer
use Rattle.vx_488.specs.Steps.{move_step}
use Rattle.vx_upstream.specs.UpstreamState.{UpstreamState, Kept, after}
use Rattle.vx_upstream.proofs.Bursting.{told-next, told-last, told-all, beside}
use Rattle.vx_upstream.proofs.upstream.UpstreamBus.told_puts.Goals as goal

pub loop-moved-preserved : goal.loop-moved-preserved
loop-moved-preserved g c =
    let more : c.loop-moved.moved < length c.args.bytes.now = omega (arith, c.loop-moved-test.true, c.requires.within) in (
      c.told.ensures.after
          ∙ ap (λ (t : Transfer). record c.loop-moved.self { kept = after c.loop-moved.self.kept (move_step t answer.Went) }) c.put_at.ensures
          ∙ ap (λ (s : UpstreamState g.row.L.Denot). record s { kept = after s.kept (move_step (Put (get_or c.args.bytes.now c.loop-moved.moved 0) (c.args.end && (c.loop-moved.moved + 1 == length c.args.bytes.now))) answer.Went) }) c.loop-moved.invariant.0
          ∙ ap (λ (m : Kept). record c.args.self.now { kept = m })
          (told-next Put c.args.end c.args.bytes.now c.loop-moved.moved 0 (c.args.end && (c.loop-moved.moved + 1 == length c.args.bytes.now)) c.args.self.now.kept more refl),
      omega (arith, ap (λ (s : UpstreamState g.row.L.Denot). s.kept.means.asks) c.told.ensures.after, c.loop-moved.invariant.1),
      omega (arith, c.loop-moved-test.true),
    )

pub returns-in-Went : goal.returns-in-Went
returns-in-Went g c =
    let at-end : c.loop-moved.moved ≡ c.args.many.moved = omega (arith, c.loop-moved-test.false, c.loop-moved.invariant.2) in
    c.loop-moved.invariant.0
    ∙ ap (λ (m : Kept). record c.args.self.now { kept = m })
    (told-all c.args.end c.args.bytes.now c.loop-moved.moved c.args.self.now.kept c.args.many at-end (sym c.in-Went.is))

pub returns-in-Held : goal.returns-in-Held
returns-in-Held g c =
    let at-end : c.loop-moved.moved ≡ c.args.many.moved = omega (arith, c.loop-moved-test.false, c.loop-moved.invariant.2) in
    let here : c.loop-moved.moved < length c.args.bytes.now =
    beside c.args.many.last c.args.many.moved (length c.args.bytes.now) c.loop-moved.moved c.requires.within c.requires.last.1 at-end (λ went. let no-way : answer.Held ≡ answer.Went = sym c.in-Held.is ∙ went in cc) in
    c.told-in-Held.ensures.after
    ∙ ap (λ (t : Transfer). record c.loop-moved.self { kept = after c.loop-moved.self.kept (move_step t answer.Held) }) c.put_at-in-Held.ensures
    ∙ ap (λ (s : UpstreamState g.row.L.Denot). record s { kept = after s.kept (move_step (Put (get_or c.args.bytes.now c.loop-moved.moved 0) (c.args.end && (c.loop-moved.moved + 1 == length c.args.bytes.now))) answer.Held) }) c.loop-moved.invariant.0
    ∙ ap (λ (m : Kept). record c.args.self.now { kept = m })
    (told-last c.args.end c.args.bytes.now c.loop-moved.moved 0 c.args.self.now.kept answer.Held c.args.many here (λ e. cc) at-end (sym c.in-Held.is))

pub returns-in-Failed : goal.returns-in-Failed
returns-in-Failed g c =
    let at-end : c.loop-moved.moved ≡ c.args.many.moved = omega (arith, c.loop-moved-test.false, c.loop-moved.invariant.2) in
    let here : c.loop-moved.moved < length c.args.bytes.now =
    beside c.args.many.last c.args.many.moved (length c.args.bytes.now) c.loop-moved.moved c.requires.within c.requires.last.1 at-end (λ went. let no-way : answer.Failed ≡ answer.Went = sym c.in-Failed.is ∙ went in cc) in
    c.told-in-Failed.ensures.after
    ∙ ap (λ (t : Transfer). record c.loop-moved.self { kept = after c.loop-moved.self.kept (move_step t answer.Failed) }) c.put_at-in-Failed.ensures
    ∙ ap (λ (s : UpstreamState g.row.L.Denot). record s { kept = after s.kept (move_step (Put (get_or c.args.bytes.now c.loop-moved.moved 0) (c.args.end && (c.loop-moved.moved + 1 == length c.args.bytes.now))) answer.Failed) }) c.loop-moved.invariant.0
    ∙ ap (λ (m : Kept). record c.args.self.now { kept = m })
    (told-last c.args.end c.args.bytes.now c.loop-moved.moved 0 c.args.self.now.kept answer.Failed c.args.many here (λ e. cc) at-end (sym c.in-Failed.is))
