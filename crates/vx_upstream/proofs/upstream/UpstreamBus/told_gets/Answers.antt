use Rattle.std.proofs.Common.{◌≡◌, ℕ, ◌+◌, ◌<◌, ◌&&◌, ◌==◌, length, map, take, get_or, refl, ap, ◌∙◌, arith}
use Rattle.vx_488.specs.declared.transfers.Transfer.{Transfer}
use Rattle.vx_488.specs.declared.transfers.Transfer.TheVariants.{Got}
use Rattle.vx_488.specs.declared.asks.Ask.TheVariants as ask
use Rattle.vx_488.specs.declared.asks.Move.TheVariants as answer
use Rattle.vx_488.specs.Steps.{Went, Held, Failed, move_step}
use Rattle.vx_488.specs.Bursts.{ended, refused_get}
use Rattle.vx_upstream.specs.UpstreamState.{UpstreamState, Kept, after, past}
use Rattle.vx_upstream.proofs.Bursting.{told-next, told-refused, told-came}
use Rattle.vx_upstream.proofs.upstream.UpstreamBus.told_gets.Goals as goal

pub loop-got-preserved : goal.loop-got-preserved
loop-got-preserved g c =
    let more : c.loop-got.got < length c.args.bytes.now = c.loop-got-test.true in (
      c.told.ensures.after
          ∙ ap (λ (t : Transfer). record c.loop-got.self { kept = after c.loop-got.self.kept (move_step t answer.Went) }) c.got_at.ensures
          ∙ ap (λ (s : UpstreamState g.row.L.Denot). record s { kept = after s.kept (move_step (Got (get_or c.args.bytes.now c.loop-got.got 0) (c.is_end-end.result && (c.loop-got.got + 1 == length c.args.bytes.now))) answer.Went) }) c.loop-got.invariant.0
          ∙ ap (λ (m : Kept). record c.args.self.now { kept = m })
          (told-next Got c.is_end-end.result c.args.bytes.now c.loop-got.got 0 (c.is_end-end.result && (c.loop-got.got + 1 == length c.args.bytes.now)) c.args.self.now.kept more refl),
      omega (arith, ap (λ (s : UpstreamState g.row.L.Denot). s.kept.means.asks) c.told.ensures.after, c.loop-got.invariant.1),
      omega (arith, more),
    )

pub returns-in-Full : goal.returns-in-Full
returns-in-Full g c =
    let at-end : c.loop-got.got ≡ length c.args.bytes.now = omega (arith, c.loop-got-test.false, c.loop-got.invariant.2) in
    c.loop-got.invariant.0
    ∙ ap (λ (k : ℕ). record c.args.self.now { kept = past c.args.self.now.kept (map Went (take k (ended Got c.is_end-end.result c.args.bytes.now))) }) at-end
    ∙ ap (λ (m : Kept). record c.args.self.now { kept = m })
    (told-came c.is_end-end.result c.args.bytes.now c.args.self.now.kept c.args.stop c.is_end-end.ensures (ap refused_get c.in-Full.is))

pub returns-in-End : goal.returns-in-End
returns-in-End g c =
    let at-end : c.loop-got.got ≡ length c.args.bytes.now = omega (arith, c.loop-got-test.false, c.loop-got.invariant.2) in
    c.loop-got.invariant.0
    ∙ ap (λ (k : ℕ). record c.args.self.now { kept = past c.args.self.now.kept (map Went (take k (ended Got c.is_end-end.result c.args.bytes.now))) }) at-end
    ∙ ap (λ (m : Kept). record c.args.self.now { kept = m })
    (told-came c.is_end-end.result c.args.bytes.now c.args.self.now.kept c.args.stop c.is_end-end.ensures (ap refused_get c.in-End.is))

pub returns-in-Char : goal.returns-in-Char
returns-in-Char g c =
    let at-end : c.loop-got.got ≡ length c.args.bytes.now = omega (arith, c.loop-got-test.false, c.loop-got.invariant.2) in
    c.loop-got.invariant.0
    ∙ ap (λ (k : ℕ). record c.args.self.now { kept = past c.args.self.now.kept (map Went (take k (ended Got c.is_end-end.result c.args.bytes.now))) }) at-end
    ∙ ap (λ (m : Kept). record c.args.self.now { kept = m })
    (told-came c.is_end-end.result c.args.bytes.now c.args.self.now.kept c.args.stop c.is_end-end.ensures (ap refused_get c.in-Char.is))

pub returns-in-Held : goal.returns-in-Held
returns-in-Held g c =
    let at-end : c.loop-got.got ≡ length c.args.bytes.now = omega (arith, c.loop-got-test.false, c.loop-got.invariant.2) in
    c.told-in-Held.ensures.after
    ∙ ap (λ (s : UpstreamState g.row.L.Denot). record s { kept = after s.kept (Held ask.Get) }) c.loop-got.invariant.0
    ∙ ap (λ (k : ℕ). record c.args.self.now { kept = after (past c.args.self.now.kept (map Went (take k (ended Got c.is_end-end.result c.args.bytes.now)))) (Held ask.Get) }) at-end
    ∙ ap (λ (m : Kept). record c.args.self.now { kept = m })
    (told-refused c.is_end-end.result c.args.bytes.now c.args.self.now.kept c.args.stop (Held ask.Get) c.is_end-end.ensures (ap refused_get c.in-Held.is))

pub returns-in-Failed : goal.returns-in-Failed
returns-in-Failed g c =
    let at-end : c.loop-got.got ≡ length c.args.bytes.now = omega (arith, c.loop-got-test.false, c.loop-got.invariant.2) in
    c.told-in-Failed.ensures.after
    ∙ ap (λ (s : UpstreamState g.row.L.Denot). record s { kept = after s.kept (Failed ask.Get) }) c.loop-got.invariant.0
    ∙ ap (λ (k : ℕ). record c.args.self.now { kept = after (past c.args.self.now.kept (map Went (take k (ended Got c.is_end-end.result c.args.bytes.now)))) (Failed ask.Get) }) at-end
    ∙ ap (λ (m : Kept). record c.args.self.now { kept = m })
    (told-refused c.is_end-end.result c.args.bytes.now c.args.self.now.kept c.args.stop (Failed ask.Get) c.is_end-end.ensures (ap refused_get c.in-Failed.is))
