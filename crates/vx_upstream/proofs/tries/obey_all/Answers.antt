use Rattle.std.proofs.Common.{ℕ, take, add-one, sym, subst, arith}
use Rattle.vx_upstream.specs.Sending.{words_of}
use Rattle.vx_upstream.specs.Bringing.{AllObeyed}
use Rattle.vx_upstream.proofs.Obeying.{obeyed-next, obeyed-broken}
use Rattle.vx_upstream.proofs.tries.obey_all.Goals as goal

pub loop-done-preserved : goal.loop-done-preserved
loop-done-preserved g c = (
  subst (λ (k : ℕ). AllObeyed (words_of g.L.Link g.L.Reach.refused g.L.Reach.tries) c.args.lid c.args.opts.now c.args.client.now (take k c.args.orders.now) c.obey.new.client) (sym (add-one c.loop-done.done))
      (obeyed-next (words_of g.L.Link g.L.Reach.refused g.L.Reach.tries) c.args.lid c.args.opts.now c.args.orders.now c.loop-done.done c.in-Ok.field-0 _ c.args.client.now c.loop-done.client c.obey.new.client
      c.loop-done-test.true c.loop-done.invariant.0 c.in-Ok.ensures),
  omega arith,
)

pub returns-in-Err : goal.returns-in-Err
returns-in-Err g c =
    obeyed-broken (words_of g.L.Link g.L.Reach.refused g.L.Reach.tries) c.args.lid c.args.opts.now c.args.orders.now c.loop-done.done _ c.in-Err.error c.args.client.now c.loop-done.client c.obey.new.client
    c.loop-done-test.true c.loop-done.invariant.0 c.in-Err.ensures
