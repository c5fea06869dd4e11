use Rattle.std.proofs.Common.{◌≡◌, ℕ, Err, refl, subst, arith}
use Rattle.std.proofs.lemmas.Result.{err_from_is_err_and}
use Rattle.vx_client.specs.Chunks.{chunks, IsWritten}
use Rattle.vx_client.proofs.Laws.Chunks.{leads-all, leads-on, leads-failed, leads-last}
use Rattle.vx_client.proofs.Ending.{last-error}
use Rattle.vx_client.proofs.client.Client.write.Goals as goal

pub loop-rest-init : goal.loop-rest-init
loop-rest-init g c = (omega arith, omega arith, leads-all _ _ _ _)

pub loop-rest-preserved : goal.loop-rest-preserved
loop-rest-preserved g c = (
  c.loop-rest.invariant.0,
  c.loop-rest.invariant.1,
  leads-on _ _ _ c.loop-rest.self _ _ _ c.loop-rest.rest.now _ c.in_ok-write_piece.field-0 c.loop-rest.invariant.1 c.loop-rest-test.true refl c.loop-rest.invariant.2
      c.in_ok-write_piece.ensures.called,
)

pub returns-in_err-write_piece-clause-written : goal.returns-in_err-write_piece-clause-written
returns-in_err-write_piece-clause-written g c =
    let p = err_from_is_err_and c.from_residual.result c.from_residual.ensures.1 in
    let same : c.from_residual.result ≡ Err c.in_err-write_piece.field-0.0 = cc (p.1, p.2) in
    let Written : ℕ → Type 0 =
    λ n. IsWritten g.L.Link.stands g.L.Link.left g.L.Link.receive_faults g.L.Link.send_faults c.args.self.now c.write_piece.new.self c.args.made.now.lid c.args.opts.now
    (chunks n c.args.bytes.now) c.from_residual.result in
    subst Written c.loop-rest.invariant.0
    (leads-failed _ _ _ c.loop-rest.self _ _ _ c.loop-rest.rest.now c.in_err-write_piece.field-0.0 _ c.loop-rest.invariant.1 c.loop-rest-test.true c.loop-rest.invariant.2
    c.in_err-write_piece.ensures.called same)

pub returns-clause-written : goal.returns-clause-written
returns-clause-written g c =
    let Written : ℕ → Type 0 =
    λ n. IsWritten g.L.Link.stands g.L.Link.left g.L.Link.receive_faults g.L.Link.send_faults c.args.self.now c.write_piece-2.new.self c.args.made.now.lid c.args.opts.now
    (chunks n c.args.bytes.now) c.write_piece-2.result in
    subst Written c.loop-rest.invariant.0
    (leads-last _ _ _ c.loop-rest.self _ _ _ c.loop-rest.rest.now _ c.loop-rest-test.false c.loop-rest.invariant.2 c.write_piece-2.ensures.called)

pub returns-in_err-write_piece-clause-last : goal.returns-in_err-write_piece-clause-last
returns-in_err-write_piece-clause-last g c =
    let p = err_from_is_err_and c.from_residual.result c.from_residual.ensures.1 in
    last-error g.L.Link.receives g.L.Link.sends c.write_piece.new.self.link c.in_err-write_piece.field-0.0 c.from_residual.result c.in_err-write_piece.ensures.last (cc (p.1, p.2))
