use Rattle.std.proofs.Common.{◌≡◌, ℕ, None, IfSome, Err, inl, refl, sym, subst, arith}
use Rattle.std.proofs.lemmas.Result.{err_from_is_err_and, on_ok_weaker}
use Rattle.vx_rules.specs.Calls.{sets_end}
use Rattle.vx_client.specs.Chunks.{chunks, IsWritten}
use Rattle.vx_client.proofs.Laws.Chunks.{leads-all, leads-on, leads-failed, leads-last}
use Rattle.vx_loop.specs.LoopState.{LoopState}
use Rattle.vx_loop.specs.Standing.{LoopStandsFor, IsUnanswered}
use Rattle.vx_loop.specs.Telling.{OnReadFault}
use Rattle.vx_loop.proofs.Several.{heard-more, heard-last, closed-first, sent-first}
use Rattle.vx_loop.proofs.Ended.{map-closed, map-broken}
use Rattle.vx_loop.proofs.through.through_client.Given.{Over}
use Rattle.vx_loop.proofs.through.through_client.Goals as goal

pub loop-rest-init : goal.loop-rest-init
loop-rest-init g c = (omega arith, omega arith, leads-all _ _ _ _, inl (refl, refl))

pub loop-rest-preserved : goal.loop-rest-preserved
loop-rest-preserved g c = (
  c.loop-rest.invariant.0,
  c.loop-rest.invariant.1,
  leads-on _ _ _ c.loop-rest.client _ _ _ c.loop-rest.rest.now _ c.in_ok-write_piece.field-0 c.loop-rest.invariant.1 c.loop-rest-test.true refl c.loop-rest.invariant.2
      c.in_ok-write_piece.ensures.called,
  heard-more c.args.client.now c.loop-rest.client c.write_piece.new.client c.args.made.now.lid c.args.bytes.now c.loop-rest.rest.now _ _ c.args.opts.now.flags
      c.loop-rest.invariant.1 c.loop-rest-test.true refl c.in_ok-write_piece.ensures.sound c.loop-rest.invariant.3 c.in_ok-write_piece.ensures.heard,
)

-- the answer is the error of the piece
same : (g : Over) (c : goal.After-from_residual g) → c.from_residual.result ≡ Err c.in_err-write_piece.field-0.0
same g c = let p = err_from_is_err_and c.from_residual.result c.from_residual.ensures.1 in cc (p.1, p.2)

pub returns-in_err-write_piece-clause-written : goal.returns-in_err-write_piece-clause-written
returns-in_err-write_piece-clause-written g c =
    let Written : ℕ → Type 0 =
    λ n. IsWritten {L = LoopState} LoopStandsFor (λ s. None) (λ s. s.receive_faults) (λ s. s.send_faults) c.args.client.now c.write_piece.new.client c.args.made.now.lid c.args.opts.now
    (chunks n c.args.bytes.now) c.from_residual.result in
    subst Written c.loop-rest.invariant.0
    (leads-failed _ _ _ c.loop-rest.client _ _ _ c.loop-rest.rest.now c.in_err-write_piece.field-0.0 _ c.loop-rest.invariant.1 c.loop-rest-test.true c.loop-rest.invariant.2
    c.in_err-write_piece.ensures.called (same g c))

pub returns-clause-written : goal.returns-clause-written
returns-clause-written g c =
    let Written : ℕ → Type 0 =
    λ n. IsWritten {L = LoopState} LoopStandsFor (λ s. None) (λ s. s.receive_faults) (λ s. s.send_faults) c.args.client.now c.write_piece-2.new.client c.args.made.now.lid c.args.opts.now
    (chunks n c.args.bytes.now) c.write_piece-2.result in
    subst Written c.loop-rest.invariant.0
    (leads-last _ _ _ c.loop-rest.client _ _ _ c.loop-rest.rest.now _ c.loop-rest-test.false c.loop-rest.invariant.2 c.write_piece-2.ensures.called)

pub returns-clause-heard : goal.returns-clause-heard
returns-clause-heard g c =
    on_ok_weaker c.write_piece-2.result
    (heard-last c.args.client.now c.loop-rest.client c.write_piece-2.new.client c.args.made.now.lid c.args.bytes.now c.loop-rest.rest.now (sets_end c.args.opts.now.flags)
    c.loop-rest.invariant.3) c.write_piece-2.ensures.heard

pub returns-in_err-write_piece-clause-closed : goal.returns-in_err-write_piece-clause-closed
returns-in_err-write_piece-clause-closed g c =
    map-closed (Err c.in_err-write_piece.field-0.0) c.from_residual.result _ _ (same g c)
    (closed-first c.args.client.now c.loop-rest.client c.write_piece.new.client c.args.made.now.lid c.args.bytes.now c.loop-rest.rest.now c.loop-rest.invariant.3)
    c.in_err-write_piece.ensures.closed

pub returns-in_err-write_piece-clause-fault : goal.returns-in_err-write_piece-clause-fault
returns-in_err-write_piece-clause-fault g c =
    subst (λ r. OnReadFault r (IfSome c.write_piece.new.client.link.served IsUnanswered)) (sym (same g c)) c.in_err-write_piece.ensures.fault

pub returns-in_err-write_piece-clause-sent : goal.returns-in_err-write_piece-clause-sent
returns-in_err-write_piece-clause-sent g c =
    map-broken (Err c.in_err-write_piece.field-0.0) c.from_residual.result _ _ (same g c)
    (sent-first c.args.client.now c.loop-rest.client c.args.made.now.lid c.args.bytes.now c.loop-rest.rest.now c.loop-rest.invariant.3) c.in_err-write_piece.ensures.sent

pub returns-clause-closed : goal.returns-clause-closed
returns-clause-closed g c =
    map-closed c.write_piece-2.result c.write_piece-2.result _ _ refl
    (closed-first c.args.client.now c.loop-rest.client c.write_piece-2.new.client c.args.made.now.lid c.args.bytes.now c.loop-rest.rest.now c.loop-rest.invariant.3)
    c.write_piece-2.ensures.closed

pub returns-clause-sent : goal.returns-clause-sent
returns-clause-sent g c =
    map-broken c.write_piece-2.result c.write_piece-2.result _ _ refl
    (sent-first c.args.client.now c.loop-rest.client c.args.made.now.lid c.args.bytes.now c.loop-rest.rest.now c.loop-rest.invariant.3) c.write_piece-2.ensures.sent
