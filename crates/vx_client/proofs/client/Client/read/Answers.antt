use Rattle.std.proofs.Common.{◌≡◌, ℕ, ◌-◌, ◌<◌, ◌≤◌, List, length, take, drop, inl, inr, Err, Ok, refl, subst, arith, length-drop}
use Rattle.std.proofs.lemmas.List.{length-take}
use Rattle.std.proofs.lemmas.Result.{err_from_is_err_and}
use borrow.Rule.Slice.PartMut.{same_len_mid}
use Rattle.vx_client.specs.Parts.{ReadsPart, MayEnd}
use Rattle.vx_client.proofs.Parts.{reads-none, reads-more, reads-end}
use Rattle.vx_client.proofs.Ending.{last-error}
use Rattle.vx_client.proofs.client.Client.read.Goals as goal
use Rattle.vx_client.proofs.client.Client.read.Goals.{then-end-ne0-via-then-end-ne0, then-end-ne0-via-else-end-ne0+then-len-into}

pub loop-end-init : goal.loop-end-init
loop-end-init g c = reads-none _ c.args.self.now c.args.into.now

pub loop-end-preserved : goal.loop-end-preserved
loop-end-preserved g c =
    let into = c.loop-end.into in
    let len = c.loop-end.len in
    let asked : List ℕ = take (length into - len) (drop len into) in
    let dropped = length-drop len into in
    let taken = length-take (length into - len) (drop len into) in
    let kept = same_len_mid len (length into - len) into c.read_part.new.into c.read_part.auto.into in
    let within : c.in_ok-end.end.len ≤ length asked = c.in_ok-end.ensures.within in
    let inside : len ≤ length into = c.loop-end.invariant.within in
    let open_end = c.if-len-into.false in
    let more : c.in_ok-end.end.len < length asked = omega arith in
    let Each : ℕ → Type 0 =
    λ reason. ReadsPart g.L.Link.stands g.L.Link.left g.L.Link.receive_faults g.L.Link.send_faults c.args.lid c.args.opts.now c.args.term c.loop-end.self c.read_part.new.self
    asked c.read_part.new.into (Ok (record { len = c.in_ok-end.end.len; reason = reason })) in
    reads-more _ _ c.loop-end.self _ _ into asked c.read_part.new.into _ len c.in_ok-end.end.len c.loop-end.invariant refl c.read_part.auto.into refl
    (subst Each c.if-end-ne0.false c.in_ok-end.ensures.read) (c.in_ok-end.ensures.some c.if-end-ne0.false (omega arith)) more

pub returns-in_err-end-clause-read : goal.returns-in_err-end-clause-read
returns-in_err-end-clause-read g c =
    let p = err_from_is_err_and c.from_residual.result c.from_residual.ensures.1 in
    let same : c.from_residual.result ≡ Err c.in_err-end.field-0.0 = cc (p.1, p.2) in
    let into = c.loop-end.into in
    let len = c.loop-end.len in
    reads-end _ _ c.loop-end.self _ _ into (take (length into - len) (drop len into)) c.read_part.new.into _ len (Err c.in_err-end.field-0.0) _ c.loop-end.invariant refl refl
    c.in_err-end.ensures.read tt same

pub returns-then-end-ne0-clause-read : goal.returns-then-end-ne0-clause-read
returns-then-end-ne0-clause-read g c =
    let into = c.loop-end.into in
    let len = c.loop-end.len in
    let asked : List ℕ = take (length into - len) (drop len into) in
    let dropped = length-drop len into in
    let taken = length-take (length into - len) (drop len into) in
    let kept = same_len_mid len (length into - len) into c.read_part.new.into c.read_part.auto.into in
    let inside : len ≤ length into = c.loop-end.invariant.within in
    let may : MayEnd (length asked) (Ok c.in_ok-end.end) =
    elim c.then-end-ne0.branch [
      | then-end-ne0-via-then-end-ne0 w ↦ inl w.if-end-ne0.true
      | then-end-ne0-via-else-end-ne0+then-len-into w ↦ inr (let full = w.if-len-into.true in omega arith)
    ] in
    reads-end _ _ c.loop-end.self _ _ into asked c.read_part.new.into _ len (Ok c.in_ok-end.end) _ c.loop-end.invariant refl refl c.in_ok-end.ensures.read may refl

pub returns-then-end-ne0-clause-within : goal.returns-then-end-ne0-clause-within
returns-then-end-ne0-clause-within g c =
    let into = c.loop-end.into in
    let len = c.loop-end.len in
    let asked : List ℕ = take (length into - len) (drop len into) in
    let dropped = length-drop len into in
    let taken = length-take (length into - len) (drop len into) in
    let kept = same_len_mid len (length into - len) into c.read_part.new.into c.read_part.auto.into in
    let within : c.in_ok-end.end.len ≤ length asked = c.in_ok-end.ensures.within in
    let inside : len ≤ length into = c.loop-end.invariant.within in
    omega arith

pub returns-in_err-end-clause-last : goal.returns-in_err-end-clause-last
returns-in_err-end-clause-last g c =
    let p = err_from_is_err_and c.from_residual.result c.from_residual.ensures.1 in
    last-error g.L.Link.receives g.L.Link.sends c.read_part.new.self.link c.in_err-end.field-0.0 c.from_residual.result c.in_err-end.ensures.last (cc (p.1, p.2))
