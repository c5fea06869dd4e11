use Rattle.std.proofs.Common.{◌≡◌, List, ℕ, Result, Ok, sym, ap, ◌∙◌}
use Rattle.vx_xdr.specs.declared.fault.XdrErr.{XdrErr}
use Rattle.vx_xdr.specs.Spelling.{Word}
use Rattle.vx_xdr.specs.Reading.{reading}
use Rattle.vx_rpc.specs.Header.{CallBody}
use Rattle.vx_rpc.proofs.Laws.Sorted.{call_body-steps}
use Rattle.vx_rpc.proofs.HeaderLemmas.{takes_word, behind_five}
use Rattle.vx_rpc.proofs.header.call_header.Goals as goal

pub returns-clause-shown : goal.returns-clause-shown
returns-clause-shown c =
    let bytes = c.args.bytes.now in
    let a : List ℕ = c.u32.new.self in
    let b : List ℕ = c.u32-2.new.self in
    let d : List ℕ = c.u32-3.new.self in
    let e : List ℕ = c.auth_len.new.r in
    let f : List ℕ = c.auth_len-2.new.r in
    let p = c.in_ok-program.program in
    let v = c.in_ok-version.version in
    let n = c.in_ok-procedure.procedure in
    let first : reading Word bytes ≡ Ok (p, a) = ap (reading Word) (sym c.new-r.ensures) ∙ c.in_ok-program.ensures.ok in
    let steps = call_body-steps bytes a b d e f p v n first c.in_ok-version.ensures.ok c.in_ok-procedure.ensures.ok c.in_ok-cred.ensures.ok c.in_ok-verf.ensures.ok in
    let end = behind_five bytes a b d e f c.in_ok-cred.cred c.in_ok-verf.verf
    (takes_word bytes p a first).rest_is
    (takes_word a v b c.in_ok-version.ensures.ok).rest_is
    (takes_word b n d c.in_ok-procedure.ensures.ok).rest_is
    c.in_ok-cred.ensures.taken c.in_ok-verf.ensures.taken in
    let shown : List ℕ → Result CallBody XdrErr = λ args. Ok (record { program = p; version = v; procedure = n; args = args }) in
    steps ∙ ap shown end
