-- What is written is read again.
use Rattle.std.proofs.Common.{◌≡◌, ℕ, ◌^◌, ◌<◌, ◌≤◌, lit<, lit≤, Bool, true, false, cond, ltb, List, [], ◌∷◌, ◌++◌, length, drop, Option, Some, Result, Ok, refl, sym, ap, ◌∙◌, arith}
use Rattle.std.specs.Prelude.{◌==◌}
use Rattle.std.proofs.lemmas.Bool.{le-ltb, false≢true}
use Rattle.std.proofs.lemmas.Bool.Decides.{Decides-eqb}
use Rattle.std.proofs.lemmas.List.{length-append}
use Rattle.vx_calls.specs.declared.calls.Role.{Role}
use Rattle.vx_calls.specs.declared.calls.Role.TheVariants as role
use Rattle.vx_calls.specs.declared.calls.Proc.{Proc}
use Rattle.vx_calls.specs.declared.calls.Proc.TheVariants as proc
use Rattle.vx_xdr.specs.declared.fault.XdrErr.{XdrErr}
use Rattle.vx_xdr.specs.Spelling.{Word, Opaque, word, opaque}
use Rattle.vx_xdr.specs.Reading.{◌>>=◌, reading}
use Rattle.vx_xdr.proofs.Laws.{number-word, reading-again}
use Rattle.vx_rpc.specs.declared.refusal.RpcRefusal.{RpcRefusal}
use Rattle.vx_rpc.specs.declared.refusal.RpcRefusal.TheVariants as refusal
use Rattle.vx_rpc.specs.Procedure.{program, proc_number, serves}
use Rattle.vx_rpc.specs.Header.{number_at, behind_auth, CallBody, call_body, accepted_body}
use Rattle.vx_rpc.specs.Sorting.{Call, sorted, sorted_body}
use Rattle.vx_rpc.specs.ReplyMeaning.{ReplyMeaning, Success, Refused, Bad, accept_refusal, reject_refusal, refused, accepted, denied, reply_body, reply_meaning}
use Rattle.vx_rpc.specs.Spelled.{Auth, FitsAuth, auth_text, IsCall, IsAccepted, IsDenied, IsSuccess, IsRefused, unexecuted}
use Rattle.vx_rpc.specs.Spelled as spelled
use Rattle.vx_rpc.specs.Wording.{words, call_message, success_message, refusal_message}

-- a step that did not fail
pub bind-is : {A B : Type 0} (r : Result A XdrErr) (f : A → Result B XdrErr) (x : A) (y : Result B XdrErr) → r ≡ Ok x → f x ≡ y → (r >>= f) ≡ y
bind-is {A} {B} r f x y e h = ap (λ (q : Result A XdrErr). q >>= f) e ∙ h

-- a call's body, step by step
pub call_body-steps : (bytes a b c d e : List ℕ) (p v n : ℕ)
    → reading Word bytes ≡ Ok (p, a) → reading Word a ≡ Ok (v, b) → reading Word b ≡ Ok (n, c) → behind_auth c ≡ Ok d → behind_auth d ≡ Ok e
    → call_body bytes ≡ Ok (record { program = p; version = v; procedure = n; args = e })
call_body-steps bytes a b c d e p v n h₁ h₂ h₃ h₄ h₅ = rw (h₁, h₂, h₃, h₄, h₅) refl

-- a credential or a verifier
auth-again : (auth : Auth) (rest : List ℕ) → FitsAuth auth → behind_auth (auth_text auth ++ rest) ≡ Ok rest
auth-again auth rest fits =
    let body = opaque auth.body ++ rest in
    let small : length auth.body < 2 ^ 32 = omega (arith, fits.1) in
    bind-is (reading Word (word auth.flavor ++ body)) (λ flavor. reading (Opaque 400) flavor.1 >>= λ body. Ok body.1) (auth.flavor, body) (Ok rest)
    (reading-again Word auth.flavor body fits.0)
    (bind-is (reading (Opaque 400) body) (λ body. Ok body.1) (auth.body, rest) (Ok rest) (reading-again (Opaque 400) auth.body rest (fits.1, small)) refl)

-- no credential, no verifier
abbrev none : Auth
none = record { flavor = 0; body = [] }

-- ---- calls

sorted-steps : (message : List ℕ) (r : Role) (xid : ℕ) (body : Result CallBody XdrErr)
    → 12 ≤ length message → number_at 0 message ≡ xid → number_at 1 message ≡ 0 → number_at 2 message ≡ 2 → call_body (drop 12 message) ≡ body
    → sorted message r ≡ sorted_body xid r body
sorted-steps message r xid body long first second third rest =
    let enough : ltb (length message) 12 ≡ false = le-ltb _ _ long in
    rw (enough, second, third, first, rest) refl

call_text-sorted : (r : Role) (xid prog vers number : ℕ) (cred verf : Auth) (args : List ℕ)
    → xid < 2 ^ 32 → prog < 2 ^ 32 → vers < 2 ^ 32 → number < 2 ^ 32 → FitsAuth cred → FitsAuth verf
    → sorted (words (xid ∷ 0 ∷ 2 ∷ prog ∷ vers ∷ number ∷ []) ++ (auth_text cred ++ (auth_text verf ++ args))) r ≡ sorted_body xid r (Ok (record { program = prog; version = vers; procedure = number; args = args }))
call_text-sorted r xid prog vers number cred verf args hx hp hv hn hc he =
    let d = auth_text verf ++ args in
    let c = auth_text cred ++ d in
    let b = word number ++ c in
    let a = word vers ++ b in
    let body = call_body-steps (word prog ++ a) a b c d args prog vers number
    (reading-again Word prog a hp) (reading-again Word vers b hv) (reading-again Word number c hn) (auth-again cred d hc) (auth-again verf args he) in
    let three = word prog ++ a in
    let front = words (xid ∷ 0 ∷ 2 ∷ prog ∷ vers ∷ number ∷ []) in
    let long : 12 ≤ length (front ++ c) = omega (arith, length-append front c) in
    sorted-steps (front ++ c) r xid (Ok (record { program = prog; version = vers; procedure = number; args = args })) long
    (number-word xid (word 0 ++ (word 2 ++ three)) hx) (number-word 0 (word 2 ++ three) (lit< tt)) (number-word 2 three (lit< tt)) body

pub call_message-sorted : (r : Role) (xid prog vers number : ℕ) (args : List ℕ) → xid < 2 ^ 32 → prog < 2 ^ 32 → vers < 2 ^ 32 → number < 2 ^ 32
    → sorted (call_message xid prog vers number ++ args) r ≡ sorted_body xid r (Ok (record { program = prog; version = vers; procedure = number; args = args }))
call_message-sorted r xid prog vers number args hx hp hv hn =
    call_text-sorted r xid prog vers number none none args hx hp hv hn (lit< tt, lit≤ tt) (lit< tt, lit≤ tt)

served-body : (r : Role) (p : Proc) (xid : ℕ) (args : List ℕ) → serves r p ≡ true
    → sorted_body xid r (Ok (record { program = program r; version = 1; procedure = proc_number p; args = args })) ≡ Call xid p args
served-body role.Core proc.Null xid args h = refl
served-body role.Core proc.CreateLink xid args h = refl
served-body role.Core proc.Write xid args h = refl
served-body role.Core proc.Read xid args h = refl
served-body role.Core proc.ReadStb xid args h = refl
served-body role.Core proc.Trigger xid args h = refl
served-body role.Core proc.Clear xid args h = refl
served-body role.Core proc.Remote xid args h = refl
served-body role.Core proc.Local xid args h = refl
served-body role.Core proc.Lock xid args h = refl
served-body role.Core proc.Unlock xid args h = refl
served-body role.Core proc.EnableSrq xid args h = refl
served-body role.Core proc.Docmd xid args h = refl
served-body role.Core proc.DestroyLink xid args h = refl
served-body role.Core proc.CreateIntr xid args h = refl
served-body role.Core proc.DestroyIntr xid args h = refl
served-body role.Core proc.DeviceAbort xid args h = absurd (false≢true h)
served-body role.Abort proc.Null xid args h = refl
served-body role.Abort proc.DeviceAbort xid args h = refl
served-body role.Abort _ xid args h = absurd (false≢true h)

program-lt : (r : Role) → program r < 2 ^ 32
program-lt role.Core = lit< tt
program-lt role.Abort = lit< tt

proc_number-lt : (p : Proc) → proc_number p < 2 ^ 32
proc_number-lt proc.Null = lit< tt
proc_number-lt proc.CreateLink = lit< tt
proc_number-lt proc.Write = lit< tt
proc_number-lt proc.Read = lit< tt
proc_number-lt proc.ReadStb = lit< tt
proc_number-lt proc.Trigger = lit< tt
proc_number-lt proc.Clear = lit< tt
proc_number-lt proc.Remote = lit< tt
proc_number-lt proc.Local = lit< tt
proc_number-lt proc.Lock = lit< tt
proc_number-lt proc.Unlock = lit< tt
proc_number-lt proc.EnableSrq = lit< tt
proc_number-lt proc.Docmd = lit< tt
proc_number-lt proc.DestroyLink = lit< tt
proc_number-lt proc.CreateIntr = lit< tt
proc_number-lt proc.DestroyIntr = lit< tt
proc_number-lt proc.DeviceAbort = lit< tt

pub served-sorted : (r : Role) (p : Proc) (xid : ℕ) (args : List ℕ) → xid < 2 ^ 32 → serves r p ≡ true
    → sorted (call_message xid (program r) 1 (proc_number p) ++ args) r ≡ Call xid p args
served-sorted r p xid args hx h =
    call_message-sorted r xid (program r) 1 (proc_number p) args hx (program-lt r) (lit< tt) (proc_number-lt p) ∙ served-body r p xid args h

pub IsCall-sorted : (r : Role) (xid : ℕ) (p : Proc) (args message : List ℕ) → IsCall r xid p args message → sorted message r ≡ Call xid p args
IsCall-sorted r xid p args message h =
    ap (λ (m : List ℕ). sorted m r) h.text
    ∙ call_text-sorted r xid (program r) 1 (proc_number p) h.credential h.verifier args h.xid_fits (program-lt r) (lit< tt) (proc_number-lt p) h.credential_fits h.verifier_fits
    ∙ served-body r p xid args h.served

-- ---- replies

reply-steps : (message rest : List ℕ) (xid stat : ℕ) (seen : ReplyMeaning)
    → 12 ≤ length message → number_at 0 message ≡ xid → number_at 1 message ≡ 1 → number_at 2 message ≡ stat → drop 12 message ≡ rest → reply_body xid stat rest ≡ seen
    → reply_meaning message ≡ seen
reply-steps message rest xid stat seen long first second third behind h =
    let enough : ltb (length message) 12 ≡ false = le-ltb _ _ long in
    rw (enough, second, first, third, behind) h

-- an accepted reply
accepted-again : (verf : Auth) (stat : ℕ) (rest : List ℕ) → FitsAuth verf → stat < 2 ^ 32 → accepted_body (auth_text verf ++ (word stat ++ rest)) ≡ Ok (stat, rest)
accepted-again verf stat rest fits h =
    bind-is (behind_auth (auth_text verf ++ (word stat ++ rest))) (λ behind_verf. reading Word behind_verf) (word stat ++ rest) (Ok (stat, rest))
    (auth-again verf (word stat ++ rest) fits) (reading-again Word stat rest h)

accepted-read : (xid stat : ℕ) (verf : Auth) (carried : List ℕ) → xid < 2 ^ 32 → stat < 2 ^ 32 → FitsAuth verf
    → reply_meaning (words (xid ∷ 1 ∷ 0 ∷ []) ++ (auth_text verf ++ (word stat ++ carried))) ≡ accepted xid (Ok (stat, carried))
accepted-read xid stat verf carried hx hs fits =
    let body = auth_text verf ++ (word stat ++ carried) in
    let front = words (xid ∷ 1 ∷ 0 ∷ []) in
    let long : 12 ≤ length (front ++ body) = omega (arith, length-append front body) in
    reply-steps (front ++ body) body xid 0 (accepted xid (Ok (stat, carried))) long
    (number-word xid (word 1 ++ (word 0 ++ body)) hx) (number-word 1 (word 0 ++ body) (lit< tt)) (number-word 0 body (lit< tt)) refl
    (ap (accepted xid) (accepted-again verf stat carried fits hs))

denied-read : (xid stat : ℕ) (carried : List ℕ) → xid < 2 ^ 32 → stat < 2 ^ 32
    → reply_meaning (word xid ++ (word 1 ++ (word 1 ++ (word stat ++ carried)))) ≡ denied xid (Ok (stat, carried))
denied-read xid stat carried hx hs =
    let body = word stat ++ carried in
    let message = word xid ++ (word 1 ++ (word 1 ++ body)) in
    let long : 12 ≤ length message = omega (arith, length-append (word xid) (word 1 ++ (word 1 ++ body))) in
    reply-steps message body xid 1 (denied xid (Ok (stat, carried))) long
    (number-word xid (word 1 ++ (word 1 ++ body)) hx) (number-word 1 (word 1 ++ body) (lit< tt)) (number-word 1 body (lit< tt)) refl
    (ap (denied xid) (reading-again Word stat carried hs))

no_verifier : FitsAuth none
no_verifier = (lit< tt, lit≤ tt)

pub success-read : (xid : ℕ) (results : List ℕ) → xid < 2 ^ 32 → reply_meaning (success_message xid ++ results) ≡ Success xid results
success-read xid results h = accepted-read xid 0 none results h (lit< tt) no_verifier

pub refusal-read : (xid : ℕ) (r : RpcRefusal) → xid < 2 ^ 32 → reply_meaning (refusal_message xid r) ≡ Refused xid r
refusal-read xid refusal.RpcMismatch h = denied-read xid 0 (words (2 ∷ 2 ∷ [])) h (lit< tt)
refusal-read xid refusal.AuthError h = denied-read xid 1 (words (7 ∷ [])) h (lit< tt)
refusal-read xid refusal.ProgUnavail h = accepted-read xid 1 none [] h (lit< tt) no_verifier
refusal-read xid refusal.ProgMismatch h = accepted-read xid 2 none (words (1 ∷ 1 ∷ [])) h (lit< tt) no_verifier
refusal-read xid refusal.ProcUnavail h = accepted-read xid 3 none [] h (lit< tt) no_verifier
refusal-read xid refusal.GarbageArgs h = accepted-read xid 4 none [] h (lit< tt) no_verifier
refusal-read xid refusal.SystemErr h = accepted-read xid 5 none [] h (lit< tt) no_verifier

pub IsSuccess-read : (xid : ℕ) (results message : List ℕ) → IsSuccess xid results message → reply_meaning message ≡ Success xid results
IsSuccess-read xid results message h = ap reply_meaning h.text ∙ accepted-read xid 0 h.verifier results h.xid_fits (lit< tt) h.verifier_fits

-- a refusal with the bytes that it carries
refused-is : (xid : ℕ) (r : RpcRefusal) (found : Option (RpcRefusal × ℕ)) (carried : List ℕ) → found ≡ Some (r, length carried) → refused xid found carried ≡ Refused xid r
refused-is xid r found carried e =
    let same : (length carried == length carried) ≡ true = (Decides-eqb (length carried) (length carried)).1 refl in
    ap (λ (f : Option (RpcRefusal × ℕ)). refused xid f carried) e ∙ ap (λ (b : Bool). cond b (Refused xid r) Bad) same

-- 0 is no refusal's status
no_refusal_0 : (stat : ℕ) (found : RpcRefusal × ℕ) → stat ≡ 0 → accept_refusal stat ≡ Some found → ⊥
no_refusal_0 stat found z e = let at_0 : accept_refusal 0 ≡ Some found = ap accept_refusal (sym z) ∙ e in cc

-- a status of a refusal isn't that of a success
accepted-refused : (xid stat : ℕ) (r : RpcRefusal) (carried : List ℕ) (b : Bool) → (stat == 0) ≡ b → accept_refusal stat ≡ Some (r, length carried) → cond b (Success xid carried) (refused xid (accept_refusal stat) carried) ≡ Refused xid r
accepted-refused xid stat r carried true z e = absurd (no_refusal_0 stat (r, length carried) ((Decides-eqb stat 0).0 z) e)
accepted-refused xid stat r carried false z e = refused-is xid r (accept_refusal stat) carried e

pub IsRefused-read : (xid : ℕ) (r : RpcRefusal) (message : List ℕ) → IsRefused xid r message → reply_meaning message ≡ Refused xid r
IsRefused-read xid r message (unexecuted stat carried e h) =
    ap reply_meaning h.text ∙ accepted-read xid stat h.verifier carried h.xid_fits h.stat_fits h.verifier_fits ∙ accepted-refused xid stat r carried (stat == 0) refl e
IsRefused-read xid r message (spelled.denied stat carried e h) =
    ap reply_meaning h.text ∙ denied-read xid stat carried h.xid_fits h.stat_fits ∙ refused-is xid r (reject_refusal stat) carried e
