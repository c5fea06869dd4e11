-- How many bytes the parts of a header take.
use Rattle.std.proofs.Common.{◌≡◌, ℕ, ◌+◌, ◌≤◌, Bool, true, false, cond, ltb, List, length, drop, Result, Ok, Err, refl, sym, ap, ◌∙◌, arith}
use Rattle.std.proofs.lemmas.List.{drop-drop, length-drop}
use Rattle.std.proofs.lemmas.Bool.{ltb-false}
use Rattle.std.specs.Prelude.{not, ◌||◌, ◌==◌, nat_lt}
use Rattle.byteorder.specs.Endian.{big_number}
use Rattle.vx_calls.specs.declared.calls.Role.{Role}
use Rattle.vx_rpc.specs.declared.refusal.RpcRefusal.TheVariants as refusal
use Rattle.vx_xdr.specs.declared.fault.XdrErr.{XdrErr}
use Rattle.vx_xdr.specs.declared.fault.XdrErr.TheVariants as fault
use Rattle.vx_xdr.specs.Spelling.{Word}
use Rattle.vx_xdr.specs.Reading.{◌>>=◌, reading}
use Rattle.vx_xdr.proofs.Laws.{bind_ok, ok_is}
use Rattle.vx_rpc.specs.declared.header.CallRead.{CallRead}
use Rattle.vx_rpc.specs.declared.header.CallRead.TheVariants as call
use Rattle.vx_rpc.specs.declared.read.ReplyRead.{ReplyRead}
use Rattle.vx_rpc.specs.declared.read.ReplyRead.TheVariants as reply
use Rattle.vx_rpc.specs.CallMeaning.{NoCall, OfOtherVersion, call_of, call_meaning, CallArgsBehind}
use Rattle.vx_rpc.specs.Sorting.{Refuse, Junk, sorted_body, sorting, sorted}
use Rattle.vx_rpc.specs.ReplyMeaning.{ResultsBehind}
use Rattle.vx_rpc.specs.Header.{number_at, CallBody, three_words, call_body}

-- a word was read
pub record TakesWord (bytes : List ℕ) (n : ℕ) (rest : List ℕ) : Type 0 where
  pub long : 4 ≤ length bytes
  pub number : n ≡ big_number 4 bytes
  pub rest_is : rest ≡ drop 4 bytes

taken_word : (b : Bool) (bytes : List ℕ) (n : ℕ) (rest : List ℕ) → ltb (length bytes) 4 ≡ b
    → cond {A = Result (ℕ × List ℕ) XdrErr} b (Err fault.Short) (Ok (big_number 4 bytes, drop 4 bytes)) ≡ Ok (n, rest) → TakesWord bytes n rest
taken_word true bytes n rest h e = absurd cc
taken_word false bytes n rest h e =
    let same = ok_is (big_number 4 bytes, drop 4 bytes) (n, rest) e in
    record {
      long = ltb-false _ _ h;
      number = sym (ap (λ (t : ℕ × List ℕ). t.0) same);
      rest_is = sym (ap (λ (t : ℕ × List ℕ). t.1) same);
    }

pub takes_word : (bytes : List ℕ) (n : ℕ) (rest : List ℕ) → reading Word bytes ≡ Ok (n, rest) → TakesWord bytes n rest
takes_word bytes n rest e = taken_word (ltb (length bytes) 4) bytes n rest refl e

-- a message whose first three words were read has them
pub three_words-long : (message : List ℕ) (t : ℕ × ℕ × ℕ) → three_words message ≡ Ok t → 12 ≤ length message
three_words-long message t e =
    let one = bind_ok (reading Word message) (λ a. reading Word a.1 >>= λ b. reading Word b.1 >>= λ c. Ok (a.0, b.0, c.0)) t e in
    let first = takes_word message one.0.0 one.0.1 one.1 in
    let two = bind_ok (reading Word one.0.1) (λ b. reading Word b.1 >>= λ c. Ok (one.0.0, b.0, c.0)) t one.2 in
    let second = takes_word one.0.1 two.0.0 two.0.1 two.1 in
    let three = bind_ok (reading Word two.0.1) (λ c. Ok (one.0.0, two.0.0, c.0)) t two.2 in
    let third = takes_word two.0.1 three.0.0 three.0.1 three.1 in
    let l₁ = ap (length {A = ℕ}) first.rest_is in
    let l₂ = ap (length {A = ℕ}) second.rest_is in
    omega (arith, first.long, second.long, third.long, l₁, l₂, length-drop 4 message, length-drop 4 one.0.1)

-- what stands behind five parts of a text
pub behind_five : (bytes a b c d e : List ℕ) (m n : ℕ) → a ≡ drop 4 bytes → b ≡ drop 4 a → c ≡ drop 4 b → d ≡ drop m c → e ≡ drop n d → e ≡ drop (12 + m + n) bytes
behind_five bytes a b c d e m n h₁ h₂ h₃ h₄ h₅ =
    h₅ ∙ ap (drop n) (h₄ ∙ ap (drop m) (h₃ ∙ ap (drop 4) (h₂ ∙ ap (drop 4) h₁)))
    ∙ ap (λ (t : List ℕ). drop n (drop m (drop 4 t))) (drop-drop 4 4 bytes)
    ∙ ap (λ (t : List ℕ). drop n (drop m t)) (drop-drop 4 8 bytes)
    ∙ ap (drop n) (drop-drop m 12 bytes)
    ∙ drop-drop n (12 + m) bytes

-- arguments at the end of what stands behind the first three words
pub call-end : (message rest : List ℕ) (seen : CallRead) → 12 ≤ length message → rest ≡ drop 12 message → CallArgsBehind 28 rest seen → CallArgsBehind 40 message seen
call-end message rest (call.Call xid program version procedure args) long e h =
    let len = ap (length {A = ℕ}) e in
    (12 + h.0, omega (arith, h.1), omega (arith, h.2, len, length-drop 12 message), h.3 ∙ ap (drop h.0) e ∙ drop-drop h.0 12 message)
call-end message rest (call.OtherVersion xid) long e h = tt
call-end message rest call.Junk long e h = tt

-- a message is sorted by what it is as a call
sorted-cases : (role : Role) (xid : ℕ) (a b : Bool) (body : Result CallBody XdrErr)
    → sorting role (cond a NoCall (cond b (OfOtherVersion xid) (call_of xid body))) ≡ cond a Junk (cond b (Refuse xid refusal.RpcMismatch) (sorted_body xid role body))
sorted-cases role xid true b body = refl
sorted-cases role xid false true body = refl
sorted-cases role xid false false (Ok body) = refl
sorted-cases role xid false false (Err e) = refl

pub sorted-sorting : (message : List ℕ) (role : Role) → sorting role (call_meaning message) ≡ sorted message role
sorted-sorting message role =
    sorted-cases role (number_at 0 message) (nat_lt (length message) 12 || not (number_at 1 message == 0)) (not (number_at 2 message == 2)) (call_body (drop 12 message))

pub results-end : (message rest : List ℕ) (seen : ReplyRead) → 12 ≤ length message → rest ≡ drop 12 message → ResultsBehind 12 rest seen → ResultsBehind 24 message seen
results-end message rest (reply.Success xid results) long e h =
    let len = ap (length {A = ℕ}) e in
    (12 + h.0, omega (arith, h.1), omega (arith, h.2, len, length-drop 12 message), h.3 ∙ ap (drop h.0) e ∙ drop-drop h.0 12 message)
results-end message rest (reply.Refused xid refusal) long e h = tt
results-end message rest reply.Bad long e h = tt
