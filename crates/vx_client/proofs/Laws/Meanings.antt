-- What a record means for a call, step by step.
use Rattle.std.proofs.Common.{◌≡◌, ℕ, ◌==◌, true, List, Option, refl, ap, sym, ◌∙◌, eq-eqb, ne_eqb, if◌then◌else◌}
use Rattle.vx_calls.specs.declared.calls.Proc.{Proc}
use Rattle.vx_calls.specs.Call.{Call}
use Rattle.vx_rpc.specs.ReplyMeaning.{Success, reply_meaning}
use Rattle.vx_rpc.specs.ReplyMeaning as reply
use Rattle.vx_rpc.specs.declared.refusal.RpcRefusal.{RpcRefusal}
use Rattle.vx_codec.specs.Asked.{proc_of}
use Rattle.vx_codec.specs.Answered.{Outcome, answered}
use Rattle.vx_client.specs.Meaning.{Meaning, Done, Failed, Bad, results_meaning, reply_says, meaning, returned}
use Rattle.vx_client.specs.Meaning as said
use Rattle.vx_client.specs.Settled.{answer_of, settled_of}
use Rattle.vx_client.specs.Swapped.{returned_by}

-- a success with the call's number means what its results mean
pub success-meaning : (xid number room : ℕ) (c : Call) (reply results : List ℕ) (p : Proc) (found : Option Outcome)
    → Success number results ≡ reply_meaning reply → number ≡ xid → p ≡ proc_of c → found ≡ answered p results
    → meaning xid c room reply ≡ results_meaning c room found
success-meaning xid number room c reply results p found reads same p_is found_is =
    let told : (number == xid) ≡ true = eq-eqb number xid same in
    ap (reply_says xid c room) (sym reads)
    ∙ ap (λ b. if b then results_meaning c room (answered (proc_of c) results) else Bad) told
    ∙ ap (results_meaning c room) (ap (λ q. answered q results) (sym p_is) ∙ sym found_is)

-- one with another number is no reply to the call
pub success-apart : (xid number room : ℕ) (c : Call) (bytes results : List ℕ) → Success number results ≡ reply_meaning bytes → (number ≡ xid → ⊥) → meaning xid c room bytes ≡ Bad
success-apart xid number room c bytes results reads apart =
    ap (reply_says xid c room) (sym reads) ∙ ap (λ b. if b then results_meaning c room (answered (proc_of c) results) else Bad) (ne_eqb number xid apart)

-- a refusal with the call's number refuses it
pub refused-meaning : (xid number room : ℕ) (c : Call) (bytes : List ℕ) (refusal : RpcRefusal) → reply.Refused number refusal ≡ reply_meaning bytes → number ≡ xid
    → meaning xid c room bytes ≡ said.Refused refusal
refused-meaning xid number room c bytes refusal reads same =
    let told : (number == xid) ≡ true = eq-eqb number xid same in
    ap (reply_says xid c room) (sym reads) ∙ ap (λ b. if b then said.Refused refusal else Bad) told

-- one with another number does not
pub refused-apart : (xid number room : ℕ) (c : Call) (bytes : List ℕ) (refusal : RpcRefusal) → reply.Refused number refusal ≡ reply_meaning bytes → (number ≡ xid → ⊥)
    → meaning xid c room bytes ≡ Bad
refused-apart xid number room c bytes refusal reads apart =
    ap (reply_says xid c room) (sym reads) ∙ ap (λ b. if b then said.Refused refusal else Bad) (ne_eqb number xid apart)

-- what a call returns by what its record came to is what it returns by the record's meaning
pub returned-settled : (len : ℕ) (m : Meaning) → returned_by len (settled_of m) ≡ returned answer_of len m
returned-settled len (Done o) = refl
returned-settled len (Failed n) = refl
returned-settled len (said.Refused r) = refl
returned-settled len Bad = refl
