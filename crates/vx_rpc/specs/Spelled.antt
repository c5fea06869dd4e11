-- Which bytes are a call, a success, a refusal (RFC 5531, section 9).
use Rattle.std.specs.Prelude.{◌≡◌, ◌<◌, ◌≤◌, ◌^◌, ℕ, List, [], ◌∷◌, ◌++◌, length, Some, IsTrue}
use Rattle.vx_calls.specs.declared.calls.Role.{Role}
use Rattle.vx_calls.specs.declared.calls.Proc.{Proc}
use Rattle.vx_xdr.specs.Spelling.{word, opaque}
use Rattle.vx_rpc.specs.declared.refusal.RpcRefusal.{RpcRefusal}
use Rattle.vx_rpc.specs.Procedure.{program, proc_number, serves}
use Rattle.vx_rpc.specs.ReplyMeaning.{accept_refusal, reject_refusal}
use Rattle.vx_rpc.specs.Wording.{words}

-- a credential or a verifier: a flavor and a body of at most 400 bytes (RFC 5531, section 8.2)
pub record Auth : Type 0 where
  pub flavor : ℕ
  pub body : List ℕ

abbrev pub FitsAuth : Auth → Type 0
FitsAuth auth = (auth.flavor < 2 ^ 32) × (length auth.body ≤ 400)

abbrev pub auth_text : Auth → List ℕ
auth_text auth = word auth.flavor ++ opaque auth.body

-- a call of one of the channel's procedures, with some credential and verifier
pub record IsCall (role : Role) (xid : ℕ) (proc : Proc) (args message : List ℕ) : Type 0 where
  pub served : IsTrue (serves role proc)
  pub xid_fits : xid < 2 ^ 32
  pub credential : Auth
  pub credential_fits : FitsAuth credential
  pub verifier : Auth
  pub verifier_fits : FitsAuth verifier
  pub text : message ≡ words (xid ∷ 0 ∷ 2 ∷ program role ∷ 1 ∷ proc_number proc ∷ []) ++ (auth_text credential ++ (auth_text verifier ++ args))

-- an accepted reply with some verifier, up to what its status carries
pub record IsAccepted (xid stat : ℕ) (carried message : List ℕ) : Type 0 where
  pub xid_fits : xid < 2 ^ 32
  pub stat_fits : stat < 2 ^ 32
  pub verifier : Auth
  pub verifier_fits : FitsAuth verifier
  pub text : message ≡ words (xid ∷ 1 ∷ 0 ∷ []) ++ (auth_text verifier ++ (word stat ++ carried))

-- a denied reply, up to what its status carries
pub record IsDenied (xid stat : ℕ) (carried message : List ℕ) : Type 0 where
  pub xid_fits : xid < 2 ^ 32
  pub stat_fits : stat < 2 ^ 32
  pub text : message ≡ words (xid ∷ 1 ∷ 1 ∷ stat ∷ []) ++ carried

-- a success: an accepted reply with status 0
abbrev pub IsSuccess : ℕ → List ℕ → List ℕ → Type 0
IsSuccess xid results message = IsAccepted xid 0 results message

-- a refusal: an accepted or a denied reply with a status of a refusal, and as many bytes as that carries
pub data IsRefused (xid : ℕ) (refusal : RpcRefusal) (message : List ℕ) : Type 0 where
  unexecuted : (stat : ℕ) (carried : List ℕ) → accept_refusal stat ≡ Some (refusal, length carried) → IsAccepted xid stat carried message → IsRefused xid refusal message
  denied : (stat : ℕ) (carried : List ℕ) → reject_refusal stat ≡ Some (refusal, length carried) → IsDenied xid stat carried message → IsRefused xid refusal message
