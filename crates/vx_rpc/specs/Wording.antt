-- To be believed.
-- The words of calls and replies as they are written (RFC 5531, section 9).
use Rattle.std.specs.Prelude.{ℕ, List, [], ◌∷◌}
use Rattle.std.specs.List.{flat_map}
use Rattle.vx_xdr.specs.Spelling.{word}
use Rattle.vx_rpc.specs.declared.refusal.RpcRefusal.{RpcRefusal}
use Rattle.vx_rpc.specs.declared.refusal.RpcRefusal.TheVariants as refusal

-- numbers as words, one behind the other
abbrev pub words : List ℕ → List ℕ
words numbers = flat_map word numbers

-- a call of RPC version 2 without credential and verifier, up to its arguments
abbrev pub call_numbers : ℕ → ℕ → ℕ → ℕ → List ℕ
call_numbers xid prog vers number = xid ∷ 0 ∷ 2 ∷ prog ∷ vers ∷ number ∷ 0 ∷ 0 ∷ 0 ∷ 0 ∷ []

-- an accepted call without verifier, up to what its status carries
abbrev pub accepted_numbers : ℕ → ℕ → List ℕ → List ℕ
accepted_numbers xid stat carried = xid ∷ 1 ∷ 0 ∷ 0 ∷ 0 ∷ stat ∷ carried

-- a success, up to its results
abbrev pub success_numbers : ℕ → List ℕ
success_numbers xid = accepted_numbers xid 0 []

-- a refusal: with the one version of the program, or of RPC, that is served; an error of authentication names
-- no cause, 7 (RFC 5531, section 9, auth_stat AUTH_FAILED)
abbrev pub refusal_numbers : ℕ → RpcRefusal → List ℕ
refusal_numbers xid refusal.RpcMismatch = xid ∷ 1 ∷ 1 ∷ 0 ∷ 2 ∷ 2 ∷ []
refusal_numbers xid refusal.AuthError = xid ∷ 1 ∷ 1 ∷ 1 ∷ 7 ∷ []
refusal_numbers xid refusal.ProgUnavail = accepted_numbers xid 1 []
refusal_numbers xid refusal.ProgMismatch = accepted_numbers xid 2 (1 ∷ 1 ∷ [])
refusal_numbers xid refusal.ProcUnavail = accepted_numbers xid 3 []
refusal_numbers xid refusal.GarbageArgs = accepted_numbers xid 4 []
refusal_numbers xid refusal.SystemErr = accepted_numbers xid 5 []

-- the message of a call, of a success, of a refusal
abbrev pub call_message : ℕ → ℕ → ℕ → ℕ → List ℕ
call_message xid prog vers number = words (call_numbers xid prog vers number)

abbrev pub success_message : ℕ → List ℕ
success_message xid = words (success_numbers xid)

abbrev pub refusal_message : ℕ → RpcRefusal → List ℕ
refusal_message xid refusal = words (refusal_numbers xid refusal)
