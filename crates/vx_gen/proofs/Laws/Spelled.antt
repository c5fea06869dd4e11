-- The calls of a run as they are spelled: the message of each is sorted as a call of its channel, and its arguments are read as the call.
use Rattle.std.proofs.Common.{◌≡◌, ◌==◌, ◌≤◌, ◌<◌, ◌/◌, ◌%◌, ◌^◌, ℕ, Bool, true, false, cond, List, [], ◌∷◌, ◌++◌, length, Some, refl, ap, ◌∙◌, arith, length-append}
use Rattle.vx_calls.specs.declared.calls.Role.{Role}
use Rattle.vx_calls.specs.declared.calls.Role.TheVariants as role
use Rattle.vx_calls.specs.Call.{Call, DeviceAbort}
use Rattle.vx_rpc.specs.Spelling.{word}
use Rattle.vx_rpc.specs.Procedure.{program, proc_number, serves}
use Rattle.vx_rpc.specs.Sorting.{sorted}
use Rattle.vx_rpc.specs.Sorting as sort
use Rattle.vx_rpc.specs.Wording.{words, call_message}
use Rattle.vx_rpc.proofs.Laws.Sorted.{served-sorted}
use Rattle.vx_codec.specs.Asked.{CallFits, arguments, proc_of}
use Rattle.vx_codec.specs.Asked as codec
use Rattle.vx_codec.proofs.Laws.Written.{asked-again}
use Rattle.vx_gen.specs.Generating.{link_made, channel_made, requests_enabled, call_of}

-- a word has the lowest 32 bits of a number
word-low : (n : ℕ) → word n ≡ word (n % 2 ^ 32)
word-low n =
    let a : n / 16777216 % 256 ≡ n % 2 ^ 32 / 16777216 % 256 = omega arith in
    let b : n / 65536 % 256 ≡ n % 2 ^ 32 / 65536 % 256 = omega arith in
    let c : n / 256 % 256 ≡ n % 2 ^ 32 / 256 % 256 = omega arith in
    let d : n % 256 ≡ n % 2 ^ 32 % 256 = omega arith in
    let m = n % 2 ^ 32 in
    ap (λ x. x ∷ n / 65536 % 256 ∷ n / 256 % 256 ∷ n % 256 ∷ []) a
    ∙ ap (λ x. m / 16777216 % 256 ∷ x ∷ n / 256 % 256 ∷ n % 256 ∷ []) b
    ∙ ap (λ x. m / 16777216 % 256 ∷ m / 65536 % 256 ∷ x ∷ n % 256 ∷ []) c
    ∙ ap (λ x. m / 16777216 % 256 ∷ m / 65536 % 256 ∷ m / 256 % 256 ∷ x ∷ []) d

-- ---- a call's message

-- the channel has the call's procedure, and its arguments have a spelling, which isn't long
pub record IsSpelled (r : Role) (call : Call) : Type 0 where
  pub served : serves r (proc_of call) ≡ true
  pub fits : CallFits call
  pub short : length (arguments call) ≤ 64

-- the message of a call on a channel
abbrev pub message : Role → ℕ → Call → List ℕ
message r xid call = call_message xid (program r) 1 (proc_number (proc_of call)) ++ arguments call

-- it is sorted as that call, with the lowest 32 bits of its xid
pub message-sorted : (r : Role) (xid : ℕ) (call : Call) → IsSpelled r call → sorted (message r xid call) r ≡ sort.Call (xid % 2 ^ 32) (proc_of call) (arguments call)
message-sorted r xid call is =
    ap (λ w. sorted ((w ++ words (0 ∷ 2 ∷ program r ∷ 1 ∷ proc_number (proc_of call) ∷ 0 ∷ 0 ∷ 0 ∷ 0 ∷ [])) ++ arguments call) r) (word-low xid)
    ∙ served-sorted r (proc_of call) (xid % 2 ^ 32) (arguments call) (omega arith) is.served

-- its arguments are read as the call
pub message-read : (r : Role) (call : Call) → IsSpelled r call → codec.asked (proc_of call) (arguments call) ≡ Some call
message-read r call is = asked-again call is.fits

-- it isn't long
pub message-short : (r : Role) (xid : ℕ) (call : Call) → IsSpelled r call → (0 < length (message r xid call)) × (length (message r xid call) ≤ 200)
message-short r xid call is =
    let front = call_message xid (program r) 1 (proc_number (proc_of call)) in
    let both = length-append front (arguments call) in
    let short = is.short in
    let head : length front ≡ 40 = refl in
    (omega arith, omega arith)

-- ---- the calls of the head

-- a create_link of the head
pub link-spelled : (device : List ℕ) → length device ≡ 7 → length (arguments (link_made device)) ≤ 64 → IsSpelled role.Core (link_made device)
link-spelled device len short = record { served = refl; fits = (omega arith, (tt, (omega arith, ((omega arith, omega arith), tt)))); short = short }

-- its create_intr_chan
pub channel-spelled : IsSpelled role.Core channel_made
channel-spelled = record { served = refl; fits = (omega arith, (omega arith, (omega arith, (omega arith, (omega arith, tt))))); short = omega arith }

-- a device_enable_srq of the head
pub requests-spelled : (lid : ℕ) → lid ≤ 4 → IsSpelled role.Core (requests_enabled lid)
requests-spelled lid small = record { served = refl; fits = (omega arith, (tt, ((omega arith, omega arith), tt))); short = omega arith }

-- ---- the drawn calls

-- what holds of both holds of either
pub either : {X : Type 0} (P : X → Type 0) (b : Bool) (x y : X) → P x → P y → P (cond b x y)
either P true x y px py = px
either P false x y px py = py

-- each drawn call
pub call-spelled : (kind lid : ℕ) → lid ≤ 4 → IsSpelled role.Core (call_of kind lid)
call-spelled kind lid small =
    either (IsSpelled role.Core) (kind == 2) _ _
    (record { served = refl; fits = (omega arith, (omega arith, (omega arith, (omega arith, (omega arith, (omega arith, tt)))))); short = omega arith })
    (either (IsSpelled role.Core) (kind == 3) _ _ (record { served = refl; fits = (omega arith, (omega arith, (omega arith, tt))); short = omega arith })
    (either (IsSpelled role.Core) (kind == 4) _ _ (record { served = refl; fits = (omega arith, tt); short = omega arith })
    (either (IsSpelled role.Core) (kind == 5) _ _ (record { served = refl; fits = (omega arith, (omega arith, (omega arith, (omega arith, tt)))); short = omega arith })
    (record { served = refl; fits = (omega arith, (omega arith, (omega arith, (omega arith, ((omega arith, omega arith), tt))))); short = omega arith }))))

-- a device_abort
pub abort-spelled : (lid : ℕ) → lid ≤ 4 → IsSpelled role.Abort (DeviceAbort lid)
abort-spelled lid small = record { served = refl; fits = (omega arith, tt); short = omega arith }
