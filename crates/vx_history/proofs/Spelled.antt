-- The replies that records spell.
use Rattle.std.proofs.Common.{◌≡◌, ℕ, cond, List, ◌++◌, length, drop, Option, Some, None, option_and_then, option_map, refl, ap, ◌∙◌, subst}
use Rattle.std.specs.Str.{bytes_eq}
use Rattle.std.proofs.lemmas.Option.{same_Some}
use Rattle.vx_lemmas.proofs.Laws.Conditions.{self_bytes, same_bytes, chosen}
use Rattle.vx_calls.specs.declared.calls.Proc.{Proc}
use Rattle.vx_calls.specs.declared.codes.ErrorCode.{ErrorCode}
use Rattle.vx_calls.specs.declared.codes.ErrorCode.TheVariants as code
use Rattle.vx_calls.specs.ErrorCode.{error_number}
use Rattle.vx_calls.specs.Reply.{Reply}
use Rattle.vx_calls.specs.Reply as reply
use Rattle.vx_record.specs.Fragments.{last_header}
use Rattle.vx_rpc.specs.Wording.{success_message}
use Rattle.vx_codec.specs.Answered.{Outcome, ReplyFits, answered, form_of, reply_form, reply_outcome, results}
use Rattle.vx_exchange.specs.Meaning.{reply_record}
use Rattle.vx_history.specs.Replies.{error_of, reply_told, results_told, if_spelled, reply_of}
use Rattle.vx_history.specs.Laws.{ReplyLaw, ReplyIsLaw}

-- results that are written are read again, by each procedure that answers their structure
abbrev pub AnsweredAgain : Type 0
AnsweredAgain = (procedure : Proc) (r : Reply) → form_of procedure ≡ reply_form r → ReplyFits r → answered procedure (results r) ≡ Some (reply_outcome r)

-- an error is found by its number
error-again : (e : ErrorCode) → error_of (error_number e) ≡ Some e
error-again code.Ok = refl
error-again code.Syntax = refl
error-again code.NotAccessible = refl
error-again code.InvalidLink = refl
error-again code.Parameter = refl
error-again code.NoChannel = refl
error-again code.NotSupported = refl
error-again code.NoResources = refl
error-again code.Locked = refl
error-again code.NotHeld = refl
error-again code.Timeout = refl
error-again code.BusFault = refl
error-again code.InvalidAddress = refl
error-again code.Abort = refl
error-again code.ChannelUp = refl

-- a reply by what its reader sees
told-again : (r : Reply) → reply_told (reply_outcome r) ≡ Some r
told-again reply.Null = refl
told-again (reply.CreateLink e lid abort_port max) = ap (option_map (λ x. reply.CreateLink x lid abort_port max)) (error-again e)
told-again (reply.Write e size) = ap (option_map (λ x. reply.Write x size)) (error-again e)
told-again (reply.Read e reason bytes) = ap (option_map (λ x. reply.Read x reason bytes)) (error-again e)
told-again (reply.Stb e stb) = ap (option_map (λ x. reply.Stb x stb)) (error-again e)
told-again (reply.Docmd e bytes) = ap (option_map (λ x. reply.Docmd x bytes)) (error-again e)
told-again (reply.Error e) = ap (option_map (λ x. reply.Error x)) (error-again e)

-- the results stand behind 28 bytes
drop-front : (n xid : ℕ) (body : List ℕ) → drop 28 (last_header n ++ (success_message xid ++ body)) ≡ body
drop-front n xid body = refl

-- a reply's record is read as that reply
pub reply-read : AnsweredAgain → ReplyLaw
reply-read law procedure xid r form fits =
    let bytes = reply_record xid r in
    let told : results_told procedure bytes ≡ Some (reply_outcome r) = ap (answered procedure) (drop-front (length (success_message xid ++ results r)) xid (results r)) ∙ law procedure r form fits in
    ap (option_and_then (reply_of xid bytes)) told
    ∙ ap (option_and_then (if_spelled xid bytes)) (told-again r)
    ∙ ap (λ b. cond b (Some r) None) (self_bytes bytes)

-- no other record is
spelled-is : (xid : ℕ) (bytes : List ℕ) (found : Option Reply) (r : Reply) → option_and_then (if_spelled xid bytes) found ≡ Some r → reply_record xid r ≡ bytes
spelled-is xid bytes None r same = cc
spelled-is xid bytes (Some q) r same =
    let both = chosen (bytes_eq (reply_record xid q) bytes) (Some q) r same in
    subst (λ x. reply_record xid x ≡ bytes) (same_Some q r both.1) (same_bytes (reply_record xid q) bytes both.0)

told-is : (xid : ℕ) (bytes : List ℕ) (found : Option Outcome) (r : Reply) → option_and_then (reply_of xid bytes) found ≡ Some r → reply_record xid r ≡ bytes
told-is xid bytes None r same = cc
told-is xid bytes (Some outcome) r same = spelled-is xid bytes (reply_told outcome) r same

pub reply-is : ReplyIsLaw
reply-is procedure xid bytes r same = told-is xid bytes (results_told procedure bytes) r same
