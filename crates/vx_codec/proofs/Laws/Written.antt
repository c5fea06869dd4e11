-- The bytes of calls and replies are the spellings of their rows.
use Rattle.std.proofs.Common.{◌≡◌, Some, refl, ap, ◌∙◌, ℕ, List, length, sym, subst}
use Rattle.vx_calls.specs.declared.calls.Proc.{Proc}
use Rattle.vx_calls.specs.declared.calls.Proc.TheVariants as proc
use Rattle.vx_calls.specs.Call.{Call, Null, CreateLink, Write, Read, ReadStb, Trigger, Clear, Remote, Local, Lock, Unlock, EnableSrq, Docmd, DestroyLink, CreateIntr, DestroyIntr, DeviceAbort, call_shown}
use Rattle.vx_calls.specs.declared.calls.CallRef.{CallRef}
use Rattle.vx_calls.specs.declared.replies.ReplyRef.{ReplyRef}
use Rattle.vx_calls.specs.Reply.{Reply, reply_shown}
use Rattle.vx_calls.specs.Reply as reply
use Rattle.vx_codec.specs.Row.{Contents, row_spelling}
use Rattle.vx_codec.specs.Asked.{Asks, CallFits, argument_values, arguments, arguments_of, asked, call_of, proc_of}
use Rattle.vx_codec.specs.Answered.{Form, ErrorAlone, ReplyFits, answered, form_of, outcome_of, reply_form, reply_outcome, reply_values, results, results_of}
use Rattle.vx_codec.proofs.Laws.Rows.{length-row, row_whole, whole-written}

-- a call's bytes are the spelling of its row
arguments-row : (call : Call) → arguments call ≡ row_spelling (arguments_of (proc_of call)) (argument_values call)
arguments-row Null = refl
arguments-row (CreateLink client lock lock_timeout device) = refl
arguments-row (Write lid io_timeout lock_timeout flags bytes) = refl
arguments-row (Read lid request io_timeout lock_timeout flags term) = refl
arguments-row (ReadStb g) = refl
arguments-row (Trigger g) = refl
arguments-row (Clear g) = refl
arguments-row (Remote g) = refl
arguments-row (Local g) = refl
arguments-row (Lock lid flags lock_timeout) = refl
arguments-row (Unlock lid) = refl
arguments-row (EnableSrq lid enable handle) = refl
arguments-row (Docmd lid flags io_timeout lock_timeout cmd big size bytes) = refl
arguments-row (DestroyLink lid) = refl
arguments-row (CreateIntr host port prog vers family) = refl
arguments-row DestroyIntr = refl
arguments-row (DeviceAbort lid) = refl

-- a call is the one with its arguments
call_of-values : (call : Call) → call_of (proc_of call) (argument_values call) ≡ call
call_of-values Null = refl
call_of-values (CreateLink client lock lock_timeout device) = refl
call_of-values (Write lid io_timeout lock_timeout flags bytes) = refl
call_of-values (Read lid request io_timeout lock_timeout flags term) = refl
call_of-values (ReadStb g) = refl
call_of-values (Trigger g) = refl
call_of-values (Clear g) = refl
call_of-values (Remote g) = refl
call_of-values (Local g) = refl
call_of-values (Lock lid flags lock_timeout) = refl
call_of-values (Unlock lid) = refl
call_of-values (EnableSrq lid enable handle) = refl
call_of-values (Docmd lid flags io_timeout lock_timeout cmd big size bytes) = refl
call_of-values (DestroyLink lid) = refl
call_of-values (CreateIntr host port prog vers family) = refl
call_of-values DestroyIntr = refl
call_of-values (DeviceAbort lid) = refl

-- a call that is written is read again
pub asked-again : (call : Call) → CallFits call → asked (proc_of call) (arguments call) ≡ Some call
asked-again call h =
    let row = arguments_of (proc_of call) in
    ap (row_whole row (call_of (proc_of call))) (arguments-row call) ∙ whole-written row (call_of (proc_of call)) (argument_values call) h ∙ ap Some (call_of-values call)

-- the same, of what a `CallRef` shows
pub again-at : (r : CallRef) (call : Call) → call_shown r ≡ call → CallFits call → asked (proc_of (call_shown r)) (arguments (call_shown r)) ≡ Some (call_shown r)
again-at r call e h = subst (λ (shown : Call). asked (proc_of shown) (arguments shown) ≡ Some shown) (sym e) (asked-again call h)

-- a reply's bytes are the spelling of its row
results-row : (r : Reply) → results r ≡ row_spelling (results_of (reply_form r)) (reply_values r)
results-row reply.Null = refl
results-row (reply.CreateLink error lid abort_port max) = refl
results-row (reply.Write error size) = refl
results-row (reply.Read error reason bytes) = refl
results-row (reply.Stb error stb) = refl
results-row (reply.Docmd error bytes) = refl
results-row (reply.Error error) = refl

-- a reply that is written is read again, as the reply of a procedure that answers its structure
pub answered-again : (procedure : Proc) (r : Reply) → form_of procedure ≡ reply_form r → ReplyFits r → answered procedure (results r) ≡ Some (reply_outcome r)
answered-again procedure r e h =
    let form = reply_form r in
    ap (λ (f : Form). row_whole (results_of f) (outcome_of f) (results r)) e ∙ ap (row_whole (results_of form) (outcome_of form)) (results-row r) ∙ whole-written (results_of form) (outcome_of form) (reply_values r) h

-- the same, of what a `ReplyRef` shows
pub answered-at : (r : ReplyRef) (shown : Reply) → reply_shown r ≡ shown → ReplyFits shown → (procedure : Proc) → form_of procedure ≡ reply_form (reply_shown r) → answered procedure (results (reply_shown r)) ≡ Some (reply_outcome (reply_shown r))
answered-at r shown e h procedure form =
    answered-again procedure (reply_shown r) form (subst ReplyFits (sym e) h)

-- any other procedure answers an error alone
pub form_of-others : (procedure : Proc) → (procedure ≡ proc.Null → ⊥) → (procedure ≡ proc.CreateLink → ⊥) → (procedure ≡ proc.Write → ⊥) → (procedure ≡ proc.Read → ⊥) → (procedure ≡ proc.ReadStb → ⊥) → (procedure ≡ proc.Docmd → ⊥) → form_of procedure ≡ ErrorAlone
form_of-others proc.Null a b c d e f = absurd (a refl)
form_of-others proc.CreateLink a b c d e f = absurd (b refl)
form_of-others proc.Write a b c d e f = absurd (c refl)
form_of-others proc.Read a b c d e f = absurd (d refl)
form_of-others proc.ReadStb a b c d e f = absurd (e refl)
form_of-others proc.Docmd a b c d e f = absurd (f refl)
form_of-others _ a b c d e f = refl

-- the bytes of the call with these arguments are the spelling of its row
arguments-call_of : (procedure : Proc) (values : Contents (arguments_of procedure)) → arguments (call_of procedure values) ≡ row_spelling (arguments_of procedure) values
arguments-call_of proc.Null values = refl
arguments-call_of proc.CreateLink values = refl
arguments-call_of proc.Write values = refl
arguments-call_of proc.Read values = refl
arguments-call_of proc.ReadStb values = refl
arguments-call_of proc.Trigger values = refl
arguments-call_of proc.Clear values = refl
arguments-call_of proc.Remote values = refl
arguments-call_of proc.Local values = refl
arguments-call_of proc.Lock values = refl
arguments-call_of proc.Unlock values = refl
arguments-call_of proc.EnableSrq values = refl
arguments-call_of proc.Docmd values = refl
arguments-call_of proc.DestroyLink values = refl
arguments-call_of proc.CreateIntr values = refl
arguments-call_of proc.DestroyIntr values = refl
arguments-call_of proc.DeviceAbort values = refl

-- a call that is read is written in as many bytes
pub length-arguments : (procedure : Proc) (call : Call) (bytes : List ℕ) → Asks procedure call bytes → length (arguments call) ≡ length bytes
length-arguments procedure call bytes h =
    ap (λ (c : Call). length (arguments c)) h.1 ∙ ap length (arguments-call_of procedure h.0) ∙ sym (length-row (arguments_of procedure) h.0 bytes h.2)
