-- What is read of the records of replies.
use Rattle.std.proofs.Common.{◌≡◌, ◌<◌, ◌^◌, ◌==◌, ◌++◌, ℕ, Bool, true, false, cond, [], Some, None, refl, ap, ◌∙◌}
use Rattle.byteorder.specs.Endian.{big_number}
use Rattle.vx_xdr.specs.Spelling.{word}
use Rattle.vx_xdr.proofs.Laws.{word-bytes, word-number, number-word, number-lt}
use Rattle.vx_calls.specs.declared.calls.Proc.{Proc}
use Rattle.vx_calls.specs.declared.calls.Proc.TheVariants as proc
use Rattle.vx_calls.specs.ErrorCode.{error_number}
use Rattle.vx_calls.specs.Reply.{Reply}
use Rattle.vx_calls.specs.Reply as reply
use Rattle.vx_calls.proofs.Laws.{number-small}
use Rattle.vx_codec.specs.Answered.{ReplyFits, answered, form_of, reply_form, reply_outcome, results}
use Rattle.vx_policy.specs.Laws.{MadeRead, DoneRead}
use Rattle.vx_policy.specs.Targets.{made_by, has_none}

-- results that are written are read again, by each procedure that answers their structure
abbrev pub AnsweredAgain : Type 0
AnsweredAgain = (procedure : Proc) (r : Reply) → form_of procedure ≡ reply_form r → ReplyFits r → answered procedure (results r) ≡ Some (reply_outcome r)

-- the number of a word's bytes has the same word
word-again : (n : ℕ) → word n ≡ word (big_number 4 (word n))
word-again n = word-number (word n) (big_number 4 (word n)) (record { four = refl; bytes_fit = word-bytes n; number = refl })

-- and fits a word
number-fits : (n : ℕ) → big_number 4 (word n) < 2 ^ 32
number-fits n = number-lt (word n) (word-bytes n)

-- what stands for a link, or for none
same-made : (b : Bool) (read lid : ℕ) → (b ≡ true → read ≡ lid) → cond b (Some read) None ≡ cond b (Some lid) None
same-made true read lid same = ap Some (same refl)
same-made false read lid same = refl

-- the link that a create_link made
pub made-read : AnsweredAgain → MadeRead
made-read again text error lid abort_port max is low =
    let link = big_number 4 (word lid) in
    let port = big_number 4 (word abort_port) in
    let most = big_number 4 (word max) in
    let told = reply.CreateLink error link port most in
    let same : results (reply.CreateLink error lid abort_port max) ≡ results told =
    ap (λ w. word (error_number error) ++ w ++ word abort_port ++ word max) (word-again lid)
    ∙ ap (λ w. word (error_number error) ++ word link ++ w ++ word max) (word-again abort_port)
    ∙ ap (λ w. word (error_number error) ++ word link ++ word port ++ w) (word-again max) in
    ap (λ bytes. made_by (answered proc.CreateLink bytes)) (is ∙ same)
    ∙ ap made_by (again proc.CreateLink told refl (number-small error, (number-fits lid, (number-fits abort_port, (number-fits max, tt)))))
    ∙ same-made (error_number error == 0) link lid (λ none. number-word lid [] (low none))

-- whether a destroy_link has no error
pub done-read : AnsweredAgain → DoneRead
done-read again text error is =
    ap (λ bytes. has_none (answered proc.DestroyLink bytes)) is ∙ ap has_none (again proc.DestroyLink (reply.Error error) refl (number-small error, tt))
