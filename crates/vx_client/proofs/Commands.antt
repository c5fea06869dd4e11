-- Commands over a link that was made.
use Rattle.std.proofs.Common.{◌≡◌, ℕ, min, List, Option, Result, Ok, Err, refl, ap, sym, subst, ◌∙◌}
use Rattle.std.specs.Prelude.{IfOk}
use Rattle.vx_calls.specs.Call.{Call}
use Rattle.vx_calls.specs.declared.limits.TheConstants.{PIECE_MAX}
use Rattle.vx_client.specs.State.{ClientState}
use Rattle.vx_client.specs.Chunks.{chunks, IsWritten}
use Rattle.vx_client.specs.Asked.{ClientCommand, Query, Write, line_sent}
use Rattle.vx_client.specs.Exchange.{IsCalled}
use Rattle.vx_client.specs.Meaning.{stb_of, nothing_of}
use Rattle.vx_client.specs.Gaining.{Gain, Status, Done, with_end, ReadsAll, SendsLine, Performs, result_shown, IsClientWithin, done_of, status_of}
use Rattle.vx_client.specs.declared.answers.LinkMade.{LinkMade}
use Rattle.vx_client.specs.declared.answers.ClientErr.{ClientErr}
use Rattle.vx_client.specs.declared.gains.Gained.{Gained}
use Rattle.vx_client.proofs.Calling.{called-part, called-error}

-- the line of a command, once it was written or not
line-written : {L : Type 0} (stands : L → List ℕ → List ℕ → Type 0) (left : L → Option (List ℕ)) (receives sends : L → ℕ) (old mid : ClientState L) (made : LinkMade)
    (command known : ClientCommand) (line : List ℕ) (answer : Result Unit ClientErr) → command ≡ known → line ≡ line_sent command
    → IsWritten stands left receives sends old mid made.lid with_end (chunks (min made.max PIECE_MAX) line) answer
    → IsWritten stands left receives sends old mid made.lid with_end (chunks (min made.max PIECE_MAX) (line_sent known)) answer
line-written stands left receives sends old mid made command known line answer is line_is written =
    subst (λ l. IsWritten stands left receives sends old mid made.lid with_end (chunks (min made.max PIECE_MAX) l) answer) (line_is ∙ ap line_sent is) written

-- a query whose line was written or not, and its answer read behind that
pub query-sent : {L : Type 0} (stands : L → List ℕ → List ℕ → Type 0) (left : L → Option (List ℕ)) (receives sends : L → ℕ) (old new : ClientState L) (made : LinkMade) (command : ClientCommand)
    (text line : List ℕ) (result : Result Gain ClientErr) → command ≡ Query text → line ≡ line_sent command
    → SendsLine stands left receives sends old new made line result (λ mid. ReadsAll stands left receives sends mid new made.lid result)
    → Performs stands left receives sends old new made command result
query-sent stands left receives sends old new made command text line result is line_is sent =
    subst (λ k. Performs stands left receives sends old new made k result) (sym is)
    (subst (λ l. SendsLine stands left receives sends old new made l result (λ mid. ReadsAll stands left receives sends mid new made.lid result)) (line_is ∙ ap line_sent is) sent)

-- a write whose line wasn't written
pub write-failed : {L : Type 0} (stands : L → List ℕ → List ℕ → Type 0) (left : L → Option (List ℕ)) (receives sends : L → ℕ) (old new : ClientState L) (made : LinkMade) (command : ClientCommand)
    (text line : List ℕ) (e : ClientErr) (result : Result Gain ClientErr) → command ≡ Write text → line ≡ line_sent command
    → IsWritten stands left receives sends old new made.lid with_end (chunks (min made.max PIECE_MAX) line) (Err e) → result ≡ Err e
    → Performs stands left receives sends old new made command result
write-failed stands left receives sends old new made command text line e result is line_is written result_is =
    subst (λ k. Performs stands left receives sends old new made k result) (sym is) (record {
      mid = new;
      answer = Err e;
      written = line-written stands left receives sends old new made command (Write text) line (Err e) is line_is written;
      behind = (refl, result_is);
    })

-- and one whose line was
pub write-done : {L : Type 0} (stands : L → List ℕ → List ℕ → Type 0) (left : L → Option (List ℕ)) (receives sends : L → ℕ) (old new : ClientState L) (made : LinkMade) (command : ClientCommand)
    (text line : List ℕ) (done : Unit {0}) → command ≡ Write text → line ≡ line_sent command
    → IsWritten stands left receives sends old new made.lid with_end (chunks (min made.max PIECE_MAX) line) (Ok done)
    → Performs stands left receives sends old new made command (Ok Done)
write-done stands left receives sends old new made command text line done is line_is written =
    subst (λ k. Performs stands left receives sends old new made k (Ok Done)) (sym is) (record {
      mid = new;
      answer = Ok done;
      written = line-written stands left receives sends old new made command (Write text) line (Ok done) is line_is written;
      behind = (refl, refl);
    })

-- and one whose line was or wasn't
pub write-sent : {L : Type 0} (stands : L → List ℕ → List ℕ → Type 0) (left : L → Option (List ℕ)) (receives sends : L → ℕ) (old new : ClientState L) (made : LinkMade) (command : ClientCommand)
    (text line room : List ℕ) (answer : Result Unit ClientErr) (gained : Result Gained ClientErr) → command ≡ Write text → line ≡ line_sent command → gained ≡ done_of answer
    → IsWritten stands left receives sends old new made.lid with_end (chunks (min made.max PIECE_MAX) line) answer
    → Performs stands left receives sends old new made command (result_shown room gained)
write-sent stands left receives sends old new made command text line room (Ok u) gained is line_is gained_is written =
    subst (λ r. Performs stands left receives sends old new made command r) (sym (ap (result_shown room) gained_is))
    (write-done stands left receives sends old new made command text line u is line_is written)
write-sent stands left receives sends old new made command text line room (Err e) gained is line_is gained_is written =
    write-failed stands left receives sends old new made command text line e (result_shown room gained) is line_is written (ap (result_shown room) gained_is)

-- a call that has no results
pub called-done : {L : Type 0} (stands : L → List ℕ → List ℕ → Type 0) (left : L → Option (List ℕ)) (receives sends : L → ℕ) (old new : ClientState L) (call : Call)
    (room : List ℕ) (answer : Result Unit ClientErr) (gained : Result Gained ClientErr) → gained ≡ done_of answer → IsCalled stands left receives sends old new call 0 nothing_of answer
    → IsCalled stands left receives sends old new call 0 (λ o. Done) (result_shown room gained)
called-done stands left receives sends old new call room (Ok u) gained gained_is called =
    subst (λ r. IsCalled stands left receives sends old new call 0 (λ o. Done) r) (sym (ap (result_shown room) gained_is))
    (called-part stands left receives sends old new call 0 nothing_of (λ v. Done) u called)
called-done stands left receives sends old new call room (Err e) gained gained_is called =
    called-error stands left receives sends old new call 0 nothing_of (λ o. Done) e (result_shown room gained) called (ap (result_shown room) gained_is)

-- and one that has a status byte
pub called-status : {L : Type 0} (stands : L → List ℕ → List ℕ → Type 0) (left : L → Option (List ℕ)) (receives sends : L → ℕ) (old new : ClientState L) (call : Call)
    (room : List ℕ) (answer : Result ℕ ClientErr) (gained : Result Gained ClientErr) → gained ≡ status_of answer → IsCalled stands left receives sends old new call 0 stb_of answer
    → IsCalled stands left receives sends old new call 0 (λ o. Status (stb_of o)) (result_shown room gained)
called-status stands left receives sends old new call room (Ok byte) gained gained_is called =
    subst (λ r. IsCalled stands left receives sends old new call 0 (λ o. Status (stb_of o)) r) (sym (ap (result_shown room) gained_is))
    (called-part stands left receives sends old new call 0 stb_of (λ b. Status b) byte called)
called-status stands left receives sends old new call room (Err e) gained gained_is called =
    called-error stands left receives sends old new call 0 stb_of (λ o. Status (stb_of o)) e (result_shown room gained) called (ap (result_shown room) gained_is)

-- neither has bytes that stand in a room
pub done-within : (room : ℕ) (answer : Result Unit ClientErr) (gained : Result Gained ClientErr) → gained ≡ done_of answer → IfOk gained (IsClientWithin room)
done-within room (Ok u) gained is = subst (λ r. IfOk r (IsClientWithin room)) (sym is) tt
done-within room (Err e) gained is = subst (λ r. IfOk r (IsClientWithin room)) (sym is) tt

pub status-within : (room : ℕ) (answer : Result ℕ ClientErr) (gained : Result Gained ClientErr) → gained ≡ status_of answer → IfOk gained (IsClientWithin room)
status-within room (Ok byte) gained is = subst (λ r. IfOk r (IsClientWithin room)) (sym is) tt
status-within room (Err e) gained is = subst (λ r. IfOk r (IsClientWithin room)) (sym is) tt
