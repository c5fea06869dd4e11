-- What the calls of a client that isn't spent answer and leave, and what a command over them does.
use Rattle.std.proofs.Common.{◌≡◌, ℕ, ◌≤◌, ◌==◌, nat_le, Bool, true, false, List, [], ◌∷◌, length, drop, Option, Some, None, option_map, Result, Ok, Err, refl, sym, subst, ◌∙◌, arith}
use Rattle.std.proofs.lemmas.Bool.Decides.{nat_tests}
use Rattle.std.proofs.lemmas.Bool.{false≢true, and_parts}
use Rattle.vx_calls.specs.Call.{Call}
use Rattle.vx_codec.specs.Answered.{Outcome, answered, LinkMade, results_of, outcome_of}
use Rattle.vx_codec.specs.Answered as outcome
use Rattle.vx_codec.specs.Row.{Contents, row_at, whole}
use Rattle.vx_client.specs.State.{ClientState}
use Rattle.vx_client.specs.Meaning.{Meaning, Done, Failed, Refused, Bad, meaning, is_bad, returned, made_of, can_be, error_of}
use Rattle.vx_client.specs.Exchange.{Exchange, Idle, Unsent, Unread, Ended, TooLong, Replied, Exchanged, IsCalled, result_of}
use Rattle.vx_client.specs.Calls.{create}
use Rattle.vx_client.specs.Chunks.{InTurn, IsWritten, WritesPiece, ClientGoesOn, without_end}
use Rattle.vx_client.specs.Parts.{InParts, ReadsPart, behind}
use Rattle.vx_client.specs.Asked.{ClientCommand, Query, Write, Read, Stb, Clear, Trigger}
use Rattle.vx_client.specs.Gaining.{Gain, read_gain, ReadsAll, Behind, SendsLine, Performs, IsAnswer, result_shown}
use Rattle.vx_client.specs.declared.answers.CallOpts.{CallOpts}
use Rattle.vx_client.specs.declared.answers.LinkMade as declared
use Rattle.vx_client.specs.declared.answers.ReadEnd.{ReadEnd}
use Rattle.vx_client.specs.declared.answers.ClientErr.{ClientErr}
use Rattle.vx_client.specs.declared.gains.Gained.{Gained}
use Rattle.vx_client.proofs.Parts.{Fine, meaning-done}

-- ---- one call

returned_fit : {X : Type 0} (view : Outcome → X) (len : ℕ) (m : Meaning) (x : X) → returned view len m ≡ Ok x → is_bad m ≡ false
returned_fit view len (Done o) x h = refl
returned_fit view len (Failed n) x h = absurd (cc)
returned_fit view len (Refused r) x h = absurd (cc)
returned_fit view len Bad x h = absurd (cc)

exchanged_fit : {L X : Type 0} (stands : L → List ℕ → List ℕ → Type 0) (left : L → Option (List ℕ)) (receives sends : L → ℕ) (old new : ClientState L)
    (c : Call) (room : ℕ) (view : Outcome → X) (how : Exchange) (x : X) → Exchanged stands left receives sends old new c room how → result_of view old.next c room how ≡ Ok x → new.spent ≡ false
exchanged_fit stands left receives sends old new c room view Idle x e h = absurd (cc)
exchanged_fit stands left receives sends old new c room view Unsent x e h = absurd (cc)
exchanged_fit stands left receives sends old new c room view Unread x e h = absurd (cc)
exchanged_fit stands left receives sends old new c room view Ended x e h = absurd (cc)
exchanged_fit stands left receives sends old new c room view TooLong x e h = absurd (cc)
exchanged_fit stands left receives sends old new c room view (Replied reply) x e h =
    e.0.spent ∙ returned_fit view (length reply) (meaning old.next c room reply) x h

-- a call that gave its results leaves the client fit
pub called-fit : {L X : Type 0} (stands : L → List ℕ → List ℕ → Type 0) (left : L → Option (List ℕ)) (receives sends : L → ℕ) (old new : ClientState L)
    (c : Call) (room : ℕ) (view : Outcome → X) (x : X) → IsCalled stands left receives sends old new c room view (Ok x) → new.spent ≡ false
called-fit stands left receives sends old new c room view x called =
    exchanged_fit stands left receives sends old new c room view called.how x called.exchanged (sym called.answer)

returned_answer : {X : Type 0} (view : Outcome → X) (len : ℕ) (m : Meaning) → IsAnswer (returned view len m)
returned_answer view len (Done o) = tt
returned_answer view len (Failed n) = tt
returned_answer view len (Refused r) = tt
returned_answer view len Bad = tt

exchanged_answer : {L X : Type 0} (stands : L → List ℕ → List ℕ → Type 0) (left : L → Option (List ℕ)) (receives sends : L → ℕ) (old new : ClientState L)
    (c : Call) (room : ℕ) (view : Outcome → X) (how : Exchange) → old.spent ≡ false → Exchanged stands left receives sends old new c room how → IsAnswer (result_of view old.next c room how)
exchanged_answer stands left receives sends old new c room view Idle fit e = absurd (false≢true (sym fit ∙ e.0))
exchanged_answer stands left receives sends old new c room view Unsent fit e = tt
exchanged_answer stands left receives sends old new c room view Unread fit e = tt
exchanged_answer stands left receives sends old new c room view Ended fit e = tt
exchanged_answer stands left receives sends old new c room view TooLong fit e = tt
exchanged_answer stands left receives sends old new c room view (Replied reply) fit e = returned_answer view (length reply) (meaning old.next c room reply)

-- a call of a client that isn't spent doesn't answer that it is
pub called-answer : {L X : Type 0} (stands : L → List ℕ → List ℕ → Type 0) (left : L → Option (List ℕ)) (receives sends : L → ℕ) (old new : ClientState L)
    (c : Call) (room : ℕ) (view : Outcome → X) (result : Result X ClientErr) → old.spent ≡ false → IsCalled stands left receives sends old new c room view result → IsAnswer result
called-answer stands left receives sends old new c room view result fit called =
    subst IsAnswer (sym called.answer) (exchanged_answer stands left receives sends old new c room view called.how fit called.exchanged)

-- ---- a write

-- no call of those in turn answers that the client is spent, and where they were all done it isn't
pub record Fit {L X : Type 0} (new : ClientState L) (result : Result X ClientErr) : Type 0 where
  pub answer : IsAnswer result
  pub fit : (x : X) → result ≡ Ok x → new.spent ≡ false

-- one call
called_fit : {L X : Type 0} (stands : L → List ℕ → List ℕ → Type 0) (left : L → Option (List ℕ)) (receives sends : L → ℕ) (old new : ClientState L)
    (c : Call) (room : ℕ) (view : Outcome → X) (result : Result X ClientErr) → old.spent ≡ false → IsCalled stands left receives sends old new c room view result → Fit new result
called_fit stands left receives sends old new c room view result fit called = record {
  answer = called-answer stands left receives sends old new c room view result fit called;
  fit = λ x is. called-fit stands left receives sends old new c room view x (subst (IsCalled stands left receives sends old new c room view) is called);
}

turn_on : {S : Type 0} (fits : S → Type 0) (Ends : S → Result Unit ClientErr → Type 0) (mid new : S) (answer result : Result Unit ClientErr) (Next : Type 0)
    → Ends mid answer → (answer ≡ Ok tt → Next → Ends new result) → ClientGoesOn answer Next ((new ≡ mid) × (result ≡ answer)) → Ends new result
turn_on fits Ends mid new (Ok tt) result Next here next h = next refl h
turn_on fits Ends mid new (Err e) result Next here next h = subst (λ s. Ends s result) (sym h.0) (subst (Ends mid) (sym h.1) here)

written_fit : {L : Type 0} (Each Last : ClientState L → ClientState L → List ℕ → Result Unit ClientErr → Type 0)
    → ((old new : ClientState L) (piece : List ℕ) (result : Result Unit ClientErr) → old.spent ≡ false → Each old new piece result → Fit new result)
    → ((old new : ClientState L) (piece : List ℕ) (result : Result Unit ClientErr) → old.spent ≡ false → Last old new piece result → Fit new result)
    → (old new : ClientState L) (all : List (List ℕ)) (result : Result Unit ClientErr) → old.spent ≡ false → InTurn Each Last old new all result → Fit new result
written_fit Each Last each last old new [] result fit h = absurd h
written_fit Each Last each last old new (piece ∷ []) result fit h = last old new piece result fit h
written_fit Each Last each last old new (piece ∷ next ∷ others) result fit (mid, answer, here, rest) =
    turn_on (λ s. Unit {0}) Fit mid new answer result (InTurn Each Last mid new (next ∷ others) result) (each old mid piece answer fit here)
    (λ is more. written_fit Each Last each last mid new (next ∷ others) result ((each old mid piece answer fit here).fit tt is) more) rest

pub write-fit : {L : Type 0} (stands : L → List ℕ → List ℕ → Type 0) (left : L → Option (List ℕ)) (receives sends : L → ℕ) (old new : ClientState L)
    (lid : ℕ) (opts : CallOpts) (all : List (List ℕ)) (result : Result Unit ClientErr) → old.spent ≡ false → IsWritten stands left receives sends old new lid opts all result → Fit new result
write-fit stands left receives sends old new lid opts all result fit h =
    written_fit (WritesPiece stands left receives sends lid opts (without_end opts.flags)) (WritesPiece stands left receives sends lid opts opts.flags)
    (λ a b piece r f called. called_fit stands left receives sends a b _ 0 _ r f called)
    (λ a b piece r f called. called_fit stands left receives sends a b _ 0 _ r f called)
    old new all result fit h

-- ---- a read

behind_answer : (n : ℕ) (r : Result ReadEnd ClientErr) → IsAnswer r → IsAnswer (behind n r)
behind_answer n (Ok e) h = tt
behind_answer n (Err e) h = h

parts_answer : {L : Type 0} (stands : L → List ℕ → List ℕ → Type 0) (left : L → Option (List ℕ)) (receives sends : L → ℕ) (lid : ℕ) (opts : CallOpts) (term : ℕ)
    (old new : ClientState L) (room filled counts : List ℕ) (result : Result ReadEnd ClientErr) → old.spent ≡ false
    → InParts (ReadsPart stands left receives sends lid opts term) old new room filled counts result → IsAnswer result
parts_answer stands left receives sends lid opts term old new room filled [] result fit (part, may) =
    called-answer stands left receives sends old new _ _ _ result fit part.called
parts_answer stands left receives sends lid opts term old new room filled (n ∷ counts) result fit (mid, some, rest, last, part, has, more, later, filled_is, result_is) =
    let after : mid.spent ≡ false = called-fit stands left receives sends old mid _ _ _ _ part.called in
    subst IsAnswer (sym result_is) (behind_answer n last (parts_answer stands left receives sends lid opts term mid new (drop n some) rest counts last after later))

gain_answer : (filled : List ℕ) (end : Result ReadEnd ClientErr) → IsAnswer end → IsAnswer (read_gain filled end)
gain_answer filled (Ok e) h = tt
gain_answer filled (Err e) h = h

reads_answer : {L : Type 0} (stands : L → List ℕ → List ℕ → Type 0) (left : L → Option (List ℕ)) (receives sends : L → ℕ) (old new : ClientState L) (lid : ℕ)
    (result : Result Gain ClientErr) → old.spent ≡ false → ReadsAll stands left receives sends old new lid result → IsAnswer result
reads_answer stands left receives sends old new lid result fit r =
    subst IsAnswer (sym r.gain)
    (gain_answer r.filled r.end (parts_answer stands left receives sends lid _ 0 old new r.room r.filled r.read.0 r.end fit r.read.1))

-- ---- a command

sends_answer : {L : Type 0} (mid new : ClientState L) (answer : Result Unit ClientErr) (result : Result Gain ClientErr) (Then : ClientState L → Type 0)
    → Fit mid answer → (mid.spent ≡ false → Then mid → IsAnswer result) → Behind answer mid new result Then → IsAnswer result
sends_answer mid new (Ok tt) result Then sent next h = next (sent.fit tt refl) h
sends_answer mid new (Err e) result Then sent next h = subst IsAnswer (sym h.1) sent.answer

line_answer : {L : Type 0} (stands : L → List ℕ → List ℕ → Type 0) (left : L → Option (List ℕ)) (receives sends : L → ℕ) (old new : ClientState L) (made : declared.LinkMade)
    (line : List ℕ) (result : Result Gain ClientErr) (Then : ClientState L → Type 0) → old.spent ≡ false → ((mid : ClientState L) → mid.spent ≡ false → Then mid → IsAnswer result)
    → SendsLine stands left receives sends old new made line result Then → IsAnswer result
line_answer stands left receives sends old new made line result Then fit next s =
    sends_answer s.mid new s.answer result Then (write-fit stands left receives sends old s.mid made.lid _ _ s.answer fit s.written) (next s.mid) s.behind

-- a command over a client that isn't spent doesn't answer that it is
pub performs-answer : {L : Type 0} (stands : L → List ℕ → List ℕ → Type 0) (left : L → Option (List ℕ)) (receives sends : L → ℕ) (old new : ClientState L) (made : declared.LinkMade)
    (command : ClientCommand) (result : Result Gain ClientErr) → old.spent ≡ false → Performs stands left receives sends old new made command result → IsAnswer result
performs-answer stands left receives sends old new made (Query text) result fit s =
    line_answer stands left receives sends old new made _ result _ fit (λ mid after reads. reads_answer stands left receives sends mid new made.lid result after reads) s
performs-answer stands left receives sends old new made (Write text) result fit s =
    line_answer stands left receives sends old new made _ result _ fit (λ mid after is. subst IsAnswer (sym is.1) tt) s
performs-answer stands left receives sends old new made Read result fit r = reads_answer stands left receives sends old new made.lid result fit r
performs-answer stands left receives sends old new made Stb result fit called = called-answer stands left receives sends old new _ 0 _ result fit called
performs-answer stands left receives sends old new made Clear result fit called = called-answer stands left receives sends old new _ 0 _ result fit called
performs-answer stands left receives sends old new made Trigger result fit called = called-answer stands left receives sends old new _ 0 _ result fit called

-- the code's own value is such an answer where what it shows is
pub shown-answer : (room : List ℕ) (came : Result Gained ClientErr) → IsAnswer (result_shown room came) → IsAnswer came
shown-answer room (Ok g) h = tt
shown-answer room (Err e) h = h

-- ---- a link that was made takes writes

-- the results of a create_link are those of one
record IsMade (o : Outcome) : Type 0 where
  error : ℕ
  lid : ℕ
  abort_port : ℕ
  max : ℕ
  whole_is : o ≡ outcome.CreateLink error lid abort_port max

made_data : (x : Option (Contents (results_of LinkMade) × List ℕ)) (o : Outcome)
    → whole (option_map (λ (found : Contents (results_of LinkMade) × List ℕ). (outcome_of LinkMade found.0, found.1)) x) ≡ Some o → IsMade o
made_data None o h = absurd (cc)
made_data (Some ((error, (lid, (abort_port, (max, end)))), [])) o h = record { error = error; lid = lid; abort_port = abort_port; max = max; whole_is = (cc) }
made_data (Some ((error, (lid, (abort_port, (max, end)))), b ∷ bs)) o h = absurd (cc)

made_takes_at : (lock : Bool) (lock_timeout room error lid abort_port max : ℕ) (device : List ℕ)
    → can_be (create lock lock_timeout device) room (outcome.CreateLink error lid abort_port max) ≡ true → (error == 0) ≡ true → 1 ≤ max
made_takes_at lock lock_timeout room error lid abort_port max device can none =
    let due = (and_parts (nat_le 0 room) _ can).1 in
    grind (arith, nat_tests)

made_takes : (xid : ℕ) (lock : Bool) (lock_timeout room : ℕ) (device bytes : List ℕ) (o : Outcome) → meaning xid (create lock lock_timeout device) room bytes ≡ Done o → 1 ≤ (made_of o).max
made_takes xid lock lock_timeout room device bytes o h =
    let c = create lock lock_timeout device in
    let interleaved : Fine c room o = meaning-done xid c room bytes o h in
    let is : IsMade o = made_data (row_at (results_of LinkMade) interleaved.text) o interleaved.answer in
    subst (λ k. 1 ≤ (made_of k).max) (sym is.whole_is)
    (made_takes_at lock lock_timeout room is.error is.lid is.abort_port is.max device
    (subst (λ k. can_be c room k ≡ true) is.whole_is interleaved.can) (subst (λ k. (error_of k == 0) ≡ true) is.whole_is interleaved.error))

returned_takes : (xid : ℕ) (lock : Bool) (lock_timeout room len : ℕ) (device bytes : List ℕ) (m : Meaning) (made : declared.LinkMade)
    → meaning xid (create lock lock_timeout device) room bytes ≡ m → returned made_of len m ≡ Ok made → 1 ≤ made.max
returned_takes xid lock lock_timeout room len device bytes (Done o) made e h =
    let is : made_of o ≡ made = cc in
    subst (λ k. 1 ≤ k.max) is (made_takes xid lock lock_timeout room device bytes o e)
returned_takes xid lock lock_timeout room len device bytes (Failed n) made e h = absurd (cc)
returned_takes xid lock lock_timeout room len device bytes (Refused r) made e h = absurd (cc)
returned_takes xid lock lock_timeout room len device bytes Bad made e h = absurd (cc)

result_takes : (xid : ℕ) (lock : Bool) (lock_timeout room : ℕ) (device : List ℕ) (how : Exchange) (made : declared.LinkMade)
    → result_of made_of xid (create lock lock_timeout device) room how ≡ Ok made → 1 ≤ made.max
result_takes xid lock lock_timeout room device Idle made h = absurd (cc)
result_takes xid lock lock_timeout room device Unsent made h = absurd (cc)
result_takes xid lock lock_timeout room device Unread made h = absurd (cc)
result_takes xid lock lock_timeout room device Ended made h = absurd (cc)
result_takes xid lock lock_timeout room device TooLong made h = absurd (cc)
result_takes xid lock lock_timeout room device (Replied bytes) made h =
    returned_takes xid lock lock_timeout room (length bytes) device bytes (meaning xid (create lock lock_timeout device) room bytes) made refl h

pub made-takes : {L : Type 0} (stands : L → List ℕ → List ℕ → Type 0) (left : L → Option (List ℕ)) (receives sends : L → ℕ) (old new : ClientState L) (lock : Bool) (lock_timeout : ℕ)
    (device : List ℕ) (made : declared.LinkMade) → IsCalled stands left receives sends old new (create lock lock_timeout device) 0 made_of (Ok made) → 1 ≤ made.max
made-takes stands left receives sends old new lock lock_timeout device made called =
    result_takes old.next lock lock_timeout 0 device called.how made (sym called.answer)
