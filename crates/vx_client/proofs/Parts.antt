-- Reads in parts.
use Rattle.std.proofs.Common.{◌≡◌, ℕ, ◌+◌, ◌-◌, ◌≤◌, ◌<◌, ◌==◌, not, ◌||◌, nat_le, if◌then◌else◌, Bool, true, false, List, [], ◌∷◌, ◌++◌, length, take, drop, Option, Some, None, option_map, Result, Ok, Err, refl, ap, sym, ◌∙◌, subst, arith, append_assoc, append-nil, length-append, length-drop}
use Rattle.std.proofs.lemmas.Bool.Decides.{nat_tests}
use Rattle.std.proofs.lemmas.Bool.{and_parts}
use Rattle.std.proofs.lemmas.List.{length-take-le, take_at, drop_at, drop-drop, drop_all, take_all}
use Rattle.std.proofs.Math.Seq.{take-add}
use borrow.Rule.Slice.PartMut.{put_mid, post_of}
use Rattle.vx_calls.specs.Call.{Call}
use Rattle.vx_calls.specs.Call as call
use Rattle.vx_rpc.specs.ReplyMeaning.{ReplyMeaning, reply_meaning}
use Rattle.vx_rpc.specs.ReplyMeaning as reply
use Rattle.vx_codec.specs.Asked.{proc_of}
use Rattle.vx_codec.specs.Row.{Contents, row_at, whole}
use Rattle.vx_codec.specs.Answered.{Outcome, answered, ReadData, results_of, outcome_of}
use Rattle.vx_codec.specs.Answered as outcome
use Rattle.vx_client.specs.Meaning.{Meaning, Done, Failed, Refused, Bad, can_be, error_of, len_of, client_reason_of, results_meaning, reply_says, meaning, returned}
use Rattle.vx_client.specs.Settled.{answer_of}
use Rattle.vx_client.specs.Exchange.{Exchange, Idle, Unsent, Unread, Ended, TooLong, Replied, result_of}
use Rattle.vx_client.specs.Parts.{InParts, MayEnd, behind}
use Rattle.vx_client.specs.declared.answers.ClientErr.{ClientErr}
use Rattle.vx_client.specs.declared.answers.ReadEnd.{ReadEnd}
use Rattle.vx_client.specs.declared.settling.Answer.{Answer}

-- ---- what a read that gave its results has

-- results that the call can have, with error 0
pub record Fine (c : Call) (room : ℕ) (o : Outcome) : Type 0 where
  pub text : List ℕ
  pub answer : answered (proc_of c) text ≡ Some o
  pub can : can_be c room o ≡ true
  pub error : (error_of o == 0) ≡ true

judged-done : (b e : Bool) (m o : Outcome) (n : ℕ) → (if b then (if e then Done m else Failed n) else Bad) ≡ Done o → (b ≡ true) × (e ≡ true) × (m ≡ o)
judged-done true true m o n h = (refl, refl, cc)
judged-done true false m o n h = absurd (cc)
judged-done false e m o n h = absurd (cc)

results-done : (c : Call) (room : ℕ) (text : List ℕ) (found : Option Outcome) (o : Outcome) → answered (proc_of c) text ≡ found → results_meaning c room found ≡ Done o → Fine c room o
results-done c room text None o e h = absurd (cc)
results-done c room text (Some m) o e h =
    let parts = judged-done (can_be c room m) (error_of m == 0) m o (error_of m) h in
    record {
      text = text;
      answer = e ∙ ap Some parts.2;
      can = subst (λ k. can_be c room k ≡ true) parts.2 parts.0;
      error = subst (λ k. (error_of k == 0) ≡ true) parts.2 parts.1;
    }

said-done : (b : Bool) (m : Meaning) (o : Outcome) → (if b then m else Bad) ≡ Done o → m ≡ Done o
said-done true m o h = h
said-done false m o h = absurd (cc)

refused-done : (b : Bool) (m : Meaning) (o : Outcome) → (if b then m else Bad) ≡ Done o → (m ≡ Done o → ⊥) → ⊥
refused-done true m o h never = never h
refused-done false m o h never = absurd (cc)

says-done : (xid : ℕ) (c : Call) (room : ℕ) (rm : ReplyMeaning) (o : Outcome) → reply_says xid c room rm ≡ Done o → Fine c room o
says-done xid c room (reply.Success number results) o h =
    results-done c room results (answered (proc_of c) results) o refl (said-done (number == xid) (results_meaning c room (answered (proc_of c) results)) o h)
says-done xid c room (reply.Refused number r) o h = absurd (refused-done (number == xid) (Refused r) o h (λ e. absurd (cc)))
says-done xid c room reply.Bad o h = absurd (cc)

pub meaning-done : (xid : ℕ) (c : Call) (room : ℕ) (bytes : List ℕ) (o : Outcome) → meaning xid c room bytes ≡ Done o → Fine c room o
meaning-done xid c room bytes o h = says-done xid c room (reply_meaning bytes) o h

-- the results of a read are those of a read
pub record IsReadData (o : Outcome) : Type 0 where
  pub error : ℕ
  pub reason : ℕ
  pub bytes : List ℕ
  pub whole_is : o ≡ outcome.Read error reason bytes

read-data : (x : Option (Contents (results_of ReadData) × List ℕ)) (o : Outcome)
    → whole (option_map (λ (found : Contents (results_of ReadData) × List ℕ). (outcome_of ReadData found.0, found.1)) x) ≡ Some o → IsReadData o
read-data None o h = absurd (cc)
read-data (Some ((error, (reason, (bytes, end))), [])) o h = record { error = error; reason = reason; bytes = bytes; whole_is = (cc) }
read-data (Some ((error, (reason, (bytes, end))), b ∷ bs)) o h = absurd (cc)

-- what a device_read that gave its results says
pub record ReadSays (room request : ℕ) (o : Outcome) : Type 0 where
  pub within : len_of o ≤ room
  pub some : client_reason_of o ≡ 0 → 0 < request → 0 < len_of o

has-some : (error request reason len : ℕ) → (error == 0) ≡ true → (not (error == 0) || (request == 0) || not (reason == 0) || not (len == 0)) ≡ true
    → reason ≡ 0 → 0 < request → 0 < len
has-some error request reason len e h r some = grind (arith, nat_tests)

read_says-at : (lid request io_timeout lock_timeout flags term room error reason : ℕ) (bytes : List ℕ)
    → can_be (call.Read lid request io_timeout lock_timeout flags term) room (outcome.Read error reason bytes) ≡ true → (error == 0) ≡ true
    → ReadSays room request (outcome.Read error reason bytes)
read_says-at lid request io_timeout lock_timeout flags term room error reason bytes can none =
    let len = length bytes in
    let fits : nat_le len room ≡ true = (and_parts (nat_le len room) _ can).0 in
    let due = (and_parts (nat_le len room) _ can).1 in
    let cause = (and_parts (nat_le len request) _ due).1 in
    record { within = grind (arith, nat_tests); some = has-some error request reason len none cause }

pub read-says : (xid lid request io_timeout lock_timeout flags term room : ℕ) (bytes : List ℕ) (o : Outcome)
    → meaning xid (call.Read lid request io_timeout lock_timeout flags term) room bytes ≡ Done o → ReadSays room request o
read-says xid lid request io_timeout lock_timeout flags term room bytes o h =
    let c = call.Read lid request io_timeout lock_timeout flags term in
    let interleaved : Fine c room o = meaning-done xid c room bytes o h in
    let data' : IsReadData o = read-data (row_at (results_of ReadData) interleaved.text) o interleaved.answer in
    subst (ReadSays room request) (sym data'.whole_is)
    (read_says-at lid request io_timeout lock_timeout flags term room data'.error data'.reason data'.bytes
    (subst (λ k. can_be c room k ≡ true) data'.whole_is interleaved.can) (subst (λ k. (error_of k == 0) ≡ true) data'.whole_is interleaved.error))

-- what a call that returned an Ok read
pub record ReturnsDone (xid : ℕ) (c : Call) (room : ℕ) (a : Answer) : Type 0 where
  pub bytes : List ℕ
  pub o : Outcome
  pub said : meaning xid c room bytes ≡ Done o
  pub answer : answer_of o ≡ a

returned-done : (xid : ℕ) (c : Call) (room len : ℕ) (bytes : List ℕ) (m : Meaning) (a : Answer) → meaning xid c room bytes ≡ m → returned answer_of len m ≡ Ok a → ReturnsDone xid c room a
returned-done xid c room len bytes (Done o) a e h = record { bytes = bytes; o = o; said = e; answer = (cc) }
returned-done xid c room len bytes (Failed n) a e h = absurd (cc)
returned-done xid c room len bytes (Refused r) a e h = absurd (cc)
returned-done xid c room len bytes Bad a e h = absurd (cc)

pub result-done : (xid : ℕ) (c : Call) (room : ℕ) (how : Exchange) (a : Answer) → result_of answer_of xid c room how ≡ Ok a → ReturnsDone xid c room a
result-done xid c room Idle a h = absurd (cc)
result-done xid c room Unsent a h = absurd (cc)
result-done xid c room Unread a h = absurd (cc)
result-done xid c room Ended a h = absurd (cc)
result-done xid c room TooLong a h = absurd (cc)
result-done xid c room (Replied bytes) a h = returned-done xid c room (length bytes) bytes (meaning xid c room bytes) a refl h

-- a device_read that returned an Ok brought no more than its room has, and a byte where it has no reason and asked for some
pub read-answers : (xid lid request io_timeout lock_timeout flags term room : ℕ) (how : Exchange) (a : Answer)
    → result_of answer_of xid (call.Read lid request io_timeout lock_timeout flags term) room how ≡ Ok a → (a.len ≤ room) × (a.reason ≡ 0 → 0 < request → 0 < a.len)
read-answers xid lid request io_timeout lock_timeout flags term room how a h =
    let done : ReturnsDone xid (call.Read lid request io_timeout lock_timeout flags term) room a =
    result-done xid (call.Read lid request io_timeout lock_timeout flags term) room how a h in
    let says : ReadSays room request done.o = read-says xid lid request io_timeout lock_timeout flags term room done.bytes done.o done.said in
    subst (λ (k : Answer). (k.len ≤ room) × (k.reason ≡ 0 → 0 < request → 0 < k.len)) done.answer (says.within, says.some)

-- ---- the parts of a read

abbrev pub Part : Type 0 → Type 1
Part S = S → S → List ℕ → List ℕ → Result ReadEnd ClientErr → Type 0

-- what the parts that are left come to behind the bytes that came is what all come to
pub record ReadsOn {S : Type 0} (Each : S → S → List ℕ → List ℕ → Result ReadEnd ClientErr → Type 0) (first now : S) (room filled : List ℕ) (len : ℕ) : Type 0 where
  pub within : len ≤ length filled
  pub same : length filled ≡ length room
  pub leads : (new : S) (rest : List ℕ) (counts : List ℕ) (result : Result ReadEnd ClientErr) → InParts Each now new (drop len filled) rest counts result
      → (all : List ℕ) × InParts Each first new room (take len filled ++ rest) all (behind len result)

behind-none : (r : Result ReadEnd ClientErr) → behind 0 r ≡ r
behind-none (Ok e) = let k : 0 + e.len ≡ e.len = omega arith in ap (λ n. Ok (record { len = n; reason = e.reason })) k
behind-none (Err e) = refl

behind-behind : (n m : ℕ) (r : Result ReadEnd ClientErr) → behind n (behind m r) ≡ behind (n + m) r
behind-behind n m (Ok e) = let k : n + (m + e.len) ≡ n + m + e.len = omega arith in ap (λ l. Ok (record { len = l; reason = e.reason })) k
behind-behind n m (Err e) = refl

-- at first no bytes came
pub reads-none : {S : Type 0} (Each : S → S → List ℕ → List ℕ → Result ReadEnd ClientErr → Type 0) (s : S) (room : List ℕ) → ReadsOn Each s s room room 0
reads-none Each s room = record {
  within = omega arith;
  same = refl;
  leads = λ new rest counts result h. (counts, subst (InParts Each s new room rest counts) (sym (behind-none result)) h);
}

-- a slice written behind a place, up to the end
pub put-end : (xs ys : List ℕ) (a : ℕ) → put_mid a (length xs - a) xs ys ≡ take a xs ++ ys
put-end xs ys a =
    let len = length-drop a xs in
    let end : post_of a (length xs - a) xs ≡ [] = drop_all (length xs - a) (drop a xs) (omega arith) in
    ap (λ zs. take a xs ++ (ys ++ zs)) end ∙ ap (λ zs. take a xs ++ zs) (append-nil ys)

-- a part after which the read goes on
pub reads-more : {S : Type 0} (Each : S → S → List ℕ → List ℕ → Result ReadEnd ClientErr → Type 0) (first now next : S) (room filled asked some after : List ℕ) (len n : ℕ)
    → ReadsOn Each first now room filled len → asked ≡ take (length filled - len) (drop len filled) → length some ≡ length asked → after ≡ put_mid len (length filled - len) filled some
    → Each now next asked some (Ok (record { len = n; reason = 0 })) → 0 < n → n < length asked → ReadsOn Each first next room after (len + n)
reads-more Each first now next room filled asked some after len n so_far asked_is some_len after_is each has more =
    let rest_len = length-drop len filled in
    let inside : len ≤ length filled = so_far.within in
    let asked_at : asked ≡ drop len filled = asked_is ∙ take_all (length filled - len) (drop len filled) (omega arith) in
    let asked_len : length asked ≡ length (drop len filled) = ap length asked_at in
    let whole : after ≡ take len filled ++ some = after_is ∙ put-end filled some len in
    let front_len : length (take len filled) ≡ len = length-take-le len filled inside in
    let both = length-append (take len filled) some in
    let whole_len : length after ≡ length (take len filled ++ some) = ap length whole in
    let old_len : length filled ≡ length room = so_far.same in
    let behind_is : drop (len + n) after ≡ drop n some =
    sym (drop-drop n len after) ∙ ap (λ xs. drop n (drop len xs)) whole ∙ ap (drop n) (drop_at (take len filled) some len front_len) in
    let front_is : take (len + n) after ≡ take len filled ++ take n some =
    take-add len n after ∙ ap (λ xs. take len xs ++ take n (drop len xs)) whole
    ∙ ap (λ xs. xs ++ take n (drop len (take len filled ++ some))) (take_at (take len filled) some len front_len)
    ∙ ap (λ xs. take len filled ++ take n xs) (drop_at (take len filled) some len front_len) in
    record {
      within = omega arith;
      same = omega arith;
      leads = λ new rest counts result h.
          let later : InParts Each next new (drop n some) rest counts result = subst (λ xs. InParts Each next new xs rest counts result) behind_is h in
          let here : InParts Each now new asked (take n some ++ rest) (n ∷ counts) (behind n result) =
          (next, some, rest, result, each, has, more, later, refl, refl) in
          let led = so_far.leads new (take n some ++ rest) (n ∷ counts) (behind n result)
          (subst (λ xs. InParts Each now new xs (take n some ++ rest) (n ∷ counts) (behind n result)) asked_at here) in
          let text : take len filled ++ (take n some ++ rest) ≡ take (len + n) after ++ rest =
          sym (append_assoc (take len filled) (take n some) rest) ∙ ap (λ xs. xs ++ rest) (sym front_is) in (
            led.0,
            subst (λ xs. InParts Each first new room xs led.0 (behind (len + n) result)) text
                (subst (InParts Each first new room (take len filled ++ (take n some ++ rest)) led.0) (behind-behind len n result) led.1),
          );
    }

-- the last part
pub reads-end : {S : Type 0} (Each : S → S → List ℕ → List ℕ → Result ReadEnd ClientErr → Type 0) (first now new : S) (room filled asked some after : List ℕ) (len : ℕ)
    (last result : Result ReadEnd ClientErr) → ReadsOn Each first now room filled len → asked ≡ take (length filled - len) (drop len filled)
    → after ≡ put_mid len (length filled - len) filled some → Each now new asked some last → MayEnd (length asked) last → result ≡ behind len last
    → (all : List ℕ) × InParts Each first new room after all result
reads-end Each first now new room filled asked some after len last result so_far asked_is after_is each may same =
    let rest_len = length-drop len filled in
    let asked_at : asked ≡ drop len filled = asked_is ∙ take_all (length filled - len) (drop len filled) (omega arith) in
    let whole : after ≡ take len filled ++ some = after_is ∙ put-end filled some len in
    let here : InParts Each now new asked some [] last = (each, may) in
    let led = so_far.leads new some [] last (subst (λ xs. InParts Each now new xs some [] last) asked_at here) in (
      led.0,
      subst (λ xs. InParts Each first new room xs led.0 result) (sym whole)
          (subst (InParts Each first new room (take len filled ++ some) led.0) (sym same) led.1),
    )
