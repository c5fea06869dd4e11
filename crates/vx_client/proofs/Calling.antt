-- What an exchange says of a call of a client.
use Rattle.std.proofs.Common.{◌≡◌, ℕ, ◌≤◌, ◌+◌, true, false, List, [], ◌++◌, Option, length, Result, Ok, Err, is_err, refl, ap, sym, subst, ◌∙◌, append-nil}
use Rattle.std.specs.Io.KnownBytes.{Keeps}
use Rattle.std.proofs.KnownBytes.{Consumes-trans}
use Rattle.vx_lemmas.proofs.Laws.Options.{keeps-consumes}
use Rattle.vx_io_traits.specs.Stands.{Goes}
use Rattle.vx_io_traits.proofs.Laws.Goings.{Goes-goes}
use Rattle.vx_calls.specs.declared.limits.TheConstants.{REPLY_MAX}
use Rattle.vx_calls.specs.Call.{Call}
use Rattle.vx_codec.specs.Answered.{Outcome}
use Rattle.vx_client.specs.State.{ClientState, number_after}
use Rattle.vx_client.specs.Message.{call_record}
use Rattle.vx_client.specs.Meaning.{Meaning, Done, Failed, Refused, Bad, meaning, is_bad, returned}
use Rattle.vx_client.specs.Settled.{answer_of, settled_of, written}
use Rattle.vx_client.specs.Stream.{IsReply}
use Rattle.vx_client.specs.Inbox.{InboxState, Gave, last_at, last_of}
use Rattle.vx_client.specs.Exchange.{Exchange, Idle, Unsent, Unread, Ended, TooLong, Replied, ClientAsks, IsClientSent, StopsIn, IsCalled, result_of}
use Rattle.vx_client.specs.Swapped.{Swaps, IsSwapped, returned_by, settled_bad}
use Rattle.vx_client.specs.Calls.{IsFilled}
use Rattle.vx_client.specs.declared.answers.ClientErr.{ClientErr}
use Rattle.vx_client.specs.declared.answers.ClientErr.TheVariants as err
use Rattle.vx_client.specs.declared.settling.Answer.{Answer}
use Rattle.vx_client.specs.declared.settling.Settled.{Settled}
use Rattle.vx_client.proofs.Laws.Meanings.{returned-settled}

-- the client after an exchange, by what that left in the inbox
pub record Follows {L : Type 0} (receives sends : L → ℕ) (old new : ClientState L) (s : InboxState) : Type 0 where
  pub was : old.spent ≡ false
  pub next : new.next ≡ number_after old.next
  pub last : new.last ≡ last_of s.reply
  pub kept : new.kept ≡ s.kept
  pub receives_counted : receives old.link ≤ receives new.link
  pub sends_counted : sends old.link ≤ sends new.link

-- what was swapped is what a call asked
asks-swapped : {L : Type 0} (stands : L → List ℕ → List ℕ → Type 0) (left : L → Option (List ℕ)) (old new : ClientState L) (call : Call)
    (Came Came' : List ℕ → List ℕ → Type 0) → ((stream got : List ℕ) → Came stream got → Came' stream got)
    → Swaps stands left old.link new.link old.kept (call_record old.next call) Came → ClientAsks stands left old new call Came'
asks-swapped stands left old new call Came Came' same swap = record { got = swap.got; moved = swap.moved; came = same (old.kept ++ swap.got) swap.got swap.came }

-- an exchange without a reply is a call that leaves the client spent
pub called-failed : {L X : Type 0} (stands : L → List ℕ → List ℕ → Type 0) (left : L → Option (List ℕ)) (receives sends : L → ℕ) (old new : ClientState L)
    (call : Call) (room : ℕ) (view : Outcome → X) (s : InboxState) (e : ClientErr) (result : Result X ClientErr) → Follows receives sends old new s → new.spent ≡ true
    → IsSwapped stands left receives sends old.link new.link old.kept s (call_record old.next call) (Err e) → result ≡ Err e
    → IsCalled stands left receives sends old new call room view result
called-failed stands left receives sends old new call room view s err.WriteFault result f spent swapped answer = record {
  how = Unsent;
  exchanged = (record { was = f.was; spent = spent; last = f.last ∙ swapped.2; next = f.next }, swapped.0, swapped.1);
  answer = answer;
  receives_counted = f.receives_counted;
  sends_counted = f.sends_counted;
}
called-failed stands left receives sends old new call room view s err.ReadFault result f spent swapped answer = record {
  how = Unread;
  exchanged = (record { was = f.was; spent = spent; last = f.last ∙ swapped.1; next = f.next }, asks-swapped stands left old new call _ _ (λ stream got h. h) swapped.0);
  answer = answer;
  receives_counted = f.receives_counted;
  sends_counted = f.sends_counted;
}
called-failed stands left receives sends old new call room view s err.Closed result f spent swapped answer = record {
  how = Ended;
  exchanged = (record { was = f.was; spent = spent; last = f.last ∙ swapped.1; next = f.next }, asks-swapped stands left old new call _ _ (λ stream got h. h) swapped.0);
  answer = answer;
  receives_counted = f.receives_counted;
  sends_counted = f.sends_counted;
}
called-failed stands left receives sends old new call room view s (err.BadReply n) result f spent swapped answer = record {
  how = TooLong;
  exchanged = (record { was = f.was; spent = spent; last = f.last ∙ swapped.2; next = f.next }, asks-swapped stands left old new call _ _ (λ stream got h. h) swapped.1);
  answer = answer ∙ ap (λ k. Err (err.BadReply k)) swapped.0;
  receives_counted = f.receives_counted;
  sends_counted = f.sends_counted;
}
called-failed stands left receives sends old new call room view s err.Spent result f spent swapped answer = absurd swapped
called-failed stands left receives sends old new call room view s (err.Device n) result f spent swapped answer = absurd swapped
called-failed stands left receives sends old new call room view s (err.Rpc r) result f spent swapped answer = absurd swapped

-- an exchange with a reply is a call that answers by it
pub called-replied : {L X : Type 0} (stands : L → List ℕ → List ℕ → Type 0) (left : L → Option (List ℕ)) (receives sends : L → ℕ) (old new : ClientState L)
    (call : Call) (room : ℕ) (view : Outcome → X) (s : InboxState) (done : Unit {0}) (result : Result X ClientErr) → Follows receives sends old new s
    → new.spent ≡ is_bad (meaning old.next call room (last_of s.reply))
    → IsSwapped stands left receives sends old.link new.link old.kept s (call_record old.next call) (Ok done)
    → result ≡ returned view (length (last_of s.reply)) (meaning old.next call room (last_of s.reply))
    → IsCalled stands left receives sends old new call room view result
called-replied stands left receives sends old new call room view s done result f spent swapped answer =
    let kept_is : last_of s.reply ≡ s.reply.kept = ap (λ k. last_at k s.reply.kept) swapped.1 in
    record {
      how = Replied (last_of s.reply);
      exchanged = (
        record { was = f.was; spent = spent; last = f.last; next = f.next },
        asks-swapped stands left old new call (λ stream got. IsReply stream s.reply.kept s.kept) (λ stream got. IsReply stream (last_of s.reply) new.kept)
            (λ stream got h. subst (λ r. IsReply stream r new.kept) (sym kept_is) (subst (λ k. IsReply stream s.reply.kept k) (sym f.kept) h)) swapped.0,
      );
      answer = answer;
      receives_counted = f.receives_counted;
      sends_counted = f.sends_counted;
    }

-- what a call returns by what its reply came to
pub answer-settled : (xid room len : ℕ) (call : Call) (bytes last : List ℕ) (settled : Settled) (result : Result Answer ClientErr) → bytes ≡ last → len ≡ length bytes
    → settled ≡ settled_of (meaning xid call room bytes) → result ≡ returned_by len settled → result ≡ returned answer_of (length last) (meaning xid call room last)
answer-settled xid room len call bytes last settled result bytes_is len_is settled_is result_is =
    result_is ∙ ap (returned_by len) settled_is ∙ returned-settled len (meaning xid call room bytes)
    ∙ ap (λ k. returned answer_of k (meaning xid call room bytes)) len_is
    ∙ ap (λ bs. returned answer_of (length bs) (meaning xid call room bs)) bytes_is

bad-settled : (m : Meaning) → settled_bad (settled_of m) ≡ is_bad m
bad-settled (Done o) = refl
bad-settled (Failed n) = refl
bad-settled (Refused r) = refl
bad-settled Bad = refl

pub spent-settled : (xid room : ℕ) (call : Call) (bytes last : List ℕ) (settled : Settled) → bytes ≡ last → settled ≡ settled_of (meaning xid call room bytes)
    → settled_bad settled ≡ is_bad (meaning xid call room last)
spent-settled xid room call bytes last settled bytes_is settled_is =
    ap settled_bad settled_is ∙ bad-settled (meaning xid call room bytes) ∙ ap (λ bs. is_bad (meaning xid call room bs)) bytes_is

filled-at : (len : ℕ) (m : Meaning) (old new : List ℕ) → new ≡ written old m → IsFilled m old new (returned answer_of len m)
filled-at len (Done o) old new h = h
filled-at len (Failed n) old new h = h
filled-at len (Refused r) old new h = h
filled-at len Bad old new h = h

-- what stands in the room by what the reply came to
pub filled-settled : (xid room len : ℕ) (call : Call) (bytes last old new : List ℕ) (result : Result Answer ClientErr) → bytes ≡ last
    → new ≡ written old (meaning xid call room bytes) → result ≡ returned answer_of len (meaning xid call room last) → IsFilled (meaning xid call room last) old new result
filled-settled xid room len call bytes last old new result bytes_is new_is result_is =
    subst (IsFilled (meaning xid call room last) old new) (sym result_is)
    (filled-at len (meaning xid call room last) old new (new_is ∙ ap (λ bs. written old (meaning xid call room bs)) bytes_is))

-- ---- a call that takes a part of what another returns

returned-part : {A X : Type 0} (view : Outcome → A) (f : A → X) (len : ℕ) (m : Meaning) (a : A) → returned view len m ≡ Ok a → returned (λ o. f (view o)) len m ≡ Ok (f a)
returned-part view f len (Done o) a h = let e : view o ≡ a = cc in ap (λ x. Ok (f x)) e
returned-part view f len (Failed n) a h = absurd (cc)
returned-part view f len (Refused r) a h = absurd (cc)
returned-part view f len Bad a h = absurd (cc)

result-part : {A X : Type 0} (view : Outcome → A) (f : A → X) (xid : ℕ) (call : Call) (room : ℕ) (how : Exchange) (a : A) → result_of view xid call room how ≡ Ok a
    → result_of (λ o. f (view o)) xid call room how ≡ Ok (f a)
result-part view f xid call room Idle a h = absurd (cc)
result-part view f xid call room Unsent a h = absurd (cc)
result-part view f xid call room Unread a h = absurd (cc)
result-part view f xid call room Ended a h = absurd (cc)
result-part view f xid call room TooLong a h = absurd (cc)
result-part view f xid call room (Replied reply) a h = returned-part view f (length reply) (meaning xid call room reply) a h

returned-error : {A X : Type 0} (view : Outcome → A) (other : Outcome → X) (len : ℕ) (m : Meaning) (e : ClientErr) → returned view len m ≡ Err e → returned other len m ≡ Err e
returned-error view other len (Done o) e h = absurd (cc)
returned-error view other len (Failed n) e h = let k : err.Device n ≡ e = cc in ap Err k
returned-error view other len (Refused r) e h = let k : err.Rpc r ≡ e = cc in ap Err k
returned-error view other len Bad e h = let k : err.BadReply len ≡ e = cc in ap Err k

result-error : {A X : Type 0} (view : Outcome → A) (other : Outcome → X) (xid : ℕ) (call : Call) (room : ℕ) (how : Exchange) (e : ClientErr)
    → result_of view xid call room how ≡ Err e → result_of other xid call room how ≡ Err e
result-error view other xid call room Idle e h = let k : err.Spent ≡ e = cc in ap Err k
result-error view other xid call room Unsent e h = let k : err.WriteFault ≡ e = cc in ap Err k
result-error view other xid call room Unread e h = let k : err.ReadFault ≡ e = cc in ap Err k
result-error view other xid call room Ended e h = let k : err.Closed ≡ e = cc in ap Err k
result-error view other xid call room TooLong e h = let k : err.BadReply (REPLY_MAX + 1) ≡ e = cc in ap Err k
result-error view other xid call room (Replied reply) e h = returned-error view other (length reply) (meaning xid call room reply) e h

-- at an Ok it takes a part of the value
pub called-part : {L A X : Type 0} (stands : L → List ℕ → List ℕ → Type 0) (left : L → Option (List ℕ)) (receives sends : L → ℕ) (old new : ClientState L)
    (call : Call) (room : ℕ) (view : Outcome → A) (f : A → X) (a : A) → IsCalled stands left receives sends old new call room view (Ok a)
    → IsCalled stands left receives sends old new call room (λ o. f (view o)) (Ok (f a))
called-part stands left receives sends old new call room view f a called = record {
  how = called.how;
  exchanged = called.exchanged;
  answer = sym (result-part view f old.next call room called.how a (sym called.answer));
  receives_counted = called.receives_counted;
  sends_counted = called.sends_counted;
}

-- an error is the same
pub called-error : {L A X : Type 0} (stands : L → List ℕ → List ℕ → Type 0) (left : L → Option (List ℕ)) (receives sends : L → ℕ) (old new : ClientState L)
    (call : Call) (room : ℕ) (view : Outcome → A) (other : Outcome → X) (e : ClientErr) (result : Result X ClientErr)
    → IsCalled stands left receives sends old new call room view (Err e) → result ≡ Err e
    → IsCalled stands left receives sends old new call room other result
called-error stands left receives sends old new call room view other e result called result_is = record {
  how = called.how;
  exchanged = called.exchanged;
  answer = result_is ∙ sym (result-error view other old.next call room called.how e (sym called.answer));
  receives_counted = called.receives_counted;
  sends_counted = called.sends_counted;
}

-- ---- a call that was sent and a reply that was read

-- a sending that answered no error is whole
pub sent-ok : {L E : Type 0} (stands : L → List ℕ → List ℕ → Type 0) (sends : L → ℕ) (old new : L) (text : List ℕ) (r : Result (Unit {0}) E) → is_err r ≡ false
    → IsClientSent stands sends old new text r → Goes stands old new text []
sent-ok stands sends old new text (Ok done) h sent = sent
sent-ok stands sends old new text (Err failed) h sent = absurd (cc)

-- a sending that answered an error broke off
pub sent-err : {L E : Type 0} (stands : L → List ℕ → List ℕ → Type 0) (sends : L → ℕ) (old new : L) (text sent_text : List ℕ) (r : Result (Unit {0}) E) → sent_text ≡ text
    → is_err r ≡ true → IsClientSent stands sends old new sent_text r → StopsIn stands sends old new text
sent-err stands sends old new text sent_text (Ok done) is h sent = absurd (cc)
sent-err stands sends old new text sent_text (Err failed) is h sent = subst (StopsIn stands sends old new) is sent

-- sending a text and then receiving bytes moves both
pub swaps-of : {L : Type 0} (stands : L → List ℕ → List ℕ → Type 0) (left : L → Option (List ℕ)) (old mid new : L) (kept text sent got : List ℕ)
    (Came : List ℕ → List ℕ → Type 0) → sent ≡ text → Goes stands old mid sent [] → Keeps (left old) (left mid) → Gave stands left mid new got → Came (kept ++ got) got
    → Swaps stands left old new kept text Came
swaps-of stands left old mid new kept text sent got Came sent_is goes keeps gave came = record {
  got = got;
  moved = record {
    goes = subst (λ xs. Goes stands old new xs got) (append-nil sent ∙ sent_is) (Goes-goes stands old mid new sent [] [] got goes gave.goes);
    given = Consumes-trans (left old) (left mid) (left new) [] got (keeps-consumes (left old) (left mid) keeps) gave.given;
  };
  came = came;
}
