-- A client over a link to a gateway is between calls, from the first one on.
use Rattle.std.proofs.Common.{◌≡◌, ◌≤◌, ℕ, false, List, [], ◌∷◌, ◌++◌, length, Option, Some, None, refl, sym, ap, ◌∙◌, subst, arith, append_assoc, append-nil}
use Rattle.std.proofs.lemmas.Bool.{true≢false}
use Rattle.std.proofs.lemmas.List.{length-append}
use Rattle.vx_calls.specs.declared.limits.TheConstants.{RECORD_MAX}
use Rattle.vx_calls.specs.Call.{Call}
use Rattle.vx_client.specs.State.{ClientState}
use Rattle.vx_client.specs.Message.{message, call_record, IsSendable}
use Rattle.vx_client.specs.Stream.{IsReply}
use Rattle.vx_client.specs.Exchange as ends
use Rattle.vx_client.specs.Exchange.{Exchange, Replied, ClientAsks, Exchanged}
use Rattle.vx_client.proofs.Laws.Lengths.{arguments-short}
use Rattle.vx_loop.specs.Gateway.{Gateway, gateway_of}
use Rattle.vx_loop.specs.LoopState.{ServedState, LoopState, IsIdle}
use Rattle.vx_loop.specs.Exchanges as exchange
use Rattle.vx_loop.specs.Exchanges.{Exchanges, streams_of, replies_of}
use Rattle.vx_loop.specs.Standing.{Since, LoopStandsFor}
use Rattle.vx_loop.specs.Resting.{Sent, streams, IsLoopAnswered, FirstLaw, CallLaw, RestLaw}
use Rattle.vx_loop.proofs.Streams.{record-is-whole, whole-is-record, whole-some, record-whole, whole-unique}
use Rattle.vx_loop.proofs.Calling.{idle-since}
use Rattle.vx_loop.proofs.Going.{none-parts, flat-snoc}
use Rattle.vx_loop.proofs.Exchanged.{reply-whole, exchange-replies, still-by}

-- ---- counts of records on a stream

-- the bytes that came as exchanges, in front of others, are records: at most as many as there are, and all of them where there
-- are as many
taken-count : (start reached : Gateway) (done : List exchange.Exchange) (part : List ℕ) (rs : List Sent) → Exchanges start done reached → streams_of done ++ part ≡ streams rs
    → (length done ≤ length rs) × (length rs ≤ length done → part ≡ [])
taken-count start reached [] part [] h is = (omega arith, λ all. is)
taken-count start reached [] part (r ∷ rs) h is = (omega arith, λ all. absurd (omega arith))
taken-count start reached (x ∷ xs) part [] (mid, first, more) is =
    let none = none-parts (streams_of (x ∷ xs)) part is in
    absurd (whole-some x.stream x.message (record-is-whole x.stream x.message first.whole) (none-parts x.stream (streams_of xs) none.0).0)
taken-count start reached (x ∷ xs) part (r ∷ rs) (mid, first, more) is =
    let cut = whole-unique x.stream r.stream (streams_of xs ++ part) (streams rs) x.message r.message (record-is-whole x.stream x.message first.whole) (record-is-whole r.stream r.message r.whole)
    (sym (append_assoc x.stream (streams_of xs) part) ∙ is) in
    let rest = taken-count mid reached xs part rs more cut.1 in
    (let n = rest.0 in omega arith, λ all. rest.1 (omega arith))

-- the replies of exchanges begin with these records: no more than there are, and nothing else where there are as many
given-count : (start reached : Gateway) (done : List exchange.Exchange) (rs : List Sent) (tail : List ℕ) → Exchanges start done reached → streams rs ++ tail ≡ replies_of done
    → (length rs ≤ length done) × (length done ≤ length rs → tail ≡ [])
given-count start reached [] [] tail h is = (omega arith, λ all. is)
given-count start reached (x ∷ xs) [] tail h is = (omega arith, λ all. absurd (omega arith))
given-count start reached [] (r ∷ rs) tail h is =
    let none = none-parts (streams (r ∷ rs)) tail is in
    absurd (whole-some r.stream r.message (record-is-whole r.stream r.message r.whole) (none-parts r.stream (streams rs) none.0).0)
given-count start reached (x ∷ xs) (r ∷ rs) tail (mid, first, more) is =
    let said = exchange-replies start mid x first in
    let cut = whole-unique r.stream x.reply (streams rs ++ tail) (replies_of xs) r.message said.0 (record-is-whole r.stream r.message r.whole) said.1
    (sym (append_assoc r.stream (streams rs) tail) ∙ is) in
    let rest = given-count mid reached xs rs tail more cut.1 in
    (let n = rest.0 in omega arith, λ all. rest.1 (omega arith))

-- as many calls as replies: the link is idle, and nothing stands behind the replies
pub record IsEven (l : LoopState) (tail : List ℕ) : Type 0 where
  pub s : ServedState
  pub serves : l.served ≡ Some s
  pub idle : IsIdle s
  pub none : tail ≡ []

pub even-idle : (l : LoopState) (taken given tail : List ℕ) (calls replies : List Sent) → LoopStandsFor l taken given → taken ≡ streams calls → given ≡ streams replies ++ tail
    → length calls ≡ length replies → IsEven l tail
even-idle l taken given tail calls replies (start, begins, since) taken_is given_is even = by l.served refl since where
  by : (o : Option ServedState) → l.served ≡ o → Since (gateway_of start.core) o taken given → IsEven l tail
  by None is w = absurd w
  by (Some s) is w =
      let came = taken-count (gateway_of start.core) w.reached w.done w.open_part calls w.exchanged (sym w.taken_is ∙ taken_is) in
      let gave = given-count (gateway_of start.core) w.reached w.done replies (tail ++ s.left) w.exchanged
      (sym (append_assoc (streams replies) tail s.left) ∙ ap (λ bs. bs ++ s.left) (sym given_is) ∙ w.given_is) in
      let a = came.0 in
      let b = gave.0 in
      let part = came.1 (omega arith) in
      let nothing = none-parts tail s.left (gave.1 (omega arith)) in
      record { s = s; serves = is; idle = (still-by w.reached s (replies_of w.done) w.open_part part nothing.1 w.stands).0; none = nothing.0 }

-- ---- the laws

pub rest-holds : RestLaw
rest-holds c h =
    let e = even-idle c.link h.taken h.given [] h.calls h.replies h.stands h.taken_is (h.given_is ∙ sym (append-nil (streams h.replies))) h.even in
    (e.s, record { serves = e.serves; idle = e.idle; fit = h.fit; none_kept = h.none_kept })

pub first-holds : FirstLaw
first-holds c s serves begins fit none = record {
  taken = [];
  given = [];
  stands = (s, begins, idle-since c.link.served s serves begins.idle);
  calls = [];
  replies = [];
  taken_is = refl;
  given_is = refl;
  even = refl;
  fit = fit;
  none_kept = none;
}

module _ (old new : ClientState LoopState) (asked : Call) (room : ℕ) (sendable : IsSendable asked) (h : IsLoopAnswered old) (fit : new.spent ≡ false) where
  abbrev call_text : List ℕ
  call_text = message old.next asked

  text-short : length call_text ≤ RECORD_MAX
  text-short = let args = arguments-short asked sendable in omega arith

  abbrev the_call : Sent
  the_call = record {
    stream = call_record old.next asked;
    message = call_text;
    whole = whole-is-record (call_record old.next asked) call_text (record-whole call_text text-short);
  }

  replied-on : (reply : List ℕ) → ClientAsks LoopStandsFor (λ l. None) old new asked (λ stream got. IsReply stream reply new.kept) → IsLoopAnswered new
  replied-on reply a =
      let came : IsReply a.got reply new.kept = subst (λ xs. IsReply (xs ++ a.got) reply new.kept) h.none_kept a.came in
      let front = reply-whole came.front reply came.whole came.shortest in
      let r : Sent = record { stream = came.front; message = reply; whole = whole-is-record came.front reply front } in
      let taken = h.taken ++ call_record old.next asked in
      let given = h.given ++ a.got in
      let stands : LoopStandsFor new.link taken given = a.moved.goes h.taken h.given h.stands in
      let calls = h.calls ++ the_call ∷ [] in
      let replies = h.replies ++ r ∷ [] in
      let taken_is : taken ≡ streams calls = ap (λ bs. bs ++ call_record old.next asked) h.taken_is ∙ sym (flat-snoc (λ (x : Sent). x.stream) h.calls the_call) in
      let cut : given ≡ streams replies ++ new.kept =
      ap (λ bs. bs ++ a.got) h.given_is ∙ ap (λ bs. streams h.replies ++ bs) came.cut ∙ sym (append_assoc (streams h.replies) came.front new.kept)
      ∙ ap (λ bs. bs ++ new.kept) (sym (flat-snoc (λ (x : Sent). x.stream) h.replies r)) in
      let calls_len = length-append h.calls (the_call ∷ []) in
      let replies_len = length-append h.replies (r ∷ []) in
      let even = h.even in
      let same : length calls ≡ length replies = omega arith in
      let none = (even-idle new.link taken given new.kept calls replies stands taken_is cut same).none in
      record {
        taken = taken;
        given = given;
        stands = stands;
        calls = calls;
        replies = replies;
        taken_is = taken_is;
        given_is = cut ∙ ap (λ bs. streams replies ++ bs) none ∙ append-nil (streams replies);
        even = same;
        fit = fit;
        none_kept = none;
      }

  called-on : (how : Exchange) → Exchanged LoopStandsFor (λ l. None) (λ l. l.receive_faults) (λ l. l.send_faults) old new asked room how → IsLoopAnswered new
  called-on ends.Idle e = absurd (true≢false (sym e.0 ∙ h.fit))
  called-on (Replied reply) e = replied-on reply e.1
  called-on _ e = absurd (true≢false (sym e.0.spent ∙ fit))

pub call-holds : CallLaw
call-holds old new asked room how sendable h exchanged fit = called-on old new asked room sendable h fit how exchanged
