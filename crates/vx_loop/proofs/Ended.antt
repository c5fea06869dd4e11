-- What a write over a link to a gateway comes to where it gets no reply.
use Rattle.std.proofs.Common.{◌≡◌, ◌≤◌, ◌<◌, ◌^◌, ℕ, true, false, List, [], ◌∷◌, ◌++◌, length, take, drop, Option, Some, None, IfSome, Result, Ok, Err, inl, inr, refl, sym, ap, ◌∙◌, subst, arith, append_assoc, append-nil}
use Rattle.std.specs.Prelude.{is_some, OnOk}
use Rattle.std.proofs.Math.Seq.{take-add}
use Rattle.std.proofs.lemmas.Bool.{false≢true, false_from_ne_true}
use Rattle.std.proofs.lemmas.List.{take-append-drop}
use Rattle.vx_calls.specs.declared.calls.Role.TheVariants as role
use Rattle.vx_calls.specs.declared.limits.TheConstants.{PIECE_MAX, RECORD_MAX, REPLY_MAX}
use Rattle.vx_calls.specs.Call.{Call}
use Rattle.vx_calls.specs.Call as call
use Rattle.vx_record.specs.declared.Feed.TheVariants as feed
use Rattle.vx_record.specs.Fragments.{record_of}
use Rattle.vx_record.specs.Records.{records}
use Rattle.vx_record.specs.Ends.{is_settled}
use Rattle.vx_record.specs.Buffer.{BufState, fed}
use Rattle.vx_rules.specs.Calls.{sets_end}
use Rattle.vx_flow.specs.Laws.{marked_bytes}
use Rattle.vx_record.proofs.Laws.{fed-append}
use Rattle.vx_codec.specs.Asked.{CallFits}
use Rattle.vx_exchange.specs.Meaning.{Junk, Asks as MeansAsks, meaning}
use Rattle.vx_client.specs.State.{ClientState}
use Rattle.vx_client.specs.Message.{message}
use Rattle.vx_client.specs.Stream.{IsClientOpen as IsOpenStream}
use Rattle.vx_client.specs.Inbox.{IsAll}
use Rattle.vx_client.specs.Meaning as said
use Rattle.vx_client.specs.Meaning.{returned, nothing_of}
use Rattle.vx_client.specs.Exchange.{Exchange, Ended, Replied, ClientAsks as Asked, Exchanged, result_of, IsCalled}
use Rattle.vx_client.specs.Ending.{SentFront, Not_yet, And_then, Received, None_yet, And_more, TellsCalls}
use Rattle.vx_client.specs.declared.answers.ClientErr.{ClientErr}
use Rattle.vx_client.specs.declared.answers.ClientErr.TheVariants as err
use Rattle.vx_client.proofs.Laws.Lengths.{arguments-short}
use Rattle.vx_loop.specs.Gateway.{Gateway, gateway_of}
use Rattle.vx_loop.specs.LoopState.{ServedState, LoopState}
use Rattle.vx_loop.specs.Exchanges as exchange
use Rattle.vx_loop.specs.Exchanges.{Exchanges, streams_of, replies_of}
use Rattle.vx_loop.specs.Serving.{lives}
use Rattle.vx_loop.specs.Standing.{IsNoCall, IsLoopOpen, IsAt, Went, Since, MarkedStands, IsLoopKept, IsDrained, IsLoopReady, IsUnanswered, IsLoopRefused, LivesAlike, LivesOn}
use Rattle.vx_loop.specs.Heard.{IsResting, IsHeard}
use Rattle.vx_loop.specs.Telling.{IsReceive, IsSend, FindsEnded, OnClosed, OnReadFault, OnWriteFault}
use Rattle.vx_loop.proofs.Streams.{first_buffer, record-is-whole, record-whole, open-front, front-more}
use Rattle.vx_loop.proofs.Calling.{IsLive, idle-since, marked-from}
use Rattle.vx_loop.proofs.Exchanged.{reply-settled, one-record, message-asks, got-reply, reply-heard}

-- ---- a front of a record that a link took

-- what a link is that took a part of a record since this start, and whose connection lives: it is ready for the rest
record IsFront (u : ServedState) (front : List ℕ) : Type 0 where
  ready : IsLoopReady u
  held : u.buffer ≡ fed first_buffer front

module _ (start : Gateway) (u : ServedState) (text : List ℕ) (n : ℕ) (short : length text ≤ RECORD_MAX) (less : n < length (record_of text))
    (w : Went start u (take n (record_of text)) []) (alive : lives (gateway_of u.core) ≡ true) where
  open_part : (fed first_buffer (take n (record_of text))).state ≡ feed.More
  open_part = front-more (record_of text) text n (record-whole text short) less

  open-at : (replied part : List ℕ) → take n (record_of text) ≡ part → IsAt w.reached u replied part → IsLoopOpen w.reached u part
  open-at replied part is (inl o) = o
  open-at replied part is (inr (inl h)) =
      absurd (open-front part [] (take n (record_of text)) h.come.message (record-is-whole part h.come.message h.come.whole) open_part (is ∙ sym (append-nil part)))
  open-at replied part is (inr (inr e)) = absurd (false≢true (sym e.down ∙ alive))

  front-by : (done : List exchange.Exchange) → Exchanges start done w.reached → take n (record_of text) ≡ streams_of done ++ w.open_part → u.left ≡ replies_of done
      → IsFront u (take n (record_of text))
  front-by [] h taken_is left_is =
      let o = open-at (replies_of w.done) w.open_part taken_is w.stands in
      record {
        ready = record { alive = alive; drained = record { answered = o.answered; none_left = left_is } };
        held = o.held ∙ ap (fed first_buffer) (sym taken_is);
      }
  front-by (x ∷ xs) (mid, first, more) taken_is left_is =
      absurd (open-front x.stream (streams_of xs ++ w.open_part) (take n (record_of text)) x.message (record-is-whole x.stream x.message first.whole) open_part
      (taken_is ∙ append_assoc x.stream (streams_of xs) w.open_part))

  is-front : IsFront u (take n (record_of text))
  is-front = front-by w.done w.exchanged w.taken_is w.given_is

module _ (start : Gateway) (text : List ℕ) (short : length text ≤ RECORD_MAX) where
  -- all sends of a front of a record took it
  sends-taken : (first now : LoopState) (n : ℕ) → Since start first.served [] [] → SentFront IsSend first (record_of text) now n
      → Since start now.served (take n (record_of text)) []
  sends-taken first now n w Not_yet = w
  sends-taken first now n w (And_then mid last done count front less told) =
      subst (λ bs. Since start last.served bs []) (sym (take-add done count (record_of text)))
      (told.0.0 start (take done (record_of text)) [] (sends-taken first mid done w front))

  -- one of them leaves a connection alive, and so do all
  send-alive : (o p : Option ServedState) (done : ℕ) → done < length (record_of text) → Since start o (take done (record_of text)) [] → LivesOn o p (drop done (record_of text)) → IsLive o
      → IsLive p
  send-alive None p done less w on alive = absurd w
  send-alive (Some u) None done less w on alive = absurd on
  send-alive (Some u) (Some v) done less w on alive = (on (is-front start u text done short less w alive).ready).1

  sends-alive : (first now : LoopState) (n : ℕ) → Since start first.served [] [] → IsLive first.served → SentFront IsSend first (record_of text) now n → IsLive now.served
  sends-alive first now n w alive Not_yet = alive
  sends-alive first now n w alive (And_then mid last done count front less told) =
      send-alive mid.served last.served done less (sends-taken first mid done w front) told.0.1 (sends-alive first mid done w alive front)

-- a receive ends no connection, and so do several
receive-alive : (o p : Option ServedState) → LivesAlike o p → IsLive o → IsLive p
receive-alive None p alike alive = absurd alive
receive-alive (Some s) None alike alive = absurd alike
receive-alive (Some s) (Some t) alike alive = alike ∙ alive

receives-alive : (first now : LoopState) → Received IsReceive first now → IsLive first.served → IsLive now.served
receives-alive first now None_yet alive = alive
receives-alive first now (And_more mid last count before one) alive = receive-alive mid.served last.served one.told.0 (receives-alive first mid before alive)

-- ---- a call that ended as closed

-- it got no reply before the end
ended-asks : (stands : LoopState → List ℕ → List ℕ → Type 0) (left : LoopState → Option (List ℕ)) (receives sends : LoopState → ℕ) (old new : ClientState LoopState) (c : Call)
    (how : Exchange) → Exchanged stands left receives sends old new c 0 how → result_of nothing_of old.next c 0 how ≡ Err err.Closed
    → Asked stands left old new c (λ stream got. IsOpenStream stream × IsAll left old.link got)
ended-asks stands left receives sends old new c Ended h is = h.1
ended-asks stands left receives sends old new c (Replied reply) h is = absurd (by (said.meaning old.next c 0 reply) is) where
  by : (m : said.Meaning) → returned nothing_of (length reply) m ≡ Err err.Closed → ⊥
  by (said.Done o) e = cc
  by (said.Failed n) e = cc
  by (said.Refused r) e = cc
  by said.Bad e = cc
ended-asks stands left receives sends old new c _ h is = absurd (cc)

-- A link took a whole record since this start, and is drained, and what it gave is no whole record: its connection has ended.
module _ (start : Gateway) (t : ServedState) (text got : List ℕ) (short : length text ≤ RECORD_MAX) (w : Went start t (record_of text) got) (k : IsLoopKept t) (d : IsDrained t)
    (unsettled : is_settled (records REPLY_MAX got) ≡ false) where
  down-at : (replied part : List ℕ) → record_of text ≡ part → IsAt w.reached t replied part → lives (gateway_of t.core) ≡ false
  down-at replied part is (inl o) =
      absurd (let both : feed.Whole ≡ feed.More =
      sym (record-whole text short).state ∙ ap (λ ps. (fed first_buffer ps).state) is ∙ ap (λ (b : BufState). b.state) (sym o.held) ∙ k.waits in cc)
  down-at replied part is (inr (inl h)) = absurd (false≢true (sym (ap is_some d.answered) ∙ h.pending))
  down-at replied part is (inr (inr e)) = e.down

  down-by : (done : List exchange.Exchange) → Exchanges start done w.reached → record_of text ≡ streams_of done ++ w.open_part → got ++ t.left ≡ replies_of done
      → lives (gateway_of t.core) ≡ false
  down-by [] h taken_is given_is = down-at (replies_of w.done) w.open_part taken_is w.stands
  down-by (x ∷ xs) (mid, first, more) taken_is given_is =
      let nothing_more = (one-record x xs mid w.reached text w.open_part short first.whole more taken_is).3 in
      let given : got ≡ x.reply =
      sym (append-nil got) ∙ ap (λ ys. got ++ ys) (sym d.none_left) ∙ given_is ∙ ap (λ ys. x.reply ++ ys) nothing_more ∙ append-nil x.reply in
      absurd (false≢true (sym unsettled ∙ ap (λ ys. is_settled (records REPLY_MAX ys)) given ∙ reply-settled start mid x first))

  has-ended : lives (gateway_of t.core) ≡ false
  has-ended = down-by w.done w.exchanged w.taken_is w.given_is

-- ---- one write

module _ (old new : ClientState LoopState) (lid io_timeout lock_timeout flags : ℕ) (bytes : List ℕ) (numbered : old.next < 2 ^ 32)
    (fits : CallFits (call.Write lid io_timeout lock_timeout flags bytes)) (small : length bytes ≤ PIECE_MAX) where
  abbrev asked_now : Call
  asked_now = call.Write lid io_timeout lock_timeout flags bytes

  abbrev text : List ℕ
  text = message old.next asked_now

  text-short : length text ≤ RECORD_MAX
  text-short = let args = arguments-short asked_now small in omega arith

  abbrev Called : Result (Unit {0}) ClientErr → Type 0
  Called r = IsCalled (MarkedStands old.link) (λ l. None) (λ l. l.receive_faults) (λ l. l.send_faults) old new asked_now 0 nothing_of r

  abbrev Told : Result (Unit {0}) ClientErr → Type 0
  Told r = TellsCalls IsReceive IsSend old.link new.link (record_of text) r

  -- the whole of its record leaves its connection alive
  whole-alive : (s : ServedState) (mid : LoopState) → IsResting old s → SentFront IsSend old.link (record_of text) mid (length (record_of text)) → lives (gateway_of s.core) ≡ true
      → IsLive mid.served
  whole-alive s mid rests front alive =
      sends-alive (gateway_of s.core) text text-short old.link mid (length (record_of text)) (idle-since old.link.served s rests.serves rests.idle)
      (subst IsLive (sym rests.serves) alive) front

  -- where it gave its results, this was heard
  pub piece-heard : (r : Result (Unit {0}) ClientErr) → IfSome old.link.served IsLoopKept → Called r → Told r
      → OnOk r ((s : ServedState) → IsResting old s → IsHeard old new lid (marked_bytes (sets_end flags) bytes) s)
  piece-heard (Err e) kept called told = tt
  piece-heard (Ok done) kept called told = λ s rests.
      (let g = got-reply (MarkedStands old.link) (λ l. None) (λ l. l.receive_faults) (λ l. l.send_faults) old new asked_now called.how done called.exchanged (sym called.answer) in
      reply-heard old new lid io_timeout lock_timeout flags bytes numbered fits small s (subst (λ o. IfSome o IsLoopKept) rests.serves kept) rests g new.link.served refl
      ((marked-from old.link new.link (record_of text) g.asks.got g.asks.moved.goes).1 s rests.serves rests.idle)
      (λ alive. receives-alive told.mid new.link told.received (whole-alive s told.mid rests told.whole alive)))

  -- where it ended as closed, it began where the connection had ended
  closed-by : (s : ServedState) (got : List ℕ) (o : Option ServedState) → new.link.served ≡ o → is_settled (records REPLY_MAX got) ≡ false
      → Since (gateway_of s.core) o (record_of text) got → IfSome o IsLoopKept → IfSome o IsDrained → (lives (gateway_of s.core) ≡ true → IsLive o) → FindsEnded new s
  closed-by s got None serves unsettled since kept drained lives_on = absurd since
  closed-by s got (Some t) serves unsettled since kept drained lives_on =
      let down = has-ended (gateway_of s.core) t text got text-short since kept drained unsettled in
      record {
        then_served = t;
        serves = serves;
        before = false_from_ne_true (lives (gateway_of s.core)) (λ alive. false≢true (sym down ∙ lives_on alive));
        now = down;
      }

  pub piece-closed : (r : Result (Unit {0}) ClientErr) → IfSome new.link.served IsLoopKept → Called r → Told r → OnClosed r ((s : ServedState) → IsResting old s → FindsEnded new s)
  piece-closed (Err err.Closed) kept called told = λ s rests.
      (let asks = ended-asks (MarkedStands old.link) (λ l. None) (λ l. l.receive_faults) (λ l. l.send_faults) old new asked_now called.how called.exchanged (sym called.answer) in
      let last = told.ends.last.told in
      closed-by s asks.got new.link.served refl (subst (λ xs. is_settled (records REPLY_MAX (xs ++ asks.got)) ≡ false) rests.none_kept asks.came.0.unsettled)
      ((marked-from old.link new.link (record_of text) asks.got asks.moved.goes).1 s rests.serves rests.idle) kept last.1
      (λ alive. receive-alive told.ends.before.served new.link.served last.0
      (receives-alive told.mid told.ends.before told.ends.received (whole-alive s told.mid rests told.whole alive))))
  piece-closed _ kept called told = tt

  -- a receive failed last
  pub piece-fault : (r : Result (Unit {0}) ClientErr) → Told r → OnReadFault r (IfSome new.link.served IsUnanswered)
  piece-fault (Err err.ReadFault) told = told.ends.last.told.2
  piece-fault _ told = tt

  -- over a client between calls no send of it failed: its record is a call
  is-call : IsNoCall (fed first_buffer (record_of text)) → ⊥
  is-call (inl long) = let both : feed.Whole ≡ feed.TooLong = sym (record-whole text text-short).state ∙ long in cc
  is-call (inr (whole, junk)) =
      let both : Junk ≡ MeansAsks old.next asked_now =
      sym junk ∙ ap (λ m. meaning m role.Core) (record-whole text text-short).kept ∙ message-asks old.next lid io_timeout lock_timeout flags bytes numbered fits in
      cc

  sent-by : (start : Gateway) (o : Option ServedState) (done : ℕ) → done < length (record_of text) → Since start o (take done (record_of text)) []
      → IfSome o (λ u. IsLoopRefused u (drop done (record_of text)) × (lives (gateway_of u.core) ≡ true)) → ⊥
  sent-by start None done less since last = absurd since
  sent-by start (Some u) done less w last =
      is-call (subst IsNoCall (ap (λ b. fed b (drop done (record_of text))) (is-front start u text done text-short less w last.1).held
      ∙ sym (fed-append first_buffer (take done (record_of text)) (drop done (record_of text))) ∙ ap (fed first_buffer) (take-append-drop done (record_of text))) last.0)

  pub piece-sent : (r : Result (Unit {0}) ClientErr) → Told r → OnWriteFault r ((s : ServedState) → IsResting old s → ⊥)
  piece-sent (Err err.WriteFault) told = λ s rests.
      sent-by (gateway_of s.core) told.before.served told.done told.more
      (sends-taken (gateway_of s.core) text text-short old.link told.before told.done (idle-since old.link.served s rests.serves rests.idle) told.front) told.last.1.0
  piece-sent _ told = tt

-- ---- facts of one answer of a call, and of the same answer given again

pub map-closed : {X : Type 0} (r q : Result X ClientErr) (P Q : Type 0) → q ≡ r → (P → Q) → OnClosed r P → OnClosed q Q
map-closed (Err err.Closed) q P Q same f p = subst (λ k. OnClosed k Q) (sym same) (f p)
map-closed _ q P Q same f p = subst (λ k. OnClosed k Q) (sym same) tt

pub map-broken : {X : Type 0} (r q : Result X ClientErr) (P Q : Type 0) → q ≡ r → (P → Q) → OnWriteFault r P → OnWriteFault q Q
map-broken (Err err.WriteFault) q P Q same f p = subst (λ k. OnWriteFault k Q) (sym same) (f p)
map-broken _ q P Q same f p = subst (λ k. OnWriteFault k Q) (sym same) tt
