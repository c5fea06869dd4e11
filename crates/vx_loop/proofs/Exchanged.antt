-- What a write of a client that gave its results did in the gateway of its link.
use Rattle.std.proofs.Common.{◌≡◌, ◌-◌, ◌≤◌, ◌<◌, ◌^◌, ◌==◌, ℕ, Bool, true, false, cond, List, [], ◌∷◌, ◌++◌, length, take, Option, Some, None, Ok, inl, inr, refl, sym, ap, ◌∙◌, subst, arith, append_assoc, append-nil}
use Rattle.std.specs.Option.{option_map, option_and_then}
use Rattle.std.specs.List.{flat_map}
use Rattle.std.proofs.lemmas.Bool.{false≢true, eqb-true}
use Rattle.std.proofs.lemmas.Option.{same_Some}
use Rattle.std.proofs.lemmas.Grind.{flat_map-append}
use Rattle.vx_calls.specs.declared.calls.Role.TheVariants as role
use Rattle.vx_calls.specs.declared.calls.Proc.TheVariants as proc
use Rattle.vx_calls.specs.declared.codes.ErrorCode.{ErrorCode}
use Rattle.vx_calls.specs.declared.codes.ErrorCode.TheVariants as code
use Rattle.vx_calls.specs.declared.limits.TheConstants.{PIECE_MAX, RECORD_MAX, REPLY_MAX}
use Rattle.vx_calls.specs.ErrorCode.{error_number}
use Rattle.vx_calls.specs.Call.{Call}
use Rattle.vx_calls.specs.Call as call
use Rattle.vx_calls.specs.Reply.{Reply}
use Rattle.vx_calls.specs.Reply as reply
use Rattle.vx_rpc.specs.Spelling.{word}
use Rattle.vx_record.specs.Records.{Split, records}
use Rattle.vx_record.specs.Ends.{is_settled}
use Rattle.vx_record.specs.Buffer.{fed}
use Rattle.vx_488.specs.Heard.{heard}
use Rattle.vx_rules.specs.Calls.{sets_end}
use Rattle.vx_flow.specs.InterleavedState.{InterleavedState}
use Rattle.vx_flow.specs.Laws.{marked_bytes}
use Rattle.vx_rpc.specs.Wording.{success_message}
use Rattle.vx_rpc.specs.ReplyMeaning.{Success, reply_meaning}
use Rattle.vx_rpc.proofs.Laws.Sorted.{served-sorted, success-read}
use Rattle.vx_codec.specs.Row.{Contents, row_at, whole}
use Rattle.vx_codec.specs.Asked.{number, arguments, CallFits}
use Rattle.vx_codec.specs.Answered.{Outcome, Written, outcome_of, answered, results}
use Rattle.vx_codec.proofs.Laws.Rows.{field-again, field-written}
use Rattle.vx_codec.proofs.Laws.Written.{asked-again}
use Rattle.vx_record.specs.Fragments.{record_of}
use Rattle.vx_exchange.specs.Meaning.{Meaning, Asks, by_sorting, by_arguments, meaning}
use Rattle.vx_exchange.specs.Meaning as meant
use Rattle.vx_client.specs.State.{ClientState}
use Rattle.vx_client.specs.Message.{message, call_record}
use Rattle.vx_client.specs.Stream.{IsReply}
use Rattle.vx_client.specs.Meaning as said
use Rattle.vx_client.specs.Meaning.{error_of, is_bad, judged, can_be, results_meaning, returned, nothing_of}
use Rattle.vx_client.specs.Exchange.{Exchange, Replied, KeepsReply, ClientAsks as Asked, Exchanged, result_of}
use Rattle.vx_client.proofs.Laws.Lengths.{arguments-short}
use Rattle.vx_client.proofs.Laws.Meanings.{success-meaning}
use Rattle.vx_flow.specs.Event.{Event, Down}
use Rattle.vx_488.specs.Steps.{Step, Cut}
use Rattle.vx_loop.specs.Gateway.{Gateway, gateway_of}
use Rattle.vx_flow.specs.Frames.{moves_by}
use Rattle.vx_loop.specs.LoopState.{ServedState, LoopState, IsIdle}
use Rattle.vx_loop.specs.Exchanges as exchange
use Rattle.vx_loop.specs.Exchanges.{LoopAdds, IsRecord, Replies, IsExchange, Exchanges, streams_of, replies_of}
use Rattle.vx_loop.specs.Serving.{lives}
use Rattle.vx_loop.specs.Standing.{GoesDown, EndsBy, never, refused, waited, unread, IsAt, Went, Since, MarkedStands, IsLoopKept}
use Rattle.vx_loop.specs.Heard.{IsResting, IsHeard}
use Rattle.vx_loop.proofs.Streams.{first_buffer, IsWhole, whole-by, record-is-whole, whole-some, whole-wider, record-whole, record-settled, whole-unique, none-yet}
use Rattle.vx_loop.proofs.Happening.{adds-none, adds-append, happens-adds, reached-sound}
use Rattle.vx_loop.proofs.Going.{none-parts, come-some}
use Rattle.vx_loop.proofs.Calling.{IsLive}
use Rattle.vx_loop.proofs.Hearing.{IsOneCall, one-call, call-heard, call-replies}

-- ---- the one exchange of a record and its reply

-- a reply at the front of what came, no longer than a client takes, is a record that a connection may bring: those may be longer
pub reply-whole : (front reply : List ℕ) → (records REPLY_MAX front).records ≡ reply ∷ [] → is_settled (records REPLY_MAX (take (length front - 1) front)) ≡ false
    → IsWhole RECORD_MAX front reply
reply-whole [] reply whole shortest = absurd (let none : [] ≡ reply ∷ [] = ap (λ (s : Split). s.records) (sym (none-yet REPLY_MAX)) ∙ whole in cc)
reply-whole (x ∷ xs) reply whole shortest = whole-wider REPLY_MAX RECORD_MAX (x ∷ xs) reply (omega arith) (whole-by REPLY_MAX (x ∷ xs) reply (omega arith) shortest whole)

-- a reply is a record of one fragment
replied-record : (m : Meaning) (came now : ℕ) (group : List Event) (steps : List Step) (r : List ℕ) → Replies m came now group steps r
    → (text : List ℕ) × (r ≡ record_of text)
replied-record (meant.Answered text) came now group steps r h = (text, h.3)
replied-record (Asks xid asked) came now group steps r h = (success_message xid ++ results h.0, h.2)
replied-record _ came now group steps r h = absurd h

-- and a whole one
pub exchange-replies : (before after : Gateway) (x : exchange.Exchange) → IsExchange before x after → (text : List ℕ) × IsWhole RECORD_MAX x.reply text
exchange-replies before after x e =
    let text = replied-record _ _ _ x.group x.steps x.reply e.replies in
    let short = e.short in
    let len = ap (λ (ys : List ℕ). length ys) text.1 in
    (text.0, subst (λ ys. IsWhole RECORD_MAX ys text.0) (sym text.1) (record-whole text.0 (omega arith)))

-- which a client takes
pub reply-settled : (before after : Gateway) (x : exchange.Exchange) → IsExchange before x after → is_settled (records REPLY_MAX x.reply) ≡ true
reply-settled before after x e =
    let text = replied-record _ _ _ x.group x.steps x.reply e.replies in
    let short = e.short in
    let len = ap (λ (ys : List ℕ). length ys) text.1 in
    ap (λ ys. is_settled (records REPLY_MAX ys)) text.1 ∙ record-settled REPLY_MAX text.0 (omega arith) (omega arith)

-- where no byte came there was no exchange
no-more : (xs : List exchange.Exchange) (mid last : Gateway) → streams_of xs ≡ [] → Exchanges mid xs last → (last ≡ mid) × (replies_of xs ≡ [])
no-more [] mid last none more = (more, refl)
no-more (y ∷ ys) mid last none more =
    absurd (whole-some y.stream y.message (record-is-whole y.stream y.message more.1.whole) (none-parts y.stream (streams_of ys) none).0)

-- where one record came the first exchange was of it, and there was no other
pub one-record : (x : exchange.Exchange) (xs : List exchange.Exchange) (mid last : Gateway) (text part : List ℕ) → length text ≤ RECORD_MAX → IsRecord x.stream x.message
    → Exchanges mid xs last → record_of text ≡ streams_of (x ∷ xs) ++ part → (x.stream ≡ record_of text) × (part ≡ []) × (last ≡ mid) × (replies_of xs ≡ [])
one-record x xs mid last text part short is_whole more taken_is =
    let cut = whole-unique x.stream (record_of text) (streams_of xs ++ part) [] x.message text (record-is-whole x.stream x.message is_whole) (record-whole text short)
    (sym (append_assoc x.stream (streams_of xs) part) ∙ sym taken_is ∙ sym (append-nil (record_of text))) in
    let rest = none-parts (streams_of xs) part cut.1 in
    let none = no-more xs mid last rest.0 more in
    (cut.0, rest.1, none.0, none.1)

-- what happened from a gateway to another, behind an exchange, without a transfer
pub record IsStill (before : Gateway) (s : ServedState) : Type 0 where
  pub group : List Event
  pub steps : List Step
  pub adds : LoopAdds before group steps (gateway_of s.core)
  pub still : flat_map moves_by group ≡ []
  pub same : lives (gateway_of s.core) ≡ true → gateway_of s.core ≡ before

-- a whole record was exchanged for a whole reply, and the link is idle again
pub record IsExchanged (start : Gateway) (s : ServedState) (text reply behind : List ℕ) : Type 0 where
  pub x : exchange.Exchange
  pub mid : Gateway
  pub exchanged : IsExchange start x mid
  pub message_is : x.message ≡ text
  pub reply_is : IsWhole RECORD_MAX x.reply reply
  pub none_behind : behind ≡ []
  pub idle : IsIdle s
  pub after : IsStill mid s

still-same : (mid : Gateway) (s : ServedState) → gateway_of s.core ≡ mid → IsStill mid s
still-same mid s same = record { group = []; steps = []; adds = subst (λ g. LoopAdds mid [] [] g) (sym same) (adds-none mid); still = refl; same = λ alive. same }

pub still-by : (mid : Gateway) (s : ServedState) (replied part : List ℕ) → part ≡ [] → s.left ≡ [] → IsAt mid s replied part → IsIdle s × IsStill mid s
still-by mid s replied part none nothing (inl o) = (
  record { answered = o.answered; fresh_is = o.held ∙ ap (fed first_buffer) none; given = nothing },
  still-same mid s o.same,
)
still-by mid s replied part none nothing (inr (inl w)) = absurd (come-some mid part s.xid w.polls (gateway_of s.core) w.come none)
still-by mid s replied part none nothing (inr (inr e)) = (
  record { answered = e.answered; fresh_is = e.fresh_is none; given = nothing },
  by e.by_cause,
)
  where
    let_go : e.gone ≡ []
    let_go = (none-parts e.came e.gone (sym e.cut ∙ none)).1

    fell : GoesDown mid (gateway_of s.core) → IsStill mid s
    fell h = record {
      group = Down 1 ∷ [];
      steps = Cut ∷ [];
      adds = happens-adds mid (gateway_of s.core) (Down 1 ∷ []) (Cut ∷ []) h refl;
      still = refl;
      same = λ alive. absurd (false≢true (sym e.down ∙ alive));
    }

    by : EndsBy mid replied e.came e.gone (gateway_of s.core) → IsStill mid s
    by (never dead same) = still-same mid s same
    by (refused bytes why down) = fell down
    by (waited xid polls last come some down) = absurd (let len = ap (λ (xs : List ℕ). length xs) let_go in omega arith)
    by (unread given left is some more down) = absurd (let len = ap (λ (xs : List ℕ). length xs) let_go in omega arith)

module _ (start : Gateway) (s : ServedState) (text got reply behind : List ℕ) (short : length text ≤ RECORD_MAX) (w : Went start s (record_of text) got) (r : IsReply got reply behind) where
  front-whole : IsWhole RECORD_MAX r.front reply
  front-whole = reply-whole r.front reply r.whole r.shortest

  exchanged-by : (done : List exchange.Exchange) → Exchanges start done w.reached → record_of text ≡ streams_of done ++ w.open_part → got ++ s.left ≡ replies_of done
      → IsExchanged start s text reply behind
  exchanged-by [] h taken_is given_is =
      absurd (whole-some r.front reply front-whole (none-parts r.front behind (sym r.cut ∙ (none-parts got s.left given_is).0)).0)
  exchanged-by (x ∷ xs) (mid, first, more) taken_is given_is =
      let one = one-record x xs mid w.reached text w.open_part short first.whole more taken_is in
      let said = exchange-replies start mid x first in
      let given : r.front ++ (behind ++ s.left) ≡ x.reply ++ [] =
      sym (append_assoc r.front behind s.left) ∙ ap (λ ys. ys ++ s.left) (sym r.cut) ∙ given_is ∙ ap (λ ys. x.reply ++ ys) one.3 in
      let back = whole-unique r.front x.reply (behind ++ s.left) [] reply said.0 front-whole said.1 given in
      let left = none-parts behind s.left back.1 in
      let still = still-by w.reached s (replies_of w.done) w.open_part one.1 left.1 w.stands in
      record {
        x = x;
        mid = mid;
        exchanged = first;
        message_is = sym (record-is-whole x.stream x.message first.whole).kept ∙ ap (λ ys. (fed first_buffer ys).kept) one.0 ∙ (record-whole text short).kept;
        reply_is = subst (λ ys. IsWhole RECORD_MAX ys reply) back.0 front-whole;
        none_behind = left.0;
        idle = still.0;
        after = subst (λ g. IsStill g s) one.2 still.1;
      }

  pub one-exchange : IsExchanged start s text reply behind
  one-exchange = exchanged-by w.done w.exchanged w.taken_is w.given_is

-- ---- the call, and what its reply says

-- a call's message is read as the call
module _ (xid lid io_timeout lock_timeout flags : ℕ) (bytes : List ℕ) (numbered : xid < 2 ^ 32) (fits : CallFits (call.Write lid io_timeout lock_timeout flags bytes)) where
  abbrev the_write : Call
  the_write = call.Write lid io_timeout lock_timeout flags bytes

  pub message-asks : meaning (message xid the_write) role.Core ≡ Asks xid the_write
  message-asks = ap by_sorting (served-sorted role.Core proc.Write xid (arguments the_write) numbered refl) ∙ ap (by_arguments xid) (asked-again the_write fits)

-- the error of a write's results is the first word
written-error : (e n : ℕ) (o : Outcome) → e < 2 ^ 32 → answered proc.Write (word e ++ word n) ≡ Some o → error_of o ≡ e
written-error e n o small h =
    by (row_at (number ∷ []) (word n))
    (ap (λ found. whole (option_map (λ (f : Contents (number ∷ number ∷ []) × List ℕ). (outcome_of Written f.0, f.1))
    (option_and_then (λ (first : ℕ × List ℕ). option_map (λ (others : Contents (number ∷ []) × List ℕ). ((first.0, others.0), others.1)) (row_at (number ∷ []) first.1)) found)))
    (sym (field-again number e (word e) (word n) (field-written number e small))) ∙ h)
  where
    by : (found : Option (Contents (number ∷ []) × List ℕ))
        → whole (option_map (λ (f : Contents (number ∷ number ∷ []) × List ℕ). (outcome_of Written f.0, f.1)) (option_map (λ (others : Contents (number ∷ []) × List ℕ). ((e, others.0), others.1)) found)) ≡ Some o
        → error_of o ≡ e
    by None h = cc
    by (Some (v, [])) h = ap error_of (sym (same_Some _ o h))
    by (Some (v, b ∷ bs)) h = cc

-- the number of a code is a word, and only one has number 0
code-number : (e : ErrorCode) → (error_number e < 2 ^ 32) × (error_number e ≡ 0 → e ≡ code.Ok)
code-number code.Ok = (omega arith, λ h. refl)
code-number _ = (omega arith, λ h. absurd (omega arith))

-- results that are an answer have error 0
judged-done : (c : Call) (room : ℕ) (o d : Outcome) → judged c room o ≡ said.Done d → error_of o ≡ 0
judged-done c room o d h = by (can_be c room o) (error_of o == 0) refl h where
  by : (can zero : Bool) → (error_of o == 0) ≡ zero → cond can (cond zero (said.Done o) (said.Failed (error_of o))) said.Bad ≡ said.Done d → error_of o ≡ 0
  by true true is h = eqb-true (error_of o) 0 is
  by true false is h = absurd (cc)
  by false zero is h = absurd (cc)

results-done : (c : Call) (room : ℕ) (found : Option Outcome) (d : Outcome) → results_meaning c room found ≡ said.Done d → (o : Outcome) × (found ≡ Some o) × (error_of o ≡ 0)
results-done c room None d h = absurd (cc)
results-done c room (Some o) d h = (o, refl, judged-done c room o d h)

-- a call that returned its results had them
returned-done : {X : Type 0} (view : Outcome → X) (len : ℕ) (m : said.Meaning) (x : X) → returned view len m ≡ Ok x → (o : Outcome) × (m ≡ said.Done o)
returned-done view len (said.Done o) x h = (o, refl)
returned-done view len _ x h = absurd (cc)

-- it got a reply
pub record GotReply (stands : LoopState → List ℕ → List ℕ → Type 0) (left : LoopState → Option (List ℕ)) (old new : ClientState LoopState) (c : Call) : Type 0 where
  pub reply : List ℕ
  pub keeps : KeepsReply old new c 0 reply
  pub asks : Asked stands left old new c (λ stream got. IsReply stream reply new.kept)
  pub outcome : Outcome
  pub done : said.meaning old.next c 0 reply ≡ said.Done outcome

pub got-reply : (stands : LoopState → List ℕ → List ℕ → Type 0) (left : LoopState → Option (List ℕ)) (receives sends : LoopState → ℕ) (old new : ClientState LoopState) (c : Call)
    (how : Exchange) (done : Unit {0}) → Exchanged stands left receives sends old new c 0 how → result_of nothing_of old.next c 0 how ≡ Ok done → GotReply stands left old new c
got-reply stands left receives sends old new c (Replied reply) done h is =
    let found = returned-done nothing_of (length reply) (said.meaning old.next c 0 reply) done is in
    record { reply = reply; keeps = h.0; asks = h.1; outcome = found.0; done = found.1 }
got-reply stands left receives sends old new c _ done h is = absurd (cc)

-- ---- one write

module _ (old new : ClientState LoopState) (lid io_timeout lock_timeout flags : ℕ) (bytes : List ℕ) (numbered : old.next < 2 ^ 32)
    (fits : CallFits (call.Write lid io_timeout lock_timeout flags bytes)) (small : length bytes ≤ PIECE_MAX) (s : ServedState) (k : IsLoopKept s) (rests : IsResting old s) where
  abbrev asked_now : Call
  asked_now = call.Write lid io_timeout lock_timeout flags bytes

  message-short : length (message old.next asked_now) ≤ RECORD_MAX
  message-short = let args = arguments-short asked_now small in omega arith

  -- that got a reply, and behind which the connection lives if it lived
  pub reply-heard : (g : GotReply (MarkedStands old.link) (λ l. None) old new asked_now) (o : Option ServedState) → new.link.served ≡ o
      → Since (gateway_of s.core) o (call_record old.next asked_now) g.asks.got → (lives (gateway_of s.core) ≡ true → IsLive o)
      → IsHeard old new lid (marked_bytes (sets_end flags) bytes) s
  reply-heard g None serves since lives_on = absurd since
  reply-heard g (Some t) serves w lives_on =
      let came : IsReply g.asks.got g.reply new.kept = subst (λ xs. IsReply (xs ++ g.asks.got) g.reply new.kept) rests.none_kept g.asks.came in
      let e = one-exchange (gateway_of s.core) t (message old.next asked_now) g.asks.got g.reply new.kept message-short w came in
      let is : meaning e.x.message role.Core ≡ Asks old.next asked_now =
      ap (λ m. meaning m role.Core) e.message_is ∙ message-asks old.next lid io_timeout lock_timeout flags bytes numbered fits in
      let came = s.core.interleaved.state.moment in
      let now = e.mid.interleaved.state.moment in
      let replies : Replies (Asks old.next asked_now) came now e.x.group e.x.steps e.x.reply = subst (λ m. Replies m came now e.x.group e.x.steps e.x.reply) is e.exchanged.replies in
      let told = replies.0 in
      let one = one-call s.core.interleaved asked_now told came now e.x.group e.x.steps e.exchanged.adds.last k.reached (k.calm rests.idle.answered) replies.1 e.exchanged.adds.events in
      let kind = call-replies s.core.interleaved e.exchanged.adds.last e.x.group lid io_timeout lock_timeout flags bytes told one in
      let text = success_message old.next ++ results told in
      let short = e.exchanged.short in
      let len = ap (λ (ys : List ℕ). length ys) replies.2 in
      let reply_text : g.reply ≡ text =
      sym e.reply_is.kept ∙ ap (λ ys. (fed first_buffer ys).kept) replies.2 ∙ (record-whole text (omega arith)).kept in
      let reads : Success old.next (results told) ≡ reply_meaning g.reply = sym (ap reply_meaning reply_text ∙ success-read old.next (results told) numbered) in
      let means = success-meaning old.next old.next 0 asked_now g.reply (results told) proc.Write (answered proc.Write (results told)) reads refl refl refl in
      let had = results-done asked_now 0 (answered proc.Write (results told)) g.outcome (sym means ∙ g.done) in
      let error = kind.0.0 in
      let size = kind.0.1 in
      let read : answered proc.Write (word (error_number error) ++ word size) ≡ Some had.0 = ap (λ (r : Reply). answered proc.Write (results r)) (sym kind.0.2) ∙ had.1 in
      let zero = (code-number error).1 (sym (written-error (error_number error) size had.0 (code-number error).0 read) ∙ had.2) in
      let ok : told ≡ reply.Write code.Ok size = kind.0.2 ∙ ap (λ c. reply.Write c size) zero in
      let one_ok = subst (λ r. IsOneCall s.core.interleaved asked_now r e.x.group e.exchanged.adds.last) ok one in
      let moves : flat_map moves_by (e.x.group ++ e.after.group) ≡ flat_map moves_by e.x.group =
      flat_map-append moves_by e.x.group e.after.group ∙ ap (λ ms. flat_map moves_by e.x.group ++ ms) e.after.still ∙ append-nil (flat_map moves_by e.x.group) in
      record {
        then_served = t;
        rests = record {
          serves = serves;
          idle = e.idle;
          fit = g.keeps.spent ∙ ap is_bad g.done;
          none_kept = e.none_behind;
        };
        before = one.lives;
        alive = lives_on one.lives;
        links =
            ap (λ (h : Gateway). h.interleaved.state.tables.links) (e.after.same (lives_on one.lives)) ∙ ap (λ (f : InterleavedState). f.state.tables.links) e.exchanged.adds.at_now ∙ kind.1;
        hears = λ a device.
            (let heard_now = call-heard s.core.interleaved e.exchanged.adds.last e.x.group lid io_timeout lock_timeout flags size bytes a device.link one_ok device.live device.target in
            record {
              group = e.x.group ++ e.after.group;
              steps = e.x.steps ++ e.after.steps;
              adds = adds-append (gateway_of s.core) e.mid (gateway_of t.core) e.x.group e.after.group e.x.steps e.after.steps (reached-sound s.core.interleaved k.reached) e.exchanged.adds e.after.adds;
              here = ap (heard a s.core.interleaved.state.wire) moves ∙ heard_now.0;
              elsewhere = λ b ne. ap (heard b s.core.interleaved.state.wire) moves ∙ heard_now.1 b ne;
            });
      }
