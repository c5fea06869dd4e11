-- What a link stands for, as bytes come and go.
use Rattle.std.proofs.Common.{◌≡◌, ◌≢◌, ◌+◌, ◌≤◌, ◌<◌, ◌==◌, ℕ, zero, suc, Bool, true, false, cond, not, List, [], ◌∷◌, ◌++◌, ◌-◌, length, take, drop, Option, Some, None, ◌⊎◌, inl, inr, refl, sym, ap, ◌∙◌, subst, arith, append_assoc, append-nil, length-drop}
use Rattle.std.specs.Prelude.{is_some}
use Rattle.std.specs.Option.{option_and_then}
use Rattle.std.specs.List.{list_all, flat_map}
use Rattle.std.proofs.lemmas.Bool.{false≢true, and_from}
use Rattle.std.proofs.lemmas.Option.{none-some}
use Rattle.std.proofs.lemmas.Grind.{flat_map-append, common_steps}
use Rattle.std.proofs.lemmas.List.{length-append, length-take, take_all, take-append-drop, drop-take}
use Rattle.std.proofs.lemmas.List.Folds.{list_all-append}
use Rattle.vx_488.specs.Steps.{Step, Told, Cut}
use Rattle.vx_calls.specs.declared.calls.Role.TheVariants as role
use Rattle.vx_calls.specs.declared.limits.TheConstants.{RECORD_MAX}
use Rattle.vx_record.specs.declared.Feed.TheVariants as feed
use Rattle.vx_record.specs.Buffer.{BufState, fresh, fed, taken}
use Rattle.vx_record.proofs.Laws.{fed-append}
use Rattle.vx_sim.specs.SimState.{SimState}
use Rattle.vx_exchange.specs.Meaning.{Meaning, Junk, Asks, Aborts, meaning}
use Rattle.vx_exchange.specs.Meaning as meant
use Rattle.vx_lemmas.proofs.Laws.Lists.{find_filter-gone}
use Rattle.vx_rules.specs.State.{Pending, Connection, Tables, connection_at, pending_at, lives_as, has_role_of}
use Rattle.vx_flow.specs.Event.{Event, Arrive, Answer, Down}
use Rattle.vx_flow.specs.InterleavedState.{InterleavedState, Turn, turn_after}
use Rattle.vx_flow.specs.InterleavedStep.{interleaved_step}
use Rattle.vx_flow.specs.Sound.{IsSound}
use Rattle.vx_flow.proofs.Laws.{interleaved-frame}
use Rattle.vx_core.specs.CoreState.{CoreState}
use Rattle.vx_loop.specs.Gateway.{Gateway, gateway_of, BusGoes, told_by, moments, moments_from}
use Rattle.vx_loop.specs.LoopState.{ServedState}
use Rattle.vx_loop.specs.Exchanges.{Exchange, LoopAdds, IsRecord, IsLoopAnswered, Replies, IsExchange, Exchanges, of_turn, again, streams_of, replies_of}
use Rattle.vx_loop.specs.Standing.{IsLoopOpen, HasCome, IsWaiting, IsNoCall, GoesDown, EndsBy, never, refused, waited, unread, IsEnded, IsAt, Went, IsReached, IsLoopKept, TakesTo, WaitsTo, IsLoopReady, IsLoopRefused}
use Rattle.vx_loop.specs.Serving.{lives, IsReplied, IsLeft, Continues, CallsOn, LoopServes, IsFit}
use Rattle.vx_loop.proofs.Streams.{first_buffer, ends-record, taken-within, fed-taken, whole-some, record-is-whole}
use Rattle.vx_loop.proofs.Happening.{adds-none, adds-append, happens-adds, reached-more, reached-sound}
use Rattle.vx_loop.proofs.Turns.{life-stays}

-- ---- one exchange more

snoc : (a b c : Gateway) (xs : List Exchange) (x : Exchange) → Exchanges a xs b → IsExchange b x c → Exchanges a (xs ++ x ∷ []) c
snoc a b c [] x done more = (c, subst (λ g. IsExchange g x c) done more, refl)
snoc a b c (y ∷ ys) x done more = (done.0, done.1, snoc done.0 b c ys x done.2 more)

module _ {X : Type 0} (bytes_of : X → List ℕ) where
  -- the bytes of a list with one more at its end
  pub flat-snoc : (xs : List X) (x : X) → flat_map bytes_of (xs ++ x ∷ []) ≡ flat_map bytes_of xs ++ bytes_of x
  flat-snoc xs x = flat_map-append bytes_of xs (x ∷ []) ∙ ap (λ bs. flat_map bytes_of xs ++ bs) (append-nil (bytes_of x))

-- one more moment
moments-more : (from count : ℕ) → moments_from from (suc count) ≡ moments_from from count ++ (from + count) ∷ []
moments-more from zero = ap (λ n. n ∷ []) (omega arith)
moments-more from (suc count) =
    let behind : from + 1 + count ≡ from + suc count = omega arith in
    ap (λ ms. from ∷ ms) (moments-more (from + 1) count ∙ ap (λ n. moments_from (from + 1) count ++ n ∷ []) behind)

-- both parts of nothing
pub none-parts : (xs ys : List ℕ) → xs ++ ys ≡ [] → (xs ≡ []) × (ys ≡ [])
none-parts [] ys h = (refl, h)
none-parts (x ∷ xs) ys h = absurd (cc)

-- a connection has a call, or not
apart : (p : Option Pending) → is_some p ≡ true → p ≡ None → ⊥
apart p some none = false≢true (sym (ap is_some none) ∙ some)

-- a call that came had a byte
pub come-some : (reached : Gateway) (part : List ℕ) (xid polls : ℕ) (after : Gateway) → HasCome reached part xid polls after → part ≡ [] → ⊥
come-some reached part xid polls after h none = whole-some part h.message (record-is-whole part h.message h.whole) none

-- connection 1 lives, and no call of it waits
pub record IsFree (s : ServedState) : Type 0 where
  pub alive : lives (gateway_of s.core) ≡ true
  pub none : pending_at s.core.interleaved.state.tables 1 ≡ None

open-of : (reached : Gateway) (s : ServedState) (replied part : List ℕ) → IsFree s → IsAt reached s replied part → IsLoopOpen reached s part
open-of reached s replied part free (inl is_open) = is_open
open-of reached s replied part free (inr (inl waits)) = absurd (apart _ waits.pending free.none)
open-of reached s replied part free (inr (inr ended)) = absurd (false≢true (sym ended.down ∙ free.alive))

waiting-of : (reached : Gateway) (s : ServedState) (replied part : List ℕ) → is_some (pending_at s.core.interleaved.state.tables 1) ≡ true → IsAt reached s replied part
    → IsWaiting reached s part
waiting-of reached s replied part some (inl is_open) = absurd (apart _ some is_open.answered)
waiting-of reached s replied part some (inr (inl waits)) = waits
waiting-of reached s replied part some (inr (inr ended)) = absurd (apart _ some ended.answered)

-- ---- bytes that end no record

went-more : (start : Gateway) (taken given : List ℕ) (s : ServedState) (piece : List ℕ) → IsFree s
    → Went start s taken given → Went start (record s { buffer = fed s.buffer piece }) (taken ++ piece) given
went-more start taken given s piece free w =
    let is_open = open-of w.reached s (replies_of w.done) w.open_part free w.stands in
    record {
      done = w.done;
      reached = w.reached;
      open_part = w.open_part ++ piece;
      exchanged = w.exchanged;
      taken_is = ap (λ bs. bs ++ piece) w.taken_is ∙ append_assoc (streams_of w.done) w.open_part piece;
      given_is = w.given_is;
      stands = inl (record {
        same = is_open.same;
        answered = is_open.answered;
        held = ap (λ b. fed b piece) is_open.held ∙ sym (fed-append first_buffer w.open_part piece);
      });
    }

-- ---- a call that is polled, and answered

-- the state of the link behind a record
abbrev behind : CoreState SimState → ℕ → List ℕ → ServedState
behind core xid left = record { core = core; buffer = fresh RECORD_MAX; xid = xid; left = left }

-- and as it is seen, by its parts
abbrev pub seen : CoreState SimState → BufState → ℕ → (from to : ℕ) → List ℕ → ServedState
seen core buffer xid from to items = record { core = core; buffer = buffer; xid = xid; left = drop from (take to items) }

-- exchanges so far, and the stream behind them that is under way
record IsSoFar (start reached : Gateway) (done : List Exchange) (stream bytes given : List ℕ) : Type 0 where
  exchanged : Exchanges start done reached
  taken_is : bytes ≡ streams_of done ++ stream
  given_is : given ≡ replies_of done

module _ (start reached : Gateway) (done : List Exchange) (stream bytes given : List ℕ) (so_far : IsSoFar start reached done stream bytes given) (core : CoreState SimState) (xid : ℕ) (left : List ℕ) where
  -- one exchange more
  exchanged-on : (x : Exchange) → IsExchange reached x (gateway_of core) → x.stream ≡ stream → x.reply ≡ left → pending_at core.interleaved.state.tables 1 ≡ None
      → Went start (behind core xid left) bytes given
  exchanged-on x more stream_is reply_is answered = record {
    done = done ++ x ∷ [];
    reached = gateway_of core;
    open_part = [];
    exchanged = snoc start reached (gateway_of core) done x so_far.exchanged more;
    taken_is =
        so_far.taken_is ∙ ap (λ bs. streams_of done ++ bs) (sym stream_is) ∙ sym (flat-snoc (λ (y : Exchange). y.stream) done x)
        ∙ sym (append-nil (streams_of (done ++ x ∷ [])));
    given_is =
        ap (λ bs. bs ++ left) so_far.given_is ∙ ap (λ bs. replies_of done ++ bs) (sym reply_is) ∙ sym (flat-snoc (λ (y : Exchange). y.reply) done x);
    stands = inl (record { same = refl; answered = answered; held = refl });
  }

  module _ (sound : IsSound reached.interleaved) (before : Gateway) (polls : ℕ) (come : HasCome reached stream xid polls before) where
    abbrev came : ℕ
    came = reached.interleaved.state.moment

    both-turn : (more : List Event) → list_all of_turn more ≡ true → list_all of_turn (come.turn ++ more) ≡ true
    both-turn more is = list_all-append of_turn come.turn more ∙ and_from (list_all of_turn come.turn) (list_all of_turn more) come.turn_is is

    both-tell : (steps : List Step) (told : List ℕ) → moments steps ≡ told → moments (come.steps ++ steps) ≡ came ∷ (moments_from came polls ++ told)
    both-tell steps told is = flat_map-append told_by come.steps steps ∙ ap (λ ms. ms ++ moments steps) come.told_is ∙ ap (λ ms. came ∷ (moments_from came polls ++ ms)) is

    -- it was answered, after so many polls in all
    replied-on : (now in_all : ℕ) (dialed : Option Bool) → IsReplied before xid now dialed (gateway_of core) left → dialed ≢ Some true
        → moments_from came polls ++ now ∷ [] ≡ moments_from came in_all ++ again dialed now → now + 1 ≡ came + in_all → Went start (behind core xid left) bytes given
    replied-on now in_all dialed r not_up told last_is =
        let answer : List Event = Answer 1 now r.failed dialed r.level r.told ∷ [] in
        let group : List Event = (Arrive 1 come.asked came ∷ come.turn) ++ (r.turn ++ answer) in
        let steps = come.steps ++ r.steps in
        let x : Exchange = record { stream = stream; message = come.message; group = group; steps = steps; reply = left } in
        exchanged-on x
        (record {
          whole = come.whole;
          adds = adds-append reached before (gateway_of core) _ _ come.steps r.steps sound come.adds r.adds;
          replies = subst (λ n. Replies n came core.interleaved.state.moment group steps left) (sym come.asks) (
            r.told,
            subst (λ m. IsLoopAnswered come.asked r.told came m group steps) (sym r.moment)
                (record {
                  turn = come.turn ++ r.turn;
                  turn_is = both-turn r.turn r.turn_is;
                  failed = r.failed;
                  dialed = dialed;
                  level = r.level;
                  events = ap (λ es. Arrive 1 come.asked came ∷ es) (sym (append_assoc come.turn r.turn answer));
                  not_up = not_up;
                  polls = in_all;
                  told_is = both-tell r.steps (now ∷ []) r.told_is ∙ ap (λ ms. came ∷ ms) told;
                  last_is = last_is;
                }),
            r.left_is,
          );
          short = r.short;
        }) refl refl r.answered

    -- or it waits
    left-on : (now : ℕ) → IsLeft before now (gateway_of core) left → now ≡ came + polls → Went start (behind core xid left) bytes given
    left-on now l now_is =
        let at = l.moment in record {
          done = done;
          reached = reached;
          open_part = stream;
          exchanged = so_far.exchanged;
          taken_is = so_far.taken_is;
          given_is = ap (λ bs. given ++ bs) l.none_left ∙ append-nil given ∙ so_far.given_is;
          stands = inr (inl (record {
            sound = sound;
            polls = suc polls;
            come = record {
              message = come.message;
              asked = come.asked;
              turn = come.turn ++ l.turn;
              steps = come.steps ++ l.steps;
              whole = come.whole;
              asks = come.asks;
              adds = adds-append reached before (gateway_of core) _ _ come.steps l.steps sound come.adds l.adds;
              turn_is = both-turn l.turn l.turn_is;
              told_is =
                  both-tell l.steps (now ∷ []) l.told_is ∙ ap (λ n. came ∷ (moments_from came polls ++ n ∷ [])) now_is
                  ∙ ap (λ ms. came ∷ ms) (sym (moments-more came polls));
            };
            last_is = omega arith;
            pending = l.pending;
            fresh_is = refl;
            none_left = l.none_left;
          }));
        }

    -- a poll did either
    polled-on : (now : ℕ) → now ≡ came + polls → Continues before xid now (gateway_of core) left → Went start (behind core xid left) bytes given
    polled-on now now_is (inl r) =
        replied-on now (suc polls) None r (λ is. none-some true is)
        (ap (λ n. moments_from came polls ++ n ∷ []) now_is ∙ sym (moments-more came polls) ∙ sym (append-nil (moments_from came (suc polls)))) (omega arith)
    polled-on now now_is (inr l) = left-on now l now_is

-- the record that bytes end
pub record Ends (s : ServedState) (piece message : List ℕ) : Type 0 where
  pub waits : s.buffer.state ≡ feed.More
  pub some : 0 < length piece
  pub all : taken s.buffer piece ≡ length piece
  pub whole : (fed s.buffer piece).state ≡ feed.Whole
  pub kept : (fed s.buffer piece).kept ≡ message

module _ (start : Gateway) (given bytes : List ℕ) (s : ServedState) (core : CoreState SimState) (xid : ℕ) (left piece message : List ℕ) (w : Went start s bytes given)
    (sound : IsSound s.core.interleaved) (free : IsFree s) (nothing : s.left ≡ []) (e : Ends s piece message) where
  abbrev is_open_now : IsLoopOpen w.reached s w.open_part
  is_open_now = open-of w.reached s (replies_of w.done) w.open_part free w.stands

  stream_whole : IsRecord (w.open_part ++ piece) message
  stream_whole = subst (IsRecord (w.open_part ++ piece)) e.kept (ends-record w.open_part piece s.buffer is_open_now.held e.waits e.some e.all e.whole)

  so_far_now : IsSoFar start w.reached w.done (w.open_part ++ piece) (bytes ++ piece) given
  so_far_now = record {
    exchanged = w.exchanged;
    taken_is = ap (λ bs. bs ++ piece) w.taken_is ∙ append_assoc (streams_of w.done) w.open_part piece;
    given_is = sym (append-nil given) ∙ ap (λ bs. given ++ bs) (sym nothing) ∙ w.given_is;
  }

  served-by : (m : Meaning) → meaning message role.Core ≡ m → LoopServes (gateway_of s.core) m xid (gateway_of core) left
      → Went start (behind core xid left) (bytes ++ piece) given
  served-by (Asks number asked) is h =
      let here : gateway_of s.core ≡ w.reached = is_open_now.same in
      let calls : CallsOn w.reached number asked (gateway_of core) left = subst (λ g. CallsOn g number asked (gateway_of core) left) here h.1 in
      let now = w.reached.interleaved.state.moment in
      polled-on start w.reached w.done (w.open_part ++ piece) (bytes ++ piece) given so_far_now core xid left (subst (λ (g : Gateway). IsSound g.interleaved) here sound) calls.come 0
      (record {
        message = message;
        asked = asked;
        turn = [];
        steps = Cut ∷ Told now ∷ [];
        whole = stream_whole;
        asks = is ∙ ap (λ n. Asks n asked) (sym h.0);
        adds = happens-adds w.reached calls.come (Arrive 1 asked now ∷ []) (Cut ∷ Told now ∷ []) calls.arrives refl;
        turn_is = refl;
        told_is = refl;
      }) now (omega arith) (subst (λ n. Continues calls.come n now (gateway_of core) left) (sym h.0) calls.continues)
  served-by (meant.Answered text) is h =
      let x : Exchange = record { stream = w.open_part ++ piece; message = message; group = []; steps = []; reply = left } in
      let here : gateway_of core ≡ w.reached = h.0 ∙ is_open_now.same in
      let now : core.interleaved.state.moment ≡ w.reached.interleaved.state.moment = ap (λ (g : Gateway). g.interleaved.state.moment) here in
      exchanged-on start w.reached w.done (w.open_part ++ piece) (bytes ++ piece) given so_far_now core xid left x
      (record {
        whole = stream_whole;
        adds = subst (λ g. LoopAdds w.reached [] [] g) (sym here) (adds-none w.reached);
        replies = subst (λ n. Replies n w.reached.interleaved.state.moment core.interleaved.state.moment [] [] left) (sym is) (refl, refl, now, h.1);
        short = h.2;
      }) refl refl (ap (λ (g : Gateway). pending_at g.interleaved.state.tables 1) h.0 ∙ free.none)
  served-by _ is h = absurd h

-- ---- a call that is polled again

module _ (start : Gateway) (given bytes : List ℕ) (s : ServedState) (core : CoreState SimState) (left : List ℕ) (w : Went start s bytes given)
    (some : is_some (pending_at s.core.interleaved.state.tables 1) ≡ true) where
  abbrev waits_now : IsWaiting w.reached s w.open_part
  waits_now = waiting-of w.reached s (replies_of w.done) w.open_part some w.stands

  abbrev polled : ServedState
  polled = record s { core = core; left = left }

  so_far_waits : IsSoFar start w.reached w.done w.open_part bytes given
  so_far_waits = record {
    exchanged = w.exchanged;
    taken_is = w.taken_is;
    given_is = sym (append-nil given) ∙ ap (λ bs. given ++ bs) (sym waits_now.none_left) ∙ w.given_is;
  }

  with-buffer : Went start (behind core s.xid left) bytes given → Went start polled bytes given
  with-buffer h = subst (λ b. Went start (record polled { buffer = b }) bytes given) (sym waits_now.fresh_is) h

  -- a millisecond later
  went-polled : (now : ℕ) → now ≡ s.core.interleaved.state.moment + 1 → Continues (gateway_of s.core) s.xid now (gateway_of core) left → Went start polled bytes given
  went-polled now next h =
      let last = waits_now.last_is in
      with-buffer (polled-on start w.reached w.done w.open_part bytes given so_far_waits core s.xid left waits_now.sound (gateway_of s.core) waits_now.polls waits_now.come now (omega arith) h)

  -- its dial fails
  went-refused : (now : ℕ) → now ≡ s.core.interleaved.state.moment → IsReplied (gateway_of s.core) s.xid now (Some false) (gateway_of core) left → Went start polled bytes given
  went-refused now same r =
      let last = waits_now.last_is in
      with-buffer (replied-on start w.reached w.done w.open_part bytes given so_far_waits core s.xid left waits_now.sound (gateway_of s.core) waits_now.polls waits_now.come now waits_now.polls (Some false) r
      (λ is. cc) refl (omega arith))

-- ---- bytes that are given

give-stands : (reached : Gateway) (s : ServedState) (replied part rest : List ℕ) → (s.left ≡ [] → rest ≡ []) → IsAt reached s replied part → IsAt reached (record s { left = rest }) replied part
give-stands reached s replied part rest none (inl h) = inl (record { same = h.same; answered = h.answered; held = h.held })
give-stands reached s replied part rest none (inr (inl h)) =
    inr (inl (record { sound = h.sound; polls = h.polls; come = h.come; last_is = h.last_is; pending = h.pending; fresh_is = h.fresh_is; none_left = none h.none_left }))
give-stands reached s replied part rest none (inr (inr h)) =
    inr (inr (record { came = h.came; gone = h.gone; cut = h.cut; by_cause = h.by_cause; down = h.down; answered = h.answered; fresh_is = h.fresh_is }))

went-gave : (start : Gateway) (bytes given : List ℕ) (s : ServedState) (piece rest : List ℕ) → s.left ≡ piece ++ rest → Went start s bytes given
    → Went start (record s { left = rest }) bytes (given ++ piece)
went-gave start bytes given s piece rest cut w = record {
  done = w.done;
  reached = w.reached;
  open_part = w.open_part;
  exchanged = w.exchanged;
  taken_is = w.taken_is;
  given_is = append_assoc given piece rest ∙ ap (λ bs. given ++ bs) (sym cut) ∙ w.given_is;
  stands = give-stands w.reached s (replies_of w.done) w.open_part rest (λ none. (none-parts piece rest (sym cut ∙ none)).1) w.stands;
}

-- ---- what is kept of the gateway

-- what holds of it between calls of the link
pub record IsKeptGateway (g : Gateway) : Type 0 where
  pub reached : IsReached g.interleaved
  pub own : (u : Turn) → g.interleaved.turn ≡ Some u → u.connection ≡ 1
  pub calm : pending_at g.interleaved.state.tables 1 ≡ None → g.interleaved.turn ≡ None

pub kept-gateway : (s : ServedState) → IsLoopKept s → IsKeptGateway (gateway_of s.core)
kept-gateway s k = record { reached = k.reached; own = k.own; calm = k.calm }

-- a link that has nothing of the next record is kept where its gateway is
fresh-kept : (s : ServedState) → IsKeptGateway (gateway_of s.core) → s.buffer ≡ fresh RECORD_MAX → IsLoopKept s
fresh-kept s k is = record { limit = ap (λ (b : BufState). b.limit) is; waits = ap (λ (b : BufState). b.state) is; reached = k.reached; own = k.own; calm = k.calm }

pub fit-kept : (s : ServedState) → IsLoopKept s → IsFit (gateway_of s.core)
fit-kept s k = record { sound = reached-sound s.core.interleaved k.reached; own = k.own }

replied-kept : (before after : Gateway) (xid now : ℕ) (dialed : Option Bool) (left : List ℕ) → IsReached before.interleaved → IsReplied before xid now dialed after left
    → IsKeptGateway after
replied-kept before after xid now dialed left reached r = record {
  reached = reached-more before after _ r.steps reached r.adds;
  own = λ u is. absurd (none-some u (sym r.over ∙ is));
  calm = λ none. r.over;
}

continues-kept : (before after : Gateway) (xid now : ℕ) (left : List ℕ) → IsReached before.interleaved → Continues before xid now after left → IsKeptGateway after
continues-kept before after xid now left reached (inl r) = replied-kept before after xid now None left reached r
continues-kept before after xid now left reached (inr l) = record {
  reached = reached-more before after _ l.steps reached l.adds;
  own = l.own;
  calm = λ none. absurd (apart _ l.pending none);
}

continues-lives : (before after : Gateway) (xid now : ℕ) (left : List ℕ) → Continues before xid now after left → lives after ≡ lives before
continues-lives before after xid now left (inl r) = r.lives_on
continues-lives before after xid now left (inr l) = l.lives_on

-- what is served is kept, is a call or is answered, and leaves the connection
record IsServed (m : Meaning) (before after : Gateway) : Type 0 where
  kept : IsKeptGateway after
  call : m ≢ Junk
  lives_on : lives after ≡ lives before

serves-kept : (m : Meaning) (before after : Gateway) (xid : ℕ) (left : List ℕ) → IsKeptGateway before → LoopServes before m xid after left → IsServed m before after
serves-kept (meant.Answered text) before after xid left k h = record { kept = subst IsKeptGateway (sym h.0) k; call = λ is. cc; lives_on = ap lives h.0 }
serves-kept (Asks number asked) before after xid left k h =
    let now = before.interleaved.state.moment in
    let adds = happens-adds before h.1.come (Arrive 1 asked now ∷ []) (Cut ∷ Told now ∷ []) h.1.arrives refl in
    record {
      kept = continues-kept h.1.come after number now left (reached-more before h.1.come (Arrive 1 asked now ∷ []) (Cut ∷ Told now ∷ []) k.reached adds) h.1.continues;
      call = λ is. cc;
      lives_on = continues-lives h.1.come after number now left h.1.continues ∙ life-stays before.interleaved h.1.come.interleaved (Arrive 1 asked now) refl h.1.arrives.events;
    }
serves-kept _ before after xid left k h = absurd h

-- ---- the calls of a gateway that serves a link

-- a link that is ready lives on, and the bytes end no record that is refused
abbrev pub IsGood : ServedState → List ℕ → ServedState → Type 0
IsGood s bytes t = IsLoopReady s → (IsLoopRefused s bytes → ⊥) × (lives (gateway_of t.core) ≡ true)

-- bytes were fed, and no record ended
pub take-more : (s : ServedState) (piece : List ℕ) (took : ℕ) (b : BufState) → IsLoopKept s → IsFree s → took ≡ length piece
    → b ≡ fed s.buffer piece → b.state ≡ feed.More → b.limit ≡ s.buffer.limit
    → TakesTo s (record s { buffer = b }) (take took piece) × IsGood s piece (record s { buffer = b })
take-more s piece took b k free all fed_is waits limit = (
  record {
    kept = record { limit = limit ∙ k.limit; waits = waits; reached = k.reached; own = k.own; calm = k.calm };
    went = λ start bytes given w.
        subst (λ ps. Went start (record s { buffer = b }) (bytes ++ ps) given) (sym (ap (λ n. take n piece) all ∙ take_all (length piece) piece (omega arith)))
        (subst (λ c. Went start (record s { buffer = c }) (bytes ++ piece) given) (sym fed_is) (went-more start bytes given s piece free w));
  },
  λ ready. (not-ended (ap (λ (c : BufState). c.state) (sym fed_is) ∙ waits), free.alive),
)
  where
    not-ended : (fed s.buffer piece).state ≡ feed.More → IsLoopRefused s piece → ⊥
    not-ended more (inl long) = let both : feed.More ≡ feed.TooLong = sym more ∙ long in cc
    not-ended more (inr junk) = let both : feed.More ≡ feed.Whole = sym more ∙ junk.0 in cc

-- they ended a record, which was served
pub take-whole : (s : ServedState) (piece message : List ℕ) (took : ℕ) (b : BufState) (core : CoreState SimState) (xid : ℕ) (left : List ℕ) → IsLoopKept s
    → IsFree s → s.left ≡ [] → took ≡ taken s.buffer piece → 0 < took → (fed s.buffer piece).state ≡ feed.Whole
    → message ≡ (fed s.buffer piece).kept → b ≡ fresh RECORD_MAX → LoopServes (gateway_of s.core) (meaning message role.Core) xid (gateway_of core) left
    → TakesTo s (record { core = core; buffer = b; xid = xid; left = left }) (take took piece)
    × IsGood s piece (record { core = core; buffer = b; xid = xid; left = left })
take-whole s piece message took b core xid left k free nothing took_is some whole kept fresh_is h =
    let fed_part = fed-taken s.buffer piece in
    let part = take (taken s.buffer piece) piece in
    let len = length-take (taken s.buffer piece) piece in
    let most = taken-within s.buffer piece in
    let all : taken s.buffer part ≡ length part = fed_part.1 ∙ (omega arith) in
    let e : Ends s part message =
    record {
      waits = k.waits;
      some = omega arith;
      all = all;
      whole = ap (λ (c : BufState). c.state) fed_part.0 ∙ whole;
      kept = ap (λ (c : BufState). c.kept) fed_part.0 ∙ sym kept;
    } in
    let g = serves-kept (meaning message role.Core) (gateway_of s.core) (gateway_of core) xid left (kept-gateway s k) h in
    let new : BufState → ServedState = λ c. record { core = core; buffer = c; xid = xid; left = left } in (
      record {
        kept = fresh-kept (new b) g.kept fresh_is;
        went = λ start bytes given w.
            subst (λ c. Went start (new c) (bytes ++ take took piece) given) (sym fresh_is)
            (subst (λ n. Went start (new (fresh RECORD_MAX)) (bytes ++ take n piece) given) (sym took_is)
            (served-by start given bytes s core xid left part message w (reached-sound s.core.interleaved k.reached) free nothing e (meaning message role.Core) refl h));
      },
      λ ready. (not-refused (ap (λ m. meaning m role.Core) kept) g.call, g.lives_on ∙ free.alive),
    )
  where
    not-refused : meaning message role.Core ≡ meaning (fed s.buffer piece).kept role.Core → meaning message role.Core ≢ Junk → IsLoopRefused s piece → ⊥
    not-refused same live (inl long) = let both : feed.Whole ≡ feed.TooLong = sym whole ∙ long in cc
    not-refused same live (inr junk) = live (same ∙ junk.1)

module _ (s : ServedState) (core : CoreState SimState) (left : List ℕ) (k : IsLoopKept s) (some : is_some (pending_at s.core.interleaved.state.tables 1) ≡ true) where
  kept-on : IsKeptGateway (gateway_of core) → IsLoopKept (record s { core = core; left = left })
  kept-on g = record { limit = k.limit; waits = k.waits; reached = g.reached; own = g.own; calm = g.calm }

  -- a call was polled
  pub wait-on : (now : ℕ) → now ≡ s.core.interleaved.state.moment + 1 → Continues (gateway_of s.core) s.xid now (gateway_of core) left → WaitsTo s (record s { core = core; left = left })
  wait-on now next h = record {
    kept = kept-on (continues-kept (gateway_of s.core) (gateway_of core) s.xid now left k.reached h);
    went = λ start bytes given w. went-polled start given bytes s core left w some now next h;
    lives_on = continues-lives (gateway_of s.core) (gateway_of core) s.xid now left h;
  }

  -- its dial failed
  pub refuse-on : (now : ℕ) → now ≡ s.core.interleaved.state.moment → IsReplied (gateway_of s.core) s.xid now (Some false) (gateway_of core) left
      → WaitsTo s (record s { core = core; left = left })
  refuse-on now same r = record {
    kept = kept-on (replied-kept (gateway_of s.core) (gateway_of core) s.xid now (Some false) left k.reached r);
    went = λ start bytes given w. went-refused start given bytes s core left w some now same r;
    lives_on = r.lives_on;
  }

-- nothing was done, or several things one after the other
pub waits-none : (s : ServedState) → IsLoopKept s → WaitsTo s s
waits-none s k = record { kept = k; went = λ start bytes given w. w; lives_on = refl }

pub waits-trans : (a b c : ServedState) → WaitsTo a b → WaitsTo b c → WaitsTo a c
waits-trans a b c first second = record {
  kept = second.kept;
  went = λ start bytes given w. second.went start bytes given (first.went start bytes given w);
  lives_on = second.lives_on ∙ first.lives_on;
}

-- bytes were given
pub gives : (s : ServedState) (from to count : ℕ) (items into : List ℕ) → s.left ≡ drop from (take to items) → take count into ≡ take count (take (to - from) (drop from items))
    → count ≤ to - from → from ≤ to → (start : Gateway) (bytes given : List ℕ) → Went start s bytes given
    → Went start (record s { left = drop (from + count) (take to items) }) bytes (given ++ take count into)
gives s from to count items into left_is copied within order start bytes given w =
    let width : from + (to - from) ≡ to = omega arith in
    let shown : drop from (take to items) ≡ take (to - from) (drop from items) =
    ap (λ n. drop from (take n items)) (sym width) ∙ drop-take from (to - from) items in
    let piece = take count (drop from (take to items)) in
    let cut : s.left ≡ piece ++ drop (from + count) (take to items) =
    left_is ∙ sym (take-append-drop count (drop from (take to items))) ∙ ap (λ xs. piece ++ xs) (drop-more from count (take to items)) in
    subst (λ xs. Went start (record s { left = drop (from + count) (take to items) }) bytes (given ++ xs)) (ap (take count) shown ∙ sym copied)
    (went-gave start bytes given s piece (drop (from + count) (take to items)) cut w)
  where
    drop-more : (n m : ℕ) (xs : List ℕ) → drop m (drop n xs) ≡ drop (n + m) xs
    drop-more n m xs = grind (arith, common_steps)

-- ---- a connection that ends

-- what holds of the gateway behind its end
module _ (f g : InterleavedState) (own : (u : Turn) → f.turn ≡ Some u → u.connection ≡ 1) (h : interleaved_step f (Down 1) ≡ Some g) where
  down-turn : g.turn ≡ None
  down-turn = (interleaved-frame f g (Down 1) h).turn_is ∙ by f.turn own where
    by : (turn : Option Turn) → ((u : Turn) → turn ≡ Some u → u.connection ≡ 1) → turn_after turn (Down 1) ≡ None
    by None own = refl
    by (Some u) own = let one : (u.connection == 1) ≡ true = ap (λ n. n == 1) (own u refl) in ap (λ b. cond b None (Some u)) one

  down-gone : connection_at g.state.tables 1 ≡ None
  down-gone =
      ap (λ (t : Tables). connection_at t 1) (interleaved-frame f g (Down 1) h).tables
      ∙ find_filter-gone (λ (c : Connection). c.number == 1) (λ c. not (c.number == 1)) (λ c e. ap not e) f.state.tables.connections

  down-none : pending_at g.state.tables 1 ≡ None
  down-none = ap (λ o. option_and_then (λ (c : Connection). c.pending) o) down-gone

  down-lives : lives_as g.state.tables 1 role.Core ≡ false
  down-lives = ap (has_role_of role.Core) down-gone

-- the link goes on behind the end
went-ended : (start : Gateway) (s new : ServedState) (bytes given gone : List ℕ) (w : Went start s bytes given) → new.left ≡ s.left
    → IsEnded w.reached new (replies_of w.done) (w.open_part ++ gone) → Went start new (bytes ++ gone) given
went-ended start s new bytes given gone w left_is e = record {
  done = w.done;
  reached = w.reached;
  open_part = w.open_part ++ gone;
  exchanged = w.exchanged;
  taken_is = ap (λ bs. bs ++ gone) w.taken_is ∙ append_assoc (streams_of w.done) w.open_part gone;
  given_is = ap (λ bs. given ++ bs) left_is ∙ w.given_is;
  stands = inr (inr e);
}

-- the end of the connection over a core that nothing happened to
pub down-of : (old mid core : CoreState SimState) → mid ≡ old → interleaved_step mid.interleaved (Down 1) ≡ Some core.interleaved → BusGoes mid.bus (Cut ∷ []) core.bus
    → GoesDown (gateway_of old) (gateway_of core)
down-of old mid core same led bus =
    subst (λ (g : CoreState SimState). GoesDown (gateway_of g) (gateway_of core)) same (record { events = led; bus = bus })

-- the gateway behind the connection's end
abbrev pub gone_state : CoreState SimState → BufState → ℕ → List ℕ → ServedState
gone_state core buffer xid left = record { core = core; buffer = buffer; xid = xid; left = left }

module _ (s : ServedState) (core : CoreState SimState) (buffer : BufState) (xid : ℕ) (left : List ℕ) (k : IsLoopKept s) (left_is : left ≡ s.left)
    (down : GoesDown (gateway_of s.core) (gateway_of core)) (fresh_is : buffer ≡ fresh RECORD_MAX) where
  abbrev new_state : ServedState
  new_state = gone_state core buffer xid left

  gone-kept : IsLoopKept new_state
  gone-kept =
      let none = down-turn s.core.interleaved core.interleaved k.own down.events in
      let adds = happens-adds (gateway_of s.core) (gateway_of core) (Down 1 ∷ []) (Cut ∷ []) down refl in
      fresh-kept new_state
      (record {
        reached = reached-more (gateway_of s.core) (gateway_of core) (Down 1 ∷ []) (Cut ∷ []) k.reached adds;
        own = λ u is. absurd (none-some u (sym none ∙ is));
        calm = λ pending. none;
      }) fresh_is

  ended-by : (reached : Gateway) (replied came gone : List ℕ) → EndsBy reached replied came gone (gateway_of core) → IsEnded reached new_state replied (came ++ gone)
  ended-by reached replied came gone why = record {
    came = came;
    gone = gone;
    cut = refl;
    by_cause = why;
    down = down-lives s.core.interleaved core.interleaved k.own down.events;
    answered = down-none s.core.interleaved core.interleaved k.own down.events;
    fresh_is = λ none. fresh_is;
  }

  down-from : (reached : Gateway) → gateway_of s.core ≡ reached → GoesDown reached (gateway_of core)
  down-from reached same = subst (λ g. GoesDown g (gateway_of core)) same down

  -- the bytes of a send that failed ended a record that is too long, or that is no call
  pub refused-to : (piece : List ℕ) → IsFree s → IsLoopRefused s piece → TakesTo s new_state [] × IsLoopRefused s piece × (lives (gateway_of core) ≡ false)
  refused-to piece free refuses = (
    record {
      kept = gone-kept;
      went = λ start bytes given w.
          (let o = open-of w.reached s (replies_of w.done) w.open_part free w.stands in
          let at : fed s.buffer piece ≡ fed first_buffer (w.open_part ++ piece) = ap (λ b. fed b piece) o.held ∙ sym (fed-append first_buffer w.open_part piece) in
          went-ended start s new_state bytes given [] w left_is
          (ended-by w.reached (replies_of w.done) w.open_part [] (refused piece (subst IsNoCall at refuses) (down-from w.reached o.same))));
    },
    refuses,
    down-lives s.core.interleaved core.interleaved k.own down.events,
  )

  -- bytes came too early
  pub early-to : (gone : List ℕ) → (pending_at s.core.interleaved.state.tables 1 ≡ None → lives (gateway_of s.core) ≡ true) → 0 < length gone → is_some (pending_at s.core.interleaved.state.tables 1) ≡ true ⊎ 0 < length s.left
      → TakesTo s new_state gone × (lives (gateway_of core) ≡ false)
  early-to gone alive some busy = (
    record {
      kept = gone-kept;
      went = λ start bytes given w. went-ended start s new_state bytes given gone w left_is (by w.reached w.open_part (replies_of w.done) given w.given_is busy w.stands);
    },
    down-lives s.core.interleaved core.interleaved k.own down.events,
  )
    where
      reply-left : is_some (pending_at s.core.interleaved.state.tables 1) ≡ true ⊎ 0 < length s.left → pending_at s.core.interleaved.state.tables 1 ≡ None → 0 < length s.left
      reply-left (inl pending) none = absurd (apart _ pending none)
      reply-left (inr some) none = some

      by : (reached : Gateway) (part replied given : List ℕ) → given ++ s.left ≡ replied → is_some (pending_at s.core.interleaved.state.tables 1) ≡ true ⊎ 0 < length s.left
          → IsAt reached s replied part → IsEnded reached new_state replied (part ++ gone)
      by reached part replied given is busy (inl o) =
          ended-by reached replied part gone (unread given s.left (sym is) (reply-left busy o.answered) some (down-from reached o.same))
      by reached part replied given is busy (inr (inl w)) = ended-by reached replied part gone (waited s.xid w.polls (gateway_of s.core) w.come some down)
      by reached part replied given is busy (inr (inr e)) = absurd (false≢true (sym e.down ∙ alive e.answered))

-- more may have come behind the end
more-gone : (reached : Gateway) (replied came gone more : List ℕ) (now : Gateway) → EndsBy reached replied came gone now → EndsBy reached replied came (gone ++ more) now
more-gone reached replied came gone more now (never dead same) = never dead same
more-gone reached replied came gone more now (refused bytes why down) = refused bytes why down
more-gone reached replied came gone more now (waited xid polls last come some down) =
    let len = length-append gone more in waited xid polls last come (omega arith) down
more-gone reached replied came gone more now (unread given left is some early down) =
    let len = length-append gone more in unread given left is some (omega arith) down

-- behind its end bytes are let go
gone-by : (reached : Gateway) (s : ServedState) (replied part more : List ℕ) → lives (gateway_of s.core) ≡ false → pending_at s.core.interleaved.state.tables 1 ≡ None
    → IsAt reached s replied part → IsEnded reached s replied (part ++ more)
gone-by reached s replied part more gone none (inl o) = record {
  came = part;
  gone = more;
  cut = refl;
  by_cause = never (ap lives (sym o.same) ∙ gone) o.same;
  down = gone;
  answered = none;
  fresh_is = λ nothing. o.held ∙ ap (fed first_buffer) (none-parts part more nothing).0;
}
gone-by reached s replied part more gone none (inr (inl w)) = absurd (apart _ w.pending none)
gone-by reached s replied part more gone none (inr (inr e)) = record {
  came = e.came;
  gone = e.gone ++ more;
  cut = ap (λ bs. bs ++ more) e.cut ∙ append_assoc e.came e.gone more;
  by_cause = more-gone reached replied e.came e.gone more (gateway_of s.core) e.by_cause;
  down = gone;
  answered = none;
  fresh_is = λ nothing. e.fresh_is (none-parts part more nothing).0;
}

-- a link with a call that waits, or with bytes left to give, isn't ready
pub not-ready : (s : ServedState) → is_some (pending_at s.core.interleaved.state.tables 1) ≡ true ⊎ 0 < length s.left → IsLoopReady s → ⊥
not-ready s (inl pending) ready = apart _ pending ready.drained.answered
not-ready s (inr some) ready = let len = ap (λ (xs : List ℕ). length xs) ready.drained.none_left in absurd (omega arith)

-- there are bytes between two places
pub left-some : (from to : ℕ) (items : List ℕ) → from < to → to ≤ length items → 0 < length (drop from (take to items))
left-some from to items some within = let front = length-take to items in let rest = length-drop from (take to items) in omega arith

pub gone-on : (s : ServedState) (more : List ℕ) → IsLoopKept s → lives (gateway_of s.core) ≡ false → pending_at s.core.interleaved.state.tables 1 ≡ None → TakesTo s s more
gone-on s more k gone none = record {
  kept = k;
  went = λ start bytes given w. went-ended start s s bytes given more w refl (gone-by w.reached s (replies_of w.done) w.open_part more gone none w.stands);
}
