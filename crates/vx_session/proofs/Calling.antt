-- A call of a session, from its coming to its answer: the groups that it adds, and the calls of the dial.
use Rattle.std.proofs.Common.{◌≡◌, ◌≤◌, ◌<◌, ◌+◌, ℕ, true, false, List, [], ◌∷◌, ◌++◌, length, take, count_by, cond, Option, Some, None, refl, sym, ap, ◌∙◌, subst, append_assoc, append-nil, arith}
use Rattle.std.proofs.lemmas.List.Elements.{All-head, All-tail}
use Rattle.std.proofs.lemmas.List.Sums.{sum_by-cons}
use Rattle.std.proofs.lemmas.Option.{none-some}
use Rattle.std.specs.List.{All}
use Rattle.vx_io_traits.specs.Faults.{Rose}
use Rattle.vx_io_traits.specs.Rung.{AddsCalls, OnDialFailed, is_up, dialed, handed}
use Rattle.vx_io_traits.specs.declared.dials.DialOut.{DialOut}
use Rattle.vx_io_traits.specs.declared.dials.DialOut.TheVariants as dialout
use Rattle.vx_io_traits.specs.declared.dials.Rang.{Rang}
use Rattle.vx_calls.specs.declared.calls.Role.TheVariants as role
use Rattle.vx_calls.specs.declared.codes.ErrorCode.{ErrorCode}
use Rattle.vx_calls.specs.Call.{Call}
use Rattle.vx_488.specs.Steps.{Step}
use Rattle.vx_488.specs.declared.bus.Bus.{Ghosts}
use Rattle.vx_core.specs.CoreState.{CoreState}
use Rattle.vx_session.specs.Origin.{Origin}
use Rattle.vx_gate.specs.PassView.{PassView}
use Rattle.vx_group.specs.Event.{Event}
use Rattle.vx_group.specs.Poll.{Ending, Waited, Dialed}
use Rattle.vx_group.specs.Groups.{Group}
use Rattle.vx_group.specs.Phases.{Idle}
use Rattle.vx_exchange.specs.declared.polls.PollEnd.{PollEnd}
use Rattle.vx_exchange.specs.declared.polls.PollEnd.TheVariants as said
use Rattle.vx_exchange.specs.declared.polls.DialAnswered.{DialAnswered}
use Rattle.vx_exchange.specs.Doing.{Says}
use Rattle.vx_exchange.proofs.Laws.{says-replied, says-waits, says-dial}
use Rattle.vx_session.specs.Placing.{Placed, Makes, IsHistory, behind}
use Rattle.vx_session.specs.Parts.{IsSessionPolled, moment_at, phase_behind, settled_events}
use Rattle.vx_session.specs.Turning.{phase_at, IsChannel, SessionComes, PollsAgain, Settles}
use Rattle.vx_session.proofs.Laws.{ispolled-all, makes-later, makes-goes, clocked-goes}
use Rattle.vx_session.specs.Dialing.{DialShown, RoseBy, is_failed_dial}
use Rattle.vx_session.specs.Serving.{IsCalled, SessionGoesOn, rings}
use Rattle.vx_session.specs.Progress.{Rings, Clocked, AnswersCall, AnswersDial, failed_dials}
use Rattle.vx_session.proofs.Laws.Progressing.{adds-none, adds-goes, failed_dials-append}

-- ---- how many dials of some groups failed

-- the events of a group alone
pub failed-one : (p : Placed) → failed_dials (p ∷ []) ≡ count_by is_failed_dial p.group.events
failed-one p = ap (count_by is_failed_dial) (append-nil p.group.events)

-- a sum of nothing and nothing
both-none : (all front rest : ℕ) → all ≡ front + rest → front ≡ 0 → rest ≡ 0 → all ≡ 0
both-none all front rest sum none_before none_behind = omega arith

-- where none is an answer behind a failed dial, none counts
none-failed : (events : List Event) → All (λ e. is_failed_dial e ≡ false) events → count_by is_failed_dial events ≡ 0
none-failed [] none = refl
none-failed (e ∷ es) none =
    both-none (count_by is_failed_dial (e ∷ es)) (cond (is_failed_dial e) 1 0) (count_by is_failed_dial es) (sum_by-cons (λ x. cond (is_failed_dial x) 1 0) e es)
    (ap (λ b. cond b 1 0) (All-head (λ x. is_failed_dial x ≡ false) e es none)) (none-failed es (All-tail (λ x. is_failed_dial x ≡ false) e es none))

-- groups without an answer behind a dial, for which the dial wasn't called
pub rings-still : (dial : DialShown) (groups : List Placed) → failed_dials groups ≡ 0 → Rings dial groups [] dial
rings-still dial groups none = record {
  told = adds-none dial.calls;
  failed = subst (λ n. RoseBy n dial.faults dial.faults) (sym none) (omega arith);
}

-- ---- a dial, and the answer of its call

-- the answer has a fault of its own where the dial failed
settled-failed : (p : Placed) (conn now : ℕ) (answer : DialOut) (error : ErrorCode) (before after : ℕ) → p.group.events ≡ settled_events conn now (is_up answer) error → before ≤ after
    → OnDialFailed answer (Rose before after) → RoseBy (failed_dials (p ∷ [])) before after
settled-failed p conn now answer error before after events counted failed =
    subst (λ n. RoseBy n before after) (sym (failed-one p ∙ ap (count_by is_failed_dial) events)) (by answer failed) where
      by : (a : DialOut) → OnDialFailed a (Rose before after) → RoseBy (count_by is_failed_dial (settled_events conn now (is_up a) error)) before after
      by dialout.Up h = omega arith
      by dialout.Failed h = h

module _ {B C : Type 0} (g : Origin B) (tells : C → ℕ → C → Type 0) (clock clock' : C) (told now : ℕ) (asked : tells clock now clock') (pass pass' : PassView Group) (conn xid : ℕ) (call : Call) (host port : ℕ) (room : List ℕ) where
  -- Its call was answered behind a dial: these are the calls of the dial, with those that handed a stream on.
  settled-so : (answer : DialOut) (answered : DialAnswered) (chan : Option ℕ) (old new : DialShown) → now ≤ told → Settles g now pass conn xid (is_up answer) room answered pass' → answered.chan ≡ chan
      → AddsCalls old.calls new.calls (rings conn host port (is_up answer) chan) → old.faults ≤ new.faults → OnDialFailed answer (Rose old.faults new.faults)
      → AnswersDial g (Clocked tells clock clock') told pass conn xid call host port old (take answered.len room) pass' new
  settled-so answer answered chan old new later settles is calls counted failed = record {
    placed = settles.placed ∷ [];
    rung = rings conn host port (is_up answer) chan;
    makes = makes-later now told pass pass' (settles.placed ∷ []) later settles.turns.makes;
    asks = (now, clock', asked, settles.keeps, refl);
    rings = record {
      told = calls;
      failed = settled-failed settles.placed conn (moment_at settles.placed now) answer answered.error old.faults new.faults settles.events counted failed;
    };
    holding = record {
      up = is_up answer;
      told = now;
      error = answered.error;
      chan = answered.chan;
      events = settles.events;
      steps = settles.steps;
      keeps = settles.keeps;
      error_is = settles.error_is;
      chan_is = settles.chan_is;
      rung = ap (rings conn host port (is_up answer)) (sym is);
      reply_is = settles.stands.record_is;
    };
  }

  -- where it made a channel, the dial came up, and a stream that stands was handed on
  pub dial-answered : (answer : DialOut) (answered : DialAnswered) (n : ℕ) (old mid new : DialShown) → now ≤ told → AddsCalls old.calls mid.calls (dialed host port answer ∷ []) → old.faults ≤ mid.faults
      → Settles g now pass conn xid (is_up answer) room answered pass' → answered.chan ≡ Some n → AddsCalls mid.calls new.calls (handed conn n ∷ []) → new.faults ≡ mid.faults
      → AnswersDial g (Clocked tells clock clock') told pass conn xid call host port old (take answered.len room) pass' new
  dial-answered dialout.Up answered n old mid new later called counted settles is hands kept =
      settled-so dialout.Up answered (Some n) old new later settles is
      (adds-goes old.calls mid.calls new.calls (dialed host port dialout.Up ∷ []) (handed conn n ∷ []) called hands)
      (subst (λ k. old.faults ≤ k) (sym kept) counted) tt
  dial-answered dialout.Failed answered n old mid new later called counted settles is hands kept = absurd (none-some n (sym settles.chan_is ∙ is))

  -- where it made none, the dial failed
  pub dial-failed : (answer : DialOut) (answered : DialAnswered) (old new : DialShown) → now ≤ told → AddsCalls old.calls new.calls (dialed host port answer ∷ []) → old.faults ≤ new.faults
      → OnDialFailed answer (Rose old.faults new.faults) → Settles g now pass conn xid (is_up answer) room answered pass' → answered.chan ≡ None → AnswersDial g (Clocked tells clock clock') told pass conn xid call host port old (take answered.len room) pass' new
  dial-failed dialout.Up answered old new later called counted failed settles is = absurd (no-channel answered.chan is settles.chan_is) where
    no-channel : (chan : Option ℕ) → chan ≡ None → IsChannel (behind pass.number settles.placed) conn true chan → ⊥
    no-channel None none is_channel = is_channel
    no-channel (Some n) none is_channel = absurd (none-some n (sym none))
  dial-failed dialout.Failed answered old new later called counted failed settles is = settled-so dialout.Failed answered None old new later settles is called counted failed

-- ---- the polls of a call

-- a poll settles no dial, whatever it did
poll-quiet : {B : Type 0} {g : Ghosts B} {before : CoreState B} {conn now : ℕ} {ending : Ending} {events : List Event} {steps : List Step} → IsSessionPolled g before conn now ending events steps
    → count_by is_failed_dial events ≡ 0
poll-quiet {events = events} polled = none-failed events (ispolled-all (λ e. is_failed_dial e ≡ false) polled refl (λ made. refl) (λ failed level told. refl) refl)

module _ {B C : Type 0} (g : Origin B) (tells : C → ℕ → C → Type 0) (clock clock' : C) (told : ℕ) (pass pass' : PassView Group) (conn xid : ℕ) (call : Call) where
  -- The call came and was polled, the last time with this end, as its turn says it: with the groups so far, and those with which
  -- it goes on from there, it is called. None of the groups has an answer behind a dial.
  pub record Polled (room : List ℕ) (end : PollEnd) : Type 0 where
    pub groups : List Placed
    pub last : Ending
    pub makes : Makes told pass groups pass'
    pub called : (rest : List Placed) (rung : List Rang) (out : List ℕ) → SessionGoesOn g pass.number conn xid call last rest rung out
        → IsCalled g pass.number conn xid call (groups ++ rest) rung out
    pub asks : Clocked tells clock clock' groups
    pub quiet : failed_dials groups ≡ 0
    pub history : IsHistory g pass'.seen
    pub says : Says xid room end last
    pub phase : phase_at pass' conn ≡ phase_behind call false last

  -- a poll answered it: the reply's record stands at the front of the room, and the connection is idle again
  pub record Replies (room : List ℕ) (dial : DialShown) (len : ℕ) : Type 0 where
    pub answers : AnswersCall g (Clocked tells clock clock') told pass conn xid call dial (take len room) pass' dial
    pub phase : phase_at pass' conn ≡ Idle role.Core
    pub some : 0 < len
    pub within : len ≤ length room

-- it came, and was polled once
pub polled-once : {B C : Type 0} {g : Origin B} {tells : C → ℕ → C → Type 0} {clock clock' : C} {told : ℕ} {pass pass' : PassView Group} {conn xid : ℕ} {call : Call} {now : ℕ} {room : List ℕ} {end : PollEnd}
    → tells clock now clock' → now ≤ told → SessionComes g now pass conn xid call room end pass' → Polled g tells clock clock' told pass pass' conn xid call room end
polled-once {clock' = clock'} {told = told} {pass = pass} {pass' = pass'} {now = now} asked later comes = record {
  groups = comes.placed ∷ [];
  last = comes.ending;
  makes = makes-later now told pass pass' (comes.placed ∷ []) later comes.turns.makes;
  called = λ rest rung out goes_on. record {
    first = comes.placed;
    later = rest;
    groups = refl;
    told = now;
    begun = comes.ending;
    comes = comes.comes;
    dials = comes.dials;
    goes_on = goes_on;
  };
  asks = (now, clock', asked, comes.comes.keeps, refl);
  quiet = failed-one comes.placed ∙ ap (count_by is_failed_dial) comes.comes.events ∙ poll-quiet comes.comes.polled;
  history = comes.turns.history;
  says = comes.says;
  phase = comes.phase;
}

-- ---- what its last poll tells

module _ {B C : Type 0} {g : Origin B} {tells : C → ℕ → C → Type 0} {clock clock' : C} {told : ℕ} {pass pass' : PassView Group} {conn xid : ℕ} {call : Call} {room : List ℕ} {end : PollEnd}
    (polled : Polled g tells clock clock' told pass pass' conn xid call room end) where
  -- a reply
  pub polled-replied : (dial : DialShown) (len : ℕ) (error : ErrorCode) → end ≡ said.Replied len error → Replies g tells clock clock' told pass pass' conn xid call room dial len
  polled-replied dial len error is =
      let says = says-replied xid len room error polled.last (subst (λ e. Says xid room e polled.last) is polled.says) in
      let answered = says.3 in
      let stands = says.4 in
      record {
        answers = record {
          placed = polled.groups;
          rung = [];
          makes = polled.makes;
          asks = polled.asks;
          rings = rings-still dial polled.groups polled.quiet;
          holding = subst (λ ps. IsCalled g pass.number conn xid call ps [] (take len room)) (append-nil polled.groups)
              (polled.called [] [] (take len room) (subst (λ l. SessionGoesOn g pass.number conn xid call l [] [] (take len room)) (sym answered) (refl, stands.record_is)));
        };
        phase = polled.phase ∙ ap (phase_behind call false) answered;
        some = stands.some;
        within = stands.within;
      }

  -- a dial that is asked for
  pub polled-dials : (host port : ℕ) → end ≡ said.Dial host port → polled.last ≡ Dialed host port
  polled-dials host port is = says-dial xid room host port polled.last (subst (λ e. Says xid room e polled.last) is polled.says)

  -- none: it waits, and no dial was asked for
  pub polled-waits : (why : _) → end ≡ said.NotYet why → polled.last ≡ Waited why
  polled-waits why is = says-waits xid room why polled.last (subst (λ e. Says xid room e polled.last) is polled.says)

-- ---- from one poll to the next

-- a sum of nothing and a rest
front-none : (all front rest : ℕ) → all ≡ front + rest → front ≡ 0 → rest ≡ all
front-none all front rest sum none_before = omega arith

module _ {B C : Type 0} {g : Origin B} {tells : C → ℕ → C → Type 0} {clock clock' clock'' : C} {told told' : ℕ} {pass pass' pass'' : PassView Group} {conn xid : ℕ} {call : Call} {room : List ℕ} {end : PollEnd}
    (polled : Polled g tells clock clock' told pass pass' conn xid call room end) where
  -- it has no answer yet, and is polled again
  pub polled-again : {now : ℕ} {room' : List ℕ} {end' : PollEnd} (why : _) → tells clock' now clock'' → told ≤ told' → now ≤ told' → end ≡ said.NotYet why
      → PollsAgain g now pass' conn xid call false room' end' pass'' → Polled g tells clock clock'' told' pass pass'' conn xid call room' end'
  polled-again {now = now} why asked later by_then is again =
      let p = again.placed in
      record {
        groups = polled.groups ++ p ∷ [];
        last = again.ending;
        makes = makes-goes told told' pass pass' pass'' polled.groups (p ∷ []) later polled.makes (makes-later now told' pass' pass'' (p ∷ []) by_then again.turns.makes);
        called = λ rest rung out goes_on.
            subst (λ ps. IsCalled g pass.number conn xid call ps rung out) (sym (append_assoc polled.groups (p ∷ []) rest))
            (polled.called (p ∷ rest) rung out
            (subst (λ l. SessionGoesOn g pass.number conn xid call l (p ∷ rest) rung out) (sym (polled-waits polled why is))
            (again.ending, record { told = now; polls = again.polls; dials = again.dials }, goes_on)));
        asks = clocked-goes tells clock clock' clock'' polled.groups (p ∷ []) polled.asks (now, clock'', asked, again.polls.keeps, refl);
        quiet = both-none (failed_dials (polled.groups ++ p ∷ [])) (failed_dials polled.groups) (failed_dials (p ∷ [])) (failed_dials-append polled.groups (p ∷ [])) polled.quiet
            (failed-one p ∙ poll-quiet again.polls.polled);
        history = again.turns.history;
        says = again.says;
        phase = again.phase;
      }

  -- the dial was made then, and the call answered
  pub polled-settled : (dial dial' : DialShown) (out : List ℕ) (host port : ℕ) → told ≤ told' → end ≡ said.Dial host port
      → AnswersDial g (Clocked tells clock' clock'') told' pass' conn xid call host port dial out pass'' dial' → AnswersCall g (Clocked tells clock clock'') told' pass conn xid call dial out pass'' dial'
  polled-settled dial dial' out host port later is dialed =
      record {
        placed = polled.groups ++ dialed.placed;
        rung = dialed.rung;
        makes = makes-goes told told' pass pass' pass'' polled.groups dialed.placed later polled.makes dialed.makes;
        asks = clocked-goes tells clock clock' clock'' polled.groups dialed.placed polled.asks dialed.asks;
        rings = record {
          told = dialed.rings.told;
          failed = subst (λ n. RoseBy n dial.faults dial'.faults)
              (front-none (failed_dials (polled.groups ++ dialed.placed)) (failed_dials polled.groups) (failed_dials dialed.placed)
              (failed_dials-append polled.groups dialed.placed) polled.quiet)
              dialed.rings.failed;
        };
        holding = polled.called dialed.placed dialed.rung out
            (subst (λ l. SessionGoesOn g pass.number conn xid call l dialed.placed dialed.rung out) (sym (polled-dials polled host port is))
            (subst (λ n. SessionGoesOn g n conn xid call (Dialed host port) dialed.placed dialed.rung out) polled.makes.number dialed.holding));
      }

-- The polls of a call so far, while the clock went on and nothing was dialed.
pub record Polling {B C D : Type 0} (g : Origin B) (tells : C → ℕ → C → Type 0) (told : C → ℕ) (clock clock' : C) (dial dial' : D) (pass : PassView Group) (conn xid : ℕ) (call : Call) (room : List ℕ) (end : PollEnd)
    (pass' : PassView Group) : Type 0 where
  pub polled : Polled g tells clock clock' (told clock') pass pass' conn xid call room end
  pub later : told clock ≤ told clock'
  pub dial_is : dial' ≡ dial
