-- What serving a message, and polling a call again, leave.
use Rattle.std.proofs.Common.{◌≡◌, ◌≤◌, ℕ, Bool, true, false, cond, List, [], ◌∷◌, ◌++◌, length, map, take, Option, Some, None, inl, inr, refl, sym, ap, ◌∙◌, subst, arith, append-nil}
use Rattle.std.specs.Prelude.{is_some}
use Rattle.std.specs.List.{list_all, flat_map}
use Rattle.std.proofs.lemmas.Bool.{and_from}
use Rattle.std.proofs.lemmas.Option.{none-some}
use Rattle.std.proofs.lemmas.Grind.{flat_map-append}
use Rattle.std.proofs.lemmas.List.{length-take}
use Rattle.std.proofs.lemmas.List.Folds.{list_all-append}
use Rattle.vx_488.specs.Steps.{Step, Went, Told, Cut}
use Rattle.vx_calls.specs.declared.calls.Role.TheVariants as role
use Rattle.vx_calls.specs.Call.{Call}
use Rattle.vx_calls.specs.Reply as reply
use Rattle.vx_488.specs.declared.transfers.Transfer.{Transfer}
use Rattle.vx_plan.specs.Plan.{Slot}
use Rattle.vx_sim.specs.Bench.{some_asks, some_refuses}
use Rattle.vx_sim.specs.SimState.{SimState, Through}
use Rattle.vx_sim.specs.Laws.{transfers}
use Rattle.vx_sim.proofs.Laws.{steps-moves}
use Rattle.vx_exchange.specs.declared.record.TheConstants.{REPLY_ROOM}
use Rattle.vx_exchange.specs.declared.polls.PollEnd.{PollEnd}
use Rattle.vx_exchange.specs.declared.polls.PollEnd.TheVariants as ended
use Rattle.vx_record.specs.Fragments.{record_of}
use Rattle.vx_exchange.specs.declared.polls.DialAnswered.{DialAnswered}
use Rattle.vx_exchange.specs.Meaning.{Meaning, Asks, reply_record}
use Rattle.vx_exchange.specs.Meaning as meant
use Rattle.vx_exchange.specs.Opening.{Stands}
use Rattle.vx_exchange.specs.Doing.{Says}
use Rattle.vx_rules.specs.Lists.{along}
use Rattle.vx_rules.specs.State.{pending_at, lives_as}
use Rattle.vx_rules.proofs.Laws.Lists.{along-append}
use Rattle.vx_flow.specs.Event.{Event, Arrive, Answer, Begin}
use Rattle.vx_flow.specs.InterleavedState.{InterleavedState, Turn, turn_after}
use Rattle.vx_flow.specs.InterleavedStep.{interleaved_step}
use Rattle.vx_flow.specs.Frames.{moves_by}
use Rattle.vx_flow.specs.Poll.{Ending, Answered, Waited, Dialed, begins, moved_events, run_events, end_events, is_broken, ran_of, at_moment}
use Rattle.vx_flow.specs.declared.progress.Ran.{Ran}
use Rattle.vx_flow.specs.declared.progress.Ran.TheVariants as ran
use Rattle.vx_flow.proofs.Laws.{interleaved-frame}
use Rattle.vx_core.specs.CoreState.{CoreState}
use Rattle.vx_core.specs.Polling.{PollOnBus, wanted, refused_ask, asks}
use Rattle.vx_loop.specs.Gateway.{Gateway, gateway_of, BusGoes, moments, Happens}
use Rattle.vx_loop.specs.Exchanges.{LoopAdds, of_turn}
use Rattle.vx_loop.specs.Standing.{IsReached}
use Rattle.vx_loop.specs.Serving.{reply_len, IsReplied, Continues, LoopServes, IsFit}
use Rattle.vx_loop.proofs.Happening.{happens-adds, reached-more, reached-sound}
use Rattle.vx_loop.proofs.Turns.{LeavesAll, answer-ends, answer-over, life-stays, run-of, poll-leaves}

-- ---- the transfers of a poll

run-moves : (f : InterleavedState) (now : ℕ) (moves : List Transfer) → flat_map moves_by (run_events f 1 now moves) ≡ moves
run-moves f now moves = by (begins f 1 now) moves where
  by : (begun : Bool) (ts : List Transfer) → flat_map moves_by (cond begun (Begin 1 now ∷ []) [] ++ moved_events 1 ts) ≡ ts
  by true [] = refl
  by true (t ∷ ts) = append-nil (t ∷ ts)
  by false [] = refl
  by false (t ∷ ts) = append-nil (t ∷ ts)

end-moves : (now : ℕ) (ending : Ending) → flat_map moves_by (end_events 1 now ending) ≡ []
end-moves now (Answered ran level told) = refl
end-moves now _ = refl

poll-moves : (f : InterleavedState) (now : ℕ) (moves : List Transfer) (ending : Ending)
    → flat_map moves_by (run_events f 1 now moves ++ end_events 1 now ending) ≡ moves
poll-moves f now moves ending =
    flat_map-append moves_by (run_events f 1 now moves) (end_events 1 now ending)
    ∙ ap (λ ms. flat_map moves_by (run_events f 1 now moves) ++ ms) (end-moves now ending)
    ∙ append-nil (flat_map moves_by (run_events f 1 now moves)) ∙ run-moves f now moves

-- ---- the steps of its bus

-- an ask that didn't go is no transfer, and no ask tells a moment
refused-none : (ran : Ran) (slot : Option Slot) → (transfers (refused_ask ran slot) ≡ []) × (moments (refused_ask ran slot) ≡ [])
refused-none ran.Paused (Some slot) = (refl, refl)
refused-none ran.Broken (Some slot) = (refl, refl)
refused-none _ _ = (refl, refl)

asks-tell : (moves : List Transfer) (rest : List Step) → moments rest ≡ [] → moments (map Went moves ++ rest) ≡ []
asks-tell [] rest none = none
asks-tell (t ∷ ts) rest none = asks-tell ts rest none

-- ---- a poll

-- the poll of connection 1's call
abbrev pub PollOf : Gateway → ℕ → Ending → Gateway → Type 0
PollOf before now ending after =
    PollOnBus (λ s. s.means) Through (λ s. some_asks s.bench) (λ s. some_refuses s.means.wire s.bench) before.interleaved before.bus 1 now (Cut ∷ Told now ∷ []) ending
    after.interleaved after.bus

-- the reply that it wrote, where it was answered; and none where it wasn't
abbrev reply_by : ℕ → Ending → List ℕ
reply_by xid (Answered ran level told) = reply_record xid told
reply_by xid _ = []

said-reply : (xid : ℕ) (room : List ℕ) (said : PollEnd) (ending : Ending) → Says xid room said ending → take (reply_len said) room ≡ reply_by xid ending
said-reply xid room (ended.Replied len error) (Answered ran level told) says = says.0.record_is
said-reply xid room (ended.NotYet why) (Waited waits) says = refl
said-reply xid room (ended.Dial host port) (Dialed h p) says = refl
said-reply xid room _ _ says = absurd says

-- it fits the room
take-short : (len : ℕ) (room : List ℕ) → length room ≡ REPLY_ROOM → length (take len room) ≤ REPLY_ROOM
take-short len room full = let some = length-take len room in omega arith

pub says-within : (xid : ℕ) (room : List ℕ) (said : PollEnd) (ending : Ending) → length room ≡ REPLY_ROOM → Says xid room said ending → reply_len said ≤ REPLY_ROOM
says-within xid room (ended.Replied len error) (Answered ran level told) full says = let within = says.0.within in omega arith
says-within xid room (ended.Replied len error) _ full says = absurd says
says-within xid room _ ending full says = omega arith

module _ (before after : Gateway) (now xid : ℕ) (room : List ℕ) (said : PollEnd) (full : length room ≡ REPLY_ROOM) where
  abbrev run : List Event
  run = run_events before.interleaved 1 now after.bus.means.moves

  abbrev poll_steps : (ending : Ending) → PollOf before now ending after → List Step
  poll_steps ending over = Cut ∷ Told now ∷ asks over.polls.behind 1 over.polls.asked after.bus.means.moves (ran_of ending)

  steps-tell : (ending : Ending) (over : PollOf before now ending after) → moments (poll_steps ending over) ≡ now ∷ []
  steps-tell ending over =
      let ran = ran_of ending in
      let slot = wanted over.polls.behind 1 over.polls.asked in
      ap (λ ms. now ∷ ms) (asks-tell after.bus.means.moves (refused_ask ran slot) (refused-none ran slot).1)

  poll-adds : (ending : Ending) (over : PollOf before now ending after) → LeavesAll before.interleaved now ending over.polls.last
      → LoopAdds before (run ++ end_events 1 now ending) (poll_steps ending over) after
  poll-adds ending over leaves =
      let polls = over.polls in
      let at : after.interleaved.state.moment ≡ now = ap (λ (f : InterleavedState). f.state.moment) polls.at_now in
      let ran = ran_of ending in
      let slot = wanted polls.behind 1 polls.asked in
      let late = leaves.late in
      record {
        last = polls.last;
        events =
            along-append interleaved_step (Some before.interleaved) run (end_events 1 now ending) ∙ ap (λ o. along interleaved_step o (end_events 1 now ending)) polls.runs_to ∙ polls.ended;
        late = omega arith;
        at_now = polls.at_now ∙ ap (at_moment polls.last) (sym at);
        bus = over.walk;
        moves = steps-moves after.bus.means.moves (refused_ask ran slot) (refused-none ran slot).0 ∙ sym (poll-moves before.interleaved now after.bus.means.moves ending);
      }

  waits-of : (ending : Ending) (over : PollOf before now ending after) → LeavesAll before.interleaved now ending over.polls.last → list_all of_turn (end_events 1 now ending) ≡ true
      → take (reply_len said) room ≡ [] → (is_pending : is_some (pending_at over.polls.last.state.tables 1) ≡ true)
      → ((u : Turn) → over.polls.last.turn ≡ Some u → u.connection ≡ 1) → Continues before xid now after (take (reply_len said) room)
  waits-of ending over leaves ends none pending own =
      let at = over.polls.at_now in
      inr (record {
        turn = run ++ end_events 1 now ending;
        steps = poll_steps ending over;
        turn_is =
            list_all-append of_turn run (end_events 1 now ending)
            ∙ and_from (list_all of_turn run) (list_all of_turn (end_events 1 now ending)) (run-of before.interleaved now after.bus.means.moves) ends;
        adds = poll-adds ending over leaves;
        moment = ap (λ (f : InterleavedState). f.state.moment) at;
        told_is = steps-tell ending over;
        none_left = none;
        pending = ap (λ (f : InterleavedState). is_some (pending_at f.state.tables 1)) at ∙ pending;
        own = λ u is. own u (sym (ap (λ (f : InterleavedState). f.turn) at) ∙ is);
        lives_on = ap (λ (f : InterleavedState). lives_as f.state.tables 1 role.Core) at ∙ leaves.lives_on;
      })

  continues-by : (ending : Ending) (over : PollOf before now ending after) → LeavesAll before.interleaved now ending over.polls.last → Says xid room said ending
      → Continues before xid now after (take (reply_len said) room)
  continues-by (Answered ran level told) over leaves says =
      let at = over.polls.at_now in
      inl (record {
        turn = run;
        steps = poll_steps (Answered ran level told) over;
        failed = is_broken ran;
        level = level;
        told = told;
        turn_is = run-of before.interleaved now after.bus.means.moves;
        adds = poll-adds (Answered ran level told) over leaves;
        moment = ap (λ (f : InterleavedState). f.state.moment) at;
        told_is = steps-tell (Answered ran level told) over;
        left_is = said-reply xid room said (Answered ran level told) says;
        short = take-short (reply_len said) room full;
        answered = ap (λ (f : InterleavedState). pending_at f.state.tables 1) at ∙ leaves.leaves.0;
        over = ap (λ (f : InterleavedState). f.turn) at ∙ leaves.leaves.1;
        lives_on = ap (λ (f : InterleavedState). lives_as f.state.tables 1 role.Core) at ∙ leaves.lives_on;
      })
  continues-by (Waited why) over leaves says = waits-of (Waited why) over leaves refl (said-reply xid room said (Waited why) says) leaves.leaves.0 leaves.leaves.1
  continues-by (Dialed host port) over leaves says = waits-of (Dialed host port) over leaves refl (said-reply xid room said (Dialed host port) says) leaves.leaves.0 leaves.leaves.1

  pub poll-continues : (ending : Ending) → IsFit before → PollOf before now ending after → Says xid room said ending
      → Continues before xid now after (take (reply_len said) room)
  poll-continues ending fit over says =
      continues-by ending over (poll-leaves before.interleaved after.interleaved now after.bus.means.moves ending fit.sound fit.own over.polls) says

-- a dial that fails
pub dial-replies : (before after : CoreState SimState) (now xid : ℕ) (room : List ℕ) (told : DialAnswered) → IsFit (gateway_of before) → length room ≡ REPLY_ROOM
    → interleaved_step before.interleaved (Answer 1 now false (Some false) false (reply.Error told.error)) ≡ Some after.interleaved → BusGoes before.bus (Cut ∷ Told now ∷ []) after.bus
    → Stands (reply_record xid (reply.Error told.error)) told.len room → IsReplied (gateway_of before) xid now (Some false) (gateway_of after) (take told.len room)
dial-replies before after now xid room told fit full led bus stands =
    let answer = Answer 1 now false (Some false) false (reply.Error told.error) in
    record {
      turn = [];
      steps = Cut ∷ Told now ∷ [];
      failed = false;
      level = false;
      told = reply.Error told.error;
      turn_is = refl;
      adds = happens-adds (gateway_of before) (gateway_of after) (answer ∷ []) (Cut ∷ Told now ∷ []) (record { events = led; bus = bus }) refl;
      moment = (interleaved-frame before.interleaved after.interleaved answer led).moment_is;
      told_is = refl;
      left_is = stands.record_is;
      short = take-short told.len room full;
      answered = answer-ends before.interleaved after.interleaved now false (Some false) false (reply.Error told.error) led;
      over = answer-over before.interleaved after.interleaved now false (Some false) false (reply.Error told.error) led fit.own;
      lives_on = life-stays before.interleaved after.interleaved answer refl led;
    }

-- ---- a message

-- a message that is answered without the gateway
pub opened-serves : (g : Gateway) (m : Meaning) (text : List ℕ) (xid len : ℕ) (room : List ℕ) → length room ≡ REPLY_ROOM → m ≡ meant.Answered text
    → Stands (record_of text) len room → LoopServes g m xid g (take len room)
opened-serves g m text xid len room full is stands =
    subst (λ x. LoopServes g x xid g (take len room)) (sym is) (refl, stands.record_is, take-short len room full)

-- one that is a call
pub called-serves : (before come after : Gateway) (m : Meaning) (asked : Call) (xid : ℕ) (room : List ℕ) (said : PollEnd) (ending : Ending) → before.interleaved.turn ≡ None
    → IsReached before.interleaved → length room ≡ REPLY_ROOM → m ≡ Asks xid asked → Happens before (Arrive 1 asked before.interleaved.state.moment ∷ []) (Cut ∷ Told before.interleaved.state.moment ∷ []) come
    → PollOf come before.interleaved.state.moment ending after → Says xid room said ending → LoopServes before m xid after (take (reply_len said) room)
called-serves before come after m asked xid room said ending calm reached full is arrives over says =
    let now = before.interleaved.state.moment in
    let adds = happens-adds before come (Arrive 1 asked now ∷ []) (Cut ∷ Told now ∷ []) arrives refl in
    let none : come.interleaved.turn ≡ None =
    (interleaved-frame before.interleaved come.interleaved (Arrive 1 asked now) arrives.events).turn_is ∙ ap (λ turn. turn_after turn (Arrive 1 asked now)) calm in
    subst (λ x. LoopServes before x xid after (take (reply_len said) room)) (sym is) (
      refl,
      record {
        come = come;
        arrives = arrives;
        continues = poll-continues come after now xid room said full ending
            (record {
              sound = reached-sound come.interleaved (reached-more before come (Arrive 1 asked now ∷ []) (Cut ∷ Told now ∷ []) reached adds);
              own = λ u is. absurd (none-some u (sym none ∙ is));
            }) over says;
      },
    )
