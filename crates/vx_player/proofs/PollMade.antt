-- What comes, polls and answers of the exchange make of a play.
use Rattle.std.proofs.Common.{◌≡◌, ◌≢◌, ℕ, ◌≤◌, max, Bool, true, false, cond, append-nil, List, [], ◌∷◌, ◌++◌, length, Option, Some, None, refl, sym, ap, ◌∙◌, subst}
use Rattle.std.specs.List.{flat_map, All}
use Rattle.std.proofs.Math.Nat.{max-eq_right}
use Rattle.std.proofs.lemmas.Bool.{false≢true}
use Rattle.vx_calls.specs.declared.codes.ErrorCode.{ErrorCode}
use Rattle.vx_calls.specs.Call.{Call}
use Rattle.vx_calls.specs.Reply as reply
use Rattle.vx_488.specs.declared.transfers.Transfer.{Transfer}
use Rattle.vx_488.specs.declared.transfers.TheConstants.{ADDRESS_MAX}
use Rattle.vx_488.specs.declared.wire.Wire.{Wire}
use Rattle.vx_488.specs.declared.bus.Bus.{Ghosts}
use Rattle.vx_sim.specs.Bench.{some_asks, some_refuses}
use Rattle.vx_sim.specs.SimState.{SimState, Through}
use Rattle.vx_rules.specs.Serving.{IsPlainLink}
use Rattle.vx_flow.specs.Event.{Event, Arrive, Begin}
use Rattle.vx_flow.specs.Event as event
use Rattle.vx_flow.specs.InterleavedState.{InterleavedState}
use Rattle.vx_flow.specs.InterleavedStep.{interleaved_step}
use Rattle.vx_flow.specs.Poll.{Ending, Answered, Waited, Dialed, begins, run_events, moved_events, end_events}
use Rattle.vx_flow.proofs.Laws.{interleaved-does, interleaved-frame, stays_sound-law}
use Rattle.vx_flow.proofs.Laws.Kept.{same-before}
use Rattle.vx_core.specs.CoreState.{CoreState}
use Rattle.vx_trace.specs.Output.{Output, Out}
use Rattle.vx_exchange.specs.declared.polls.PollEnd.{PollEnd}
use Rattle.vx_exchange.specs.declared.polls.PollEnd.TheVariants as end
use Rattle.vx_exchange.specs.declared.polls.Aborted.{Aborted}
use Rattle.vx_exchange.specs.Meaning.{Meaning, Junk, xid_by, reply_record}
use Rattle.vx_exchange.specs.Meaning as meant
use Rattle.vx_record.specs.Fragments.{record_of}
use Rattle.vx_exchange.specs.Opening.{Stands}
use Rattle.vx_exchange.specs.Doing.{reply_error, Says, Polled, Came, Aborts}
use Rattle.vx_player.specs.declared.note.Intake.{Intake}
use Rattle.vx_player.specs.declared.note.Intake.TheVariants as intake
use Rattle.vx_player.specs.declared.note.StepMade.{StepMade}
use Rattle.vx_player.specs.declared.note.Note.TheVariants as note
use Rattle.vx_player.specs.Gateway.{Gateway, gateway_of}
use Rattle.vx_run.specs.Item.{bus_lines, answer_errors, errors_of}
use Rattle.vx_run.specs.RunText.{event_lines}
use Rattle.vx_player.specs.Making.{PollMakes, MessageMakes}
use Rattle.vx_run.specs.Notes.{poll_line, wait_line}
use Rattle.vx_player.specs.Serving.{MadeBy, PlayerServes, given_lines, poll_made}
use Rattle.vx_player.specs.Standing.{note_line, moves_lines, begun_lines, NoteWithin}
use Rattle.vx_player.proofs.Hearing.{IsSteady, write-taken}
use Rattle.vx_player.proofs.PollEvents.{poll-gives}

-- the simulated bus, as the exchange sees a bus
abbrev pub sim : Ghosts SimState
sim = record { means = λ s. s.means; srq_level = λ s. some_asks s.bench; ndac_level = λ s. some_refuses s.means.wire s.bench; through = Through }

-- ---- the lines and the errors of a poll's events

-- the lines are those of its transfers
poll-lines : (f : InterleavedState) (conn now : ℕ) (moves : List Transfer) (ending : Ending)
    → flat_map bus_lines (run_events f conn now moves ++ end_events conn now ending) ≡ moves_lines (Some conn) moves
poll-lines f conn now moves ending = poll-gives bus_lines f conn now moves ending refl ∙ by moves ending where
  by : (moves : List Transfer) (ending : Ending)
      → flat_map bus_lines (moved_events conn moves) ++ flat_map bus_lines (end_events conn now ending) ≡ moves_lines (Some conn) moves
  by [] (Waited why) = refl
  by [] _ = refl
  by (t ∷ ts) (Waited why) = refl
  by (t ∷ ts) _ = refl

-- and in version 2 those of its turn's beginning and of its transfers
poll-lines2 : (f : InterleavedState) (conn now : ℕ) (moves : List Transfer) (ending : Ending)
    → flat_map event_lines (run_events f conn now moves ++ end_events conn now ending) ≡ begun_lines (Some conn) (begins f conn now) ++ moves_lines (Some conn) moves
poll-lines2 f conn now moves ending = by (begins f conn now) moves ending where
  by : (b : Bool) (moves : List Transfer) (ending : Ending)
      → flat_map event_lines ((cond b (Begin conn now ∷ []) [] ++ moved_events conn moves) ++ end_events conn now ending)
      ≡ begun_lines (Some conn) b ++ moves_lines (Some conn) moves
  by true [] (Waited why) = refl
  by true [] _ = refl
  by true (t ∷ ts) (Waited why) = refl
  by true (t ∷ ts) _ = refl
  by false [] (Waited why) = refl
  by false [] _ = refl
  by false (t ∷ ts) (Waited why) = refl
  by false (t ∷ ts) _ = refl

-- the errors are that of its end
abbrev ending_errors : Ending → List ErrorCode
ending_errors (Answered ran level given) = reply_error given ∷ []
ending_errors _ = []

poll-errors : (f : InterleavedState) (conn now : ℕ) (moves : List Transfer) (ending : Ending)
    → flat_map answer_errors (run_events f conn now moves ++ end_events conn now ending) ≡ ending_errors ending
poll-errors f conn now moves ending = poll-gives answer_errors f conn now moves ending refl ∙ by moves ending where
  by : (moves : List Transfer) (ending : Ending)
      → flat_map answer_errors (moved_events conn moves) ++ flat_map answer_errors (end_events conn now ending) ≡ ending_errors ending
  by [] (Waited why) = refl
  by [] _ = refl
  by (t ∷ ts) (Waited why) = refl
  by (t ∷ ts) _ = refl

-- ---- what is told of a poll

-- what a poll made that ended so: the line, the error of its answer, and a record within the room
record Tells (conn xid : ℕ) (room : List ℕ) (told : PollEnd) (ending : Ending) : Type 0 where
  line : note_line room (poll_made conn told).note ≡ Some (poll_line conn xid ending)
  errors : ending_errors ending ≡ errors_of (poll_made conn told).answered
  within : NoteWithin (length room) (poll_made conn told).note

tells : (conn xid : ℕ) (room : List ℕ) (told : PollEnd) (ending : Ending) → Says xid room told ending → Tells conn xid room told ending
tells conn xid room (end.Replied len error) (Answered ran level given) says = record {
  line = ap (λ r. Some (Out conn r)) says.0.record_is;
  errors = ap (λ e. e ∷ []) (sym says.1);
  within = (says.0.some, says.0.within);
}
tells conn xid room (end.NotYet why) (Waited waits) says = record { line = ap (λ w. Some (wait_line conn w)) says; errors = refl; within = tt }
tells conn xid room (end.Dial host port) (Dialed h p) says = record { line = refl; errors = refl; within = tt }
tells conn xid room (end.Replied len error) _ says = absurd says
tells conn xid room (end.NotYet why) _ says = absurd says
tells conn xid room (end.Dial host port) _ says = absurd says

-- a poll gives the gateway nothing
pub quiet-poll : (conn : ℕ) (told : PollEnd) → (poll_made conn told).intake ≡ intake.Nothing
quiet-poll conn told = refl

-- A poll makes its events, the line of its note, and the error of its answer.
pub poll-made : (old new : CoreState SimState) (conn now xid : ℕ) (room : List ℕ) (told : PollEnd) → IsSteady old.interleaved → Polled sim old conn now xid room told new
    → MadeBy (PollMakes (gateway_of old) conn now xid) room (poll_made conn told) new
poll-made old new conn now xid room told steady polled =
    let t = tells conn xid room told polled.ending polled.says in
    record {
      group = run_events old.interleaved conn now new.bus.means.moves ++ end_events conn now polled.ending;
      makes = record {
        ending = polled.ending;
        over = polled.over;
        events = refl;
        told = t.line;
        taken = write-taken (gateway_of old) (gateway_of new) conn now polled.ending polled.over steady;
      };
      lines = poll-lines old.interleaved conn now new.bus.means.moves polled.ending;
      lines2 = poll-lines2 old.interleaved conn now new.bus.means.moves polled.ending
          ∙ ap (λ b. begun_lines (Some conn) b ++ moves_lines (Some conn) new.bus.means.moves) (sym polled.began);
      answered = poll-errors old.interleaved conn now new.bus.means.moves polled.ending ∙ t.errors;
      note = t.within;
      few = λ h. polled.few;
    }

-- ---- a call that comes

-- what holds of every core holds of one to which a call came
come-steady : (f g : InterleavedState) (conn now : ℕ) (asked : Call) → interleaved_step f (Arrive conn asked now) ≡ Some g → IsSteady f → IsSteady g
come-steady f g conn now asked h steady = record {
  sound = stays_sound-law f g (Arrive conn asked now) steady.sound h;
  links = subst (λ l. All IsPlainLink l.links) (sym ((interleaved-frame f g (Arrive conn asked now) h).all_links refl)) steady.links;
  own = subst (λ (w : Wire). w.own ≤ ADDRESS_MAX)
      (sym (ap (λ (x : InterleavedState). x.before) (interleaved-does f g (Arrive conn asked now) h).step.leads
      ∙ same-before f.state.tables f.before f.state.wire f.state.moment f.turn steady.sound.turn_stands)) steady.own;
}

-- a call that came, and was polled
pub call-made : (before after : CoreState SimState) (conn now xid : ℕ) (asked : Call) (room : List ℕ) (told : PollEnd) → IsSteady before.interleaved
    → Came sim before conn asked now xid room told after → MadeBy (MessageMakes (gateway_of before) conn now (meant.Asks xid asked)) room (poll_made conn told) after
call-made before after conn now xid asked room told steady came =
    let polled = poll-made came.come after conn now xid room told (come-steady before.interleaved came.come.interleaved conn now asked came.arrives steady) came.polled in
    record {
      group = Arrive conn asked now ∷ polled.group;
      makes = record {
        come = gateway_of came.come;
        comes = record { events = came.arrives; bus = came.walk };
        rest = polled.group;
        polled = polled.makes;
        events = refl;
      };
      lines = polled.lines;
      lines2 = polled.lines2;
      answered = polled.answered;
      note = polled.note;
      few = polled.few;
    }

-- ---- a message, by what it means

-- a record that is told of events without transfers, and the error of their one answer, where there is one
pub record-made : (StepMakes : List Event → Option Output → Gateway → Type 0) (group : List Event) (told room : List ℕ) (conn len : ℕ) (i : Intake) (answered : Option ErrorCode)
    (after : CoreState SimState) → StepMakes group (Some (Out conn told)) (gateway_of after) → flat_map bus_lines group ≡ [] → flat_map event_lines group ≡ given_lines i → flat_map answer_errors group ≡ errors_of answered
    → Stands told len room → MadeBy StepMakes room (record { intake = i; polled = None; note = note.Replied conn len; answered = answered }) after
record-made StepMakes group told room conn len i answered after makes none given errors stands = record {
  group = group;
  makes = subst (λ r. StepMakes group (Some (Out conn r)) (gateway_of after)) (sym stands.record_is) makes;
  lines = none;
  lines2 = given ∙ sym (append-nil (given_lines i)) ∙ sym (append-nil (given_lines i ++ []));
  answered = errors;
  note = (stands.some, stands.within);
  few = λ polled. absurd (false≢true polled);
}

-- what a message made that means this, and isn't junk
serves : (before : Gateway) (conn now last : ℕ) (m shown : Meaning) (room : List ℕ) (made : StepMade) (xid : ℕ) (after : CoreState SimState) → m ≡ shown → shown ≢ Junk
    → xid ≡ xid_by shown last → made.intake ≡ intake.Nothing → MadeBy (MessageMakes before conn now shown) room made after → PlayerServes before conn now last m room (record { made = made; xid = xid }) after
serves before conn now last m shown room made xid after is live xid_is quiet made_by =
    subst (λ k. PlayerServes before conn now last k room (record { made = made; xid = xid }) after) (sym is) (record { call = live; xid_is = xid_is; quiet = quiet; made_by = made_by })

-- one that is answered without the core
pub answered-serves : (core : CoreState SimState) (conn now last len : ℕ) (m : Meaning) (message room : List ℕ) → m ≡ meant.Answered message → Stands (record_of message) len room
    → PlayerServes (gateway_of core) conn now last m room (record { made = record { intake = intake.Nothing; polled = None; note = note.Replied conn len; answered = None }; xid = last }) core
answered-serves core conn now last len m message room is stands =
    serves (gateway_of core) conn now last m (meant.Answered message) room _ last core is (λ junk. absurd (cc)) refl refl
    (record-made (MessageMakes (gateway_of core) conn now (meant.Answered message)) [] (record_of message) room conn len intake.Nothing None core
    (record { none = refl; same = refl }, refl) refl refl refl stands)

-- a device_abort
pub aborted-serves : (before after : CoreState SimState) (conn now last xid lid : ℕ) (m : Meaning) (room : List ℕ) (answered : Aborted) → m ≡ meant.Aborts xid lid
    → Aborts sim before conn lid xid room answered after
    → PlayerServes (gateway_of before) conn now last m room (record { made = record { intake = intake.Nothing; polled = None; note = note.Replied conn answered.len; answered = None }; xid = last }) after
aborted-serves before after conn now last xid lid m room answered is done =
    serves (gateway_of before) conn now last m (meant.Aborts xid lid) room _ last after is (λ junk. absurd (cc)) refl refl
    (record-made (MessageMakes (gateway_of before) conn now (meant.Aborts xid lid)) (event.Abort conn lid answered.error ∷ []) (reply_record xid (reply.Error answered.error)) room
    conn answered.len intake.Nothing None after (record { error = answered.error; events = refl; happens = record { events = done.aborts; bus = done.walk }; told = refl }) refl refl refl done.stands)

-- a call to the core
pub called-serves : (before after : CoreState SimState) (conn now last xid : ℕ) (m : Meaning) (asked : Call) (room : List ℕ) (told : PollEnd) → m ≡ meant.Asks xid asked
    → IsSteady before.interleaved → before.interleaved.state.moment ≤ now → Came sim before conn asked (max before.interleaved.state.moment now) xid room told after
    → PlayerServes (gateway_of before) conn now last m room (record { made = poll_made conn told; xid = xid }) after
called-serves before after conn now last xid m asked room told is steady late came =
    serves (gateway_of before) conn now last m (meant.Asks xid asked) room (poll_made conn told) xid after is (λ junk. absurd (cc)) refl (quiet-poll conn told)
    (call-made before after conn now xid asked room told steady (subst (λ n. Came sim before conn asked n xid room told after) (max-eq_right late) came))
