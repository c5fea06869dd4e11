-- What a message, a poll, and a step of the core leave.
use Rattle.std.specs.Prelude.{◌≡◌, ◌≢◌, ◌≤◌, ◌++◌, ℕ, List, [], ◌∷◌, length, Option, None, Some, IsSome}
use Rattle.std.specs.List.{flat_map}
use Rattle.vx_calls.specs.declared.codes.ErrorCode.{ErrorCode}
use Rattle.vx_calls.specs.declared.limits.TheConstants.{SLICE_MAX}
use Rattle.vx_trace.specs.Output.{Output, Up, DialDone, Srq}
use Rattle.vx_sim.specs.SimState.{SimState}
use Rattle.vx_flow.specs.Event.{Event}
use Rattle.vx_core.specs.CoreState.{CoreState}
use Rattle.vx_exchange.specs.declared.polls.PollEnd.{PollEnd}
use Rattle.vx_exchange.specs.declared.polls.PollEnd.TheVariants as end
use Rattle.vx_exchange.specs.Meaning.{Meaning, Junk, xid_by}
use Rattle.vx_player.specs.declared.note.Intake.{Intake}
use Rattle.vx_player.specs.declared.note.Intake.TheVariants as intake
use Rattle.vx_player.specs.declared.note.StepMade.{StepMade}
use Rattle.vx_player.specs.declared.note.Note.{Note}
use Rattle.vx_player.specs.declared.note.Note.TheVariants as note
use Rattle.vx_player.specs.declared.serve.Served.{Served}
use Rattle.vx_player.specs.Gateway.{Gateway, gateway_of}
use Rattle.vx_run.specs.Item.{bus_lines, answer_errors, errors_of}
use Rattle.vx_player.specs.Making.{MessageMakes}
use Rattle.vx_run.specs.RunText.{event_lines}
use Rattle.vx_player.specs.Standing.{note_line, moves_lines, begun_lines, NoteWithin}

-- what there is to tell of a poll that ended so, and the error of its answer
abbrev pub poll_note : ℕ → PollEnd → Note
poll_note conn (end.Replied len error) = note.Replied conn len
poll_note conn (end.NotYet why) = note.Waiting conn why
poll_note conn (end.Dial host port) = note.Dialing conn

abbrev pub poll_error : PollEnd → Option ErrorCode
poll_error (end.Replied len error) = Some error
poll_error _ = None

-- what a poll of the connection's call makes, that ended so
abbrev pub poll_made : ℕ → PollEnd → StepMade
poll_made conn told = record { intake = intake.Nothing; polled = Some conn; note = poll_note conn told; answered = poll_error told }

-- the lines of the events that what a step gave the gateway is
abbrev pub given_lines : Intake → List Output
given_lines (intake.Up conn role) = Up conn role ∷ []
given_lines (intake.Dialed conn up) = DialDone conn up ∷ []
given_lines (intake.Sampled level) = Srq level ∷ []
given_lines _ = []

-- A step made this: events and a line such as the step makes, with the lines of its transfers, and of all events, with room for both, and with the
-- error of the one answer among the events, where there is one
pub record MadeBy (StepMakes : List Event → Option Output → Gateway → Type 0) (room : List ℕ) (made : StepMade) (after : CoreState SimState) : Type 0 where
  pub group : List Event
  pub makes : StepMakes group (note_line room made.note) (gateway_of after)
  pub lines : flat_map bus_lines group ≡ moves_lines made.polled after.bus.means.moves
  pub lines2 : flat_map event_lines group ≡ given_lines made.intake ++ begun_lines made.polled after.began ++ moves_lines made.polled after.bus.means.moves
  pub answered : flat_map answer_errors group ≡ errors_of made.answered
  pub note : NoteWithin (length room) made.note
  pub few : IsSome made.polled → length after.bus.means.moves ≤ SLICE_MAX

-- What a message of this meaning made, which isn't junk, and the xid of the last call that its connection kept, which was `last`.
pub record PlayerServes (before : Gateway) (conn now last : ℕ) (m : Meaning) (room : List ℕ) (served : Served) (after : CoreState SimState) : Type 0 where
  pub call : m ≢ Junk
  pub xid_is : served.xid ≡ xid_by m last
  pub quiet : served.made.intake ≡ intake.Nothing
  pub made_by : MadeBy (MessageMakes before conn now m) room served.made after
