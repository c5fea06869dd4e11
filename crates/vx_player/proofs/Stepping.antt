-- A step of a play, from what a player made and keeps.
use Rattle.std.proofs.Common.{◌≡◌, ◌≤◌, ℕ, List, [], ◌∷◌, Option, None, refl, sym, ap, ◌∙◌, subst}
use Rattle.std.specs.List.{flat_map}
use Rattle.std.specs.Prelude.{◌++◌}
use Rattle.vx_script.specs.Command.{Command}
use Rattle.vx_trace.specs.Output.{Output, Call}
use Rattle.vx_sim.specs.SimState.{SimState}
use Rattle.vx_flow.specs.Event.{Event}
use Rattle.vx_core.specs.CoreState.{CoreState}
use Rattle.vx_rules.specs.State.{role_at}
use Rattle.vx_player.specs.declared.note.Intake.{Intake}
use Rattle.vx_player.specs.declared.note.Intake.TheVariants as intake
use Rattle.vx_player.specs.declared.note.StepMade.{StepMade}
use Rattle.vx_player.specs.Gateway.{Gateway, gateway_of}
use Rattle.vx_run.specs.Item.{noted}
use Rattle.vx_run.specs.RunText.{event_lines, message_lines}
use Rattle.vx_player.specs.Stage.{Stage, refusal}
use Rattle.vx_player.specs.Making.{Makes}
use Rattle.vx_player.specs.Play.{stream_after, xid_after, rack_after, message_of}
use Rattle.vx_run.specs.Position.{moment_after}
use Rattle.vx_player.specs.PlayerState.{PlayerState, incoming_at}
use Rattle.vx_player.specs.Serving.{MadeBy, given_lines}
use Rattle.vx_player.specs.Standing.{PlayerStands, PlayerHolds, TakesTo, note_line, intake_lines, begun_lines, moves_lines}

-- what is kept of each connection behind a command
abbrev pub HoldsBehind : Stage → Command → PlayerState → Type 0
HoldsBehind before command new =
    (conn : ℕ) → PlayerHolds (role_at new.core.interleaved.state.tables conn) (incoming_at new.incoming conn) (stream_after before command conn) (xid_after before command conn)

-- what was made in the player's gateway, at its moment, was made at the stage
pub made-there : (StepMakes : Gateway → ℕ → List Event → Option Output → Gateway → Type 0) (p : PlayerState) (stage : Stage) (room : List ℕ) (made : StepMade)
    (core : CoreState SimState) → PlayerStands p stage → MadeBy (StepMakes (gateway_of p.core) p.moment) room made core
    → MadeBy (StepMakes stage.gateway stage.moment) room made core
made-there StepMakes p stage room made core stands h =
    subst (λ m. MadeBy (StepMakes stage.gateway m) room made core) stands.moment
    (subst (λ g. MadeBy (StepMakes g p.moment) room made core) stands.gateway h)

-- the line of a message, where a step gave the gateway one
abbrev pub call_lines : List ℕ → Intake → List Output
call_lines message (intake.Message conn) = Call conn message ∷ []
call_lines message _ = []

-- the lines of version 2, from the line of the message, those of the events, and the note's
lines2 : (message : List ℕ) (i : Intake) (called evs begun moves told : List Output) → called ≡ call_lines message i → evs ≡ given_lines i ++ begun ++ moves
    → called ++ evs ++ told ≡ intake_lines message i ++ begun ++ moves ++ told
lines2 message i called evs begun moves told a b =
    ap (λ xs. xs ++ evs ++ told) a ∙ ap (λ xs. call_lines message i ++ xs ++ told) b ∙ by i where
      by : (i : Intake) → call_lines message i ++ (given_lines i ++ begun ++ moves) ++ told ≡ intake_lines message i ++ begun ++ moves ++ told
      by intake.Nothing = refl
      by (intake.Up conn role) = refl
      by (intake.Message conn) = refl
      by (intake.Dialed conn up) = refl
      by (intake.Sampled level) = refl

-- a command that isn't refused, what it made, and what the player keeps behind it
pub takes-to : (before : Stage) (command : Command) (new : PlayerState) (made : StepMade) → refusal before command ≡ None
    → MadeBy (Makes before command) new.reply made new.core → message_lines command (message_of before command) ≡ call_lines new.message made.intake
    → new.core.interleaved.state.moment ≤ new.moment
    → new.moment ≡ moment_after before.moment command → new.rack ≡ rack_after before.rack command → HoldsBehind before command new
    → TakesTo before command made new
takes-to before command new made allowed made_by called late moment rack incoming =
    let after : Stage = record {
      gateway = gateway_of new.core;
      streams = stream_after before command;
      xids = xid_after before command;
      rack = rack_after before.rack command;
      moment = moment_after before.moment command;
    } in
    record {
      item = record {
        command = command;
        moment = moment_after before.moment command;
        message = message_of before command;
        group = made_by.group;
        note = note_line new.reply made.note;
      };
      after = after;
      command_is = refl;
      lines_are = ap (λ lines. lines ++ noted (note_line new.reply made.note)) made_by.lines;
      lines2_are = lines2 new.message made.intake (message_lines command (message_of before command)) (flat_map event_lines made_by.group)
          (begun_lines made.polled new.core.began) (moves_lines made.polled new.core.bus.means.moves) (noted (note_line new.reply made.note)) called made_by.lines2;
      moment_is = sym moment;
      answered_is = made_by.answered;
      takes = record {
        allowed = allowed;
        makes = made_by.makes;
        message = refl;
        at = refl;
        streams = λ conn. refl;
        xids = λ conn. refl;
        rack = refl;
        moment = refl;
      };
      stands = record { gateway = refl; late = late; moment = moment; rack = rack; incoming = incoming };
    }
