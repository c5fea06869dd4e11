-- The lines of a step as the printer writes them.
use Rattle.std.specs.Prelude.{◌≡◌, ◌≤◌, ◌<◌, ◌+◌, ◌^◌, ℕ, true, false, List, [], ◌∷◌, Option, Some, None, IfSome}
use Rattle.std.specs.List.{All, flat_map}
use Rattle.vx_script.specs.declared.Version.{Version}
use Rattle.vx_script.specs.declared.Version.TheVariants as version
use Rattle.vx_trace.specs.declared.lines.Line.{Line}
use Rattle.vx_trace.specs.Output.{Output, line_shown}
use Rattle.vx_trace.specs.Text.{HasRanges, line_text, line_text2, text_room, IsWhole, is_first, is_timed}
use Rattle.vx_player.specs.declared.note.StepMade.{StepMade}
use Rattle.vx_player.specs.declared.printer.TheConstants.{STAMP_ROOM, INTAKE_ROOM, BEGUN_ROOM, MOVES_ROOM, NOTE_ROOM}
use Rattle.vx_player.specs.PlayerState.{PlayerState}
use Rattle.vx_player.specs.Standing.{made_lines, made_lines2}

-- a line's text, in version 2 with this moment
abbrev pub stamped : Option ℕ → Output → List ℕ
stamped None line = line_text line
stamped (Some moment) line = line_text2 moment line

-- the text of a line, where there is one
abbrev pub option_text : Option ℕ → Option Line → List ℕ
option_text moment None = []
option_text moment (Some line) = stamped moment (line_shown line)

-- the line is one of the output, of version 1 where it has no moment, and its text fits into so many bytes
pub record Writable (moment : Option ℕ) (line : Line) (room : ℕ) : Type 0 where
  pub whole : IsWhole (line_shown line)
  pub first : moment ≡ None → is_first (line_shown line) ≡ true
  pub fits : STAMP_ROOM + text_room (line_shown line) ≤ room

-- the lines of a step fit into the printer's room, one behind the other
pub record AreWritable (moment : Option ℕ) (intake begun moves note : Option Line) : Type 0 where
  pub intake_fits : IfSome intake (λ line. Writable moment line INTAKE_ROOM)
  pub begun_fits : IfSome begun (λ line. Writable moment line BEGUN_ROOM)
  pub moves_fits : IfSome moves (λ line. Writable moment line MOVES_ROOM)
  pub note_fits : IfSome note (λ line. Writable moment line NOTE_ROOM)

-- a line without a moment, which fits
pub record IsClosing (line : Line) : Type 0 where
  pub whole : IsWhole (line_shown line)
  pub closing : is_timed (line_shown line) ≡ false
  pub fits : STAMP_ROOM + text_room (line_shown line) ≤ NOTE_ROOM

-- the line that is shown, where there is one
abbrev pub outputs_of : Option Line → List Output
outputs_of None = []
outputs_of (Some line) = line_shown line ∷ []

-- the text of a step that made this
abbrev pub made_text : Version → PlayerState → StepMade → List ℕ
made_text version.One player made = flat_map line_text (made_lines player made)
made_text version.Two player made = flat_map (line_text2 player.moment) (made_lines2 player made)

-- the moment of a step that made this, and the numbers and bytes of its lines in version 2, are such as lines hold
pub record HasMadeRanges (player : PlayerState) (made : StepMade) : Type 0 where
  pub moment : player.moment < 2 ^ 64
  pub lines : All HasRanges (made_lines2 player made)
