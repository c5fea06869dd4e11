-- The lines of a step fit into the printer's room, and their text is the step's.
use Rattle.std.proofs.Common.{IsTrue, Result, ◌≡◌, ◌≤◌, ◌<◌, ◌+◌, ◌*◌, ℕ, Bool, true, false, List, [], ◌∷◌, ◌++◌, length, take, Option, Some, None, IfSome, IsSome, refl, ap, sym, subst, ◌∙◌, arith, length-take, append-nil}
use Rattle.std.specs.Prelude.{option_map}
use Rattle.std.specs.List.{All, flat_map}
use Rattle.std.proofs.lemmas.List.{append_assoc}
use Rattle.std.proofs.lemmas.Grind.{flat_map-append}
use Rattle.vx_488.specs.declared.transfers.Transfer.{Transfer}
use Rattle.vx_calls.specs.declared.limits.TheConstants.{SLICE_MAX, RECORD_MAX}
use Rattle.vx_trace.specs.declared.lines.Line.{Line}
use Rattle.vx_trace.specs.Output.{Output, Up, Call, Begin, DialDone, Srq, Bus, Out, Irq, line_shown}
use Rattle.vx_trace.specs.Text.{text_room, HasRanges, IsWhole, is_first, is_cause}
use Rattle.vx_script.specs.declared.Cause.{Cause}
use Rattle.vx_script.specs.Cause.{cause_word}
use Rattle.vx_setup.proofs.Laws.{is_named}
use Rattle.vx_player.specs.declared.note.Intake.{Intake}
use Rattle.vx_player.specs.declared.note.Intake.TheVariants as intake
use Rattle.vx_player.specs.declared.note.Note.{Note}
use Rattle.vx_player.specs.declared.note.Note.TheVariants as note
use Rattle.vx_player.specs.declared.printer.TheConstants.{STAMP_ROOM, INTAKE_ROOM, BEGUN_ROOM, MOVES_ROOM, NOTE_ROOM}
use Rattle.vx_exchange.specs.declared.record.TheConstants.{REPLY_ROOM}
use Rattle.vx_text.specs.Ends.{End}
use Rattle.vx_text.specs.Writing.{IsPut}
use Rattle.vx_run.specs.Item.{noted}
use Rattle.vx_player.specs.Standing.{note_line, moves_lines, intake_lines, begun_lines, NoteWithin}
use Rattle.vx_player.specs.declared.note.Gone.TheVariants as gone
use Rattle.vx_player.proofs.Shown.{waits}
use Rattle.vx_player.specs.Printing.{Writable, stamped, option_text, outputs_of}

-- an output line that fits into so many bytes, with a moment or without
record Fits (moment : Option ℕ) (line : Output) (room : ℕ) : Type 0 where
  whole : IsWhole line
  first : moment ≡ None → is_first line ≡ true
  fits : STAMP_ROOM + text_room line ≤ room

-- a line that shows one that fits
shows : (moment : Option ℕ) (line : Line) (shown : Output) (room : ℕ) → line_shown line ≡ shown → Fits moment shown room → Writable moment line room
shows moment line shown room is fit =
    let f = subst (λ o. Fits moment o room) (sym is) fit in record { whole = f.whole; first = f.first; fits = f.fits }

-- a line of version 2 alone has a moment
timed : (m : ℕ) (line : Output) → Some m ≡ None → is_first line ≡ true
timed m line none = absurd (cc)

-- the line of what a step gave the gateway fits
pub intake-writable : (m : ℕ) (line : Option Line) (message : List ℕ) (i : Intake) → outputs_of line ≡ intake_lines message i → length message ≤ RECORD_MAX
    → IfSome line (λ l. Writable (Some m) l INTAKE_ROOM)
intake-writable m None message i is few = tt
intake-writable m (Some line) message intake.Nothing is few = absurd (cc)
intake-writable m (Some line) message (intake.Up conn role) is few =
    shows (Some m) line (Up conn role) INTAKE_ROOM (cc) (record { whole = tt; first = timed m (Up conn role); fits = omega arith })
intake-writable m (Some line) message (intake.Message conn) is few =
    shows (Some m) line (Call conn message) INTAKE_ROOM (cc) (record { whole = tt; first = timed m (Call conn message); fits = omega arith })
intake-writable m (Some line) message (intake.Dialed conn up) is few =
    shows (Some m) line (DialDone conn up) INTAKE_ROOM (cc) (record { whole = tt; first = timed m (DialDone conn up); fits = omega arith })
intake-writable m (Some line) message (intake.Sampled level) is few =
    shows (Some m) line (Srq level) INTAKE_ROOM (cc) (record { whole = tt; first = timed m (Srq level); fits = omega arith })

-- the line of the turn that a poll began fits
pub begun-writable : (m : ℕ) (line : Option Line) (polled : Option ℕ) (began : Bool) → outputs_of line ≡ begun_lines polled began → IfSome line (λ l. Writable (Some m) l BEGUN_ROOM)
begun-writable m None polled began is = tt
begun-writable m (Some line) None began is = absurd (cc)
begun-writable m (Some line) (Some conn) false is = absurd (cc)
begun-writable m (Some line) (Some conn) true is =
    shows (Some m) line (Begin conn) BEGUN_ROOM (cc) (record { whole = tt; first = timed m (Begin conn); fits = omega arith })

-- the line of a poll's transfers fits
pub moves-writable : (moment : Option ℕ) (line : Option Line) (polled : Option ℕ) (moves : List Transfer) → outputs_of line ≡ moves_lines polled moves
    → (IsSome polled → length moves ≤ SLICE_MAX) → IfSome line (λ l. Writable moment l MOVES_ROOM)
moves-writable moment None polled moves is few = tt
moves-writable moment (Some line) None moves is few = absurd (cc)
moves-writable moment (Some line) (Some conn) [] is few = absurd (cc)
moves-writable moment (Some line) (Some conn) (t ∷ ts) is few =
    let within : length (t ∷ ts) ≤ SLICE_MAX = few refl in
    shows moment line (Bus conn (t ∷ ts)) MOVES_ROOM (cc) (record { whole = omega arith; first = λ none. refl; fits = omega arith })

-- a record at the front of the room fits
front_fits : (room : List ℕ) (len : ℕ) → 0 < len → len ≤ length room → length room ≡ REPLY_ROOM
    → (0 < length (take len room)) × (STAMP_ROOM + (16 + 2 * length (take len room)) ≤ NOTE_ROOM)
front_fits room len some within all = let n = length-take len room in (omega arith, omega arith)

-- a line that is there and fits
fits_as : (moment : Option ℕ) (line shown : Output) → Some line ≡ Some shown → Fits moment line NOTE_ROOM → Fits moment shown NOTE_ROOM
fits_as moment line shown is fit =
    let e : line ≡ shown = cc in
    subst (λ o. Fits moment o NOTE_ROOM) e fit

-- the line of a note fits
note_fits : (moment : Option ℕ) (room : List ℕ) (n : Note) (shown : Output) → note_line room n ≡ Some shown → NoteWithin (length room) n → length room ≡ REPLY_ROOM
    → Fits moment shown NOTE_ROOM
note_fits moment room note.Nothing shown is within all = absurd (cc)
note_fits moment room (note.Replied conn len) shown is within all =
    let f = front_fits room len within.0 within.1 all in
    let e : Out conn (take len room) ≡ shown = cc in
    subst (λ o. Fits moment o NOTE_ROOM) e (record { whole = f.0; first = λ none. refl; fits = f.1 })
note_fits moment room (note.Waiting conn why) shown is within all =
    let w = waits conn why in
    let small = w.fits in
    fits_as moment _ shown is (record { whole = w.whole; first = λ none. w.first; fits = omega arith })
note_fits moment room (note.Interrupt conn len) shown is within all =
    let f = front_fits room len within.0 within.1 all in
    let e : Irq conn (take len room) ≡ shown = cc in
    subst (λ o. Fits moment o NOTE_ROOM) e (record { whole = f.0; first = λ none. refl; fits = f.1 })
note_fits moment room (note.Ended conn gone.Down) shown is within all = fits_as moment _ shown is (record { whole = tt; first = λ none. refl; fits = omega arith })
note_fits moment room (note.Ended conn _) shown is within all = fits_as moment _ shown is (record { whole = tt; first = λ none. refl; fits = omega arith })
note_fits moment room _ shown is within all = fits_as moment _ shown is (record { whole = tt; first = λ none. refl; fits = omega arith })

pub note-writable : (moment : Option ℕ) (line : Option Line) (room : List ℕ) (n : Note) → option_map line_shown line ≡ note_line room n → NoteWithin (length room) n
    → length room ≡ REPLY_ROOM → IfSome line (λ l. Writable moment l NOTE_ROOM)
note-writable moment None room n is within all = tt
note-writable moment (Some line) room n is within all =
    shows moment line (line_shown line) NOTE_ROOM refl (note_fits moment room n (line_shown line) (sym is) within all)

-- the line of a fault fits
pub fault-writable : (why : Cause) (word : List ℕ) → word ≡ cause_word why → IsTrue (is_cause word) × (STAMP_ROOM + 39 ≤ NOTE_ROOM)
fault-writable why word is = (subst (λ w. IsTrue (is_cause w)) (sym is) (is_named why), omega arith)

-- ---- the text of lines is that of the outputs that they show

abbrev pub texts : Option ℕ → List Output → List ℕ
texts moment lines = flat_map (stamped moment) lines

one_text : (moment : Option ℕ) (line : Option Line) → option_text moment line ≡ texts moment (outputs_of line)
one_text moment None = refl
one_text moment (Some line) = sym (append-nil (stamped moment (line_shown line)))

told_text : (moment : Option ℕ) (line : Option Line) → option_text moment line ≡ texts moment (noted (option_map line_shown line))
told_text moment None = refl
told_text moment (Some line) = sym (append-nil (stamped moment (line_shown line)))

pub lines-text : (moment : Option ℕ) (first second third last : Option Line) (a b c : List Output) (told : Option Output) → outputs_of first ≡ a → outputs_of second ≡ b
    → outputs_of third ≡ c → option_map line_shown last ≡ told
    → (option_text moment first ++ option_text moment second) ++ (option_text moment third ++ option_text moment last) ≡ texts moment (a ++ b ++ c ++ noted told)
lines-text moment first second third last a b c told ha hb hc hd =
    sym (append_assoc (option_text moment first ++ option_text moment second) (option_text moment third) (option_text moment last))
    ∙ ap (λ x. x ++ option_text moment second ++ option_text moment third ++ option_text moment last) (one_text moment first ∙ ap (texts moment) ha)
    ∙ ap (λ x. texts moment a ++ x ++ option_text moment third ++ option_text moment last) (one_text moment second ∙ ap (texts moment) hb)
    ∙ ap (λ x. texts moment a ++ texts moment b ++ x ++ option_text moment last) (one_text moment third ∙ ap (texts moment) hc)
    ∙ ap (λ x. texts moment a ++ texts moment b ++ texts moment c ++ x) (told_text moment last ∙ ap (λ o. texts moment (noted o)) hd)
    ∙ ap (λ x. x ++ texts moment c ++ texts moment (noted told)) (sym (flat_map-append (stamped moment) a b))
    ∙ ap (λ x. x ++ texts moment (noted told)) (sym (flat_map-append (stamped moment) (a ++ b) c))
    ∙ sym (flat_map-append (stamped moment) (a ++ b ++ c) (noted told))

-- what came of writing the text of lines
pub lines-put : {E : Type 0} (before after : End) (written : List ℕ) (moment : Option ℕ) (first second third last : Option Line) (a b c : List Output) (told : Option Output)
    (result : Result Unit E) → written ≡ (option_text moment first ++ option_text moment second) ++ (option_text moment third ++ option_text moment last)
    → outputs_of first ≡ a → outputs_of second ≡ b → outputs_of third ≡ c → option_map line_shown last ≡ told
    → IsPut before after written result → IsPut before after (texts moment (a ++ b ++ c ++ noted told)) result
lines-put before after written moment first second third last a b c told result is ha hb hc hd put =
    subst (λ text. IsPut before after text result) (is ∙ lines-text moment first second third last a b c told ha hb hc hd) put

-- the outputs that lines in their ranges show are in them
pub lines-ranges : (first second third last : Option Line) (a b c : List Output) (told : Option Output) → outputs_of first ≡ a → outputs_of second ≡ b → outputs_of third ≡ c
    → option_map line_shown last ≡ told → All HasRanges ((outputs_of first ++ outputs_of second) ++ (outputs_of third ++ outputs_of last))
    → All HasRanges (a ++ b ++ c ++ noted told)
lines-ranges first second third last a b c told ha hb hc hd all =
    subst (All HasRanges)
    (sym (append_assoc (outputs_of first ++ outputs_of second) (outputs_of third) (outputs_of last))
    ∙ ap (λ x. x ++ outputs_of second ++ outputs_of third ++ outputs_of last) ha ∙ ap (λ x. a ++ x ++ outputs_of third ++ outputs_of last) hb
    ∙ ap (λ x. a ++ b ++ x ++ outputs_of last) hc ∙ ap (λ x. a ++ b ++ c ++ x) (shown last ∙ ap noted hd)) all
  where
    shown : (line : Option Line) → outputs_of line ≡ noted (option_map line_shown line)
    shown None = refl
    shown (Some line) = refl
