use Rattle.std.proofs.Common.{◌++◌, ◌<◌, [], length, None, Some, refl, sym, subst, ap, rules, ◌∙◌}
use Rattle.std.specs.Prelude.{◌^◌}
use Rattle.vx_text.specs.Ends.{sink_shown}
use Rattle.vx_text.specs.declared.output.SinkFailed.{SinkFailed}
use Rattle.vx_text.specs.Writing.{IsPut}
use Rattle.vx_player.specs.Standing.{NoteWithin, moves_lines, note_line, intake_lines, begun_lines}
use Rattle.vx_player.proofs.Laws.Printed.{texts, intake-writable, begun-writable, moves-writable, note-writable, lines-put, lines-ranges}
use Rattle.vx_run.specs.Item.{noted}
use Rattle.vx_play.proofs.run.put_made.Goals as goal

pub note_line-note-requires : goal.note_line-note-requires
note_line-note-requires g c = subst (λ r. NoteWithin (length r) c.args.made.note) (sym c.room.ensures.value) c.requires.note

pub lines-requires : goal.lines-requires
lines-requires g c = record {
  intake_fits = tt;
  begun_fits = tt;
  moves_fits = moves-writable None _ c.args.made.polled _ (c.moves_line-moves.ensures ∙ ap (λ m. moves_lines c.args.made.polled m) c.moves.ensures) c.requires.few;
  note_fits = note-writable None _ c.room.result.now c.args.made.note c.note_line-note.ensures
      (subst (λ r. NoteWithin (length r) c.args.made.note) (sym c.room.ensures.value) c.requires.note) c.room.ensures.len;
}

pub lines-requires-in-Two : goal.lines-requires-in-Two
lines-requires-in-Two g c = record {
  intake_fits = intake-writable c.moment.result _ c.message.result.now c.args.made.intake c.intake_line-intake.ensures c.message.ensures.len;
  begun_fits = begun-writable c.moment.result _ c.args.made.polled c.began.result c.begun_line-begun.ensures;
  moves_fits = moves-writable (Some c.moment.result) _ c.args.made.polled _ (c.moves_line-moves.ensures ∙ ap (λ m. moves_lines c.args.made.polled m) c.moves.ensures)
      c.requires.few;
  note_fits = note-writable (Some c.moment.result) _ c.room.result.now c.args.made.note c.note_line-note.ensures
      (subst (λ r. NoteWithin (length r) c.args.made.note) (sym c.room.ensures.value) c.requires.note) c.room.ensures.len;
}

pub returns-in-One-clause-put : goal.returns-in-One-clause-put
returns-in-One-clause-put g c =
    rw c.in-One.is (lines-put {E = SinkFailed}
    (sink_shown g.K.Sink c.args.sink.now)
    (sink_shown g.K.Sink c.put_all.new.sink) _ None None None _ _ [] [] _ _ c.put_all.result
    c.lines.ensures.text refl refl
    (c.moves_line-moves.ensures ∙ ap (λ m. moves_lines c.args.made.polled m) c.moves.ensures)
    (c.note_line-note.ensures ∙ ap (λ r. note_line r c.args.made.note) c.room.ensures.value) c.put_all.ensures.put)

pub returns-in-Two-clause-put : goal.returns-in-Two-clause-put
returns-in-Two-clause-put g c =
    rw c.in-Two.is (subst (λ m. IsPut
    (sink_shown g.K.Sink c.args.sink.now)
    (sink_shown g.K.Sink c.put_all-in-Two.new.sink)
    (texts (Some m) (intake_lines c.args.player.now.message c.args.made.intake ++ begun_lines c.args.made.polled c.args.player.now.core.began
    ++ moves_lines c.args.made.polled c.args.player.now.core.bus.means.moves ++ noted (note_line c.args.player.now.reply c.args.made.note))) c.put_all-in-Two.result) c.moment.ensures
    (lines-put {E = SinkFailed}
    (sink_shown g.K.Sink c.args.sink.now)
    (sink_shown g.K.Sink c.put_all-in-Two.new.sink) _ (Some c.moment.result) _ _ _ _ _ _ _ _ c.put_all-in-Two.result
    c.lines-in-Two.ensures.text
    (c.intake_line-intake.ensures ∙ ap (λ m. intake_lines m c.args.made.intake) c.message.ensures.value)
    (c.begun_line-begun.ensures ∙ ap (λ b. begun_lines c.args.made.polled b) c.began.ensures)
    (c.moves_line-moves.ensures ∙ ap (λ m. moves_lines c.args.made.polled m) c.moves.ensures)
    (c.note_line-note.ensures ∙ ap (λ r. note_line r c.args.made.note) c.room.ensures.value) c.put_all-in-Two.ensures.put))

pub returns-in-Two-clause-printable : goal.returns-in-Two-clause-printable
returns-in-Two-clause-printable g c = λ is. record {
  moment = subst (λ m. m < 2 ^ 64) c.moment.ensures (search rules);
  lines = lines-ranges _ _ _ _ _ _ _ _
      (c.intake_line-intake.ensures ∙ ap (λ m. intake_lines m c.args.made.intake) c.message.ensures.value)
      (c.begun_line-begun.ensures ∙ ap (λ b. begun_lines c.args.made.polled b) c.began.ensures)
      (c.moves_line-moves.ensures ∙ ap (λ m. moves_lines c.args.made.polled m) c.moves.ensures)
      (c.note_line-note.ensures ∙ ap (λ r. note_line r c.args.made.note) c.room.ensures.value) c.lines-in-Two.ensures.fits;
}
