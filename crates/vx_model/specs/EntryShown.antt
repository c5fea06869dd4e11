-- The entry that an `EntryRef` shows.
use Rattle.vx_calls.specs.Call.{call_shown}
use Rattle.vx_calls.specs.Reply.{reply_shown}
use Rattle.vx_srq.specs.Shown.{given_shown}
use Rattle.vx_model.specs.declared.entry.EntryRef.{EntryRef}
use Rattle.vx_model.specs.declared.entry.EntryRef.TheVariants as seen
use Rattle.vx_rules.specs.Entry.{Entry, Up, Down, Arrive, Answer, Abort, Sample, Take}

abbrev pub entry_shown : EntryRef → Entry
entry_shown (seen.Up conn role) = Up conn role
entry_shown (seen.Down conn moves) = Down conn moves.now
entry_shown (seen.Arrive conn asked now) = Arrive conn (call_shown asked) now
entry_shown (seen.Answer conn now begun moves failed dialed level told) = Answer conn now begun moves.now failed dialed level (reply_shown told)
entry_shown (seen.Abort conn lid told) = Abort conn lid told
entry_shown (seen.Sample now srq) = Sample now srq
entry_shown (seen.Take conn chan told) = Take conn chan (given_shown told)
