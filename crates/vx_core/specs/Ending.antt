-- How a poll ended, as events know it.
use Rattle.std.specs.Prelude.{ℕ, Bool, false, List}
use Rattle.vx_state.specs.declared.tables.lines.Bar.{Bar}
use Rattle.vx_state.specs.declared.tables.lines.Bar.TheVariants as bar
use Rattle.vx_flow.specs.declared.progress.Why.{Why}
use Rattle.vx_flow.specs.declared.progress.Why.TheVariants as why
use Rattle.vx_flow.specs.Poll as poll
use Rattle.vx_core.specs.declared.ended.Ended.{Ended}
use Rattle.vx_core.specs.declared.ended.Ended.TheVariants as ended
use Rattle.vx_core.specs.Given.{given_reply, given_len}

-- the ending, with a reply's bytes from the front of the room
abbrev pub ended_shown : Ended → List ℕ → poll.Ending
ended_shown (ended.Answered r level given) room = poll.Answered r level (given_reply given room)
ended_shown (ended.Waited why) room = poll.Waited why
ended_shown (ended.Dialed host port) room = poll.Dialed host port

-- how many bytes of the room its reply has
abbrev pub ended_len : Ended → ℕ
ended_len (ended.Answered r level given) = given_len given
ended_len _ = 0

-- why a call waits that is kept off its target
abbrev pub why_barred : Bar → Why
why_barred (bar.HeldBy link) = why.Locked link
why_barred (bar.Behind conn) = why.Behind conn

-- whether the poll went on with its call's turn
abbrev pub has_run : Ended → Bool
has_run (ended.Answered r level given) = poll.is_run r
has_run (ended.Waited w) = poll.is_run (poll.ran_before w)
has_run (ended.Dialed host port) = false
