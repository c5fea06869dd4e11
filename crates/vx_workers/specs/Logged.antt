-- What a log tells, and how a link's work ended in its words.
use Rattle.std.specs.Prelude.{ℕ, None}
use Rattle.vx_text.specs.Ends.{End as Lines}
use Rattle.vx_stream.specs.declared.ends.End.{End}
use Rattle.vx_stream.specs.declared.ends.End.TheVariants as end
use Rattle.vx_session.specs.declared.links.Linked.{Linked}
use Rattle.vx_session.specs.declared.links.Linked.TheVariants as linked
use Rattle.vx_startup.specs.declared.logging.News.{News}
use Rattle.vx_startup.specs.declared.logging.News.TheVariants as news
use Rattle.vx_startup.specs.declared.logging.Reason.{Reason}
use Rattle.vx_startup.specs.declared.logging.Reason.TheVariants as why

-- why a session ended
abbrev pub reason_of : End → Reason
reason_of end.Closed = why.Closed
reason_of (end.CutShort bytes) = why.CutShort
reason_of (end.Junk size) = why.Junk
reason_of end.TooLong = why.TooLong
reason_of end.ReadFault = why.ReadFault
reason_of end.WriteFault = why.WriteFault

-- it had its session, and so many of its calls were answered; or it was refused
abbrev pub news_of : Linked → ℕ → News
news_of (linked.Ended e) calls = news.Ended (reason_of e) calls
news_of linked.Full calls = news.Full
news_of linked.NoMemory calls = news.NoMemory

-- a log as what is told of denials: it tells none of its lines, and no fault
abbrev pub untold : Lines
untold = record { bytes = None; faults = 0 }
