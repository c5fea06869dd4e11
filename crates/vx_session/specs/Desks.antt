-- What a desk does with the messages of a connection, and with a whole link.
use Rattle.std.specs.Prelude.{◌≡◌, ℕ, List, Option, Some, None, Ok, Err}
use Rattle.vx_io_traits.specs.declared.links.Link.{Ghosts as OfLink}
use Rattle.vx_calls.specs.declared.calls.Role.{Role}
use Rattle.vx_calls.specs.declared.calls.Role.TheVariants as role
use Rattle.vx_calls.specs.declared.limits.TheConstants.{RECORD_MAX}
use Rattle.vx_record.specs.Fragments.{record_of}
use Rattle.vx_exchange.specs.Meaning as meant
use Rattle.vx_exchange.specs.Meaning.{Meaning, Junk, Asks, Aborts, meaning}
use Rattle.vx_state.specs.declared.tables.Connect.TheVariants as connect
use Rattle.vx_stream.specs.Answered.{Conversation}
use Rattle.vx_stream.specs.Stopping.{StreamAnswered}
use Rattle.vx_stream.specs.declared.ends.End.{End}
use Rattle.vx_session.specs.declared.desks.Desk.{Ghosts}
use Rattle.vx_session.specs.declared.attending.Attending.{Attending}
use Rattle.vx_session.specs.declared.sessions.TheConstants.{PIECE}
use Rattle.vx_session.specs.declared.links.Linked.{Linked}
use Rattle.vx_session.specs.declared.links.Linked.TheVariants as linked

-- What a message of this meaning does at a desk whose connection has this role. Junk, and what is answered without the desk, leave it
-- as it was.
abbrev pub DeskAnswers : {D : Type 0} → Ghosts D → Role → D → Meaning → Option (List ℕ) → D → Type 0
DeskAnswers ways r desk Junk None desk' = desk' ≡ desk
DeskAnswers ways r desk (meant.Answered message) (Some reply) desk' = (reply ≡ record_of message) × (desk' ≡ desk)
DeskAnswers ways r desk (Asks xid call) reply desk' = (r ≡ role.Core) × ways.asks desk xid call reply desk'
DeskAnswers ways r desk (Aborts xid lid) (Some reply) desk' = (r ≡ role.Abort) × ways.aborts desk xid lid reply desk'
DeskAnswers ways r desk _ _ desk' = ⊥

-- what a message does at a desk that attends a connection, which has no call then
pub record Attends {D : Type 0} (ways : Ghosts D) (s : Attending D) (message : List ℕ) (reply : Option (List ℕ)) (s' : Attending D) : Type 0 where
  pub role : s'.role ≡ s.role
  pub idle : ways.idle s.desk s.role
  pub answers : DeskAnswers ways s.role s.desk (meaning message s.role) reply s'.desk

-- The session of a connection of this role at a desk: the records of the link's stream were answered, each before the next, and then the
-- connection went.
pub record DeskSession {D L : Type 0} (ways : Ghosts D) (of_link : OfLink L) (r : Role) (before : Conversation D L) (how : End) (after : Conversation D L) : Type 0 where
  pub last : Attending D
  pub answered : StreamAnswered (Attends ways) of_link RECORD_MAX PIECE None (record { server = record { desk = before.server; role = r }; link = before.link })
      (Some how) (record { server = last; link = after.link })
  pub leaves : ways.leaves last.desk after.server

-- a connection came up, and had its session
pub record DeskServed {D L : Type 0} (ways : Ghosts D) (of_link : OfLink L) (r : Role) (before : Conversation D L) (how : End) (after : Conversation D L) : Type 0 where
  pub up : D
  pub joins : ways.joins before.server r (Ok tt) up
  pub session : DeskSession ways of_link r (record { server = up; link = before.link }) how after

-- a link at a desk: its connection had its session, or was refused, and the link is untouched
abbrev pub DeskLink : {D L : Type 0} → Ghosts D → OfLink L → Role → Conversation D L → Linked → Conversation D L → Type 0
DeskLink ways of_link r before (linked.Ended how) after = DeskServed ways of_link r before how after
DeskLink ways of_link r before linked.Full after = ways.joins before.server r (Err connect.Full) after.server × (after.link ≡ before.link)
DeskLink ways of_link r before linked.NoMemory after = ways.joins before.server r (Err connect.NoMemory) after.server × (after.link ≡ before.link)
