-- To be believed.
-- What a whole session did.
use Rattle.std.specs.Prelude.{◌≡◌, ◌<◌, ℕ, List, [], ◌∷◌, ◌++◌, length, Some}
use Rattle.std.specs.List.{All}
use Rattle.vx_io_traits.specs.Stands.{Goes}
use Rattle.vx_io_traits.specs.declared.links.Link.{Ghosts}
use Rattle.vx_calls.specs.declared.calls.Role.{Role}
use Rattle.vx_calls.specs.declared.limits.TheConstants.{RECORD_MAX}
use Rattle.vx_488.specs.Steps.{Cut}
use Rattle.vx_gate.specs.History.{groups}
use Rattle.vx_gate.specs.PassView.{PassView}
use Rattle.vx_record.specs.Records.{records}
use Rattle.vx_exchange.specs.Meaning.{Meaning, Junk}
use Rattle.vx_group.specs.Event.{Down}
use Rattle.vx_group.specs.Claims.{Claims}
use Rattle.vx_group.specs.Groups.{Group, events_of}
use Rattle.vx_group.specs.Owning.{Owned}
use Rattle.vx_stream.specs.Answered.{replies}
use Rattle.vx_stream.specs.Calling.{InTurn}
use Rattle.vx_stream.specs.Stopping.{EndsSo}
use Rattle.vx_stream.specs.declared.ends.End.{End}
use Rattle.vx_session.specs.Origin.{Origin}
use Rattle.vx_session.specs.Placing.{Placed, Makes, IsHistory}
use Rattle.vx_stream.specs.Shown.{LinkGoes, link_shown}
use Rattle.vx_session.specs.Dialing.{DialShown}
use Rattle.vx_session.specs.Serving.{Item, SessionServes}
use Rattle.vx_session.specs.Progress.{Rings, answered, placed, calls}
use Rattle.vx_session.specs.declared.sessions.TheConstants.{PIECE}

-- All that is claimed of the history that the pass has seen: the first core became by it another, whose bus is the one that the
-- first one's bus became by all steps of the history, in order; its events linearize to a legal history of one gateway of one thread,
-- with the laws of locks, heard bytes and interrupts; and each connection's calls and answers are of one pass.
pub record Upholds {B : Type 0} (g : Origin B) (pass : PassView Group) : Type 0 where
  pub history : IsHistory g pass.seen
  pub claims : Claims g.first.interleaved.state.tables.abort_port (events_of (groups pass.seen))
  pub owned : Owned pass.seen

-- what a session has of its own: its pass and its link, and what can be known of its dial
pub record Holding (L : Type 0) : Type 0 where
  pub pass : PassView Group
  pub link : L
  pub dial : DialShown

-- A session on a connection of this role, by what a message means there: the records that it served, in their order; the bytes `front` that it looked at, and
-- those that it received behind them, fewer than it receives at once; the replies, of which the link took `written`; and the end of
-- the connection, its last group. It received more only where it had written the replies to all records that had come, whole.
pub record SessionDid {B L : Type 0} (means : List ℕ → Role → Meaning) (g : Origin B) (ways : Ghosts L) (clocked : List Placed → Type 0) (told : ℕ) (r : Role) (conn : ℕ) (before : Holding L) (how : End) (after : Holding L) : Type 0 where
  pub items : List Item
  pub last : Placed
  pub front : List ℕ
  pub behind : List ℕ
  pub written : List ℕ
  pub unsent : List ℕ
  -- the groups that the pass added: those of the records, in order, and the end of the connection
  pub makes : Makes told before.pass (placed items ++ last ∷ []) after.pass
  pub each : All (SessionServes means g before.pass.number conn r) items
  pub down : last.group.events ≡ Down conn ∷ []
  pub cut : last.group.steps ≡ Cut ∷ []
  -- the bytes that came and went
  pub bytes : Goes ways.stands before.link after.link written (front ++ behind)
  pub goes : LinkGoes (link_shown ways before.link) (front ++ behind) (link_shown ways after.link)
  pub wrote : replies (answered items) ≡ written ++ unsent
  pub near : length behind < PIECE
  pub in_turn : InTurn ways RECORD_MAX (answered items) before.link (front ++ behind) written after.link
  -- why it ended: a message without a reply is junk
  pub ended : EndsSo (λ message. means message r ≡ Junk) (link_shown ways before.link) (answered items) (records RECORD_MAX front) behind unsent (link_shown ways after.link) (Some how)
  -- the calls of the clock and of the dial for the groups of the records
  pub asks : clocked (placed items)
  pub rings : Rings before.dial (placed items) (calls items) after.dial
  pub upholds : Upholds g after.pass
