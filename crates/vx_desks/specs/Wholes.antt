-- To be believed.
-- What a whole guarded session did.
use Rattle.std.specs.Prelude.{◌≡◌, ◌≤◌, ◌<◌, ℕ, Bool, true, false, List, [], ◌∷◌, ◌++◌, length, Some}
use Rattle.std.specs.Io.KnownBytes.{Appends}
use Rattle.vx_io_traits.specs.Stands.{Goes}
use Rattle.vx_io_traits.specs.declared.links.Link.{Ghosts}
use Rattle.vx_calls.specs.declared.calls.Role.{Role}
use Rattle.vx_calls.specs.declared.calls.Role.TheVariants as role
use Rattle.vx_calls.specs.declared.limits.TheConstants.{RECORD_MAX}
use Rattle.vx_488.specs.Steps.{Cut}
use Rattle.vx_session.specs.Origin.{Origin}
use Rattle.vx_gate.specs.PassView.{PassView}
use Rattle.vx_text.specs.Ends.{End}
use Rattle.vx_text.specs.Writing.{StopsIn}
use Rattle.vx_record.specs.Records.{Split, records}
use Rattle.vx_exchange.specs.Meaning.{Meaning, Junk}
use Rattle.vx_gate.specs.History.{groups}
use Rattle.vx_group.specs.Event.{Down}
use Rattle.vx_group.specs.InterleavedState.{InterleavedState}
use Rattle.vx_group.specs.Groups.{Group, StandsFor}
use Rattle.vx_stream.specs.Answered.{Answered, messages, replies}
use Rattle.vx_stream.specs.Calling.{InTurn}
use Rattle.vx_stream.specs.Shown.{LinkShown, LinkGoes, link_shown}
use Rattle.vx_stream.specs.Stopping.{EndsSo}
use Rattle.vx_stream.specs.declared.ends.End as stream
use Rattle.vx_session.specs.Placing.{Placed, Makes}
use Rattle.vx_session.specs.Dialing.{DialShown}
use Rattle.vx_session.specs.Progress.{Rings, answered, placed, calls}
use Rattle.vx_session.specs.Ending.{Upholds}
use Rattle.vx_policy.specs.declared.made.MadeLink.{MadeLink}
use Rattle.vx_policy.specs.declared.rules.Rule.{Rule}
use Rattle.vx_policy.specs.Texts.{deny_line}
use Rattle.vx_desks.specs.declared.ruled_sessions.GuardEnd.{GuardEnd}
use Rattle.vx_desks.specs.declared.ruled_sessions.GuardEnd.TheVariants as guard
use Rattle.vx_desks.specs.Judged.{Judged, Guards, denial, notes, served}
use Rattle.vx_desks.specs.Known.{numbers_had, KnowsLinks}

-- how many bytes a session receives at once, at most
abbrev pub PIECE : ℕ
PIECE = 4096

-- the last message that was looked at is a call that a rule denied, and the note failed in its line: it has no reply, and the lines
-- before it stand whole
pub record NoteStops (means : List ℕ → Role → Meaning) (rules : List Rule) (peer conn : ℕ) (made : List MadeLink) (list : List Answered) (lines : List ℕ) (looked : Split) (unsent : List ℕ) (note note' : End) : Type 0 where
  pub message : List ℕ
  pub rule : ℕ
  pub looked_at : looked.records ≡ messages list ++ message ∷ []
  pub denied : denial rules peer made (means message role.Core) ≡ Some rule
  pub whole : unsent ≡ []
  pub between : End
  pub written : Appends note.bytes between.bytes lines
  pub counted : note.faults ≤ between.faults
  pub stops : StopsIn between note' (deny_line conn rule)

-- why it ended: as each session does, with the lines of all denials written; or the note failed
abbrev pub GuardEndsSo : (List ℕ → Role → Meaning) → List Rule → (peer conn : ℕ) → List MadeLink → (seen : LinkShown) → List Answered → (lines : List ℕ) → Split → (behind unsent : List ℕ) → (seen' : LinkShown) → (note note' : End)
    → GuardEnd → Type 0
GuardEndsSo means rules peer conn made seen list lines looked behind unsent seen' note note' (guard.Ended how) =
    EndsSo (λ message. means message role.Core ≡ Junk) seen list looked behind unsent seen' (Some how) × Appends note.bytes note'.bytes lines
    × (note.faults ≤ note'.faults)
GuardEndsSo means rules peer conn made seen list lines looked behind unsent seen' note note' guard.NoteFault =
    NoteStops means rules peer conn made list lines looked unsent note note'

-- what a guarded session has of its own: its pass and its link, what can be known of its dial, and what its note took
pub record GuardHolding (L : Type 0) : Type 0 where
  pub pass : PassView Group
  pub link : L
  pub dial : DialShown
  pub note : End

-- A guarded session on a core connection, of the peer at this address, where `means` is what each message means: the messages that it judged, in their order, and the links that
-- it knows at its end; the bytes `front` that it looked at, and those that it received behind them, fewer than it receives at once; the
-- replies, of which the link took `written`; and the end of the connection, its last group. It received more only where it had written
-- the replies to all records that had come, whole.
pub record GuardDid {B L : Type 0} (means : List ℕ → Role → Meaning) (g : Origin B) (ways : Ghosts L) (clocked : List Placed → Type 0) (told : ℕ) (rules : List Rule) (peer conn : ℕ)
    (before : GuardHolding L) (how : GuardEnd) (after : GuardHolding L) : Type 0 where
  pub items : List Judged
  pub made : List MadeLink
  pub last : Placed
  pub front : List ℕ
  pub behind : List ℕ
  pub written : List ℕ
  pub unsent : List ℕ
  -- each message by what the rules say of it: a call has its coming in these groups exactly where none of them denies it
  pub each : Guards means g before.pass.number conn rules peer [] items made
  -- the groups that the pass added: those of the messages, in order, and the end of the connection
  pub makes : Makes told before.pass (placed (served items) ++ last ∷ []) after.pass
  pub down : last.group.events ≡ Down conn ∷ []
  pub cut : last.group.steps ≡ Cut ∷ []
  -- where the connection had no link as the session began, the links that it knows are exactly those that the connection has
  pub knows : (first : InterleavedState) → StandsFor first (groups before.pass.seen) → numbers_had first conn ≡ []
      → KnowsLinks means g before.pass.number conn rules peer before.pass.own items after.pass.seen
  -- the bytes that came and went
  pub bytes : Goes ways.stands before.link after.link written (front ++ behind)
  pub goes : LinkGoes (link_shown ways before.link) (front ++ behind) (link_shown ways after.link)
  pub wrote : replies (answered (served items)) ≡ written ++ unsent
  pub near : length behind < PIECE
  pub in_turn : InTurn ways RECORD_MAX (answered (served items)) before.link (front ++ behind) written after.link
  pub ended : GuardEndsSo means rules peer conn made (link_shown ways before.link) (answered (served items)) (notes conn items) (records RECORD_MAX front) behind unsent (link_shown ways after.link) before.note after.note how
  -- the calls of the clock and of the dial for the groups of the messages
  pub asks : clocked (placed (served items))
  pub rings : Rings before.dial (placed (served items)) (calls (served items)) after.dial
  pub upholds : Upholds g after.pass

-- how a session ended whose stream ended so, where its note failed or not
abbrev pub guard_end : Bool → stream.End → GuardEnd
guard_end true how = guard.NoteFault
guard_end false how = guard.Ended how
