-- To be believed.
-- What a whole session of connections to four buses did.
use Rattle.std.specs.Prelude.{◌≡◌, ◌≢◌, ◌≤◌, ◌<◌, ℕ, List, [], ◌∷◌, ◌++◌, length, Some}
use Rattle.std.specs.List.{All, AllPairs}
use Rattle.vx_io_traits.specs.Stands.{Goes}
use Rattle.vx_io_traits.specs.declared.links.Link.{Ghosts}
use Rattle.vx_calls.specs.declared.calls.Role.{Role}
use Rattle.vx_calls.specs.declared.limits.TheConstants.{RECORD_MAX}
use Rattle.vx_488.specs.Steps.{Cut}
use Rattle.vx_gate.specs.History.{groups}
use Rattle.vx_gate.specs.PassView.{PassView}
use Rattle.vx_desks.specs.declared.routes.counts.Count.{Count}
use Rattle.vx_desks.specs.declared.routes.counts.Count.TheVariants as counts
use Rattle.vx_desks.specs.Four.{Four, at}
use Rattle.vx_record.specs.Records.{records}
use Rattle.vx_exchange.specs.Meaning.{meaning, Junk}
use Rattle.vx_group.specs.Event.{Down}
use Rattle.vx_group.specs.Groups.{Group, events_of}
use Rattle.vx_flow.specs.Linearization.{linearization}
use Rattle.vx_rules.specs.Numbers.{links_given}
use Rattle.vx_rules.specs.Entry.{Entry}
use Rattle.vx_desks.specs.Given.{IsLink, given_by_all}
use Rattle.vx_stream.specs.Answered.{replies}
use Rattle.vx_stream.specs.Calling.{InTurn}
use Rattle.vx_stream.specs.Shown.{LinkGoes, link_shown}
use Rattle.vx_stream.specs.Stopping.{EndsSo}
use Rattle.vx_stream.specs.declared.ends.End.{End}
use Rattle.vx_session.specs.Placing.{Placed, Makes}
use Rattle.vx_session.specs.Turning.{Leaves}
use Rattle.vx_session.specs.Ending.{Upholds}
use Rattle.vx_desks.specs.Origins.{Origins, on, OnEach}
use Rattle.vx_desks.specs.FleetServing.{Item, FleetServes, answered, placed, placed_on, numbers}

-- the connection of each bus went
abbrev pub LeavesAll : {B : Type 0} → Origins B → Four (PassView Group) → Four ℕ → Four (PassView Group) → Type 0
LeavesAll g passes conns passes' = OnEach (λ o pass conn pass'. Leaves o pass conn pass') g passes conns passes'

-- the events of what a pass has seen, as a history of the gateway of one thread
abbrev pub history_of : PassView Group → List Entry
history_of pass = linearization (events_of (groups pass.seen))

-- no number of a link is given twice over what four passes have seen, each of its own bus, as clients know the numbers
abbrev pub GivesOnce : Four (PassView Group) → Type 0
GivesOnce passes = AllPairs (λ a b. a ≢ b) (given_by_all (history_of passes.zero_) (history_of passes.one) (history_of passes.two) (history_of passes.three))

-- how many bytes a session receives at once, at most
abbrev pub at_once : ℕ
at_once = 4096

-- what a session has of its own: its passes, one of each bus, and its link
pub record FleetHolding (L : Type 0) : Type 0 where
  pub passes : Four (PassView Group)
  pub link : L

-- A session at a fleet that serves so many buses, on connections of this role, one of each of the four: the records that it served, in
-- their order; the bytes `front` that it looked at, and those that it received behind them, fewer than it receives at once; the replies, of
-- which the link took `written`; and the end of each connection. It received more only where it had written the replies to all records that
-- had come, whole.
pub record FleetSessionDid {B L : Type 0} (count : Count) (g : Origins B) (ways : Ghosts L) (clocked : List Placed → Type 0) (told : ℕ) (r : Role) (conns : Four ℕ) (before : FleetHolding L) (how : End) (after : FleetHolding L) : Type 0 where
  pub items : List Item
  pub lasts : Four Placed
  pub front : List ℕ
  pub behind : List ℕ
  pub written : List ℕ
  pub unsent : List ℕ
  -- the groups that the pass of each bus added: those of the records that its bus served, in order, and the end of its connection
  pub makes : (bus : ℕ) → bus ≤ 3 → Makes told (at bus before.passes) (placed_on bus items ++ at bus lasts ∷ []) (at bus after.passes)
  pub each : All (FleetServes count g (numbers before.passes) conns r) items
  pub down : (bus : ℕ) → bus ≤ 3 → (at bus lasts).group.events ≡ Down (at bus conns) ∷ []
  pub cut : (bus : ℕ) → bus ≤ 3 → (at bus lasts).group.steps ≡ Cut ∷ []
  -- the bytes that came and went
  pub bytes : Goes ways.stands before.link after.link written (front ++ behind)
  pub goes : LinkGoes (link_shown ways before.link) (front ++ behind) (link_shown ways after.link)
  pub wrote : replies (answered items) ≡ written ++ unsent
  pub near : length behind < at_once
  pub in_turn : InTurn ways RECORD_MAX (answered items) before.link (front ++ behind) written after.link
  -- why it ended: a message without a reply is junk
  pub ended : EndsSo (λ message. meaning message r ≡ Junk) (link_shown ways before.link) (answered items) (records RECORD_MAX front) behind unsent (link_shown ways after.link) (Some how)
  -- the calls of the clock for the groups of the records
  pub asks : clocked (placed items)
  -- each bus has a legal history of its own, over the one bus that its gate was started over, with its laws
  pub upholds : (bus : ℕ) → bus ≤ 3 → Upholds (on bus g) (at bus after.passes)
  -- no number of a link is given twice over all four
  pub links : (bus : ℕ) → bus ≤ 3 → All IsLink (links_given (history_of (at bus after.passes)))
  pub once : GivesOnce after.passes

-- a session at a fleet of four
abbrev pub SessionDid : {B L : Type 0} → Origins B → Ghosts L → (List Placed → Type 0) → ℕ → Role → Four ℕ → FleetHolding L → End → FleetHolding L → Type 0
SessionDid g ways clocked told r conns before how after = FleetSessionDid counts.Four g ways clocked told r conns before how after
