-- Laws of the turns by which connections come up and go.
use Rattle.std.specs.Prelude.{◌≡◌, ◌<◌, ◌+◌, ℕ, [], Ok, Err}
use Rattle.vx_calls.specs.declared.calls.Role.{Role}
use Rattle.vx_calls.specs.declared.limits.TheConstants.{CONNECTION_LAST}
use Rattle.vx_gate.specs.PassView.{PassView, all_parts}
use Rattle.vx_state.specs.declared.tables.Connect.{Connect}
use Rattle.vx_state.specs.declared.tables.Connect.TheVariants as connect
use Rattle.vx_group.specs.Groups.{Group, events_of}
use Rattle.vx_session.specs.Origin.{Origin}
use Rattle.vx_session.specs.Turning.{Joins, Leaves}
use Rattle.vx_session.specs.Counting.{ups, downs, ComesAndGoes, IsSessionClear}

-- A turn that connects adds one that comes up, and none that goes down.
abbrev pub JoinedLaw : {B : Type 0} → Origin B → Type 0
JoinedLaw g = (pass pass' : PassView Group) (r : Role) (conn : ℕ) → Joins g pass r (Ok conn) pass'
    → (ups (events_of pass'.own) ≡ ups (events_of pass.own) + 1) × (downs (events_of pass'.own) ≡ downs (events_of pass.own))

-- A turn that is refused a connection adds neither.
abbrev pub RefusedLaw : {B : Type 0} → Origin B → Type 0
RefusedLaw g = (pass pass' : PassView Group) (r : Role) (why : Connect) → Joins g pass r (Err why) pass'
    → (ups (events_of pass'.own) ≡ ups (events_of pass.own)) × (downs (events_of pass'.own) ≡ downs (events_of pass.own))

-- A turn by which a connection goes adds none that comes up, and one that goes down.
abbrev pub LeftLaw : {B : Type 0} → Origin B → Type 0
LeftLaw g = (pass pass' : PassView Group) (conn : ℕ) → Leaves g pass conn pass'
    → (ups (events_of pass'.own) ≡ ups (events_of pass.own)) × (downs (events_of pass'.own) ≡ downs (events_of pass.own) + 1)

-- A pass that was made with its gate, and has taken no turn, is clear.
abbrev pub ClearFirstLaw : Type 0
ClearFirstLaw = (pass : PassView Group) → pass.parts ≡ all_parts → pass.seen ≡ [] → pass.own ≡ [] → IsSessionClear 0 pass

-- So it is behind each connection that comes and goes.
abbrev pub ClearLaw : Type 0
ClearLaw = (count : ℕ) (pass pass' : PassView Group) → IsSessionClear count pass → ComesAndGoes pass pass' → IsSessionClear (count + 1) pass'

-- No connect of such a pass is refused because 64 connections of its role live, or no number is left, unless 2^31 - 1 came before.
abbrev pub NeverFullLaw : {B : Type 0} → Origin B → Type 0
NeverFullLaw g = (count : ℕ) (pass pass' : PassView Group) (r : Role) → IsSessionClear count pass → count < CONNECTION_LAST → Joins g pass r (Err connect.Full) pass' → ⊥
