-- What a call leaves of the links of its connection.
use Rattle.std.specs.Prelude.{◌≡◌, ◌≤◌, ◌==◌, ℕ, true, List, ◌++◌, map, option_and_then, Ok}
use Rattle.vx_io_traits.specs.declared.dials.Rang.{Rang}
use Rattle.vx_calls.specs.declared.calls.Role.TheVariants as role
use Rattle.vx_calls.specs.declared.limits.TheConstants.{LINK_LAST}
use Rattle.vx_calls.specs.declared.targets.Target.{Target}
use Rattle.vx_calls.specs.ErrorCode.{error_number}
use Rattle.vx_calls.specs.Target.{target}
use Rattle.vx_calls.specs.Call.{Call}
use Rattle.vx_calls.specs.Call as call
use Rattle.vx_calls.specs.Reply.{Reply}
use Rattle.vx_calls.specs.Reply as reply
use Rattle.vx_gate.specs.declared.views.Logged.{Logged}
use Rattle.vx_gate.specs.History.{Lawful}
use Rattle.vx_exchange.specs.Meaning.{reply_record}
use Rattle.vx_group.specs.Groups.{Group, events_of}
use Rattle.vx_group.specs.Phases.{Idle, phase_by}
use Rattle.vx_group.specs.MadeLinks.{numbers_after, numbers_by}
use Rattle.vx_group.specs.Owning.{MayAdd}
use Rattle.vx_session.specs.Origin.{Origin}
use Rattle.vx_session.specs.Placing.{Placed, Chain}
use Rattle.vx_session.specs.Serving.{IsCalled}

-- What a call and its reply tell of links. A create_link without an error made one of a number up to 2^30 - 1, and its device text
-- names a target on a gateway of some own address. A call of links is answered by a reply of its kind.
abbrev pub TellsLinks : Call → Reply → Type 0
TellsLinks (call.CreateLink client lock lock_timeout device) (reply.CreateLink error lid abort_port max) =
    (error_number error == 0) ≡ true → (lid ≤ LINK_LAST) × (own : ℕ) × (named : Target) × (target device own ≡ Ok named)
TellsLinks (call.CreateLink client lock lock_timeout device) _ = ⊥
TellsLinks (call.DestroyLink lid) (reply.Error error) = Unit {0}
TellsLinks (call.DestroyLink lid) _ = ⊥
TellsLinks _ _ = Unit {0}

-- Behind the groups of a call, whatever groups its pass made before, its connection is idle, and the numbers of the connection's links
-- are those that one reply tells; and that reply is the one in the record. Where the groups stand in a lawful history, the reply tells
-- of links as it may.
pub record CalledTells (number conn xid : ℕ) (call : Call) (placed : List Placed) (out : List ℕ) : Type 0 where
  pub told : Reply
  pub reply_is : out ≡ reply_record xid told
  pub idle : (own : List Group) → phase_by conn (events_of (own ++ map (λ p. p.group) placed)) ≡ Idle role.Core
  pub numbers : (own : List Group) → numbers_by conn (events_of (own ++ map (λ p. p.group) placed)) ≡ option_and_then (numbers_after call told) (numbers_by conn (events_of own))
  pub links : (seen seen' : List (Logged Group)) → Chain number seen placed seen' → Lawful MayAdd seen' → TellsLinks call told

-- so it is of each call
abbrev pub CalledLinksLaw : {B : Type 0} → Origin B → Type 0
CalledLinksLaw g = (number conn xid : ℕ) (call : Call) (placed : List Placed) (calls : List Rang) (out : List ℕ) → IsCalled g number conn xid call placed calls out
    → CalledTells number conn xid call placed out
