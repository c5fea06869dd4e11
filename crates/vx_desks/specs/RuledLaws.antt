-- The laws that a guarded session stands on.
use Rattle.vx_488.specs.declared.bus.Bus.{Ghosts}
use Rattle.vx_core.specs.CoreState.{CoreState}
use Rattle.vx_group.specs.Laws.{ClaimsOfGroupsLaw, OwnedLaw, LinksLaw, FewLinksLaw}
use Rattle.vx_session.specs.Origin.{origin}
use Rattle.vx_session.specs.LinkLaws.{CalledLinksLaw}
use Rattle.vx_policy.specs.Laws.{MadeRead, DoneRead, NamedAlike}

-- of histories, of what a call leaves on this bus, and of what the rules read of calls and replies
pub record GuardLaws {B : Type 0} (bus : Ghosts B) : Type 0 where
  pub claims : ClaimsOfGroupsLaw
  pub owned : OwnedLaw
  pub links : LinksLaw
  pub few : FewLinksLaw
  pub called : (first : CoreState B) → CalledLinksLaw (origin bus first)
  pub read_made : MadeRead
  pub read_done : DoneRead
  pub alike : NamedAlike
