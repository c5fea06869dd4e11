-- To be believed.
-- Groups at their places in the history of a gate, as a pass made them.
use Rattle.std.specs.Prelude.{◌≡◌, ◌≤◌, ◌⊎◌, ℕ, List, [], ◌∷◌, ◌++◌, map, Some}
use Rattle.std.specs.List.{All}
use mathlib.Core.List.{IsPrefix}
use Rattle.vx_gate.specs.declared.views.Logged.{Logged}
use Rattle.vx_gate.specs.History.{made, groups, made_by, Lawful}
use Rattle.vx_gate.specs.PassView.{PassView, all_parts}
use Rattle.vx_group.specs.Groups.{Group, last_moment, now_of}
use Rattle.vx_group.specs.Owning.{MayAdd}
use Rattle.vx_core.specs.CoreState.{CoreState}
use Rattle.vx_core.specs.Standing.{Became}
use Rattle.vx_session.specs.Origin.{Origin}

-- a group, and the history before it
pub record Placed : Type 0 where
  pub before : List (Logged Group)
  pub group : Group

-- the history up to and with the group, which the pass of this number made
abbrev pub behind : ℕ → Placed → List (Logged Group)
behind number p = p.before ++ made number p.group ∷ []

-- A pass of this number that had seen `seen` made these groups, one after the other, and no other; it has now seen `seen'`.
abbrev pub Chain : ℕ → List (Logged Group) → List Placed → List (Logged Group) → Type 0
Chain number seen [] seen' = seen' ≡ seen
Chain number seen (p ∷ ps) seen' =
    IsPrefix seen p.before × (made_by number p.before ≡ made_by number seen) × Chain number (behind number p) ps seen'

-- a moment is the one that the group before keeps, or no later than the greatest that a clock has told
abbrev pub IsSessionTold : ℕ → ℕ → ℕ → Type 0
IsSessionTold kept told moment = (moment ≡ kept) ⊎ (moment ≤ told)

-- So is the moment that the group keeps, and so is the moment of each of its events.
pub record IsTimely (told : ℕ) (p : Placed) : Type 0 where
  pub moment : IsSessionTold (last_moment (groups p.before)) told p.group.moment
  pub events : All (λ e. (now : ℕ) → now_of e ≡ Some now → IsSessionTold (last_moment (groups p.before)) told now) p.group.events

-- the groups in a history, as a pass of this number made them
abbrev pub logged : ℕ → List Placed → List (Logged Group)
logged number placed = map (λ p. made number p.group) placed

-- A pass made these groups, one after the other, at moments that a clock has told, up to this one.
pub record Makes (told : ℕ) (pass : PassView Group) (placed : List Placed) (pass' : PassView Group) : Type 0 where
  pub gate : pass'.gate ≡ pass.gate
  pub number : pass'.number ≡ pass.number
  pub parts : pass'.parts ≡ pass.parts
  pub chain : Chain pass.number pass.seen placed pass'.seen
  pub own : pass'.own ≡ pass.own ++ map (λ p. p.group) placed
  pub timely : All (IsTimely told) placed
  -- where it has all parts it is the only one, and no group of another stands among them
  pub alone : pass.parts ≡ all_parts → pass'.seen ≡ pass.seen ++ logged pass.number placed

-- The first core of the gateway became this one by what stands before a place in its history, or by all of that.
abbrev pub BecameBy : {B : Type 0} → Origin B → CoreState B → List (Logged Group) → Type 0
BecameBy g core log = Became g.bus.means g.bus.through g.first core (groups log)

-- What a pass has seen is a beginning of a gateway's history: a core, with its one bus, became by it what it is, and each of its
-- groups is one that its pass could add.
pub record IsHistory {B : Type 0} (g : Origin B) (seen : List (Logged Group)) : Type 0 where
  pub core : CoreState B
  pub became : BecameBy g core seen
  pub lawful : Lawful MayAdd seen
