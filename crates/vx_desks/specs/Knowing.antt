-- The links that a guarded session knows, among those of its connection.
use Rattle.std.specs.Prelude.{◌≡◌, ℕ, List, ◌++◌, Some}
use Rattle.vx_gate.specs.PassView.{PassView}
use Rattle.vx_group.specs.Groups.{Group, events_of}
use Rattle.vx_group.specs.MadeLinks.{numbers_by}
use Rattle.vx_policy.specs.declared.made.MadeLink.{MadeLink}
use Rattle.vx_desks.specs.Known.{numbers_known}

-- The numbers of the links that the connection made and didn't destroy, as the pass's own groups tell them: those that it made before
-- the session, and then those that the session knows.
abbrev pub KnowsOwn : PassView Group → (conn : ℕ) → List MadeLink → Type 0
KnowsOwn pass conn made = (numbers : List ℕ) → numbers_by conn (events_of pass.own) ≡ Some numbers → (before : List ℕ) × (numbers ≡ before ++ numbers_known made)
