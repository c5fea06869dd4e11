-- To be believed.
-- The links that a guarded session knows are those that its connection has.
use Rattle.std.specs.Prelude.{◌≡◌, ◌==◌, ℕ, List, [], ◌++◌, map, filter}
use mathlib.Core.List.{IsPrefix}
use Rattle.vx_gate.specs.declared.views.Logged.{Logged}
use Rattle.vx_gate.specs.History.{groups, made_by}
use Rattle.vx_group.specs.InterleavedState.{InterleavedState}
use Rattle.vx_group.specs.Groups.{Group, StandsFor}
use Rattle.vx_session.specs.Origin.{Origin}
use Rattle.vx_session.specs.Progress.{placed}
use Rattle.vx_calls.specs.declared.calls.Role.{Role}
use Rattle.vx_exchange.specs.Meaning.{Meaning}
use Rattle.vx_policy.specs.declared.made.MadeLink.{MadeLink}
use Rattle.vx_policy.specs.declared.rules.Rule.{Rule}
use Rattle.vx_desks.specs.Judged.{Judged, Guards, served}

-- the numbers of the links that a session knows
abbrev pub numbers_known : List MadeLink → List ℕ
numbers_known made = map (λ m. m.lid) made

-- the numbers of the links that a connection has in this state
abbrev pub numbers_had : InterleavedState → ℕ → List ℕ
numbers_had f conn = map (λ l. l.number) (filter (λ l. l.connection == conn) f.state.tables.links.links)

-- A moment of a history: `log` is the part before it, for which this state stands. The pass of this number had made its groups before
-- the session, `own`, and those of these messages, and no more.
pub record IsMoment (seen : List (Logged Group)) (number : ℕ) (own : List Group) (items : List Judged) (log : List (Logged Group)) (f : InterleavedState) : Type 0 where
  pub begins : IsPrefix log seen
  pub made : made_by number log ≡ own ++ map (λ p. p.group) (placed (served items))
  pub stands : StandsFor f (groups log)

-- At each moment between two messages of a session, whose history is `seen` at its end, the links that it knows are exactly those
-- that the connection has: `front` are the messages before, `made` the links that it knows by them.
abbrev pub KnowsLinks : {B : Type 0} → (List ℕ → Role → Meaning) → Origin B → (number conn : ℕ) → List Rule → (peer : ℕ) → (own : List Group) → List Judged → (seen : List (Logged Group)) → Type 0
KnowsLinks means g number conn rules peer own items seen =
    (front later : List Judged) (made : List MadeLink) (log : List (Logged Group)) (f : InterleavedState) → items ≡ front ++ later → Guards means g number conn rules peer [] front made
    → IsMoment seen number own front log f → numbers_had f conn ≡ numbers_known made
