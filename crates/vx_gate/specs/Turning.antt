-- What a turn asks of its caller, and what it does.
use Rattle.std.specs.Prelude.{◌≡◌, List, [], ◌∷◌, ◌++◌}
use mathlib.Core.List.{IsPrefix}
use Rattle.vx_gate.specs.declared.views.Logged.{Logged}
use Rattle.vx_gate.specs.History.{made, groups, made_by, Lawful}
use Rattle.vx_gate.specs.PassView.{PassView, all_parts}

-- The history, at some moment, as far as the pass knows it: it begins with what the pass has seen, where all of the pass's own groups stand, and it is lawful
pub record Fits {G : Type 0} (may_add : List G → G → Type 0) (pass : PassView G) (log : List (Logged G)) : Type 0 where
  pub begins : IsPrefix pass.seen log
  pub mine : made_by pass.number log ≡ pass.own
  pub within : made_by pass.number pass.seen ≡ pass.own
  pub lawful : Lawful may_add log

module _ {K G A R : Type 0} (may_add : List G → G → Type 0) where
  -- The act may be run on the value, and a pass with these own groups may add the group of the run
  abbrev pub MayRun : (A → K → Type 0) → (A → K → R → A → K → Type 0) → (A → K → R → A → K → G) → List G → A → K → Type 0
  MayRun asks does adds own act kept = asks act kept × ((answer : R) (act' : A) (kept' : K) → does act kept answer act' kept' → may_add own (adds act kept answer act' kept'))

module _ {K G A R : Type 0} (stands : K → List G → Type 0) (may_add : List G → G → Type 0) where
  -- Whatever the history and the value are at the turn, the act may be run, and the pass may add its group
  abbrev pub MayTurn : (A → K → Type 0) → (A → K → R → A → K → Type 0) → (A → K → R → A → K → G) → PassView G → A → Type 0
  MayTurn asks does adds pass act = (log : List (Logged G)) (kept : K) → Fits may_add pass log → stands kept (groups log) → MayRun may_add asks does adds pass.own act kept

  -- The turn of a pass took an act to act', with this answer, and gave back pass': the history was `log`, for which the value `before` stood, and `after` is the value that the act left
  pub record Turned (does : A → K → R → A → K → Type 0) (adds : A → K → R → A → K → G) (pass : PassView G) (act : A) (answer : R) (act' : A) (pass' : PassView G) : Type 0 where
    pub log : List (Logged G)
    pub before : K
    pub after : K
    pub fits : Fits may_add pass log
    pub stood : stands before (groups log)
    pub did : does act before answer act' after
    -- exactly one group joins the history
    pub seen : pass'.seen ≡ log ++ made pass.number (adds act before answer act' after) ∷ []
    pub own : pass'.own ≡ pass.own ++ adds act before answer act' after ∷ []
    pub begins : IsPrefix pass.seen pass'.seen
    pub stands_now : stands after (groups pass'.seen)
    pub lawful : Lawful may_add pass'.seen
    -- the own groups are those of its number among what it has seen
    pub order : made_by pass'.number pass'.seen ≡ pass'.own
    pub gate : pass'.gate ≡ pass.gate
    pub number : pass'.number ≡ pass.number
    pub parts : pass'.parts ≡ pass.parts
    -- a pass with all parts is the only one: no group of another joined the history since its last turn
    pub alone : pass.parts ≡ all_parts → log ≡ pass.seen
