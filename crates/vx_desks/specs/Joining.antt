-- To be believed.
-- How connections to four buses come up, one of each, or none does.
use Rattle.std.specs.Prelude.{◌≡◌, ℕ, Result, Ok, Err}
use Rattle.vx_calls.specs.declared.calls.Role.{Role}
use Rattle.vx_gate.specs.PassView.{PassView}
use Rattle.vx_desks.specs.Four.{Four}
use Rattle.vx_group.specs.Groups.{Group}
use Rattle.vx_state.specs.declared.tables.Connect.{Connect}
use Rattle.vx_session.specs.Origin.{Origin}
use Rattle.vx_session.specs.Turning.{Joins, Leaves}
use Rattle.vx_desks.specs.Origins.{Origins, OnEach}
use Rattle.vx_desks.specs.declared.joining.Joined.{Joined}

-- what each bus answered, by the buses' numbers
abbrev pub joined_shown : Joined → Four (Result ℕ Connect)
joined_shown j = record { zero_ = j.zero; one = j.one; two = j.two; three = j.three }

-- each bus was asked for a connection of this role
abbrev pub JoinsAll : {B : Type 0} → Origins B → Role → Four (PassView Group) → Four (Result ℕ Connect) → Four (PassView Group) → Type 0
JoinsAll g r passes joined passes' = OnEach (λ o pass answer pass'. Joins o pass r answer pass') g passes joined passes'

-- all four connections, where all came up, or else why the first that didn't come up was refused
abbrev pub outcome : Four (Result ℕ Connect) → Result (Four ℕ) Connect
outcome j = by j.zero_ j.one j.two j.three where
  by : (Result ℕ Connect) → (Result ℕ Connect) → (Result ℕ Connect) → (Result ℕ Connect) → Result (Four ℕ) Connect
  by (Err why) b c d = Err why
  by (Ok x) (Err why) c d = Err why
  by (Ok x) (Ok y) (Err why) d = Err why
  by (Ok x) (Ok y) (Ok z) (Err why) = Err why
  by (Ok x) (Ok y) (Ok z) (Ok w) = Ok (record { zero_ = x; one = y; two = z; three = w })

-- a connection that came up goes again
abbrev pub Undone : {B : Type 0} → Origin B → PassView Group → Result ℕ Connect → PassView Group → Type 0
Undone g pass (Ok conn) pass' = Leaves g pass conn pass'
Undone g pass (Err why) pass' = pass' ≡ pass

abbrev pub UndoneAll : {B : Type 0} → Origins B → Four (PassView Group) → Four (Result ℕ Connect) → Four (PassView Group) → Type 0
UndoneAll g passes joined passes' = OnEach (λ o pass answer pass'. Undone o pass answer pass') g passes joined passes'
