-- What holds of the parts of each step that a line asks for.
use Rattle.std.specs.Prelude.{ℕ, ◌≤◌, ◌<◌, ⊤, IsTrue, length, Option, IfSome}
use Rattle.vx_calls.specs.declared.limits.TheConstants.{CONNECTION_LAST}
use Rattle.vx_script.specs.declared.TheConstants.{ADDRESS_LAST}
use Rattle.vx_script.specs.declared.Step.{Step}
use Rattle.vx_script.specs.declared.Step.TheVariants as step
use Rattle.vx_script.specs.Words.{is_name}

-- a connection's number is 1 to 2147483647
abbrev pub IsConnection : ℕ → Type 0
IsConnection conn = (1 ≤ conn) × (conn ≤ CONNECTION_LAST)

-- the parts of a bus address are at most 30
abbrev pub IsAddress : ℕ → Option ℕ → Type 0
IsAddress p s = (p ≤ ADDRESS_LAST) × IfSome s (λ n. n ≤ ADDRESS_LAST)

abbrev pub HasConnection : Step → Type 0
HasConnection (step.Up conn role) = IsConnection conn
HasConnection (step.In conn bytes) = IsConnection conn
HasConnection (step.Down conn) = IsConnection conn
HasConnection (step.Poll conn) = IsConnection conn
HasConnection (step.Take conn) = IsConnection conn
HasConnection (step.Dial conn up) = IsConnection conn
HasConnection _ = ⊤

abbrev pub HasAddress : Step → Type 0
HasAddress (step.Inst p s text) = IsAddress p s
HasAddress (step.Plug p s name) = IsAddress p s
HasAddress (step.Pull p s) = IsAddress p s
HasAddress (step.Set p s b) = IsAddress p s
HasAddress _ = ⊤

-- the bytes that come on a stream are at least one
abbrev pub HasBytes : Step → Type 0
HasBytes (step.In conn bytes) = 0 < length bytes.now
HasBytes _ = ⊤

-- a spare's name is 1 to 16 lower case letters
abbrev pub HasName : Step → Type 0
HasName (step.Plug p s name) = IsTrue (is_name name.now)
HasName _ = ⊤

-- the calls of the bus are counted from 1
abbrev pub HasCount : Step → Type 0
HasCount (step.Fail n) = 1 ≤ n
HasCount _ = ⊤

-- a step such as a line asks for
pub record IsPlainStep (step : Step) : Type 0 where
  pub connection : HasConnection step
  pub address : HasAddress step
  pub bytes : HasBytes step
  pub name : HasName step
  pub count : HasCount step
