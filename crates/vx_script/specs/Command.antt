-- To be believed.
-- What a script asks for, as plain data.
use Rattle.std.specs.Prelude.{ℕ, Bool, List, Option}
use Rattle.vx_calls.specs.declared.calls.Role.{Role}
use Rattle.vx_script.specs.declared.Step.{Step}
use Rattle.vx_script.specs.declared.Step.TheVariants as step

-- one step of a script
pub data Command : Type 0 where
  -- a connection of this role comes up under this number
  Up : (conn : ℕ) (role : Role) → Command
  -- these bytes come on the stream of the connection
  In : (conn : ℕ) (bytes : List ℕ) → Command
  -- the connection goes down
  Down : (conn : ℕ) → Command
  -- this is the moment of the next steps, in milliseconds
  At : (moment : ℕ) → Command
  -- the connection's pending call is polled
  Poll : (conn : ℕ) → Command
  -- the service request line is looked at
  Sample : Command
  -- the connection's next interrupt is taken
  Take : (conn : ℕ) → Command
  -- the dial that the connection's call asked for came up, or failed
  Dial : (conn : ℕ) (up : Bool) → Command
  -- a table instrument is made of this text and attached at this address
  Inst : (p : ℕ) (s : Option ℕ) (text : List ℕ) → Command
  -- the first spare instrument of this name is attached at this address
  Plug : (p : ℕ) (s : Option ℕ) (name : List ℕ) → Command
  -- the instrument at this address is taken off
  Pull : (p : ℕ) (s : Option ℕ) → Command
  -- the instrument at this address gets this status byte
  Set : (p : ℕ) (s : Option ℕ) (b : ℕ) → Command
  -- the n-th moving call of the bus from now fails
  Fail : (n : ℕ) → Command

-- the command that a `Step` shows
abbrev pub step_shown : Step → Command
step_shown (step.Up conn role) = Up conn role
step_shown (step.In conn bytes) = In conn bytes.now
step_shown (step.Down conn) = Down conn
step_shown (step.At moment) = At moment
step_shown (step.Poll conn) = Poll conn
step_shown step.Sample = Sample
step_shown (step.Take conn) = Take conn
step_shown (step.Dial conn up) = Dial conn up
step_shown (step.Inst p s text) = Inst p s text.now
step_shown (step.Plug p s name) = Plug p s name.now
step_shown (step.Pull p s) = Pull p s
step_shown (step.Set p s b) = Set p s b
step_shown (step.Fail n) = Fail n
