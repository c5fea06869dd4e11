-- To be believed.
-- An output line as plain data: what a `Line` shows.
use Rattle.std.specs.Prelude.{ℕ, Bool, List}
use Rattle.vx_calls.specs.declared.calls.Role.{Role}
use Rattle.vx_488.specs.declared.transfers.Transfer.{Transfer}
use Rattle.vx_trace.specs.declared.lines.Line.{Line}
use Rattle.vx_trace.specs.declared.lines.Line.TheVariants as seen

-- a line, its transfers and bytes as lists
pub data Output : Type 0 where
  Bus : (conn : ℕ) (moves : List Transfer) → Output
  Out : (conn : ℕ) (bytes : List ℕ) → Output
  Irq : (conn : ℕ) (bytes : List ℕ) → Output
  IrqNone : (conn : ℕ) → Output
  IrqClosed : (conn : ℕ) → Output
  WaitLock : (conn lid : ℕ) → Output
  WaitTurn : (conn by : ℕ) → Output
  WaitBehind : (conn by : ℕ) → Output
  WaitHeld : (conn : ℕ) → Output
  WaitSlice : (conn : ℕ) → Output
  WaitDial : (conn : ℕ) → Output
  GoneDown : (conn : ℕ) → Output
  GoneJunk : (conn : ℕ) → Output
  GoneLong : (conn : ℕ) → Output
  Done : Output
  FaultLine : (line : ℕ) (word : List ℕ) → Output
  FaultLong : Output
  Usage : Output
  TraceHead : Output
  Up : (conn : ℕ) (role : Role) → Output
  Call : (conn : ℕ) (bytes : List ℕ) → Output
  Begin : (conn : ℕ) → Output
  DialDone : (conn : ℕ) (up : Bool) → Output
  Srq : (level : Bool) → Output

-- the line that a `Line` shows
abbrev pub line_shown : Line → Output
line_shown (seen.Bus conn moves) = Bus conn moves.now
line_shown (seen.Out conn bytes) = Out conn bytes.now
line_shown (seen.Irq conn bytes) = Irq conn bytes.now
line_shown (seen.IrqNone conn) = IrqNone conn
line_shown (seen.IrqClosed conn) = IrqClosed conn
line_shown (seen.WaitLock conn lid) = WaitLock conn lid
line_shown (seen.WaitTurn conn by) = WaitTurn conn by
line_shown (seen.WaitBehind conn by) = WaitBehind conn by
line_shown (seen.WaitHeld conn) = WaitHeld conn
line_shown (seen.WaitSlice conn) = WaitSlice conn
line_shown (seen.WaitDial conn) = WaitDial conn
line_shown (seen.GoneDown conn) = GoneDown conn
line_shown (seen.GoneJunk conn) = GoneJunk conn
line_shown (seen.GoneLong conn) = GoneLong conn
line_shown seen.Done = Done
line_shown (seen.FaultLine line word) = FaultLine line word.now
line_shown seen.FaultLong = FaultLong
line_shown seen.Usage = Usage
line_shown seen.TraceHead = TraceHead
line_shown (seen.Up conn role) = Up conn role
line_shown (seen.Call conn bytes) = Call conn bytes.now
line_shown (seen.Begin conn) = Begin conn
line_shown (seen.DialDone conn up) = DialDone conn up
line_shown (seen.Srq level) = Srq level
