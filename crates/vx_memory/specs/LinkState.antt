-- A link over memory: what it gave and has left to give, in which pieces, what it took, and which of its calls fail.
use Rattle.std.specs.Prelude.{◌≡◌, ℕ, List, ◌++◌, length, take, drop}
use Rattle.vx_io_traits.specs.Faults.{one_more}
use Rattle.vx_memory.specs.SourceState.{SourceState, read_answer, read_slice}
use Rattle.vx_memory.specs.SinkState.{SinkState, IsWriteAnswer}
use Rattle.vx_io_traits.specs.declared.ReadOut.{ReadOut}
use Rattle.vx_io_traits.specs.declared.ReadOut.TheVariants.{Got, End, Failed}
use Rattle.vx_io_traits.specs.declared.WriteOut.{WriteOut}
use Rattle.vx_io_traits.specs.declared.WriteOut.TheVariants.{Took, Failed as Refused}

pub record LinkState : Type 0 where
  -- the bytes that it gave
  pub given : List ℕ
  -- the bytes that it has left to give
  pub left : List ℕ
  -- the most bytes that one receive gives
  pub piece : ℕ
  -- the bytes that it took, behind those that its room held
  pub taken : List ℕ
  -- the numbers of the calls that fail, counted from 1 over receives and sends together
  pub fails : List ℕ
  -- how many calls there were
  pub calls : ℕ
  -- how many receives failed, and how many sends
  pub receive_faults : ℕ
  pub send_faults : ℕ

-- a link over memory stands for the bytes in its room and those that it gave
abbrev pub MemoryStandsFor : LinkState → List ℕ → List ℕ → Type 0
MemoryStandsFor s taken given = (taken ≡ s.taken) × (given ≡ s.given)

-- the source that it is to a receive
abbrev pub incoming : LinkState → SourceState
incoming s = record { left = s.left; piece = s.piece; fails = s.fails; calls = s.calls; faults = s.receive_faults }

-- the sink that it is to a send
abbrev pub outgoing : LinkState → SinkState
outgoing s = record { taken = s.taken; fails = s.fails; calls = s.calls; faults = s.send_faults }

-- what a receive into a slice of this length answers
abbrev pub receive_answer : LinkState → ℕ → ReadOut
receive_answer s room = read_answer (incoming s) room

-- what stands in the slice after that answer
abbrev pub receive_slice : LinkState → List ℕ → ReadOut → List ℕ
receive_slice s slice answer = read_slice (incoming s) slice answer

-- the link after that answer
abbrev pub after_receive : LinkState → ReadOut → LinkState
after_receive s (Got n) = record s { given = s.given ++ take n s.left; left = drop n s.left; calls = one_more s.calls }
after_receive s End = record s { calls = one_more s.calls }
after_receive s Failed = record s { calls = one_more s.calls; receive_faults = one_more s.receive_faults }

-- what a send of so many bytes may answer
abbrev pub IsSendAnswer : LinkState → ℕ → WriteOut → Type 0
IsSendAnswer s count answer = IsWriteAnswer (outgoing s) count answer

-- the link after that answer
abbrev pub after_send : LinkState → List ℕ → WriteOut → LinkState
after_send s bytes (Took n) = record s { taken = s.taken ++ take n bytes; calls = one_more s.calls }
after_send s bytes Refused = record s { calls = one_more s.calls; send_faults = one_more s.send_faults }

-- a receive: its answer, what stands in the slice, and the link after it
abbrev pub IsReceive : LinkState → List ℕ → ReadOut → List ℕ → LinkState → Type 0
IsReceive old slice answer received new =
    (answer ≡ receive_answer old (length slice)) × (received ≡ receive_slice old slice answer) × (new ≡ after_receive old answer)

-- a send: its answer, and the link after it
abbrev pub IsSend : LinkState → List ℕ → WriteOut → LinkState → Type 0
IsSend old bytes answer new = IsSendAnswer old (length bytes) answer × (new ≡ after_send old bytes answer)
