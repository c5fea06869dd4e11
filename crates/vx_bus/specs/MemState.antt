-- A bus over memory: the bytes that it gives, and which of its moving calls are held or fail.
use Rattle.std.specs.Prelude.{◌≡◌, ℕ, ◌+◌, Bool, if◌then◌else◌, List, [], ◌∷◌, ◌++◌, drop, Some}
use Rattle.vx_488.specs.Faults.{one_more, fails_next}
use Rattle.vx_488.specs.declared.transfers.Transfer.{Transfer}
use Rattle.vx_488.specs.declared.transfers.Transfer.TheVariants.{Cmd, Put, Got, Ren, Atn, Ifc, Own}
use Rattle.vx_488.specs.Wire.{step}
use Rattle.vx_488.specs.declared.asks.Ask.{Ask}
use Rattle.vx_488.specs.declared.asks.Ask.TheVariants as ask
use Rattle.vx_488.specs.declared.asks.Move.{Move}
use Rattle.vx_488.specs.declared.asks.Move.TheVariants as answer
use Rattle.vx_488.specs.declared.asks.GetOut.{GetOut}
use Rattle.vx_488.specs.declared.asks.GetOut.TheVariants as get
use Rattle.vx_488.specs.Means.{Means}
use Rattle.vx_488.specs.Steps.{Step, Went, Held, Failed, Told, Cut, ask_for, move_step, get_step}

pub record MemState : Type 0 where
  -- what it means to whoever asks it
  pub means : Means
  -- the bytes that it has left to give, each with whether END stands on it
  pub gets : List (ℕ × Bool)
  -- the numbers of the moving calls that are held, and of those that fail, counted from 1
  pub holds : List ℕ
  pub fails : List ℕ
  -- how many moving calls there were
  pub calls : ℕ

-- what the lists say of the next moving call: one that is told to fail fails, also where it is told to be held
abbrev pub next_move : MemState → Move
next_move s =
    if fails_next s.fails s.calls then answer.Failed
    else (if fails_next s.holds s.calls then answer.Held else answer.Went)

-- the next byte, or a hold where none is left
abbrev pub byte_or_hold : List (ℕ × Bool) → GetOut
byte_or_hold [] = get.Held
byte_or_hold (byte ∷ gets) = get.Byte byte.0 byte.1

abbrev pub get_where : Move → List (ℕ × Bool) → GetOut
get_where answer.Went gets = byte_or_hold gets
get_where answer.Held gets = get.Held
get_where answer.Failed gets = get.Failed

-- what the next moving call answers where it is a get
abbrev pub next_get : MemState → GetOut
next_get s = get_where (next_move s) s.gets

-- the step that the next moving call is where it is this ask
abbrev pub next_step : MemState → Ask → Step
next_step s (ask.Cmd b) = move_step (Cmd b) (next_move s)
next_step s (ask.Put b end) = move_step (Put b end) (next_move s)
next_step s ask.Get = get_step (next_get s)
next_step s (ask.Ren on) = move_step (Ren on) (next_move s)
next_step s (ask.Atn on) = move_step (Atn on) (next_move s)
next_step s ask.Ifc = move_step Ifc (next_move s)
next_step s (ask.Own a) = move_step (Own a) (next_move s)

-- a step is one that the lists say: an ask got its answer, and moments and cuts come as they may
abbrev pub IsSaid : MemState → Step → Type 0
IsSaid s (Went t) = Went t ≡ next_step s (ask_for t)
IsSaid s (Held asked) = Held asked ≡ next_step s asked
IsSaid s (Failed asked) = Failed asked ≡ next_step s asked
IsSaid s (Told now) = Unit {0}
IsSaid s Cut = Unit {0}

-- the bytes left after a transfer: one that was got is gone
abbrev pub gets_after : List (ℕ × Bool) → Transfer → List (ℕ × Bool)
gets_after gets (Got b end) = drop 1 gets
gets_after gets _ = gets

-- the bus after a moving call that made this transfer, with the bytes left to give as they were
abbrev pub made : MemState → Transfer → MemState
made s t = record s {
  means = record s.means { wire = step s.means.wire t; moves = s.means.moves ++ t ∷ []; asks = s.means.asks + 1 };
  calls = one_more s.calls;
}

-- the bus after a moving call that made no transfer, with the counts of holds and faults as they were
abbrev pub refused : MemState → Ask → MemState
refused s asked = record s {
  means = record s.means { asks = s.means.asks + 1; refused = Some asked };
  calls = one_more s.calls;
}

-- the bus after a step
abbrev pub after : MemState → Step → MemState
after s (Went t) = record (made s t) { gets = gets_after s.gets t }
after s (Held asked) = record (refused s asked) { means = record (refused s asked).means { holds = one_more s.means.holds } }
after s (Failed asked) = record (refused s asked) { means = record (refused s asked).means { faults = one_more s.means.faults } }
after s (Told now) = s
after s Cut = record s { means = record s.means { moves = []; asks = 0 } }

-- how the bus changes by one step: the step is one that the lists say, and the bus is the one after it
abbrev pub Through : MemState → Step → MemState → Type 0
Through old step new = IsSaid old step × (new ≡ after old step)
