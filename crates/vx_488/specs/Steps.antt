-- To be believed.
-- The steps of a bus, and what each changes of its meaning.
use Rattle.std.specs.Prelude.{◌≡◌, ℕ, ◌+◌, Bool, List, [], ◌∷◌, ◌++◌, Some}
use Rattle.vx_io_traits.specs.Faults.{one_more}
use Rattle.vx_488.specs.declared.transfers.Line.{Line}
use Rattle.vx_488.specs.declared.transfers.Line.TheVariants as line
use Rattle.vx_488.specs.declared.transfers.Transfer.{Transfer}
use Rattle.vx_488.specs.declared.transfers.Transfer.TheVariants.{Cmd, Put, Got, Ren, Atn, Ifc, Own}
use Rattle.vx_488.specs.Wire.{step}
use Rattle.vx_488.specs.declared.asks.Ask.{Ask}
use Rattle.vx_488.specs.declared.asks.Ask.TheVariants as ask
use Rattle.vx_488.specs.declared.asks.Move.{Move}
use Rattle.vx_488.specs.declared.asks.Move.TheVariants as answer
use Rattle.vx_488.specs.declared.asks.GetOut.{GetOut}
use Rattle.vx_488.specs.declared.asks.GetOut.TheVariants as get
use Rattle.vx_488.specs.Means.{Means}

pub data Step : Type 0 where
  -- an ask that made this transfer
  Went : Transfer → Step
  -- an ask that was held, and one that failed
  Held : Ask → Step
  Failed : Ask → Step
  -- a moment, in milliseconds
  Told : (now : ℕ) → Step
  -- the end of a list of transfers
  Cut : Step

-- the ask that may make this transfer
abbrev pub ask_for : Transfer → Ask
ask_for (Cmd b) = ask.Cmd b
ask_for (Put b end) = ask.Put b end
ask_for (Got b end) = ask.Get
ask_for (Ren on) = ask.Ren on
ask_for (Atn on) = ask.Atn on
ask_for Ifc = ask.Ifc
ask_for (Own a) = ask.Own a

-- switching a line, as a transfer
abbrev pub line_transfer : Line → Bool → Transfer
line_transfer line.Ren on = Ren on
line_transfer line.Atn on = Atn on

-- the step of an ask for this transfer that got this answer
abbrev pub move_step : Transfer → Move → Step
move_step t answer.Went = Went t
move_step t answer.Held = Held (ask_for t)
move_step t answer.Failed = Failed (ask_for t)

abbrev pub get_step : GetOut → Step
get_step (get.Byte b end) = Went (Got b end)
get_step get.Held = Held ask.Get
get_step get.Failed = Failed ask.Get

-- What a step changes: a transfer that went is the next of the list, and the wire's next. One that was held, or failed,
-- is the last that didn't go, and counts one hold, or one fault.
abbrev pub IsStepped : Means → Step → Means → Type 0
IsStepped old (Went t) new = new ≡ record old { wire = step old.wire t; moves = old.moves ++ t ∷ []; asks = old.asks + 1 }
IsStepped old (Held asked) new = new ≡ record old { asks = old.asks + 1; holds = one_more old.holds; refused = Some asked }
IsStepped old (Failed asked) new = new ≡ record old { asks = old.asks + 1; faults = one_more old.faults; refused = Some asked }
IsStepped old (Told now) new = new ≡ old
IsStepped old Cut new = new ≡ record old { moves = []; asks = 0 }

-- a bus went through these steps, one after the other
abbrev pub Path : {B : Type 0} → (B → Step → B → Type 0) → B → List Step → B → Type 0
Path through old [] new = new ≡ old
Path {B} through old (s ∷ steps) new = (next : B) × through old s next × Path through next steps new
