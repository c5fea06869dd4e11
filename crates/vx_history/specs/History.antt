-- To be believed.
-- The history that a trace tells.
use Rattle.std.specs.Prelude.{◌≡◌, ℕ, ◌+◌, Bool, true, false, if◌then◌else◌, List, [], ◌∷◌, ◌++◌, length, Option}
use Rattle.vx_text.specs.TextLines.{lines}
use Rattle.vx_flow.specs.Event.{Event}
use Rattle.vx_history.specs.declared.cause.Cause.{Cause}
use Rattle.vx_history.specs.declared.cause.Cause.TheVariants as cause
use Rattle.vx_history.specs.Shown.{Timed, TraceShows, whole_lines}
use Rattle.vx_history.specs.CheckState.{CheckState, Next, Nothing, beginning}
use Rattle.vx_history.specs.Taking.{Took, Taken, Spoiled, takes}

-- how far lines are taken: all of them, which gives these events and what is known behind them; or up to the line of this number, which
-- has this cause against it
pub data Walk : Type 0 where
  Through : (events : List Event) (after : CheckState) → Walk
  Stops : (line : ℕ) (why : Cause) → Walk

abbrev pub behind : List Event → Walk → Walk
behind events (Through others after) = Through (events ++ others) after
behind events (Stops line why) = Stops line why

-- a line of this number was taken so, and `Later` says how far those behind it are taken
abbrev pub WalksBy : ℕ → (CheckState → Walk → Type 0) → Walk → Took → Type 0
WalksBy n Later w (Taken events after) = (later : Walk) × Later after later × (w ≡ behind events later)
WalksBy n Later w (Spoiled why) = w ≡ Stops n why

-- how far these texts are taken as lines, of which the first has this number, behind what is known of those before them
abbrev pub Walks : ℕ → CheckState → List (List ℕ) → Walk → Type 0
Walks n s [] w = w ≡ Through [] s
Walks n s (text ∷ texts) w = (shown : Option Timed) × TraceShows text shown × WalksBy n (λ after later. Walks (n + 1) after texts later) w (takes s shown)

-- the events of a whole trace, or its first line that has a cause against it
pub data History : Type 0 where
  Lawful : (events : List Event) → History
  Faulty : (line : ℕ) (why : Cause) → History

-- a trace is at its end only behind its last line, `done`
abbrev pub is_over : Next → Bool
is_over Nothing = true
is_over _ = false

-- a trace of so many lines ends behind them
abbrev pub ended : ℕ → Walk → History
ended count (Through events after) = if is_over after.next then Lawful events else Faulty (count + 1) cause.Place
ended count (Stops line why) = Faulty line why

-- The bytes of a trace tell this. Its lines are cut at LF, a last piece without LF is a line too, and they are counted from 1.
pub record TraceTells (bytes : List ℕ) (told : History) : Type 0 where
  pub far : Walk
  pub walks : Walks 1 beginning (lines bytes) far
  pub told_is : told ≡ ended (length (lines bytes)) far

-- so far are the whole lines taken of bytes that a longer trace begins with
abbrev pub TraceBegins : List ℕ → Walk → Type 0
TraceBegins bytes far = Walks 1 beginning (whole_lines bytes) far
