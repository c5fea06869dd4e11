-- How the lines of a trace are walked along.
use Rattle.std.specs.Prelude.{◌≡◌, ◌≤◌, ℕ, ◌+◌, ⊤, Bool, List, ◌∷◌, ◌++◌, length, codes, Option, Result}
use Rattle.std.specs.List.{All}
use Rattle.vx_flow.specs.Event.{Event}
use Rattle.vx_history.specs.declared.lines.Far.{Far}
use Rattle.vx_history.specs.declared.lines.Far.TheVariants as far
use Rattle.vx_history.specs.declared.cause.Stop.{Stop}
use Rattle.vx_history.specs.Shown.{Timed, TraceShows, whole_lines}
use Rattle.vx_history.specs.Taking.{takes}
use Rattle.vx_history.specs.Stepping.{EndsTake}
use Rattle.vx_history.specs.CheckState.{CheckState, beginning}
use Rattle.vx_history.specs.History.{Through, Stops, Walks, is_over}

-- a text begins with this line, which has its LF, and this is behind it
pub record IsFirstLine (text first rest : List ℕ) : Type 0 where
  pub line : List ℕ
  pub first_is : first ≡ line ++ codes "\n"
  pub lines_are : whole_lines text ≡ line ∷ whole_lines rest
  pub text_is : length first + length rest ≡ length text

-- none of these lines, with its LF, is longer than this
abbrev pub AllWithin : ℕ → List (List ℕ) → Type 0
AllWithin most texts = All (λ line. length line + 1 ≤ most) texts

-- a text was taken as the line that it shows, or as none
abbrev pub TakesText : CheckState → List ℕ → Result Unit Stop → CheckState → Type 0
TakesText s text result now = (shown : Option Timed) × TraceShows text shown × EndsTake (takes s shown) result now

-- all these lines were taken, and the line behind them has this number
pub record GoesThrough (texts : List (List ℕ)) (next : ℕ) (over : Bool) : Type 0 where
  pub events : List Event
  pub after : CheckState
  pub walks : Walks 1 beginning texts (Through events after)
  pub next_is : next ≡ length texts + 1
  pub over_is : over ≡ is_over after.next

-- how far lines are taken
abbrev pub EndsWalk : List (List ℕ) → Far → Type 0
EndsWalk texts (far.Through next over) = GoesThrough texts next over
EndsWalk texts (far.Stops line why) = Walks 1 beginning texts (Stops line why)
EndsWalk texts far.NoMemory = ⊤
