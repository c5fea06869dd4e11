-- What a line is to a lift, and what lifting it does.
use Rattle.std.specs.Prelude.{◌≡◌, ℕ, ⊤, List, []}
use Rattle.std.specs.Io.KnownBytes.{Appends}
use Rattle.vx_text.specs.Ends.{End}
use Rattle.vx_text.specs.Writing.{StopsIn}
use Rattle.vx_script.specs.Command.{At}
use Rattle.vx_script.specs.Grammar.{Reading, Skipped, Does, Outside}
use Rattle.vx_lift.specs.declared.lines.Said.{Said}
use Rattle.vx_lift.specs.declared.lines.Said.TheVariants as kind
use Rattle.vx_lift.specs.declared.lines.LineEnd.{LineEnd}
use Rattle.vx_lift.specs.declared.lines.LineEnd.TheVariants as line_end
use Rattle.vx_lift.specs.Lifted.{moment_behind, lifted_by}

-- a line of a step other than `at`
abbrev pub IsStep : Reading → Type 0
IsStep Skipped = ⊥
IsStep (Does (At moment)) = ⊥
IsStep (Does command) = ⊤
IsStep Outside = ⊥

-- a line that the grammar has
abbrev pub IsInside : Reading → Type 0
IsInside Outside = ⊥
IsInside _ = ⊤

-- what a line that says this is to a lift
abbrev pub IsSaid : Reading → Said → Type 0
IsSaid said kind.Nothing = said ≡ Skipped
IsSaid said (kind.Moment moment) = said ≡ Does (At moment)
IsSaid said kind.Step = IsStep said
IsSaid said kind.Outside = said ≡ Outside

-- what a line is lifted to was written
pub record IsLifted (moment : ℕ) (line : List ℕ) (said : Reading) (greatest : ℕ) (before after : End) : Type 0 where
  pub inside : IsInside said
  pub greatest_is : greatest ≡ moment_behind moment said
  pub written : Appends before.bytes after.bytes (lifted_by moment line said [])

-- what lifting a line that says this does, behind the greatest moment so far
abbrev pub EndsLine : ℕ → List ℕ → Reading → End → End → LineEnd → Type 0
EndsLine moment line said before after (line_end.Lifted greatest) = IsLifted moment line said greatest before after
EndsLine moment line said before after line_end.Outside = (said ≡ Outside) × Appends before.bytes after.bytes []
EndsLine moment line said before after line_end.SinkFailed = StopsIn before after (lifted_by moment line said [])
