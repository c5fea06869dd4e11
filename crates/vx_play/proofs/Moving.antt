-- A stage at another moment, and what an `at` does to a stage.
use Rattle.std.proofs.Common.{◌≡◌, ℕ, max, false, [], Some, None, refl, ap, subst, ◌∙◌, true≢false}
use Rattle.vx_script.specs.declared.Cause.{Cause}
use Rattle.vx_script.specs.Command.{Command, Up, At}
use Rattle.vx_script.specs.Timed.{is_at}
use Rattle.vx_run.specs.Position.{moment_after}
use Rattle.vx_run.specs.Item.{Item}
use Rattle.vx_player.specs.Stage.{Stage, refusal}
use Rattle.vx_player.specs.Making.{Makes}
use Rattle.vx_player.specs.Play.{stream_after, xid_after, rack_after, PlayerTakes}

-- a stage at this moment
abbrev pub stage_at : Stage → ℕ → Stage
stage_at s moment = record s { moment = moment }

-- stages of the same parts are the same
same-stage : (s t : Stage) → s.gateway ≡ t.gateway → ((conn : ℕ) → s.streams conn ≡ t.streams conn) → ((conn : ℕ) → s.xids conn ≡ t.xids conn) → s.rack ≡ t.rack
    → s.moment ≡ t.moment → s ≡ t
same-stage s t gateway streams xids rack moment =
    λ i. record { gateway = gateway i; streams = λ conn. streams conn i; xids = λ conn. xids conn i; rack = rack i; moment = moment i }

-- whether a command is refused doesn't hang on the moment
refusal-timeless : (s : Stage) (moment : ℕ) (command : Command) → refusal (stage_at s moment) command ≡ refusal s command
refusal-timeless s moment (Up conn r) = refl
refusal-timeless s moment _ = refl

-- so it is the same at stages that differ in it
pub same-refusal : (s t : Stage) (moment : ℕ) (command : Command) → t ≡ stage_at s moment → refusal t command ≡ refusal s command
same-refusal s t moment command is = ap (λ u. refusal u command) is ∙ refusal-timeless s moment command

-- a command that is refused is no `at`
pub refused-other : (s : Stage) (command : Command) (why : Cause) → refusal s command ≡ Some why → is_at command ≡ false
refused-other s (At later) why refused = cc
refused-other s _ why refused = refl

-- a command other than `at` leaves the moment
pub other-kept : (s next : Stage) (item : Item) (command : Command) → item.command ≡ command → is_at command ≡ false → PlayerTakes s item next → next.moment ≡ s.moment
other-kept s next item command said other takes = takes.moment ∙ ap (moment_after s.moment) said ∙ by command other where
  by : (command : Command) → is_at command ≡ false → moment_after s.moment command ≡ s.moment
  by (At later) other = absurd (true≢false other)
  by _ other = refl

-- an `at` changes the moment alone, and makes no event
pub record IsMoved (s : Stage) (item : Item) (later : ℕ) (next : Stage) : Type 0 where
  pub next_is : next ≡ stage_at s (max s.moment later)
  pub none : item.group ≡ []

-- so is each `at` that is taken
pub at-kept : (s next : Stage) (item : Item) (later : ℕ) → item.command ≡ At later → PlayerTakes s item next → IsMoved s item later next
at-kept s next item later said takes =
    let makes : Makes s (At later) item.group item.note next.gateway = subst (λ c. Makes s c item.group item.note next.gateway) said takes.makes in
    record {
      next_is = same-stage next (stage_at s (max s.moment later)) makes.0.same
          (λ conn. takes.streams conn ∙ ap (λ c. stream_after s c conn) said)
          (λ conn. takes.xids conn ∙ ap (λ c. xid_after s c conn) said)
          (takes.rack ∙ ap (rack_after s.rack) said)
          (takes.moment ∙ ap (moment_after s.moment) said);
      none = makes.0.none;
    }

-- the item of an `at` behind which this is the moment
abbrev pub at_item : ℕ → ℕ → Item
at_item later moment = record { command = At later; moment = moment; message = None; group = []; note = None }

-- an `at` is taken in each stage
pub at-goes : (s : Stage) (later moment : ℕ) → moment ≡ max s.moment later → PlayerTakes s (at_item later moment) (stage_at s moment)
at-goes s later moment greatest = record {
  allowed = refl;
  makes = (record { none = refl; same = refl }, refl);
  message = refl;
  at = refl;
  streams = λ conn. refl;
  xids = λ conn. refl;
  rack = refl;
  moment = greatest;
}
