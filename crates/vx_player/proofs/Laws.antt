-- Laws of what a poll asks of the bus and what a piece brings, proved.
pub mod Upholding
pub mod Halting
pub mod Ready
pub mod Connections
pub mod Printed
use Rattle.std.proofs.Common.{◌≡◌, [], Option, Some, None, refl, ℕ, List, ap, ◌∙◌}
use Rattle.vx_plan.specs.Plan.{Slot}
use Rattle.vx_sim.specs.Laws.{transfers}
use Rattle.vx_core.specs.Polling.{refused_ask}
use Rattle.vx_flow.specs.declared.progress.Ran.{Ran}
use Rattle.vx_flow.specs.declared.progress.Ran.TheVariants as ran
use Rattle.vx_record.specs.declared.Feed.{Feed}
use Rattle.vx_record.specs.declared.Feed.TheVariants as feed
use Rattle.vx_run.specs.Stream.{Brought, NoEnd, Whole, TooLong, by_split}
use Rattle.vx_record.specs.Records.{Split}
use Rattle.vx_record.specs.Ends.{IsEnd}

-- an ask that didn't go is no transfer
pub refused-none : (ran : Ran) (slot : Option Slot) → transfers (refused_ask ran slot) ≡ []
refused-none ran.Paused (Some slot) = refl
refused-none ran.Paused None = refl
refused-none ran.Broken (Some slot) = refl
refused-none ran.Broken None = refl
refused-none ran.Still slot = refl
refused-none ran.Sliced slot = refl
refused-none ran.Finished slot = refl

-- what stands at the last byte of a piece, by the buffer's state
abbrev pub brought_of : Feed → List ℕ → Brought
brought_of feed.More kept = NoEnd
brought_of feed.Whole kept = Whole kept
brought_of feed.TooLong kept = TooLong

-- the records of a stream at such an end bring just that
pub by_end : (state : Feed) (kept : List ℕ) (split : Split) → IsEnd state kept split → by_split split.records split.too_long ≡ brought_of state kept
by_end feed.More kept split h = ap (λ rs. by_split rs split.too_long) h.0 ∙ ap (by_split []) h.1
by_end feed.Whole kept split h = ap (λ rs. by_split rs split.too_long) h
by_end feed.TooLong kept split h = ap (λ rs. by_split rs split.too_long) h.0 ∙ ap (by_split []) h.1
