-- To be believed.
-- How a run ends that a number makes, by the status: what was written of it.
use Rattle.std.specs.Prelude.{ℕ, List, ◌++◌, Some, ◌⊎◌}
use Rattle.std.specs.Io.KnownBytes.{Appends}
use Rattle.vx_text.specs.Ends.{End}
use Rattle.vx_text.specs.Writing.{StopsIn}
use Rattle.vx_setup.specs.Rack.{SpareShown}
use Rattle.vx_gen.specs.declared.words.Ask.{Ask}
use Rattle.vx_gen.specs.SummaryText.{title_text, summary_text}
use Rattle.vx_play.specs.declared.run.PlayStatus.{PlayStatus}
use Rattle.vx_play.specs.declared.run.PlayStatus.TheVariants as status
use Rattle.vx_run.specs.Item.{Item, Fault, last_line}
use Rattle.vx_player.specs.Generated.{IsPlayerRun, IsHalted, counts_of}

-- the text of a run: its first line, and what it counted, or the line of the fault at which it ends
abbrev pub run_text : Ask → List Item → List ℕ
run_text ask items = title_text ask ++ summary_text (counts_of items)

abbrev pub halted_text : Ask → Fault → List ℕ
halted_text ask fault = title_text ask ++ last_line (Some fault)

-- How a run ends, by the status. Where memory ran out, nothing was written behind the first line.
abbrev pub PlayEndsRun : Ask → List SpareShown → End → End → PlayStatus → Type 0
PlayEndsRun ask rack before after status.Done =
    (items : List Item) × IsPlayerRun ask rack items × Appends before.bytes after.bytes (run_text ask items)
PlayEndsRun ask rack before after status.Fault =
    (items : List Item) × (fault : Fault) × IsHalted ask rack items fault × Appends before.bytes after.bytes (halted_text ask fault)
PlayEndsRun ask rack before after status.SinkFailed =
    StopsIn before after (title_text ask)
    ⊎ ((items : List Item) × IsPlayerRun ask rack items × StopsIn before after (run_text ask items))
    ⊎ ((items : List Item) × (fault : Fault) × IsHalted ask rack items fault × StopsIn before after (halted_text ask fault))
PlayEndsRun ask rack before after status.NoMemory = Appends before.bytes after.bytes (title_text ask)
PlayEndsRun ask rack before after _ = ⊥
