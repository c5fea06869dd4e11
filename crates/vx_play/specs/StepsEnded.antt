-- How a run ends behind its first line.
use Rattle.std.specs.Prelude.{◌≡◌, List, Some, ◌⊎◌}
use Rattle.std.specs.Io.KnownBytes.{Appends}
use Rattle.vx_setup.specs.Rack.{SpareShown}
use Rattle.vx_run.specs.Item.{Item}
use Rattle.vx_gen.specs.declared.words.Ask.{Ask}
use Rattle.vx_gen.specs.SummaryText.{summary_text}
use Rattle.vx_text.specs.Ends.{End}
use Rattle.vx_text.specs.Writing.{StopsIn}
use Rattle.vx_play.specs.declared.run.PlayStatus.{PlayStatus}
use Rattle.vx_play.specs.declared.run.PlayStatus.TheVariants as status
use Rattle.vx_run.specs.Item.{Fault, last_line}
use Rattle.vx_player.specs.Generated.{IsPlayerRun, IsHalted, counts_of}

-- how a run ends behind its first line
abbrev pub EndsSteps : Ask → List SpareShown → End → End → PlayStatus → Type 0
EndsSteps ask rack before after status.Done =
    (items : List Item) × IsPlayerRun ask rack items × Appends before.bytes after.bytes (summary_text (counts_of items))
EndsSteps ask rack before after status.Fault =
    (items : List Item) × (fault : Fault) × IsHalted ask rack items fault × Appends before.bytes after.bytes (last_line (Some fault))
EndsSteps ask rack before after status.SinkFailed =
    ((items : List Item) × IsPlayerRun ask rack items × StopsIn before after (summary_text (counts_of items)))
    ⊎ ((items : List Item) × (fault : Fault) × IsHalted ask rack items fault × StopsIn before after (last_line (Some fault)))
EndsSteps ask rack before after status.NoMemory = after ≡ before
EndsSteps ask rack before after _ = ⊥
