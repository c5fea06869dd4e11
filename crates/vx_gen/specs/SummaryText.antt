-- To be believed.
-- The text that tells the counts of a run.
use Rattle.std.specs.Prelude.{List, ◌++◌, ℕ, codes, decimal}
use Rattle.vx_gen.specs.declared.words.Ask.{Ask}
use Rattle.vx_gen.specs.declared.telling.Counts.{Counts}

-- the first line: the words that ask for the run
abbrev pub title_text : Ask → List ℕ
title_text ask = codes "gen " ++ decimal ask.seed ++ codes " " ++ decimal ask.steps ++ codes "\n"

-- the lines behind it
abbrev pub summary_text : Counts → List ℕ
summary_text counts =
    codes "answers " ++ decimal counts.answers ++ codes " errors " ++ decimal counts.errors
    ++ codes "\ntransfers " ++ decimal counts.transfers
    ++ codes "\ninterrupts " ++ decimal counts.interrupts
    ++ codes "\nwaits " ++ decimal counts.waits ++ codes "\ndone\n"
