-- A server that ends before it comes to its ports ends as its words and its bench say.
use Rattle.std.proofs.Common.{ℕ, List, Option}
use Rattle.std.specs.Prelude.{String}
use Rattle.std.specs.declared.alloc.Global.{Global}
use Rattle.vx_text.specs.Ends.{End}
use Rattle.vx_text.specs.Reading.{IsInput}
use Rattle.vx_text.specs.declared.input.Input.{Input}
use Rattle.vx_setup.specs.Rack.{SpareShown}
use Rattle.vx_startup.specs.declared.words.Options.{Options}
use Rattle.vx_startup.specs.declared.words.Asked.TheVariants as asked
use Rattle.vx_startup.specs.Meant.{ServerAnswers}
use Rattle.vx_startup.specs.declared.preparing.TheConstants.{BENCH_MAX}
use Rattle.vx_startup.specs.declared.status.ServerStatus.{ServerStatus}
use Rattle.vx_startup.specs.Outcome.{ServerEnds, EndsOptioned, EndsRead}
use Rattle.vx_startup.specs.Preparing.{Early}

-- behind the words
pub behind_words : (words : List (List ℕ)) (rack : List SpareShown) (source source' : End) (o : Options) (names : List (List ℕ × List ℕ)) (file : Option (String Global)) (sink sink' : End) (how : ServerStatus)
    → ServerAnswers words (asked.Serve o names file) → Early (EndsOptioned o rack source source') sink sink' how → Early (ServerEnds words rack source source') sink sink' how
behind_words words rack source source' o names file sink sink' how asks early net refused tally =
    record { request = asked.Serve o names file; asks = asks; ends = early net refused tally }

-- and behind the reading of the bench
pub behind_reading : (o : Options) (rack : List SpareShown) (source source' : End) (given : Input) (sink sink' : End) (how : ServerStatus)
    → IsInput BENCH_MAX source source' given → Early (EndsRead given rack o) sink sink' how → Early (EndsOptioned o rack source source') sink sink' how
behind_reading o rack source source' given sink sink' how reads early net refused tally =
    record { given = given; reads = reads; ends = early net refused tally }
