-- A server before it comes to its ports: it is ready to go on with its options, its names and its bus, or it ends.
use Rattle.std.specs.Prelude.{◌≡◌, ℕ, List, Ok, Option, String}
use Rattle.std.specs.declared.alloc.Global.{Global}
use Rattle.vx_text.specs.Ends.{End}
use Rattle.vx_text.specs.Reading.{IsInput}
use Rattle.vx_text.specs.declared.input.Input.{Input}
use Rattle.vx_text.specs.declared.input.Input.TheVariants as input
use Rattle.vx_setup.specs.Rack.{SpareShown}
use Rattle.vx_setup.specs.SettingUp.{BenchState, EndsBench}
use Rattle.vx_startup.specs.declared.words.Options.{Options}
use Rattle.vx_startup.specs.declared.words.Asked.TheVariants as asked
use Rattle.vx_startup.specs.Meant.{ServerAnswers}
use Rattle.vx_startup.specs.declared.preparing.TheConstants.{BENCH_MAX}
use Rattle.vx_startup.specs.declared.status.ServerStatus.{ServerStatus}
use Rattle.vx_startup.specs.Running.{NetShown}
use Rattle.vx_startup.specs.Outcome.{ServerIo, first_bench}

-- each line of this bench is set up, with these spares
abbrev pub IsBench : List ℕ → List SpareShown → Type 0
IsBench text rack = (end : BenchState) × EndsBench text (first_bench rack) end (Ok tt)

-- what was read is such a bench
abbrev pub IsBenchRead : Input → List SpareShown → Type 0
IsBenchRead (input.Whole text) rack = IsBench text.items rack
IsBenchRead _ rack = ⊥

-- The words ask to serve with these options and names, and with some file of rules or none, and the source gave a bench of which each line
-- is set up.
pub record IsServerReady (words : List (List ℕ)) (rack : List SpareShown) (source source' : End) (o : Options) (names : List (List ℕ × List ℕ)) : Type 0 where
  pub file : Option (String Global)
  pub asks : ServerAnswers words (asked.Serve o names file)
  pub given : Input
  pub reads : IsInput BENCH_MAX source source' given
  pub bench : IsBenchRead given rack

-- nothing was written
abbrev pub IsQuiet : End → End → Type 0
IsQuiet sink sink' = sink' ≡ sink

-- the outside with this sink
abbrev pub outside : NetShown → ℕ → End → ServerIo
outside net refused sink = record { ports = record { net = net; sink = sink }; refused = refused }

-- It ends by its sink alone: whatever its net and its spawner show, they are as they were; and whatever its tally is.
abbrev pub Early : (ServerIo → ServerIo → ℕ → ServerStatus → Type 0) → End → End → ServerStatus → Type 0
Early EndsHere sink sink' how = (net : NetShown) (refused tally : ℕ) → EndsHere (outside net refused sink) (outside net refused sink') tally how
