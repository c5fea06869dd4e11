-- To be believed.
-- How a server ends: by what its words ask, what its bench's source gives, what its lines are, and then by its ports, its workers
-- and its links, in this order.
use Rattle.std.specs.Prelude.{◌≡◌, ℕ, List, ◌++◌, Result, Ok, Err, ◌⊎◌, string_bytes}
use Rattle.std.specs.Io.KnownBytes.{Appends}
use Rattle.vx_text.specs.Ends.{End}
use Rattle.vx_text.specs.Reading.{IsInput}
use Rattle.vx_text.specs.Writing.{StopsIn}
use Rattle.vx_text.specs.declared.input.Input.{Input}
use Rattle.vx_text.specs.declared.input.Input.TheVariants as input
use Rattle.vx_trace.specs.Output.{FaultLine, FaultLong}
use Rattle.vx_trace.specs.Text.{line_text}
use Rattle.vx_script.specs.Cause.{cause_word}
use Rattle.vx_sim.specs.SimState.{first_state}
use Rattle.vx_setup.specs.declared.bench.BenchStop.{BenchStop}
use Rattle.vx_setup.specs.declared.bench.BenchStop.TheVariants as stop
use Rattle.vx_setup.specs.Rack.{SpareShown}
use Rattle.vx_setup.specs.SettingUp.{BenchState, EndsBench}
use Rattle.vx_startup.specs.declared.words.Options.{Options}
use Rattle.vx_startup.specs.declared.words.Asked.{Asked}
use Rattle.vx_startup.specs.declared.words.Asked.TheVariants as asked
use Rattle.vx_startup.specs.Meant.{ServerAnswers}
use Rattle.vx_startup.specs.declared.preparing.TheConstants.{BENCH_MAX}
use Rattle.vx_startup.specs.declared.status.ServerStatus.{ServerStatus}
use Rattle.vx_startup.specs.declared.status.ServerStatus.TheVariants as status
use Rattle.vx_startup.specs.Lines.{server_usage_line, server_served_line}
use Rattle.vx_startup.specs.Running.{Ports, ServerEndsRun, first_line}

-- the number of a status
abbrev pub server_status_number : ServerStatus → ℕ
server_status_number status.Served = 0
server_status_number status.Told = 0
server_status_number status.Usage = 1
server_status_number status.BenchFault = 2
server_status_number status.NetFailed = 3
server_status_number status.WorkerRefused = 4
server_status_number status.NoMemory = 5
server_status_number status.SinkFailed = 6
server_status_number status.SourceFailed = 7

-- the net, the sink, and how many works the spawner has refused
pub record ServerIo : Type 0 where
  pub ports : Ports
  pub refused : ℕ

-- the net and the spawner are as they were; and so is the sink
abbrev pub IsUnserved : ServerIo → ServerIo → Type 0
IsUnserved before after = (after.ports.net ≡ before.ports.net) × (after.refused ≡ before.refused)

abbrev pub IsSilent : ServerIo → ServerIo → Type 0
IsSilent before after = IsUnserved before after × (after.ports.sink ≡ before.ports.sink)

-- the line that is all that is due was written, or the sink failed in it
abbrev pub PutsLast : ServerStatus → List ℕ → End → End → ServerStatus → Type 0
PutsLast due line before after how =
    ((how ≡ due) × Appends before.bytes after.bytes line) ⊎ ((how ≡ status.SinkFailed) × StopsIn before after line)

-- nothing but that line came of it
abbrev pub ServerTells : ServerStatus → List ℕ → ServerIo → ServerIo → ServerStatus → Type 0
ServerTells due line before after how = IsUnserved before after × PutsLast due line before.ports.sink after.ports.sink how

-- nothing came of it
abbrev pub Stops : ServerStatus → ServerIo → ServerIo → ServerStatus → Type 0
Stops why before after how = IsSilent before after × (how ≡ why)

-- A line of the bench is the first that is refused: its line is all that is due. Or memory ran out: nothing is written.
abbrev pub EndsStopped : BenchStop → End → End → ServerStatus → Type 0
EndsStopped (stop.Refused line why) before after how = PutsLast status.BenchFault (line_text (FaultLine line (cause_word why))) before after how
EndsStopped stop.NoMemory before after how = (after ≡ before) × (how ≡ status.NoMemory)

-- By how the lines of the bench are set up: each is, and the server runs; or not, and it stops.
abbrev pub EndsSet : Result Unit BenchStop → Options → ServerIo → ServerIo → ℕ → ServerStatus → Type 0
EndsSet (Ok done) o before after tally how = ServerEndsRun o before.ports before.refused after.ports after.refused tally how
EndsSet (Err why) o before after tally how = IsUnserved before after × EndsStopped why before.ports.sink after.ports.sink how

-- a bench with these spares, before its first line
abbrev pub first_bench : List SpareShown → BenchState
first_bench rack = record { bus = first_state; rack = rack }

-- With this bench, and these spares.
pub record EndsBenched (text : List ℕ) (rack : List SpareShown) (o : Options) (before after : ServerIo) (tally : ℕ) (how : ServerStatus) : Type 0 where
  pub set : Result Unit BenchStop
  pub end : BenchState
  pub sets : EndsBench text (first_bench rack) end set
  pub ends : EndsSet set o before after tally how

-- By what reading the bench comes to: a text; more than a bench may have; a fault of the source; or memory ran out.
abbrev pub EndsRead : Input → List SpareShown → Options → ServerIo → ServerIo → ℕ → ServerStatus → Type 0
EndsRead (input.Whole text) rack o before after tally how = EndsBenched text.items rack o before after tally how
EndsRead input.TooLong rack o before after tally how = ServerTells status.BenchFault (line_text FaultLong) before after how
EndsRead input.Failed rack o before after tally how = Stops status.SourceFailed before after how
EndsRead input.NoMemory rack o before after tally how = Stops status.NoMemory before after how

-- With these options.
pub record EndsOptioned (o : Options) (rack : List SpareShown) (source source' : End) (before after : ServerIo) (tally : ℕ) (how : ServerStatus) : Type 0 where
  pub given : Input
  pub reads : IsInput BENCH_MAX source source' given
  pub ends : EndsRead given rack o before after tally how

-- By what the words ask: to serve with options, names and a file of rules, if any; for a text; nothing, since they are refused; or memory
-- ran out. Where they don't ask to serve, the bench isn't read.
abbrev pub EndsAsked : Asked → List SpareShown → End → End → ServerIo → ServerIo → ℕ → ServerStatus → Type 0
EndsAsked (asked.Serve o names file) rack source source' before after tally how = EndsOptioned o rack source source' before after tally how
EndsAsked (asked.Tell text) rack source source' before after tally how = (source' ≡ source) × ServerTells status.Told (string_bytes text) before after how
EndsAsked asked.Usage rack source source' before after tally how = (source' ≡ source) × ServerTells status.Usage server_usage_line before after how
EndsAsked asked.NoMemory rack source source' before after tally how = (source' ≡ source) × Stops status.NoMemory before after how

-- How a server ends, with the number of the tally that it gives back.
pub record ServerEnds (words : List (List ℕ)) (rack : List SpareShown) (source source' : End) (before after : ServerIo) (tally : ℕ) (how : ServerStatus) : Type 0 where
  pub request : Asked
  pub asks : ServerAnswers words request
  pub ends : EndsAsked request rack source source' before after tally how

-- It ends with the number of its status.
abbrev pub ServerEndsSo : List (List ℕ) → List SpareShown → End → End → ServerIo → ServerIo → ℕ → ℕ → Type 0
ServerEndsSo words rack source source' before after tally number =
    (how : ServerStatus) × (number ≡ server_status_number how) × ServerEnds words rack source source' before after tally how

-- What a server that ends with 0 has written, by what its words ask: to serve, both its lines; for the help or the version, that text.
abbrev pub DoneFor : Asked → End → End → ℕ → Type 0
DoneFor (asked.Serve o names file) before after tally = Appends before.bytes after.bytes (first_line o ++ server_served_line tally)
DoneFor (asked.Tell text) before after tally = Appends before.bytes after.bytes (string_bytes text)
DoneFor _ before after tally = ⊥

-- it has, with the number of the tally that it gives back
pub record IsDone (words : List (List ℕ)) (before after : End) (tally : ℕ) : Type 0 where
  pub request : Asked
  pub asks : ServerAnswers words request
  pub written : DoneFor request before after tally
