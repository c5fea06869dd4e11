-- What a server that ended with 0 wrote.
use Rattle.std.proofs.Common.{◌≡◌, ℕ, sym, subst, ◌∙◌, arith, inl, inr}
use Rattle.std.specs.Prelude.{List, ◌++◌, Result, Ok, Err, string_bytes}
use Rattle.std.specs.Io.KnownBytes.{Appends}
use Rattle.vx_text.specs.Ends.{End}
use Rattle.vx_text.specs.declared.input.Input.{Input}
use Rattle.vx_text.specs.declared.input.Input.TheVariants as input
use Rattle.vx_setup.specs.declared.bench.BenchStop.{BenchStop}
use Rattle.vx_setup.specs.declared.bench.BenchStop.TheVariants as stop
use Rattle.vx_setup.specs.Rack.{SpareShown}
use Rattle.vx_startup.specs.declared.words.Options.{Options}
use Rattle.vx_startup.specs.declared.words.Asked.{Asked}
use Rattle.vx_startup.specs.declared.words.Asked.TheVariants as asked
use Rattle.vx_startup.specs.declared.status.ServerStatus.{ServerStatus}
use Rattle.vx_startup.specs.declared.status.ServerStatus.TheVariants as status
use Rattle.vx_startup.specs.Lines.{server_served_line}
use Rattle.vx_startup.specs.Outcome.{ServerIo, PutsLast, EndsStopped, EndsSet, EndsRead, EndsAsked, ServerEndsSo, DoneFor, IsDone, server_status_number}
use Rattle.vx_startup.specs.Running.{Ports, ServerEndsRun, first_line}

-- a server that ran to this end wrote both lines
run_done : (o : Options) (before : Ports) (refused : ℕ) (after : Ports) (refused' tally : ℕ) (how : ServerStatus) → server_status_number how ≡ 0
    → ServerEndsRun o before refused after refused' tally how → Appends before.sink.bytes after.sink.bytes (first_line o ++ server_served_line tally)
run_done o before refused after refused' tally status.Served zero e = e.1
run_done o before refused after refused' tally status.Told zero e = absurd e
run_done o before refused after refused' tally status.Usage zero e = absurd (omega arith)
run_done o before refused after refused' tally status.BenchFault zero e = absurd (omega arith)
run_done o before refused after refused' tally status.NetFailed zero e = absurd (omega arith)
run_done o before refused after refused' tally status.WorkerRefused zero e = absurd (omega arith)
run_done o before refused after refused' tally status.NoMemory zero e = absurd (omega arith)
run_done o before refused after refused' tally status.SinkFailed zero e = absurd (omega arith)
run_done o before refused after refused' tally status.SourceFailed zero e = absurd (omega arith)

-- an end of another status
none_done : (why how : ServerStatus) → server_status_number how ≡ 0 → (server_status_number why ≡ 0 → ⊥) → how ≡ why → ⊥
none_done why how zero other is = other (subst (λ (s : ServerStatus). server_status_number s ≡ 0) is zero)

not_failed : server_status_number status.SinkFailed ≡ 0 → ⊥
not_failed is = omega arith

-- the last line that was due for another end
line_done : (due : ServerStatus) (line : List ℕ) (before after : End) (how : ServerStatus) → server_status_number how ≡ 0 → (server_status_number due ≡ 0 → ⊥) → PutsLast due line before after how → ⊥
line_done due line before after how zero other (inl puts) = none_done due how zero other puts.0
line_done due line before after how zero other (inr stops) = none_done status.SinkFailed how zero not_failed stops.0

-- the text that was asked for
text_done : (text : List ℕ) (before after : End) (how : ServerStatus) → server_status_number how ≡ 0 → PutsLast status.Told text before after how → Appends before.bytes after.bytes text
text_done text before after how zero (inl puts) = puts.1
text_done text before after how zero (inr stops) = absurd (none_done status.SinkFailed how zero not_failed stops.0)

stopped_done : (why : BenchStop) (before after : End) (how : ServerStatus) → server_status_number how ≡ 0 → EndsStopped why before after how → ⊥
stopped_done (stop.Refused line cause) before after how zero e = line_done status.BenchFault _ before after how zero (λ n. omega arith) e
stopped_done stop.NoMemory before after how zero e = none_done status.NoMemory how zero (λ n. omega arith) e.1

set_done : (r : Result (Unit {0}) BenchStop) (o : Options) (before after : ServerIo) (tally : ℕ) (how : ServerStatus) → server_status_number how ≡ 0 → EndsSet r o before after tally how
    → Appends before.ports.sink.bytes after.ports.sink.bytes (first_line o ++ server_served_line tally)
set_done (Ok done) o before after tally how zero e = run_done o before.ports before.refused after.ports after.refused tally how zero e
set_done (Err why) o before after tally how zero e = absurd (stopped_done why before.ports.sink after.ports.sink how zero e.1)

read_done : (given : Input) (rack : List SpareShown) (o : Options) (before after : ServerIo) (tally : ℕ) (how : ServerStatus) → server_status_number how ≡ 0
    → EndsRead given rack o before after tally how → Appends before.ports.sink.bytes after.ports.sink.bytes (first_line o ++ server_served_line tally)
read_done (input.Whole text) rack o before after tally how zero e = set_done e.set o before after tally how zero e.ends
read_done input.TooLong rack o before after tally how zero e =
    absurd (line_done status.BenchFault _ before.ports.sink after.ports.sink how zero (λ n. omega arith) e.1)
read_done input.Failed rack o before after tally how zero e = absurd (none_done status.SourceFailed how zero (λ n. omega arith) e.1)
read_done input.NoMemory rack o before after tally how zero e = absurd (none_done status.NoMemory how zero (λ n. omega arith) e.1)

asked_done : (request : Asked) (rack : List SpareShown) (source source' : End) (before after : ServerIo) (tally : ℕ) (how : ServerStatus) → server_status_number how ≡ 0
    → EndsAsked request rack source source' before after tally how → DoneFor request before.ports.sink after.ports.sink tally
asked_done (asked.Serve o names file) rack source source' before after tally how zero e = read_done e.given rack o before after tally how zero e.ends
asked_done (asked.Tell text) rack source source' before after tally how zero e =
    text_done (string_bytes text) before.ports.sink after.ports.sink how zero e.1.1
asked_done asked.Usage rack source source' before after tally how zero e =
    line_done status.Usage _ before.ports.sink after.ports.sink how zero (λ n. omega arith) e.1.1
asked_done asked.NoMemory rack source source' before after tally how zero e = none_done status.NoMemory how zero (λ n. omega arith) e.1.1

-- a server that ended with 0 is done
pub is_done : (words : List (List ℕ)) (rack : List SpareShown) (source source' : End) (before after : ServerIo) (tally number : ℕ)
    → ServerEndsSo words rack source source' before after tally number → number ≡ 0 → IsDone words before.ports.sink after.ports.sink tally
is_done words rack source source' before after tally number (how, is, e) zero = record {
  request = e.request;
  asks = e.asks;
  written = asked_done e.request rack source source' before after tally how (sym is ∙ zero) e.ends;
}
