-- How a server ends that ended so behind its first steps.
use Rattle.std.proofs.Common.{◌≡◌, ℕ, ◌-◌, ◌^◌, min, ◌≤◌, ◌<◌, sym, subst, ◌∙◌, inl, inr}
use Rattle.std.specs.Prelude.{◌⊎◌, List, Ok}
use Rattle.std.specs.Io.KnownBytes.{Appends}
use Rattle.std.proofs.KnownBytes.{Appends-trans}
use Rattle.vx_io_traits.specs.Faults.{Rose}
use Rattle.vx_io_traits.proofs.Laws.{rose_earlier}
use Rattle.vx_text.specs.Ends.{End}
use Rattle.vx_text.specs.declared.input.Input.{Input}
use Rattle.vx_text.specs.declared.input.Input.TheVariants as input
use Rattle.vx_setup.specs.Rack.{SpareShown}
use Rattle.vx_startup.specs.declared.words.Options.{Options}
use Rattle.vx_startup.specs.declared.words.Asked.TheVariants as asked
use Rattle.vx_startup.specs.declared.status.ServerStatus.{ServerStatus}
use Rattle.vx_startup.specs.declared.status.ServerStatus.TheVariants as status
use Rattle.vx_startup.specs.Lines.{server_served_line}
use Rattle.vx_startup.specs.Outcome.{ServerIo, ServerEnds, EndsRead}
use Rattle.vx_startup.specs.Preparing.{IsBenchRead, IsServerReady}
use Rattle.vx_startup.specs.Running.{NetShown, Ports, TookLinks, LinksServed, LinksEnd, ServerEndsRun, first_line}

-- the end of a server that has announced its ports is its end with the line of them
pub announced : (o : Options) (before : Ports) (mid : End) (after : Ports) (tally : ℕ) (how : ServerStatus) → Appends before.sink.bytes mid.bytes (first_line o)
    → before.sink.faults ≤ mid.faults → LinksServed o.limit (record { net = before.net; sink = mid }) after tally how → LinksEnd o before after tally how
announced o before mid after tally status.Served first counted s =
    (s.0, Appends-trans before.sink.bytes mid.bytes after.sink.bytes (first_line o) (server_served_line tally) first s.1)
announced o before mid after tally status.NetFailed first counted s =
    (s.0, subst (λ (e : End). Appends before.sink.bytes e.bytes (first_line o)) (sym s.1) first)
announced o before mid after tally status.SinkFailed first counted s =
    inr (s.0, record { mid = mid; taken = first; counted = counted; stops = s.1 })
announced o before mid after tally status.Told first counted s = s
announced o before mid after tally status.Usage first counted s = s
announced o before mid after tally status.BenchFault first counted s = s
announced o before mid after tally status.WorkerRefused first counted s = s
announced o before mid after tally status.NoMemory first counted s = s
announced o before mid after tally status.SourceFailed first counted s = s

-- links that were taken behind the opening of the ports were taken
took_from : (limit : ℕ) (before mid after : NetShown) (number : ℕ) → mid.given ≡ before.given → mid.ended ≡ before.ended
    → TookLinks limit mid after number → TookLinks limit before after number
took_from limit before mid after number given ended t = record {
  grew = subst (λ k. k ≤ after.given) given t.grew;
  number_is = subst (λ k. number ≡ min (after.given - k) (2 ^ 64 - 1)) given t.number_is;
  within = t.within;
  why = subst (λ k. ((0 < limit) × (number ≡ limit)) ⊎ Rose k after.ended) ended t.why;
}

-- the end of a server that has opened its ports and started its workers is its end with these
pub started : (o : Options) (before : Ports) (mid : NetShown) (refused : ℕ) (after : Ports) (refused' tally : ℕ) (how : ServerStatus)
    → mid.given ≡ before.net.given → mid.ended ≡ before.net.ended → before.net.faults ≤ mid.faults
    → LinksEnd o (record { net = mid; sink = before.sink }) after tally how → ServerEndsRun o before refused after refused' tally how
started o before mid refused after refused' tally status.Served given ended counted s =
    (took_from o.limit before.net mid after.net tally given ended s.0, s.1)
started o before mid refused after refused' tally status.NetFailed given ended counted s =
    inr (rose_earlier before.net.faults mid.faults after.net.faults counted s.0, s.1)
started o before mid refused after refused' tally status.SinkFailed given ended counted (inl s) = inl (s.0, s.1 ∙ given, s.2 ∙ ended)
started o before mid refused after refused' tally status.SinkFailed given ended counted (inr s) =
    inr (took_from o.limit before.net mid after.net tally given ended s.0, s.1)
started o before mid refused after refused' tally status.Told given ended counted s = s
started o before mid refused after refused' tally status.Usage given ended counted s = s
started o before mid refused after refused' tally status.BenchFault given ended counted s = s
started o before mid refused after refused' tally status.WorkerRefused given ended counted s = absurd s
started o before mid refused after refused' tally status.NoMemory given ended counted s = absurd s
started o before mid refused after refused' tally status.SourceFailed given ended counted s = s

-- a server that read a bench of which each line is set up ends as its run ends
reads_so : (o : Options) (rack : List SpareShown) (before after : ServerIo) (tally : ℕ) (how : ServerStatus) (given : Input) → IsBenchRead given rack
    → ServerEndsRun o before.ports before.refused after.ports after.refused tally how → EndsRead given rack o before after tally how
reads_so o rack before after tally how (input.Whole text) bench run = record { set = Ok tt; end = bench.0; sets = bench.1; ends = run }
reads_so o rack before after tally how input.TooLong bench run = absurd bench
reads_so o rack before after tally how input.Failed bench run = absurd bench
reads_so o rack before after tally how input.NoMemory bench run = absurd bench

-- and so does one that is ready
pub ready : (words : List (List ℕ)) (rack : List SpareShown) (source source' : End) (o : Options) (names : List (List ℕ × List ℕ)) (before after : ServerIo) (tally : ℕ) (how : ServerStatus)
    → IsServerReady words rack source source' o names → ServerEndsRun o before.ports before.refused after.ports after.refused tally how
    → ServerEnds words rack source source' before after tally how
ready words rack source source' o names before after tally how r run = record {
  request = asked.Serve o names r.file;
  asks = r.asks;
  ends = record { given = r.given; reads = r.reads; ends = reads_so o rack before after tally how r.given r.bench run };
}
