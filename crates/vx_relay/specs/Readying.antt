-- A server whose bus is behind another box, before it comes to its ports: each step is done and nothing was written, or the server ends
-- there by its sink alone.
use Rattle.std.specs.Prelude.{◌≡◌, ℕ, List, [], ◌∷◌, Ok, Option, String, string_bytes}
use Rattle.std.specs.declared.alloc.Global.{Global}
use Rattle.vx_text.specs.Ends.{End}
use Rattle.vx_text.specs.Reading.{IsInput}
use Rattle.vx_text.specs.declared.input.Input.{Input}
use Rattle.vx_text.specs.declared.input.Input.TheVariants as input
use Rattle.vx_trace.specs.Output.{FaultLine, FaultLong}
use Rattle.vx_trace.specs.Text.{line_text}
use Rattle.vx_script.specs.Cause.{cause_word}
use Rattle.vx_script.specs.declared.Cause.TheVariants.{Form}
use Rattle.vx_startup.specs.declared.words.Options.{Options}
use Rattle.vx_startup.specs.declared.words.Asked.{Asked}
use Rattle.vx_startup.specs.declared.words.Asked.TheVariants as asked
use Rattle.vx_startup.specs.declared.status.ServerStatus.{ServerStatus}
use Rattle.vx_startup.specs.declared.status.ServerStatus.TheVariants as status
use Rattle.vx_startup.specs.declared.preparing.TheConstants.{BENCH_MAX}
use Rattle.vx_startup.specs.Meant.{ServerAnswers}
use Rattle.vx_startup.specs.Outcome.{PutsLast}
use Rattle.vx_upstream.specs.Sending.{LinkWords}
use Rattle.vx_upstream.specs.UpstreamState.{terms_of}
use Rattle.vx_upstream.specs.Opening.{IsUnopened}
use Rattle.vx_upstream.specs.declared.open.OpenErr.{OpenErr}
use Rattle.vx_upstream.specs.declared.open.OpenErr.TheVariants as cause
use Rattle.vx_relay.specs.Place.{Place, IsPlace}
use Rattle.vx_relay.specs.Lines.{relay_usage_line, unopened_line}
use Rattle.vx_relay.specs.Relaying.{Opens}

-- nothing is due, for this cause
abbrev pub EndsSilent : ServerStatus → End → End → ServerStatus → Type 0
EndsSilent why sink sink' how = (sink' ≡ sink) × (how ≡ why)

-- ---- the words

-- by what they ask, where they don't ask to serve
abbrev pub EndsUnserved : Asked → End → End → ServerStatus → Type 0
EndsUnserved (asked.Serve o names file) sink sink' how = ⊥
EndsUnserved (asked.Tell text) sink sink' how = PutsLast status.Told (string_bytes text) sink sink' how
EndsUnserved asked.Usage sink sink' how = PutsLast status.Usage relay_usage_line sink sink' how
EndsUnserved asked.NoMemory sink sink' how = EndsSilent status.NoMemory sink sink' how

pub record EndsAtWords (words : List (List ℕ)) (sink sink' : End) (how : ServerStatus) : Type 0 where
  pub request : Asked
  pub asks : ServerAnswers words request
  pub ends : EndsUnserved request sink sink' how

-- ---- the bench

-- by what stands in it, where something does
abbrev pub EndsByBench : List ℕ → End → End → ServerStatus → Type 0
EndsByBench [] sink sink' how = ⊥
EndsByBench (b ∷ bytes) sink sink' how = PutsLast status.BenchFault (line_text (FaultLine 1 (cause_word Form))) sink sink' how

abbrev pub EndsByInput : Input → End → End → ServerStatus → Type 0
EndsByInput (input.Whole bench) sink sink' how = EndsByBench bench.items sink sink' how
EndsByInput input.TooLong sink sink' how = PutsLast status.BenchFault (line_text FaultLong) sink sink' how
EndsByInput input.Failed sink sink' how = EndsSilent status.SourceFailed sink sink' how
EndsByInput input.NoMemory sink sink' how = EndsSilent status.NoMemory sink sink' how

pub record EndsAtBench (source source' : End) (sink sink' : End) (how : ServerStatus) : Type 0 where
  pub given : Input
  pub reads : IsInput BENCH_MAX source source' given
  pub ends : EndsByInput given sink sink' how

-- nothing stands in it
abbrev pub IsEmpty : Input → Type 0
IsEmpty (input.Whole bench) = bench.items ≡ []
IsEmpty _ = ⊥

pub record HasNoBench (source source' : End) : Type 0 where
  pub given : Input
  pub reads : IsInput BENCH_MAX source source' given
  pub empty : IsEmpty given

-- ---- the box

abbrev pub EndsByOpening : OpenErr → End → End → ServerStatus → Type 0
EndsByOpening cause.NoMemory sink sink' how = EndsSilent status.NoMemory sink sink' how
EndsByOpening e sink sink' how = PutsLast status.BenchFault (unopened_line e) sink sink' how

pub record EndsAtOpening {L : Type 0} (w : LinkWords L) (link : L) (place : Place) (patience : ℕ) (sink sink' : End) (how : ServerStatus) : Type 0 where
  pub cause_is : OpenErr
  pub unopened : IsUnopened w link (terms_of place.host place.port place.name patience) cause_is
  pub ends : EndsByOpening cause_is sink sink' how

-- ---- all steps

-- each was done, and the server has these options, these names, some file of rules or none, and its bus
pub record IsRelayReady {L : Type 0} (w : LinkWords L) (link : L) (words : List (List ℕ)) (source source' : End) (o : Options) (names : List (List ℕ × List ℕ)) : Type 0 where
  pub place : Place
  pub rest : List (List ℕ)
  pub is : IsPlace words place rest
  pub file : Option (String Global)
  pub asks : ServerAnswers rest (asked.Serve o names file)
  pub bench : HasNoBench source source'
  pub opens : Opens w link place o.patience (Ok tt)
