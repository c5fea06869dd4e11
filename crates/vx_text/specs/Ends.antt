-- To be believed.
-- An end of a stream of bytes.
use Rattle.std.specs.Prelude.{ℕ, List, Option}
use Rattle.vx_io_traits.specs.declared.Source.{Ghosts as SourceTold}
use Rattle.vx_io_traits.specs.declared.Sink.{Ghosts as SinkTold}

-- what a source has left to give, or a sink has taken, and its count of faults
pub record End : Type 0 where
  pub bytes : Option (List ℕ)
  pub faults : ℕ

-- what a source shows, of all that its trait tells
abbrev pub source_shown : {S : Type 0} → SourceTold S → S → End
source_shown told source = record { bytes = told.left source; faults = told.faults source }

-- what a sink shows, of all that its trait tells
abbrev pub sink_shown : {K : Type 0} → SinkTold K → K → End
sink_shown told sink = record { bytes = told.taken sink; faults = told.faults sink }
