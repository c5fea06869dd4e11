-- To be believed.
-- How a server ends whose bus is behind another box: by what its words name and ask, what its bench's source gives, whether the box's bus
-- is had, and then by its ports, its workers and its links, in this order.
use Rattle.std.specs.Prelude.{◌≡◌, ◌⊎◌, ℕ, List, [], ◌∷◌, Result, Ok, Err, string_bytes}
use Rattle.vx_text.specs.Ends.{End}
use Rattle.vx_text.specs.Reading.{IsInput}
use Rattle.vx_text.specs.declared.input.Input.{Input}
use Rattle.vx_text.specs.declared.input.Input.TheVariants as input
use Rattle.vx_trace.specs.Output.{FaultLine, FaultLong}
use Rattle.vx_trace.specs.Text.{line_text}
use Rattle.vx_script.specs.Cause.{cause_word}
use Rattle.vx_script.specs.declared.Cause.TheVariants.{Form}
use Rattle.vx_startup.specs.declared.words.Options.{Options}
use Rattle.vx_startup.specs.declared.words.Asked.{Asked}
use Rattle.vx_startup.specs.declared.words.Asked.TheVariants as asked
use Rattle.vx_startup.specs.declared.status.ServerStatus.{ServerStatus}
use Rattle.vx_startup.specs.declared.status.ServerStatus.TheVariants as status
use Rattle.vx_startup.specs.declared.preparing.TheConstants.{BENCH_MAX}
use Rattle.vx_startup.specs.Meant.{ServerAnswers}
use Rattle.vx_startup.specs.Running.{ServerEndsRun}
use Rattle.vx_startup.specs.Outcome.{ServerIo, ServerTells, Stops, server_status_number}
use Rattle.vx_upstream.specs.Sending.{LinkWords}
use Rattle.vx_upstream.specs.UpstreamState.{UpstreamState, terms_of}
use Rattle.vx_upstream.specs.Opening.{IsOpened, IsUnopened}
use Rattle.vx_upstream.specs.declared.open.OpenErr.{OpenErr}
use Rattle.vx_upstream.specs.declared.open.OpenErr.TheVariants as cause
use Rattle.vx_relay.specs.Place.{Place, IsPlace, NoPlace}
use Rattle.vx_relay.specs.Lines.{relay_usage_line, unopened_line}

-- the bus behind the box at this place was had, or not, for this cause
abbrev pub Opens : {L : Type 0} → LinkWords L → L → Place → (patience : ℕ) → Result Unit OpenErr → Type 0
Opens {L = L} w link place patience (Ok _) = (bus : UpstreamState L) × IsOpened w link (terms_of place.host place.port place.name patience) bus
Opens w link place patience (Err e) = IsUnopened w link (terms_of place.host place.port place.name patience) e

-- It was had, and the server runs. Or it wasn't, and the line that says why is all that is due. Or memory ran out.
abbrev pub EndsOpened : Result Unit OpenErr → Options → ServerIo → ServerIo → (tally : ℕ) → ServerStatus → Type 0
EndsOpened (Ok _) o before after tally how = ServerEndsRun o before.ports before.refused after.ports after.refused tally how
EndsOpened (Err cause.NoMemory) o before after tally how = Stops status.NoMemory before after how
EndsOpened (Err e) o before after tally how = ServerTells status.BenchFault (unopened_line e) before after how

-- With no bench.
pub record EndsAtBox {L : Type 0} (w : LinkWords L) (link : L) (place : Place) (o : Options) (before after : ServerIo) (tally : ℕ) (how : ServerStatus) : Type 0 where
  pub opened : Result Unit OpenErr
  pub opens : Opens w link place o.patience opened
  pub ends : EndsOpened opened o before after tally how

-- By the bytes of the bench: there are none, or its first line is refused, since the bus isn't one that can be set up.
abbrev pub EndsBenchless : {L : Type 0} → LinkWords L → L → Place → (bench : List ℕ) → Options → ServerIo → ServerIo → (tally : ℕ) → ServerStatus → Type 0
EndsBenchless w link place [] o before after tally how = EndsAtBox w link place o before after tally how
EndsBenchless w link place (b ∷ bytes) o before after tally how = ServerTells status.BenchFault (line_text (FaultLine 1 (cause_word Form))) before after how

-- By what reading the bench comes to.
abbrev pub EndsRelayRead : {L : Type 0} → LinkWords L → L → Place → Input → Options → ServerIo → ServerIo → (tally : ℕ) → ServerStatus → Type 0
EndsRelayRead w link place (input.Whole bench) o before after tally how = EndsBenchless w link place bench.items o before after tally how
EndsRelayRead w link place input.TooLong o before after tally how = ServerTells status.BenchFault (line_text FaultLong) before after how
EndsRelayRead w link place input.Failed o before after tally how = Stops status.SourceFailed before after how
EndsRelayRead w link place input.NoMemory o before after tally how = Stops status.NoMemory before after how

-- With these options.
pub record EndsRelayOptioned {L : Type 0} (w : LinkWords L) (link : L) (place : Place) (o : Options) (source source' : End) (before after : ServerIo) (tally : ℕ) (how : ServerStatus) : Type 0 where
  pub given : Input
  pub reads : IsInput BENCH_MAX source source' given
  pub ends : EndsRelayRead w link place given o before after tally how

-- By what the words behind the box ask. Where they don't ask to serve, the bench isn't read, and the box isn't asked.
abbrev pub EndsRelayAsked : {L : Type 0} → LinkWords L → L → Place → Asked → End → End → ServerIo → ServerIo → (tally : ℕ) → ServerStatus → Type 0
EndsRelayAsked w link place (asked.Serve o names file) source source' before after tally how = EndsRelayOptioned w link place o source source' before after tally how
EndsRelayAsked w link place (asked.Tell text) source source' before after tally how = (source' ≡ source) × ServerTells status.Told (string_bytes text) before after how
EndsRelayAsked w link place asked.Usage source source' before after tally how = (source' ≡ source) × ServerTells status.Usage relay_usage_line before after how
EndsRelayAsked w link place asked.NoMemory source source' before after tally how = (source' ≡ source) × Stops status.NoMemory before after how

-- The words name a box.
pub record EndsPlaced {L : Type 0} (w : LinkWords L) (link : L) (words : List (List ℕ)) (source source' : End) (before after : ServerIo) (tally : ℕ) (how : ServerStatus) : Type 0 where
  pub place : Place
  pub rest : List (List ℕ)
  pub is : IsPlace words place rest
  pub request : Asked
  pub asks : ServerAnswers rest request
  pub ends : EndsRelayAsked w link place request source source' before after tally how

-- They name none, and the usage line is all that is due.
pub record EndsUnplaced (words : List (List ℕ)) (source source' : End) (before after : ServerIo) (how : ServerStatus) : Type 0 where
  pub none : NoPlace words
  pub unread : source' ≡ source
  pub tells : ServerTells status.Usage relay_usage_line before after how

-- How such a server ends, with the number of the tally that it gives back.
abbrev pub RelayEnds : {L : Type 0} → LinkWords L → L → List (List ℕ) → End → End → ServerIo → ServerIo → (tally : ℕ) → ServerStatus → Type 0
RelayEnds w link words source source' before after tally how =
    EndsPlaced w link words source source' before after tally how ⊎ EndsUnplaced words source source' before after how

-- It ends with the number of its status.
abbrev pub RelayEndsSo : {L : Type 0} → LinkWords L → L → List (List ℕ) → End → End → ServerIo → ServerIo → (tally number : ℕ) → Type 0
RelayEndsSo w link words source source' before after tally number =
    (how : ServerStatus) × (number ≡ server_status_number how) × RelayEnds w link words source source' before after tally how
