-- What a link told last, where a call ends by it without a reply.
use Rattle.std.specs.Prelude.{ℕ, ◌+◌, ◌<◌, List, length, drop, Result, Ok, Err}
use Rattle.vx_io_traits.specs.declared.ReadOut.{ReadOut}
use Rattle.vx_io_traits.specs.declared.ReadOut.TheVariants.{Got, End, Failed}
use Rattle.vx_io_traits.specs.declared.WriteOut.{WriteOut}
use Rattle.vx_io_traits.specs.declared.WriteOut.TheVariants as sent
use Rattle.vx_client.specs.declared.answers.ClientErr.{ClientErr}
use Rattle.vx_client.specs.declared.answers.ClientErr.TheVariants as err
use Rattle.vx_client.specs.declared.inbox.Refill.{Refill}
use Rattle.vx_client.specs.declared.inbox.Refill.TheVariants as refill
use Rattle.vx_client.specs.declared.inbox.Brought.{Brought}
use Rattle.vx_client.specs.declared.inbox.Brought.TheVariants as brought

-- one receive answered so; `receives` is what the link tells of it
pub record Receive {L : Type 0} (receives : L → List ℕ → ReadOut → List ℕ → L → Type 0) (old : L) (answer : ReadOut) (new : L) : Type 0 where
  pub slice : List ℕ
  pub written : List ℕ
  pub told : receives old slice answer written new

-- the last call of the link where a call of the client ends so: a receive told the end, or failed, or a send failed
abbrev pub ErrorTold : {L : Type 0} → (L → List ℕ → ReadOut → List ℕ → L → Type 0) → (L → List ℕ → WriteOut → L → Type 0) → L → ClientErr → Type 0
ErrorTold {L = L} receives sends now err.Closed = (before : L) × Receive receives before End now
ErrorTold {L = L} receives sends now err.ReadFault = (before : L) × Receive receives before Failed now
ErrorTold {L = L} receives sends now err.WriteFault = (before : L) × (bytes : List ℕ) × sends before bytes sent.Failed now
ErrorTold receives sends now _ = Unit {0}

-- so does what a call answers; of a call that makes several exchanges it is the last one
abbrev pub TellsEnd : {L X : Type 0} → (L → List ℕ → ReadOut → List ℕ → L → Type 0) → (L → List ℕ → WriteOut → L → Type 0) → L → Result X ClientErr → Type 0
TellsEnd receives sends now (Ok x) = Unit {0}
TellsEnd receives sends now (Err e) = ErrorTold receives sends now e

-- ---- all calls of a link in one exchange

-- So many bytes of a text were sent, one send after another: each was handed what was left of the text.
pub data SentFront {L : Type 0} (sends : L → List ℕ → WriteOut → L → Type 0) (first : L) (text : List ℕ) : L → ℕ → Type 0 where
  Not_yet : SentFront sends first text first 0
  And_then : (mid now : L) (done count : ℕ) → SentFront sends first text mid done → done < length text → sends mid (drop done text) (sent.Took count) now
      → SentFront sends first text now (done + count)

-- bytes were received, one receive after another
pub data Received {L : Type 0} (receives : L → List ℕ → ReadOut → List ℕ → L → Type 0) (first : L) : L → Type 0 where
  None_yet : Received receives first first
  And_more : (mid now : L) (count : ℕ) → Received receives first mid → Receive receives mid (Got count) now → Received receives first now

-- bytes were received, and then a receive answered so
pub record EndsReceiving {L : Type 0} (receives : L → List ℕ → ReadOut → List ℕ → L → Type 0) (old : L) (answer : ReadOut) (new : L) : Type 0 where
  pub before : L
  pub received : Received receives old before
  pub last : Receive receives before answer new

-- the whole text was sent, bytes were received, and then a receive answered so
pub record Waits {L : Type 0} (receives : L → List ℕ → ReadOut → List ℕ → L → Type 0) (sends : L → List ℕ → WriteOut → L → Type 0) (old : L) (text : List ℕ)
    (answer : ReadOut) (new : L) : Type 0 where
  pub mid : L
  pub whole : SentFront sends old text mid (length text)
  pub ends : EndsReceiving receives mid answer new

-- the whole text was sent, and bytes were received
pub record Passes {L : Type 0} (receives : L → List ℕ → ReadOut → List ℕ → L → Type 0) (sends : L → List ℕ → WriteOut → L → Type 0) (old : L) (text : List ℕ) (new : L) : Type 0 where
  pub mid : L
  pub whole : SentFront sends old text mid (length text)
  pub received : Received receives mid new

-- a front of the text was sent, and then a send failed
pub record Breaks {L : Type 0} (sends : L → List ℕ → WriteOut → L → Type 0) (old : L) (text : List ℕ) (new : L) : Type 0 where
  pub before : L
  pub done : ℕ
  pub front : SentFront sends old text before done
  pub more : done < length text
  pub last : sends before (drop done text) sent.Failed new

-- what the link told, call after call, where the exchange of a text for a reply ends so; nothing where none was made
abbrev pub ErrorMade : {L : Type 0} → (L → List ℕ → ReadOut → List ℕ → L → Type 0) → (L → List ℕ → WriteOut → L → Type 0) → L → L → List ℕ → ClientErr → Type 0
ErrorMade receives sends old new text err.Closed = Waits receives sends old text End new
ErrorMade receives sends old new text err.ReadFault = Waits receives sends old text Failed new
ErrorMade receives sends old new text err.WriteFault = Breaks sends old text new
ErrorMade receives sends old new text err.Spent = Unit {0}
ErrorMade receives sends old new text _ = Passes receives sends old text new

-- so does what an exchange answers
abbrev pub TellsCalls : {L X : Type 0} → (L → List ℕ → ReadOut → List ℕ → L → Type 0) → (L → List ℕ → WriteOut → L → Type 0) → L → L → List ℕ → Result X ClientErr → Type 0
TellsCalls receives sends old new text (Ok x) = Passes receives sends old text new
TellsCalls receives sends old new text (Err e) = ErrorMade receives sends old new text e

-- what the sends of a text told
abbrev pub TellsSends : {L E : Type 0} → (L → List ℕ → WriteOut → L → Type 0) → L → L → List ℕ → Result Unit E → Type 0
TellsSends sends old new text (Ok done) = SentFront sends old text new (length text)
TellsSends sends old new text (Err failed) = Breaks sends old text new

-- what a receive told, where one was made
abbrev pub TellsRefill : {L : Type 0} → (L → List ℕ → ReadOut → List ℕ → L → Type 0) → L → L → Refill → Type 0
TellsRefill receives old new refill.Some = Received receives old new
TellsRefill receives old new refill.End = Receive receives old End new
TellsRefill receives old new refill.Failed = Receive receives old Failed new

-- what the receives of a reply told
abbrev pub TellsBrought : {L : Type 0} → (L → List ℕ → ReadOut → List ℕ → L → Type 0) → L → L → Brought → Type 0
TellsBrought receives old new brought.Record = Received receives old new
TellsBrought receives old new brought.TooLong = Received receives old new
TellsBrought receives old new brought.End = EndsReceiving receives old End new
TellsBrought receives old new brought.Failed = EndsReceiving receives old Failed new
