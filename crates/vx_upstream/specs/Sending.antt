-- To be believed.
-- What is sent to the box for what the bus is asked, and what that came to.
use Rattle.std.specs.Prelude.{◌≡◌, ◌≤◌, ◌<◌, ◌⊎◌, ℕ, ◌-◌, Bool, true, false, ◌||◌, List, [], ◌∷◌, length, take, Option, None, Some, Result}
use Rattle.std.specs.Io.KnownBytes.{Keeps}
use Rattle.vx_io_traits.specs.declared.links.Link.{Ghosts as OfLink}
use Rattle.vx_io_traits.specs.declared.dials.DialOut.{DialOut}
use Rattle.vx_io_traits.specs.Faults.{Rose}
use Rattle.vx_io_traits.specs.Rung.{OnDialFailed, is_up}
use Rattle.vx_io_traits.specs.Stands.{Stays}
use Rattle.vx_calls.specs.Call.{Call}
use Rattle.vx_calls.specs.declared.calls.Proc.TheVariants as proc
use Rattle.vx_codec.specs.Answered.{Outcome}
use Rattle.vx_488.specs.declared.asks.Move.{Move}
use Rattle.vx_488.specs.declared.asks.Move.TheVariants as answer
use Rattle.vx_488.specs.declared.bursts.Many.{Many}
use Rattle.vx_488.specs.declared.bursts.ManyGot.{ManyGot}
use Rattle.vx_client.specs.State.{ClientState}
use Rattle.vx_client.specs.Calls.{command}
use Rattle.vx_client.specs.Chunks.{write_call}
use Rattle.vx_client.specs.Exchange.{IsCalled}
use Rattle.vx_client.specs.Meaning.{len_of, nothing_of}
use Rattle.vx_client.specs.Parts.{read_call, end_of}
use Rattle.vx_client.specs.Sizes.{size_told, bytes_told}
use Rattle.vx_client.specs.declared.answers.ReadEnd.{ReadEnd}
use Rattle.vx_client.specs.declared.answers.ClientErr.{ClientErr}
use Rattle.vx_upstream.specs.UpstreamState.{UpstreamState, IsHere, IsAway, opts_of}
use Rattle.vx_upstream.specs.Answering.{order_move, many_of, byte_move, bytes_come, tells_end, got_of, level_of, standing_after}

-- what is said of a link: for which bytes it stands, what it has left to give, and its counts of faults; and of its reaches: what each
-- does, how many were refused, and whether the link can move bytes
pub record LinkWords (L : Type 0) : Type 1 where
  pub stands : L → List ℕ → List ℕ → Type 0
  pub left : L → Option (List ℕ)
  pub receives : L → ℕ
  pub sends : L → ℕ
  pub tries : L → List ℕ → ℕ → DialOut → L → Type 0
  pub refused : L → ℕ
  pub ready : L → Bool

-- of all that its type tells as a link, and of what it tells as a reach
abbrev pub words_of : {L : Type 0} → OfLink L → (L → ℕ) → (L → List ℕ → ℕ → DialOut → L → Type 0) → LinkWords L
words_of link refused tries = record {
  stands = link.stands;
  left = link.left;
  receives = link.receive_faults;
  sends = link.send_faults;
  tries = tries;
  refused = refused;
  ready = link.is_ready;
}

-- one reach of this port of this host, with its answer: no byte was sent or received
pub record Reaches {L : Type 0} (w : LinkWords L) (host : List ℕ) (port : ℕ) (answer : DialOut) (old new : L) : Type 0 where
  pub tried : w.tries old host port answer new
  pub rose : OnDialFailed answer (Rose (w.refused old) (w.refused new))
  pub ready : w.ready new ≡ (is_up answer || w.ready old)
  pub given : Keeps (w.left old) (w.left new)
  pub stays : Stays w.stands old new
  pub receives : w.receives new ≡ w.receives old
  pub sends : w.sends new ≡ w.sends old

-- a line as a number
abbrev pub bit : Bool → ℕ
bit true = 1
bit false = 0

-- one call of the client
abbrev pub OneCall : {L X : Type 0} → LinkWords L → ClientState L → ClientState L → Call → ℕ → (Outcome → X) → Result X ClientErr → Type 0
OneCall w old new call room view r = IsCalled w.stands w.left w.receives w.sends old new call room view r

-- a device_docmd of this command with these data, and what it answered (VXI-11.2, device_docmd)
abbrev pub Commands : {L : Type 0} → LinkWords L → ℕ → List ℕ → Result ℕ ClientErr → UpstreamState L → UpstreamState L → Type 0
Commands w cmd bytes r old new = OneCall w old.client new.client (command old.made.lid (opts_of old 0) cmd bytes) 4 len_of r

-- and what it came to
abbrev pub Ordered : {L : Type 0} → LinkWords L → ℕ → List ℕ → Move → UpstreamState L → UpstreamState L → Type 0
Ordered w cmd bytes m old new = (r : Result ℕ ClientErr) × Commands w cmd bytes r old new × (m ≡ order_move r)

-- An ask of a bus that is here is such a call. One of a bus that is away fails, and nothing is sent for it.
abbrev pub Orders : {L : Type 0} → LinkWords L → ℕ → List ℕ → Move → UpstreamState L → UpstreamState L → Type 0
Orders w cmd bytes m old new = (IsHere old × Ordered w cmd bytes m old new) ⊎ (IsAway old × (m ≡ answer.Failed) × (new.client ≡ old.client))

-- END among the flags of a write (VXI-11, Device_Flags)
abbrev pub end_flag : Bool → ℕ
end_flag true = 8
end_flag false = 0

-- a device_write of these bytes, with END on the last one or not, and what it came to
abbrev pub Wrote : {L : Type 0} → LinkWords L → List ℕ → Bool → Many → UpstreamState L → UpstreamState L → Type 0
Wrote w bytes end m old new =
    (r : Result Unit ClientErr) × OneCall w old.client new.client (write_call old.made.lid (opts_of old (end_flag end)) (end_flag end) bytes) 0 nothing_of r
    × (m ≡ many_of (length bytes) r (size_told new.client.last))

-- the stop byte of a read, as it is sent (VXI-11, Device_Flags, termchrset)
abbrev pub stop_flag : Option ℕ → ℕ
stop_flag None = 0
stop_flag (Some c) = 0x80

abbrev pub stop_byte : Option ℕ → ℕ
stop_byte None = 0
stop_byte (Some c) = c

-- a device_read for so many bytes, with this stop byte or with none, and what it answered
abbrev pub Reads : {L : Type 0} → LinkWords L → ℕ → Option ℕ → Result ReadEnd ClientErr → UpstreamState L → UpstreamState L → Type 0
Reads w room char r old new = OneCall w old.client new.client (read_call old.made.lid (opts_of old (stop_flag char)) (stop_byte char) room) room end_of r

-- that into so much room, the bytes of it that were taken, and what it came to
abbrev pub ReadMany : {L : Type 0} → LinkWords L → ℕ → Option ℕ → List ℕ → ManyGot → UpstreamState L → UpstreamState L → Type 0
ReadMany w room char bytes m old new =
    (r : Result ReadEnd ClientErr) × Reads w room char r old new
    × (m ≡ got_of room char (bytes_come r (bytes_told proc.Read new.client.last)) (tells_end r) (byte_move r))
    × (bytes ≡ take m.got (bytes_come r (bytes_told proc.Read new.client.last)))

-- ---- looks at lines

-- a bus status of this selector, and the level that it left where it was so before; where it broke off the bus is away
abbrev pub AsksLevel : {L : Type 0} → LinkWords L → ℕ → Bool → Bool → UpstreamState L → UpstreamState L → Type 0
AsksLevel w selector before level old new =
    (r : Result ℕ ClientErr) × Commands w 0x020001 (0 ∷ selector ∷ []) r old new × (level ≡ level_of r (bytes_told proc.Docmd new.client.last) before)
    × (new.kept ≡ record old.kept { standing = standing_after r old.kept.standing })

-- a look at SRQ at this moment, where the last one was 10 milliseconds ago or more; else nothing
abbrev pub LooksAtSrq : {L : Type 0} → LinkWords L → ℕ → UpstreamState L → UpstreamState L → Type 0
LooksAtSrq w now old new =
    ((10 ≤ now - old.levels.srq_asked) × AsksLevel w 2 old.levels.srq new.levels.srq old new
    × (new ≡ record old { client = new.client; kept = new.kept; levels = record old.levels { srq = new.levels.srq; srq_asked = now } }))
    ⊎ ((now - old.levels.srq_asked < 10) × (new ≡ old))

-- a look at NDAC at this moment, where the last one was 100 milliseconds ago or more; else nothing
abbrev pub LooksAtNdac : {L : Type 0} → LinkWords L → ℕ → UpstreamState L → UpstreamState L → Type 0
LooksAtNdac w now old new =
    ((100 ≤ now - old.levels.ndac_asked) × AsksLevel w 3 old.levels.ndac new.levels.ndac old new
    × (new ≡ record old { client = new.client; kept = new.kept; levels = record old.levels { ndac = new.levels.ndac; ndac_asked = now } }))
    ⊎ ((now - old.levels.ndac_asked < 100) × (new ≡ old))

-- both, one after the other
abbrev pub Looks : {L : Type 0} → LinkWords L → ℕ → UpstreamState L → UpstreamState L → Type 0
Looks {L = L} w now old new = (mid : UpstreamState L) × LooksAtSrq w now old mid × LooksAtNdac w now mid new
