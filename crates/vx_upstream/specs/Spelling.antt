-- Which transfers the calls of a box spell, each by what was sent and what was answered.
use Rattle.std.specs.Prelude.{◌≡◌, ℕ, Bool, true, false, List, [], ◌∷◌, ◌++◌, length, take, Option, Result, Ok, Err}
use Rattle.vx_calls.specs.declared.calls.Proc.TheVariants as proc
use Rattle.vx_488.specs.declared.transfers.Transfer.{Transfer}
use Rattle.vx_488.specs.declared.transfers.Transfer.TheVariants.{Cmd, Put, Got, Ren, Atn, Ifc, Own}
use Rattle.vx_488.specs.declared.wire.Wire.{Wire}
use Rattle.vx_488.specs.Wire.{step, wire_after}
use Rattle.vx_488.specs.Steps.{Step, Went, Held, Failed, Told, Cut, Path}
use Rattle.vx_488.specs.Bursts.{ended, is_end}
use Rattle.vx_488.specs.declared.bursts.ManyGot.{ManyGot}
use Rattle.vx_client.specs.Calls.{command}
use Rattle.vx_client.specs.Chunks.{write_call}
use Rattle.vx_client.specs.Meaning.{len_of, nothing_of}
use Rattle.vx_client.specs.Parts.{read_call, end_of}
use Rattle.vx_client.specs.Sizes.{size_told, bytes_told}
use Rattle.vx_client.specs.declared.answers.ReadEnd.{ReadEnd}
use Rattle.vx_client.specs.declared.answers.ClientErr.{ClientErr}
use Rattle.vx_upstream.specs.UpstreamState.{UpstreamState, Terms, opts_at}
use Rattle.vx_upstream.specs.Answering.{many_of, byte_move, bytes_come, tells_end, got_of}
use Rattle.vx_upstream.specs.Sending.{LinkWords, OneCall, bit, end_flag, stop_flag, stop_byte}
use Rattle.vx_upstream.specs.Restoring.{restoring}
use Rattle.vx_upstream.specs.Bringing.{Access, access_of, Brings}
use Rattle.vx_upstream.specs.Stepping.{Through}
use Rattle.vx_upstream.specs.declared.upstream.Standing.{Standing}

-- a device_docmd that was answered with error 0 made its transfer
abbrev pub where_done : Result ℕ ClientErr → Transfer → List Transfer
where_done (Ok len) t = t ∷ []
where_done (Err e) t = []

-- of a device_write so many bytes went as the box told that it took
abbrev pub written_of : List ℕ → Bool → Result Unit ClientErr → List ℕ → List Transfer
written_of bytes end r last = take (many_of (length bytes) r (size_told last)).moved (ended Put end bytes)

-- the bytes that count of those that a device_read brought, of which the last has END where it was told
abbrev pub read_of : List ℕ → ManyGot → List Transfer
read_of bytes m = ended Got (is_end m.stop) (take m.got bytes)

-- an interface clear that brought the box's bus back was made
abbrev pub where_cleared : Bool → List Transfer
where_cleared true = Ifc ∷ []
where_cleared false = []

-- One call of a client at its box, over its link there, and the transfers that it spells. A look at a line spells none. A try to
-- bring the box's bus back is told apart: it spells none either, but the interface clear for which it was made. Its orders send no data
-- byte.
pub data Spells {L : Type 0} (w : LinkWords L) (terms : Terms) (old new : Access L) : List Transfer → Type 0 where
  by_command : (b : ℕ) (r : Result ℕ ClientErr) → OneCall w old.client new.client (command old.made.lid (opts_at terms.patience 0) 0x020000 (b ∷ [])) 4 len_of r
      → new.made ≡ old.made → Spells w terms old new (where_done r (Cmd b))
  by_ren : (on : Bool) (r : Result ℕ ClientErr) → OneCall w old.client new.client (command old.made.lid (opts_at terms.patience 0) 0x020003 (0 ∷ bit on ∷ [])) 4 len_of r
      → new.made ≡ old.made → Spells w terms old new (where_done r (Ren on))
  by_atn : (on : Bool) (r : Result ℕ ClientErr) → OneCall w old.client new.client (command old.made.lid (opts_at terms.patience 0) 0x020002 (0 ∷ bit on ∷ [])) 4 len_of r
      → new.made ≡ old.made → Spells w terms old new (where_done r (Atn on))
  by_ifc : (r : Result ℕ ClientErr) → OneCall w old.client new.client (command old.made.lid (opts_at terms.patience 0) 0x020010 []) 4 len_of r
      → new.made ≡ old.made → Spells w terms old new (where_done r Ifc)
  by_own : (a : ℕ) (r : Result ℕ ClientErr) → OneCall w old.client new.client (command old.made.lid (opts_at terms.patience 0) 0x02000A (0 ∷ 0 ∷ 0 ∷ a ∷ [])) 4 len_of r
      → new.made ≡ old.made → Spells w terms old new (where_done r (Own a))
  by_write : (bytes : List ℕ) (end : Bool) (r : Result Unit ClientErr)
      → OneCall w old.client new.client (write_call old.made.lid (opts_at terms.patience (end_flag end)) (end_flag end) bytes) 0 nothing_of r
      → new.made ≡ old.made → Spells w terms old new (written_of bytes end r new.client.last)
  by_read : (room : ℕ) (char : Option ℕ) (r : Result ReadEnd ClientErr)
      → OneCall w old.client new.client (read_call old.made.lid (opts_at terms.patience (stop_flag char)) (stop_byte char) room) room end_of r
      → new.made ≡ old.made → Spells w terms old new
      (read_of (bytes_come r (bytes_told proc.Read new.client.last)) (got_of room char (bytes_come r (bytes_told proc.Read new.client.last)) (tells_end r) (byte_move r)))
  by_look : (selector : ℕ) (r : Result ℕ ClientErr) → OneCall w old.client new.client (command old.made.lid (opts_at terms.patience 0) 0x020001 (0 ∷ selector ∷ [])) 4 len_of r
      → new.made ≡ old.made → Spells w terms old new []
  by_try : (standing : Standing) (wire : Wire) (done : Bool) → Brings w terms standing (restoring wire) done old new → Spells w terms old new []
  by_clear : (standing : Standing) (wire : Wire) (done : Bool) → Brings w terms standing (restoring (step wire Ifc)) done old new
      → Spells w terms old new (where_cleared done)

-- calls one after the other, each with the transfers that it spells
abbrev pub SpellInTurn : {L : Type 0} → LinkWords L → Terms → Access L → List (List Transfer) → Access L → Type 0
SpellInTurn w terms old [] new = new ≡ old
SpellInTurn {L = L} w terms old (ts ∷ spelled) new = (next : Access L) × Spells w terms old next ts × SpellInTurn w terms next spelled new

-- what they spell, in order
abbrev pub in_order : List (List Transfer) → List Transfer
in_order [] = []
in_order (ts ∷ spelled) = ts ++ in_order spelled

-- the transfers of steps: those that went, in order
abbrev pub went : List Step → List Transfer
went [] = []
went (Went t ∷ steps) = t ∷ went steps
went (Held asked ∷ steps) = went steps
went (Failed asked ∷ steps) = went steps
went (Told now ∷ steps) = went steps
went (Cut ∷ steps) = went steps

-- The calls that were sent along a path of the bus spell exactly its transfers, in order, each once. So the wire is what they mean,
-- from where it was.
abbrev pub CallsSpellLaw : {L : Type 0} → LinkWords L → Type 0
CallsSpellLaw {L = L} w = (old new : UpstreamState L) (steps : List Step) → old.due ≡ [] → new.due ≡ [] → Path (λ (o : UpstreamState L) s n. Through w o s n) old steps new
    → (spelled : List (List Transfer)) × SpellInTurn w old.terms (access_of old) spelled (access_of new)
    × (in_order spelled ≡ went steps) × (new.kept.means.wire ≡ wire_after old.kept.means.wire (in_order spelled))
