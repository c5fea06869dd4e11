-- A device_read, and what its bytes come to.
use Rattle.std.proofs.Common.{◌≡◌, ℕ, Bool, List, Option, Result, ap, ◌∙◌, subst}
use Rattle.vx_488.specs.declared.asks.Move.{Move}
use Rattle.vx_488.specs.declared.bursts.ManyGot.{ManyGot}
use Rattle.vx_client.specs.State.{ClientState}
use Rattle.vx_client.specs.Parts.{read_call, end_of}
use Rattle.vx_client.specs.declared.answers.CallOpts.{CallOpts}
use Rattle.vx_client.specs.declared.answers.ReadEnd.{ReadEnd}
use Rattle.vx_client.specs.declared.answers.ClientErr.{ClientErr}
use Rattle.vx_upstream.specs.UpstreamState.{UpstreamState, opts_of}
use Rattle.vx_upstream.specs.Sending.{LinkWords, OneCall, stop_flag, stop_byte}
use Rattle.vx_upstream.specs.Answering.{byte_move, bytes_come, tells_end, got_of}

-- a read with these flags and this stop byte is the one that the bus sends
pub read-asked : {L : Type 0} (w : LinkWords L) (old : UpstreamState L) (client new : ClientState L) (lid flag term many : ℕ) (stop : Option ℕ) (opts : CallOpts) (r : Result ReadEnd ClientErr)
    → client ≡ old.client → lid ≡ old.made.lid → opts ≡ opts_of old flag → flag ≡ stop_flag stop → term ≡ stop_byte stop
    → OneCall w client new (read_call lid opts term many) many end_of r
    → OneCall w old.client new (read_call old.made.lid (opts_of old (stop_flag stop)) (stop_byte stop) many) many end_of r
read-asked {L = L} w old client new lid flag term many stop opts r clients lids with_opts flags terms called =
    subst (λ (c : ClientState L). OneCall w c new (read_call old.made.lid (opts_of old (stop_flag stop)) (stop_byte stop) many) many end_of r) clients
    (subst (λ (l : ℕ). OneCall w client new (read_call l (opts_of old (stop_flag stop)) (stop_byte stop) many) many end_of r) lids
    (subst (λ (f : ℕ). OneCall w client new (read_call lid (opts_of old f) (stop_byte stop) many) many end_of r) flags
    (subst (λ (o : CallOpts). OneCall w client new (read_call lid o (stop_byte stop) many) many end_of r) with_opts
    (subst (λ (t : ℕ). OneCall w client new (read_call lid opts t many) many end_of r) terms called))))

-- what bytes come to, of a read that answered so
pub read-judged : (room : ℕ) (stop : Option ℕ) (r : Result ReadEnd ClientErr) (m : ManyGot) (come told : List ℕ) (ended : Bool) (how : Move)
    → m ≡ got_of room stop come ended how → come ≡ bytes_come r told → ended ≡ tells_end r → how ≡ byte_move r
    → m ≡ got_of room stop (bytes_come r told) (tells_end r) (byte_move r)
read-judged room stop r m come told ended how judged comes ends moves =
    judged
    ∙ ap (λ (e : Bool). got_of room stop come e how) ends
    ∙ ap (λ (h : Move). got_of room stop come (tells_end r) h) moves
    ∙ ap (λ (bs : List ℕ). got_of room stop bs (tells_end r) (byte_move r)) comes
