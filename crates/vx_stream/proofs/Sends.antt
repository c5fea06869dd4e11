-- Bytes that a link takes, one send after another.
use Rattle.std.proofs.Common.{◌≡◌, ◌≤◌, ◌<◌, ◌+◌, ◌-◌, ℕ, List, [], true, false, length, take, drop, refl, sym, subst, arith, length-drop, append-nil, take-append-drop}
use Rattle.std.specs.Io.KnownBytes.{Keeps}
use Rattle.std.proofs.Math.Seq.{take-add}
use Rattle.std.proofs.lemmas.List.{take_all}
use Rattle.vx_lemmas.proofs.Laws.Options.{keeps-consumes}
use Rattle.vx_io_traits.specs.Faults.{Rose}
use Rattle.vx_io_traits.specs.Stands.{Goes, Takes, Stays}
use Rattle.vx_io_traits.specs.declared.links.Link.{Ghosts}
use Rattle.vx_io_traits.proofs.Laws.Goings.{Goes-none, Goes-takes, Goes-stays}
use Rattle.vx_stream.specs.Shown.{LinkShown, LinkGoes, link_shown}
use Rattle.vx_io_traits.specs.declared.WriteOut.TheVariants.{Took, Failed as Refused}
use Rattle.vx_stream.specs.Calling.{OnlyTook}
use Rattle.vx_stream.specs.Sending.{SendsAll}
use Rattle.vx_stream.proofs.Laws.{link-none, link-goes, took-none, took-then, took-send}

-- so far a link took a front of the bytes
pub record SentSoFar {L : Type 0} (ways : Ghosts L) (first now : L) (bytes : List ℕ) (sent : ℕ) : Type 0 where
  pub within : sent ≤ length bytes
  pub took : Goes ways.stands first now (take sent bytes) []
  pub goes : LinkGoes (link_shown ways first) [] (link_shown ways now)
  pub calls : OnlyTook ways first (take sent bytes) now

-- what one send does to what can be known of a link
pub record SendKeeps (old new : LinkShown) : Type 0 where
  pub left : Keeps old.left new.left
  pub peers : Keeps old.peers new.peers
  pub receives : new.receive_faults ≡ old.receive_faults
  pub sends : old.send_faults ≤ new.send_faults

-- a link that gave nothing, and then a send, which gives no byte
goes-on : (first old new : LinkShown) → LinkGoes first [] old → SendKeeps old new → LinkGoes first [] new
goes-on first old new before kept = link-goes first old new [] [] before (record {
  left = keeps-consumes old.left new.left kept.left;
  peers = kept.peers;
  receives = (let same : new.receive_faults ≡ old.receive_faults = kept.receives in omega arith);
  sends = kept.sends;
})

-- at first it took nothing
pub sent-none : {L : Type 0} (ways : Ghosts L) (l : L) (bytes : List ℕ) → SentSoFar ways l l bytes 0
sent-none ways l bytes = record { within = omega arith; took = Goes-none ways.stands l; goes = link-none (link_shown ways l); calls = took-none ways l }

-- a send goes on from there
pub sent-more : {L : Type 0} (ways : Ghosts L) (first mid now : L) (bytes : List ℕ) (sent count : ℕ)
    → SentSoFar ways first mid bytes sent
    → count ≤ length (take (length bytes - sent) (drop sent bytes))
    → Takes ways.stands mid now (take count (take (length bytes - sent) (drop sent bytes)))
    → SendKeeps (link_shown ways mid) (link_shown ways now)
    → ways.sends mid (take (length bytes - sent) (drop sent bytes)) (Took count) now
    → SentSoFar ways first now bytes (sent + count)
sent-more ways first mid now bytes sent count so_far fits took kept call =
    let len = length-drop sent bytes in
    let within : sent ≤ length bytes = so_far.within in
    let rest : take (length bytes - sent) (drop sent bytes) ≡ drop sent bytes = take_all (length bytes - sent) (drop sent bytes) (omega arith) in
    let count_fits : count ≤ length (drop sent bytes) = subst (λ xs. count ≤ length xs) rest fits in
    let taken : Takes ways.stands mid now (take count (drop sent bytes)) = subst (λ xs. Takes ways.stands mid now (take count xs)) rest took in
    record {
      within = omega arith;
      took = subst (λ xs. Goes ways.stands first now xs []) (sym (take-add sent count bytes))
          (Goes-takes ways.stands first mid now (take sent bytes) [] (take count (drop sent bytes)) so_far.took taken);
      goes = goes-on (link_shown ways first) (link_shown ways mid) (link_shown ways now) so_far.goes kept;
      calls = subst (λ xs. OnlyTook ways first xs now) (sym (take-add sent count bytes))
          (took-then ways first mid now (take sent bytes) (take count (drop sent bytes)) so_far.calls
          (subst (λ xs. OnlyTook ways mid (take count xs) now) rest
          (took-send ways mid now (take (length bytes - sent) (drop sent bytes)) (Took count) call)));
    }

-- a send that failed leaves it there
pub sent-stops : {L : Type 0} (ways : Ghosts L) (first mid now : L) (bytes : List ℕ) (sent : ℕ)
    → SentSoFar ways first mid bytes sent → sent < length bytes → Rose (ways.send_faults mid) (ways.send_faults now) → Stays ways.stands mid now
    → SendKeeps (link_shown ways mid) (link_shown ways now) → ways.sends mid (take (length bytes - sent) (drop sent bytes)) Refused now → SendsAll ways first bytes false now
sent-stops ways first mid now bytes sent so_far some rose stays kept call =
    let earlier : ways.send_faults first ≤ ways.send_faults mid = so_far.goes.sends in
    let len = length-drop sent bytes in
    record {
      sent = take sent bytes;
      unsent = drop sent bytes;
      cut = sym (take-append-drop sent bytes);
      took = Goes-stays ways.stands first mid now (take sent bytes) [] so_far.took stays;
      goes = goes-on (link_shown ways first) (link_shown ways mid) (link_shown ways now) so_far.goes kept;
      calls = subst (λ xs. OnlyTook ways first xs now) (append-nil (take sent bytes))
          (took-then ways first mid now (take sent bytes) [] so_far.calls
          (took-send ways mid now (take (length bytes - sent) (drop sent bytes)) Refused call));
      is_sent = (omega arith, omega arith);
    }

-- all bytes were sent
pub sent-all : {L : Type 0} (ways : Ghosts L) (first now : L) (bytes : List ℕ) (sent : ℕ)
    → SentSoFar ways first now bytes sent → length bytes ≤ sent → SendsAll ways first bytes true now
sent-all ways first now bytes sent so_far all = record {
  sent = bytes;
  unsent = [];
  cut = sym (append-nil bytes);
  took = subst (λ xs. Goes ways.stands first now xs []) (take_all sent bytes all) so_far.took;
  goes = so_far.goes;
  calls = subst (λ xs. OnlyTook ways first xs now) (take_all sent bytes all) so_far.calls;
  is_sent = refl;
}
