-- Writing the record of a call and sending it.
use Rattle.std.proofs.Common.{◌≡◌, ℕ, ◌+◌, ◌-◌, ◌≤◌, List, [], Option, length, take, drop, refl, subst, sym, ◌∙◌, arith, length-drop}
use Rattle.std.proofs.Math.Seq.{take-add}
use Rattle.std.proofs.lemmas.List.{take_all}
use Rattle.std.specs.Io.KnownBytes.{Keeps}
use Rattle.std.proofs.KnownBytes.{Keeps-refl, Keeps-trans}
use Rattle.vx_io_traits.specs.Faults.{Rose}
use Rattle.vx_io_traits.specs.Stands.{Goes, Takes, Stays}
use Rattle.vx_io_traits.proofs.Laws.Goings.{Goes-none, Goes-takes, Goes-stays}
use Rattle.vx_client.specs.Exchange.{StopsIn}

-- so far a link took a front of the text
pub record SentSoFar {L : Type 0} (stands : L → List ℕ → List ℕ → Type 0) (left : L → Option (List ℕ)) (receives sends : L → ℕ)
    (first now : L) (text : List ℕ) (count : ℕ) : Type 0 where
  pub within : count ≤ length text
  pub goes : Goes stands first now (take count text) []
  pub left_kept : Keeps (left first) (left now)
  pub received : receives now ≡ receives first
  pub counted : sends first ≤ sends now

-- at first it took nothing
pub sent-none : {L : Type 0} (stands : L → List ℕ → List ℕ → Type 0) (left : L → Option (List ℕ)) (receives sends : L → ℕ) (l : L) (text : List ℕ)
    → SentSoFar stands left receives sends l l text 0
sent-none stands left receives sends l text = record {
  within = omega arith;
  goes = Goes-none stands l;
  left_kept = Keeps-refl (left l);
  received = refl;
  counted = omega arith;
}

-- a send goes on from there
pub sent-more : {L : Type 0} (stands : L → List ℕ → List ℕ → Type 0) (left : L → Option (List ℕ)) (receives sends : L → ℕ) (first mid now : L)
    (text : List ℕ) (done count : ℕ) → SentSoFar stands left receives sends first mid text done
    → count ≤ length (take (length text - done) (drop done text))
    → Takes stands mid now (take count (take (length text - done) (drop done text)))
    → Keeps (left mid) (left now) → receives now ≡ receives mid → sends mid ≤ sends now → SentSoFar stands left receives sends first now text (done + count)
sent-more stands left receives sends first mid now text done count so_far fits took kept received counted =
    let len = length-drop done text in
    let within : done ≤ length text = so_far.within in
    let rest : take (length text - done) (drop done text) ≡ drop done text = take_all (length text - done) (drop done text) (omega arith) in
    let count_fits : count ≤ length (drop done text) = subst (λ xs. count ≤ length xs) rest fits in
    let taken : Takes stands mid now (take count (drop done text)) = subst (λ xs. Takes stands mid now (take count xs)) rest took in
    let earlier : sends first ≤ sends mid = so_far.counted in
    record {
      within = omega arith;
      goes = subst (λ xs. Goes stands first now xs []) (sym (take-add done count text))
          (Goes-takes stands first mid now (take done text) [] (take count (drop done text)) so_far.goes taken);
      left_kept = Keeps-trans (left first) (left mid) (left now) so_far.left_kept kept;
      received = received ∙ so_far.received;
      counted = omega arith;
    }

-- a send that failed leaves it there
pub sent-stops : {L : Type 0} (stands : L → List ℕ → List ℕ → Type 0) (left : L → Option (List ℕ)) (receives sends : L → ℕ) (first mid now : L)
    (text : List ℕ) (done : ℕ) → SentSoFar stands left receives sends first mid text done → Rose (sends mid) (sends now) → Stays stands mid now
    → StopsIn stands sends first now text
sent-stops stands left receives sends first mid now text done so_far rose stays =
    let earlier : sends first ≤ sends mid = so_far.counted in
    record {
      rose = omega arith;
      count = done;
      within = so_far.within;
      goes = Goes-stays stands first mid now (take done text) [] so_far.goes stays;
    }

-- the whole text was sent
pub sent-all : {L : Type 0} (stands : L → List ℕ → List ℕ → Type 0) (left : L → Option (List ℕ)) (receives sends : L → ℕ) (first now : L)
    (text : List ℕ) (done : ℕ) → SentSoFar stands left receives sends first now text done → length text ≤ done → Goes stands first now text []
sent-all stands left receives sends first now text done so_far all =
    subst (λ xs. Goes stands first now xs []) (take_all done text all) so_far.goes
