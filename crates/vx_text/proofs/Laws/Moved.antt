-- Steps of reading a source and of writing a text.
use Rattle.std.proofs.Common.{◌≡◌, ℕ, ◌+◌, ◌-◌, ◌≤◌, List, ◌++◌, length, take, drop, Option, Some, None, refl, subst, sym, ap, arith, length-append, length-drop}
use Rattle.std.proofs.Math.Seq.{take-add, take-append-add}
use Rattle.std.proofs.lemmas.List.{take_all}
use Rattle.std.specs.Io.KnownBytes.{Consumes, Appends, IsAtEnd, Keeps}
use Rattle.std.proofs.KnownBytes.{Appends-trans, Consumes-trans, Consumes-kept, Consumes-whole}
use Rattle.vx_io_traits.specs.Faults.{Rose}
use Rattle.vx_io_traits.proofs.Laws.{rose_earlier}
use Rattle.vx_text.specs.Ends.{End}
use Rattle.vx_text.specs.Reading.{GivesAll, GivesPiece, GivesUpTo, GaveSoFar}
use Rattle.vx_text.specs.Writing.{TookSoFar, StopsIn}

pub gave-more : (most : ℕ) (before mid after : End) (old new : List ℕ) (room : ℕ) → GaveSoFar most before mid old → length old ≤ most → room ≤ most - length old + 1
    → GivesPiece room old new mid after → mid.faults ≤ after.faults → GaveSoFar most before after new
gave-more most before mid after old new room so_far below fits piece counted =
    let len = length-append old piece.piece in
    let whole : GaveSoFar most before after (old ++ piece.piece) = record {
      given = Consumes-trans before.bytes mid.bytes after.bytes old piece.piece so_far.given piece.given;
      within = (let b = piece.fits in omega arith);
      counted = (let a = so_far.counted in omega arith);
    } in
    subst (GaveSoFar most before after) (sym piece.behind) whole

-- a read that failed gave nothing more
pub gave-failed : (most : ℕ) (before mid after : End) (old : List ℕ) → GaveSoFar most before mid old
    → Rose mid.faults after.faults × Keeps mid.bytes after.bytes → Rose before.faults after.faults × GivesUpTo (most + 1) before after
gave-failed most before mid after old so_far failed = (
  rose_earlier before.faults mid.faults after.faults so_far.counted failed.0,
  record {
    bytes = old;
    given = Consumes-kept before.bytes mid.bytes after.bytes old so_far.given failed.1;
    within = so_far.within;
  },
)

-- what a read gave counts, also where it is lost
pub gave-lost : (most : ℕ) (before mid after : End) (old : List ℕ) (room : ℕ) → GaveSoFar most before mid old → length old ≤ most → room ≤ most - length old + 1
    → GivesUpTo room mid after → GivesUpTo (most + 1) before after
gave-lost most before mid after old room so_far below fits lost =
    let len = length-append old lost.bytes in
    record {
      bytes = old ++ lost.bytes;
      given = Consumes-trans before.bytes mid.bytes after.bytes old lost.bytes so_far.given lost.given;
      within = (let b = lost.within in omega arith);
    }

pub took-more : (before mid after : End) (text : List ℕ) (done count : ℕ) → TookSoFar before mid text done
    → count ≤ length (take (length text - done) (drop done text))
    → Appends mid.bytes after.bytes (take count (take (length text - done) (drop done text))) → mid.faults ≤ after.faults → TookSoFar before after text (done + count)
took-more before mid after text done count so_far fits took counted =
    let len = length-drop done text in
    let rest : take (length text - done) (drop done text) ≡ drop done text = take_all (length text - done) (drop done text) (omega arith) in
    let count_fits : count ≤ length (drop done text) = subst (λ xs. count ≤ length xs) rest fits in
    let taken : Appends mid.bytes after.bytes (take count (drop done text)) = subst (λ xs. Appends mid.bytes after.bytes (take count xs)) rest took in
    let within : done ≤ length text = so_far.within in
    let earlier : before.faults ≤ mid.faults = so_far.counted in
    record {
      within = omega arith;
      taken = subst (Appends before.bytes after.bytes) (sym (take-add done count text)) (Appends-trans before.bytes mid.bytes after.bytes _ _ so_far.taken taken);
      counted = omega arith;
    }

-- the sink failed in a text behind one that it took
pub stops-behind : (before mid after : End) (xs ys : List ℕ) → Appends before.bytes mid.bytes xs → before.faults ≤ mid.faults → StopsIn mid after ys → StopsIn before after (xs ++ ys)
stops-behind before mid after xs ys taken counted stops =
    let len = length-append xs ys in
    let within : stops.count ≤ length ys = stops.within in
    record {
      rose = rose_earlier before.faults mid.faults after.faults counted stops.rose;
      count = length xs + stops.count;
      within = omega arith;
      taken = subst (Appends before.bytes after.bytes) (sym (take-append-add xs ys stops.count)) (Appends-trans before.bytes mid.bytes after.bytes _ _ taken stops.taken);
    }

-- at its end a source has given all
pub gave-all : (most : ℕ) (before mid after : End) (old new : List ℕ) → GaveSoFar most before mid old → length old ≤ most → new ≡ old → IsAtEnd mid.bytes
    → Keeps mid.bytes after.bytes → GivesAll most before after new
gave-all most before mid after old new so_far within same ended kept =
    subst (GivesAll most before after) (sym same) (record {
      given = Consumes-kept before.bytes mid.bytes after.bytes old so_far.given kept;
      whole = Consumes-whole before.bytes mid.bytes old (λ all. all ≡ old) so_far.given ended refl;
      within = within;
    })

-- a source gives no more than it tells
pub gives_within : (after : Option (List ℕ)) (t bytes : List ℕ) → Consumes (Some t) after bytes → length bytes ≤ length t
gives_within None t bytes given = absurd given
gives_within (Some rest) t bytes given = let n = ap length given in let m = length-append bytes rest in omega arith
