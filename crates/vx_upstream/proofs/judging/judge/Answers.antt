use Rattle.std.proofs.Common.{◌≡◌, ◌<◌, ◌∙◌, false, List, ℕ, length, sym, ap, subst, arith}
use Rattle.std.specs.List.{list_any}
use Rattle.std.proofs.Math.Seq.{take-length}
use Rattle.std.proofs.lemmas.Bool.Decides.{nat_tests}
use Rattle.vx_488.specs.Bursts.{is_char}
use Rattle.vx_upstream.specs.Answering.{front_of, last_byte}
use Rattle.vx_upstream.proofs.Stopping.{front-last, clear-whole}
use Rattle.vx_upstream.proofs.judging.judge.Goals as goal

pub returns-then-ended-clause-stops : goal.returns-then-ended-clause-stops
returns-then-ended-clause-stops c =
    let bytes = c.args.bytes.now in
    let some : 0 < length bytes = grind (arith, nat_tests, c.if-got-eq0.false) in
    (front_of bytes, last_byte bytes, take-length bytes ∙ front-last bytes some, sym c.if-has_char.ensures)

pub returns-then-is_char-clause-stops : goal.returns-then-is_char-clause-stops
returns-then-is_char-clause-stops c =
    let bytes = c.args.bytes.now in
    let some : 0 < length bytes = grind (arith, nat_tests, c.if-got-eq0.false) in
    (front_of bytes, last_byte bytes, take-length bytes ∙ front-last bytes some, sym c.if-has_char.ensures, sym c.if-is_char.ensures)

pub returns-then-got-room-clause-stops : goal.returns-then-got-room-clause-stops
returns-then-got-room-clause-stops c =
    let bytes = c.args.bytes.now in
    let some : 0 < length bytes = grind (arith, nat_tests, c.if-got-eq0.false) in (
      ap length (take-length bytes) ∙ c.if-got-room.true,
      subst (λ (bs : List ℕ). list_any (is_char c.args.stop) bs ≡ false) (sym (take-length bytes))
          (clear-whole (is_char c.args.stop) bytes some (sym c.if-has_char.ensures) (sym c.if-is_char.ensures)),
    )

pub returns-in-Failed-clause-stops : goal.returns-in-Failed-clause-stops
returns-in-Failed-clause-stops c =
    let bytes = c.args.bytes.now in
    let some : 0 < length bytes = grind (arith, nat_tests, c.if-got-eq0.false) in
    let less : length bytes < c.args.room = grind (arith, nat_tests, c.if-room-got.false, c.if-got-room.false) in (
      subst (λ (n : ℕ). n < c.args.room) (sym (ap length (take-length bytes))) less,
      subst (λ (bs : List ℕ). list_any (is_char c.args.stop) bs ≡ false) (sym (take-length bytes))
          (clear-whole (is_char c.args.stop) bytes some (sym c.if-has_char.ensures) (sym c.if-is_char.ensures)),
    )
