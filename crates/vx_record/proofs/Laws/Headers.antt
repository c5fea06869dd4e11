-- The four bytes of a fragment's header.
use Rattle.std.proofs.Common.{◌≡◌, ℕ, ◌+◌, ◌%◌, ◌^◌, ◌<◌, true, false, nat_le, [], ap, ◌∙◌, arith}
use Rattle.std.proofs.lemmas.Bool.Decides.{nat_tests}
use Rattle.byteorder.specs.Endian.{big_bytes, big_number}
use Rattle.byteorder.specs.Numbers.{big_number-reads_back}
use Rattle.vx_record.specs.Fragments.{fragment_length, is_last, last_header}

last_header-number : (n : ℕ) → n < 2 ^ 31 → big_number 4 (last_header n) ≡ 2 ^ 31 + n
last_header-number n h = big_number-reads_back 4 (2 ^ 31 + n) [] (omega arith)

pub fragment_length-last_header : (n : ℕ) → n < 2 ^ 31 → fragment_length (last_header n) ≡ n
unfolding fragment_length
fragment_length-last_header n h = ap (λ w. w % 2 ^ 31) (last_header-number n h) ∙ omega arith

pub is_last-last_header : (n : ℕ) → n < 2 ^ 31 → is_last (last_header n) ≡ true
unfolding is_last
is_last-last_header n h = ap (nat_le (2 ^ 31)) (last_header-number n h) ∙ grind (arith, nat_tests)

more_header-number : (n : ℕ) → n < 2 ^ 31 → big_number 4 (big_bytes 4 n) ≡ n
more_header-number n h = big_number-reads_back 4 n [] (omega arith)

pub fragment_length-more : (n : ℕ) → n < 2 ^ 31 → fragment_length (big_bytes 4 n) ≡ n
unfolding fragment_length
fragment_length-more n h = ap (λ w. w % 2 ^ 31) (more_header-number n h) ∙ omega arith

pub is_last-more : (n : ℕ) → n < 2 ^ 31 → is_last (big_bytes 4 n) ≡ false
unfolding is_last
is_last-more n h = ap (nat_le (2 ^ 31)) (more_header-number n h) ∙ grind (arith, nat_tests)
