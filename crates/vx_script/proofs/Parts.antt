-- Bus addresses, bytes and names, both ways.
use Rattle.std.proofs.Common.{◌≡◌, ℕ, ◌^◌, ◌<◌, ◌≤◌, true, List, [], ◌∷◌, ◌++◌, length, Option, Some, None, Result, Ok, refl, sym, ap, ◌∙◌, subst, arith, decimal}
use Rattle.std.specs.Prelude.{option_map, option_and_then, ◌&&◌, nat_le, slice_index}
use Rattle.std.specs.List.{All, list_all}
use Rattle.std.specs.Result.{result_ok}
use Rattle.std.proofs.lemmas.Bool.{and_parts, and_from, leb-true, le-leb}
use Rattle.std.proofs.lemmas.List.Elements.{All-nil, All-cons, All-tail}
use Rattle.std.proofs.lemmas.Option.{same_Some}
use Rattle.hex.specs.Hex.{decode_of, decode_sized}
use Rattle.hex.specs.declared.error.FromHexError.{FromHexError}
use Rattle.hex.proofs.HexLemmas.{decode_of-ok, decode_sized-ok, decode_sized-twice}
use Rattle.vx_lemmas.proofs.Laws.Options.{mapped, gone_on}
use Rattle.vx_script.specs.declared.TheConstants.{ADDRESS_LAST, NAME_MAX}
use Rattle.vx_script.specs.declared.values.Address.{Address}
use Rattle.vx_script.specs.Plain.{IsAddress}
use Rattle.vx_script.specs.Table.{address_word, IsHex, IsName}
use Rattle.vx_script.specs.Words.{cut, part_of, address_at, with_secondary, address_of, bytes_of, byte_of, is_lower_letter, is_name}
use Rattle.vx_script.proofs.Choices.{ok_is}
use Rattle.vx_text.proofs.Laws.Cuts.{lacks, lacks-joined}
use Rattle.vx_script.proofs.Cuts.{Joined, joined, cut-again, cut-whole}
use Rattle.vx_script.proofs.Numbers.{number-read, number-again, decimal-lacks}

-- ---- addresses

-- an address that is read is within its range, and was written so
pub record AddressRead (text : List ℕ) (a : Address) : Type 0 where
  pub range : IsAddress a.p a.s
  pub spelled : text ≡ address_word a.p a.s

secondary-read : (primary : ℕ) (text front : List ℕ) (o : Option (List ℕ)) (a : Address) → primary ≤ ADDRESS_LAST → front ≡ decimal primary → Joined 44 text front o
    → with_secondary primary o ≡ Some a → AddressRead text a
secondary-read primary text front None a within same parts e =
    subst (AddressRead text) (same_Some (address_at primary None) a e) (record { range = (within, tt); spelled = parts ∙ same })
secondary-read primary text front (Some rest) a within same parts e =
    let second = mapped (λ n. address_at primary (Some n)) (part_of rest) a e in
    let number = number-read ADDRESS_LAST rest second.0 (omega arith) second.1 in
    subst (AddressRead text) second.2 (record {
      range = (within, number.within);
      spelled = parts ∙ ap (λ (f : List ℕ). f ++ 44 ∷ rest) same ∙ ap (λ (r : List ℕ). decimal primary ++ 44 ∷ r) number.spelled;
    })

pub address-read : (text : List ℕ) (a : Address) → address_of text ≡ Some a → AddressRead text a
address-read text a e =
    let first = gone_on (λ primary. with_secondary primary (cut 44 text).1) (part_of (cut 44 text).0) a e in
    let number = number-read ADDRESS_LAST (cut 44 text).0 first.0 (omega arith) first.1 in
    secondary-read first.0 text (cut 44 text).0 (cut 44 text).1 a number.within number.spelled (joined 44 text) first.2

part-small : (n : ℕ) → n ≤ ADDRESS_LAST → n < 2 ^ 64
part-small n h = omega arith

abbrev of_parts : List ℕ × Option (List ℕ) → Option Address
of_parts c = option_and_then (λ primary. with_secondary primary c.1) (part_of c.0)

pub address-again : (p : ℕ) (s : Option ℕ) → IsAddress p s → address_of (address_word p s) ≡ Some (address_at p s)
address-again p None range =
    ap of_parts (cut-whole 44 (decimal p) (decimal-lacks 44 p (omega arith) (part-small p range.0)))
    ∙ ap (option_and_then (λ primary. with_secondary primary None)) (number-again ADDRESS_LAST p (omega arith) range.0)
address-again p (Some s) range =
    ap of_parts (cut-again 44 (decimal p) (decimal s) (decimal-lacks 44 p (omega arith) (part-small p range.0)))
    ∙ ap (option_and_then (λ primary. with_secondary primary (Some (decimal s)))) (number-again ADDRESS_LAST p (omega arith) range.0)
    ∙ ap (option_map (λ n. address_at p (Some n))) (number-again ADDRESS_LAST s (omega arith) range.1)

-- an address has no space
pub address-lacks : (p : ℕ) (s : Option ℕ) → IsAddress p s → lacks 32 (address_word p s) ≡ true
address-lacks p None range = decimal-lacks 32 p (omega arith) (part-small p range.0)
address-lacks p (Some s) range =
    lacks-joined 32 44 (decimal p) (decimal s) refl (decimal-lacks 32 p (omega arith) (part-small p range.0)) (decimal-lacks 32 s (omega arith) (part-small s range.1))

-- ---- bytes

pub bytes-read : (text bytes : List ℕ) → bytes_of text ≡ Some bytes → IsHex text bytes
bytes-read [] bytes e = absurd cc
bytes-read (c ∷ cs) bytes e =
    let pairs = ok_is (decode_of (c ∷ cs)) bytes e in
    let parts = decode_of-ok (c ∷ cs) bytes pairs in
    let len = parts.2 in
    record { some = omega arith; pairs = pairs }

pub bytes-again : (text bytes : List ℕ) → IsHex text bytes → bytes_of text ≡ Some bytes
bytes-again [] bytes h =
    let parts = decode_of-ok [] bytes h.pairs in
    let len = parts.2 in
    let some = h.some in
    absurd (omega arith)
bytes-again (c ∷ cs) bytes h = ap (λ (r : Result (List ℕ) FromHexError). result_ok r) h.pairs

one_item : (bytes : List ℕ) (b : ℕ) → length bytes ≡ 1 → slice_index bytes 0 ≡ b → bytes ≡ b ∷ []
one_item [] b len e = absurd (omega arith)
one_item (x ∷ []) b len e = ap (λ (y : ℕ). y ∷ []) e
one_item (x ∷ y ∷ ys) b len e = absurd (omega arith)

pub byte-read : (text : List ℕ) (b : ℕ) → byte_of text ≡ Some b → IsHex text (b ∷ [])
byte-read text b e =
    let found = mapped (λ bytes. slice_index bytes 0) (result_ok (decode_sized text 1)) b e in
    let sized = ok_is (decode_sized text 1) found.0 found.1 in
    let two = decode_sized-ok text 1 found.0 sized in
    let pairs = sym (decode_sized-twice text 1 two) ∙ sized in
    let parts = decode_of-ok text found.0 pairs in
    let len = parts.2 in
    let one = one_item found.0 b (omega arith) found.2 in
    let P : List ℕ → Type 0 = λ bytes. decode_of text ≡ Ok bytes in
    record { some = omega arith; pairs = subst P one pairs }

pub byte-again : (text : List ℕ) (b : ℕ) → IsHex text (b ∷ []) → byte_of text ≡ Some b
byte-again text b h =
    let parts = decode_of-ok text (b ∷ []) h.pairs in
    ap (λ (r : Result (List ℕ) FromHexError). option_map (λ bytes. slice_index bytes 0) (result_ok r)) (decode_sized-twice text 1 parts.2 ∙ h.pairs)

-- ---- names

abbrev IsLetter : ℕ → Type 0
IsLetter c = (97 ≤ c) × (c ≤ 122)

letters-read : (text : List ℕ) → list_all is_lower_letter text ≡ true → All IsLetter text
letters-read [] h = All-nil IsLetter
letters-read (c ∷ cs) h =
    let both = and_parts (is_lower_letter c) (list_all is_lower_letter cs) h in
    let range = and_parts (nat_le 97 c) (nat_le c 122) both.0 in
    All-cons IsLetter c cs (leb-true 97 c range.0, leb-true c 122 range.1) (letters-read cs both.1)

letters-again : (text : List ℕ) → All IsLetter text → list_all is_lower_letter text ≡ true
letters-again [] h = refl
letters-again (c ∷ cs) h =
    let first : IsLetter c = h 0 c (omega arith) in
    and_from (is_lower_letter c) (list_all is_lower_letter cs) (and_from (nat_le 97 c) (nat_le c 122) (le-leb 97 c first.0) (le-leb c 122 first.1))
    (letters-again cs (All-tail IsLetter c cs h))

pub name-read : (text : List ℕ) → is_name text ≡ true → IsName text
name-read text h =
    let both = and_parts (nat_le 1 (length text) && nat_le (length text) NAME_MAX) (list_all is_lower_letter text) h in
    let range = and_parts (nat_le 1 (length text)) (nat_le (length text) NAME_MAX) both.0 in
    record { some = leb-true 1 (length text) range.0; within = leb-true (length text) NAME_MAX range.1; letters = letters-read text both.1 }

pub name-again : (text : List ℕ) → IsName text → is_name text ≡ true
name-again text h =
    and_from (nat_le 1 (length text) && nat_le (length text) NAME_MAX) (list_all is_lower_letter text)
    (and_from (nat_le 1 (length text)) (nat_le (length text) NAME_MAX) (le-leb 1 (length text) h.some) (le-leb (length text) NAME_MAX h.within)) (letters-again text h.letters)
