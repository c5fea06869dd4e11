-- Laws of how values are spelled, read and written, proved.
use Rattle.std.proofs.Common.{◌≡◌, ℕ, ◌+◌, ◌≤◌, List, ◌++◌, length, take, drop, sym, ap, ◌∙◌, append_assoc, arith, zero, suc, ◌/◌, ◌^◌, ◌<◌, [], refl, inl, inr, Bool, true, false, lit<, cond, eqb, ltb, ℤ, ◌∷◌, replicate, Result, Ok, Err, subst}
use Rattle.std.specs.Int.{w32, from_be_bytes, cast_unsigned, from_bool, cast_signed}
use Rattle.std.specs.List.{list_all}
use Rattle.std.proofs.Math.Facts.{Fits-of_z, sfits_to_z}
use Rattle.std.proofs.lemmas.Bool.{cases_lt, ltb-false, le-ltb, eqb-true, and_parts}
use Rattle.std.proofs.lemmas.Int.{to_z-of_z, of_z-to_z}
use Rattle.std.proofs.lemmas.List.{take_at, drop_at, drop-drop, length-append, length-take, get_or-drop, get_or-take, get_or_past, take-append-drop, length-drop, length-replicate}
use Rattle.std.proofs.lemmas.Nat.{be_bytes_4, mod_below}
use Rattle.byteorder.specs.Endian.{big_number}
use Rattle.byteorder.specs.Numbers.{big_number-reads_back, big_from-lt, big_from-take}
use Rattle.vx_xdr.specs.Reading.{◌>>=◌, word_at, flag_of, body_at, reading}
use Rattle.vx_xdr.specs.Spelling.{AreBytes, IsWord, word, Kind, Word, Signed, Flag, Opaque, Value, Spells, Fits, spelling, padding, pad_len}
use Rattle.vx_xdr.specs.Writing.{overwritten}
use Rattle.vx_xdr.specs.declared.fault.XdrErr.{XdrErr}
use Rattle.vx_xdr.specs.declared.fault.XdrErr.TheVariants as fault

-- ---- what is written over a text

-- a text behind a text that was written
pub overwritten-twice : (old : List ℕ) (at : ℕ) (a b : List ℕ) (p : ℕ) → at ≤ length old → p ≡ at + length a → overwritten (overwritten old at a) p b ≡ overwritten old at (a ++ b)
overwritten-twice old at a b p h e =
    let len : length (take at old ++ a) ≡ p = omega (arith, length-append (take at old) a, length-take at old) in
    let front : take p (overwritten old at a) ≡ take at old ++ a = take_at (take at old ++ a) (drop (at + length a) old) p len in
    let rest : drop p (overwritten old at a) ≡ drop (at + length a) old = drop_at (take at old ++ a) (drop (at + length a) old) p len in
    let behind : drop (p + length b) (overwritten old at a) ≡ drop (at + length (a ++ b)) old =
    sym (drop-drop (length b) p (overwritten old at a)) ∙ ap (drop (length b)) rest ∙ drop-drop (length b) (at + length a) old ∙ ap (λ (n : ℕ). drop n old) (omega (arith, length-append a b)) in
    rw (front, behind) (ap (λ (t : List ℕ). t ++ drop (at + length (a ++ b)) old) (append_assoc (take at old) a b))

-- ---- a word and its number

-- four bytes are the word of their number
pub word-number : (bytes : List ℕ) (n : ℕ) → IsWord n bytes → bytes ≡ word n
word-number bytes n h =
    let e : n ≡ from_be_bytes w32 bytes = omega (arith, h.number) in
    sym (be_bytes_4 bytes n h.four h.bytes_fit e)

-- a number below 2^32 is read from its word, whatever follows
pub number-word : (n : ℕ) (rest : List ℕ) → n < 2 ^ 32 → big_number 4 (word n ++ rest) ≡ n
number-word n rest h = big_number-reads_back 4 n rest h

-- the number of four bytes
pub number-lt : (bytes : List ℕ) → AreBytes bytes → big_number 4 bytes < 2 ^ 32
number-lt bytes h = big_from-lt 0 4 bytes h

-- the items of a word are bytes
pub word-bytes : (n : ℕ) → AreBytes (word n)
word-bytes n zero = mod_below (n / 16777216) 256 (omega arith)
word-bytes n (suc zero) = mod_below (n / 65536) 256 (omega arith)
word-bytes n (suc (suc zero)) = mod_below (n / 256) 256 (omega arith)
word-bytes n (suc (suc (suc zero))) = mod_below n 256 (omega arith)
word-bytes n (suc (suc (suc (suc i)))) = omega arith

-- a number below 2^32 is the number of its word
pub word-is : (n : ℕ) → n < 2 ^ 32 → IsWord n (word n)
word-is n h = record { four = refl; bytes_fit = word-bytes n; number = number-word n [] h }

-- a number that four bytes have
pub IsWord-lt : (n : ℕ) (bytes : List ℕ) → IsWord n bytes → n < 2 ^ 32
IsWord-lt n bytes h = let lt = number-lt bytes h.bytes_fit in omega (arith, h.number)

-- parts of bytes are bytes
pub AreBytes-drop : (n : ℕ) (bytes : List ℕ) → AreBytes bytes → AreBytes (drop n bytes)
AreBytes-drop n bytes h i = rw get_or-drop (h (n + i))

pub AreBytes-take : (n : ℕ) (bytes : List ℕ) → AreBytes bytes → AreBytes (take n bytes)
AreBytes-take n bytes h i =
    elim (cases_lt i n) [
      | inl lt ↦ rw (get_or-take n bytes i 0 lt) (h i)
      | inr le ↦ rw (get_or_past (take n bytes) i 0 (omega (arith, length-take n bytes))) (omega arith)
    ]

-- the first four bytes are a word
pub front-is : (bytes : List ℕ) → 4 ≤ length bytes → AreBytes bytes → IsWord (big_number 4 bytes) (take 4 bytes)
front-is bytes long h = record { four = omega (arith, length-take 4 bytes); bytes_fit = AreBytes-take 4 bytes h; number = big_from-take 0 4 4 bytes (omega arith) }

-- ---- what spells a value

-- what spells a value is its spelling
pub Spells-spelling : (kind : Kind) (value : Value kind) (bytes : List ℕ) → Spells kind value bytes → bytes ≡ spelling kind value
Spells-spelling Word n bytes h = word-number bytes n h
Spells-spelling Signed z bytes h = word-number bytes (cast_unsigned w32 z) h.1
Spells-spelling Flag b bytes h = word-number bytes (from_bool b) h
Spells-spelling (Opaque max) value bytes h =
    h.whole ∙ ap (λ (count : List ℕ). count ++ value ++ padding (length value)) (word-number h.count (length value) h.count_is)

-- what is spelled has a spelling
pub Spells-fits : (kind : Kind) (value : Value kind) (bytes : List ℕ) → Spells kind value bytes → Fits kind value
Spells-fits Word n bytes h = IsWord-lt n bytes h
Spells-fits Signed z bytes h = h.0
Spells-fits Flag b bytes h = tt
Spells-fits (Opaque max) value bytes h = (h.within, IsWord-lt (length value) h.count h.count_is)

flag-is : (b : Bool) → IsWord (from_bool b) (word (from_bool b))
flag-is true = word-is 1 (lit< tt)
flag-is false = word-is 0 (lit< tt)

-- a value that fits is spelled by its spelling
pub spelling-spells : (kind : Kind) (value : Value kind) → Fits kind value → Spells kind value (spelling kind value)
spelling-spells Word n h = word-is n h
spelling-spells Signed z h = (h, word-is (cast_unsigned w32 z) (omega (arith, Fits-of_z h)))
spelling-spells Flag b h = flag-is b
spelling-spells (Opaque max) value h = record { within = h.0; count = word (length value); count_is = word-is (length value) h.1; whole = refl }

-- ---- what is spelled is read again

word_at-again : (n : ℕ) (rest : List ℕ) → n < 2 ^ 32 → word_at (word n ++ rest) ≡ Ok (n, rest)
word_at-again n rest h =
    let long : ltb (length (word n ++ rest)) 4 ≡ false = le-ltb _ _ (omega arith) in
    rw (long, number-word n rest h) refl

list_all-zeros : (n : ℕ) → list_all (λ b. eqb b 0) (replicate n 0) ≡ true
list_all-zeros zero = refl
list_all-zeros (suc n) = list_all-zeros n

body_at-again : (max : ℕ) (value rest : List ℕ) → length value ≤ max → body_at max (length value) (value ++ padding (length value) ++ rest) ≡ Ok (value, rest)
body_at-again max value rest h =
    let n = length value in
    let p = padding n in
    let plen : length p ≡ pad_len n = length-replicate (pad_len n) 0 in
    let within : ltb max n ≡ false = le-ltb max n h in
    let all : length (value ++ p ++ rest) ≡ n + pad_len n + length rest = omega (arith, length-append (value ++ p) rest, length-append value p) in
    let long : ltb (length (value ++ p ++ rest)) (n + pad_len n) ≡ false = le-ltb _ _ (omega arith) in
    let regroup : value ++ p ++ rest ≡ value ++ (p ++ rest) = append_assoc value p rest in
    let front : take n (value ++ p ++ rest) ≡ value = ap (take n) regroup ∙ take_at value (p ++ rest) n refl in
    let behind : drop n (value ++ p ++ rest) ≡ p ++ rest = ap (drop n) regroup ∙ drop_at value (p ++ rest) n refl in
    let zeros : take (pad_len n) (drop n (value ++ p ++ rest)) ≡ p = ap (take (pad_len n)) behind ∙ take_at p rest (pad_len n) plen in
    let clean : list_all (λ b. eqb b 0) (take (pad_len n) (drop n (value ++ p ++ rest))) ≡ true = ap (list_all (λ b. eqb b 0)) zeros ∙ list_all-zeros (pad_len n) in
    let end : drop (n + pad_len n) (value ++ p ++ rest) ≡ rest = drop_at (value ++ p) rest (n + pad_len n) (omega (arith, length-append value p)) in
    rw (within, long, clean, front, end) refl

flag-again : (b : Bool) (rest : List ℕ) → reading Flag (word (from_bool b) ++ rest) ≡ Ok (b, rest)
flag-again true rest = ap (λ (r : Result (ℕ × List ℕ) XdrErr). r >>= λ n. flag_of n.0 >>= λ b. Ok (b, n.1)) (word_at-again 1 rest (omega arith))
flag-again false rest = ap (λ (r : Result (ℕ × List ℕ) XdrErr). r >>= λ n. flag_of n.0 >>= λ b. Ok (b, n.1)) (word_at-again 0 rest (omega arith))

-- a value that fits is read from its spelling, whatever follows
pub reading-again : (kind : Kind) (value : Value kind) (rest : List ℕ) → Fits kind value → reading kind (spelling kind value ++ rest) ≡ Ok (value, rest)
reading-again Word n rest h = word_at-again n rest h
reading-again Signed z rest h =
    ap (λ (r : Result (ℕ × List ℕ) XdrErr). r >>= λ n. Ok (cast_signed w32 n.0, n.1)) (word_at-again (cast_unsigned w32 z) rest (omega (arith, Fits-of_z h)))
    ∙ ap (λ (x : ℤ). Ok (x, rest)) (to_z-of_z w32 z h)
reading-again Flag b rest h = flag-again b rest
reading-again (Opaque max) value rest h =
    ap (λ (r : Result (ℕ × List ℕ) XdrErr). r >>= λ n. body_at max n.0 n.1) (word_at-again (length value) (value ++ padding (length value) ++ rest) h.1)
    ∙ body_at-again max value rest h.0

-- ---- what is read is spelled

-- the value of a step that did not fail
pub bind_ok : {A B : Type 0} (r : Result A XdrErr) (f : A → Result B XdrErr) (y : B) → (r >>= f) ≡ Ok y → (x : A) × (r ≡ Ok x) × (f x ≡ Ok y)
bind_ok (Ok x) f y e = (x, refl, e)
bind_ok (Err d) f y e = absurd cc

-- a test that did not fail
guard_ok : {A : Type 0} (b : Bool) (d : XdrErr) (x : Result A XdrErr) (y : A) → cond b (Err d) x ≡ Ok y → (b ≡ false) × (x ≡ Ok y)
guard_ok true d x y e = absurd cc
guard_ok false d x y e = (refl, e)

test_ok : {A : Type 0} (b : Bool) (d : XdrErr) (x y : A) → cond b (Ok x) (Err d) ≡ Ok y → (b ≡ true) × (x ≡ y)
test_ok true d x y e = (refl, cc)
test_ok false d x y e = absurd cc

abbrev done : {A : Type 0} → A → Result A XdrErr
done x = Ok x

pub ok_is : {A : Type 0} (x y : A) → done x ≡ done y → x ≡ y
ok_is x y e = cc

-- a value that fits was taken from the front
pub record Takes (kind : Kind) (value : Value kind) (bytes rest : List ℕ) : Type 0 where
  pub parts : bytes ≡ spelling kind value ++ rest
  pub fits : Fits kind value
  pub rest_fits : AreBytes rest

word_at-takes : (bytes : List ℕ) (n : ℕ) (rest : List ℕ) → AreBytes bytes → word_at bytes ≡ Ok (n, rest) → Takes Word n bytes rest
word_at-takes bytes n rest h e =
    let g = guard_ok (ltb (length bytes) 4) fault.Short (Ok (big_number 4 bytes, drop 4 bytes)) (n, rest) e in
    let long : 4 ≤ length bytes = ltb-false _ _ g.0 in
    let same = ok_is (big_number 4 bytes, drop 4 bytes) (n, rest) g.1 in
    let front = front-is bytes long h in
    let split : bytes ≡ word (big_number 4 bytes) ++ drop 4 bytes = sym (take-append-drop 4 bytes) ∙ ap (λ (t : List ℕ). t ++ drop 4 bytes) (word-number (take 4 bytes) (big_number 4 bytes) front) in
    let here : Takes Word (big_number 4 bytes) bytes (drop 4 bytes) = record { parts = split; fits = IsWord-lt _ _ front; rest_fits = AreBytes-drop 4 bytes h } in
    subst (λ (p : ℕ × List ℕ). Takes Word p.0 bytes p.1) same here

-- bytes that are all zero
zeros-from_list_all : (bytes : List ℕ) → list_all (λ b. eqb b 0) bytes ≡ true → bytes ≡ replicate (length bytes) 0
zeros-from_list_all [] h = refl
zeros-from_list_all (b ∷ bytes) h =
    let both = and_parts (eqb b 0) (list_all (λ b. eqb b 0) bytes) h in
    let first = eqb-true b 0 both.0 in
    let others = zeros-from_list_all bytes both.1 in
    cc

-- an opaque's bytes and its padding were taken from the front
record TakesBody (max n : ℕ) (value bytes rest : List ℕ) : Type 0 where
  parts : bytes ≡ value ++ padding n ++ rest
  len : length value ≡ n
  within : n ≤ max
  rest_fits : AreBytes rest

body_at-takes : (max n : ℕ) (bytes value rest : List ℕ) → AreBytes bytes → body_at max n bytes ≡ Ok (value, rest) → TakesBody max n value bytes rest
body_at-takes max n bytes value rest h e =
    let p = pad_len n in
    let clean = list_all (λ b. eqb b 0) (take p (drop n bytes)) in
    let found : List ℕ × List ℕ = (take n bytes, drop (n + p) bytes) in
    let g = guard_ok (ltb max n) fault.Long (cond (ltb (length bytes) (n + p)) (Err fault.Short) (cond clean (Ok found) (Err fault.Pad))) (value, rest) e in
    let k = guard_ok (ltb (length bytes) (n + p)) fault.Short (cond clean (Ok found) (Err fault.Pad)) (value, rest) g.1 in
    let t = test_ok clean fault.Pad found (value, rest) k.1 in
    let long : n + p ≤ length bytes = ltb-false _ _ k.0 in
    let within : n ≤ max = ltb-false _ _ g.0 in
    let plen : length (take p (drop n bytes)) ≡ p = omega (arith, length-take p (drop n bytes), length-drop n bytes) in
    let zeros : take p (drop n bytes) ≡ padding n = zeros-from_list_all (take p (drop n bytes)) t.0 ∙ ap (λ (m : ℕ). replicate m 0) plen in
    let tail : drop n bytes ≡ padding n ++ drop (n + p) bytes =
    sym (take-append-drop p (drop n bytes)) ∙ ap (λ (z : List ℕ). z ++ drop p (drop n bytes)) zeros ∙ ap (λ (z : List ℕ). padding n ++ z) (drop-drop p n bytes) in
    let split : bytes ≡ take n bytes ++ padding n ++ drop (n + p) bytes =
    sym (take-append-drop n bytes) ∙ ap (λ (z : List ℕ). take n bytes ++ z) tail ∙ sym (append_assoc (take n bytes) (padding n) (drop (n + p) bytes)) in
    let here : TakesBody max n (take n bytes) bytes (drop (n + p) bytes) = record { parts = split; len = omega (arith, length-take n bytes); within = within; rest_fits = AreBytes-drop (n + p) bytes h } in
    subst (λ (q : List ℕ × List ℕ). TakesBody max n q.0 bytes q.1) t.1 here

flag_of-is : (n : ℕ) (b : Bool) → flag_of n ≡ Ok b → n ≡ from_bool b
flag_of-is zero false e = refl
flag_of-is zero true e = absurd cc
flag_of-is (suc zero) true e = refl
flag_of-is (suc zero) false e = absurd cc
flag_of-is (suc (suc n)) b e = absurd cc

-- what is read is taken from the front
pub reading-takes : (kind : Kind) (value : Value kind) (bytes rest : List ℕ) → AreBytes bytes → reading kind bytes ≡ Ok (value, rest) → Takes kind value bytes rest
reading-takes Word n bytes rest h e = word_at-takes bytes n rest h e
reading-takes Signed z bytes rest h e =
    let b = bind_ok (word_at bytes) (λ n. Ok (cast_signed w32 n.0, n.1)) (z, rest) e in
    let t = word_at-takes bytes b.0.0 b.0.1 h b.1 in
    let back = of_z-to_z w32 b.0.0 t.fits in
    let here : Takes Signed (cast_signed w32 b.0.0) bytes b.0.1 = record { parts = t.parts ∙ ap (λ (m : ℕ). word m ++ b.0.1) (sym back); fits = sfits_to_z {w = w32} (record { fits = t.fits }); rest_fits = t.rest_fits } in
    subst (λ (p : ℤ × List ℕ). Takes Signed p.0 bytes p.1) (ok_is (cast_signed w32 b.0.0, b.0.1) (z, rest) b.2) here
reading-takes Flag f bytes rest h e =
    let b = bind_ok (word_at bytes) (λ n. flag_of n.0 >>= λ x. Ok (x, n.1)) (f, rest) e in
    let d = bind_ok (flag_of b.0.0) (λ x. Ok (x, b.0.1)) (f, rest) b.2 in
    let t = word_at-takes bytes b.0.0 b.0.1 h b.1 in
    let here : Takes Flag d.0 bytes b.0.1 = record { parts = t.parts ∙ ap (λ (m : ℕ). word m ++ b.0.1) (flag_of-is b.0.0 d.0 d.1); fits = tt; rest_fits = t.rest_fits } in
    subst (λ (p : Bool × List ℕ). Takes Flag p.0 bytes p.1) (ok_is (d.0, b.0.1) (f, rest) d.2) here
reading-takes (Opaque max) value bytes rest h e =
    let b = bind_ok (word_at bytes) (λ n. body_at max n.0 n.1) (value, rest) e in
    let t = word_at-takes bytes b.0.0 b.0.1 h b.1 in
    let body = body_at-takes max b.0.0 b.0.1 value rest t.rest_fits b.2 in
    let joined : bytes ≡ word b.0.0 ++ (value ++ padding b.0.0 ++ rest) = t.parts ∙ ap (λ (z : List ℕ). word b.0.0 ++ z) body.parts in
    let same : bytes ≡ word (length value) ++ (value ++ padding (length value) ++ rest) = joined ∙ ap (λ (m : ℕ). word m ++ (value ++ padding m ++ rest)) (sym body.len) in
    record { parts = same; fits = (omega (arith, body.len, body.within), omega (arith, body.len, t.fits)); rest_fits = body.rest_fits }
