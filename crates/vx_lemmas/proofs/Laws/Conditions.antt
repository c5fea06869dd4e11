-- What tests and the choices that they make tell.
use Rattle.std.proofs.Common.{◌≡◌, ◌≢◌, ℕ, Bool, true, false, cond, ◌==◌, List, Option, Some, None, refl, sym, ap, ◌∙◌}
use Rattle.std.specs.Prelude.{not}
use Rattle.std.specs.Str.{bytes_eq}
use Rattle.std.proofs.lemmas.Bool.{eq-eqb, eqb-true, ne_eqb, false≢true}
use Rattle.std.proofs.lemmas.Slice.Eq.{bytes_eq-Decides}

-- a number is the same as itself
pub eqb-self : (n : ℕ) → (n == n) ≡ true
eqb-self n = eq-eqb n n refl

-- so are bytes
pub self_bytes : (bytes : List ℕ) → bytes_eq bytes bytes ≡ true
self_bytes bytes = (bytes_eq-Decides bytes bytes).1 refl

-- numbers of which the test says that they aren't the same are two
pub other-number : (n m : ℕ) → not (n == m) ≡ true → m ≢ n
other-number n m h e = false≢true (sym (ap not (eq-eqb n m (sym e))) ∙ h)

-- what is the same as one of two numbers isn't the same as the other
pub apart : (n m : ℕ) → n ≢ m → (k : ℕ) → (k == n) ≡ true → (k == m) ≡ false
apart n m ne k e = ne_eqb k m (λ f. ne (sym (eqb-true k n e) ∙ f))

-- where nothing was chosen the test failed
pub unchosen : {A : Type 0} (b : Bool) (x : A) → cond b (Some x) None ≡ None → b ≡ false
unchosen true x e = cc
unchosen false x e = refl

-- what a test chose, where it chose anything
pub chosen : {A : Type 0} (b : Bool) (o : Option A) (x : A) → cond b o None ≡ Some x → (b ≡ true) × (o ≡ Some x)
chosen true o x h = (refl, h)
chosen false o x h = cc

-- where a check finds no error its test passes
pub passes : {E : Type 0} (b : Bool) (error : E) → cond b None (Some error) ≡ None → b ≡ true
passes true error h = refl
passes false error h = cc

-- the value that a test chose is that of the branch taken
pub by_test : {A R : Type 0} (b : Bool) (x y : Option A) (v : A) → cond b x y ≡ Some v → (b ≡ true → x ≡ Some v → R) → (b ≡ false → y ≡ Some v → R) → R
by_test true x y v e f g = f refl e
by_test false x y v e f g = g refl e

-- bytes that compare as equal are
pub same_bytes : (text word : List ℕ) → bytes_eq text word ≡ true → text ≡ word
same_bytes text word e = (bytes_eq-Decides text word).0 e

-- the text is the word, or the value is that of the other branch
pub by_text : {A R : Type 0} (text word : List ℕ) (x y : Option A) (v : A) → cond (bytes_eq text word) x y ≡ Some v → (text ≡ word → x ≡ Some v → R) → (y ≡ Some v → R) → R
by_text text word x y v e f g = by_test (bytes_eq text word) x y v e (λ b h. f (same_bytes text word b) h) (λ b h. g h)
