-- What an answer says of the words, from what `clap` says of them.
use Rattle.std.proofs.Common.{◌≡◌, ◌∙◌, ◌⊎◌, codes, ℕ, Bool, true, false, refl, sym, ap, subst, List, [], ◌∷◌, Option, Some, None, Result, Ok, inl, inr}
use Rattle.std.specs.Prelude.{option_map, string_bytes, ◌||◌}
use Rattle.std.specs.Option.{option_map_or}
use Rattle.std.specs.Str.{bytes_eq}
use Rattle.std.specs.Str.Parse.{ParsesUnsigned}
use Rattle.std.proofs.lemmas.Slice.Eq.{bytes_eq-Decides}
use Rattle.clap.specs.Kinds.{IsAmong}
use Rattle.clap.specs.Faults.{fault_of, is_simple_and_free}
use Rattle.clap.specs.Matches.{ReadsOne, one_text}
use Rattle.clap.specs.Walk.{Row, Text, rows_of}
use Rattle.clap.specs.Simple.{is_simple, matches_of}
use Rattle.clap.specs.declared.error.kind.ErrorKind.{ErrorKind}
use Rattle.clap.specs.declared.error.kind.ErrorKind.TheVariants as kind
use Rattle.clap.specs.declared.parser.matches.Found.{Found}
use Rattle.clap.proofs.WalkLemmas.{first_value-rows}
use Rattle.vx_policy.specs.Names.{names_with_all}
use Rattle.vx_startup.specs.Form.{vxgate}
use Rattle.vx_startup.specs.Meant.{ServerAnswers, Sets, given, is_set, name_texts, names_given, number_of, refused, rows, rules_file, rules_given, taken, told, verdict, verdict_of}
use Rattle.vx_startup.specs.Parts.{HasFlag, HasNumber, Refuses, Serves}
use Rattle.vx_startup.specs.declared.words.Options.{Options}
use Rattle.vx_startup.specs.declared.words.Asked.{Asked}
use Rattle.vx_startup.specs.declared.words.Asked.TheVariants as asked
use Rattle.vx_startup.proofs.Few.{only_kind}

-- the command is one of which `clap` says all
pub simple : is_simple vxgate ≡ true
simple = refl

pub simple_and_free : is_simple_and_free vxgate ≡ true
simple_and_free = refl

pub all_taken : (words : List Text) → fault_of vxgate words ≡ [] → verdict words ≡ taken
unfolding verdict
all_taken words none = ap verdict_of none

-- the rows of a parse are what is found in the words
pub found_rows : (words : List Text) (found : List Row) (o : Options) → found ≡ matches_of vxgate words → Sets found o → Sets (rows words) o
unfolding rows
found_rows words found o same sets = subst (λ (r : List Row). Sets r o) same sets

-- and so are the names
names_found : (words : List Text) (found : List Row) (r : Option (List (Text × Text))) → found ≡ matches_of vxgate words
    → names_with_all [] (name_texts found) ≡ r → names_given words ≡ r
unfolding rows
names_found words found r same given = subst (λ (rs : List Row). names_with_all [] (name_texts rs) ≡ r) same given

-- and so is the file of rules
file_found : (words : List Text) (found : List Row) (r : Option Text) → found ≡ matches_of vxgate words → rules_file found ≡ r → rules_given words ≡ r
unfolding rows
file_found words found r same given = subst (λ (rs : List Row). rules_file rs ≡ r) same given

-- what a parse found is answered
pub served : (words : List Text) (found : List Row) (a : Asked) → found ≡ matches_of vxgate words → fault_of vxgate words ≡ []
    → Serves found a → ServerAnswers words a
served words found (asked.Serve o names file) same none s = (
  (all_taken words none, found_rows words found o same s.0),
  s.1,
  names_found words found (Some names) same s.2,
  file_found words found (option_map string_bytes file) same s.3,
)
served words found (asked.Tell text) same none s = absurd s
served words found asked.Usage same none s = inr (all_taken words none, names_found words found None same s)
served words found asked.NoMemory same none s = tt

by_kind : (words : List Text) (k : ErrorKind) → IsAmong k (fault_of vxgate words) → verdict words ≡ verdict_of (k ∷ [])
unfolding verdict
by_kind words k among = ap verdict_of (only_kind words k among)

-- an error of the kind that the words give, or for want of memory, is answered
pub answered : (words : List Text) (k : ErrorKind) (a : Asked) → Refuses k a → (k ≡ kind.OutOfMemory) ⊎ IsAmong k (fault_of vxgate words)
    → ServerAnswers words a
answered words k (asked.Serve o names file) none why = absurd none
answered words k (asked.Tell text) asks (inl memory) =
    let bad : refused ≡ told = ap (λ (x : ErrorKind). verdict_of (x ∷ [])) (sym memory) ∙ asks in
    absurd cc
answered words k (asked.Tell text) asks (inr among) = by_kind words k among ∙ asks
answered words k asked.Usage refuses (inl memory) = absurd (refuses.1 memory)
answered words k asked.Usage refuses (inr among) = inl (by_kind words k among ∙ refuses.0)
answered words k asked.NoMemory free why = tt

-- the number that a getter read
number_read : {E : Type 0} (G : List ℕ → Result ℕ E → Type 0) (k : ℕ) (t : Text) (r : Option ℕ) (n : ℕ)
    → ((u : List ℕ) (x : Result ℕ E) → G u x → ParsesUnsigned k 10 u x) → ReadsOne G t r → r ≡ Some n → number_of t ≡ n
number_read G k t (Some v) n only read is = sym (only t (Ok v) read).1 ∙ search (is)
number_read G k t None n only read is = absurd cc

pub number_given : {E : Type 0} (G : List ℕ → Result ℕ E → Type 0) (k : ℕ) (f : Found) (name : Text) (least most : ℕ) (h : HasNumber f name least most) (r : Option ℕ) (n : ℕ)
    → ((u : List ℕ) (x : Result ℕ E) → G u x → ParsesUnsigned k 10 u x) → ReadsOne G h.0 r → r ≡ Some n → given name (rows_of f) ≡ Some n
number_given G k f name least most h r n only read is =
    ap (option_map number_of) (sym (first_value-rows f name) ∙ h.1) ∙ ap Some (number_read G k h.0 r n only read is)

-- whether a value sets a flag
abbrev set_by : Option Text → Bool
set_by found = option_map_or (λ text. bytes_eq text (codes "true")) found false

-- the answer of a flag's getter
abbrev pub ReadsFlag : Option Text → Bool → Type 0
ReadsFlag text on =
    (text ≡ None → on ≡ false) × (text ≡ Some (codes "true") → on ≡ true) × (text ≡ Some (codes "false") → on ≡ false)

-- what a flag's getter reads is whether the flag is set
pub flag_set : (f : Found) (name : Text) (on : Bool) → HasFlag f name → ReadsFlag (one_text f name) on → is_set name (rows_of f) ≡ on
flag_set f name on (inl none) (unset, set, cleared) =
    ap set_by (sym (first_value-rows f name) ∙ none.0) ∙ sym (unset none.1)
flag_set f name on (inr some) (unset, set, cleared) =
    ap set_by (sym (first_value-rows f name) ∙ some.1) ∙ go (bytes_eq some.0 (codes "true")) refl some.3
  where
    go : (b : Bool) → bytes_eq some.0 (codes "true") ≡ b → (bytes_eq some.0 (codes "true") || bytes_eq some.0 (codes "false")) ≡ true
        → bytes_eq some.0 (codes "true") ≡ on
    go true e either = e ∙ sym (set (some.2 ∙ ap Some ((bytes_eq-Decides _ _).0 e)))
    go false e either =
        let is_false : bytes_eq some.0 (codes "false") ≡ true = rw e at either in
        e ∙ sym (cleared (some.2 ∙ ap Some ((bytes_eq-Decides _ _).0 is_false)))
