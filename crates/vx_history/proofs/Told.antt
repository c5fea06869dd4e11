-- The results that a record tells.
use Rattle.std.proofs.Common.{◌≡◌, ℕ, Bool, true, false, ◌&&◌, ◌++◌, take, ◌<◌, ◌≤◌, List, [], ◌∷◌, length, drop, Option, Some, None, IfSome, option_map, refl, sym, ap, ◌∙◌, subst, arith, length-take}
use Rattle.vx_codec.specs.Answered.{Outcome, Form, Nothing, LinkMade, Written, ReadData, Status, CommandData, ErrorAlone, Answers, results_shown}
use Rattle.vx_codec.specs.declared.results.Results.{Results}
use Rattle.vx_codec.specs.Answered as told
use Rattle.vx_calls.specs.Reply as reply
use Rattle.std.specs.Str.{bytes_eq}
use Rattle.std.proofs.lemmas.Bool.{and_from}
use Rattle.std.proofs.lemmas.Slice.Eq.{bytes_eq-Decides}
use Rattle.std.proofs.lemmas.List.{take-append-drop}
use Rattle.vx_lemmas.proofs.Laws.Conditions.{same_bytes}
use Rattle.vx_history.specs.Replies.{error_of, error_told, reply_told}
use Rattle.vx_history.specs.Spelling.{IsPuttableOutcome}

-- results that bytes spell can be written
pub answers-puttable : (form : Form) (o : Outcome) (bytes : List ℕ) → Answers form o bytes → IsPuttableOutcome o
answers-puttable Nothing o bytes (values, is, spells) = subst IsPuttableOutcome (sym is) tt
answers-puttable LinkMade o bytes ((error, (lid, (port, (most, end)))), is, spells) = subst IsPuttableOutcome (sym is) tt
answers-puttable Written o bytes ((error, (size, end)), is, spells) = subst IsPuttableOutcome (sym is) tt
answers-puttable Status o bytes ((error, (stb, end)), is, spells) = subst IsPuttableOutcome (sym is) tt
answers-puttable ErrorAlone o bytes ((error, end), is, spells) = subst IsPuttableOutcome (sym is) tt
answers-puttable ReadData o bytes ((error, (reason, (data_, end))), is, (a, b, first, (d, e, second, (f, g, third, rest, third_same), second_same), first_same)) =
    subst IsPuttableOutcome (sym is) (let low = third.within in omega arith)
answers-puttable CommandData o bytes ((error, (data_, end)), is, (a, b, first, (d, e, second, rest, second_same), first_same)) =
    subst IsPuttableOutcome (sym is) (let low = second.within in omega arith)

pub some-puttable : (form : Form) (found : Option Results) (bytes : List ℕ) → IfSome found (λ r. Answers form (results_shown r) bytes) → IfSome found (λ r. IsPuttableOutcome (results_shown r))
some-puttable form None bytes spells = tt
some-puttable form (Some r) bytes spells = answers-puttable form (results_shown r) bytes spells

-- results whose error is none tell no reply
pub told-none : (o : Outcome) → error_of (error_told o) ≡ None → None ≡ reply_told o
told-none told.Null none = cc
told-none (told.CreateLink error lid abort_port max) none = sym (ap (option_map (λ e. reply.CreateLink e lid abort_port max)) none)
told-none (told.Write error size) none = sym (ap (option_map (λ e. reply.Write e size)) none)
told-none (told.Read error reason bytes) none = sym (ap (option_map (λ e. reply.Read e reason bytes)) none)
told-none (told.Stb error stb) none = sym (ap (option_map (λ e. reply.Stb e stb)) none)
told-none (told.Docmd error bytes) none = sym (ap (option_map (λ e. reply.Docmd e bytes)) none)
told-none (told.Error error) none = sym (ap (option_map (λ e. reply.Error e)) none)

-- two tests of which each passes where the other does are one
same-test : (p q : Bool) → (p ≡ true → q ≡ true) → (q ≡ true → p ≡ true) → p ≡ q
same-test true q there back = sym (there refl)
same-test false true there back = back refl
same-test false false there back = refl

and-both : (p q : Bool) → (p && q) ≡ true → (p ≡ true) × (q ≡ true)
and-both true q is = (refl, is)
and-both false q is = cc

-- bytes are a record where their front is its mark and what is behind that is its message
pub record-test : (a b c d : ℕ) (message bytes : List ℕ)
    → (bytes_eq (a ∷ b ∷ c ∷ d ∷ []) (take 4 bytes) && bytes_eq message (drop 4 bytes)) ≡ bytes_eq (a ∷ b ∷ c ∷ d ∷ message) bytes
record-test a b c d message bytes =
    let mark = a ∷ b ∷ c ∷ d ∷ [] in
    same-test (bytes_eq mark (take 4 bytes) && bytes_eq message (drop 4 bytes)) (bytes_eq (a ∷ b ∷ c ∷ d ∷ message) bytes)
    (λ is.
    let both = and-both (bytes_eq mark (take 4 bytes)) (bytes_eq message (drop 4 bytes)) is in
    let front : mark ≡ take 4 bytes = same_bytes mark (take 4 bytes) both.0 in
    let behind : message ≡ drop 4 bytes = same_bytes message (drop 4 bytes) both.1 in
    (bytes_eq-Decides (a ∷ b ∷ c ∷ d ∷ message) bytes).1 (ap (λ xs. xs ++ message) front ∙ ap (λ xs. take 4 bytes ++ xs) behind ∙ take-append-drop 4 bytes))
    (λ is.
    let same : a ∷ b ∷ c ∷ d ∷ message ≡ bytes = same_bytes (a ∷ b ∷ c ∷ d ∷ message) bytes is in
    and_from (bytes_eq mark (take 4 bytes)) (bytes_eq message (drop 4 bytes))
    ((bytes_eq-Decides mark (take 4 bytes)).1 (ap (take 4) same)) ((bytes_eq-Decides message (drop 4 bytes)).1 (ap (drop 4) same)))

-- a longer text is another
pub longer-differs : (xs ys : List ℕ) → length ys < length xs → bytes_eq xs ys ≡ false
longer-differs xs ys longer = differs (bytes_eq xs ys) (λ is. same_bytes xs ys is)
  where
    differs : (p : Bool) → (p ≡ true → xs ≡ ys) → p ≡ false
    differs true same = let len = ap length (same refl) in absurd (omega arith)
    differs false same = refl

-- a front that is as long as it says is within the list
pub taken-within : (len : ℕ) (xs ys : List ℕ) → take len xs ≡ ys → len ≡ length ys → len ≤ length xs
taken-within len xs ys is long =
    let same = ap length is in
    let front = length-take len xs in
    omega arith
