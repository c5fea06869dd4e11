-- The tests of two errors and of two replies answer true exactly where they are one. A crate above calls reply_laws.
pub mod TargetClauses
use Rattle.std.proofs.Common.{◌≡◌, ◌<◌, ◌^◌, ℕ, true, ◌&&◌, refl, sym, ◌∙◌, ap, arith}
use Rattle.std.specs.Prelude.{◌==◌, if◌then◌else◌}
use Rattle.std.proofs.lemmas.Bool.{false≢true, and_parts}
use Rattle.std.specs.Str.{bytes_eq}
use Rattle.std.proofs.lemmas.Bool.Decides.{Decides-eqb}
use Rattle.std.proofs.lemmas.Slice.Eq.{bytes_eq-Decides}
use Rattle.vx_lemmas.proofs.Laws.Conditions.{eqb-self, self_bytes}
use Rattle.vx_calls.specs.declared.codes.ErrorCode.{ErrorCode}
use Rattle.vx_calls.specs.declared.codes.ErrorCode.TheVariants as code
use Rattle.vx_calls.specs.ErrorCode.{error_number, same_error}
use Rattle.vx_calls.specs.Reply.{Null, CreateLink, Write, Read, Stb, Docmd, Error, SameReplyIs, SameReplyRefl}

-- the error that has this number
error_of : ℕ → ErrorCode
error_of n =
    if n == 0 then code.Ok else
    if n == 1 then code.Syntax else
    if n == 3 then code.NotAccessible else
    if n == 4 then code.InvalidLink else
    if n == 5 then code.Parameter else
    if n == 6 then code.NoChannel else
    if n == 8 then code.NotSupported else
    if n == 9 then code.NoResources else
    if n == 11 then code.Locked else
    if n == 12 then code.NotHeld else
    if n == 15 then code.Timeout else
    if n == 17 then code.BusFault else
    if n == 21 then code.InvalidAddress else
    if n == 23 then code.Abort else
    if n == 29 then code.ChannelUp else code.Ok

error_of-number : (e : ErrorCode) → error_of (error_number e) ≡ e
unfolding error_of
error_of-number code.Ok = refl
error_of-number code.Syntax = refl
error_of-number code.NotAccessible = refl
error_of-number code.InvalidLink = refl
error_of-number code.Parameter = refl
error_of-number code.NoChannel = refl
error_of-number code.NotSupported = refl
error_of-number code.NoResources = refl
error_of-number code.Locked = refl
error_of-number code.NotHeld = refl
error_of-number code.Timeout = refl
error_of-number code.BusFault = refl
error_of-number code.InvalidAddress = refl
error_of-number code.Abort = refl
error_of-number code.ChannelUp = refl

same_number : (a b : ErrorCode) → error_number a ≡ error_number b → a ≡ b
same_number a b e = sym (error_of-number a) ∙ ap error_of e ∙ error_of-number b

same : (m n : ℕ) → (m == n) ≡ true → m ≡ n
same m n e = (Decides-eqb m n).0 e

-- the number of each error fits a word
pub number-small : (e : ErrorCode) → error_number e < 2 ^ 32
number-small code.Ok = omega arith
number-small _ = omega arith

-- no two errors are the same but those that are one
pub same_error-is : (a b : ErrorCode) → same_error a b ≡ true → a ≡ b
same_error-is a b e = same_number a b (same (error_number a) (error_number b) e)

pub same_error-refl : (a : ErrorCode) → same_error a a ≡ true
same_error-refl a = eqb-self (error_number a)

-- no two replies are the same but those that are one
pub same_reply-is : SameReplyIs
same_reply-is Null Null e = refl
same_reply-is (CreateLink e l p m) (CreateLink f k q n) h =
    let h₁ = and_parts (same_error e f && (l == k) && (p == q)) (m == n) h in
    let h₂ = and_parts (same_error e f && (l == k)) (p == q) h₁.0 in
    let h₃ = and_parts (same_error e f) (l == k) h₂.0 in
    let error = same_error-is e f h₃.0 in
    let lid = same l k h₃.1 in
    let port = same p q h₂.1 in
    let max = same m n h₁.1 in
    cc
same_reply-is (Write e n) (Write f m) h =
    let parts = and_parts (same_error e f) (n == m) h in
    let error = same_error-is e f parts.0 in
    let size = same n m parts.1 in
    cc
same_reply-is (Read e r bs) (Read f q cs) h =
    let h₁ = and_parts (same_error e f && (r == q)) (bytes_eq bs cs) h in
    let h₂ = and_parts (same_error e f) (r == q) h₁.0 in
    let error = same_error-is e f h₂.0 in
    let reason = same r q h₂.1 in
    let bytes = (bytes_eq-Decides bs cs).0 h₁.1 in
    cc
same_reply-is (Stb e n) (Stb f m) h =
    let parts = and_parts (same_error e f) (n == m) h in
    let error = same_error-is e f parts.0 in
    let stb = same n m parts.1 in
    cc
same_reply-is (Docmd e bs) (Docmd f cs) h =
    let parts = and_parts (same_error e f) (bytes_eq bs cs) h in
    let error = same_error-is e f parts.0 in
    let bytes = (bytes_eq-Decides bs cs).0 parts.1 in
    cc
same_reply-is (Error e) (Error f) h = ap Error (same_error-is e f h)
same_reply-is _ _ h = absurd (false≢true h)

pub same_reply-refl : SameReplyRefl
same_reply-refl Null = refl
same_reply-refl (CreateLink e l p m) = rw (same_error-refl e, eqb-self l, eqb-self p, eqb-self m) refl
same_reply-refl (Write e n) = rw (same_error-refl e, eqb-self n) refl
same_reply-refl (Read e r bs) = rw (same_error-refl e, eqb-self r, self_bytes bs) refl
same_reply-refl (Stb e n) = rw (same_error-refl e, eqb-self n) refl
same_reply-refl (Docmd e bs) = rw (same_error-refl e, self_bytes bs) refl
same_reply-refl (Error e) = same_error-refl e
