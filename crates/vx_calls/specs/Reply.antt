-- To be believed.
-- A reply as plain data: what a `ReplyRef` shows, and a test whether two are one.
use Rattle.std.specs.Prelude.{◌≡◌, ℕ, Bool, true, false, ◌&&◌, ◌==◌, List}
use Rattle.std.specs.Str.{bytes_eq}
use Rattle.vx_calls.specs.declared.codes.ErrorCode.{ErrorCode}
use Rattle.vx_calls.specs.declared.replies.ReplyRef.{ReplyRef}
use Rattle.vx_calls.specs.declared.replies.ReplyRef.TheVariants as seen
use Rattle.vx_calls.specs.ErrorCode.{same_error}

-- the results of a call, their byte strings as lists
pub data Reply : Type 0 where
  Null : Reply
  CreateLink : (error : ErrorCode) (lid abort_port max : ℕ) → Reply
  Write : (error : ErrorCode) (size : ℕ) → Reply
  Read : (error : ErrorCode) (reason : ℕ) (bytes : List ℕ) → Reply
  Stb : (error : ErrorCode) (stb : ℕ) → Reply
  Docmd : (error : ErrorCode) (bytes : List ℕ) → Reply
  Error : (error : ErrorCode) → Reply

-- the reply that a `ReplyRef` shows
abbrev pub reply_shown : ReplyRef → Reply
reply_shown seen.Null = Null
reply_shown (seen.CreateLink error lid abort_port max) = CreateLink error lid abort_port max
reply_shown (seen.Write error size) = Write error size
reply_shown (seen.Read error reason bytes) = Read error reason bytes.now
reply_shown (seen.Stb error stb) = Stb error stb
reply_shown (seen.Docmd error bytes) = Docmd error bytes.now
reply_shown (seen.Error error) = Error error

-- a test whether two replies are one
abbrev pub same_reply : Reply → Reply → Bool
same_reply Null Null = true
same_reply (CreateLink e l p m) (CreateLink f k q n) = same_error e f && (l == k) && (p == q) && (m == n)
same_reply (Write e n) (Write f m) = same_error e f && (n == m)
same_reply (Read e r bs) (Read f q cs) = same_error e f && (r == q) && bytes_eq bs cs
same_reply (Stb e n) (Stb f m) = same_error e f && (n == m)
same_reply (Docmd e bs) (Docmd f cs) = same_error e f && bytes_eq bs cs
same_reply (Error e) (Error f) = same_error e f
same_reply _ _ = false

-- only a reply and itself pass the test
abbrev pub SameReplyIs : Type 0
SameReplyIs = (a b : Reply) → same_reply a b ≡ true → a ≡ b

-- a reply and itself pass the test
abbrev pub SameReplyRefl : Type 0
SameReplyRefl = (r : Reply) → same_reply r r ≡ true
