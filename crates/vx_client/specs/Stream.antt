-- To be believed.
-- The record of a reply at the front of what a client receives.
use Rattle.std.specs.Prelude.{◌≡◌, ℕ, ◌+◌, ◌-◌, ◌<◌, ◌≤◌, true, false, List, [], ◌∷◌, ◌++◌, length, take}
use Rattle.vx_calls.specs.declared.limits.TheConstants.{REPLY_MAX}
use Rattle.vx_client.specs.declared.inbox.TheConstants.{REPLY_STREAM_MAX, PIECE}
use Rattle.vx_record.specs.Records.{records}
use Rattle.vx_record.specs.Ends.{is_settled}

-- the stream's shortest front with a whole record, of at most so many stream bytes with its headers, is that of this one, and
-- these bytes stand behind it, fewer than are received at once
pub record IsReply (stream reply behind : List ℕ) : Type 0 where
  pub front : List ℕ
  pub cut : stream ≡ front ++ behind
  pub whole : (records REPLY_MAX front).records ≡ reply ∷ []
  pub shortest : is_settled (records REPLY_MAX (take (length front - 1) front)) ≡ false
  pub within : length front ≤ REPLY_STREAM_MAX
  pub few : length behind < PIECE

-- No front of the stream has a reply: its shortest front with a header that takes its record above the limit has fewer bytes behind
-- it than are received at once; or it has more bytes than a reply may have, by no more than those.
pub data IsTooLong (stream : List ℕ) : Type 0 where
  by_header : (front behind : List ℕ) → stream ≡ front ++ behind → length front ≤ REPLY_STREAM_MAX → (records REPLY_MAX front).records ≡ []
      → (records REPLY_MAX front).too_long ≡ true → is_settled (records REPLY_MAX (take (length front - 1) front)) ≡ false → length behind < PIECE
      → IsTooLong stream
  by_length : REPLY_STREAM_MAX < length stream → is_settled (records REPLY_MAX (take REPLY_STREAM_MAX stream)) ≡ false
      → length stream ≤ REPLY_STREAM_MAX + PIECE → IsTooLong stream

-- the stream has no reply yet, and may still bring one
pub record IsClientOpen (stream : List ℕ) : Type 0 where
  pub unsettled : is_settled (records REPLY_MAX stream) ≡ false
  pub within : length stream ≤ REPLY_STREAM_MAX
