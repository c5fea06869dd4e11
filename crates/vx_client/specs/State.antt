-- To be believed.
-- What contracts see of a client.
use Rattle.std.specs.Prelude.{ℕ, ◌+◌, ◌%◌, ◌^◌, Bool, false, List, []}

pub record ClientState (L : Type 0) : Type 0 where
  pub link : L
  -- the number of its next call
  pub next : ℕ
  -- whether an earlier call ended so that no further one is sent
  pub spent : Bool
  -- the record that the last call which was sent got, or nothing where it got none
  pub last : List ℕ
  -- the bytes that came behind that record
  pub kept : List ℕ

-- a client over a link that has made no call
abbrev pub new_client : {L : Type 0} → L → ClientState L
new_client link = record { link = link; next = 1; spent = false; last = []; kept = [] }

-- what a client keeps beside its link
pub record TalkState : Type 0 where
  pub next : ℕ
  pub spent : Bool
  pub last : List ℕ
  pub kept : List ℕ

-- the client that keeps this, over a link
abbrev pub over_link : {L : Type 0} → L → TalkState → ClientState L
over_link link talk = record { link = link; next = talk.next; spent = talk.spent; last = talk.last; kept = talk.kept }

-- a client with another link in place of its own
abbrev pub client_with_link : {L K : Type 0} → ClientState L → K → ClientState K
client_with_link c link = record { link = link; next = c.next; spent = c.spent; last = c.last; kept = c.kept }

-- calls are numbered modulo 2^32 (RFC 5531, section 9, xid)
abbrev pub number_after : ℕ → ℕ
number_after n = (n + 1) % 2 ^ 32
