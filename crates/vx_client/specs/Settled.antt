-- To be believed.
-- What calls return of the results of a reply.
use Rattle.std.specs.Prelude.{ℕ, List, ◌++◌, drop}
use Rattle.vx_codec.specs.Answered.{Outcome}
use Rattle.vx_client.specs.Meaning.{Meaning, Done, Failed, Refused, Bad, made_of, stb_of, client_reason_of, client_bytes_of, len_of}
use Rattle.vx_client.specs.declared.settling.Answer.{Answer}
use Rattle.vx_client.specs.declared.settling.Settled.{Settled}
use Rattle.vx_client.specs.declared.settling.Settled.TheVariants as settled

abbrev pub answer_of : Outcome → Answer
answer_of o = record { made = made_of o; stb = stb_of o; reason = client_reason_of o; len = len_of o }

-- what a record's meaning comes to
abbrev pub settled_of : Meaning → Settled
settled_of (Done o) = settled.Done (answer_of o)
settled_of (Failed n) = settled.Failed n
settled_of (Refused r) = settled.Refused r
settled_of Bad = settled.Bad

-- the bytes of results stand at the front of the room
abbrev pub written : List ℕ → Meaning → List ℕ
written room (Done o) = client_bytes_of o ++ drop (len_of o) room
written room (Failed n) = room
written room (Refused r) = room
written room Bad = room
