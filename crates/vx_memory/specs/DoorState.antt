-- A door over memory: the peers that it met, those that are to come, and which of its calls fail.
use Rattle.std.specs.Prelude.{◌≡◌, ℕ, ◌+◌, ◌==◌, ◌||◌, nat_lt, min, Bool, true, List, [], ◌∷◌, ◌++◌, length, take, drop, replicate, get_or, Option, Some, None, if◌then◌else◌}
use Rattle.vx_io_traits.specs.Faults.{one_more, fails_next}
use Rattle.vx_io_traits.specs.declared.ReadOut.{ReadOut}
use Rattle.vx_io_traits.specs.declared.ReadOut.TheVariants.{Got, End, Failed as ReadFailed}
use Rattle.vx_io_traits.specs.declared.WriteOut.{WriteOut}
use Rattle.vx_io_traits.specs.declared.WriteOut.TheVariants.{Took, Failed as WriteFailed}
use Rattle.vx_io_traits.specs.declared.dials.DialOut.{DialOut}
use Rattle.vx_io_traits.specs.declared.dials.DialOut.TheVariants.{Up, Failed as Unopened}
use Rattle.vx_door.specs.declared.doors.Met.{Met}
use Rattle.vx_door.specs.declared.doors.Met.TheVariants.{Peer, Ended, Failed}

-- a peer: the bytes that were received from it, those that it has left to give, and those that it was sent
pub record PeerShown : Type 0 where
  pub received : List ℕ
  pub left : List ℕ
  pub sent : List ℕ

-- a peer with these bytes to give
abbrev pub peer_of : List ℕ → PeerShown
peer_of bytes = record { received = []; left = bytes; sent = [] }

-- a peer that gave so many more bytes
abbrev pub gave : ℕ → PeerShown → PeerShown
gave n p = record { received = p.received ++ take n p.left; left = drop n p.left; sent = p.sent }

-- a peer that was sent these bytes as well
abbrev pub got : List ℕ → PeerShown → PeerShown
got bytes p = record { received = p.received; left = p.left; sent = p.sent ++ bytes }

pub record DoorState : Type 0 where
  -- the bytes of each peer that is to come, in order
  pub coming : List (List ℕ)
  -- the peers that it met before the present one, in order
  pub past : List PeerShown
  -- the present peer; before the first one that has nothing
  pub present : PeerShown
  -- how many peers it met
  pub met : ℕ
  -- the numbers of the calls that fail, counted from 1 over open, next, receive and send together
  pub fails : List ℕ
  -- how many calls there were
  pub calls : ℕ
  -- how many openings and waits failed, how many receives, and how many sends
  pub faults : ℕ
  pub receive_faults : ℕ
  pub send_faults : ℕ
  -- how often it told that no more peers come
  pub ended : ℕ
  -- the port that it was opened at last
  pub port : Option ℕ

-- whether it met a peer
abbrev pub is_at_peer : DoorState → Bool
is_at_peer s = nat_lt 0 s.met

-- the peers that it met, in order
abbrev pub met_peers : DoorState → List PeerShown
met_peers s = s.past ++ (if nat_lt 0 s.met then s.present ∷ [] else [])

-- it stands for the bytes that its present peer was sent, and those that were received from it
abbrev pub StandsForPeer : DoorState → List ℕ → List ℕ → Type 0
StandsForPeer s taken given = (nat_lt 0 s.met ≡ true) × (taken ≡ s.present.sent) × (given ≡ s.present.received)

-- what its present peer has left to give
abbrev pub peer_left : DoorState → Option (List ℕ)
peer_left s = if nat_lt 0 s.met then Some s.present.left else None

-- the address of each of its peers: 127.0.0.1, the first number in the high byte
abbrev pub loopback : ℕ
loopback = 2130706433

abbrev pub addresses : DoorState → Option (List ℕ)
addresses s = Some (replicate s.met loopback)

-- whether a call of its link fails: it is one that is to fail, or no peer was met yet
abbrev pub fails_at_link : DoorState → Bool
fails_at_link s = fails_next s.fails s.calls || s.met == 0

-- what a receive into a slice of this length answers
abbrev pub receive_answer : DoorState → ℕ → ReadOut
receive_answer s room =
    if fails_at_link s then ReadFailed
    else (if length s.present.left == 0 then End else Got (min room (length s.present.left)))

-- what stands in the slice after that answer: the bytes that were given, and what stood behind them
abbrev pub receive_slice : DoorState → List ℕ → ReadOut → List ℕ
receive_slice s slice (Got n) = take n s.present.left ++ drop n slice
receive_slice s slice End = slice
receive_slice s slice ReadFailed = slice

-- the door after that answer
abbrev pub after_receive : DoorState → ReadOut → DoorState
after_receive s (Got n) = record s { present = gave n s.present; calls = one_more s.calls }
after_receive s End = record s { calls = one_more s.calls }
after_receive s ReadFailed = record s { calls = one_more s.calls; receive_faults = one_more s.receive_faults }

-- what a send of so many bytes may answer: all of them where the call isn't one that fails, and a fault
abbrev pub IsSendAnswer : DoorState → ℕ → WriteOut → Type 0
IsSendAnswer s count (Took n) = (n ≡ count) × (fails_at_link s ≡ true → ⊥)
IsSendAnswer s count WriteFailed = Unit {0}

-- the door after that answer
abbrev pub after_send : DoorState → List ℕ → WriteOut → DoorState
after_send s bytes (Took n) = record s { present = got (take n bytes) s.present; calls = one_more s.calls }
after_send s bytes WriteFailed = record s { calls = one_more s.calls; send_faults = one_more s.send_faults }

-- what an opening answers, and the door after that answer: it keeps the port
abbrev pub open_answer : DoorState → DialOut
open_answer s = if fails_next s.fails s.calls then Unopened else Up

abbrev pub after_open : DoorState → ℕ → DialOut → DoorState
after_open s port Up = record s { calls = one_more s.calls; port = Some port }
after_open s port Unopened = record s { calls = one_more s.calls; faults = one_more s.faults }

-- what a wait answers where the call isn't one that fails: the next peer, if one is to come
abbrev pub next_peer : List (List ℕ) → Met
next_peer [] = Ended
next_peer (bytes ∷ later) = Peer

-- what a wait answers
abbrev pub next_answer : DoorState → Met
next_answer s = if fails_next s.fails s.calls then Failed else next_peer s.coming

-- the door after that answer: the next peer is the present one
abbrev pub after_next : DoorState → Met → DoorState
after_next s Peer = record s {
  coming = drop 1 s.coming;
  past = met_peers s;
  present = peer_of (get_or s.coming 0 []);
  met = s.met + 1;
  calls = one_more s.calls;
}
after_next s Ended = record s { calls = one_more s.calls; ended = one_more s.ended }
after_next s Failed = record s { calls = one_more s.calls; faults = one_more s.faults }

-- a receive: its answer, what stands in the slice, and the door after it
abbrev pub IsReceive : DoorState → List ℕ → ReadOut → List ℕ → DoorState → Type 0
IsReceive old slice answer given new =
    (answer ≡ receive_answer old (length slice)) × (given ≡ receive_slice old slice answer) × (new ≡ after_receive old answer)

-- a send: its answer, and the door after it
abbrev pub IsSend : DoorState → List ℕ → WriteOut → DoorState → Type 0
IsSend old bytes answer new = IsSendAnswer old (length bytes) answer × (new ≡ after_send old bytes answer)

-- an opening: its answer, and the door after it
abbrev pub IsMemoryOpen : DoorState → ℕ → DialOut → DoorState → Type 0
IsMemoryOpen old port answer new = (answer ≡ open_answer old) × (new ≡ after_open old port answer)

-- a wait: its answer, and the door after it
abbrev pub IsNext : DoorState → Met → DoorState → Type 0
IsNext old answer new = (answer ≡ next_answer old) × (new ≡ after_next old answer)
