-- To be believed.
-- What a program can know of its door.
use Rattle.std.specs.Prelude.{◌≡◌, ℕ, ◌≤◌, Bool, true, List, [], ◌∷◌, Option, is_some}
use Rattle.std.specs.Io.KnownBytes.{Appends, Keeps}
use Rattle.vx_io_traits.specs.Faults.{one_more}
use Rattle.vx_io_traits.specs.Stands.{Stays}
use Rattle.vx_io_traits.specs.declared.ReadOut.{ReadOut}
use Rattle.vx_io_traits.specs.declared.WriteOut.{WriteOut}
use Rattle.vx_io_traits.specs.declared.dials.DialOut.{DialOut}
use Rattle.vx_io_traits.specs.declared.links.Link.{Ghosts as LinkTold}
use Rattle.vx_door.specs.Meeting.{ended_after}
use Rattle.vx_door.specs.declared.doors.Door.{Ghosts as OwnTold}
use Rattle.vx_door.specs.declared.doors.Met.{Met}
use Rattle.vx_door.specs.declared.doors.Met.TheVariants.{Peer}

-- Its own counts; those of its link; what its peer has left to give and the addresses of its peers, where it tells them.
pub record DoorShown : Type 0 where
  pub met : ℕ
  pub ended : ℕ
  pub faults : ℕ
  pub receive_faults : ℕ
  pub send_faults : ℕ
  pub left : Option (List ℕ)
  pub peers : Option (List ℕ)

-- all that a door's trait tells, that of its link with it
abbrev pub DoorTold : Type 0 → Type 1
DoorTold N = record {
  stands : N → List ℕ → List ℕ → Type 0;
  left : N → Option (List ℕ);
  receive_faults : N → ℕ;
  send_faults : N → ℕ;
  peers : N → Option (List ℕ);
  is_ready : N → Bool;
  receives : N → List ℕ → ReadOut → List ℕ → N → Type 0;
  sends : N → List ℕ → WriteOut → N → Type 0;
  met : N → ℕ;
  ended : N → ℕ;
  faults : N → ℕ;
  tells : Bool;
  opens : N → ℕ → DialOut → N → Type 0;
  meets : N → Met → N → Type 0;
}

-- the same of what its two traits tell, each by itself
abbrev pub door_told : {N : Type 0} → LinkTold N → OwnTold N → DoorTold N
door_told link door = record {
  stands = link.stands;
  left = link.left;
  receive_faults = link.receive_faults;
  send_faults = link.send_faults;
  peers = link.peers;
  is_ready = link.is_ready;
  receives = link.receives;
  sends = link.sends;
  met = door.met;
  ended = door.ended;
  faults = door.faults;
  tells = door.tells;
  opens = door.opens;
  meets = door.meets;
}

-- what a door shows of that
abbrev pub door_shown : {N : Type 0} → DoorTold N → N → DoorShown
door_shown told d = record {
  met = told.met d;
  ended = told.ended d;
  faults = told.faults d;
  receive_faults = told.receive_faults d;
  send_faults = told.send_faults d;
  left = told.left d;
  peers = told.peers d;
}

-- The door met another peer, of which it has taken and given nothing. `waits` is what one wait does.
pub record MeetsPeer {N : Type 0} (stands : N → List ℕ → List ℕ → Type 0) (tells : Bool) (waits : N → Met → N → Type 0) (shown : N → DoorShown) (old new : N) : Type 0 where
  pub waited : waits old Peer new
  pub one : (shown new).met ≡ one_more (shown old).met
  pub ends : (shown new).ended ≡ (shown old).ended
  pub counted : (shown old).faults ≤ (shown new).faults
  pub receives : (shown new).receive_faults ≡ (shown old).receive_faults
  pub sends : (shown new).send_faults ≡ (shown old).send_faults
  pub address : ℕ
  pub at : Appends (shown old).peers (shown new).peers (address ∷ [])
  pub fresh : tells ≡ true → stands new [] [] × (is_some (shown new).left ≡ true)

-- The door met no other peer, and is the link that it was.
pub record MeetsNone {N : Type 0} (stands : N → List ℕ → List ℕ → Type 0) (waits : N → Met → N → Type 0) (shown : N → DoorShown) (answer : Met) (old new : N) : Type 0 where
  pub waited : waits old answer new
  pub same : (shown new).met ≡ (shown old).met
  pub ends : (shown new).ended ≡ ended_after answer (shown old).ended
  pub counted : (shown old).faults ≤ (shown new).faults
  pub receives : (shown new).receive_faults ≡ (shown old).receive_faults
  pub sends : (shown new).send_faults ≡ (shown old).send_faults
  pub at : Keeps (shown old).peers (shown new).peers
  pub rest : Keeps (shown old).left (shown new).left
  pub stays : Stays stands old new
