-- What contracts see of an adapter over sockets: its counts alone, since no contract knows the bytes of a real stream.
use Rattle.std.specs.Prelude.{ℕ, Bool, List}
use Rattle.vx_door.specs.Meeting.{KeepsCounts}

-- a link over a stream stands for no bytes that could be told
abbrev pub TellsNone : {L : Type 0} → L → List ℕ → List ℕ → Type 0
TellsNone link taken given = ⊥

-- a link: how many receives failed, and how many sends
pub record TcpLinkState : Type 0 where
  pub receive_faults : ℕ
  pub send_faults : ℕ

-- a net: whether its own port is open, how many calls failed, and how many links its own port gave
pub record TcpNetState : Type 0 where
  pub is_open : Bool
  pub faults : ℕ
  pub given : ℕ

-- a reach: whether it has a stream, how many receives failed and how many sends, and how many reaches were refused
pub record TcpReachState : Type 0 where
  pub is_up : Bool
  pub receive_faults : ℕ
  pub send_faults : ℕ
  pub refused : ℕ

-- a door: whether it is a peer's link, how many peers it met, how many openings and waits failed, how many receives, and how many
-- sends
pub record TcpDoorState : Type 0 where
  pub is_at_peer : Bool
  pub met : ℕ
  pub faults : ℕ
  pub receive_faults : ℕ
  pub send_faults : ℕ

-- a door's own counts are as they were; it never tells that no more peers come
abbrev pub KeepsOwnCounts : TcpDoorState → TcpDoorState → Type 0
KeepsOwnCounts old new = KeepsCounts (λ (d : TcpDoorState). d.met) (λ (d : TcpDoorState). 0) (λ (d : TcpDoorState). d.faults) old new
