-- To be believed.
-- What can be known of a link, and what calls do to that.
use Rattle.std.specs.Prelude.{◌≡◌, ◌≤◌, ℕ, List, Option}
use Rattle.std.specs.Io.KnownBytes.{Consumes, Keeps}
use Rattle.vx_io_traits.specs.Stands.{Gives, Stays}
use Rattle.vx_io_traits.specs.declared.links.Link.{Ghosts}

-- what it has left to give and the peers that it has had, where it tells them; its counts of faults
pub record LinkShown : Type 0 where
  pub left : Option (List ℕ)
  pub peers : Option (List ℕ)
  pub receive_faults : ℕ
  pub send_faults : ℕ

-- what a link shows, by what its type tells
abbrev pub link_shown : {L : Type 0} → Ghosts L → L → LinkShown
link_shown ways link = record { left = ways.left link; peers = ways.peers link; receive_faults = ways.receive_faults link; send_faults = ways.send_faults link }

-- it gave these bytes; its peers stay, and its counts don't fall
pub record LinkGoes (old : LinkShown) (received : List ℕ) (new : LinkShown) : Type 0 where
  pub left : Consumes old.left new.left received
  pub peers : Keeps old.peers new.peers
  pub receives : old.receive_faults ≤ new.receive_faults
  pub sends : old.send_faults ≤ new.send_faults

-- a receive gave these bytes
pub record Gave {L : Type 0} (ways : Ghosts L) (link : L) (bytes : List ℕ) (link' : L) : Type 0 where
  pub gives : Gives ways.stands link link' bytes
  pub goes : LinkGoes (link_shown ways link) bytes (link_shown ways link')

-- a receive gave nothing
pub record Ended {L : Type 0} (ways : Ghosts L) (link link' : L) : Type 0 where
  pub stays : Stays ways.stands link link'
  pub left : Keeps (ways.left link) (ways.left link')
  pub peers : Keeps (ways.peers link) (ways.peers link')
  pub receives : ways.receive_faults link ≤ ways.receive_faults link'
  pub sends : ways.send_faults link' ≡ ways.send_faults link
