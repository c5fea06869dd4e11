-- To be believed.
-- What opening a door does.
use Rattle.std.specs.Prelude.{◌≡◌, ◌≤◌, ℕ, Bool, List}
use Rattle.std.specs.Io.KnownBytes.{Keeps}
use Rattle.vx_io_traits.specs.Faults.{Rose}
use Rattle.vx_io_traits.specs.Rung.{OnDialFailed}
use Rattle.vx_io_traits.specs.Stands.{Stays}
use Rattle.vx_io_traits.specs.declared.dials.DialOut.{DialOut}
use Rattle.vx_door.specs.Shown.{DoorShown}

-- what opening a door is to what is said of it
pub record Opening (N : Type 0) : Type 1 where
  -- what one opening does, where the door tells it: the door before, the port, the answer, and the door after
  pub opens : N → ℕ → DialOut → N → Type 0
  -- whether the door is a peer's link
  pub ready : N → Bool

-- The door was opened at this port, or couldn't be: once and at no other, as a door tells it that tells its openings. It is the link that it
-- was, and its peers are those that it had.
pub record Opens {N : Type 0} (o : Opening N) (stands : N → List ℕ → List ℕ → Type 0) (shown : N → DoorShown) (port : ℕ) (old : N) (answer : DialOut) (new : N) : Type 0 where
  pub opened : o.opens old port answer new
  pub counted : (shown old).faults ≤ (shown new).faults
  pub failed : OnDialFailed answer (Rose (shown old).faults (shown new).faults)
  pub met : (shown new).met ≡ (shown old).met
  pub ended : (shown new).ended ≡ (shown old).ended
  pub receives : (shown new).receive_faults ≡ (shown old).receive_faults
  pub sends : (shown new).send_faults ≡ (shown old).send_faults
  pub ready : o.ready new ≡ o.ready old
  pub peers : Keeps (shown old).peers (shown new).peers
  pub left : Keeps (shown old).left (shown new).left
  pub stays : Stays stands old new
