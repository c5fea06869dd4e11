-- The links that a net gives, one after the other.
use Rattle.std.specs.Prelude.{◌≡◌, ◌≤◌, ◌<◌, ◌-◌, ◌^◌, ℕ, min}
use Rattle.vx_io_traits.specs.Faults.{Rose}
use Rattle.vx_io_traits.specs.declared.listeners.Accepted.{Accepted}
use Rattle.vx_io_traits.specs.declared.listeners.Accepted.TheVariants.{Peer, Ended, Failed}
use Rattle.vx_startup.specs.Running.{NetShown, TookLinks}

-- so far the net gave so many links, which is told up to 2^64 - 1, no more than the limit, where there is one
pub record TookSoFar (limit : ℕ) (before now : NetShown) (number : ℕ) : Type 0 where
  pub grew : before.given ≤ now.given
  pub number_is : number ≡ min (now.given - before.given) (2 ^ 64 - 1)
  pub within : 0 < limit → number ≤ limit
  pub failed : before.faults ≤ now.faults
  pub ended : before.ended ≤ now.ended

-- With the next link there are so many; or there were so many in all; or a wait failed.
abbrev pub TakesNext : {L : Type 0} → ℕ → NetShown → NetShown → ℕ → Accepted L → Type 0
TakesNext limit before now number (Peer link) = TookSoFar limit before now number
TakesNext limit before now number Ended = TookLinks limit before now number
TakesNext limit before now number Failed = Rose before.faults now.faults
