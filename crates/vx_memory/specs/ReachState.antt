-- A reach over memory: the link that it stands for, the host and port at which it answers `Up`, and what it counted.
use Rattle.std.specs.Prelude.{◌≡◌, ℕ, ◌+◌, ◌-◌, ◌^◌, min, Bool, true, List, Option, Some}
use Rattle.vx_io_traits.specs.Faults.{one_more}
use Rattle.vx_io_traits.specs.declared.ReadOut.{ReadOut}
use Rattle.vx_io_traits.specs.declared.ReadOut.TheVariants.{Failed as ReadFailed}
use Rattle.vx_io_traits.specs.declared.WriteOut.{WriteOut}
use Rattle.vx_io_traits.specs.declared.WriteOut.TheVariants.{Failed as WriteFailed}
use Rattle.vx_io_traits.specs.declared.dials.DialOut.{DialOut}
use Rattle.vx_io_traits.specs.declared.dials.DialOut.TheVariants.{Up, Failed}

pub record ReachState (L : Type 0) : Type 0 where
  -- the link that it is from its first reach with `Up` on
  pub link : L
  -- the bytes of the host, and the port, at which a reach answers `Up`
  pub host : List ℕ
  pub port : ℕ
  -- whether a reach answered so
  pub is_up : Bool
  -- how many reaches there were
  pub tried : ℕ
  -- how many of them were refused
  pub refused : ℕ
  -- how many receives and how many sends came before the first reach with `Up`, and so failed
  pub early_receives : ℕ
  pub early_sends : ℕ

-- the one host and port
abbrev pub memory_place_of : {L : Type 0} → ReachState L → Option (List ℕ × ℕ)
memory_place_of s = Some (s.host, s.port)

-- a count of the reach's own with that of its link: a `u64` that stays at its greatest value
abbrev pub with_early : ℕ → ℕ → ℕ
with_early early faults = min (early + faults) (2 ^ 64 - 1)

-- after a receive before the first reach with `Up` nothing but its count has changed
abbrev pub IsEarlyReceive : {L : Type 0} → ReachState L → ReachState L → ReadOut → Type 0
IsEarlyReceive old new answer =
    (answer ≡ ReadFailed) × (new ≡ record old { early_receives = one_more old.early_receives })

-- after a send before the first reach with `Up` nothing but its count has changed
abbrev pub IsEarlySend : {L : Type 0} → ReachState L → ReachState L → WriteOut → Type 0
IsEarlySend old new answer =
    (answer ≡ WriteFailed) × (new ≡ record old { early_sends = one_more old.early_sends })

-- a later call changes the link alone
abbrev pub IsLinkCall : {L : Type 0} → ReachState L → ReachState L → Type 0
IsLinkCall old new = new ≡ record old { link = new.link }

-- the reach after a call of it with that answer
abbrev pub after_reach : {L : Type 0} → ReachState L → DialOut → ReachState L
after_reach s Up = record s { is_up = true; tried = one_more s.tried }
after_reach s Failed = record s { tried = one_more s.tried; refused = one_more s.refused }

-- one call of it, with that answer
abbrev pub IsReach : {L : Type 0} → ReachState L → DialOut → ReachState L → Type 0
IsReach old answer new = new ≡ after_reach old answer
