-- To be believed.
-- A bus that another box drives: what contracts see of it, and what it keeps after steps.
use Rattle.std.specs.Prelude.{◌≡◌, ℕ, ◌+◌, Bool, true, false, ◌&&◌, not, nat_le, List, [], ◌∷◌, ◌++◌, Some}
use Rattle.vx_io_traits.specs.Faults.{one_more}
use Rattle.vx_488.specs.Wire.{step}
use Rattle.vx_488.specs.Means.{Means, first_means}
use Rattle.vx_488.specs.Steps.{Step, Went, Held, Failed, Told, Cut}
use Rattle.vx_client.specs.State.{ClientState}
use Rattle.vx_client.specs.declared.answers.CallOpts.{CallOpts}
use Rattle.vx_client.specs.declared.answers.LinkMade.{LinkMade}
use Rattle.vx_upstream.specs.declared.upstream.Levels.{Levels}
use Rattle.vx_upstream.specs.declared.upstream.Standing.{Standing}
use Rattle.vx_upstream.specs.declared.upstream.Standing.TheVariants.{Here, Lost, Retry}

-- where the box is, which interface of it, and how many milliseconds it may take for one call
pub record Terms : Type 0 where
  -- the bytes of the host's text, and of the interface's name
  pub host : List ℕ
  pub port : ℕ
  pub name : List ℕ
  pub patience : ℕ

abbrev pub terms_of : List ℕ → ℕ → List ℕ → ℕ → Terms
terms_of host port name patience = record { host = host; port = port; name = name; patience = patience }

-- what a bus keeps of the steps that it went through
pub record Kept : Type 0 where
  -- what it means to whoever asks it
  pub means : Means
  -- whether the box's bus is known to mean the same
  pub standing : Standing

pub record UpstreamState (L : Type 0) : Type 0 where
  pub kept : Kept
  -- the client by which the box is asked, and its link there
  pub client : ClientState L
  pub made : LinkMade
  pub terms : Terms
  -- the steps of its last call that are not told yet, in order: none, but inside a burst
  pub due : List Step
  -- the levels of SRQ and NDAC as the box told them last, and when it was asked for them
  pub levels : Levels
  -- the moment that it was told last
  pub moment : ℕ

-- a bus that nobody has asked yet
abbrev pub first_kept : Kept
first_kept = record { means = first_means; standing = Here }

-- the flags and timeouts of a call: none waits for a lock (VXI-11, Device_Flags)
abbrev pub opts_at : ℕ → ℕ → CallOpts
opts_at patience flags = record { flags = flags; io_timeout = patience; lock_timeout = 0 }

abbrev pub opts_of : {L : Type 0} → UpstreamState L → ℕ → CallOpts
opts_of s flags = opts_at s.terms.patience flags

-- ---- whether the box is asked

abbrev pub is_here : Standing → Bool
is_here Here = true
is_here Lost = false
is_here (Retry from) = false

-- the box's bus means what the near one means, as far as it answered; else the bus is away
abbrev pub IsHere : {L : Type 0} → UpstreamState L → Type 0
IsHere s = is_here s.kept.standing ≡ true

abbrev pub IsAway : {L : Type 0} → UpstreamState L → Type 0
IsAway s = is_here s.kept.standing ≡ false

-- whether a bus that is away may be brought back at a moment: at once behind a fault, and some time after a try that failed
abbrev pub is_time : Standing → ℕ → Bool
is_time Here now = false
is_time Lost now = true
is_time (Retry from) now = nat_le from now

-- it is brought back at a moment where it is in charge
abbrev pub comes_back : {L : Type 0} → UpstreamState L → Bool
comes_back s = s.kept.means.wire.incharge && is_time s.kept.standing s.moment

-- and where it isn't, as an interface clear is asked
abbrev pub clears : {L : Type 0} → UpstreamState L → Bool
clears s = not s.kept.means.wire.incharge && is_time s.kept.standing s.moment

-- the level of a line: that of the last look, and false where nobody can see it
abbrev pub level_seen : Bool → Standing → Bool
level_seen level at = level && is_here at

-- ---- what steps change

-- a fault leaves the bus away; one that is away stays so
abbrev pub lost : Standing → Standing
lost Here = Lost
lost Lost = Lost
lost (Retry from) = Retry from

-- what a bus keeps after a step
abbrev pub after : Kept → Step → Kept
after k (Went t) = record k { means = record k.means { wire = step k.means.wire t; moves = k.means.moves ++ t ∷ []; asks = k.means.asks + 1 } }
after k (Held asked) = record k { means = record k.means { asks = k.means.asks + 1; holds = one_more k.means.holds; refused = Some asked } }
after k (Failed asked) =
    record { means = record k.means { asks = k.means.asks + 1; faults = one_more k.means.faults; refused = Some asked }; standing = lost k.standing }
after k (Told now) = k
after k Cut = record k { means = record k.means { moves = []; asks = 0 } }

-- and after these steps, one after the other
abbrev pub past : Kept → List Step → Kept
past k [] = k
past k (s ∷ steps) = past (after k s) steps
