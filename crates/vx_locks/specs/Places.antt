-- Where the lock on a target is looked up: no two locks that are held have one place.
use Rattle.std.specs.Prelude.{ℕ, ◌+◌, ◌==◌, List, find, Option}
use Rattle.std.specs.Option.{option_map}
use Rattle.vx_calls.specs.declared.targets.Target.{Target}
use Rattle.vx_calls.specs.declared.targets.Target.TheVariants.{Interface, Device}
use Rattle.vx_rules.specs.Locks.{Lock}

-- the interface's place is the first, and those of the primary addresses follow
abbrev pub place : Target → ℕ
place Interface = 0
place (Device p s) = p + 1

-- the holder of the first lock that has the place
abbrev pub holder_at : List Lock → ℕ → Option ℕ
holder_at locks n = option_map (λ k. k.link) (find (λ k. place k.target == n) locks)
