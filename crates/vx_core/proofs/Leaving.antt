-- The turn of a connection that leaves.
use Rattle.std.proofs.Common.{◌≡◌, ℕ, Bool, true, false, ◌==◌, cond, Option, Some, None, refl}
use Rattle.std.specs.Option.{is_some}
use Rattle.vx_core.specs.declared.running.Running.{Running}
use Rattle.vx_core.specs.Shown.{running_of, running_without}

-- a turn of the connection is over
pub own-left : (running : Option Running) (conn : ℕ) (own : Option Running) → own ≡ running_of running conn → is_some own ≡ true
    → None ≡ running_without running conn
own-left None conn None e h = refl
own-left None conn (Some r) e h = refl
own-left (Some r) conn own e h = by (r.conn == conn) own e h
  where
    by : (same : Bool) (own : Option Running) → own ≡ cond same (Some r) None → is_some own ≡ true → None ≡ cond same None (Some r)
    by true own e h = refl
    by false None e h = cc
    by false (Some q) e h = cc

-- and one of another connection stays
pub other-stays : (running : Option Running) (conn : ℕ) (own : Option Running) → own ≡ running_of running conn → is_some own ≡ false
    → running ≡ running_without running conn
other-stays None conn own e h = refl
other-stays (Some r) conn own e h = by (r.conn == conn) own e h
  where
    by : (same : Bool) (own : Option Running) → own ≡ cond same (Some r) None → is_some own ≡ false → Some r ≡ cond same None (Some r)
    by false own e h = refl
    by true None e h = cc
    by true (Some q) e h = cc
