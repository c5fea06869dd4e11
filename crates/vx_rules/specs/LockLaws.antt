-- What a grant does to the other links, and that there are no more locks than links.
use Rattle.std.specs.Prelude.{◌≡◌, ◌≢◌, ℕ, ◌<◌, not, true, false, ◌&&◌, ◌==◌, List, length}
use Rattle.std.specs.List.{list_any, All}
use Rattle.vx_calls.specs.declared.targets.Target.{Target}
use Rattle.vx_calls.specs.Target.{conflict}
use Rattle.vx_rules.specs.Locks.{Lock, IsApart, holds, is_blocked, keeps_off, with_lock, without_lock}

-- once a link has a lock on a target, each other link is blocked on each conflicting target
abbrev pub GrantedBlocks : Type 0
GrantedBlocks = (locks : List Lock) (lid other : ℕ) (target wanted : Target) → other ≢ lid → conflict target wanted ≡ true
    → is_blocked (with_lock locks lid target) other wanted ≡ true

-- once a link's lock is gone, a link is blocked exactly where a lock of a third one blocks it
abbrev pub FreedOpens : Type 0
FreedOpens = (locks : List Lock) (lid other : ℕ) (wanted : Target)
    → is_blocked (without_lock locks lid) other wanted ≡ list_any (λ k. not (k.link == lid) && keeps_off other wanted k) locks

-- where each lock is held by a link of this list, and one of them holds none, there are fewer locks than links
abbrev pub HasRoom : Type 0
HasRoom = (locks : List Lock) (links : List ℕ) (lid : ℕ) → IsApart locks → All (λ k. list_any (λ n. n == k.link) links ≡ true) locks
    → list_any (λ n. n == lid) links ≡ true → holds locks lid ≡ false → length locks < length links
