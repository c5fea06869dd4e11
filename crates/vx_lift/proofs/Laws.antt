-- Laws that the crates above cite.
use Rattle.std.proofs.Common.{◌≡◌, ◌^◌, ◌<◌, ℕ, List, arith}
use Rattle.vx_script.specs.Command.{At}
use Rattle.vx_script.specs.Grammar.{Reading, Does, reading}
use Rattle.vx_script.specs.Laws.{ReadingLaw}
use Rattle.vx_lift.specs.Lifted.{moment_behind}

-- a moment stays below 2^64
pub stays-small : ReadingLaw → (moment : ℕ) (line : List ℕ) (said : Reading) → reading line ≡ said → moment < 2 ^ 64 → moment_behind moment said < 2 ^ 64
stays-small law moment line (Does (At later)) says small =
    let within : later < 2 ^ 64 = ((law line (Does (At later))).0 says).1.0 in
    omega arith
stays-small law moment line _ says small = small
