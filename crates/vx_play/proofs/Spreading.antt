-- The commands of a lifted script, by those of the script: lists of commands alone.
use Rattle.std.proofs.Common.{◌≡◌, ℕ, max, false, List, [], ◌∷◌, ◌++◌, refl, sym, ap, ◌∙◌, true≢false}
use Rattle.vx_script.specs.Command.{Command, At}
use Rattle.vx_script.specs.Timed.{is_at}

-- each command but `at` stands behind an `at` of the greatest moment so far
abbrev pub spread : ℕ → List Command → List Command
spread moment [] = []
spread moment (At later ∷ rest) = spread (max moment later) rest
spread moment (command ∷ rest) = At moment ∷ command ∷ spread moment rest

-- the greatest moment behind commands
abbrev pub reached : ℕ → List Command → ℕ
reached moment [] = moment
reached moment (At later ∷ rest) = reached (max moment later) rest
reached moment (command ∷ rest) = reached moment rest

-- what these commands are spread to, and the `at` in front of the next one
abbrev pub spread_up_to : ℕ → List Command → List Command
spread_up_to moment front = spread moment front ++ At (reached moment front) ∷ []

-- a command other than `at` is spread to two
spread-next : (moment : ℕ) (command : Command) (later : List Command) → is_at command ≡ false → spread moment (command ∷ later) ≡ At moment ∷ command ∷ spread moment later
spread-next moment (At m) later other = absurd (true≢false other)
spread-next moment _ later other = refl

-- and so it is behind others
pub spread-front : (moment : ℕ) (front : List Command) (command : Command) (later : List Command) → is_at command ≡ false
    → spread moment (front ++ command ∷ later) ≡ spread_up_to moment front ++ command ∷ spread (reached moment front) later
spread-front moment [] command later other = spread-next moment command later other
spread-front moment (At m ∷ front) command later other = spread-front (max moment m) front command later other
spread-front moment (c ∷ front) command later other = ap (λ xs. At moment ∷ c ∷ xs) (spread-front moment front command later other)

-- commands, one of them, and those behind it, where commands in front of it are spread to these
pub record SpreadAt (moment : ℕ) (all : List Command) (before : List Command) (command : Command) : Type 0 where
  pub front : List Command
  pub later : List Command
  pub parts : all ≡ front ++ command ∷ later
  pub before_is : before ≡ spread_up_to moment front

-- the two commands that one is spread to, in front of others
two-more : (moment : ℕ) (c b d : Command) (all before : List Command) (command : Command)
    → ((front : List Command) → spread_up_to moment (c ∷ front) ≡ At moment ∷ c ∷ spread_up_to moment front) → b ≡ At moment → d ≡ c → SpreadAt moment all before command
    → SpreadAt moment (c ∷ all) (b ∷ d ∷ before) command
two-more moment c b d all before command two first second more = record {
  front = c ∷ more.front;
  later = more.later;
  parts = ap (λ xs. c ∷ xs) more.parts;
  before_is = ap (λ x. x ∷ d ∷ before) first ∙ ap (λ x. At moment ∷ x ∷ before) second ∙ ap (λ xs. At moment ∷ c ∷ xs) more.before_is ∙ sym (two more.front);
}

-- the other way round: where a command other than `at` stands in what commands are spread to
pub spread-parts : (moment : ℕ) (all before : List Command) (command : Command) (behind : List Command) → is_at command ≡ false → before ++ command ∷ behind ≡ spread moment all
    → SpreadAt moment all before command
spread-parts moment [] [] command behind other is = cc
spread-parts moment [] (b ∷ before) command behind other is = cc
spread-parts moment (At m ∷ all) before command behind other is =
    let more = spread-parts (max moment m) all before command behind other is in
    record { front = At m ∷ more.front; later = more.later; parts = ap (λ xs. At m ∷ xs) more.parts; before_is = more.before_is }
spread-parts moment (c ∷ all) [] command behind other is =
    let same : command ≡ At moment = cc in
    absurd (true≢false (sym (ap is_at same) ∙ other))
spread-parts moment (c ∷ all) (b ∷ []) command behind other is =
    let first : b ≡ At moment = cc in
    let same : command ≡ c = cc in
    record { front = []; later = all; parts = ap (λ x. x ∷ all) (sym same); before_is = ap (λ x. x ∷ []) first }
spread-parts moment (c ∷ all) (b ∷ d ∷ before) command behind other is =
    let first : b ≡ At moment = cc in
    let second : d ≡ c = cc in
    let rest : before ++ command ∷ behind ≡ spread moment all = cc in
    two-more moment c b d all before command (λ front. refl) first second (spread-parts moment all before command behind other rest)
