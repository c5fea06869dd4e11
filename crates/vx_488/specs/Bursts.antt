-- Bursts of data bytes: the steps that each is, and why one of gets stopped.
use Rattle.std.specs.Prelude.{◌≡◌, ◌<◌, ◌≤◌, ◌+◌, ℕ, Bool, true, false, ◌==◌, List, [], ◌∷◌, ◌++◌, map, length, take, drop, Option, None, Some}
use Rattle.std.specs.List.{list_any}
use Rattle.vx_488.specs.declared.transfers.Transfer.{Transfer}
use Rattle.vx_488.specs.declared.transfers.Transfer.TheVariants.{Put, Got}
use Rattle.vx_488.specs.declared.asks.Ask.TheVariants as ask
use Rattle.vx_488.specs.declared.asks.Move.{Move}
use Rattle.vx_488.specs.declared.asks.Move.TheVariants as answer
use Rattle.vx_488.specs.declared.bursts.Many.{Many}
use Rattle.vx_488.specs.declared.bursts.Stop.{Stop}
use Rattle.vx_488.specs.declared.bursts.Stop.TheVariants as stop
use Rattle.vx_488.specs.Means.{Means}
use Rattle.vx_488.specs.Steps.{Step, Went, Held, Failed, ask_for}
use Rattle.vx_488.specs.Walks.{Walk}

-- these bytes as transfers, with END on the last one or not
abbrev pub ended : (ℕ → Bool → Transfer) → Bool → List ℕ → List Transfer
ended made end [] = []
ended made end (b ∷ []) = made b end ∷ []
ended made end (b ∷ c ∷ bs) = made b false ∷ ended made end (c ∷ bs)

-- the ask for the first of these transfers, which didn't go
abbrev pub refused_put : Move → List Transfer → List Step
refused_put answer.Held (t ∷ ts) = Held (ask_for t) ∷ []
refused_put answer.Failed (t ∷ ts) = Failed (ask_for t) ∷ []
refused_put _ _ = []

-- A burst of puts of these bytes, with END on the last one of them or not: the puts that went, in order, and then the one
-- that was held, or failed.
abbrev pub puts_steps : List ℕ → Bool → Many → List Step
puts_steps bytes end m = map Went (take m.moved (ended Put end bytes)) ++ refused_put m.last (drop m.moved (ended Put end bytes))

-- so many of its bytes went, and nothing else was asked
pub record PutsSoFar {B : Type 0} (means : B → Means) (through : B → Step → B → Type 0) (bytes : List ℕ) (end : Bool) (n : ℕ) (old now : B) : Type 0 where
  pub walk : Walk means through old (map Went (take n (ended Put end bytes))) now
  pub asks : (means now).asks ≡ (means old).asks + n
  pub within : n ≤ length bytes

-- the get that didn't go
abbrev pub refused_get : Stop → List Step
refused_get stop.Held = Held ask.Get ∷ []
refused_get stop.Failed = Failed ask.Get ∷ []
refused_get _ = []

abbrev pub is_end : Stop → Bool
is_end stop.End = true
is_end _ = false

-- A burst of gets that got these bytes: the gets that went, in order, none with END but the last where it stopped there,
-- and then the one that was held, or failed.
abbrev pub gets_steps : List ℕ → Stop → List Step
gets_steps bytes why = map Went (ended Got (is_end why) bytes) ++ refused_get why

-- a byte is the stop byte
abbrev pub is_char : Option ℕ → ℕ → Bool
is_char None b = false
is_char (Some c) b = b == c

-- the stop byte is none of these
abbrev pub IsClear : Option ℕ → List ℕ → Type 0
IsClear char bytes = list_any (is_char char) bytes ≡ false

-- Why a burst of gets into so much room stopped behind these bytes, none of which before the last is the stop byte: the
-- last one has END, or it is the stop byte, or the room is full; or the next get didn't go, with room left.
abbrev pub StopsAt : Option ℕ → ℕ → List ℕ → Stop → Type 0
StopsAt char room bytes stop.End = (front : List ℕ) × (last : ℕ) × (bytes ≡ front ++ last ∷ []) × IsClear char front
StopsAt char room bytes stop.Char = (front : List ℕ) × (last : ℕ) × (bytes ≡ front ++ last ∷ []) × IsClear char front × (is_char char last ≡ true)
StopsAt char room bytes stop.Full = (length bytes ≡ room) × IsClear char bytes
StopsAt char room bytes _ = (length bytes < room) × IsClear char bytes
