-- To be believed.
-- What calls of a link do to the bytes that it stands for: `stands l taken given` says that the link stands for these bytes
-- taken and these bytes given, each from its beginning on.
use Rattle.std.specs.Prelude.{ℕ, List, ◌++◌}

-- it gave these bytes
abbrev pub Gives : {L : Type 0} → (L → List ℕ → List ℕ → Type 0) → L → L → List ℕ → Type 0
Gives stands old new bytes = (taken given : List ℕ) → stands old taken given → stands new taken (given ++ bytes)

-- it took these bytes
abbrev pub Takes : {L : Type 0} → (L → List ℕ → List ℕ → Type 0) → L → L → List ℕ → Type 0
Takes stands old new bytes = (taken given : List ℕ) → stands old taken given → stands new (taken ++ bytes) given

-- it took and gave nothing
abbrev pub Stays : {L : Type 0} → (L → List ℕ → List ℕ → Type 0) → L → L → Type 0
Stays stands old new = (taken given : List ℕ) → stands old taken given → stands new taken given

-- over several calls it took these bytes and gave those
abbrev pub Goes : {L : Type 0} → (L → List ℕ → List ℕ → Type 0) → L → L → List ℕ → List ℕ → Type 0
Goes stands old new sent got = (taken given : List ℕ) → stands old taken given → stands new (taken ++ sent) (given ++ got)
