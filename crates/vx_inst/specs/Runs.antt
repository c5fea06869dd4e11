-- Runs of bytes, which an instrument takes or gives one after the other.
use Rattle.std.specs.Prelude.{◌≡◌, ℕ, zero, suc, Bool, true, false, List, [], ◌∷◌}
use Rattle.vx_488.specs.declared.transfers.Transfer.{Transfer}
use Rattle.vx_488.specs.declared.transfers.Transfer.TheVariants.{Put, Got}
use Rattle.vx_488.specs.declared.asks.Ask.TheVariants as ask
use Rattle.vx_488.specs.Steps.{Step, Went, Held}
use Rattle.vx_inst.specs.declared.done.Done.{Done}
use Rattle.vx_inst.specs.declared.done.Done.TheVariants.{Took, Gave}
use Rattle.vx_inst.specs.Behavior.{Behavior, seen, after}
use Rattle.vx_inst.specs.Laws.{takes_byte, gives_byte, IsInstSound, InstTakes, InstGives}

-- It takes a byte, which it can take, as every instrument does, and behaves as it does after just this call.
abbrev pub TakesNext : ℕ → Bool → Behavior → Behavior → Type 0
TakesNext b end old new = (takes_byte (seen old) ≡ true) × InstTakes (seen old) b end (seen new) × (new ≡ after (Took b end) old) × IsInstSound (seen new)

-- It takes the bytes of these puts, one after the other.
abbrev pub TakesRun : List Transfer → Behavior → Behavior → Type 0
TakesRun [] old new = new ≡ old
TakesRun (Put b end ∷ puts) old new = (next : Behavior) × TakesNext b end old next × TakesRun puts next new
TakesRun (_ ∷ puts) old new = ⊥

-- It gives a byte for each get that goes, and has none where a get is held.
abbrev pub GivesNext : Behavior → Step → Behavior → Type 0
GivesNext old (Went (Got b end)) new =
    (gives_byte (seen old) ≡ true) × InstGives (seen old) (record { value = b; end = end }) (seen new) × (new ≡ after Gave old) × IsInstSound (seen new)
GivesNext old (Held ask.Get) new = (gives_byte (seen old) ≡ false) × (new ≡ old)
GivesNext old _ new = ⊥

-- the calls that a run of puts is
abbrev pub takings : List Transfer → List Done
takings [] = []
takings (Put b end ∷ puts) = Took b end ∷ takings puts
takings (_ ∷ puts) = takings puts

-- the calls that so many bytes are that are given
abbrev pub gave : ℕ → List Done
gave zero = []
gave (suc n) = Gave ∷ gave n
