-- To be believed.
-- What an instrument hears is what it takes.
use Rattle.std.specs.Prelude.{◌≡◌, Bool, true, false, List, [], ◌∷◌}
use Rattle.std.specs.List.{list_all, AllZip}
use Rattle.vx_488.specs.declared.transfers.Transfer.{Transfer}
use Rattle.vx_488.specs.declared.transfers.Transfer.TheVariants.{Cmd, Got, Ren}
use Rattle.vx_488.specs.declared.commands.Command.{Command}
use Rattle.vx_488.specs.declared.commands.Command.TheVariants as command
use Rattle.vx_488.specs.Command.{command_of}
use Rattle.vx_488.specs.Heard.{Byte, heard}
use Rattle.vx_488.specs.Steps.{Step, Went, Told}
use Rattle.vx_488.specs.Walks.{Walk}
use Rattle.vx_sim.specs.Occupants.{Occupant, TakesByte}
use Rattle.vx_sim.specs.SimState.{SimState, Through}

-- the transfers among steps
abbrev pub transfers : List Step → List Transfer
transfers [] = []
transfers (Went t ∷ steps) = t ∷ transfers steps
transfers (_ ∷ steps) = transfers steps

-- a command that no instrument obeys: addresses, and all but SDC, GET, GTL and DCL
abbrev pub is_quiet : Command → Bool
is_quiet command.SelectedClear = false
is_quiet command.Trigger = false
is_quiet command.GoToLocal = false
is_quiet command.DeviceClear = false
is_quiet _ = true

-- a step that changes instruments at most by a byte that is put
abbrev pub only_puts : Step → Bool
only_puts (Went (Cmd b)) = is_quiet (command_of b)
only_puts (Went (Got b end)) = false
only_puts (Went (Ren on)) = on
only_puts (Told now) = false
only_puts _ = true

-- it takes these bytes, one after the other, and changes by nothing else
abbrev pub TakesAll : List Byte → Occupant → Occupant → Type 0
TakesAll [] old new = new ≡ old
TakesAll (b ∷ bs) old new = (next : Occupant) × TakesByte b.value b.end old next × TakesAll bs next new

-- On a bus that goes through such steps each instrument takes, in order, the bytes that its address hears of the
-- transfers, and no others; one that isn't addressed takes none.
abbrev pub HeardLaw : Type 0
HeardLaw =
    (old new : SimState) (steps : List Step) → list_all only_puts steps ≡ true → Walk (λ s. s.means) Through old steps new
    → AllZip (λ p q. (q.at ≡ p.at) × TakesAll (heard p.at old.means.wire (transfers steps)) p.occupant q.occupant) old.bench new.bench
