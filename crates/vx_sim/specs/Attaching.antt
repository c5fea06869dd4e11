-- To be believed.
-- Which addresses an instrument can be attached at, and what comes of it.
use Rattle.std.specs.Prelude.{◌≡◌, ℕ, ◌==◌, nat_le, Bool, false, ◌&&◌, ◌||◌, not, is_none, if◌then◌else◌, List, [], ◌∷◌, ◌++◌, length, filter, find, map, Option, None, Some}
use Rattle.std.specs.List.{list_any}
use Rattle.vx_488.specs.declared.transfers.Addr.{Addr}
use Rattle.vx_488.specs.Address.{is_bus_address, same_secondary}
use Rattle.vx_sim.specs.declared.TheConstants.{PLACES_MAX}
use Rattle.vx_sim.specs.declared.signals.Signal.TheVariants as signal
use Rattle.vx_sim.specs.declared.attach.Attach.{Attach}
use Rattle.vx_sim.specs.declared.attach.Attach.TheVariants.{OwnAddress, Taken, Full}
use Rattle.vx_inst.specs.Behavior.{Behavior}
use Rattle.vx_sim.specs.Occupants.{Occupant, Table, Boxed, Placed, IsKnown, Receives}
use Rattle.vx_sim.specs.Bench.{stands_at, BenchWhere}
use Rattle.vx_sim.specs.SimState.{SimState}

-- two instruments can't stand at these: they are one address, or at one primary where one of the two has no secondary
abbrev pub clashes : Addr → Addr → Bool
clashes a b = (a.p == b.p) && (is_none a.s || is_none b.s || same_secondary a.s b.s)

-- no two instruments are in each other's way
abbrev pub AreApart : List Placed → Type 0
AreApart [] = Unit {0}
AreApart (p ∷ ps) = (list_any (λ q. clashes p.at q.at) ps ≡ false) × AreApart ps

-- it stands at no address of a bus
abbrev pub is_astray : Placed → Bool
is_astray p = not (is_bus_address p.at)

-- what holds of the instruments of a bus at every moment: no two are in each other's way, and each stands at an address of a bus
abbrev pub IsInOrder : List Placed → Type 0
IsInOrder bench = AreApart bench × (list_any is_astray bench ≡ false)

-- each instrument that is no table is known
abbrev pub IsKnownOccupant : {I : Type 0} → (I → Behavior) → (I → List ℕ) → Occupant → Type 0
IsKnownOccupant behaves nature (Table t) = Unit {0}
IsKnownOccupant behaves nature (Boxed s) = IsKnown behaves nature s

abbrev pub AreKnown : {I : Type 0} → (I → Behavior) → (I → List ℕ) → List Placed → Type 0
AreKnown behaves nature [] = Unit {0}
AreKnown behaves nature (p ∷ ps) = IsKnownOccupant behaves nature p.occupant × AreKnown behaves nature ps

-- the first instrument that is in the way of one at this address
abbrev pub holder : List Placed → Addr → Option Addr
holder bench a = find (λ h. clashes h a) (map (λ p. p.at) bench)

abbrev pub taken_or_full : Option Addr → ℕ → Option Attach
taken_or_full (Some h) count = Some (Taken h)
taken_or_full None count = if nat_le PLACES_MAX count then Some Full else None

-- why an instrument can't be attached at this address, where it can't
abbrev pub refusal : SimState → Addr → Option Attach
refusal s a = if a.p == s.means.wire.own then Some OwnAddress else taken_or_full (holder s.bench a) (length s.bench)

-- an instrument was attached: it stands at the end of the bench, and was told the last moment
abbrev pub IsAttached : Addr → Occupant → SimState → SimState → Type 0
IsAttached a inst old new =
    (told : Occupant)
    × Receives (signal.Moment old.told) inst told
    × (new ≡ record old { bench = old.bench ++ (record { at = a; occupant = told }) ∷ [] })

-- the bus without the instrument at this address
abbrev pub without_place : Addr → SimState → SimState
without_place a s = record s { bench = filter (λ p. not (stands_at a p)) s.bench }

-- the instrument at this address had its status byte set
abbrev pub IsSet : Addr → ℕ → SimState → SimState → Type 0
IsSet a b old new =
    BenchWhere (stands_at a) (Receives (signal.Status b)) old.bench new.bench
    × (new ≡ record old { bench = new.bench })
