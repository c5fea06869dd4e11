-- To be believed.
-- The bench: the instruments on a bus, each at its address, in the order in which they were attached.
use Rattle.std.specs.Prelude.{◌≡◌, Bool, true, false, not, ◌&&◌, ◌||◌, List}
use Rattle.std.specs.List.{list_any, AllZip}
use Rattle.vx_488.specs.declared.transfers.Addr.{Addr}
use Rattle.vx_488.specs.declared.transfers.Transfer.{Transfer}
use Rattle.vx_488.specs.declared.transfers.Transfer.TheVariants.{Cmd, Put, Got, Ren}
use Rattle.vx_488.specs.declared.wire.Wire.{Wire}
use Rattle.vx_488.specs.declared.commands.Command.{Command}
use Rattle.vx_488.specs.declared.commands.Command.TheVariants as command
use Rattle.vx_488.specs.Address.{same_address}
use Rattle.vx_488.specs.Command.{command_of}
use Rattle.vx_488.specs.Heard.{Byte}
use Rattle.vx_488.specs.Listening.{has_address}
use Rattle.vx_488.specs.Wire.{is_talking}
use Rattle.vx_488.specs.Steps.{Step, Path}
use Rattle.vx_inst.specs.Laws.{takes_byte, gives_byte}
use Rattle.vx_sim.specs.declared.signals.Signal.TheVariants as signal
use Rattle.vx_sim.specs.Occupants.{Occupant, Placed, seen, TakesByte, TakesPuts, Receives, GivesBy, GivesByte, GivesStatus}

-- whom a transfer reaches: the listeners, the talker, the instrument at an address, every instrument
abbrev pub listens : Wire → Placed → Bool
listens w p = has_address w.listeners p.at

abbrev pub talks : Wire → Placed → Bool
talks w p = is_talking w.talker p.at

abbrev pub stands_at : Addr → Placed → Bool
stands_at a p = same_address p.at a

abbrev pub everyone : Placed → Bool
everyone p = true

-- a occupant that is reached changes so, and one that isn't stays
abbrev pub OccupantWhere : Bool → (Occupant → Occupant → Type 0) → Occupant → Occupant → Type 0
OccupantWhere true Change old new = Change old new
OccupantWhere false Change old new = new ≡ old

abbrev pub PlaceWhere : (Placed → Bool) → (Occupant → Occupant → Type 0) → Placed → Placed → Type 0
PlaceWhere reached Change p q = (q.at ≡ p.at) × OccupantWhere (reached p) Change p.occupant q.occupant

-- the instruments that are reached change so, each at its place, and the others stay
abbrev pub BenchWhere : (Placed → Bool) → (Occupant → Occupant → Type 0) → List Placed → List Placed → Type 0
BenchWhere reached Change old new = AllZip (PlaceWhere reached Change) old new

-- SDC clears the listeners, GET triggers them, GTL sends them to local, and DCL clears every instrument (IEEE 488.1, 2.8
-- to 2.11).
abbrev pub BenchAfterCommand : Wire → Command → List Placed → List Placed → Type 0
BenchAfterCommand w command.SelectedClear old new = BenchWhere (listens w) (Receives signal.Clear) old new
BenchAfterCommand w command.Trigger old new = BenchWhere (listens w) (Receives signal.Trigger) old new
BenchAfterCommand w command.GoToLocal old new = BenchWhere (listens w) (Receives signal.Local) old new
BenchAfterCommand w command.DeviceClear old new = BenchWhere everyone (Receives signal.Clear) old new
BenchAfterCommand w _ old new = new ≡ old

-- REN that goes off sends every instrument to local.
abbrev pub BenchAfterRemote : Bool → List Placed → List Placed → Type 0
BenchAfterRemote true old new = new ≡ old
BenchAfterRemote false old new = BenchWhere everyone (Receives signal.Local) old new

-- The talker gives a byte: in serial poll mode its status byte (IEEE 488.1, 2.5).
abbrev pub TalkerGives : Bool → Byte → Occupant → Occupant → Type 0
TalkerGives true byte old new = GivesStatus byte old new
TalkerGives false byte old new = GivesByte byte old new

-- how the bench changes by a transfer, on a bus that stood so before it
abbrev pub BenchAfter : Wire → Transfer → List Placed → List Placed → Type 0
BenchAfter w (Cmd b) old new = BenchAfterCommand w (command_of b) old new
BenchAfter w (Put b end) old new = BenchWhere (listens w) (TakesByte b end) old new
BenchAfter w (Got b end) old new = BenchWhere (talks w) (TalkerGives w.polling (record { value = b; end = end })) old new
BenchAfter w (Ren on) old new = BenchAfterRemote on old new
BenchAfter w _ old new = new ≡ old

-- it is a listener that can't take a byte
abbrev pub refuses : Wire → Placed → Bool
refuses w p = listens w p && not (takes_byte (seen p.occupant))

-- some listener can't take a byte
abbrev pub some_refuses : Wire → List Placed → Bool
some_refuses w bench = list_any (refuses w) bench

-- nobody hears a byte that is put, or some listener can't take it
abbrev pub holds_put : Wire → List Placed → Bool
holds_put w bench = not (list_any (listens w) bench) || some_refuses w bench

-- an instrument at its place takes the bytes of these puts
abbrev pub PlaceTakes : List Transfer → Placed → Placed → Type 0
PlaceTakes puts p q = (q.at ≡ p.at) × TakesPuts puts p.occupant q.occupant

-- and gives bytes by these steps
abbrev pub PlaceGives : List Step → Placed → Placed → Type 0
PlaceGives steps p q = (q.at ≡ p.at) × Path GivesBy p.occupant steps q.occupant

-- it can answer a get where it is the talker: in serial poll mode it always can
abbrev pub can_answer : Wire → Placed → Bool
can_answer w p = w.polling || gives_byte (seen p.occupant)

-- the talker can answer a get
abbrev pub answers_get : Wire → Placed → Bool
answers_get w p = talks w p && can_answer w p

-- no instrument is the talker, or it has no byte to give
abbrev pub holds_get : Wire → List Placed → Bool
holds_get w bench = not (list_any (answers_get w) bench)

-- it asks for service
abbrev pub asks : Placed → Bool
asks p = (seen p.occupant).rqs

-- some instrument asks for service
abbrev pub some_asks : List Placed → Bool
some_asks bench = list_any asks bench
