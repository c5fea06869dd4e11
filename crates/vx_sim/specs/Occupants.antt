-- To be believed.
-- What stands at a place of the bench, and how it changes.
use Rattle.std.specs.Prelude.{◌≡◌, ℕ, Bool, true, false, List, [], ◌∷◌, ◌++◌}
use Rattle.vx_488.specs.Heard.{Byte}
use Rattle.vx_inst.specs.View.{View}
use Rattle.vx_inst.specs.declared.done.Done.{Done}
use Rattle.vx_inst.specs.declared.done.Done.TheVariants.{Took, Gave, Polled, Cleared, Triggered, ToLocal, StatusSet, Told}
use Rattle.vx_inst.specs.Behavior.{Behavior}
use Rattle.vx_inst.specs.Laws.{takes_byte, gives_byte, IsInstSound, InstTakes, InstGives, status_byte, IsInstPolled, IsCleared, IsTriggered, IsInstTold, with_status}
use Rattle.vx_table.specs.Table.{TableState, table_rule}
use Rattle.vx_488.specs.declared.transfers.Addr.{Addr}
use Rattle.vx_488.specs.declared.transfers.Transfer.{Transfer}
use Rattle.vx_488.specs.declared.transfers.Transfer.TheVariants.{Put, Got}
use Rattle.vx_488.specs.declared.asks.Ask.TheVariants as ask
use Rattle.vx_488.specs.Steps.{Step, Went, Held}
use Rattle.vx_sim.specs.declared.signals.Signal.{Signal}
use Rattle.vx_sim.specs.declared.signals.Signal.TheVariants as signal

-- an instrument that is no table: how it was seen and what else it was as it was handed in; the calls that it had since, in order;
-- and how it is seen
pub record Seated : Type 0 where
  pub origin : View
  pub nature : List ℕ
  pub calls : List Done
  pub shown : View

-- one that is handed in
abbrev pub handed_in : {I : Type 0} → (I → Behavior) → (I → List ℕ) → I → Seated
handed_in behaves nature inst = record { origin = behaves inst []; nature = nature inst; calls = []; shown = behaves inst [] }

-- Such an instrument was handed in, and it is seen as that one behaves after just these calls.
abbrev pub IsKnown : {I : Type 0} → (I → Behavior) → (I → List ℕ) → Seated → Type 0
IsKnown {I} behaves nature s = (inst : I) × (s.origin ≡ behaves inst []) × (s.nature ≡ nature inst) × (s.shown ≡ behaves inst s.calls)

-- a table instrument, which is known by its rules, or any other
pub data Occupant : Type 0 where
  Table : TableState → Occupant
  Boxed : Seated → Occupant

-- an instrument at its address
pub record Placed : Type 0 where
  pub at : Addr
  pub occupant : Occupant

-- how it is seen from the bus
abbrev pub seen : Occupant → View
seen (Table t) = t.seen
seen (Boxed s) = s.shown

-- It had just this call more, and what is seen of it then is sound, and such as the call's law allows.
abbrev pub HasCall : Done → (View → View → Type 0) → Seated → Seated → Type 0
HasCall done Law old new = (new ≡ record old { calls = old.calls ++ done ∷ []; shown = new.shown }) × Law old.shown new.shown × IsInstSound new.shown

-- How one call changes it: a table instrument is what its rules make of it, and any other had the call.
abbrev pub Becomes : Done → (View → View → Type 0) → Occupant → Occupant → Type 0
Becomes done Law (Table t) (Table u) = u ≡ table_rule t done
Becomes done Law (Boxed s) (Boxed u) = HasCall done Law s u
Becomes done Law (Table t) (Boxed u) = ⊥
Becomes done Law (Boxed s) (Table u) = ⊥

-- it takes a byte
abbrev pub TakesByte : ℕ → Bool → Occupant → Occupant → Type 0
TakesByte b end old new = Becomes (Took b end) (λ v w. InstTakes v b end w) old new

-- it takes the bytes of these puts, one after the other, each when it can take one
abbrev pub TakesPuts : List Transfer → Occupant → Occupant → Type 0
TakesPuts [] old new = new ≡ old
TakesPuts (Put b end ∷ puts) old new = (takes_byte (seen old) ≡ true) × ((next : Occupant) × TakesByte b end old next × TakesPuts puts next new)
TakesPuts (_ ∷ puts) old new = ⊥

-- how each signal changes it
abbrev pub Receives : Signal → Occupant → Occupant → Type 0
Receives signal.Clear old new = Becomes Cleared IsCleared old new
Receives signal.Trigger old new = Becomes Triggered IsTriggered old new
Receives signal.Local old new = Becomes ToLocal (λ v w. w ≡ v) old new
Receives (signal.Moment now) old new = Becomes (Told now) IsInstTold old new
Receives (signal.Status b) old new = Becomes (StatusSet b) (λ v w. w ≡ with_status v b) old new

-- It gives the front of what it has to give.
abbrev pub GivesByte : Byte → Occupant → Occupant → Type 0
GivesByte byte old new = InstGives (seen old) byte (seen new) × Becomes Gave (λ v w. InstGives v byte w) old new

-- It gives a byte for each get that goes, and has none where a get is held.
abbrev pub GivesBy : Occupant → Step → Occupant → Type 0
GivesBy old (Went (Got b end)) new = (gives_byte (seen old) ≡ true) × GivesByte (record { value = b; end = end }) old new
GivesBy old (Held ask.Get) new = (gives_byte (seen old) ≡ false) × (new ≡ old)
GivesBy old _ new = ⊥

-- It gives its status byte, without END.
abbrev pub GivesStatus : Byte → Occupant → Occupant → Type 0
GivesStatus byte old new = (byte ≡ record { value = status_byte (seen old); end = false }) × Becomes Polled IsInstPolled old new
