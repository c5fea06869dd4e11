-- Whole lists of a plan in words of whole lists: what does the job, and what is a part of it.
use Rattle.std.specs.Prelude.{◌≡◌, ◌≢◌, ℕ, ◌+◌, false, ⊤, List, [], ◌∷◌, ◌++◌, map, length, slice_get, Option, Some, None}
use Rattle.vx_488.specs.declared.transfers.Transfer.{Transfer}
use Rattle.vx_488.specs.declared.transfers.Transfer.TheVariants.{Got}
pub use Rattle.vx_488.specs.Heard.{Byte}
use Rattle.vx_plan.specs.Plan.{Slot, This, AnyByte, Reading, Plan, is_stop}

-- a byte that was got, as a transfer
abbrev pub got : Byte → Transfer
got b = Got b.value b.end

abbrev pub Fits : Slot → Transfer → Type 0
Fits (This a) t = t ≡ a
Fits AnyByte t = (b : Byte) × (t ≡ got b)

-- one transfer for each slot, in order
abbrev pub Fill : List Slot → List Transfer → Type 0
Fill [] [] = ⊤
Fill (slot ∷ slots) (t ∷ ts) = Fits slot t × Fill slots ts
Fill _ _ = ⊥

-- the read may go on after its n-th byte: no END, not the stop byte, and fewer than the most bytes
pub record GoesOn (r : Reading) (n : ℕ) (b : Byte) : Type 0 where
  pub no_end : b.end ≡ false
  pub no_stop : is_stop r.stop b.value ≡ false
  pub not_last : n ≢ r.most

-- bytes of which the last, and no earlier one, meets a stop rule
pub record EndsRead (r : Reading) (before : List Byte) (last : Byte) : Type 0 where
  pub earlier : (k : ℕ) (b : Byte) → slice_get before k ≡ Some b → GoesOn r (k + 1) b
  pub ends : GoesOn r (length before + 1) last → ⊥

abbrev pub ReadsWhole : Option Reading → List Transfer → Type 0
ReadsWhole None ts = ts ≡ []
ReadsWhole (Some r) ts = (before : List Byte) × (last : Byte) × (ts ≡ map got before ++ got last ∷ []) × EndsRead r before last

-- a list that does the whole job: one transfer for each slot in front, and then a whole read, where there is one
abbrev pub IsWhole : Plan → List Transfer → Type 0
IsWhole p ts = (front rest : List Transfer) × (ts ≡ front ++ rest) × Fill p.front front × ReadsWhole p.reading rest

-- a proper front of a list that does the whole job
abbrev pub IsPart : Plan → List Transfer → Type 0
IsPart p ts = (more : List Transfer) × (more ≢ []) × IsWhole p (ts ++ more)
