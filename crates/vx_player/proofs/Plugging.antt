-- The `plug` commands of a run's head: each is refused only where the rack has no spare of its name.
use Rattle.std.proofs.Common.{◌≡◌, ◌==◌, ◌≤◌, ◌+◌, ℕ, zero, suc, Bool, false, cond, List, [], ◌∷◌, ◌++◌, length, map, take, drop, find, position, get_or, nat_le, Option, Some, None, refl, sym, ap, ◌∙◌, subst, arith}
use Rattle.std.proofs.lemmas.Bool.{cond-false}
use Rattle.std.proofs.lemmas.Bool.Decides.{nat_tests}
use Rattle.std.proofs.lemmas.List.{map-append}
use Rattle.std.proofs.lemmas.List.Quantifiers.{position-Some}
use Rattle.std.proofs.lemmas.Option.{none-some, same_Some}
use Rattle.std.specs.Str.{bytes_eq}
use Rattle.vx_lemmas.proofs.Laws.Conditions.{same_bytes}
use Rattle.vx_488.specs.declared.transfers.Addr.{Addr}
use Rattle.vx_488.specs.declared.wire.Wire.{Wire}
use Rattle.vx_488.specs.Wire.{first_wire}
use Rattle.vx_488.specs.Steps.{Cut}
use Rattle.vx_script.specs.declared.Cause.{Cause}
use Rattle.vx_script.specs.declared.Cause.TheVariants as cause
use Rattle.vx_script.specs.Command.{Plug}
use Rattle.vx_sim.specs.declared.TheConstants.{PLACES_MAX}
use Rattle.vx_sim.specs.declared.attach.Attach.TheVariants.{OwnAddress, Full}
use Rattle.vx_sim.specs.Occupants.{Placed}
use Rattle.vx_sim.specs.SimState.{SimState}
use Rattle.vx_sim.specs.Attaching.{clashes, taken_or_full, IsAttached}
use Rattle.vx_sim.specs.Attaching as attaching
use Rattle.vx_setup.specs.Rack.{SpareShown, spare_at, without_at, without_spare}
use Rattle.vx_setup.specs.Refusing.{address, cause_of, spare_refused}
use Rattle.vx_setup.specs.Attaches.{AttachesSpare}
use Rattle.vx_flow.specs.InterleavedState.{first_interleaved}
use Rattle.vx_player.specs.Gateway.{BusGoes, abort_port}
use Rattle.vx_run.specs.Item.{Item}
use Rattle.vx_player.specs.Stage.{Stage, refusal}
use Rattle.vx_player.specs.Making.{Tweaks, Makes}
use Rattle.vx_player.specs.Play.{PlayerTakes, stream_after, rack_after}
use Rattle.vx_player.proofs.Tweaked.{cut-same}

-- ---- the bus

-- instruments stand at these addresses, in order, on a bus that is as it began
pub record HasPlaces (places : List Addr) (bus : SimState) : Type 0 where
  pub wire : bus.means.wire ≡ first_wire
  pub at : map (λ (p : Placed). p.at) bus.bench ≡ places

-- a list that is seen otherwise is as long
length-map : {X Y : Type 0} (f : X → Y) (xs : List X) → length (map f xs) ≡ length xs
length-map f [] = refl
length-map f (x ∷ xs) = ap suc (length-map f xs)

-- an address that is neither the own one nor in the way of another is free, where there are few
place-free : (places : List Addr) (bus : SimState) (a : Addr) → HasPlaces places bus → (a.p == first_wire.own) ≡ false → find (λ h. clashes h a) places ≡ None
    → length places ≤ 20 → attaching.refusal bus a ≡ None
place-free places bus a h other free few =
    let same : length bus.bench ≡ length places = sym (length-map (λ (p : Placed). p.at) bus.bench) ∙ ap length h.at in
    let room : nat_le PLACES_MAX (length bus.bench) ≡ false = grind (arith, nat_tests) in
    cond-false (a.p == bus.means.wire.own) (Some OwnAddress) _ (ap (λ (w : Wire). a.p == w.own) h.wire ∙ other)
    ∙ ap (λ o. taken_or_full o (length bus.bench)) (ap (λ ps. find (λ h. clashes h a) ps) h.at ∙ free)
    ∙ cond-false (nat_le PLACES_MAX (length bus.bench)) (Some Full) None room

-- an instrument more
place-more : (places : List Addr) (bus cut after : SimState) (a : Addr) (spare : Option SpareShown) → HasPlaces places bus → BusGoes bus (Cut ∷ []) cut
    → AttachesSpare a spare cut after → HasPlaces (places ++ a ∷ []) after
place-more places bus cut after a None h went attached = absurd attached
place-more places bus cut after a (Some spare) h went (told, received, is) =
    let same = cut-same bus cut went in
    record {
      wire = ap (λ (s : SimState). s.means.wire) is ∙ same.wire ∙ h.wire;
      at = ap (λ (s : SimState). map (λ (p : Placed). p.at) s.bench) is ∙ map-append (λ (p : Placed). p.at) cut.bench (record { at = a; occupant = told } ∷ [])
          ∙ ap (λ ps. ps ++ a ∷ []) (ap (λ b. map (λ (p : Placed). p.at) b) same.bench ∙ h.at);
    }

-- ---- the rack

-- what is found in a list is found without an item of it that doesn't pass
find-skip : {X : Type 0} (q : X → Bool) (xs : List X) (i : ℕ) → ((d : X) → q (get_or xs i d) ≡ false) → find q (take i xs ++ drop (i + 1) xs) ≡ find q xs
find-skip q [] zero h = refl
find-skip {X} q [] (suc i) h = ap (find q) (none (suc i + 1)) where
  none : (n : ℕ) → drop {A = X} n [] ≡ []
  none zero = refl
  none (suc n) = refl
find-skip q (x ∷ xs) zero h = sym (cond-false (q x) (Some x) (find q xs) (h x))
find-skip q (x ∷ xs) (suc i) h =
    let more : suc i + 1 ≡ suc (i + 1) = omega arith in
    ap (λ n. find q (x ∷ (take i xs ++ drop n (x ∷ xs)))) more ∙ ap (λ o. cond (q x) (Some x) o) (find-skip q xs i h)

-- without the first spare of one name each spare of another is there as before
spare-apart : (rack : List SpareShown) (gone name : List ℕ) → bytes_eq gone name ≡ false → spare_at (without_spare rack gone) name ≡ spare_at rack name
spare-apart rack gone name apart = by (position (λ spare. bytes_eq spare.name gone) rack) refl where
  by : (o : Option ℕ) → position (λ (spare : SpareShown). bytes_eq spare.name gone) rack ≡ o → spare_at (without_at rack o) name ≡ spare_at rack name
  by None is = refl
  by (Some i) is =
      find-skip (λ spare. bytes_eq spare.name name) rack i
      (λ d. ap (λ n. bytes_eq n name) (same_bytes (get_or rack i d).name gone (position-Some (λ (spare : SpareShown). bytes_eq spare.name gone) rack i d is).1) ∙ apart)

-- ---- the stage

-- Behind some `plug` commands: the gateway is as it began, instruments stand at these addresses, and the rack has each spare of a name that
-- is left as it had it first.
pub record IsPlugged (rack : List SpareShown) (places : List Addr) (IsLeft : List ℕ → Type 0) (s : Stage) : Type 0 where
  pub interleaved : s.gateway.interleaved ≡ first_interleaved abort_port
  pub streams : (conn : ℕ) → s.streams conn ≡ []
  pub bus : HasPlaces places s.gateway.bus
  pub spares : (name : List ℕ) → IsLeft name → spare_at s.rack name ≡ spare_at rack name

-- a command of the head plugs a spare in at a free address
pub record IsFree (places : List Addr) (p : ℕ) : Type 0 where
  pub other : (p == first_wire.own) ≡ false
  pub free : find (λ h. clashes h (address p None)) places ≡ None
  pub few : length places ≤ 20

-- it is refused only where the spare isn't there
pub plug-refused : (rack : List SpareShown) (places : List Addr) (IsLeft : List ℕ → Type 0) (s : Stage) (p : ℕ) (name : List ℕ) (why : Cause)
    → IsPlugged rack places IsLeft s → IsFree places p → IsLeft name → refusal s (Plug p None name) ≡ Some why → (spare_at rack name ≡ None) × (why ≡ cause.Spare)
plug-refused rack places IsLeft s p name why plugged free left h = by (spare_at s.rack name) refl h where
  by : (o : Option SpareShown) → spare_at s.rack name ≡ o → spare_refused s.gateway.bus (address p None) o ≡ Some why → (spare_at rack name ≡ None) × (why ≡ cause.Spare)
  by None is h = (sym (plugged.spares name left) ∙ is, sym (same_Some cause.Spare why h))
  by (Some spare) is h =
      absurd (none-some why (sym (ap cause_of (place-free places s.gateway.bus (address p None) plugged.bus free.other free.free free.few)) ∙ h))

-- and leaves this
pub plug-leads : (rack : List SpareShown) (places : List Addr) (IsLeft Later : List ℕ → Type 0) (s t : Stage) (item : Item) (p : ℕ) (name : List ℕ)
    → IsPlugged rack places IsLeft s → item.command ≡ Plug p None name → PlayerTakes s item t → ((other : List ℕ) → Later other → IsLeft other × (bytes_eq name other ≡ false))
    → IsPlugged rack (places ++ address p None ∷ []) Later t
plug-leads rack places IsLeft Later s t item p name plugged is takes fewer =
    let made : Tweaks s.gateway (AttachesSpare (address p None) (spare_at s.rack name)) item.group item.note t.gateway =
    subst (λ c. Makes s c item.group item.note t.gateway) is takes.makes in
    record {
      interleaved = made.interleaved ∙ plugged.interleaved;
      streams = λ conn. takes.streams conn ∙ ap (λ c. stream_after s c conn) is ∙ plugged.streams conn;
      bus = place-more places s.gateway.bus made.cut t.gateway.bus (address p None) (spare_at s.rack name) plugged.bus made.bus made.change;
      spares = λ other later.
          let left = fewer other later in
          ap (λ r. spare_at r other) (takes.rack ∙ ap (rack_after s.rack) is) ∙ spare-apart s.rack name other left.1 ∙ plugged.spares other left.0;
    }
