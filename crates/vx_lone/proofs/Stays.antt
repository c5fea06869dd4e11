-- What stands alone on a bus stands alone behind each step.
use Rattle.std.proofs.Common.{◌≡◌, inl, inr, ℕ, nat_lt, Bool, true, false, List, [], ◌∷◌, refl, sym, ap, ◌∙◌, subst}
use Rattle.vx_488.specs.declared.transfers.Transfer.{Transfer}
use Rattle.vx_488.specs.declared.transfers.Transfer.TheVariants.{Cmd, Put, Got, Ren, Atn, Ifc, Own}
use Rattle.vx_488.specs.declared.wire.Wire.{Wire}
use Rattle.vx_488.specs.declared.commands.Command.{Command}
use Rattle.vx_488.specs.declared.commands.Command.TheVariants as command
use Rattle.vx_488.specs.Command.{command_of}
use Rattle.vx_488.specs.Steps.{Step, Went, Held, Failed, Told, Cut}
use Rattle.vx_488.specs.Walks.{Walk}
use Rattle.vx_inst.specs.View.{View}
use Rattle.vx_inst.specs.declared.done.Done.{Done}
use Rattle.vx_inst.specs.declared.done.Done.TheVariants as done
use Rattle.vx_inst.specs.Laws.{InstTakes, InstGives, IsInstPolled, IsCleared, IsTriggered, IsInstTold, with_status}
use Rattle.vx_sim.specs.declared.signals.Signal.{Signal}
use Rattle.vx_sim.specs.declared.signals.Signal.TheVariants as signal
use Rattle.vx_sim.specs.Bench.{OccupantWhere, BenchWhere, BenchAfter, BenchAfterCommand, TalkerGives, listens, talks, everyone}
use Rattle.vx_sim.specs.Occupants.{Occupant, Table, Boxed, Placed, Seated, Becomes, Receives, TakesByte}
use Rattle.vx_sim.specs.SimState.{SimState, Through, BenchAtMoment}
use Rattle.vx_sim.specs.Attaching.{IsAttached}
use Rattle.vx_sim.specs.SimState.{first_state}
use Rattle.vx_lone.specs.Lone.{place, IsOneOf, StandsAlone, IsLoneStep}

-- an occupant that was handed in as this one
record IsThat (s : Seated) (o : Occupant) : Type 0 where
  pub inst : Seated
  pub is : o ≡ Boxed inst
  pub origin : inst.origin ≡ s.origin
  pub nature : inst.nature ≡ s.nature

-- who is one of a rack is so however it is seen later
same-one : (rack : List Seated) (s t : Seated) → IsOneOf rack s → t.origin ≡ s.origin → t.nature ≡ s.nature → IsOneOf rack t
same-one [] s t h origin nature = absurd h
same-one (one ∷ more) s t (inl h) origin nature = inl (origin ∙ h.0, nature ∙ h.1)
same-one (one ∷ more) s t (inr h) origin nature = inr (same-one more s t h origin nature)

-- a call changes neither
becomes-that : (call : Done) (Law : View → View → Type 0) (s : Seated) (o : Occupant) → Becomes call Law (Boxed s) o → IsThat s o
becomes-that call Law s (Table t) h = absurd h
becomes-that call Law s (Boxed t) h = record { inst = t; is = refl; origin = ap (λ (x : Seated). x.origin) h.0; nature = ap (λ (x : Seated). x.nature) h.0 }

-- nor does a signal
receives-that : (what : Signal) (s : Seated) (o : Occupant) → Receives what (Boxed s) o → IsThat s o
receives-that signal.Clear s o h = becomes-that done.Cleared IsCleared s o h
receives-that signal.Trigger s o h = becomes-that done.Triggered IsTriggered s o h
receives-that signal.Local s o h = becomes-that done.ToLocal (λ v w. w ≡ v) s o h
receives-that (signal.Moment now) s o h = becomes-that (done.Told now) IsInstTold s o h
receives-that (signal.Status b) s o h = becomes-that (done.StatusSet b) (λ v w. w ≡ with_status v b) s o h

-- nor that it gives a byte
gives-that : (w : Wire) (b : ℕ) (end polling : Bool) (s : Seated) (o : Occupant) → TalkerGives polling (record { value = b; end = end }) (Boxed s) o → IsThat s o
gives-that w b end true s o h = becomes-that done.Polled IsInstPolled s o h.1
gives-that w b end false s o h = becomes-that done.Gave (λ v x. InstGives v (record { value = b; end = end }) x) s o h.1

-- a bench of one
abbrev alone-there : Occupant → List Placed
alone-there o = (record { at = place; occupant = o }) ∷ []

-- such an occupant alone at its place
that-alone : (rack : List Seated) (s : Seated) (o : Occupant) → IsOneOf rack s → IsThat s o → StandsAlone rack ((record { at = place; occupant = o }) ∷ [])
that-alone rack s o racked that = record {
  inst = that.inst;
  racked = same-one rack s that.inst racked that.origin that.nature;
  alone = ap alone-there that.is;
}

module _ (reached : Placed → Bool) (Change : Occupant → Occupant → Type 0) (keeps : (s : Seated) (o : Occupant) → Change (Boxed s) o → IsThat s o) where
  -- one that is reached or isn't
  where-that : (b : Bool) (s : Seated) (o : Occupant) → OccupantWhere b Change (Boxed s) o → IsThat s o
  where-that true s o h = keeps s o h
  where-that false s o h = record { inst = s; is = h; origin = refl; nature = refl }

  -- a bench of one
  where-one : (rack : List Seated) (s : Seated) → IsOneOf rack s → (new : List Placed) → BenchWhere reached Change ((record { at = place; occupant = Boxed s }) ∷ []) new → StandsAlone rack new
  where-one rack s racked [] h = absurd h
  where-one rack s racked (q ∷ []) h =
      subst (λ a. StandsAlone rack ((record { at = a; occupant = q.occupant }) ∷ [])) (sym h.0.0)
      (that-alone rack s q.occupant racked (where-that (reached (record { at = place; occupant = Boxed s })) s q.occupant h.0.1))
  where-one rack s racked (q ∷ r ∷ qs) h = absurd h.1

  where-stays : (rack : List Seated) (old new : List Placed) → StandsAlone rack old → BenchWhere reached Change old new → StandsAlone rack new
  where-stays rack old new stands h = where-one rack stands.inst stands.racked new (subst (λ (b : List Placed). BenchWhere reached Change b new) stands.alone h)

-- nothing changed
same-stays : (rack : List Seated) (old new : List Placed) → StandsAlone rack old → new ≡ old → StandsAlone rack new
same-stays rack old new stands h = subst (StandsAlone rack) (sym h) stands

command-stays : (rack : List Seated) (w : Wire) (c : Command) (old new : List Placed) → StandsAlone rack old → BenchAfterCommand w c old new → StandsAlone rack new
command-stays rack w command.SelectedClear old new stands h = where-stays (listens w) (Receives signal.Clear) (receives-that signal.Clear) rack old new stands h
command-stays rack w command.Trigger old new stands h = where-stays (listens w) (Receives signal.Trigger) (receives-that signal.Trigger) rack old new stands h
command-stays rack w command.GoToLocal old new stands h = where-stays (listens w) (Receives signal.Local) (receives-that signal.Local) rack old new stands h
command-stays rack w command.DeviceClear old new stands h = where-stays everyone (Receives signal.Clear) (receives-that signal.Clear) rack old new stands h
command-stays rack w _ old new stands h = same-stays rack old new stands h

transfer-stays : (rack : List Seated) (w : Wire) (t : Transfer) (old new : List Placed) → StandsAlone rack old → BenchAfter w t old new → StandsAlone rack new
transfer-stays rack w (Cmd b) old new stands h = command-stays rack w (command_of b) old new stands h
transfer-stays rack w (Put b end) old new stands h = where-stays (listens w) (TakesByte b end) (λ s o. becomes-that (done.Took b end) (λ v x. InstTakes v b end x) s o) rack old new stands h
transfer-stays rack w (Got b end) old new stands h = where-stays (talks w) (TalkerGives w.polling (record { value = b; end = end })) (gives-that w b end w.polling) rack old new stands h
transfer-stays rack w (Ren false) old new stands h = where-stays everyone (Receives signal.Local) (receives-that signal.Local) rack old new stands h
transfer-stays rack w _ old new stands h = same-stays rack old new stands h

moment-stays : (rack : List Seated) (later : Bool) (now : ℕ) (old new : List Placed) → StandsAlone rack old → BenchAtMoment later now old new → StandsAlone rack new
moment-stays rack true now old new stands h = where-stays everyone (Receives (signal.Moment now)) (receives-that (signal.Moment now)) rack old new stands h
moment-stays rack false now old new stands h = same-stays rack old new stands h

-- behind a step
pub step_stays : (rack : List Seated) (old : SimState) (s : Step) (new : SimState) → StandsAlone rack old.bench → Through old s new → StandsAlone rack new.bench
step_stays rack old (Went t) new stands h = transfer-stays rack old.means.wire t old.bench new.bench stands h.2
step_stays rack old (Told now) new stands h = moment-stays rack (nat_lt old.told now) now old.bench new.bench stands h.2
step_stays rack old _ new stands h = same-stays rack old.bench new.bench stands h.2

pub step_lone : (rack : List Seated) (old : SimState) (s : Step) (new : SimState) → StandsAlone rack old.bench → Through old s new → IsLoneStep rack old s new
step_lone rack old s new stands h = record { before = stands; steps = h; after = step_stays rack old s new stands h }

-- behind more of them
pub walk_stays : (rack : List Seated) (old : SimState) (steps : List Step) (new : SimState) → StandsAlone rack old.bench → Walk (λ (s : SimState). s.means) Through old steps new → StandsAlone rack new.bench
walk_stays rack old [] new stands h = rw h stands
walk_stays rack old (s ∷ steps) new stands h = walk_stays rack h.0 steps new (step_stays rack old s h.0 stands h.1.1) h.2

pub walk_lone : (rack : List Seated) (old : SimState) (steps : List Step) (new : SimState) → StandsAlone rack old.bench → Walk (λ (s : SimState). s.means) Through old steps new
    → Walk (λ (s : SimState). s.means) (IsLoneStep rack) old steps new
walk_lone rack old [] new stands h = h
walk_lone rack old (s ∷ steps) new stands h =
    (h.0, (h.1.0, step_lone rack old s h.0 stands h.1.1), walk_lone rack h.0 steps new (step_stays rack old s h.0 stands h.1.1) h.2)

-- an instrument of the rack that was attached to an empty bus stands there alone
pub attached_alone : (rack : List Seated) (inst : Seated) (bus : SimState) → IsOneOf rack inst → IsAttached place (Boxed inst) first_state bus → StandsAlone rack bus.bench
attached_alone rack inst bus racked h =
    subst (λ (s : SimState). StandsAlone rack s.bench) (sym h.2) (that-alone rack inst h.0 racked (receives-that (signal.Moment 0) inst h.0 h.1))
