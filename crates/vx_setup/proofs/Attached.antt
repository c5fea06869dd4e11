-- What came of a command of a bench.
use Rattle.std.proofs.Common.{◌≡◌, ℕ, suc, List, ◌++◌, map, take, drop, position, get_or, Option, Some, None, option_map, Result, Ok, Err, inr, refl, sym, ap, subst, ◌∙◌}
use Rattle.std.proofs.lemmas.Option.{same_Some}
use Rattle.std.specs.Str.{bytes_eq}
use Rattle.vx_rack.specs.declared.Spare.{Spare}
use Rattle.vx_table.specs.declared.TableErr.{TableErr}
use Rattle.vx_table.specs.Table.{Rule, TableState, fresh_table}
use Rattle.vx_script.specs.declared.Cause.{Cause}
use Rattle.vx_script.specs.Command.{Command, Inst, Plug}
use Rattle.vx_488.specs.declared.transfers.Addr.{Addr}
use Rattle.vx_sim.specs.declared.attach.Attach.{Attach}
use Rattle.vx_sim.specs.Occupants.{Occupant, Table, Boxed, Seated}
use Rattle.vx_sim.specs.SimState.{SimState}
use Rattle.vx_sim.specs.Attaching.{IsAttached}
use Rattle.vx_sim.specs.Attaching as attaching
use Rattle.vx_setup.specs.declared.stops.Refusal.{Refusal}
use Rattle.vx_setup.specs.declared.stops.Refusal.TheVariants as stop
use Rattle.vx_setup.specs.Rack.{SpareShown, spare_at}
use Rattle.vx_setup.specs.Spares.{spare_shown}
use Rattle.vx_setup.specs.Refusing.{address, cause_of, rules_in, table_refused, spare_refused}
use Rattle.vx_setup.specs.Attaches.{AttachesTable, AttachesSpare}
use Rattle.vx_setup.specs.SettingUp.{BenchState, refusal, SetupTakes, MayLose, KeepsMeaning}
use Rattle.vx_setup.specs.LineSet.{TakesOrStops}
use Rattle.vx_setup.proofs.Laws.Found.{spare-found, spare-missing, rack-left}

-- ---- what the bus means

-- an attached instrument changes nothing else
pub attached-keeps : (a : Addr) (inst : Occupant) (old new : SimState) → IsAttached a inst old new → KeepsMeaning old new
attached-keeps a inst old new came = record {
  means = ap (λ (s : SimState). s.means) came.2;
  told = ap (λ (s : SimState). s.told) came.2;
  failing = ap (λ (s : SimState). s.failing) came.2;
}

-- nor does nothing
pub same-keeps : (old new : SimState) → new ≡ old → KeepsMeaning old new
same-keeps old new same = record {
  means = ap (λ (s : SimState). s.means) same;
  told = ap (λ (s : SimState). s.told) same;
  failing = ap (λ (s : SimState). s.failing) same;
}

-- nor do two that don't
pub keeps-both : (old mid new : SimState) → KeepsMeaning old mid → KeepsMeaning mid new → KeepsMeaning old new
keeps-both old mid new first second = record {
  means = second.means ∙ first.means;
  told = second.told ∙ first.told;
  failing = second.failing ∙ first.failing;
}

-- ---- a command that is refused

pub turned-away : (old new : BenchState) (command : Command) (why : Option Cause) (ended : Refusal) → refusal old command ≡ why
    → Some ended ≡ option_map (λ k. stop.Refused k) why → new.bus ≡ old.bus → MayLose command old.rack new.rack → TakesOrStops old command new (Err ended)
turned-away old new command None ended e told same lost = absurd (cc)
turned-away old new command (Some why) ended e told same lost =
    subst (λ (t : Refusal). TakesOrStops old command new (Err t)) (sym (same_Some ended (stop.Refused why) told)) (e, same, lost)

-- ---- a table instrument

-- the instrument that a text describes
abbrev pub IsOf : List ℕ → TableState → Type 0
IsOf text inst = (rules : List Rule) × (rules_in text ≡ Some (Ok rules)) × (inst ≡ fresh_table rules)

pub inst-taken : (p : ℕ) (s : Option ℕ) (text : List ℕ) (inst : TableState) (old new : SimState) (rack : List SpareShown) → IsOf text inst
    → attaching.refusal old (address p s) ≡ None → IsAttached (address p s) (Table inst) old new
    → SetupTakes (record { bus = old; rack = rack }) (Inst p s text) (record { bus = new; rack = rack })
inst-taken p s text inst old new rack table free came = record {
  allowed = ap (λ (r : Option (Result (List Rule) TableErr)). table_refused old (address p s) r) table.1 ∙ ap (λ (o : Option Attach). cause_of o) free;
  attaches = (
    subst (λ (r : Option (Result (List Rule) TableErr)). AttachesTable (address p s) r old new) (sym table.1)
        (subst (λ (t : TableState). IsAttached (address p s) (Table t) old new) table.2 came),
    refl,
  );
}

pub inst-turned-away : (p : ℕ) (s : Option ℕ) (text : List ℕ) (inst : TableState) (old new : SimState) (rack : List SpareShown) (why : Attach) (ended : Refusal)
    → IsOf text inst → attaching.refusal old (address p s) ≡ Some why → Some ended ≡ option_map (λ k. stop.Refused k) (cause_of (Some why)) → new ≡ old
    → TakesOrStops (record { bus = old; rack = rack }) (Inst p s text) (record { bus = new; rack = rack }) (Err ended)
inst-turned-away p s text inst old new rack why ended table refused told same =
    turned-away (record { bus = old; rack = rack }) (record { bus = new; rack = rack }) (Inst p s text) (cause_of (Some why)) ended
    (ap (λ (r : Option (Result (List Rule) TableErr)). table_refused old (address p s) r) table.1 ∙ ap (λ (o : Option Attach). cause_of o) refused) told same refl

-- ---- a spare

module _ {I : Type 0} (seat : I → Seated) (name : List ℕ) where
  -- where the first spare of the name stands
  abbrev IsFirst : List (Spare I) → Option ℕ → Type 0
  IsFirst rack place = place ≡ position (λ (x : Spare I). bytes_eq x.name.bytes name) rack

  pub plug-missing : (p : ℕ) (s : Option ℕ) (bus : SimState) (rack : List (Spare I)) → IsFirst rack None
      → refusal (record { bus = bus; rack = map (spare_shown seat) rack }) (Plug p s name) ≡ spare_refused bus (address p s) None
  plug-missing p s bus rack e = ap (λ (o : Option SpareShown). spare_refused bus (address p s) o) (spare-missing seat name rack e)

  pub plug-taken : (p : ℕ) (s : Option ℕ) (old new : SimState) (rack rest : List (Spare I)) (place : ℕ) (spare : Spare I) → IsFirst rack (Some place)
      → spare ≡ get_or rack place spare → rest ≡ take place rack ++ drop (suc place) rack → attaching.refusal old (address p s) ≡ None
      → IsAttached (address p s) (Boxed (seat spare.inst)) old new
      → SetupTakes (record { bus = old; rack = map (spare_shown seat) rack }) (Plug p s name) (record { bus = new; rack = map (spare_shown seat) rest })
  plug-taken p s old new rack rest place spare e is rest_is free came =
      let here : spare_at (map (spare_shown seat) rack) name ≡ Some (spare_shown seat spare) = spare-found seat name rack place spare e is in
      record {
        allowed = ap (λ (o : Option SpareShown). spare_refused old (address p s) o) here ∙ ap (λ (o : Option Attach). cause_of o) free;
        attaches = (subst (λ (o : Option SpareShown). AttachesSpare (address p s) o old new) (sym here) came, rack-left seat name rack rest place e rest_is);
      }

  pub plug-turned-away : (p : ℕ) (s : Option ℕ) (old new : SimState) (rack rest : List (Spare I)) (place : ℕ) (spare : Spare I) (why : Attach) (ended : Refusal)
      → IsFirst rack (Some place) → spare ≡ get_or rack place spare → rest ≡ take place rack ++ drop (suc place) rack
      → attaching.refusal old (address p s) ≡ Some why → Some ended ≡ option_map (λ k. stop.Refused k) (cause_of (Some why)) → new ≡ old
      → TakesOrStops (record { bus = old; rack = map (spare_shown seat) rack }) (Plug p s name) (record { bus = new; rack = map (spare_shown seat) rest }) (Err ended)
  plug-turned-away p s old new rack rest place spare why ended e is rest_is refused told same =
      turned-away (record { bus = old; rack = map (spare_shown seat) rack }) (record { bus = new; rack = map (spare_shown seat) rest }) (Plug p s name)
      (cause_of (Some why)) ended
      (ap (λ (o : Option SpareShown). spare_refused old (address p s) o) (spare-found seat name rack place spare e is)
      ∙ ap (λ (o : Option Attach). cause_of o) refused) told same (inr (rack-left seat name rack rest place e rest_is))
