-- What the player's changes of what hangs on the bus make of the stage that it stands at.
use Rattle.std.proofs.Common.{◌≡◌, ℕ, suc, ◌≤◌, ◌==◌, Bool, true, cond, List, [], ◌∷◌, ◌++◌, length, map, take, drop, position, get_or, Option, Some, None, option_map, Result, Ok, refl, sym, ap, subst, ◌∙◌}
use Rattle.std.proofs.lemmas.Bool.{cond-true, false≢true}
use Rattle.std.proofs.lemmas.Option.{same_Some}
use Rattle.std.specs.List.{list_any}
use Rattle.std.specs.Str.{bytes_eq}
use Rattle.vx_488.specs.declared.transfers.Addr.{Addr}
use Rattle.vx_488.specs.declared.wire.Wire.{Wire}
use Rattle.vx_488.specs.Means.{Means}
use Rattle.vx_488.specs.Steps.{Cut}
use Rattle.vx_rack.specs.declared.Spare.{Spare}
use Rattle.vx_table.specs.declared.TableErr.{TableErr}
use Rattle.vx_table.specs.Table.{Rule, TableState, fresh_table}
use Rattle.vx_sim.specs.declared.attach.Attach.{Attach}
use Rattle.vx_sim.specs.declared.attach.Attach.TheVariants.{OwnAddress}
use Rattle.vx_sim.specs.Occupants.{Occupant, Table, Boxed, Placed, Seated}
use Rattle.vx_sim.specs.Bench.{stands_at}
use Rattle.vx_sim.specs.SimState.{SimState}
use Rattle.vx_sim.specs.Attaching.{holder, taken_or_full, IsAttached, without_place, IsSet}
use Rattle.vx_sim.specs.Attaching as attaching
use Rattle.vx_script.specs.declared.Cause.{Cause}
use Rattle.vx_script.specs.declared.Cause.TheVariants as cause
use Rattle.vx_script.specs.Command.{Command, Inst, Plug, Pull, Set, Fail}
use Rattle.vx_rules.specs.State.{role_at}
use Rattle.vx_flow.specs.InterleavedState.{InterleavedState}
use Rattle.vx_core.specs.CoreState.{CoreState}
use Rattle.vx_player.specs.declared.note.Intake.TheVariants as intake
use Rattle.vx_player.specs.declared.note.StepMade.{StepMade}
use Rattle.vx_player.specs.declared.note.Note.TheVariants as note
use Rattle.vx_setup.specs.declared.stops.Refusal.{Refusal}
use Rattle.vx_setup.specs.declared.stops.Refusal.TheVariants as stopped
use Rattle.vx_player.specs.Gateway.{Gateway, gateway_of, BusGoes}
use Rattle.vx_setup.specs.Rack.{SpareShown, spare_at}
use Rattle.vx_player.specs.Stage.{Stage, tables_of, absent_at, refusal}
use Rattle.vx_setup.specs.Refusing.{address, cause_of, rules_in, table_refused, spare_refused}
use Rattle.vx_player.specs.Making.{Tweaks, Makes}
use Rattle.vx_setup.specs.Attaches.{AttachesTable, AttachesSpare}
use Rattle.vx_player.specs.Play.{stream_after, xid_after, rack_after, message_of}
use Rattle.vx_run.specs.Position.{moment_after}
use Rattle.vx_run.specs.RunText.{message_lines}
use Rattle.vx_player.specs.PlayerState.{PlayerState, incoming_at}
use Rattle.vx_setup.specs.Spares.{spare_shown}
use Rattle.vx_player.specs.Standing.{PlayerStands, PlayerHolds, TakesTo}
use Rattle.vx_player.specs.Wanting.{StopsFor}
use Rattle.vx_player.specs.Tweaking.{AttachChanges, AttachesOne, ChangesAt}
use Rattle.vx_setup.proofs.Laws.Found.{spare-found, spare-missing, rack-left}
use Rattle.vx_player.proofs.Stepping.{takes-to}

-- ---- a cut

-- a bus that was cut has the same instruments and the same wire
pub record Same (before cut : SimState) : Type 0 where
  pub bench : cut.bench ≡ before.bench
  pub wire : cut.means.wire ≡ before.means.wire

pub cut-same : (before cut : SimState) → BusGoes before (Cut ∷ []) cut → Same before cut
cut-same before cut went = record {
  bench = ap (λ (s : SimState). s.bench) went.2 ∙ went.1.1.2;
  wire = ap (λ (s : SimState). s.means.wire) went.2 ∙ ap (λ (m : Means). m.wire) went.1.0;
}

-- so it refuses an instrument for the same reason
cut-refusal : (before cut : SimState) (a : Addr) → Same before cut → attaching.refusal cut a ≡ attaching.refusal before a
cut-refusal before cut a same =
    ap (λ (w : Wire). cond (a.p == w.own) (Some OwnAddress) (taken_or_full (holder cut.bench a) (length cut.bench))) same.wire
    ∙ ap (λ (b : List Placed). cond (a.p == before.means.wire.own) (Some OwnAddress) (taken_or_full (holder b a) (length b))) same.bench

-- and an instrument stands at an address where one stood
stands-allowed : (bus cut : SimState) (a : Addr) (answer : Bool) → answer ≡ list_any (stands_at a) cut.bench → answer ≡ true → Same bus cut → absent_at bus a ≡ None
stands-allowed bus cut a answer there reached same =
    cond-true (list_any (stands_at a) bus.bench) None (Some cause.Absent) (ap (λ (b : List Placed). list_any (stands_at a) b) (sym same.bench) ∙ sym there ∙ reached)

-- ---- any change

-- a command leaves what came on connections, and the moment
record Leaves (stage : Stage) (command : Command) : Type 0 where
  streams : (conn : ℕ) → stream_after stage command conn ≡ stage.streams conn
  xids : (conn : ℕ) → xid_after stage command conn ≡ stage.xids conn
  moment : moment_after stage.moment command ≡ stage.moment
  called : message_lines command (message_of stage command) ≡ []

-- nothing is told of a change
abbrev pub quiet : StepMade
quiet = record { intake = intake.Nothing; polled = None; note = note.Nothing; answered = None }

-- a change that isn't refused takes the player to the next stage
tweak-takes : (stage : Stage) (command : Command) (Change : SimState → SimState → Type 0) (old now : PlayerState) (core : CoreState SimState) (rack : List SpareShown)
    (cut : SimState) → old ≡ now → PlayerStands now stage → core.interleaved ≡ old.core.interleaved → BusGoes old.core.bus (Cut ∷ []) cut → Change cut core.bus
    → rack ≡ rack_after old.rack command → (Same stage.gateway.bus cut → stage.rack ≡ old.rack → refusal stage command ≡ None)
    → (stage.rack ≡ old.rack → (after : Gateway) → Tweaks stage.gateway Change [] None after → Makes stage command [] None after)
    → Leaves stage command → TakesTo stage command quiet (record old { core = core; rack = rack })
tweak-takes stage command Change old now core rack cut seen stands_now interleaved_kept went change rack_is allowed makes leaves =
    let stands : PlayerStands old stage = subst (λ (p : PlayerState). PlayerStands p stage) (sym seen) stands_now in
    let through : BusGoes stage.gateway.bus (Cut ∷ []) cut = subst (λ (g : Gateway). BusGoes g.bus (Cut ∷ []) cut) stands.gateway went in
    let shown : stage.rack ≡ old.rack = sym stands.rack in
    let interleaved_is : core.interleaved ≡ stage.gateway.interleaved = interleaved_kept ∙ ap (λ (g : Gateway). g.interleaved) stands.gateway in
    let new : PlayerState = record old { core = core; rack = rack } in
    takes-to stage command new quiet (allowed (cut-same stage.gateway.bus cut through) shown)
    (record {
      group = [];
      makes = makes shown (gateway_of core) (record { none = refl; interleaved = interleaved_is; cut = cut; bus = through; change = change; told = refl });
      lines = refl;
      lines2 = refl;
      answered = refl;
      note = tt;
      few = λ some. absurd (false≢true some);
    }) leaves.called
    (subst (λ (f : InterleavedState). f.state.moment ≤ old.moment) (sym interleaved_kept) stands.late)
    (stands.moment ∙ sym leaves.moment)
    (rack_is ∙ ap (λ (r : List SpareShown). rack_after r command) stands.rack)
    (λ conn.
    subst (λ (f : InterleavedState). PlayerHolds (role_at f.state.tables conn) (incoming_at old.incoming conn) (stream_after stage command conn) (xid_after stage command conn))
    (sym interleaved_is)
    (subst (λ (x : List ℕ). PlayerHolds (role_at (tables_of stage) conn) (incoming_at old.incoming conn) x (xid_after stage command conn)) (sym (leaves.streams conn))
    (subst (λ (k : ℕ). PlayerHolds (role_at (tables_of stage) conn) (incoming_at old.incoming conn) (stage.streams conn) k) (sym (leaves.xids conn))
    (stands.incoming conn))))

-- ---- a failing call, a status byte, an instrument taken off

pub fail-takes : (stage : Stage) (n m : ℕ) (old now : PlayerState) (core : CoreState SimState) → m ≡ n → old ≡ now → PlayerStands now stage → core.interleaved ≡ old.core.interleaved
    → ((cut : SimState) × BusGoes old.core.bus (Cut ∷ []) cut × (core.bus ≡ record cut { failing = Some m }))
    → TakesTo stage (Fail n) quiet (record old { core = core })
fail-takes stage n m old now core e seen stands kept changes =
    let cut : SimState = changes.0 in
    tweak-takes stage (Fail n) (λ o s. s ≡ record o { failing = Some n }) old now core old.rack cut seen stands kept changes.1
    (changes.2 ∙ ap (λ (k : ℕ). record cut { failing = Some k }) e) refl (λ same shown. refl) (λ shown after t. t)
    (record { streams = λ conn. refl; xids = λ conn. refl; moment = refl; called = refl })

pub set-takes : (stage : Stage) (p : ℕ) (s : Option ℕ) (b : ℕ) (answer : Bool) (old now : PlayerState) (core : CoreState SimState) → old ≡ now → PlayerStands now stage
    → core.interleaved ≡ old.core.interleaved → ((cut : SimState) × BusGoes old.core.bus (Cut ∷ []) cut × ChangesAt (address p s) (IsSet (address p s) b) cut answer core.bus)
    → answer ≡ true → TakesTo stage (Set p s b) quiet (record old { core = core })
set-takes stage p s b answer old now core seen stands kept changes reached =
    let change = changes.2 in
    tweak-takes stage (Set p s b) (IsSet (address p s) b) old now core old.rack changes.0 seen stands kept changes.1 (change.change reached) refl
    (λ same shown. stands-allowed stage.gateway.bus changes.0 (address p s) answer change.stands reached same) (λ shown after t. t)
    (record { streams = λ conn. refl; xids = λ conn. refl; moment = refl; called = refl })

pub pull-takes : (stage : Stage) (p : ℕ) (s : Option ℕ) (place : Addr) (answer : Bool) (old now : PlayerState) (core : CoreState SimState) → place ≡ address p s
    → old ≡ now → PlayerStands now stage → core.interleaved ≡ old.core.interleaved
    → ((cut : SimState) × BusGoes old.core.bus (Cut ∷ []) cut × ChangesAt place (λ o n. n ≡ without_place place o) cut answer core.bus)
    → answer ≡ true → TakesTo stage (Pull p s) quiet (record old { core = core })
pull-takes stage p s place answer old now core e seen stands kept changes reached =
    let cut : SimState = changes.0 in
    let change : ChangesAt (address p s) (λ o n. n ≡ without_place (address p s) o) cut answer core.bus =
    subst (λ (a : Addr). ChangesAt a (λ o n. n ≡ without_place a o) cut answer core.bus) e changes.2 in
    tweak-takes stage (Pull p s) (λ o n. n ≡ without_place (address p s) o) old now core old.rack cut seen stands kept changes.1 (change.change reached) refl
    (λ same shown. stands-allowed stage.gateway.bus cut (address p s) answer change.stands reached same) (λ shown after t. t)
    (record { streams = λ conn. refl; xids = λ conn. refl; moment = refl; called = refl })

-- ---- an instrument attached

-- what an act did, by what it was made of
attached : (a place : Addr) (inst : Occupant) (kept : Option Occupant) (cut after : SimState) (answer : Option Attach) → place ≡ a → kept ≡ Some inst
    → AttachesOne place kept cut answer after → AttachChanges a inst cut answer after
attached a place inst kept cut after answer place_is kept_is h =
    subst (λ (o : Option Occupant). AttachesOne a o cut answer after) kept_is (subst (λ (x : Addr). AttachesOne x kept cut answer after) place_is h)

-- what nothing speaks against
attach-allowed : (bus cut : SimState) (a : Addr) → attaching.refusal cut a ≡ None → Same bus cut → cause_of (attaching.refusal bus a) ≡ None
attach-allowed bus cut a free same = ap (λ (o : Option Attach). cause_of o) (sym (cut-refusal bus cut a same) ∙ free)

pub inst-takes : (stage : Stage) (p : ℕ) (s : Option ℕ) (text : List ℕ) (inst : TableState) (place : Addr) (kept : Option TableState) (old now : PlayerState)
    (core : CoreState SimState) → ((rules : List Rule) × (rules_in text ≡ Some (Ok rules)) × (inst ≡ fresh_table rules)) → place ≡ address p s → kept ≡ Some inst
    → old ≡ now → PlayerStands now stage → core.interleaved ≡ old.core.interleaved
    → ((cut : SimState) × BusGoes old.core.bus (Cut ∷ []) cut × AttachesOne place (option_map (λ t. Table t) kept) cut None core.bus)
    → TakesTo stage (Inst p s text) quiet (record old { core = core })
inst-takes stage p s text inst place kept old now core table place_is kept_is seen stands interleaved_kept changes =
    let cut : SimState = changes.0 in
    let a : Addr = address p s in
    let came : AttachChanges a (Table inst) cut None core.bus =
    attached a place (Table inst) (option_map (λ t. Table t) kept) cut core.bus None place_is (ap (λ (o : Option TableState). option_map (λ t. Table t) o) kept_is) changes.2 in
    let change : IsAttached a (Table (fresh_table table.0)) cut core.bus = subst (λ (t : TableState). IsAttached a (Table t) cut core.bus) table.2 came.1 in
    tweak-takes stage (Inst p s text) (IsAttached a (Table (fresh_table table.0))) old now core old.rack cut seen stands interleaved_kept changes.1 change refl
    (λ same shown.
    ap (λ (r : Option (Result (List Rule) TableErr)). table_refused stage.gateway.bus a r) table.1 ∙ attach-allowed stage.gateway.bus cut a came.0 same)
    (λ shown after t.
    subst (λ (r : Option (Result (List Rule) TableErr)). Tweaks stage.gateway (AttachesTable a r) [] None after) (sym table.1) t)
    (record { streams = λ conn. refl; xids = λ conn. refl; moment = refl; called = refl })

-- ---- a spare attached

-- why a step isn't taken
stops-for : (stage : Stage) (command : Command) (why : Option Cause) (ended : Refusal) → refusal stage command ≡ why
    → Some ended ≡ option_map (λ k. stopped.Refused k) why → StopsFor stage command ended
stops-for stage command None ended e told = absurd (cc)
stops-for stage command (Some why) ended e told =
    subst (λ (t : Refusal). StopsFor stage command t) (sym (same_Some ended (stopped.Refused why) told)) e

module _ {I : Type 0} (seat : I → Seated) (name : List ℕ) where
  -- where there is no spare of the name, the step is refused
  pub spare-stops : (stage : Stage) (p : ℕ) (s : Option ℕ) (rack : List (Spare I)) (old now : PlayerState) → None ≡ position (λ (x : Spare I). bytes_eq x.name.bytes name) rack
      → old ≡ now → PlayerStands now stage → old.rack ≡ map (spare_shown seat) rack → refusal stage (Plug p s name) ≡ Some cause.Spare
  spare-stops stage p s rack old now e seen stands_now shown =
      let stands : PlayerStands old stage = subst (λ (x : PlayerState). PlayerStands x stage) (sym seen) stands_now in
      ap (λ (o : Option SpareShown). spare_refused stage.gateway.bus (address p s) o)
      (ap (λ (r : List SpareShown). spare_at r name) (sym stands.rack ∙ shown) ∙ spare-missing seat name rack e)

  -- where the bus refuses it, the step is refused
  pub plug-stops : (stage : Stage) (p : ℕ) (s : Option ℕ) (rack : List (Spare I)) (at_place : ℕ) (spare : Spare I) (place : Addr) (kept : Option I) (why : Attach)
      (ended : Refusal) (old now : PlayerState) (after : SimState) → Some at_place ≡ position (λ (x : Spare I). bytes_eq x.name.bytes name) rack → spare ≡ get_or rack at_place spare
      → place ≡ address p s → kept ≡ Some spare.inst → old ≡ now → PlayerStands now stage → old.rack ≡ map (spare_shown seat) rack
      → ((cut : SimState) × BusGoes old.core.bus (Cut ∷ []) cut × AttachesOne place (option_map (λ i. Boxed (seat i)) kept) cut (Some why) after)
      → Some ended ≡ option_map (λ k. stopped.Refused k) (cause_of (Some why)) → StopsFor stage (Plug p s name) ended
  plug-stops stage p s rack at_place spare place kept why ended old now after e is place_is kept_is seen stands_now shown changes told =
      let stands : PlayerStands old stage = subst (λ (x : PlayerState). PlayerStands x stage) (sym seen) stands_now in
      let cut : SimState = changes.0 in
      let a : Addr = address p s in
      let through : BusGoes stage.gateway.bus (Cut ∷ []) cut = subst (λ (g : Gateway). BusGoes g.bus (Cut ∷ []) cut) stands.gateway changes.1 in
      let came : AttachChanges a (Boxed (seat spare.inst)) cut (Some why) after =
      attached a place (Boxed (seat spare.inst)) (option_map (λ i. Boxed (seat i)) kept) cut after (Some why) place_is
      (ap (λ (o : Option I). option_map (λ i. Boxed (seat i)) o) kept_is) changes.2 in
      let here : spare_at stage.rack name ≡ Some (spare_shown seat spare) =
      ap (λ (r : List SpareShown). spare_at r name) (sym stands.rack ∙ shown) ∙ spare-found seat name rack at_place spare e is in
      stops-for stage (Plug p s name) (cause_of (Some why)) ended
      (ap (λ (o : Option SpareShown). spare_refused stage.gateway.bus a o) here
      ∙ ap (λ (o : Option Attach). cause_of o) (sym (cut-refusal stage.gateway.bus cut a (cut-same stage.gateway.bus cut through)) ∙ came.0))
      told

  pub plug-takes : (stage : Stage) (p : ℕ) (s : Option ℕ) (rack rest : List (Spare I)) (at_place : ℕ) (spare : Spare I) (place : Addr) (kept : Option I)
      (old now : PlayerState) (core : CoreState SimState) → Some at_place ≡ position (λ (x : Spare I). bytes_eq x.name.bytes name) rack → spare ≡ get_or rack at_place spare
      → rest ≡ take at_place rack ++ drop (suc at_place) rack → place ≡ address p s → kept ≡ Some spare.inst → old ≡ now → PlayerStands now stage
      → old.rack ≡ map (spare_shown seat) rack → core.interleaved ≡ old.core.interleaved
      → ((cut : SimState) × BusGoes old.core.bus (Cut ∷ []) cut × AttachesOne place (option_map (λ i. Boxed (seat i)) kept) cut None core.bus)
      → TakesTo stage (Plug p s name) quiet (record old { core = core; rack = map (spare_shown seat) rest })
  plug-takes stage p s rack rest at_place spare place kept old now core e is rest_is place_is kept_is seen stands shown interleaved_kept changes =
      let cut : SimState = changes.0 in
      let a : Addr = address p s in
      let came : AttachChanges a (Boxed (seat spare.inst)) cut None core.bus =
      attached a place (Boxed (seat spare.inst)) (option_map (λ i. Boxed (seat i)) kept) cut core.bus None place_is
      (ap (λ (o : Option I). option_map (λ i. Boxed (seat i)) o) kept_is) changes.2 in
      let rack_is : map (spare_shown seat) rest ≡ rack_after old.rack (Plug p s name) =
      rack-left seat name rack rest at_place e rest_is ∙ ap (λ (r : List SpareShown). rack_after r (Plug p s name)) (sym shown) in
      let there : spare_at old.rack name ≡ Some (spare_shown seat spare) =
      ap (λ (r : List SpareShown). spare_at r name) shown ∙ spare-found seat name rack at_place spare e is in
      tweak-takes stage (Plug p s name) (IsAttached a (Boxed (seat spare.inst))) old now core (map (spare_shown seat) rest) cut seen stands interleaved_kept changes.1 came.1 rack_is
      (λ same known.
      ap (λ (o : Option SpareShown). spare_refused stage.gateway.bus a o) (ap (λ (r : List SpareShown). spare_at r name) known ∙ there)
      ∙ attach-allowed stage.gateway.bus cut a came.0 same)
      (λ known after t.
      subst (λ (o : Option SpareShown). Tweaks stage.gateway (AttachesSpare a o) [] None after)
      (sym (ap (λ (r : List SpareShown). spare_at r name) known ∙ there)) t)
      (record { streams = λ conn. refl; xids = λ conn. refl; moment = refl; called = refl })
