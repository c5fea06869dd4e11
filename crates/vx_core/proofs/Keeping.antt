-- What a core keeps over an event that makes no transfer, and at a later moment.
use Rattle.std.proofs.Common.{◌≡◌, ◌≢◌, ◌≤◌, ℕ, ◌⊎◌, inl, inr, Bool, true, cond, List, Option, Some, None, refl, sym, ap, ◌∙◌, subst, arith}
use Rattle.std.proofs.lemmas.Bool.{false≢true}
use Rattle.std.proofs.lemmas.Cmp.{nat_eq_equiv}
use Rattle.std.proofs.lemmas.Option.{none-some}
use Rattle.vx_488.specs.declared.transfers.TheConstants.{ADDRESS_MAX}
use Rattle.vx_488.specs.declared.transfers.Transfer.{Transfer}
use Rattle.vx_488.specs.declared.wire.Wire.{Wire}
use Rattle.vx_488.specs.Wire.{wire_after}
use Rattle.vx_plan.specs.Plan.{Stand, Whole, Part, Off}
use Rattle.vx_488.specs.Means.{Means}
use Rattle.vx_ctrl.specs.Turns.{TurnState, HasMade}
use Rattle.vx_ctrl.specs.Goes.{TurnBegins, HoldsBytes}
use Rattle.vx_rules.specs.State.{pending_at}
use Rattle.vx_rules.specs.Decide.{stand_on, stand_of_job}
use Rattle.vx_flow.specs.Event.{Event, Answer}
use Rattle.vx_flow.specs.InterleavedState.{Turn, InterleavedState, turn_after}
use Rattle.vx_flow.specs.InterleavedStep.{interleaved_step, is_answer_of, turn_stand, call_stand}
use Rattle.vx_flow.specs.Sound.{Stands, TurnStands, IsSound}
use Rattle.vx_flow.proofs.Laws.{interleaved-does, interleaved-frame, later-stands, turn-stand, stays_sound-law, call_stays-law}
use Rattle.vx_core.specs.declared.running.Running.{Running}
use Rattle.vx_core.specs.KernelState.{KernelState}
use Rattle.vx_core.specs.Shown.{interleaved_of, turn_shown, before_shown}
use Rattle.vx_core.specs.Keeping.{RunsTurn, Holds, Keeps}
use Rattle.vx_core.proofs.Dials.{is_still, dials-after, few-after}

-- ---- the turn that an event leaves isn't whole

-- an answer of the turn's own call ends the turn
own-gone : (e : Event) (u : Turn) → is_answer_of u.connection e ≡ true → turn_after (Some u) e ≡ None
own-gone (Answer conn now failed dialed level told) u h =
    let none : Option Turn = None in ap (λ (b : Bool). cond b none (Some u)) (nat_eq_equiv.symm u.connection conn ∙ h)
own-gone _ u h = absurd (false≢true h)

-- so a turn that is left wasn't whole
left-open : (f g : InterleavedState) (e : Event) (u : Turn) → interleaved_step f e ≡ Some g → f.turn ≡ Some u → g.turn ≡ Some u → turn_stand f u u.moves ≢ Whole
left-open f g e u h is after whole =
    none-some u (sym (own-gone e u ((interleaved-does f g e h).in_turn u is whole)) ∙ ap (λ t. turn_after t e) (sym is) ∙ sym (interleaved-frame f g e h).turn_is ∙ after)

-- what keeps to a plan and isn't whole is a part
part-of : (s : Stand) → s ≢ Off → s ≢ Whole → s ≡ Part
part-of Whole on more = absurd (more refl)
part-of Part on more = refl
part-of Off on more = absurd (on refl)

-- and it is a part of its job still: that doesn't depend on whether its call is marked
stays-part : (f g : InterleavedState) (e : Event) (u : Turn) → IsSound f → interleaved_step f e ≡ Some g → f.turn ≡ Some u → g.turn ≡ Some u → g.before ≡ f.before
    → turn_stand g u u.moves ≡ Part
stays-part f g e u sound h is after same =
    let stands : Stands f.state.tables f.before f.state.wire f.state.moment u =
    subst (TurnStands f.state.tables f.before f.state.wire f.state.moment) is sound.turn_stands in
    let call = call_stays-law f g e u stands.asked sound h is after stands.call_at in
    let was : turn_stand f u u.moves ≡ stand_on f.before stands.asked.call stands.job u.moves =
    turn-stand f.state.tables f.before f.state.wire f.state.moment u stands u.moves in
    let part : turn_stand f u u.moves ≡ Part =
    part-of (turn_stand f u u.moves) (λ off. stands.on_plan (sym was ∙ off)) (left-open f g e u h is after) in
    ap (λ (w : Wire). call_stand g.state.tables w u.connection u.moves (pending_at g.state.tables u.connection)) same
    ∙ ap (call_stand g.state.tables f.before u.connection u.moves) call.1
    ∙ ap (stand_of_job f.before stands.asked.call u.moves) call.2
    ∙ sym (ap (call_stand f.state.tables f.before u.connection u.moves) stands.call_at)
    ∙ part

-- ---- what a core keeps behind an event

-- the turn under way is as it was, with the room, or it is over; and the lines and addresses of the bus are as they were
pub record LeavesTurn {B : Type 0} (means : B → Means) (old new : KernelState B) : Type 0 where
  pub running : (new.running ≡ old.running) × (new.room ≡ old.room) ⊎ (new.running ≡ None)
  pub before : new.before ≡ old.before
  pub made : new.made ≡ old.made
  pub wire : (means new.bus).wire ≡ (means old.bus).wire

-- a turn that has made a list has made it, whatever else the bus means
begins-same : (turn : TurnState) (w w' : Wire) (bytes : List ℕ) (made made' : List Transfer) (m m' : Means) → w' ≡ w → made' ≡ made → m'.wire ≡ m.wire
    → TurnBegins turn w bytes made m → TurnBegins turn w' bytes made' m'
begins-same turn w w' bytes made made' m m' before moves wire b = record {
  left = b.left;
  had_made =
      subst (λ (x : Wire). HasMade turn x bytes made' b.left) (sym before)
      (subst (λ (x : List Transfer). HasMade turn w bytes x b.left) (sym moves) b.had_made);
  bus = wire ∙ b.bus ∙ ap (λ (x : Wire). wire_after x made) (sym before) ∙ ap (wire_after w') (sym moves);
}

-- the turn of a core, as events know it
shown-turn : {B : Type 0} (means : B → Means) (k : KernelState B) (r : Running) (made : List Transfer) → k.running ≡ Some r → k.made ≡ made
    → (interleaved_of means k).turn ≡ Some (record { connection = r.conn; begun = r.turn.begun; moves = made })
shown-turn means k r made is same = ap (λ x. turn_shown x k.made) is ∙ ap (turn_shown (Some r)) same

-- the turn that an event leaves runs on
leaves-runs : {B : Type 0} (means : B → Means) (old new : KernelState B) (e : Event) → Holds means old → new.running ≡ old.running → new.room ≡ old.room
    → LeavesTurn means old new → interleaved_step (interleaved_of means old) e ≡ Some (interleaved_of means new) → (r : Running) → new.running ≡ Some r → RunsTurn means new r
leaves-runs means old new e holds running room leaves h r is =
    let was : old.running ≡ Some r = sym running ∙ is in
    let runs = holds.runs r was in
    let u : Turn = record { connection = r.conn; begun = r.turn.begun; moves = old.made } in
    let call = call_stays-law (interleaved_of means old) (interleaved_of means new) e u runs.asked holds.sound h (shown-turn means old r old.made was refl)
    (shown-turn means new r old.made is leaves.made) runs.call_at in
    record {
      asked = record runs.asked { aborted = call.0 };
      call_at = call.1;
      job_is = call.2 ∙ runs.job_is;
      plain = runs.plain;
      sent = runs.sent;
      few = runs.few;
      own = subst (λ (w : Wire). w.own ≤ ADDRESS_MAX) (sym leaves.before) runs.own;
      begins = begins-same r.turn old.before new.before _ old.made new.made (means old.bus) (means new.bus) leaves.before leaves.made leaves.wire runs.begins;
      holds = λ gets.
          subst (λ (x : List Transfer). HoldsBytes r.turn x new.room) (sym leaves.made)
          (subst (λ (x : List ℕ). HoldsBytes r.turn old.made x) (sym room) (runs.holds gets));
    }

-- the bus before the turn is as it was
leaves-before : {B : Type 0} (means : B → Means) (old new : KernelState B) → new.running ≡ old.running → LeavesTurn means old new
    → (interleaved_of means new).before ≡ (interleaved_of means old).before
leaves-before means old new running leaves =
    ap (λ x. before_shown x new.before (means new.bus).wire) running
    ∙ ap (λ x. before_shown old.running x (means new.bus).wire) leaves.before
    ∙ ap (before_shown old.running old.before) leaves.wire

-- what a core keeps it keeps behind such an event
pub keeps-after : {B : Type 0} (means : B → Means) (old new : KernelState B) (e : Event) → is_still e ≡ true → Holds means old
    → LeavesTurn means old new → interleaved_step (interleaved_of means old) e ≡ Some (interleaved_of means new) → Keeps means new
keeps-after {B} means old new e still holds leaves h = record {
  holds = record {
    sound = stays_sound-law f g e holds.sound h;
    own = subst (λ (w : Wire). w.own ≤ ADDRESS_MAX) (sym leaves.wire) holds.own;
    runs = runs leaves.running;
    dials = dials-after f g e still holds.dials h;
    few = few-after f g e holds.few h;
  };
  is_part = part leaves.running;
}
  where
    f : InterleavedState
    f = interleaved_of means old

    g : InterleavedState
    g = interleaved_of means new

    runs : (new.running ≡ old.running) × (new.room ≡ old.room) ⊎ (new.running ≡ None) → (r : Running) → new.running ≡ Some r → RunsTurn means new r
    runs (inl same) r is = leaves-runs means old new e holds same.0 same.1 leaves h r is
    runs (inr over) r is = absurd (none-some r (sym over ∙ is))

    part : (new.running ≡ old.running) × (new.room ≡ old.room) ⊎ (new.running ≡ None) → (u : Turn) → (interleaved_of means new).turn ≡ Some u
        → turn_stand (interleaved_of means new) u u.moves ≡ Part
    part (inl same) u is =
        stays-part (interleaved_of means old) (interleaved_of means new) e u holds.sound h
        (ap (λ x. turn_shown x old.made) (sym same.0) ∙ ap (turn_shown new.running) (sym leaves.made) ∙ is) is (leaves-before means old new same.0 leaves)
    part (inr over) u is = absurd (none-some u (sym (ap (λ x. turn_shown x new.made) over) ∙ is))

-- ---- and at a later moment

-- what a core keeps it keeps at a later moment, on a bus whose lines and addresses are as they were
pub keeps-later : {B : Type 0} (means : B → Means) (k : KernelState B) (bus : B) (moment : ℕ) → (means bus).wire ≡ (means k.bus).wire → k.moment ≤ moment
    → Keeps means k → Keeps means (record k { bus = bus; moment = moment })
keeps-later {B} means k bus moment wire le keeps = record {
  holds = record {
    sound = record {
      turn_stands = subst TurnOn (sym wire)
          (later-stands k.tables (interleaved_of means k).before (means k.bus).wire k.moment moment (interleaved_of means k).turn le keeps.holds.sound.turn_stands);
      have_come = λ conn p at. let came = keeps.holds.sound.have_come conn p at in omega (arith, came, le);
      tables = keeps.holds.sound.tables;
    };
    own = subst (λ (w : Wire). w.own ≤ ADDRESS_MAX) (sym wire) keeps.holds.own;
    runs = runs;
    dials = keeps.holds.dials;
    few = keeps.holds.few;
  };
  is_part = part;
}
  where
    TurnOn : Wire → Type 0
    TurnOn w = TurnStands k.tables (before_shown k.running k.before w) w moment (turn_shown k.running k.made)

    runs : (r : Running) → k.running ≡ Some r → RunsTurn means (record k { bus = bus; moment = moment }) r
    runs r is =
        let was = keeps.holds.runs r is in
        record {
          asked = was.asked;
          call_at = was.call_at;
          job_is = was.job_is;
          plain = was.plain;
          sent = was.sent;
          few = was.few;
          own = was.own;
          begins = begins-same r.turn k.before k.before _ k.made k.made (means k.bus) (means bus) refl refl wire was.begins;
          holds = was.holds;
        }

    part : (u : Turn) → turn_shown k.running k.made ≡ Some u
        → call_stand k.tables (before_shown k.running k.before (means bus).wire) u.connection u.moves (pending_at k.tables u.connection) ≡ Part
    part u is =
        ap (λ (w : Wire). call_stand k.tables (before_shown k.running k.before w) u.connection u.moves (pending_at k.tables u.connection)) wire ∙ keeps.is_part u is
