-- What an event that is allowed passes, and what is kept at a later moment.
use Rattle.std.proofs.Common.{◌≡◌, ◌≢◌, true, Some, ◌≤◌, ℕ, Option, None, arith}
use Rattle.std.proofs.lemmas.Bool.{false≢true}
use Rattle.vx_lemmas.proofs.Laws.Conditions.{chosen}
use Rattle.vx_plan.specs.Plan.{Stand, Whole, Part, Off}
use Rattle.vx_flow.specs.InterleavedStep.{is_on, comes_in_turn, any_turn_step, interleaved_step}
use Rattle.vx_flow.specs.Event.{Event}
use Rattle.vx_flow.specs.InterleavedState.{InterleavedState, Turn}
use Rattle.vx_488.specs.declared.wire.Wire.{Wire}
use Rattle.vx_rules.specs.State.{Tables}
use Rattle.vx_flow.specs.Sound.{TurnStands}
use Rattle.vx_flow.specs.Laws.{LaterSoundLaw}

-- a list that is on its plan isn't off it
pub on-is : (s : Stand) → is_on s ≡ true → s ≢ Off
on-is Whole h e = cc
on-is Part h e = cc
on-is Off h e = false≢true h

-- the event of a step that was allowed passes its own test
pub step-made : (f g : InterleavedState) (e : Event) → interleaved_step f e ≡ Some g → any_turn_step f e ≡ Some g
step-made f g e h = (chosen (comes_in_turn f e f.turn) (any_turn_step f e) g h).1

-- what is kept of the turn under way is kept at a later moment
pub later-stands : (t : Tables) (before now : Wire) (m m' : ℕ) (turn : Option Turn) → m ≤ m' → TurnStands t before now m turn → TurnStands t before now m' turn
later-stands t before now m m' None le h = h
later-stands t before now m m' (Some u) le h = record {
  asked = h.asked;
  link = h.link;
  job = h.job;
  call_at = h.call_at;
  on_link = h.on_link;
  has_job = h.has_job;
  in_role = h.in_role;
  made = h.made;
  on_plan = h.on_plan;
  came = h.came;
  began = omega (arith, h.began, le);
  first = h.first;
  passes = h.passes;
  unmarked = h.unmarked;
}

-- what holds between events holds at a later moment
pub later-sound : LaterSoundLaw
later-sound f now sound le = record {
  turn_stands = later-stands f.state.tables f.before f.state.wire f.state.moment now f.turn le sound.turn_stands;
  have_come = λ conn p at. let came = sound.have_come conn p at in omega (arith, came, le);
  tables = sound.tables;
}
