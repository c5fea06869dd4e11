-- What is kept while a turn is under way.
use Rattle.std.proofs.Common.{◌≡◌, ◌≢◌, ◌≤◌, ℕ, Bool, true, false, cond, List, [], ◌∷◌, Option, Some, None, refl, sym, ap, ◌∙◌, arith}
use Rattle.std.proofs.lemmas.Bool.{true≢false}
use Rattle.vx_calls.specs.Call.{Call}
use Rattle.vx_488.specs.declared.transfers.Transfer.{Transfer}
use Rattle.vx_488.specs.declared.wire.Wire.{Wire}
use Rattle.vx_plan.specs.declared.tasks.Task.{Task}
use Rattle.vx_plan.specs.Plan.{Off}
use Rattle.vx_plan.specs.Tasks.{is_own_task}
use Rattle.vx_rules.specs.Table.{Link}
use Rattle.vx_rules.specs.Locks.{holder_of}
use Rattle.vx_rules.specs.Lines.{first_ahead}
use Rattle.vx_rules.proofs.Laws.Walks.{along-sound}
use Rattle.vx_rules.specs.Calls.{link_named, bytes_of}
use Rattle.vx_rules.specs.State.{Pending, Tables, pending_at, link_of}
use Rattle.vx_rules.specs.Checks.{OnLink, link_found, link_by_number, named_link}
use Rattle.vx_rules.specs.Effects.{task_of}
use Rattle.vx_rules.specs.Decide.{is_nothing, stand_on, stand_of_job}
use Rattle.vx_rules.specs.Lists.{along}
use Rattle.vx_rules.specs.Entry.{Entry}
use Rattle.vx_rules.specs.AtomicStep.{atomic_step}
use Rattle.vx_flow.specs.Event.{Event}
use Rattle.vx_flow.specs.InterleavedState.{Turn, InterleavedState, before_turn}
use Rattle.vx_flow.specs.InterleavedStep.{call_stand, is_whole, turn_stand, is_answer_of, comes_in_turn, wire_before}
use Rattle.vx_flow.specs.Sound.{request_on, Stands, TurnStands, HaveCome, IsSound}
use Rattle.vx_flow.proofs.Laws.Jobs.{check-same, not-own}

-- ---- the turn's transfers aren't whole before its answer comes

-- where the transfers stand
pub turn-stand : (t : Tables) (before now : Wire) (moment : ℕ) (u : Turn) (s : Stands t before now moment u) (moves : List Transfer)
    → call_stand t before u.connection moves (pending_at t u.connection) ≡ stand_on before s.asked.call s.job moves
turn-stand t before now moment u s moves =
    ap (call_stand t before u.connection moves) s.call_at
    ∙ ap (λ a. stand_of_job before s.asked.call moves (task_of a s.asked.call)) s.on_link
    ∙ ap (stand_of_job before s.asked.call moves) s.has_job

pub open_cond : (whole answers : Bool) → cond whole answers true ≡ true → answers ≡ false → whole ≡ false
open_cond true answers h e = absurd (true≢false (sym h ∙ e))
open_cond false answers h e = refl

-- before an event that isn't its answer
abbrev pub IsOpen : InterleavedState → Type 0
IsOpen f = (u : Turn) → f.turn ≡ Some u → is_whole (turn_stand f u u.moves) ≡ false

pub is-open : (f : InterleavedState) (e : Event) → comes_in_turn f e f.turn ≡ true → ((conn : ℕ) → is_answer_of conn e ≡ false) → IsOpen f
is-open f e h other u is =
    open_cond (is_whole (turn_stand f u u.moves)) (is_answer_of u.connection e) (sym (ap (comes_in_turn f e) is) ∙ h) (other u.connection)

-- ---- the turn's call under changes of the tables

-- What a change of the tables leaves the turn's call: it is pending, marked or not; its link lives; no lock that keeps it off is
-- taken; no other call comes to stand in line before it.
pub record Stays (t u : Tables) (conn : ℕ) (l : Link) (p : Pending) : Type 0 where
  pub aborted : Bool
  pub call_at : pending_at u conn ≡ Some (record p { aborted = aborted })
  pub links : (lid : ℕ) → link_of t conn lid ≡ Some l → link_of u conn lid ≡ Some l
  pub locks : holder_of t.locks l.number l.target ≡ None → holder_of u.locks l.number l.target ≡ None
  pub ahead : (at : ℕ) → first_ahead t None at conn (request_on l) ≡ None → first_ahead u None at conn (request_on l) ≡ None

-- From the state before the turn at an earlier moment the gateway of one thread goes by these entries to that of another interleaved
-- state. A turn that is left has its call.
pub record Goes (f : InterleavedState) (k : ℕ) (entries : List Entry) (after : Option Turn) (g : InterleavedState) : Type 0 where
  pub moment : ℕ
  pub reaches : along atomic_step (Some (before_turn f k)) entries ≡ Some (before_turn g moment)
  pub earlier : moment ≤ g.state.moment
  pub turn_is : g.turn ≡ after
  pub sound : IsSound g
  pub stays : (u : Turn) → after ≡ f.turn → f.turn ≡ Some u → (s : Stands f.state.tables f.before f.state.wire f.state.moment u)
      → Stays f.state.tables g.state.tables u.connection s.link s.asked

-- a link that is found is there
pub found_is : (o : Option Link) (l : Link) → link_found o ≡ OnLink l → o ≡ Some l
found_is None l h = cc
found_is (Some k) l h = cc

pub named-stays : (t u : Tables) (conn : ℕ) (l : Link) (asked : Call) → named_link t conn asked ≡ OnLink l
    → ((lid : ℕ) → link_of t conn lid ≡ Some l → link_of u conn lid ≡ Some l) → named_link u conn asked ≡ OnLink l
named-stays t u conn l asked h stays = by (link_named asked) h where
  by : (o : Option ℕ) → link_by_number t conn o ≡ OnLink l → link_by_number u conn o ≡ OnLink l
  by None h = cc
  by (Some lid) h = ap link_found (stays lid (found_is (link_of t conn lid) l h))

-- a list that was begun and isn't whole is of another job than that of a new own address
begun-steady : (before : Wire) (asked : Call) (job : Task) (moves : List Transfer) → is_nothing moves ≡ false
    → stand_on before asked job moves ≢ Off → is_whole (stand_on before asked job moves) ≡ false → is_own_task job ≡ false
begun-steady before asked job [] some on more = absurd (true≢false some)
begun-steady before asked job (m ∷ ms) some on more = not-own job (bytes_of asked) before.polling before.own m ms on more

pub carry : (t t' : Tables) (before now : Wire) (m m' : ℕ) (u : Turn) (s : Stands t before now m u)
    → is_whole (stand_on before s.asked.call s.job u.moves) ≡ false → Stays t t' u.connection s.link s.asked → m ≤ m' → Stands t' before now m' u
carry t t' before now m m' u s more stays le = record {
  asked = record s.asked { aborted = stays.aborted };
  link = s.link;
  job = s.job;
  call_at = stays.call_at;
  on_link = named-stays t t' u.connection s.link s.asked.call s.on_link stays.links;
  has_job = s.has_job;
  in_role = s.in_role;
  made = s.made;
  on_plan = s.on_plan;
  came = s.came;
  began = omega (arith, s.began, le);
  first = λ at after. stays.ahead at (s.first at after);
  passes = λ some. record {
    checked =
        sym (check-same t t' before.own s.link s.asked.call s.job s.has_job (begun-steady before s.asked.call s.job u.moves some s.on_plan more))
        ∙ (s.passes some).checked;
    free = stays.locks (s.passes some).free;
  };
  unmarked = λ some whole. absurd (true≢false (sym whole ∙ more));
}

-- the same for the turn under way, where one is
pub carry-turn : (t t' : Tables) (before now : Wire) (m m' : ℕ) (turn : Option Turn) → TurnStands t before now m turn
    → ((u : Turn) → turn ≡ Some u → is_whole (call_stand t before u.connection u.moves (pending_at t u.connection)) ≡ false)
    → ((u : Turn) → turn ≡ Some u → (s : Stands t before now m u) → Stays t t' u.connection s.link s.asked)
    → m ≤ m' → TurnStands t' (wire_before turn now before) now m' turn
carry-turn t t' before now m m' None h more stays le = refl
carry-turn t t' before now m m' (Some u) h more stays le =
    carry t t' before now m m' u h (sym (ap is_whole (turn-stand t before now m u h u.moves)) ∙ more u refl) (stays u refl h) le

-- the bus before the turn is what it was
pub same-before : (t : Tables) (before now : Wire) (m : ℕ) (turn : Option Turn) → TurnStands t before now m turn → wire_before turn now before ≡ before
same-before t before now m None h = sym h
same-before t before now m (Some u) h = refl

-- the state behind an event that leaves the turn and the bus
abbrev pub calm_after : InterleavedState → Tables → ℕ → List ℕ → InterleavedState
calm_after f t m dialed = record {
  state = record { tables = t; wire = f.state.wire; moment = m };
  turn = f.turn;
  before = wire_before f.turn f.state.wire f.before;
  dialed = dialed;
}

-- an event that leaves the turn and the bus, and its entries
pub calm : (f : InterleavedState) (k : ℕ) (entries : List Entry) (t : Tables) (m k' : ℕ) (dialed : List ℕ) → IsSound f → IsOpen f
    → along atomic_step (Some (before_turn f k)) entries ≡ Some (record { tables = t; wire = f.before; moment = k' }) → k' ≤ m → f.state.moment ≤ m
    → ((u : Turn) → f.turn ≡ Some u → (s : Stands f.state.tables f.before f.state.wire f.state.moment u) → Stays f.state.tables t u.connection s.link s.asked)
    → HaveCome t m → Goes f k entries f.turn (calm_after f t m dialed)
calm f k entries t m k' dialed sound more goes early le stays come = record {
  moment = k';
  reaches =
      goes
      ∙ ap (λ w. Some (record { tables = t; wire = w; moment = k' })) (sym (same-before f.state.tables f.before f.state.wire f.state.moment f.turn sound.turn_stands));
  earlier = early;
  turn_is = refl;
  sound = record {
    turn_stands = carry-turn f.state.tables t f.before f.state.wire f.state.moment m f.turn sound.turn_stands more stays le;
    have_come = come;
    tables = along-sound (Some (before_turn f k)) entries (record { tables = t; wire = f.before; moment = k' }) sound.tables goes;
  };
  stays = λ u same is s. stays u is s;
}
