-- The end of a connection, with or without a turn of its call.
use Rattle.std.proofs.Common.{◌≡◌, ◌≢◌, ◌≤◌, ◌==◌, ℕ, Bool, true, false, cond, ◌⊎◌, inl, inr, List, [], ◌∷◌, Option, Some, None, refl, sym, ap, ◌∙◌, subst, arith}
use Rattle.std.specs.Prelude.{is_some, not, ◌&&◌, if◌then◌else◌}
use Rattle.std.specs.Option.{option_map}
use Rattle.std.specs.List.{find, filter}
use Rattle.std.proofs.lemmas.Bool.{cases_Bool, true≢false, and_from, and_right, or_left, or_right, cond-true, cases_eq, eqb-true, eqb-false}
use Rattle.std.proofs.lemmas.Option.{cond_some, none-some, same_Some}
use Rattle.vx_calls.specs.declared.targets.Target.{Target}
use Rattle.vx_calls.specs.Target.{conflict}
use Rattle.vx_488.specs.declared.wire.Wire.{Wire}
use Rattle.vx_plan.specs.Plan.{Stand, Whole, Part, Off}
use Rattle.vx_rules.specs.Table.{Link}
use Rattle.vx_rules.specs.Locks.{Lock, keeps_off, holder_of, with_lock}
use Rattle.vx_rules.specs.State.{Pending, Tables, State, connection_at, pending_at, without_connection, is_lock_of}
use Rattle.vx_rules.specs.Checks.{OnLink, named_link}
use Rattle.vx_rules.specs.Lines.{lets_pass}
use Rattle.vx_rules.specs.Effects.{task_of}
use Rattle.vx_rules.specs.Decide.{is_nothing, is_part, stand_on, is_part_of, may_have_made}
use Rattle.vx_rules.specs.Entry as entry
use Rattle.vx_rules.specs.AtomicStep.{may_leave}
use Rattle.vx_rules.proofs.Laws.{bus-job}
use Rattle.vx_flow.specs.Event.{Down}
use Rattle.vx_flow.specs.InterleavedState.{Turn, InterleavedState, before_turn, moves_of}
use Rattle.vx_flow.specs.InterleavedStep.{is_whole, without_dial, any_turn_step, wire_before}
use Rattle.vx_flow.specs.Sound.{Stands, HaveCome, IsSound}
use Rattle.vx_lemmas.proofs.Laws.Lists.{find_filter-none, find_append-none}
use Rattle.vx_rules.proofs.Laws.Rows.{pending-gone, pending-others, link-others}
use Rattle.vx_flow.proofs.Laws.Jobs.{passes-from}
use Rattle.vx_flow.proofs.Laws.Kept.{Goes, IsOpen, Stays, turn-stand, calm}
use Rattle.vx_flow.proofs.Laws.Calm.{GoesOn}
use Rattle.vx_flow.proofs.Laws.Turning.{in_turn}
use Rattle.vx_rules.specs.Sound as rules
use Rattle.vx_rules.proofs.Laws.Keeping.{without_connection-sound}
use Rattle.vx_flow.specs.Sound.{request_on}
use Rattle.vx_flow.proofs.Laws.Ahead.{ahead-stays, left-shrinks, on-number, held-kept, others-locks, none-of-another}

-- ---- what a call may have made that ends early

-- a list that keeps to the plan and isn't whole is a part
part-of : (s : Stand) → s ≢ Off → is_whole s ≡ false → is_part s ≡ true
part-of Whole on more = absurd (true≢false more)
part-of Part on more = refl
part-of Off on more = absurd (on refl)

-- the job of the turn's call
pub job-is : (t : Tables) (before now : Wire) (m : ℕ) (u : Turn) (s : Stands t before now m u) → task_of (named_link t u.connection s.asked.call) s.asked.call ≡ Some s.job
job-is t before now m u s = ap (λ a. task_of a s.asked.call) s.on_link ∙ s.has_job

-- the turn's call passes where its turn has made transfers
pub turn-passes : (t : Tables) (before now : Wire) (m : ℕ) (u : Turn) (s : Stands t before now m u) → is_nothing u.moves ≡ false
    → lets_pass t before.own u.connection s.asked ≡ true
turn-passes t before now m u s some =
    passes-from t before.own u.connection s.asked s.link s.on_link (bus-job s.link.target s.asked.call s.job s.has_job) (s.passes some)

-- the transfers of a turn that isn't whole
pub may-made : (t : Tables) (before now : Wire) (m : ℕ) (u : Turn) (s : Stands t before now m u) → is_whole (stand_on before s.asked.call s.job u.moves) ≡ false
    → may_have_made t before u.connection s.asked u.moves ≡ true
may-made t before now m u s more = by (cases_Bool (is_nothing u.moves)) where
  part : is_part_of before s.asked.call u.moves (task_of (named_link t u.connection s.asked.call) s.asked.call) ≡ true
  part =
      ap (is_part_of before s.asked.call u.moves) (job-is t before now m u s)
      ∙ and_from _ _ s.in_role (part-of (stand_on before s.asked.call s.job u.moves) s.on_plan more)

  by : (is_nothing u.moves ≡ true) ⊎ (is_nothing u.moves ≡ false) → may_have_made t before u.connection s.asked u.moves ≡ true
  by (inl e) = or_left _ _ e
  by (inr e) = or_right _ _ (and_from _ _ (turn-passes t before now m u s e) part)

-- ---- locks that are let go, and one more

-- no holder is found where no lock is
no-lock : (o : Option Lock) → option_map (λ k. k.link) o ≡ None → o ≡ None
no-lock None h = refl
no-lock (Some k) h = cc

pub holder-filter : (keep : Lock → Bool) (locks : List Lock) (lid : ℕ) (target : Target) → holder_of locks lid target ≡ None → holder_of (filter keep locks) lid target ≡ None
holder-filter keep locks lid target h =
    ap (option_map (λ k. k.link)) (find_filter-none (keeps_off lid target) keep locks (no-lock (find (keeps_off lid target) locks) h))

pub holder-with : (locks : List Lock) (n lid : ℕ) (new target : Target) → conflict new target ≡ false → holder_of locks lid target ≡ None
    → holder_of (with_lock locks n new) lid target ≡ None
holder-with locks n lid new target apart h =
    ap (option_map (λ k. k.link)) (
    find_append-none (keeps_off lid target) locks (record { link = n; target = new } ∷ []) (no-lock (find (keeps_off lid target) locks) h)
    ∙ ap (λ b. cond b (Some (record { link = n; target = new })) None) (and_right (not (n == lid)) (conflict new target) apart))

-- ---- a connection goes

-- the calls of the others have come, and the turn of another's call stays
gone-come : (t : Tables) (conn moment : ℕ) → HaveCome t moment → HaveCome (without_connection t conn) moment
gone-come t conn moment come m p at = by (cases_eq conn m) where
  by : (conn ≡ m) ⊎ (conn ≡ m → ⊥) → p.arrival ≤ moment
  by (inl e) =
      absurd (none-some p (sym (pending-gone t conn) ∙ ap (pending_at (without_connection t conn)) e ∙ at))
  by (inr ne) = come m p (sym (pending-others t conn m ne) ∙ at)

gone-stays : (t : Tables) (conn other : ℕ) (l : Link) (p : Pending) → rules.IsSound t → conn ≢ other → pending_at t other ≡ Some p → named_link t other p.call ≡ OnLink l
    → Stays t (without_connection t conn) other l p
gone-stays t conn other l p sound ne at on = record {
  aborted = p.aborted;
  call_at = pending-others t conn other ne ∙ at;
  links = λ lid h. link-others t conn other lid ne ∙ h;
  locks = λ h. holder-filter (λ k. not (is_lock_of t.links.links conn k)) t.locks l.number l.target h;
  ahead = λ at h.
      let link = on-number t other p.call l on in
      ahead-stays t (without_connection t conn) other at (request_on l)
      (left-shrinks t (without_connection t conn) conn other ne refl (λ n lid other. link-others t conn n lid other) (λ n other. pending-others t conn n other))
      (held-kept t.locks (λ k. not (is_lock_of t.links.links conn k)) l.number (others-locks t conn l.number (none-of-another t conn other link.0 l sound link.1 ne))) h;
}

-- a connection may always go with no transfers
leaves-nothing : (t : Tables) (s : State) (conn : ℕ) (o : Option Pending) → may_leave t s conn [] o ≡ true
leaves-nothing t s conn None = refl
leaves-nothing t s conn (Some p) = refl

-- the turn, where it is of this connection, and where it isn't
abbrev pub own_turn : Bool → Turn → Option Turn
own_turn own u = if own then Some u else None

abbrev pub turn_left : Bool → Turn → Option Turn
turn_left own u = if own then None else Some u

-- the state behind the end of a connection
abbrev left_by : State → ℕ → Option Turn → Wire → List ℕ → InterleavedState
left_by s conn turn before dialed = record {
  state = record s { tables = without_connection s.tables conn };
  turn = turn;
  before = wire_before turn s.wire before;
  dialed = without_dial dialed conn;
}

-- without a turn of its own
down-calm : (s : State) (turn : Option Turn) (before : Wire) (dialed : List ℕ) (k conn : ℕ)
    → IsSound (in_turn s turn before dialed) → k ≤ s.moment → IsOpen (in_turn s turn before dialed)
    → is_some (connection_at s.tables conn) ≡ true → ((u : Turn) → turn ≡ Some u → conn ≢ u.connection)
    → Goes (in_turn s turn before dialed) k (entry.Down conn [] ∷ []) turn (left_by s conn turn before dialed)
down-calm s turn before dialed k conn sound early more lives ne =
    let t = s.tables in
    let f = in_turn s turn before dialed in
    calm f k (entry.Down conn [] ∷ []) (without_connection t conn) s.moment k (without_dial dialed conn) sound more
    (cond-true (is_some (connection_at t conn) && may_leave t (before_turn f k) conn [] (pending_at t conn)) _ _
    (and_from _ _ lives (leaves-nothing t (before_turn f k) conn (pending_at t conn))))
    early (omega arith)
    (λ u is st. gone-stays t conn u.connection st.link st.asked sound.tables (ne u is) st.call_at st.on_link)
    (gone-come t conn s.moment sound.have_come)

-- in the middle of its turn
down-own : (s : State) (u : Turn) (before : Wire) (dialed : List ℕ) (k conn : ℕ)
    → IsSound (in_turn s (Some u) before dialed) → k ≤ s.moment → IsOpen (in_turn s (Some u) before dialed)
    → is_some (connection_at s.tables conn) ≡ true → u.connection ≡ conn
    → Goes (in_turn s (Some u) before dialed) k (entry.Down conn u.moves ∷ []) None (left_by s conn None before dialed)
down-own s u before dialed k conn sound early more lives same =
    let t = s.tables in
    let f = in_turn s (Some u) before dialed in
    let st : Stands t before s.wire s.moment u = sound.turn_stands in
    let made = may-made t before s.wire s.moment u st (sym (ap is_whole (turn-stand t before s.wire s.moment u st u.moves)) ∙ more u refl) in
    let leaves : may_leave t (before_turn f k) conn u.moves (pending_at t conn) ≡ true =
    subst (λ c. may_leave t (before_turn f k) c u.moves (pending_at t c) ≡ true) same (
    ap (may_leave t (before_turn f k) u.connection u.moves) st.call_at ∙ made) in
    record {
      moment = k;
      reaches =
          cond-true (is_some (connection_at t conn) && may_leave t (before_turn f k) conn u.moves (pending_at t conn)) _ _ (and_from _ _ lives leaves)
          ∙ ap (λ w. Some (record { tables = without_connection t conn; wire = w; moment = k })) (sym st.made);
      earlier = early;
      turn_is = refl;
      sound = record { turn_stands = refl; have_come = gone-come t conn s.moment sound.have_come; tables = without_connection-sound t conn sound.tables };
      stays = λ v same is sv. absurd (none-some u same);
    }

-- by whose turn is under way
down-turn : (s : State) (turn : Option Turn) (before : Wire) (dialed : List ℕ) (g : InterleavedState) (k conn : ℕ)
    → IsSound (in_turn s turn before dialed) → k ≤ s.moment → IsOpen (in_turn s turn before dialed)
    → any_turn_step (in_turn s turn before dialed) (Down conn) ≡ Some g → GoesOn (in_turn s turn before dialed) k (Down conn) g
down-turn s None before dialed g k conn sound early more h =
    let parts = cond_some (is_some (connection_at s.tables conn)) (left_by s conn None before dialed) g h in
    subst (Goes (in_turn s None before dialed) k (entry.Down conn [] ∷ []) None) parts.1
    (down-calm s None before dialed k conn sound early more parts.0 (λ u is e. none-some u is))
down-turn s (Some u) before dialed g k conn sound early more h =
    let parts = cond_some (is_some (connection_at s.tables conn)) (left_by s conn (turn_left (u.connection == conn) u) before dialed) g h in
    subst (Goes (in_turn s (Some u) before dialed) k (entry.Down conn (moves_of (own_turn (u.connection == conn) u)) ∷ []) (turn_left (u.connection == conn) u))
    parts.1 (by (u.connection == conn) refl parts.0)
  where
    by : (own : Bool) → (u.connection == conn) ≡ own → is_some (connection_at s.tables conn) ≡ true
        → Goes (in_turn s (Some u) before dialed) k (entry.Down conn (moves_of (own_turn own u)) ∷ []) (turn_left own u) (left_by s conn (turn_left own u) before dialed)
    by true e lives = down-own s u before dialed k conn sound early more lives (eqb-true u.connection conn e)
    by false e lives = down-calm s (Some u) before dialed k conn sound early more lives (λ v is same. other v is same)
      where
        other : (v : Turn) → Some u ≡ Some v → conn ≡ v.connection → ⊥
        other v is same = eqb-false u.connection conn e (ap (λ x. x.connection) (same_Some u v is) ∙ sym same)

pub down : (f g : InterleavedState) (k conn : ℕ) → IsSound f → k ≤ f.state.moment → IsOpen f → any_turn_step f (Down conn) ≡ Some g → GoesOn f k (Down conn) g
down f g k conn sound early more h = down-turn f.state f.turn f.before f.dialed g k conn sound early more h
