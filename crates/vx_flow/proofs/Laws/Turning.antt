-- The events of a turn itself, and the end of a connection.
use Rattle.std.proofs.Common.{◌≡◌, ◌≢◌, ◌≤◌, ◌==◌, ℕ, Bool, true, false, List, [], ◌∷◌, ◌++◌, Option, Some, None, refl, sym, ap, ◌∙◌, subst, arith}
use Rattle.std.specs.Prelude.{is_none, nat_le, not, ◌&&◌}
use Rattle.std.proofs.lemmas.Bool.{true≢false, false≢true, and_parts, leb-true, eqb-true}
use Rattle.std.proofs.lemmas.Option.{cond_some, none-some}
use Rattle.vx_lemmas.proofs.Laws.Options.{none-is}
use Rattle.vx_488.specs.declared.transfers.Transfer.{Transfer}
use Rattle.vx_488.specs.declared.wire.Wire.{Wire}
use Rattle.vx_488.specs.Wire.{wire_after}
use Rattle.vx_488.proofs.Laws.{wire_after-append}
use Rattle.vx_plan.specs.Plan.{Slot, Reading, Plan, Off, stand_of, stand}
use Rattle.vx_plan.specs.Tasks.{plan}
use Rattle.vx_rules.specs.Calls.{bytes_of}
use Rattle.vx_rules.specs.State.{Pending, Tables, State, pending_at}
use Rattle.vx_rules.specs.Checks.{named_link}
use Rattle.vx_rules.specs.Lines.{lets_pass, ahead_of, is_first, first_lines}
use Rattle.vx_rules.specs.Decide.{stand_on, has_job_role}
use Rattle.vx_rules.proofs.Laws.{bus-job}
use Rattle.vx_flow.specs.Event.{Begin, Move}
use Rattle.vx_flow.specs.InterleavedState.{Turn, InterleavedState}
use Rattle.vx_flow.specs.InterleavedStep.{is_passed, job_of, is_whole, is_on, may_begin, goes_on, turn_stand, interleaved_after, any_turn_step}
use Rattle.vx_flow.specs.Sound.{Stands, TurnStands, IsSound}
use Rattle.vx_flow.proofs.Laws.Later.{on-is}
use Rattle.vx_flow.proofs.Laws.Jobs.{job-link, role-job, own-stays, passes-parts}
use Rattle.vx_flow.proofs.Laws.Kept.{Goes, IsOpen, turn-stand}
use Rattle.vx_flow.proofs.Laws.Calm.{GoesOn}
use Rattle.vx_rules.proofs.Laws.Walks.{passed-says}
use Rattle.vx_flow.specs.Sound.{request_on}
use Rattle.vx_flow.proofs.Laws.Ahead.{ahead-on, ahead-later}
use Rattle.vx_flow.proofs.Laws.ByLines.{passed-is}

-- ---- a turn begins

-- the empty list keeps to every plan
pub begun-on : (p : Plan) → stand p [] ≢ Off
begun-on p = by p.front p.reading where
  by : (front : List Slot) (reading : Option Reading) → stand_of (Some (record { front = front; reading = reading })) ≡ Off → ⊥
  by [] None h = cc
  by [] (Some r) h = cc
  by (slot ∷ slots) reading h = cc

-- a turn begins for a call with a job, for which the gateway has the role
begin-parts : (s : State) (conn now : ℕ) (o : Option Pending) → may_begin s conn now o ≡ true
    → (p : Pending) × (o ≡ Some p) × (has_job_role s.wire (job_of s.tables conn p) ≡ true)
    × (ahead_of s.tables None s.wire.own now conn (named_link s.tables conn p.call) p.call ≡ None)
begin-parts s conn now None h = absurd (false≢true h)
begin-parts s conn now (Some p) h =
    let parts = and_parts (is_passed (first_lines s.tables s.wire.own conn false p now)) (has_job_role s.wire (job_of s.tables conn p)) h in
    (p, refl, parts.1, (passed-says p now p.aborted _ _ _ (passed-is (first_lines s.tables s.wire.own conn false p now) parts.0)).first_come)

-- so it stands as it begins
begun-stands : (t : Tables) (w : Wire) (conn now : ℕ) (p : Pending) → pending_at t conn ≡ Some p → has_job_role w (job_of t conn p) ≡ true → p.arrival ≤ now
    → ahead_of t None w.own now conn (named_link t conn p.call) p.call ≡ None → Stands t w w now (record { connection = conn; begun = now; moves = [] })
begun-stands t w conn now p at role came none =
    let job = role-job w (job_of t conn p) role in
    let link = job-link (named_link t conn p.call) p.call job.0 job.1 in
    record {
      asked = p;
      link = link.0;
      job = job.0;
      call_at = at;
      on_link = link.1;
      has_job = link.2;
      in_role = job.2;
      made = refl;
      on_plan = begun-on (plan job.0 (bytes_of p.call) w.polling w.own);
      came = came;
      began = omega arith;
      first = λ at after. ahead-later t conn now at (request_on link.0) after
          (sym (ap (λ about. ahead_of t None w.own now conn about p.call) link.1 ∙ ahead-on t None w.own now conn link.0 p.call (bus-job link.0.target p.call job.0 link.2)) ∙ none);
      passes = λ some. absurd (true≢false some);
      unmarked = λ some whole. absurd (true≢false some);
    }

pub begin : (f g : InterleavedState) (k conn now : ℕ) → IsSound f → k ≤ f.state.moment → any_turn_step f (Begin conn now) ≡ Some g → GoesOn f k (Begin conn now) g
begin f g k conn now sound early h =
    let t = f.state.tables in
    let w = f.state.wire in
    let parts = cond_some (is_none f.turn && nat_le f.state.moment now && may_begin f.state conn now (pending_at t conn))
    (record (interleaved_after f (Begin conn now) f.dialed (record f.state { moment = now })) { before = f.state.wire }) g h in
    let tests = and_parts (is_none f.turn && nat_le f.state.moment now) (may_begin f.state conn now (pending_at t conn)) parts.0 in
    let first = and_parts (is_none f.turn) (nat_le f.state.moment now) tests.0 in
    let le : f.state.moment ≤ now = leb-true f.state.moment now first.1 in
    let asked = begin-parts f.state conn now (pending_at t conn) tests.1 in
    let calm : f.before ≡ w = subst (TurnStands t f.before w f.state.moment) (none-is f.turn first.0) sound.turn_stands in
    let came = sound.have_come conn asked.0 asked.1 in
    subst (Goes f k [] (Some (record { connection = conn; begun = now; moves = [] }))) parts.1 (record {
      moment = k;
      reaches = ap (λ b. Some (record { tables = t; wire = b; moment = k })) calm;
      earlier = omega arith;
      turn_is = refl;
      sound = record {
        turn_stands = begun-stands t w conn now asked.0 asked.1 asked.2 (omega (arith, came, le)) asked.3;
        have_come = λ m p at. let earlier = sound.have_come m p at in omega arith;
        tables = sound.tables;
      };
      stays = λ u same is s. absurd (none-some u (sym (none-is f.turn first.0) ∙ is));
    })

-- ---- a turn makes transfers

-- a turn goes on while its call is unmarked and passes
pub goes-parts : (s : State) (conn : ℕ) (o : Option Pending) (p : Pending) → o ≡ Some p → goes_on s conn o ≡ true
    → (p.aborted ≡ false) × (lets_pass s.tables s.wire.own conn p ≡ true)
goes-parts s conn None p e h = cc
goes-parts s conn (Some q) p e h =
    let same : q ≡ p = cc in
    let all = and_parts (not p.aborted && lets_pass s.tables s.wire.own conn p) (is_first s.tables s.wire.own conn p s.moment)
    (subst (λ x. (not x.aborted && lets_pass s.tables s.wire.own conn x && is_first s.tables s.wire.own conn x s.moment) ≡ true) same h) in
    let parts = and_parts (not p.aborted) (lets_pass s.tables s.wire.own conn p) all.0 in
    (by p.aborted parts.0, parts.1)
  where
    by : (b : Bool) → not b ≡ true → b ≡ false
    by true e = absurd (false≢true e)
    by false e = refl

-- it stands with the transfers that it made
moved-stands : (t : Tables) (before now : Wire) (moment : ℕ) (u : Turn) (moves : List Transfer) (s : Stands t before now moment u)
    → is_whole (stand_on before s.asked.call s.job u.moves) ≡ false → is_on (stand_on before s.asked.call s.job (u.moves ++ moves)) ≡ true
    → s.asked.aborted ≡ false → lets_pass t now.own u.connection s.asked ≡ true
    → Stands t before (wire_after now moves) moment (record u { moves = u.moves ++ moves })
moved-stands t before now moment u moves s more on unmarked passes =
    let own : now.own ≡ before.own = ap (λ w. w.own) s.made ∙ own-stays before s.asked.call s.job u.moves s.on_plan more in
    record {
      asked = s.asked;
      link = s.link;
      job = s.job;
      call_at = s.call_at;
      on_link = s.on_link;
      has_job = s.has_job;
      in_role = s.in_role;
      made = ap (λ w. wire_after w moves) s.made ∙ sym (wire_after-append before u.moves moves);
      on_plan = on-is (stand_on before s.asked.call s.job (u.moves ++ moves)) on;
      came = s.came;
      began = s.began;
      first = s.first;
      passes = λ some. passes-parts t before.own u.connection s.asked s.link s.on_link (bus-job s.link.target s.asked.call s.job s.has_job)
          (subst (λ o. lets_pass t o u.connection s.asked ≡ true) own passes);
      unmarked = λ some whole. unmarked;
    }

-- the state behind them
abbrev pub moved : State → Turn → Wire → List ℕ → List Transfer → InterleavedState
moved s u before dialed moves = record {
  state = record s { wire = wire_after s.wire moves };
  turn = Some (record u { moves = u.moves ++ moves });
  before = before;
  dialed = dialed;
}

-- an interleaved state by its parts
abbrev pub in_turn : State → Option Turn → Wire → List ℕ → InterleavedState
in_turn s turn before dialed = record { state = s; turn = turn; before = before; dialed = dialed }

move-turn : (s : State) (turn : Option Turn) (before : Wire) (dialed : List ℕ) (g : InterleavedState) (k conn : ℕ) (moves : List Transfer)
    → IsSound (in_turn s turn before dialed) → k ≤ s.moment → IsOpen (in_turn s turn before dialed)
    → any_turn_step (in_turn s turn before dialed) (Move conn moves) ≡ Some g → GoesOn (in_turn s turn before dialed) k (Move conn moves) g
move-turn s None before dialed g k conn moves sound early more h = cc
move-turn s (Some u) before dialed g k conn moves sound early more h =
    let t = s.tables in
    let f = in_turn s (Some u) before dialed in
    let parts = cond_some ((u.connection == conn) && goes_on s conn (pending_at t conn) && is_on (turn_stand f u (u.moves ++ moves))) (moved s u before dialed moves) g h in
    let tests = and_parts ((u.connection == conn) && goes_on s conn (pending_at t conn)) (is_on (turn_stand f u (u.moves ++ moves))) parts.0 in
    let first = and_parts (u.connection == conn) (goes_on s conn (pending_at t conn)) tests.0 in
    let same : u.connection ≡ conn = eqb-true u.connection conn first.0 in
    let stands : Stands t before s.wire s.moment u = sound.turn_stands in
    let goes = goes-parts s u.connection (pending_at t u.connection) stands.asked stands.call_at
    (subst (λ c. goes_on s c (pending_at t c) ≡ true) (sym same) first.1) in
    subst (Goes f k [] (Some (record u { moves = u.moves ++ moves }))) parts.1 (record {
      moment = k;
      reaches = refl;
      earlier = early;
      turn_is = refl;
      sound = record {
        turn_stands = moved-stands t before s.wire s.moment u moves stands
            (sym (ap is_whole (turn-stand t before s.wire s.moment u stands u.moves)) ∙ more u refl)
            (sym (ap is_on (turn-stand t before s.wire s.moment u stands (u.moves ++ moves))) ∙ tests.1)
            goes.0 goes.1;
        have_come = sound.have_come;
        tables = sound.tables;
      };
      stays = λ v same is sv. record { aborted = sv.asked.aborted; call_at = sv.call_at; links = λ lid x. x; locks = λ x. x; ahead = λ at x. x };
    })

pub move : (f g : InterleavedState) (k conn : ℕ) (moves : List Transfer) → IsSound f → k ≤ f.state.moment → IsOpen f → any_turn_step f (Move conn moves) ≡ Some g
    → GoesOn f k (Move conn moves) g
move f g k conn moves sound early more h = move-turn f.state f.turn f.before f.dialed g k conn moves sound early more h
