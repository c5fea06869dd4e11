-- Events that are allowed at a later moment are allowed at an earlier one.
use Rattle.std.proofs.Common.{◌≡◌, ◌≤◌, ◌==◌, ℕ, Bool, true, false, cond, List, [], ◌∷◌, ◌++◌, Option, Some, None, refl, sym, ap, ◌∙◌, subst, arith}
use Rattle.std.specs.Prelude.{nat_le, is_none, is_some, not, ◌&&◌}
use Rattle.std.specs.Option.{option_map, option_and_then}
use Rattle.vx_lemmas.proofs.Laws.Conditions.{chosen}
use Rattle.vx_calls.specs.declared.calls.Role.TheVariants as role
use Rattle.vx_calls.specs.Reply.{Reply, same_reply}
use Rattle.vx_calls.specs.ErrorCode.{same_error}
use Rattle.vx_rules.specs.SrqState.{given, taken, sampled}
use Rattle.vx_488.specs.Wire.{wire_after}
use Rattle.std.proofs.lemmas.Bool.{and_parts, and_from, cond-true, leb-true, le-leb, eqb-true}
use Rattle.std.proofs.lemmas.Option.{none-some, same_Some}
use Rattle.vx_rules.specs.Lists.{along}
use Rattle.vx_rules.specs.Lines.{lets_pass, ahead_of, is_first}
use Rattle.vx_rules.proofs.Laws.{bus-job}
use Rattle.vx_rules.specs.Decide.{BusInput, decide_in}
use Rattle.vx_rules.specs.State.{Pending, Tables, State, pending_at, connection_at, lives_as, is_idle, has_room, with_pending, with_connection, without_connection}
use Rattle.vx_rules.specs.AtomicStep.{may_wait, arrived, answer_in, answered, answer_to_in, if_reply, same_given, abort_reply, abort_tables}
use Rattle.vx_flow.specs.Event.{Event, Up, Down, Arrive, Answer, Abort, Sample, Take, Begin, Move, Dial}
use Rattle.vx_488.specs.declared.transfers.Transfer.{Transfer}
use Rattle.vx_flow.specs.InterleavedState.{Turn, InterleavedState}
use Rattle.vx_flow.specs.InterleavedStep.{comes_in_turn, interleaved_after, any_turn_step, interleaved_step, busy_with, is_answered, bus_input, answered_interleaved, wire_for, may_begin, may_dial, may_move, goes_on, turn_stand, is_on, without_dial}
use Rattle.vx_flow.specs.Poll.{at_moment}
use Rattle.vx_flow.specs.Sound.{Stands, TurnStands, IsSound}
use Rattle.vx_flow.specs.Laws.{EarlierLaw}
use Rattle.vx_flow.proofs.Laws.Ahead.{ahead-on}
use Rattle.vx_flow.proofs.Laws.Linearizing.{stays_sound-law}
use Rattle.vx_rules.proofs.Laws.Lists.{along-none}

-- an event leads from the earlier moment to the same state, but for its moment
abbrev Leads : InterleavedState → Option InterleavedState → InterleavedState → Type 0
Leads f found g = (moment : ℕ) × (found ≡ Some (at_moment g moment)) × (moment ≤ g.state.moment) × (f.state.moment ≤ moment)

-- a test that passes at the earlier moment where it does at the later one, and then this moment has come
timed : (f g : InterleavedState) (now told : ℕ) (before after : Bool) (found : Option InterleavedState) → f.state.moment ≤ now → (after ≡ true → (before ≡ true) × (now ≤ told))
    → cond after found None ≡ Some g → (found ≡ Some g → g.state.moment ≡ told) → Leads f (cond before found None) g
timed f g now told before after found le lets h is =
    let parts = chosen after found g h in
    let let_so = lets parts.0 in
    (g.state.moment, cond-true before found None let_so.0 ∙ parts.1, omega arith, omega (arith, le, let_so.1, is parts.1))

-- the tests of events with a moment
first-test : (early late told : ℕ) (rest : Bool) → early ≤ late → (nat_le late told && rest) ≡ true → ((nat_le early told && rest) ≡ true) × (late ≤ told)
first-test early late told rest le h =
    let tests = and_parts (nat_le late told) rest h in
    let later = leb-true late told tests.0 in
    (and_from (nat_le early told) rest (le-leb early told (omega (arith, le, later))) tests.1, later)

only-test : (early late told : ℕ) → early ≤ late → nat_le late told ≡ true → (nat_le early told ≡ true) × (late ≤ told)
only-test early late told le h = let later = leb-true late told h in (le-leb early told (omega (arith, le, later)), later)

second-test : (early late told : ℕ) (first rest : Bool) → early ≤ late → (first && nat_le late told && rest) ≡ true
    → ((first && nat_le early told && rest) ≡ true) × (late ≤ told)
second-test early late told first rest le h =
    let tests = and_parts (first && nat_le late told) rest h in
    let both = and_parts first (nat_le late told) tests.0 in
    let later = leb-true late told both.1 in
    (and_from (first && nat_le early told) rest (and_from first (nat_le early told) both.0 (le-leb early told (omega (arith, le, later)))) tests.1, later)

third-test : (early late told : ℕ) (second rest : Bool) → early ≤ late → (nat_le late told && second && rest) ≡ true
    → ((nat_le early told && second && rest) ≡ true) × (late ≤ told)
third-test early late told second rest le h =
    let tests = and_parts (nat_le late told && second) rest h in
    let both = first-test early late told second le tests.0 in
    (and_from (nat_le early told && second) rest both.0 tests.1, both.1)

-- a test without one
untimed : (f g : InterleavedState) (now : ℕ) (test : Bool) (found : InterleavedState) → f.state.moment ≤ now → found.state.moment ≡ now
    → cond test (Some found) None ≡ Some g → Leads f (cond test (Some (at_moment found f.state.moment)) None) g
untimed f g now true found le is h =
    let same = same_Some found g h in
    (f.state.moment, ap (λ x. Some (at_moment x f.state.moment)) same, omega (arith, le, is, ap (λ (x : InterleavedState). x.state.moment) same), omega arith)
untimed f g now false found le is h = cc

-- one that passes at the earlier moment where it does at the later one
untimed-by : (f g : InterleavedState) (now : ℕ) (before after : Bool) (found : InterleavedState) → f.state.moment ≤ now → found.state.moment ≡ now → (after ≡ true → before ≡ true)
    → cond after (Some found) None ≡ Some g → Leads f (cond before (Some (at_moment found f.state.moment)) None) g
untimed-by f g now before true found le is lets h =
    subst (λ b. Leads f (cond b (Some (at_moment found f.state.moment)) None) g) (sym (lets refl)) (untimed f g now true found le is h)
untimed-by f g now before false found le is lets h = cc

-- a turn that may go on at the later moment may at the earlier one: no other call stands in line before its own
goes-earlier : (f : InterleavedState) (u : Turn) (now : ℕ) → f.turn ≡ Some u → IsSound f → (o : Option Pending) → pending_at f.state.tables u.connection ≡ o
    → goes_on (record f.state { moment = now }) u.connection o ≡ true → goes_on f.state u.connection o ≡ true
goes-earlier f u now turn sound None at h = h
goes-earlier f u now turn sound (Some p) at h =
    let t = f.state.tables in
    let own = f.state.wire.own in
    let stands : Stands t f.before f.state.wire f.state.moment u = subst (TurnStands t f.before f.state.wire f.state.moment) turn sound.turn_stands in
    let same : stands.asked ≡ p = same_Some stands.asked p (sym stands.call_at ∙ at) in
    and_from (not p.aborted && lets_pass t own u.connection p) (is_first t own u.connection p f.state.moment)
    (and_parts (not p.aborted && lets_pass t own u.connection p) (is_first t own u.connection p now) h).0
    (subst (λ q. is_first t own u.connection q f.state.moment ≡ true) same
    (ap is_none (ap (λ about. ahead_of t None own f.state.moment u.connection about stands.asked.call) stands.on_link
    ∙ ahead-on t None own f.state.moment u.connection stands.link stands.asked.call (bus-job stands.link.target stands.asked.call stands.job stands.has_job)
    ∙ stands.first f.state.moment stands.began)))

move-earlier : (f : InterleavedState) (now conn : ℕ) (moves : List Transfer) (turn : Option Turn) → f.turn ≡ turn → IsSound f
    → may_move (at_moment f now) conn moves turn ≡ true → may_move f conn moves turn ≡ true
move-earlier f now conn moves None is sound h = h
move-earlier f now conn moves (Some u) is sound h =
    let t = f.state.tables in
    let late = goes_on (record f.state { moment = now }) conn (pending_at t conn) in
    let on = is_on (turn_stand f u (u.moves ++ moves)) in
    let tests = and_parts ((u.connection == conn) && late) on h in
    let first = and_parts (u.connection == conn) late tests.0 in
    let same : u.connection ≡ conn = eqb-true u.connection conn first.0 in
    and_from ((u.connection == conn) && goes_on f.state conn (pending_at t conn)) on
    (and_from (u.connection == conn) (goes_on f.state conn (pending_at t conn)) first.0
    (subst (λ c. goes_on (record f.state { moment = now }) c (pending_at t c) ≡ true → goes_on f.state c (pending_at t c) ≡ true) same
    (goes-earlier f u now is sound (pending_at t u.connection) refl) first.1))
    tests.1

-- ---- events

-- an entry of one thread without a moment of its own
calm-one : (f g : InterleavedState) (now : ℕ) (e : Event) (test : Bool) (s : State) → f.state.moment ≤ now → s.moment ≡ now
    → option_map (interleaved_after f e f.dialed) (cond test (Some s) None) ≡ Some g
    → Leads f (option_map (interleaved_after f e f.dialed) (cond test (Some (record s { moment = f.state.moment })) None)) g
calm-one f g now e true s le is h = untimed f g now true (interleaved_after f e f.dialed s) le is h
calm-one f g now e false s le is h = cc

-- and one with a moment
timed-one : (f g : InterleavedState) (now told : ℕ) (e : Event) (before after : Bool) (s : State) → f.state.moment ≤ now → s.moment ≡ told
    → (after ≡ true → (before ≡ true) × (now ≤ told)) → option_map (interleaved_after f e f.dialed) (cond after (Some s) None) ≡ Some g
    → Leads f (option_map (interleaved_after f e f.dialed) (cond before (Some s) None)) g
timed-one f g now told e before true s le is lets h =
    let let_so = lets refl in (
      g.state.moment,
      ap (option_map (interleaved_after f e f.dialed)) (cond-true before (Some s) None let_so.0) ∙ h,
      omega arith,
      omega (arith, le, let_so.1, is, ap (λ (y : InterleavedState). y.state.moment) (same_Some (interleaved_after f e f.dialed s) g h)),
    )
timed-one f g now told e before false s le is lets h = cc

-- an answer is given at its moment
answered-moment : (f g : InterleavedState) (e : Event) (busy : Option ℕ) (conn told : ℕ) (s : State) (o : BusInput) (reply : Reply)
    → option_map (answered_interleaved f e conn) (option_and_then (if_reply reply) (answer_in s busy conn told o)) ≡ Some g → g.state.moment ≡ told
answered-moment f g e busy conn told s o reply h = by_call (pending_at s.tables conn) h where
  by_same : (d : Reply × Tables) (same : Bool) → option_map (answered_interleaved f e conn) (cond same (Some (answered s conn told o.moves d).1) None) ≡ Some g
      → g.state.moment ≡ told
  by_same d true x = sym (ap (λ (y : InterleavedState). y.state.moment) (same_Some (answered_interleaved f e conn (answered s conn told o.moves d).1) g x))
  by_same d false x = cc

  by_reply : (d : Option (Reply × Tables))
      → option_map (answered_interleaved f e conn) (option_and_then (if_reply reply) (option_map (answered s conn told o.moves) d)) ≡ Some g → g.state.moment ≡ told
  by_reply None x = cc
  by_reply (Some d) x = by_same d (same_reply d.0 reply) x

  by_call : (p : Option Pending)
      → option_map (answered_interleaved f e conn) (option_and_then (if_reply reply) (option_and_then (answer_to_in s busy conn told o) p)) ≡ Some g → g.state.moment ≡ told
  by_call None x = cc
  by_call (Some p) x = by_reply (decide_in s.tables busy s.wire conn p told o) x

step-earlier : (e : Event) (f g : InterleavedState) (now : ℕ) → IsSound f → f.state.moment ≤ now → any_turn_step (at_moment f now) e ≡ Some g → Leads f (any_turn_step f e) g
step-earlier (Up conn r) f g now sound le h =
    calm-one f g now (Up conn r) ((conn == f.state.tables.next_connection) && has_room f.state.tables r)
    (record f.state { tables = with_connection f.state.tables r; moment = now }) le refl h
step-earlier (Abort conn lid told) f g now sound le h =
    calm-one f g now (Abort conn lid told) (lives_as f.state.tables conn role.Abort && same_error (abort_reply f.state.tables lid) told)
    (record f.state { tables = abort_tables f.state.tables lid; moment = now }) le refl h
step-earlier (Take conn chan told) f g now sound le h =
    calm-one f g now (Take conn chan told) (is_some (connection_at f.state.tables conn) && same_given (given f.state.tables.srq_state conn chan) told)
    (record f.state { tables = record f.state.tables { srq_state = taken f.state.tables.srq_state conn chan }; moment = now }) le refl h
step-earlier (Down conn) f g now sound le h =
    untimed f g now (is_some (connection_at f.state.tables conn))
    (interleaved_after f (Down conn) (without_dial f.dialed conn) (record f.state { tables = without_connection f.state.tables conn; moment = now })) le refl h
step-earlier (Move conn moves) f g now sound le h =
    untimed-by f g now (may_move f conn moves f.turn) (may_move (at_moment f now) conn moves f.turn)
    (interleaved_after f (Move conn moves) f.dialed (record f.state { wire = wire_after f.state.wire moves; moment = now })) le refl
    (move-earlier f now conn moves f.turn refl sound) h
step-earlier (Begin conn told) f g now sound le h =
    let found : InterleavedState = record (interleaved_after f (Begin conn told) f.dialed (record f.state { moment = told })) { before = f.state.wire } in
    let rest = may_begin f.state conn told (pending_at f.state.tables conn) in
    timed f g now told (is_none f.turn && nat_le f.state.moment told && rest) (is_none f.turn && nat_le now told && rest) (Some found) le
    (second-test f.state.moment now told (is_none f.turn) rest le) h (λ is. ap (λ (y : InterleavedState). y.state.moment) (sym (same_Some found g is)))
step-earlier (Dial conn told) f g now sound le h =
    let found : InterleavedState = interleaved_after f (Dial conn told) (without_dial f.dialed conn ++ conn ∷ []) (record f.state { moment = told }) in
    let rest = may_dial f.state conn told (pending_at f.state.tables conn) in
    timed f g now told (nat_le f.state.moment told && rest) (nat_le now told && rest) (Some found) le
    (first-test f.state.moment now told rest le) h (λ is. ap (λ (y : InterleavedState). y.state.moment) (sym (same_Some found g is)))
step-earlier (Sample told srq) f g now sound le h =
    timed-one f g now told (Sample told srq) (nat_le f.state.moment told) (nat_le now told)
    (record f.state { tables = record f.state.tables { srq_state = sampled f.state.tables.srq_state srq }; moment = told }) le refl
    (only-test f.state.moment now told le) h
step-earlier (Arrive conn asked told) f g now sound le h =
    timed-one f g now told (Arrive conn asked told) (nat_le f.state.moment told && is_idle f.state.tables conn && may_wait asked)
    (nat_le now told && is_idle f.state.tables conn && may_wait asked)
    (record f.state { tables = with_pending f.state.tables conn (Some (arrived asked told)); moment = told }) le refl
    (third-test f.state.moment now told (is_idle f.state.tables conn) (may_wait asked) le) h
step-earlier (Answer conn told failed dialed level reply) f g now sound le h =
    let o = bus_input f conn failed dialed level in
    let e = Answer conn told failed dialed level reply in
    let rest = is_answered f conn told o (pending_at f.state.tables conn) in
    let found = answer_in (record f.state { wire = wire_for f conn }) (busy_with f.turn) conn told o in
    timed f g now told (nat_le f.state.moment told && rest) (nat_le now told && rest)
    (option_map (answered_interleaved f e conn) (option_and_then (if_reply reply) found)) le
    (first-test f.state.moment now told rest le) h
    (answered-moment f g e (busy_with f.turn) conn told (record f.state { wire = wire_for f conn }) o reply)

-- an event
interleaved-earlier : (e : Event) (f g : InterleavedState) (now : ℕ) → IsSound f → f.state.moment ≤ now → interleaved_step (at_moment f now) e ≡ Some g → Leads f (interleaved_step f e) g
interleaved-earlier e f g now sound le h =
    let parts = chosen (comes_in_turn f e f.turn) (any_turn_step (at_moment f now) e) g h in
    let led = step-earlier e f g now sound le parts.1 in
    (led.0, cond-true (comes_in_turn f e f.turn) (any_turn_step f e) None parts.0 ∙ led.1, led.2, led.3)

pub earlier_law-holds : EarlierLaw
earlier_law-holds f g now [] sound le h = (f.state.moment, ap (λ x. Some (at_moment x f.state.moment)) (same_Some (at_moment f now) g h), omega (arith, le, ap (λ (y : InterleavedState). y.state.moment) (same_Some (at_moment f now) g h)))
earlier_law-holds f g now (e ∷ es) sound le h = by (interleaved_step (at_moment f now) e) refl h (λ f g now sound le h. earlier_law-holds f g now es sound le h) where
  by : (o : Option InterleavedState) → interleaved_step (at_moment f now) e ≡ o → along interleaved_step o es ≡ Some g
      → ((f g : InterleavedState) (now : ℕ) → IsSound f → f.state.moment ≤ now → along interleaved_step (Some (at_moment f now)) es ≡ Some g
      → (moment : ℕ) × (along interleaved_step (Some f) es ≡ Some (at_moment g moment)) × (moment ≤ g.state.moment))
      → (moment : ℕ) × (along interleaved_step (interleaved_step f e) es ≡ Some (at_moment g moment)) × (moment ≤ g.state.moment)
  by None is x rest = absurd (none-some g (sym (along-none interleaved_step es) ∙ x))
  by (Some mid) is x rest =
      let led = interleaved-earlier e f mid now sound le is in
      let more = rest (at_moment mid led.0) g mid.state.moment (stays_sound-law f (at_moment mid led.0) e sound led.1) led.2 x in
      (more.0, ap (λ o. along interleaved_step o es) led.1 ∙ more.1, more.2)
