-- The events that leave the turn under way and the bus: connections come up, calls arrive or are marked, SRQ is sampled,
-- interrupts are taken, dials asked for.
use Rattle.std.proofs.Common.{is_some, ◌≡◌, ◌≢◌, ◌≤◌, ◌==◌, ℕ, Bool, true, false, cond, ◌⊎◌, inl, inr, [], ◌∷◌, ◌++◌, Option, Some, None, refl, sym, ap, ◌∙◌, subst, arith}
use Rattle.std.specs.Prelude.{is_none, nat_le, ◌&&◌, if◌then◌else◌}
use Rattle.std.specs.Option.{option_map}
use Rattle.std.proofs.lemmas.Bool.{false≢true, and_parts, and_from, cond-true, leb-true, le-leb, cases_eq}
use Rattle.std.proofs.lemmas.Option.{cond_some}
use Rattle.vx_lemmas.proofs.Laws.Options.{mapped}
use Rattle.vx_calls.specs.declared.calls.Role.{Role}
use Rattle.vx_calls.specs.declared.calls.Role.TheVariants as role
use Rattle.vx_calls.specs.declared.codes.ErrorCode.{ErrorCode}
use Rattle.vx_calls.specs.ErrorCode.{same_error}
use Rattle.vx_calls.specs.Call.{Call}
use Rattle.vx_rules.specs.Table.{Link, is_live}
use Rattle.vx_rules.specs.Locks.{holder_of}
use Rattle.vx_rules.specs.SrqState.{Given, taken, sampled}
use Rattle.vx_rules.specs.Calls.{link_named}
use Rattle.vx_rules.specs.State.{Pending, Tables, pending_at, link_of, lives_as, is_idle, has_room, with_pending, with_connection}
use Rattle.vx_rules.specs.Entry as entry
use Rattle.vx_rules.specs.AtomicStep.{atomic_step, may_wait, arrived, names, mark_call, marked, abort_reply, abort_tables}
use Rattle.vx_flow.specs.Event.{Event, Up, Arrive, Abort, Sample, Take, Dial}
use Rattle.vx_flow.specs.InterleavedState.{Turn, InterleavedState, turn_after}
use Rattle.vx_flow.specs.InterleavedStep.{may_dial, without_dial, interleaved_after, any_turn_step}
use Rattle.vx_flow.specs.Linearization.{linearized}
use Rattle.vx_flow.specs.Sound.{Stands, HaveCome, IsSound}
use Rattle.vx_rules.proofs.Laws.Rows.{pending-other, pending-here, pending-up, pending-marked}
use Rattle.vx_flow.proofs.Laws.Kept.{Goes, IsOpen, Stays, calm}
use Rattle.vx_rules.specs.Locks.{holds}
use Rattle.vx_rules.proofs.Laws.Arriving.{idle-new}
use Rattle.vx_flow.specs.Sound.{request_on}
use Rattle.vx_flow.proofs.Laws.Ahead.{Shrinks, ahead-stays, same-shrinks, come-shrinks, mark-shrinks}

-- an event that isn't the turn's leads on so
abbrev pub GoesOn : InterleavedState → ℕ → Event → InterleavedState → Type 0
GoesOn f k e g = Goes f k (linearized f.turn e) (turn_after f.turn e) g

-- tables that have the links, the locks and the calls of others
same-stays : (t u : Tables) (conn : ℕ) (l : Link) (p : Pending) → pending_at t conn ≡ Some p → pending_at u conn ≡ pending_at t conn → u.links ≡ t.links → u.locks ≡ t.locks
    → Shrinks t u conn → Stays t u conn l p
same-stays t u conn l p here same links locks shrinks = record {
  aborted = p.aborted;
  call_at = same ∙ here;
  links = λ lid h. subst (λ x. link_of (record u { links = x }) conn lid ≡ Some l) (sym links) h;
  locks = λ h. subst (λ x. holder_of x l.number l.target ≡ None) (sym locks) h;
  ahead = λ at h. ahead-stays t u conn at (request_on l) shrinks (λ held. ap (λ ls. holds ls l.number) locks ∙ held) h;
}

pub up : (f g : InterleavedState) (k conn : ℕ) (r : Role) → IsSound f → k ≤ f.state.moment → IsOpen f → any_turn_step f (Up conn r) ≡ Some g → GoesOn f k (Up conn r) g
up f g k conn r sound early more h =
    let t = f.state.tables in
    let step = mapped (interleaved_after f (Up conn r) f.dialed) (atomic_step f.state (entry.Up conn r)) g h in
    let parts = cond_some ((conn == t.next_connection) && has_room t r) (record f.state { tables = with_connection t r }) step.0 step.1 in
    subst (Goes f k (entry.Up conn r ∷ []) f.turn) (ap (interleaved_after f (Up conn r) f.dialed) parts.1 ∙ step.2)
    (calm f k (entry.Up conn r ∷ []) (with_connection t r) f.state.moment k f.dialed sound more
    (cond-true ((conn == t.next_connection) && has_room t r) _ _ parts.0) early (omega arith)
    (λ u is s. same-stays t (with_connection t r) u.connection s.link s.asked s.call_at (pending-up t r u.connection) refl refl
    (same-shrinks t (with_connection t r) u.connection refl (λ n lid. refl) (pending-up t r)))
    (λ m p at. sound.have_come m p (sym (pending-up t r m) ∙ at)))

pub sample : (f g : InterleavedState) (k now : ℕ) (srq : Bool) → IsSound f → k ≤ f.state.moment → IsOpen f → any_turn_step f (Sample now srq) ≡ Some g → GoesOn f k (Sample now srq) g
sample f g k now srq sound early more h =
    let t = f.state.tables in
    let u : Tables = record t { srq_state = sampled t.srq_state srq } in
    let step = mapped (interleaved_after f (Sample now srq) f.dialed) (atomic_step f.state (entry.Sample now srq)) g h in
    let parts = cond_some (nat_le f.state.moment now) (record f.state { tables = u; moment = now }) step.0 step.1 in
    let le : f.state.moment ≤ now = leb-true f.state.moment now parts.0 in
    subst (Goes f k (entry.Sample now srq ∷ []) f.turn) (ap (interleaved_after f (Sample now srq) f.dialed) parts.1 ∙ step.2)
    (calm f k (entry.Sample now srq ∷ []) u now now f.dialed sound more
    (cond-true (nat_le k now) _ _ (le-leb k now (omega arith))) (omega arith) le
    (λ v is s. same-stays t u v.connection s.link s.asked s.call_at refl refl refl (same-shrinks t u v.connection refl (λ n lid. refl) (λ n. refl)))
    (λ m p at. let before = sound.have_come m p at in omega arith))

pub take : (f g : InterleavedState) (k conn chan : ℕ) (told : Given) → IsSound f → k ≤ f.state.moment → IsOpen f → any_turn_step f (Take conn chan told) ≡ Some g
    → GoesOn f k (Take conn chan told) g
take f g k conn chan told sound early more h =
    let t = f.state.tables in
    let u : Tables = record t { srq_state = taken t.srq_state conn chan } in
    let step = mapped (interleaved_after f (Take conn chan told) f.dialed) (atomic_step f.state (entry.Take conn chan told)) g h in
    let parts = cond_some _ (record f.state { tables = u }) step.0 step.1 in
    subst (Goes f k (entry.Take conn chan told ∷ []) f.turn) (ap (interleaved_after f (Take conn chan told) f.dialed) parts.1 ∙ step.2)
    (calm f k (entry.Take conn chan told ∷ []) u f.state.moment k f.dialed sound more
    (cond-true _ _ _ parts.0) early (omega arith)
    (λ v is s. same-stays t u v.connection s.link s.asked s.call_at refl refl refl (same-shrinks t u v.connection refl (λ n lid. refl) (λ n. refl)))
    (λ m p at. sound.have_come m p at))

pub dial : (f g : InterleavedState) (k conn now : ℕ) → IsSound f → k ≤ f.state.moment → IsOpen f → any_turn_step f (Dial conn now) ≡ Some g → GoesOn f k (Dial conn now) g
dial f g k conn now sound early more h =
    let t = f.state.tables in
    let listed = without_dial f.dialed conn ++ conn ∷ [] in
    let parts = cond_some (nat_le f.state.moment now && may_dial f.state conn now (pending_at t conn))
    (interleaved_after f (Dial conn now) listed (record f.state { moment = now })) g h in
    let le : f.state.moment ≤ now = leb-true f.state.moment now (and_parts _ _ parts.0).0 in
    subst (Goes f k [] f.turn) parts.1
    (calm f k [] t now k listed sound more refl (omega arith) le
    (λ v is s. same-stays t t v.connection s.link s.asked s.call_at refl refl refl (same-shrinks t t v.connection refl (λ n lid. refl) (λ n. refl)))
    (λ m p at. let before = sound.have_come m p at in omega arith))

-- ---- a call arrives

not_idle : (o : Option Pending) (p : Pending) → is_none o ≡ true → o ≡ Some p → ⊥
not_idle None p h e = cc
not_idle (Some q) p h e = false≢true h

arrived-come : (t : Tables) (conn : ℕ) (asked : Call) (before now : ℕ) → HaveCome t before → before ≤ now
    → HaveCome (with_pending t conn (Some (arrived asked now))) now
arrived-come t conn asked before now come le m p at = by (cases_eq conn m) where
  by : (conn ≡ m) ⊎ (conn ≡ m → ⊥) → p.arrival ≤ now
  by (inl e) =
      let here : Some (arrived asked now) ≡ Some p = pending-here t conn (Some (arrived asked now)) p (ap (pending_at (with_pending t conn (Some (arrived asked now)))) e ∙ at) in
      let same : arrived asked now ≡ p = cc in subst (λ q. q.arrival ≤ now) same (omega arith)
  by (inr ne) = let earlier = come m p (sym (pending-other t conn m (Some (arrived asked now)) ne) ∙ at) in omega arith

pub arrive : (f g : InterleavedState) (k conn : ℕ) (asked : Call) (now : ℕ) → IsSound f → k ≤ f.state.moment → IsOpen f → any_turn_step f (Arrive conn asked now) ≡ Some g
    → GoesOn f k (Arrive conn asked now) g
arrive f g k conn asked now sound early more h =
    let t = f.state.tables in
    let u : Tables = with_pending t conn (Some (arrived asked now)) in
    let step = mapped (interleaved_after f (Arrive conn asked now) f.dialed) (atomic_step f.state (entry.Arrive conn asked now)) g h in
    let parts = cond_some (nat_le f.state.moment now && is_idle t conn && may_wait asked) (record f.state { tables = u; moment = now }) step.0 step.1 in
    let tests = and_parts (nat_le f.state.moment now && is_idle t conn) (may_wait asked) parts.0 in
    let first = and_parts (nat_le f.state.moment now) (is_idle t conn) tests.0 in
    let le : f.state.moment ≤ now = leb-true f.state.moment now first.0 in
    let free = (and_parts (lives_as t conn role.Core) (is_none (pending_at t conn)) first.1).1 in
    let ne : (v : Turn) (s : Stands t f.before f.state.wire f.state.moment v) → conn ≢ v.connection = λ v s e. not_idle (pending_at t conn) s.asked free (ap (pending_at t) e ∙ s.call_at) in
    subst (Goes f k (entry.Arrive conn asked now ∷ []) f.turn) (ap (interleaved_after f (Arrive conn asked now) f.dialed) parts.1 ∙ step.2)
    (calm f k (entry.Arrive conn asked now ∷ []) u now now f.dialed sound more
    (cond-true (nat_le k now && is_idle t conn && may_wait asked) _ _
    (and_from _ _ (and_from _ _ (le-leb k now (omega arith)) first.1) tests.1))
    (omega arith) le
    (λ v is s. same-stays t u v.connection s.link s.asked s.call_at (pending-other t conn v.connection (Some (arrived asked now)) (ne v s)) refl refl
    (come-shrinks t conn v.connection (arrived asked now) (sound.tables.waiting v.connection ∙ ap is_some s.call_at) (idle-new t conn sound.tables.waiting first.1)))
    (arrived-come t conn asked f.state.moment now sound.have_come le))

-- ---- calls are marked

abbrev marks : ℕ → Pending → Bool
marks lid p = names lid (link_named p.call)

mark-is : (lid : ℕ) (p : Pending) → mark_call lid p ≡ record p { aborted = if marks lid p then true else p.aborted }
mark-is lid p = by (marks lid p) where
  by : (b : Bool) → cond b (record p { aborted = true }) p ≡ record p { aborted = cond b true p.aborted }
  by true = refl
  by false = refl

abort-pending : (t : Tables) (lid conn : ℕ) (p : Pending) → pending_at t conn ≡ Some p
    → pending_at (marked t lid) conn ≡ Some (record p { aborted = if marks lid p then true else p.aborted })
abort-pending t lid conn p h = pending-marked t lid conn ∙ ap (option_map (mark_call lid)) h ∙ ap Some (mark-is lid p)

abort-stays : (t : Tables) (lid conn : ℕ) (l : Link) (p : Pending) → pending_at t conn ≡ Some p → Stays t (abort_tables t lid) conn l p
abort-stays t lid conn l p h = by (is_live t.links lid) where
  by : (b : Bool) → Stays t (cond b (marked t lid) t) conn l p
  by true = record {
    aborted = if marks lid p then true else p.aborted;
    call_at = abort-pending t lid conn p h;
    links = λ n e. e;
    locks = λ e. e;
    ahead = λ at e. ahead-stays t (marked t lid) conn at (request_on l) (mark-shrinks t lid conn) (λ held. held) e;
  }
  by false = record { aborted = p.aborted; call_at = h; links = λ n e. e; locks = λ e. e; ahead = λ at e. e }

abort-come : (t : Tables) (lid moment : ℕ) → HaveCome t moment → HaveCome (abort_tables t lid) moment
abort-come t lid moment come = by (is_live t.links lid) where
  by : (b : Bool) → HaveCome (cond b (marked t lid) t) moment
  by true m p at =
      let was = mapped (mark_call lid) (pending_at t m) p (sym (pending-marked t lid m) ∙ at) in
      subst (λ q. q.arrival ≤ moment) (sym (mark-is lid was.0) ∙ was.2) (come m was.0 was.1)
  by false m p at = come m p at

pub abort : (f g : InterleavedState) (k conn lid : ℕ) (told : ErrorCode) → IsSound f → k ≤ f.state.moment → IsOpen f → any_turn_step f (Abort conn lid told) ≡ Some g
    → GoesOn f k (Abort conn lid told) g
abort f g k conn lid told sound early more h =
    let t = f.state.tables in
    let step = mapped (interleaved_after f (Abort conn lid told) f.dialed) (atomic_step f.state (entry.Abort conn lid told)) g h in
    let parts = cond_some (lives_as t conn role.Abort && same_error (abort_reply t lid) told) (record f.state { tables = abort_tables t lid }) step.0 step.1 in
    subst (Goes f k (entry.Abort conn lid told ∷ []) f.turn) (ap (interleaved_after f (Abort conn lid told) f.dialed) parts.1 ∙ step.2)
    (calm f k (entry.Abort conn lid told ∷ []) (abort_tables t lid) f.state.moment k f.dialed sound more
    (cond-true _ _ _ parts.0) early (omega arith)
    (λ v is s. abort-stays t lid v.connection s.link s.asked s.call_at)
    (abort-come t lid f.state.moment sound.have_come))
