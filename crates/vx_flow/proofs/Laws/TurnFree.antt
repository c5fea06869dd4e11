-- Of the turn under way: from its beginning on no other link's lock keeps its call's link off its target, no earlier waiter is passed
-- over, and the gateway could reach the devices of all live links as it began, and can still where the turn's list isn't whole.
use Rattle.std.proofs.Common.{◌≡◌, ◌==◌, ℕ, Bool, true, false, cond, ◌⊎◌, inl, inr, List, [], ◌∷◌, ◌++◌, Option, Some, None, refl, sym, ap, ◌∙◌, subst, arith}
use Rattle.std.specs.Prelude.{is_none, nat_le, ◌&&◌}
use Rattle.std.specs.List.{All}
use Rattle.std.proofs.lemmas.Bool.{cases_Bool, false≢true, and_parts}
use Rattle.std.proofs.lemmas.Option.{cond_some, none-some, same_Some}
use Rattle.vx_lemmas.proofs.Laws.Conditions.{chosen}
use Rattle.vx_calls.specs.Reply.{Reply}
use Rattle.vx_calls.specs.Target.{IsReachable}
use Rattle.vx_488.specs.declared.transfers.Transfer.{Transfer}
use Rattle.vx_488.specs.declared.wire.Wire.{Wire}
use Rattle.vx_488.specs.Wire.{wire_after}
use Rattle.vx_rules.specs.Table.{Link}
use Rattle.vx_rules.specs.Locks.{holds, holder_of}
use Rattle.vx_rules.specs.Lists.{along}
use Rattle.vx_rules.specs.Calls.{is_bus_call}
use Rattle.vx_rules.specs.State.{Pending, Tables, State, pending_at}
use Rattle.vx_rules.specs.Checks.{OnLink, named_link}
use Rattle.vx_rules.specs.Lines.{Passed, ahead, first_of, first_ahead, later_lines, first_lines}
use Rattle.vx_rules.specs.Decide.{has_job_role}
use Rattle.vx_rules.proofs.Laws.{no-job}
use Rattle.vx_flow.specs.Event.{Event, Up, Down, Arrive, Answer, Abort, Sample, Take, Begin, Move, Dial}
use Rattle.vx_flow.specs.InterleavedState.{Turn, InterleavedState, first_interleaved, before_turn, turn_after}
use Rattle.vx_flow.specs.InterleavedStep.{job_of, is_passed, may_begin, may_move, comes_in_turn, turn_stand, is_whole, interleaved_after, any_turn_step, interleaved_step}
use Rattle.vx_flow.specs.Linearization.{linearization}
use Rattle.vx_flow.specs.Laws.{TurnFreeLaw}
use Rattle.vx_flow.specs.Sound.{Stands, TurnStands, IsSound, request_on}
use Rattle.vx_rules.proofs.Laws.Lists.{along-none}
use Rattle.vx_flow.proofs.Laws.ByLines.{passed-is, passed-parts}
use Rattle.vx_flow.proofs.Laws.Jobs.{own-stays}
use Rattle.vx_flow.proofs.Laws.Kept.{Stays, named-stays, turn-stand}
use Rattle.vx_flow.proofs.Laws.Making.{later-passes}
use Rattle.vx_flow.proofs.Laws.Plain.{IsLinkReachable, found-has, legal-plain}
use Rattle.vx_flow.proofs.Laws.Freely.{link-is}
use Rattle.vx_flow.proofs.Laws.Linearizing.{interleaved-goes, interleaved-linearizes, first-sound, stays_sound-law}

-- no other link's lock keeps the link of a turn's call off its target
abbrev IsFree : Tables → Option Turn → Type 0
IsFree t turn = (u : Turn) (p : Pending) (l : Link) → turn ≡ Some u → pending_at t u.connection ≡ Some p → named_link t u.connection p.call ≡ OnLink l
    → holder_of t.locks l.number l.target ≡ None

none-free : (t : Tables) → IsFree t None
none-free t u p l is at on = absurd (none-some u is)

-- ---- a turn begins

-- a call that isn't aborted passed the lines behind that of the abort
passed-later : (t : Tables) (own conn : ℕ) (p : Pending) (now : ℕ) → is_passed (first_lines t own conn false p now) ≡ true → later_lines t own conn false p now ≡ Passed
passed-later t own conn p now h = (passed-parts p (later_lines t own conn false p now) (passed-is (first_lines t own conn false p now) h)).1

-- a call with a job, for which the gateway has the role, is a bus call
role-bus : (t : Tables) (w : Wire) (conn : ℕ) (p : Pending) → has_job_role w (job_of t conn p) ≡ true → is_bus_call p.call ≡ true
role-bus t w conn p h = by (cases_Bool (is_bus_call p.call)) where
  by : (is_bus_call p.call ≡ true) ⊎ (is_bus_call p.call ≡ false) → is_bus_call p.call ≡ true
  by (inl e) = e
  by (inr e) = absurd (false≢true (sym (ap (has_job_role w) (no-job (named_link t conn p.call) p.call e)) ∙ h))

-- no lock is against the call of a turn that may begin
begun-free : (s : State) (conn now : ℕ) (o : Option Pending) (p : Pending) (l : Link) → may_begin s conn now o ≡ true → o ≡ Some p → named_link s.tables conn p.call ≡ OnLink l
    → holder_of s.tables.locks l.number l.target ≡ None
begun-free s conn now None p l h e on = cc
begun-free s conn now (Some q) p l h e on =
    let t = s.tables in
    let own = s.wire.own in
    let both = and_parts (is_passed (first_lines t own conn false p now)) (has_job_role s.wire (job_of t conn p))
    (subst (λ x. may_begin s conn now (Some x) ≡ true) (same_Some q p e) h) in
    (later-passes t own conn false p now l on (role-bus t s.wire conn p both.1) (passed-later t own conn p now both.0)).free

begin-free : (f g : InterleavedState) (conn now : ℕ) → any_turn_step f (Begin conn now) ≡ Some g → IsFree g.state.tables (turn_after f.turn (Begin conn now))
begin-free f g conn now h =
    let t = f.state.tables in
    let turn : Turn = record { connection = conn; begun = now; moves = [] } in
    let parts = cond_some (is_none f.turn && nat_le f.state.moment now && may_begin f.state conn now (pending_at t conn))
    (record (interleaved_after f (Begin conn now) f.dialed (record f.state { moment = now })) { before = f.state.wire }) g h in
    let may = (and_parts (is_none f.turn && nat_le f.state.moment now) (may_begin f.state conn now (pending_at t conn)) parts.0).1 in
    subst (λ (x : InterleavedState). IsFree x.state.tables (Some turn)) parts.1
    (λ u p l is at on.
    let same : conn ≡ u.connection = ap (λ (x : Turn). x.connection) (same_Some turn u is) in
    begun-free f.state conn now (pending_at t conn) p l may (ap (pending_at t) same ∙ at) (ap (λ n. named_link t n p.call) same ∙ on))

-- ---- it makes transfers

moved-free : (t : Tables) (turn : Option Turn) (conn : ℕ) (moves : List Transfer) → IsFree t turn → IsFree t (turn_after turn (Move conn moves))
moved-free t None conn moves free u p l is at on = free u p l is at on
moved-free t (Some v) conn moves free u p l is at on =
    let same : v.connection ≡ u.connection = ap (λ (x : Turn). x.connection) (same_Some (record v { moves = v.moves ++ moves }) u is) in
    free v p l refl (ap (pending_at t) same ∙ at) (ap (λ n. named_link t n p.call) same ∙ on)

move-free : (f g : InterleavedState) (conn : ℕ) (moves : List Transfer) → any_turn_step f (Move conn moves) ≡ Some g → IsFree f.state.tables f.turn
    → IsFree g.state.tables (turn_after f.turn (Move conn moves))
move-free f g conn moves h free =
    let parts = cond_some (may_move f conn moves f.turn) (interleaved_after f (Move conn moves) f.dialed (record f.state { wire = wire_after f.state.wire moves })) g h in
    subst (λ (x : InterleavedState). IsFree x.state.tables (turn_after f.turn (Move conn moves))) parts.1 (moved-free f.state.tables f.turn conn moves free)

-- ---- what others do

-- no lock is taken against the link of the turn's call
stays-free : (t v : Tables) (before now : Wire) (m : ℕ) (u : Turn) (s : Stands t before now m u) → holder_of t.locks s.link.number s.link.target ≡ None
    → Stays t v u.connection s.link s.asked → (p : Pending) (l : Link) → pending_at v u.connection ≡ Some p → named_link v u.connection p.call ≡ OnLink l
    → holder_of v.locks l.number l.target ≡ None
stays-free t v before now m u s free stays p l at on =
    let call : s.asked.call ≡ p.call = ap (λ (x : Pending). x.call) (same_Some (record s.asked { aborted = stays.aborted }) p (sym stays.call_at ∙ at)) in
    let about : OnLink s.link ≡ OnLink l = sym (named-stays t v u.connection s.link s.asked.call s.on_link stays.links) ∙ ap (named_link v u.connection) call ∙ on in
    let one : s.link ≡ l = cc in
    subst (λ (k : Link). holder_of v.locks k.number k.target ≡ None) one (stays.locks free)

-- an event leaves the turn, or ends it
left-free : (f g : InterleavedState) (e : Event) → IsSound f → interleaved_step f e ≡ Some g → IsFree f.state.tables f.turn → (turn_after f.turn e ≡ None) ⊎ (turn_after f.turn e ≡ f.turn)
    → IsFree g.state.tables (turn_after f.turn e)
left-free f g e sound h free (inl over) = subst (IsFree g.state.tables) (sym over) (none-free g.state.tables)
left-free f g e sound h free (inr left) = subst (IsFree g.state.tables) (sym left) (λ u p l is at on.
    let goes = interleaved-goes e f g f.state.moment sound (omega arith) h in
    let stands : Stands f.state.tables f.before f.state.wire f.state.moment u =
    subst (TurnStands f.state.tables f.before f.state.wire f.state.moment) is sound.turn_stands in
    stays-free f.state.tables g.state.tables f.before f.state.wire f.state.moment u stands (free u stands.asked stands.link is stands.call_at stands.on_link)
    (goes.stays u left is stands) p l at on)

chosen-left : (b : Bool) (u : Turn) → (cond b None (Some u) ≡ None) ⊎ (cond b None (Some u) ≡ Some u)
chosen-left true u = inl refl
chosen-left false u = inr refl

answer-left : (turn : Option Turn) (conn now : ℕ) (failed : Bool) (dialed : Option Bool) (level : Bool) (told : Reply)
    → (turn_after turn (Answer conn now failed dialed level told) ≡ None) ⊎ (turn_after turn (Answer conn now failed dialed level told) ≡ turn)
answer-left None conn now failed dialed level told = inl refl
answer-left (Some u) conn now failed dialed level told = chosen-left (u.connection == conn) u

down-left : (turn : Option Turn) (conn : ℕ) → (turn_after turn (Down conn) ≡ None) ⊎ (turn_after turn (Down conn) ≡ turn)
down-left None conn = inl refl
down-left (Some u) conn = chosen-left (u.connection == conn) u

-- ---- along events

step-free : (e : Event) (f g : InterleavedState) → IsSound f → interleaved_step f e ≡ Some g → IsFree f.state.tables f.turn → IsFree g.state.tables (turn_after f.turn e)
step-free (Up conn r) f g sound h free = left-free f g (Up conn r) sound h free (inr refl)
step-free (Down conn) f g sound h free = left-free f g (Down conn) sound h free (down-left f.turn conn)
step-free (Arrive conn asked now) f g sound h free = left-free f g (Arrive conn asked now) sound h free (inr refl)
step-free (Answer conn now failed dialed level told) f g sound h free =
    left-free f g (Answer conn now failed dialed level told) sound h free (answer-left f.turn conn now failed dialed level told)
step-free (Abort conn lid told) f g sound h free = left-free f g (Abort conn lid told) sound h free (inr refl)
step-free (Sample now srq) f g sound h free = left-free f g (Sample now srq) sound h free (inr refl)
step-free (Take conn chan told) f g sound h free = left-free f g (Take conn chan told) sound h free (inr refl)
step-free (Begin conn now) f g sound h free =
    begin-free f g conn now (chosen (comes_in_turn f (Begin conn now) f.turn) (any_turn_step f (Begin conn now)) g h).1
step-free (Move conn moves) f g sound h free =
    move-free f g conn moves (chosen (comes_in_turn f (Move conn moves) f.turn) (any_turn_step f (Move conn moves)) g h).1 free
step-free (Dial conn now) f g sound h free = left-free f g (Dial conn now) sound h free (inr refl)

stays_free : (f g : InterleavedState) (e : Event) → IsSound f → interleaved_step f e ≡ Some g → IsFree f.state.tables f.turn → IsFree g.state.tables g.turn
stays_free f g e sound h free =
    subst (IsFree g.state.tables) (sym (interleaved-goes e f g f.state.moment sound (omega arith) h).turn_is) (step-free e f g sound h free)

along-free : (h : List Event) (f g : InterleavedState) → IsSound f → IsFree f.state.tables f.turn → along interleaved_step (Some f) h ≡ Some g → IsFree g.state.tables g.turn
along-free [] f g sound free h = subst (λ (x : InterleavedState). IsFree x.state.tables x.turn) (same_Some f g h) free
along-free (e ∷ es) f g sound free h = by (interleaved_step f e) refl h (along-free es) where
  by : (o : Option InterleavedState) → interleaved_step f e ≡ o → along interleaved_step o es ≡ Some g
      → ((f g : InterleavedState) → IsSound f → IsFree f.state.tables f.turn → along interleaved_step (Some f) es ≡ Some g → IsFree g.state.tables g.turn)
      → IsFree g.state.tables g.turn
  by None is h rest = absurd (none-some g (sym (along-none interleaved_step es) ∙ h))
  by (Some mid) is h rest = rest mid g (stays_sound-law f mid e sound is) (stays_free f mid e sound is free) h

-- a line without a first one is empty
none-first : (ns : List ℕ) → first_of ns ≡ None → ns ≡ []
none-first [] h = refl
none-first (n ∷ ns) h = absurd (none-some n (sym h))

-- the turn's call is on one link alone
link-same : (t : Tables) (before now : Wire) (m : ℕ) (u : Turn) (s : Stands t before now m u) (p : Pending) (l : Link)
    → pending_at t u.connection ≡ Some p → named_link t u.connection p.call ≡ OnLink l → s.link ≡ l
link-same t before now m u s p l at on =
    let call : s.asked.call ≡ p.call = ap (λ (x : Pending). x.call) (same_Some s.asked p (sym s.call_at ∙ at)) in
    let about : OnLink s.link ≡ OnLink l = sym s.on_link ∙ ap (named_link t u.connection) call ∙ on in
    cc

-- a call of a link without a lock that is first has no other before it
nobody-ahead : (t : Tables) (at conn : ℕ) (l : Link) → holds t.locks l.number ≡ false → first_ahead t None at conn (request_on l) ≡ None
    → ahead t None at conn l.target ≡ []
nobody-ahead t at conn l unheld h =
    none-first (ahead t None at conn l.target) (subst (λ b. cond b None (first_of (ahead t None at conn l.target)) ≡ None) unheld h)

-- where the turn's list isn't whole the gateway has the address that it had as the turn began
own-steady : (f : InterleavedState) (u : Turn) → Stands f.state.tables f.before f.state.wire f.state.moment u → is_whole (turn_stand f u u.moves) ≡ false
    → f.state.wire.own ≡ f.before.own
own-steady f u s more =
    ap (λ (w : Wire). w.own) s.made
    ∙ own-stays f.before s.asked.call s.job u.moves s.on_plan
    (sym (ap is_whole (turn-stand f.state.tables f.before f.state.wire f.state.moment u s u.moves)) ∙ more)

pub turn_free_law-holds : TurnFreeLaw
turn_free_law-holds abort_port h f u p l is turn at on =
    let t = f.state.tables in
    let linearized = interleaved-linearizes abort_port h f is in
    let plain = legal-plain abort_port (linearization h) (before_turn f linearized.moment) linearized.reaches in
    let named = link-is t u.connection p.call l on in
    let reachable = found-has (IsLinkReachable f.before.own) (λ k. (k.number == named.0) && (k.connection == u.connection)) t.links.links l named.2 plain.reachable in
    let stands : Stands t f.before f.state.wire f.state.moment u = subst (TurnStands t f.before f.state.wire f.state.moment) turn linearized.sound.turn_stands in
    record {
      unlocked = along-free h (first_interleaved abort_port) f (first-sound abort_port) (none-free (first_interleaved abort_port).state.tables) is u p l turn at on;
      began = stands.began;
      first = λ unheld moment late. nobody-ahead t moment u.connection l unheld
          (subst (λ (k : Link). first_ahead t None moment u.connection (request_on k) ≡ None) (link-same t f.before f.state.wire f.state.moment u stands p l at on)
          (stands.first moment late));
      reachable = reachable;
      all_reachable = plain.reachable;
      steady = own-steady f u stands;
      reachable_now = λ more. subst (λ n. IsReachable n l.target) (sym (own-steady f u stands more)) reachable;
      all_reachable_now = λ more. subst (λ n. All (IsLinkReachable n) t.links.links) (sym (own-steady f u stands more)) plain.reachable;
    }
