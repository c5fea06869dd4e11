-- A checker's state that stands for an interleaved state, and what events leave of that.
use Rattle.std.proofs.Common.{◌≡◌, ◌≢◌, ℕ, ◌+◌, ◌<◌, ◌≤◌, Bool, true, false, cond, not, ◌==◌, inl, inr, List, [], ◌∷◌, ◌++◌, Option, Some, None, IsSome, refl, sym, ap, ◌∙◌, subst, arith}
use Rattle.std.specs.Option.{option_map, option_map_or}
use Rattle.std.specs.List.{All}
use Rattle.std.proofs.lemmas.Bool.{cases_eq, ne_eqb}
use Rattle.std.proofs.lemmas.Option.{none-some, same_Some}
use Rattle.std.proofs.lemmas.List.Elements.{All-append, All-nil}
use Rattle.vx_lemmas.proofs.Laws.Conditions.{eqb-self, apart}
use Rattle.vx_lemmas.proofs.Laws.Options.{mapped}
use Rattle.vx_lemmas.proofs.Laws.Lists.{find-filter, find_append-some, find_append-none, find_filter-gone}
use Rattle.vx_calls.specs.declared.calls.Role.{Role}
use Rattle.vx_calls.specs.Call.{Call}
use Rattle.vx_calls.specs.Reply.{Reply}
use Rattle.vx_trace.specs.Output.{Output}
use Rattle.vx_trace.specs.Text.{IsWhole, IsByteTransfer, is_timed}
use Rattle.vx_rules.specs.State.{Connection, Pending, connection_at, role_at, pending_at}
use Rattle.vx_rules.proofs.Laws.Rows.{pending-here, pending-over, pending-gone}
use Rattle.vx_flow.specs.Event.{Event, Up, Down, Arrive, Answer, Abort, Sample, Take, Begin, Move, Dial}
use Rattle.vx_flow.specs.InterleavedState.{Turn, InterleavedState, before_turn, turn_after, turn_without}
use Rattle.vx_flow.specs.InterleavedStep.{interleaved_step}
use Rattle.vx_flow.specs.Frames.{Frame, lives_by, calls_by, mark_by}
use Rattle.vx_flow.specs.Sound.{IsSound}
use Rattle.vx_flow.specs.Does.{Does}
use Rattle.vx_flow.proofs.Laws.{interleaved-does, interleaved-frame, mark-call, stays_sound-law}
use Rattle.vx_flow.proofs.Laws.Linearizing.{interleaved-goes}
use Rattle.vx_history.specs.Shown.{Timed}
use Rattle.vx_history.specs.CheckState.{CheckState, Kept, Next, Free, kept_at, xid_at, level_at, kept_without, kept_with, kept_of, tells_level}
use Rattle.vx_history.specs.Taking.{Taken, led, happens}
use Rattle.vx_history.proofs.FormedReads.{Reads, reads-append}
use Rattle.vx_history.proofs.FormedAnswers.{IsBounded}

-- ---- states

-- a checker's state that has the gateway as it was before the turn of this interleaved state, at an earlier moment
abbrev pub here : InterleavedState → ℕ → List Kept → ℕ → Next → CheckState
here f k kept m next = record { gateway = before_turn f k; turn = f.turn; kept = kept; moment = m; next = next }

-- lines, each at this moment
abbrev pub timed : ℕ → List Output → List Timed
timed now [] = []
timed now (line ∷ lines) = record { moment = now; line = line } ∷ timed now lines

pub timed-append : (now : ℕ) (xs ys : List Output) → timed now (xs ++ ys) ≡ timed now xs ++ timed now ys
timed-append now [] ys = refl
timed-append now (x ∷ xs) ys = ap (λ ts. record { moment = now; line = x } ∷ ts) (timed-append now xs ys)

-- a line that a run's item has: it is whole, and has a moment
pub record IsOwn (line : Output) : Type 0 where
  pub whole : IsWhole line
  pub is_timed : is_timed line ≡ true

-- what holds of an interleaved state: of its turn, and that connections have numbers that were given out
pub record IsFit (f : InterleavedState) : Type 0 where
  pub bounded : IsBounded f
  pub numbered : (m : ℕ) (r : Role) → role_at f.state.tables m ≡ Some r → m < f.state.tables.next_connection

-- the kept calls are the pending ones, with these xids
abbrev pub KeptSo : InterleavedState → List Kept → (ℕ → ℕ) → Type 0
KeptSo f kept xids = (conn : ℕ) (p : Pending) → pending_at f.state.tables conn ≡ Some p → (xid_at kept conn ≡ xids conn) × (level_at kept conn ≡ tells_level p.call)

-- a checker's state stands for an interleaved state, at this moment
pub record StandsFor (f : InterleavedState) (xids : ℕ → ℕ) (now k : ℕ) (kept : List Kept) (m : ℕ) : Type 0 where
  pub fit : IsFit f
  pub early : k ≤ f.state.moment
  pub past : m ≤ now
  pub kept_so : KeptSo f kept xids

-- these lines are taken from the one state to the other, and give these events
pub record Led (f : InterleavedState) (k : ℕ) (kept : List Kept) (m now : ℕ) (xids : ℕ → ℕ) (lines : List Output) (es : List Event) (g : InterleavedState) : Type 0 where
  pub earlier : ℕ
  pub later_kept : List Kept
  pub seen : ℕ
  pub reads : Reads (here f k kept m Free) (timed now lines) es (here g earlier later_kept seen Free)
  pub stands : StandsFor g xids now earlier later_kept seen
  pub own : All IsOwn lines

-- lines behind others
pub led-append : (f g h : InterleavedState) (k : ℕ) (kept : List Kept) (m now : ℕ) (xids later : ℕ → ℕ) (lines more : List Output) (es fs : List Event)
    → (first : Led f k kept m now xids lines es g) → Led g first.earlier first.later_kept first.seen now later more fs h
    → Led f k kept m now later (lines ++ more) (es ++ fs) h
led-append f g h k kept m now xids later lines more es fs first second = record {
  earlier = second.earlier;
  later_kept = second.later_kept;
  seen = second.seen;
  reads =
      subst (λ ts. Reads (here f k kept m Free) ts (es ++ fs) (here h second.earlier second.later_kept second.seen Free)) (sym (timed-append now lines more))
      (reads-append (here f k kept m Free) (timed now lines) (timed now more) es fs (here g first.earlier first.later_kept first.seen Free)
      (here h second.earlier second.later_kept second.seen Free) first.reads second.reads);
  stands = second.stands;
  own = All-append IsOwn lines more first.own second.own;
}

-- no line
pub led-none : (f : InterleavedState) (k : ℕ) (kept : List Kept) (m now : ℕ) (xids : ℕ → ℕ) → StandsFor f xids now k kept m → Led f k kept m now xids [] [] f
led-none f k kept m now xids stands =
    record { earlier = k; later_kept = kept; seen = m; reads = (refl, refl); stands = stands; own = All-nil IsOwn }

-- ---- one event

-- the gateway of one thread takes the event
pub record Happened (f : InterleavedState) (k : ℕ) (kept : List Kept) (m : ℕ) (e : Event) (g : InterleavedState) : Type 0 where
  pub earlier : ℕ
  pub early : earlier ≤ g.state.moment
  pub took : (was : List Kept) (next : Next) → happens (here f k was m next) kept e ≡ Taken (e ∷ []) (here g earlier kept m Free)

pub happened : (f g : InterleavedState) (k : ℕ) (kept : List Kept) (m : ℕ) (e : Event) → IsSound f → k ≤ f.state.moment → interleaved_step f e ≡ Some g → Happened f k kept m e g
happened f g k kept m e sound early h =
    let goes = interleaved-goes e f g k sound early h in
    record {
      earlier = goes.moment;
      early = goes.earlier;
      took = λ was next.
          ap (led (here f k was m next) kept e) goes.reaches
          ∙ ap (λ turn. Taken (e ∷ []) (record { gateway = before_turn g goes.moment; turn = turn; kept = kept; moment = m; next = Free })) (sym goes.turn_is);
    }

-- ---- what stays fit

-- the transfers of an event are bytes
abbrev pub MovesBytes : Event → Type 0
MovesBytes (Move conn moves) = All IsByteTransfer moves
MovesBytes _ = Unit {0}

without-bytes : (u : Turn) (conn : ℕ) → All IsByteTransfer u.moves → (v : Turn) → turn_without u conn ≡ Some v → All IsByteTransfer v.moves
without-bytes u conn all v is = by (u.connection == conn) is where
  by : (b : Bool) → cond b None (Some u) ≡ Some v → All IsByteTransfer v.moves
  by true e = cc
  by false e = subst (λ (x : Turn). All IsByteTransfer x.moves) (same_Some u v e) all

turn-bytes : (turn : Option Turn) (e : Event) → ((u : Turn) → turn ≡ Some u → All IsByteTransfer u.moves) → MovesBytes e
    → (v : Turn) → turn_after turn e ≡ Some v → All IsByteTransfer v.moves
turn-bytes turn (Begin conn now) all moved v is = subst (λ (x : Turn). All IsByteTransfer x.moves) (same_Some _ v is) (All-nil IsByteTransfer)
turn-bytes (Some u) (Move conn moves) all moved v is =
    subst (λ (x : Turn). All IsByteTransfer x.moves) (same_Some _ v is) (All-append IsByteTransfer u.moves moves (all u refl) moved)
turn-bytes (Some u) (Answer conn now failed dialed level reply) all moved v is = without-bytes u conn (all u refl) v is
turn-bytes (Some u) (Down conn) all moved v is = without-bytes u conn (all u refl) v is
turn-bytes None (Move conn moves) all moved v is = absurd (none-some v is)
turn-bytes None (Answer conn now failed dialed level reply) all moved v is = absurd (none-some v is)
turn-bytes None (Down conn) all moved v is = absurd (none-some v is)
turn-bytes turn (Up conn r) all moved v is = all v is
turn-bytes turn (Arrive conn asked now) all moved v is = all v is
turn-bytes turn (Abort conn lid told) all moved v is = all v is
turn-bytes turn (Sample now level) all moved v is = all v is
turn-bytes turn (Take conn chan given) all moved v is = all v is
turn-bytes turn (Dial conn now) all moved v is = all v is

-- a connection that lives has a role
role-of : (o : Option Connection) → IsSome o → (r : Role) × (option_map (λ (c : Connection). c.role) o ≡ Some r)
role-of None h = cc
role-of (Some c) h = (c.role, refl)

-- numbers of connections stay below the next one
numbered-step : (f g : InterleavedState) (e : Event) → interleaved_step f e ≡ Some g → ((m : ℕ) (r : Role) → role_at f.state.tables m ≡ Some r → m < f.state.tables.next_connection)
    → (m : ℕ) (r : Role) → role_at g.state.tables m ≡ Some r → m < g.state.tables.next_connection
numbered-step f g e h low m r is = by e refl (interleaved-does f g e h) where
  frame : Frame f e g
  frame = interleaved-frame f g e h

  stays : lives_by e ≢ Some m → m < g.state.tables.next_connection
  stays other =
      let before = low m r (sym (frame.roles m other) ∙ is) in
      let rises = frame.connection_numbers in
      omega (arith, before, rises)

  at : (conn : ℕ) → lives_by e ≡ Some conn → (conn ≡ m → m < g.state.tables.next_connection) → m < g.state.tables.next_connection
  at conn by_it own = elim (cases_eq conn m) [ inl same ↦ own same | inr ne ↦ stays (λ x. ne (same_Some conn m (sym by_it ∙ x))) ]

  by : (d : Event) → e ≡ d → Does f d g → m < g.state.tables.next_connection
  by (Up conn r) same does =
      let up = does.step in
      at conn (ap lives_by same) (λ own.
      let number = up.number in
      let next : g.state.tables.next_connection ≡ f.state.tables.next_connection + 1 = ap (λ (x : InterleavedState). x.state.tables.next_connection) up.leads in
      omega (arith, number, next, own))
  by (Down conn) same does =
      let down = does.step in
      at conn (ap lives_by same) (λ own.
      let lived = role-of (connection_at f.state.tables conn) down.lives in
      let before = low conn lived.0 lived.1 in
      let rises = frame.connection_numbers in
      omega (arith, before, rises, own))
  by d same does = stays (λ x. none-some m (sym (ap lives_by same) ∙ x))

-- what is fit stays so
pub fit-step : (f g : InterleavedState) (e : Event) → IsFit f → interleaved_step f e ≡ Some g → MovesBytes e → IsFit g
fit-step f g e fit h moved =
    let frame = interleaved-frame f g e h in
    let port = fit.bounded.port in
    let same = frame.port in
    record {
      bounded = record {
        sound = stays_sound-law f g e fit.bounded.sound h;
        bytes = λ u is. turn-bytes f.turn e fit.bounded.bytes moved u (sym frame.turn_is ∙ is);
        port = omega (arith, port, same);
      };
      numbered = numbered-step f g e h fit.numbered;
    }

-- ---- kept calls

pub kept_without-other : (kept : List Kept) (n m : ℕ) → n ≢ m → kept_at (kept_without kept n) m ≡ kept_at kept m
kept_without-other kept n m ne =
    find-filter (λ (k : Kept). k.connection == m) (λ (k : Kept). not (k.connection == n)) (λ k e. ap not (apart m n (λ same. ne (sym same)) k.connection e)) kept

pub kept_with-here : (kept : List Kept) (k : Kept) → kept_at (kept_with kept k) k.connection ≡ Some k
kept_with-here kept k =
    find_append-none (λ (x : Kept). x.connection == k.connection) (kept_without kept k.connection) (k ∷ [])
    (find_filter-gone (λ (x : Kept). x.connection == k.connection) (λ (x : Kept). not (x.connection == k.connection)) (λ x e. ap not e) kept)
    ∙ ap (λ b. cond b (Some k) None) (eqb-self k.connection)

pub kept_with-other : (kept : List Kept) (k : Kept) (m : ℕ) → k.connection ≢ m → kept_at (kept_with kept k) m ≡ kept_at kept m
kept_with-other kept k m ne = by (kept_at kept m) refl where
  before : kept_at (kept_without kept k.connection) m ≡ kept_at kept m
  before = kept_without-other kept k.connection m ne

  by : (o : Option Kept) → kept_at kept m ≡ o → kept_at (kept_with kept k) m ≡ o
  by None e =
      find_append-none (λ (x : Kept). x.connection == m) (kept_without kept k.connection) (k ∷ []) (before ∙ e)
      ∙ ap (λ b. cond b (Some k) None) (ne_eqb k.connection m ne)
  by (Some x) e = find_append-some (λ (y : Kept). y.connection == m) (kept_without kept k.connection) (k ∷ []) x (before ∙ e)

-- where a connection's kept call is the same, so is what it tells
same-told : (a b : List Kept) (conn : ℕ) (xids : ℕ → ℕ) (asked : Call) → kept_at a conn ≡ kept_at b conn
    → (xid_at b conn ≡ xids conn) × (level_at b conn ≡ tells_level asked) → (xid_at a conn ≡ xids conn) × (level_at a conn ≡ tells_level asked)
same-told a b conn xids asked same told =
    (ap (λ o. option_map_or (λ (k : Kept). k.xid) o 0) same ∙ told.0, ap (λ o. option_map_or (λ (k : Kept). k.tells_level) o false) same ∙ told.1)

-- the calls of connections whose call neither comes nor goes stay as they are
call-was : (f g : InterleavedState) (e : Event) → interleaved_step f e ≡ Some g → (m : ℕ) (p : Pending) → calls_by e ≢ Some m → pending_at g.state.tables m ≡ Some p
    → (q : Pending) × (pending_at f.state.tables m ≡ Some q) × (q.call ≡ p.call)
call-was f g e h m p other at =
    let frame = interleaved-frame f g e h in
    let was = mapped (mark_by f.state.tables e) (pending_at f.state.tables m) p (sym (frame.calls m other) ∙ at) in
    (was.0, was.1, sym (mark-call f.state.tables e was.0) ∙ ap (λ (q : Pending). q.call) was.2)

-- a call behind an event was there before, marked or not, or came with it
pub data CameFrom (f : InterleavedState) (e : Event) (m : ℕ) (p : Pending) : Type 0 where
  Was : (q : Pending) → pending_at f.state.tables m ≡ Some q → q.call ≡ p.call → CameFrom f e m p
  Came : (asked : Call) (now : ℕ) → e ≡ Arrive m asked now → asked ≡ p.call → CameFrom f e m p

pub call-from : (e : Event) (f g : InterleavedState) → interleaved_step f e ≡ Some g → (m : ℕ) (p : Pending) → pending_at g.state.tables m ≡ Some p → CameFrom f e m p
call-from (Arrive conn asked now) f g h m p at =
    elim (cases_eq conn m) [
      | inl same ↦
          let frame = (interleaved-frame f g (Arrive conn asked now) h).tables in
          let come = pending-here f.state.tables conn _ p (ap (λ t. pending_at t conn) (sym frame) ∙ ap (pending_at g.state.tables) same ∙ at) in
          Came asked now (ap (λ c. Arrive c asked now) same) (ap (λ (q : Pending). q.call) (same_Some _ p come))
      | inr ne ↦ let was = call-was f g (Arrive conn asked now) h m p (λ x. ne (same_Some conn m x)) at in Was was.0 was.1 was.2
    ]
call-from (Answer conn now failed dialed level told) f g h m p at =
    elim (cases_eq conn m) [
      | inl same ↦
          let over = (interleaved-frame f g (Answer conn now failed dialed level told) h).tables in
          absurd (none-some p (sym (pending-over over.after conn) ∙ ap (λ t. pending_at t conn) (sym over.over_is) ∙ ap (pending_at g.state.tables) same ∙ at))
      | inr ne ↦ let was = call-was f g (Answer conn now failed dialed level told) h m p (λ x. ne (same_Some conn m x)) at in Was was.0 was.1 was.2
    ]
call-from (Down conn) f g h m p at =
    elim (cases_eq conn m) [
      | inl same ↦
          let gone = (interleaved-frame f g (Down conn) h).tables in
          absurd (none-some p (sym (pending-gone f.state.tables conn) ∙ ap (λ t. pending_at t conn) (sym gone) ∙ ap (pending_at g.state.tables) same ∙ at))
      | inr ne ↦ let was = call-was f g (Down conn) h m p (λ x. ne (same_Some conn m x)) at in Was was.0 was.1 was.2
    ]
call-from e f g h m p at = let was = call-was f g e h m p (λ x. none-some m x) at in Was was.0 was.1 was.2

-- an event with which no call comes or goes leaves the kept calls
pub kept-same : (f g : InterleavedState) (e : Event) (kept : List Kept) (xids : ℕ → ℕ) → interleaved_step f e ≡ Some g → calls_by e ≡ None → KeptSo f kept xids → KeptSo g kept xids
kept-same f g e kept xids h none so conn p at =
    let was = call-was f g e h conn p (λ x. none-some conn (sym none ∙ x)) at in
    let told = so conn was.0 was.1 in
    (told.0, told.1 ∙ ap tells_level was.2)

-- so does an answer, with which a call goes
pub kept-answer : (f g : InterleavedState) (conn now : ℕ) (failed : Bool) (dialed : Option Bool) (level : Bool) (told : Reply) (kept : List Kept) (xids : ℕ → ℕ)
    → interleaved_step f (Answer conn now failed dialed level told) ≡ Some g → KeptSo f kept xids → KeptSo g kept xids
kept-answer f g conn now failed dialed level told kept xids h so m p at =
    elim (cases_eq conn m) [
      | inl same ↦
          let over = (interleaved-frame f g (Answer conn now failed dialed level told) h).tables in
          absurd (none-some p (sym (pending-over over.after conn) ∙ ap (λ t. pending_at t conn) (sym over.over_is) ∙ ap (pending_at g.state.tables) same ∙ at))
      | inr ne ↦
          let was = call-was f g (Answer conn now failed dialed level told) h m p (λ x. ne (same_Some conn m x)) at in
          let so = so m was.0 was.1 in
          (so.0, so.1 ∙ ap tells_level was.2)
    ]

-- with the end of a connection its kept call goes
pub kept-down : (f g : InterleavedState) (conn : ℕ) (kept : List Kept) (xids : ℕ → ℕ) → interleaved_step f (Down conn) ≡ Some g → KeptSo f kept xids → KeptSo g (kept_without kept conn) xids
kept-down f g conn kept xids h so m p at =
    elim (cases_eq conn m) [
      | inl same ↦
          let gone = (interleaved-frame f g (Down conn) h).tables in
          absurd (none-some p (sym (pending-gone f.state.tables conn) ∙ ap (λ t. pending_at t conn) (sym gone) ∙ ap (pending_at g.state.tables) same ∙ at))
      | inr ne ↦
          let was = call-was f g (Down conn) h m p (λ x. ne (same_Some conn m x)) at in
          let so = so m was.0 was.1 in
          same-told (kept_without kept conn) kept m xids p.call (kept_without-other kept conn m ne) (so.0, so.1 ∙ ap tells_level was.2)
    ]

-- a call that comes is kept, with its xid
pub kept-arrive : (f g : InterleavedState) (conn now xid : ℕ) (asked : Call) (kept : List Kept) (xids later : ℕ → ℕ) → interleaved_step f (Arrive conn asked now) ≡ Some g
    → later conn ≡ xid → ((m : ℕ) → conn ≢ m → later m ≡ xids m) → KeptSo f kept xids → KeptSo g (kept_with kept (kept_of conn xid asked)) later
kept-arrive f g conn now xid asked kept xids later h own others so m p at =
    elim (cases_eq conn m) [
      | inl same ↦
          let frame = (interleaved-frame f g (Arrive conn asked now) h).tables in
          let come = pending-here f.state.tables conn _ p (ap (λ t. pending_at t conn) (sym frame) ∙ ap (pending_at g.state.tables) same ∙ at) in
          let kept_is = ap (kept_at (kept_with kept (kept_of conn xid asked))) (sym same) ∙ kept_with-here kept (kept_of conn xid asked) in (
            ap (λ o. option_map_or (λ (k : Kept). k.xid) o 0) kept_is ∙ sym own ∙ ap later same,
            ap (λ o. option_map_or (λ (k : Kept). k.tells_level) o false) kept_is ∙ ap (λ (q : Pending). tells_level q.call) (same_Some _ p come),
          )
      | inr ne ↦
          let was = call-was f g (Arrive conn asked now) h m p (λ x. ne (same_Some conn m x)) at in
          let told = so m was.0 was.1 in
          same-told (kept_with kept (kept_of conn xid asked)) kept m later p.call (kept_with-other kept (kept_of conn xid asked) m ne)
          (told.0 ∙ sym (others m ne), told.1 ∙ ap tells_level was.2)
    ]

-- where no pending call's xid is another, the kept calls are as well the pending ones with other xids
pub kept-xids : (f : InterleavedState) (kept : List Kept) (xids later : ℕ → ℕ) → ((m : ℕ) (p : Pending) → pending_at f.state.tables m ≡ Some p → later m ≡ xids m)
    → KeptSo f kept xids → KeptSo f kept later
kept-xids f kept xids later same so m p at = ((so m p at).0 ∙ sym (same m p at), (so m p at).1)
