-- Each connection that lives, and each one by whose call a dial was asked for, has a number that was given.
use Rattle.std.proofs.Common.{◌≡◌, ◌<◌, ◌≤◌, ◌+◌, ◌==◌, ℕ, Bool, true, false, cond, not, List, [], ◌∷◌, Option, Some, None, refl, sym, ◌∙◌, subst, arith}
use Rattle.std.specs.List.{All, find, list_any}
use Rattle.std.proofs.lemmas.Bool.{eqb-true, ne_eqb, cond-false}
use Rattle.std.proofs.lemmas.List.Elements.{All-nil, All-head, All-tail, All-push, All-weaker, All-filter, All-map}
use Rattle.std.proofs.lemmas.List.Folds.{list_any_none}
use Rattle.vx_lemmas.proofs.Laws.Options.{gone_on}
use Rattle.vx_lemmas.proofs.Laws.Lists.{found_passes, found_holds}
use Rattle.vx_rules.specs.Table.{is_live}
use Rattle.vx_rules.specs.State.{Pending, Connection, Tables, connection_at, pending_at, with_pending, with_connection, without_connection}
use Rattle.vx_rules.specs.AtomicStep.{arrived, mark_on, marked, abort_tables}
use Rattle.vx_rules.proofs.Laws.Lists.{All-update}
use Rattle.vx_flow.specs.Event.{Event, Up, Down, Arrive, Answer, Abort, Sample, Take, Begin, Move, Dial}
use Rattle.vx_flow.specs.InterleavedState.{InterleavedState, first_interleaved}
use Rattle.vx_flow.specs.InterleavedStep.{without_dial, interleaved_step}
use Rattle.vx_flow.specs.Frames.{dialed_after, TablesAfter}
use Rattle.vx_flow.proofs.Laws.{interleaved-does, interleaved-frame}

-- each connection has a number below this one
abbrev pub Below : ℕ → List Connection → Type 0
Below next connections = All (λ c. c.number < next) connections

-- so has each connection that lives, and each one by whose call a dial was asked for
pub record Plainly (f : InterleavedState) : Type 0 where
  pub numbers : Below f.state.tables.next_connection f.state.tables.connections
  pub dials : All (λ n. n < f.state.tables.next_connection) f.dialed

-- so it is of a gateway as it starts
pub first-plainly : (port : ℕ) → Plainly (first_interleaved port)
first-plainly port = record { numbers = All-nil (λ c. c.number < 1); dials = All-nil (λ n. n < 1) }

-- numbers below one are below a greater one
below-more : (n m : ℕ) (connections : List Connection) → n ≤ m → Below n connections → Below m connections
below-more n m connections le below = All-weaker (λ c. c.number < n) (λ c. c.number < m) (λ c h. omega (arith, h, le)) connections below

-- and so it is of those that dial
dials-more : (n m : ℕ) (dialed : List ℕ) → n ≤ m → All (λ k. k < n) dialed → All (λ k. k < m) dialed
dials-more n m dialed le below = All-weaker (λ k. k < n) (λ k. k < m) (λ k h. omega (arith, h, le)) dialed below

-- the numbers are below the next one where a connection's call changes
below-pending : (t : Tables) (conn : ℕ) (p : Option Pending) → Below t.next_connection t.connections
    → Below (with_pending t conn p).next_connection (with_pending t conn p).connections
below-pending t conn p below =
    All-update (λ c. c.number < t.next_connection) (λ c. c.number == conn) (λ c. record c { pending = p }) t.connections
    (λ c h. found_holds (λ c. c.number < t.next_connection) (λ c. c.number == conn) t.connections c below h) below

-- and where calls are marked
below-abort : (t : Tables) (lid : ℕ) → Below t.next_connection t.connections → Below (abort_tables t lid).next_connection (abort_tables t lid).connections
below-abort t lid below = by (is_live t.links lid) where
  by : (b : Bool) → Below (cond b (marked t lid) t).next_connection (cond b (marked t lid) t).connections
  by true = All-map (λ c. c.number < t.next_connection) (mark_on lid) t.connections below
  by false = below

-- a connection with a call lives, so that its number was given
pub asked-below : (t : Tables) (conn : ℕ) (p : Pending) → Below t.next_connection t.connections → pending_at t conn ≡ Some p → conn < t.next_connection
asked-below t conn p below at =
    let c = gone_on (λ (c : Connection). c.pending) (connection_at t conn) p at in
    let is = eqb-true c.0.number conn (found_passes (λ c. c.number == conn) t.connections c.0 c.1) in
    let low = found_holds (λ c. c.number < t.next_connection) (λ c. c.number == conn) t.connections c.0 below c.1 in
    omega arith

-- each event leaves the numbers so
numbers-after : (e : Event) (t u : Tables) → TablesAfter t e u → Below t.next_connection t.connections → Below u.next_connection u.connections
numbers-after e t u is below = by e is where
  at : (v : Tables) → u ≡ v → Below v.next_connection v.connections → Below u.next_connection u.connections
  at v same low = subst (λ (x : Tables). Below x.next_connection x.connections) (sym same) low

  by : (e : Event) → TablesAfter t e u → Below u.next_connection u.connections
  by (Up conn r) is =
      let n = t.next_connection in
      at (with_connection t r) is
      (All-push (λ c. c.number < n + 1) t.connections (record { number = n; role = r; pending = None }) (below-more n (n + 1) t.connections (omega arith) below) (omega arith))
  by (Down conn) is = at (without_connection t conn) is (All-filter (λ c. not (c.number == conn)) (λ c. c.number < t.next_connection) t.connections below)
  by (Arrive conn asked now) is = at (with_pending t conn (Some (arrived asked now))) is (below-pending t conn (Some (arrived asked now)) below)
  by (Answer conn now failed dialed level told) is =
      at (with_pending is.after conn None) is.over_is
      (below-pending is.after conn None
      (subst (λ n. Below n is.after.connections) (sym is.leaves.next) (subst (Below t.next_connection) (sym is.leaves.connections) below)))
  by (Abort conn lid told) is = at (abort_tables t lid) is (below-abort t lid below)
  by (Sample now srq) is = at _ is below
  by (Take conn chan given) is = at _ is below
  by (Begin conn now) is = at t is below
  by (Move conn moves) is = at t is below
  by (Dial conn now) is = at t is below

-- and the connections that dial, where one that asks for a dial has a number below
dials-after : (e : Event) (n : ℕ) (dialed : List ℕ) → ((conn now : ℕ) → e ≡ Dial conn now → conn < n) → All (λ k. k < n) dialed → All (λ k. k < n) (dialed_after dialed e)
dials-after (Down conn) n dialed asks below = All-filter (λ k. not (k == conn)) (λ k. k < n) dialed below
dials-after (Answer conn now failed told level reply) n dialed asks below = All-filter (λ k. not (k == conn)) (λ k. k < n) dialed below
dials-after (Dial conn now) n dialed asks below =
    All-push (λ k. k < n) (without_dial dialed conn) conn (All-filter (λ k. not (k == conn)) (λ k. k < n) dialed below) (asks conn now refl)
dials-after _ n dialed asks below = below

-- it stays so behind each event that is allowed
pub interleaved-plainly : (e : Event) (f g : InterleavedState) → Plainly f → interleaved_step f e ≡ Some g → Plainly g
interleaved-plainly e f g plain h =
    let frame = interleaved-frame f g e h in
    let t = f.state.tables in
    record {
      numbers = numbers-after e t g.state.tables frame.tables plain.numbers;
      dials = subst (All (λ k. k < g.state.tables.next_connection)) (sym frame.dialed_are)
          (dials-more t.next_connection g.state.tables.next_connection (dialed_after f.dialed e) frame.connection_numbers
          (dials-after e t.next_connection f.dialed asks plain.dials));
    }
  where
    asks : (conn now : ℕ) → e ≡ Dial conn now → conn < f.state.tables.next_connection
    asks conn now is =
        let d = (interleaved-does f g (Dial conn now) (subst (λ x. interleaved_step f x ≡ Some g) is h)).step in asked-below f.state.tables conn d.asked plain.numbers d.call_at

-- ---- what isn't given yet

-- no connection has the number that comes next
pub none-below : (n : ℕ) (connections : List Connection) → Below n connections → find (λ c. c.number == n) connections ≡ None
none-below n [] below = refl
none-below n (c ∷ cs) below =
    cond-false (c.number == n) (Some c) (find (λ c. c.number == n) cs) (ne_eqb c.number n (λ e. let low = All-head (λ c. c.number < n) c cs below in absurd (omega arith)))
    ∙ none-below n cs (All-tail (λ c. c.number < n) c cs below)

-- nor was a dial asked for by it
pub undialed-below : (n : ℕ) (dialed : List ℕ) → All (λ k. k < n) dialed → list_any (λ k. k == n) dialed ≡ false
undialed-below n dialed below = list_any_none (λ k. k == n) dialed (λ i d h. ne_eqb _ n (λ e. let low = below i d h in absurd (omega arith)))
