-- What an event leaves of a connection that it doesn't change: its role, its call without an answer but for a mark, and whether a
-- dial was asked for by it.
use Rattle.std.proofs.Common.{◌≡◌, ◌≢◌, ◌==◌, ◌++◌, ◌||◌, ℕ, Bool, true, false, cond, not, List, [], ◌∷◌, Option, Some, None, refl, sym, ap, ◌∙◌}
use Rattle.std.specs.List.{list_any}
use Rattle.std.specs.Option.{option_map}
use Rattle.std.proofs.lemmas.Bool.{eqb-true, eq-eqb, ne_eqb, cond-true, or_right, or_from}
use Rattle.std.proofs.lemmas.Option.{none-some}
use Rattle.std.proofs.lemmas.List.Folds.{list_any-append}
use Rattle.vx_calls.specs.declared.calls.Role.{Role}
use Rattle.vx_calls.specs.Call.{Call}
use Rattle.vx_lemmas.proofs.Laws.Lists.{find_append-none}
use Rattle.vx_rules.specs.State.{Pending, Connection, Tables, role_at, pending_at, with_connection}
use Rattle.vx_flow.specs.Event.{Event, Up, Down, Arrive, Answer, Abort, Sample, Take, Begin, Move, Dial}
use Rattle.vx_flow.specs.InterleavedState.{InterleavedState}
use Rattle.vx_flow.specs.InterleavedStep.{without_dial, interleaved_step}
use Rattle.vx_flow.specs.Frames.{dialed_after, lives_by, calls_by, mark_by}
use Rattle.vx_flow.proofs.Laws.{interleaved-frame, mark-call, another}
use Rattle.vx_group.proofs.Plainly.{Below, none-below}

-- ---- roles

-- a connection that comes up has its role
pub role-new : (t : Tables) (r : Role) → Below t.next_connection t.connections → role_at (with_connection t r) t.next_connection ≡ Some r
role-new t r below =
    let n = t.next_connection in
    let new : Connection = record { number = n; role = r; pending = None } in
    ap (option_map (λ (c : Connection). c.role))
    (find_append-none (λ c. c.number == n) t.connections (new ∷ []) (none-below n t.connections below)
    ∙ cond-true (n == n) (Some new) None (eq-eqb n n refl))

-- ---- calls

-- the call without an answer of a connection, apart from its mark
abbrev pub call_at : Tables → ℕ → Option Call
call_at t conn = option_map (λ p. p.call) (pending_at t conn)

-- ---- rows

-- the tables have a connection's role and call as others have it
pub record SameRow (t u : Tables) (conn : ℕ) : Type 0 where
  pub role : role_at u conn ≡ role_at t conn
  pub call : call_at u conn ≡ call_at t conn

-- ---- dials

-- whether a dial was asked for by the connection
abbrev pub is_dialed : ℕ → List ℕ → Bool
is_dialed conn dialed = list_any (λ n. n == conn) dialed

-- it is the same where another's dial goes
dialed-without : (n m : ℕ) (dialed : List ℕ) → n ≢ m → is_dialed m (without_dial dialed n) ≡ is_dialed m dialed
dialed-without n m [] ne = refl
dialed-without n m (k ∷ ks) ne = by (k == n) refl (dialed-without n m ks ne) where
  by : (b : Bool) → (k == n) ≡ b → is_dialed m (without_dial ks n) ≡ is_dialed m ks
      → is_dialed m (cond (not b) (k ∷ without_dial ks n) (without_dial ks n)) ≡ ((k == m) || is_dialed m ks)
  by true e rest = rest ∙ sym (ap (λ b. b || is_dialed m ks) (ne_eqb k m (λ is. ne (sym (eqb-true k n e) ∙ is))))
  by false e rest = ap (λ b. (k == m) || b) rest

-- none was where its own dial went
pub dialed-gone : (n : ℕ) (dialed : List ℕ) → is_dialed n (without_dial dialed n) ≡ false
dialed-gone n [] = refl
dialed-gone n (k ∷ ks) = by (k == n) refl (dialed-gone n ks) where
  by : (b : Bool) → (k == n) ≡ b → is_dialed n (without_dial ks n) ≡ false → is_dialed n (cond (not b) (k ∷ without_dial ks n) (without_dial ks n)) ≡ false
  by true e rest = rest
  by false e rest = or_from (k == n) (is_dialed n (without_dial ks n)) e rest

-- one was where its own dial came
pub dialed-more : (n : ℕ) (dialed : List ℕ) → is_dialed n (dialed ++ n ∷ []) ≡ true
dialed-more n dialed =
    list_any-append (λ k. k == n) dialed (n ∷ [])
    ∙ or_right (is_dialed n dialed) (is_dialed n (n ∷ [])) (ap (λ b. b || false) (eq-eqb n n refl))

-- it is the same where another's dial comes
dialed-other : (n m : ℕ) (dialed : List ℕ) → n ≢ m → is_dialed m (dialed ++ n ∷ []) ≡ is_dialed m dialed
dialed-other n m dialed ne =
    list_any-append (λ k. k == m) dialed (n ∷ [])
    ∙ ap (λ b. is_dialed m dialed || (b || false)) (ne_eqb n m ne)
    ∙ none (is_dialed m dialed)
  where
    none : (b : Bool) → (b || false) ≡ b
    none true = refl
    none false = refl

-- ---- events

-- the connection whose row an event changes
abbrev pub changes : Event → Option ℕ
changes (Up conn r) = Some conn
changes (Down conn) = Some conn
changes (Arrive conn asked now) = Some conn
changes (Answer conn now failed dialed level told) = Some conn
changes (Dial conn now) = Some conn
changes (Abort conn lid told) = None
changes (Sample now srq) = None
changes (Take conn chan given) = None
changes (Begin conn now) = None
changes (Move conn moves) = None

-- the connection's role and call, and whether a dial was asked for by it, are the same
pub record Keeps (f g : InterleavedState) (conn : ℕ) : Type 0 where
  pub row : SameRow f.state.tables g.state.tables conn
  pub dialed : is_dialed conn g.dialed ≡ is_dialed conn f.dialed

-- an event that brings or takes a connection changes it, and so does one that brings or takes its call
lives-change : (e : Event) (conn : ℕ) → lives_by e ≡ Some conn → changes e ≡ Some conn
lives-change (Up c r) conn h = h
lives-change (Down c) conn h = h
lives-change _ conn h = absurd (none-some conn h)

-- and so does one that brings or takes its call
calls-change : (e : Event) (conn : ℕ) → calls_by e ≡ Some conn → changes e ≡ Some conn
calls-change (Down c) conn h = h
calls-change (Arrive c asked now) conn h = h
calls-change (Answer c now failed dialed level told) conn h = h
calls-change _ conn h = absurd (none-some conn h)

-- a call under a mark is the same
call-marked : (t : Tables) (e : Event) (o : Option Pending) → option_map (λ (p : Pending). p.call) (option_map (mark_by t e) o) ≡ option_map (λ p. p.call) o
call-marked t e None = refl
call-marked t e (Some p) = ap Some (mark-call t e p)

-- whether a dial was asked for stays where an event changes another connection
dials-keep : (e : Event) (conn : ℕ) (dialed : List ℕ) → (changes e ≡ Some conn → ⊥) → is_dialed conn (dialed_after dialed e) ≡ is_dialed conn dialed
dials-keep (Down c) conn dialed other = dialed-without c conn dialed (another c conn other)
dials-keep (Answer c now failed told level reply) conn dialed other = dialed-without c conn dialed (another c conn other)
dials-keep (Dial c now) conn dialed other =
    let ne = another c conn other in dialed-other c conn (without_dial dialed c) ne ∙ dialed-without c conn dialed ne
dials-keep _ conn dialed other = refl

-- an event keeps each connection that it doesn't change
pub interleaved-keeps : (e : Event) (f g : InterleavedState) (conn : ℕ) → (changes e ≡ Some conn → ⊥) → interleaved_step f e ≡ Some g → Keeps f g conn
interleaved-keeps e f g conn other h =
    let frame = interleaved-frame f g e h in
    let t = f.state.tables in
    record {
      row = record {
        role = frame.roles conn (λ is. other (lives-change e conn is));
        call = ap (option_map (λ (p : Pending). p.call)) (frame.calls conn (λ is. other (calls-change e conn is))) ∙ call-marked t e (pending_at t conn);
      };
      dialed = ap (is_dialed conn) frame.dialed_are ∙ dials-keep e conn f.dialed other;
    }
