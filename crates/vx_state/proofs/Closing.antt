-- What holds of the fields of the tables after a change of some of them.
use Rattle.std.proofs.Common.{◌≡◌, ◌+◌, ℕ, List, Option, Some, sym, ap, subst, ◌∙◌}
use Rattle.std.specs.Option.{option_map}
use Rattle.std.proofs.lemmas.Option.{same_Some}
use Rattle.vx_calls.specs.declared.calls.Role.{Role}
use Rattle.vx_rules.specs.Table.{Table}
use Rattle.vx_rules.specs.Locks.{Lock}
use Rattle.vx_rules.specs.SrqState.{SrqState}
use Rattle.vx_state.specs.declared.tables.rows.Row.{Row}
use Rattle.vx_state.specs.declared.tables.rows.PendingRow.{PendingRow}
use Rattle.vx_rules.specs.State.{Pending, Connection, Tables, without_arrival, with_connection, without_connection}
use Rattle.vx_state.specs.Rows.{pending_of, asked_call}
use Rattle.vx_rules.specs.Sound.{IsSound}
use Rattle.vx_rules.proofs.Laws.Keeping.{without_connection-sound}

-- tables with other connections, with other calls, or another state of service requests
abbrev pub with_rows : Tables → List Connection → Tables
with_rows t cs = record t { connections = cs }

abbrev pub with_calls : Tables → List Connection → List ℕ → Tables
with_calls t cs ns = record t { connections = cs; arrivals = ns }

abbrev pub with_srq_state : Tables → SrqState → Tables
with_srq_state t d = record t { srq_state = d }

abbrev pub with_locks : Tables → List Lock → Tables
with_locks t ks = record t { locks = ks }

pub rows_sound : (t : Tables) (now cs : List Connection) → now ≡ cs → IsSound (with_rows t cs) → IsSound (with_rows t now)
rows_sound t now cs e sound = subst (λ xs. IsSound (with_rows t xs)) (sym e) sound

pub calls_sound : (t : Tables) (now cs : List Connection) (come ns : List ℕ) → now ≡ cs → come ≡ ns → IsSound (with_calls t cs ns) → IsSound (with_calls t now come)
calls_sound t now cs come ns e f sound = subst (λ xs. IsSound (with_calls t xs come)) (sym e) (subst (λ ms. IsSound (with_calls t cs ms)) (sym f) sound)

pub srq_state_sound : (t : Tables) (now d : SrqState) → now ≡ d → IsSound (with_srq_state t d) → IsSound (with_srq_state t now)
srq_state_sound t now d e sound = subst (λ x. IsSound (with_srq_state t x)) (sym e) sound

pub locks_sound : (t : Tables) (now ks : List Lock) → now ≡ ks → IsSound (with_locks t ks) → IsSound (with_locks t now)
locks_sound t now ks e sound = subst (λ x. IsSound (with_locks t x)) (sym e) sound

-- four parts changed
abbrev pub changed : Tables → List Connection → Table → List Lock → SrqState → Tables
changed t cs links locks srq_state = record t { connections = cs; links = links; locks = locks; srq_state = srq_state }

pub changed_is : (t : Tables) (cs cs' : List Connection) (links links' : Table) (locks locks' : List Lock) (srq_state srq_state' : SrqState)
    → cs ≡ cs' → links ≡ links' → locks ≡ locks' → srq_state ≡ srq_state' → changed t cs links locks srq_state ≡ changed t cs' links' locks' srq_state'
changed_is t cs cs' links links' locks locks' srq_state srq_state' c l k d =
    ap (λ x. changed t x links locks srq_state) c ∙ ap (λ x. changed t cs' x locks srq_state) l ∙ ap (λ x. changed t cs' links' x srq_state) k ∙ ap (changed t cs' links' locks') d

-- one connection more
pub connected_sound : (t : Tables) (r : Role) (now : List Connection) (d : SrqState) → now ≡ (with_connection t r).connections → d ≡ (with_connection t r).srq_state
    → IsSound (with_connection t r) → IsSound (record t { connections = now; next_connection = t.next_connection + 1; srq_state = d })
connected_sound t r now d e f sound =
    subst (λ xs. IsSound (record t { connections = xs; next_connection = t.next_connection + 1; srq_state = d })) (sym e)
    (subst (λ x. IsSound (record (with_connection t r) { srq_state = x })) (sym f) sound)

pub connected_is : (t : Tables) (r : Role) (now : List Connection) (d : SrqState) → now ≡ (with_connection t r).connections → d ≡ (with_connection t r).srq_state
    → record t { connections = now; next_connection = t.next_connection + 1; srq_state = d } ≡ with_connection t r
connected_is t r now d e f =
    ap (λ xs. let u : Tables = record t { connections = xs; next_connection = t.next_connection + 1; srq_state = d } in u) e
    ∙ ap (λ x. let u : Tables = record (with_connection t r) { srq_state = x } in u) f

-- the same connections and the same state of service requests
pub kept_is : (t : Tables) (now : List Connection) (d : SrqState) → now ≡ t.connections → d ≡ t.srq_state → record t { connections = now; srq_state = d } ≡ t
kept_is t now d e f = ap (λ xs. let u : Tables = record t { connections = xs; srq_state = d } in u) e ∙ ap (with_srq_state t) f

-- where a connection goes, its arrival does too
pub gone_sound : (t : Tables) (conn : ℕ) (cs : List Connection) (come : List ℕ) (links : Table) (locks : List Lock) (srq_state : SrqState) → IsSound t
    → come ≡ without_arrival t.arrivals conn
    → changed (with_calls t t.connections come) cs links locks srq_state ≡ changed (with_calls t t.connections come) (without_connection t conn).connections
    (without_connection t conn).links (without_connection t conn).locks (without_connection t conn).srq_state
    → IsSound (changed (with_calls t t.connections come) cs links locks srq_state)
gone_sound t conn cs come links locks srq_state s gone e =
    let u = without_connection t conn in
    subst IsSound (sym e)
    (subst (λ ns. IsSound (changed (with_calls t t.connections ns) u.connections u.links u.locks u.srq_state)) (sym gone) (without_connection-sound t conn s))

-- the pending call of a row that was found
pub pending_is : (r : Row) (a : PendingRow) (o : Option Pending) (p : Pending) → pending_of r ≡ o → r.asked ≡ Some a → o ≡ Some p
    → asked_call a r.text.bytes.items r.handle.bytes.items ≡ p
pending_is r a o p seen has here = same_Some _ p (at r.asked has ∙ seen ∙ here)
  where
    at : (x : Option PendingRow) → x ≡ Some a → Some (asked_call a r.text.bytes.items r.handle.bytes.items) ≡ option_map (λ b. asked_call b r.text.bytes.items r.handle.bytes.items) x
    at x e = ap (option_map (λ b. asked_call b r.text.bytes.items r.handle.bytes.items)) (sym e)

pub seen_pending : (r : Row) (a : PendingRow) → r.asked ≡ Some a → pending_of r ≡ Some (asked_call a r.text.bytes.items r.handle.bytes.items)
seen_pending r a has = ap (option_map (λ b. asked_call b r.text.bytes.items r.handle.bytes.items)) has
