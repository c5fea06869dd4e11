-- Which connections live, and in which role: no event changes it but one that comes up and one that ends.
use Rattle.std.proofs.Common.{◌≡◌, ◌≢◌, ◌==◌, ℕ, Bool, true, false, cond, not, List, [], ◌∷◌, ◌++◌, Option, Some, None, refl, sym, ap, ◌∙◌}
use Rattle.std.specs.Option.{option_map}
use Rattle.std.specs.List.{list_all}
use Rattle.std.proofs.lemmas.Bool.{false≢true, and_parts, eq-eqb}
use Rattle.std.proofs.lemmas.Option.{none-some, same_Some}
use Rattle.vx_lemmas.proofs.Laws.Options.{mapped}
use Rattle.vx_lemmas.proofs.Laws.Lists.{find_append-some, find_append-none, find_filter-gone}
use Rattle.vx_calls.specs.declared.calls.Role.{Role}
use Rattle.vx_488.specs.declared.transfers.Transfer.{Transfer}
use Rattle.vx_rules.specs.Lists.{along}
use Rattle.vx_rules.specs.State.{Connection, Tables, connection_at, role_at, with_connection, without_connection}
use Rattle.vx_rules.proofs.Laws.Lists.{along-none}
use Rattle.vx_flow.specs.Event.{Event, Up, Down}
use Rattle.vx_flow.specs.InterleavedState.{InterleavedState}
use Rattle.vx_flow.specs.InterleavedStep.{interleaved_step}
use Rattle.vx_flow.specs.Frames.{lives_by}
use Rattle.vx_flow.specs.Poll.{Ending, Waited, Polls, run_events, end_events}
use Rattle.vx_flow.proofs.Laws.{interleaved-does, interleaved-frame}
use Rattle.vx_player.proofs.PollEvents.{poll-all, along-both}

-- the event is neither a connection that comes up nor one that ends
abbrev pub leaves_roles : Event → Bool
leaves_roles (Up conn r) = false
leaves_roles (Down conn) = false
leaves_roles _ = true

-- ---- roles

-- a connection that went has no role
role-gone : (t : Tables) (conn : ℕ) → role_at (without_connection t conn) conn ≡ None
role-gone t conn =
    ap (option_map (λ (c : Connection). c.role)) (find_filter-gone (λ c. c.number == conn) (λ c. not (c.number == conn)) (λ c e. ap not e) t.connections)

-- one that lives keeps its role where another comes up
role-kept : (t : Tables) (r old : Role) (n : ℕ) → role_at t n ≡ Some old → role_at (with_connection t r) n ≡ Some old
role-kept t r old n h =
    let found = mapped (λ (c : Connection). c.role) (connection_at t n) old h in
    ap (option_map (λ (c : Connection). c.role))
    (find_append-some (λ c. c.number == n) t.connections (record { number = t.next_connection; role = r; pending = None } ∷ []) found.0 found.1)
    ∙ ap Some found.2

-- a number that nobody had is looked for in the one that came up
role-new : (t : Tables) (r : Role) (n : ℕ) → role_at t n ≡ None → role_at (with_connection t r) n ≡ cond (t.next_connection == n) (Some r) None
role-new t r n h = by (connection_at t n) refl h where
  new : (b : Bool)
      → option_map (λ (c : Connection). c.role) (cond b (Some (record { number = t.next_connection; role = r; pending = None })) None) ≡ cond b (Some r) None
  new true = refl
  new false = refl

  by : (o : Option Connection) → connection_at t n ≡ o → option_map (λ (c : Connection). c.role) o ≡ None
      → role_at (with_connection t r) n ≡ cond (t.next_connection == n) (Some r) None
  by None is none =
      ap (option_map (λ (c : Connection). c.role))
      (find_append-none (λ c. c.number == n) t.connections (record { number = t.next_connection; role = r; pending = None } ∷ []) is)
      ∙ new (t.next_connection == n)
  by (Some c) is none = absurd (none-some c.role (sym none))

-- ---- events

-- such an event brings and ends no connection
no-life : (e : Event) (n : ℕ) → leaves_roles e ≡ true → lives_by e ≢ Some n
no-life (Up conn r) n stays = absurd (false≢true stays)
no-life (Down conn) n stays = absurd (false≢true stays)
no-life _ n stays = λ is. none-some n is

-- an event that is neither leaves who lives in which role
pub roles-stay : (f g : InterleavedState) (e : Event) (conn : ℕ) → leaves_roles e ≡ true → interleaved_step f e ≡ Some g → role_at g.state.tables conn ≡ role_at f.state.tables conn
roles-stay f g e conn stays h = (interleaved-frame f g e h).roles conn (no-life e conn stays)

-- and so do such events, one after the other
pub roles-along : (f g : InterleavedState) (es : List Event) (conn : ℕ) → list_all leaves_roles es ≡ true → along interleaved_step (Some f) es ≡ Some g
    → role_at g.state.tables conn ≡ role_at f.state.tables conn
roles-along f g [] conn stay h = ap (λ (x : InterleavedState). role_at x.state.tables conn) (sym (same_Some f g h))
roles-along f g (e ∷ es) conn stay h =
    let stays = and_parts (leaves_roles e) (list_all leaves_roles es) stay in
    by (interleaved_step f e) refl h (λ mid is. roles-stay f mid e conn stays.0 is) (λ mid x. roles-along mid g es conn stays.1 x)
  where
    by : (o : Option InterleavedState) → interleaved_step f e ≡ o → along interleaved_step o es ≡ Some g
        → ((mid : InterleavedState) → interleaved_step f e ≡ Some mid → role_at mid.state.tables conn ≡ role_at f.state.tables conn)
        → ((mid : InterleavedState) → along interleaved_step (Some mid) es ≡ Some g → role_at g.state.tables conn ≡ role_at mid.state.tables conn)
        → role_at g.state.tables conn ≡ role_at f.state.tables conn
    by None is x first rest = absurd (none-some g (sym (along-none interleaved_step es) ∙ x))
    by (Some mid) is x first rest = rest mid x ∙ first mid is

-- a poll leaves who lives in which role
pub polls-roles : (old : InterleavedState) (conn now : ℕ) (moves : List Transfer) (ending : Ending) (new : InterleavedState) (n : ℕ) → Polls old conn now moves ending new
    → role_at new.state.tables n ≡ role_at old.state.tables n
polls-roles old conn now moves ending new n polls =
    ap (λ (x : InterleavedState). role_at x.state.tables n) polls.at_now
    ∙ roles-along old polls.last (run_events old conn now moves ++ end_events conn now ending) n
    (poll-all leaves_roles old conn now moves ending refl refl (end-stay ending)) (along-both old polls.behind (Some polls.last) (run_events old conn now moves) (end_events conn now ending) polls.runs_to polls.ended)
  where
    end-stay : (ending : Ending) → list_all leaves_roles (end_events conn now ending) ≡ true
    end-stay (Waited why) = refl
    end-stay _ = refl

-- ---- a connection that comes up, or ends

-- where no connection of its number lived, it has its role
pub up-roles : (f g : InterleavedState) (conn : ℕ) (r : Role) → role_at f.state.tables conn ≡ None → interleaved_step f (Up conn r) ≡ Some g → role_at g.state.tables conn ≡ Some r
up-roles f g conn r none h =
    let came = (interleaved-does f g (Up conn r) h).step in
    ap (λ (x : InterleavedState). role_at x.state.tables conn) came.leads ∙ role-new f.state.tables r conn none
    ∙ ap (λ m. cond (m == conn) (Some r) None) (sym came.number) ∙ ap (λ b. cond b (Some r) None) (eq-eqb conn conn refl)

-- it lives in any case: where an earlier one of its number lived, in that one's role
pub up-lives : (f g : InterleavedState) (conn : ℕ) (r : Role) → interleaved_step f (Up conn r) ≡ Some g → (known : Role) × (role_at g.state.tables conn ≡ Some known)
up-lives f g conn r h = by (role_at f.state.tables conn) refl where
  by : (o : Option Role) → role_at f.state.tables conn ≡ o → (known : Role) × (role_at g.state.tables conn ≡ Some known)
  by None is = (r, up-roles f g conn r is h)
  by (Some old) is = (
    old,
    ap (λ (x : InterleavedState). role_at x.state.tables conn) (interleaved-does f g (Up conn r) h).step.leads ∙ role-kept f.state.tables r old conn is,
  )

-- and others are as before
pub up-others : (f g : InterleavedState) (conn : ℕ) (r : Role) (n : ℕ) → conn ≢ n → interleaved_step f (Up conn r) ≡ Some g → role_at g.state.tables n ≡ role_at f.state.tables n
up-others f g conn r n ne h = (interleaved-frame f g (Up conn r) h).roles n (λ is. ne (same_Some conn n is))

-- one that ended lives no more
pub down-roles : (f g : InterleavedState) (conn : ℕ) → interleaved_step f (Down conn) ≡ Some g → role_at g.state.tables conn ≡ None
down-roles f g conn h =
    ap (λ (x : InterleavedState). role_at x.state.tables conn) (interleaved-does f g (Down conn) h).step.leads ∙ role-gone f.state.tables conn

-- and others are as before
pub down-others : (f g : InterleavedState) (conn n : ℕ) → conn ≢ n → interleaved_step f (Down conn) ≡ Some g → role_at g.state.tables n ≡ role_at f.state.tables n
down-others f g conn n ne h = (interleaved-frame f g (Down conn) h).roles n (λ is. ne (same_Some conn n is))
