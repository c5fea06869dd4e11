-- What the calls that need no bus make of the tables.
use Rattle.std.proofs.Common.{◌≡◌, ℕ, ℤ, Bool, true, false, cond, not, ◌==◌, ◌&&◌, ◌||◌, List, Option, Some, None, is_some, Ok, refl, sym, ap, subst, ◌∙◌}
use Rattle.std.specs.List.{filter}
use Rattle.std.specs.Option.{option_and_then}
use Rattle.std.proofs.lemmas.Bool.{false≢true, and_parts, eqb-true}
use Rattle.std.proofs.lemmas.Option.{same_Some}
use Rattle.vx_lemmas.proofs.Laws.Lists.{found_passes, found_among, none_found}
use Rattle.vx_calls.specs.declared.codes.ErrorCode.{ErrorCode}
use Rattle.vx_calls.specs.declared.codes.ErrorCode.TheVariants as code
use Rattle.vx_calls.specs.declared.targets.Target.{Target}
use Rattle.vx_calls.specs.Target.{target}
use Rattle.vx_calls.specs.Call.{Call}
use Rattle.vx_calls.specs.Call as call
use Rattle.vx_calls.specs.Reply.{Reply}
use Rattle.vx_calls.specs.Reply as reply
use Rattle.std.specs.Prelude.{IsSome, is_none, nat_lt}
use Rattle.vx_rules.specs.SrqState.{channel_at, has_number, with_enable}
use Rattle.vx_links.specs.declared.links.LinkRow.{LinkRow}
use Rattle.vx_links.specs.Shown.{link_shown}
use Rattle.vx_rules.specs.Table.{Link, Table, IsNumbered, is_live, link_at}
use Rattle.vx_rules.specs.Table as links
use Rattle.vx_rules.proofs.Laws.Numbers.{find-own, filter-own}
use Rattle.vx_rules.specs.Locks.{Lock, holder_of, is_blocked, keeps_off, with_lock, without_lock}
use Rattle.vx_rules.specs.State.{Pending, Tables, link_of, with_link, without_link, pending_at}
use Rattle.vx_rules.specs.Checks.{NoLink, OnLink, named_link, link_found, check}
use Rattle.vx_rules.specs.Lines.{holder_against, lets_pass}
use Rattle.vx_rules.specs.Calls.{is_bus_call, asks_dial}
use Rattle.vx_rules.specs.Effects.{locked_link, effect}
use Rattle.vx_state.specs.declared.tables.kept.Kept.{Kept}
use Rattle.vx_state.specs.declared.tables.kept.Kept.TheVariants as kept
use Rattle.vx_state.specs.declared.tables.rows.Row.{Row}
use Rattle.vx_state.specs.declared.tables.rows.PendingRow.{PendingRow}
use Rattle.vx_state.specs.Held.{kept_call}
use Rattle.vx_state.specs.Rows.{asked_call, pending_of}
use Rattle.vx_rules.specs.Serving.{can_settle}
use Rattle.vx_rules.specs.Sound.{IsSound, owns, has_slot}
use Rattle.vx_lemmas.proofs.Laws.Options.{unmapped}
use Rattle.vx_rules.proofs.Laws.Walks.{asked-free}
use Rattle.vx_rules.proofs.Laws.Passing.{Lets, lets-says, port_of}
use Rattle.vx_state.proofs.Closing.{with_locks, pending_is, seen_pending}

-- a link that was made, and its lock
pub made_is : (t : Tables) (conn : ℕ) (lock : Bool) (named : Target) (made : Table) (lid : ℕ) (locks : List Lock)
    → made ≡ links.with_link t.links conn named → lid ≡ t.links.next → locks ≡ cond lock (with_lock t.locks lid named) t.locks
    → record t { links = made; locks = locks } ≡ locked_link t lock named (with_link t conn named)
made_is t conn true named made lid locks m n k =
    ap (λ x. record t { links = x; locks = locks }) m
    ∙ ap (λ x. record t { links = links.with_link t.links conn named; locks = x }) (k ∙ ap (λ i. with_lock t.locks i named) n)
made_is t conn false named made lid locks m n k =
    ap (λ x. record t { links = x; locks = locks }) m ∙ ap (λ x. record t { links = links.with_link t.links conn named; locks = x }) k

-- the connection's link of a number
pub record IsOwn (t : Tables) (conn lid : ℕ) (l : Link) : Type 0 where
  pub number : l.number ≡ lid
  pub live : is_live t.links lid ≡ true
  pub owned : owns t.links.links lid conn ≡ true

pub own_is : (t : Tables) (conn lid : ℕ) (l : Link) → link_of t conn lid ≡ Some l → IsOwn t conn lid l
own_is t conn lid l found =
    let passes = found_passes (λ m. (m.number == lid) && (m.connection == conn)) t.links.links l found in
    let parts = and_parts _ _ passes in
    record {
      number = eqb-true l.number lid parts.0;
      live = found_among (λ m. (m.number == lid) && (m.connection == conn)) (λ m. m.number == lid) t.links.links l found parts.0;
      owned = found_among (λ m. (m.number == lid) && (m.connection == conn)) (λ m. (m.number == lid) && (m.connection == conn)) t.links.links l found passes;
    }

chosen : (b : Bool) (x y : Link) → cond b (Some x) None ≡ Some y → x ≡ y
chosen true x y h = same_Some x y h
chosen false x y h = cc

-- it is the link of that number
pub same_link : (t : Tables) (conn lid : ℕ) (row : LinkRow) (l : Link) → IsNumbered t.links → Some (link_shown row) ≡ link_at t.links lid → link_of t conn lid ≡ Some l
    → link_shown row ≡ l
same_link t conn lid row l n at found =
    chosen (row.conn == conn) (link_shown row) l
    (ap (option_and_then (λ k. cond (k.connection == conn) (Some k) None)) at ∙ sym (find-own lid conn t.links.links n.rising) ∙ found)

-- a lock that is taken, unless one is held
pub locked_is : (t : Tables) (b : Bool) (ks : List Lock) → with_locks t (cond b t.locks ks) ≡ cond b t (with_locks t ks)
locked_is t true ks = refl
locked_is t false ks = refl

pub not_blocked : (t : Tables) (lid : ℕ) (named : Target) → holder_of t.locks lid named ≡ None → is_blocked t.locks lid named ≡ false
not_blocked t lid named none = none_found (keeps_off lid named) t.locks (unmapped (λ k. k.link) _ none)

-- a link that goes by its number is the connection's
pub removed_is : (t : Tables) (conn lid : ℕ) (gone : Table) → IsNumbered t.links → owns t.links.links lid conn ≡ true → gone ≡ links.without_link t.links lid
    → gone ≡ record t.links { links = filter (λ l. not ((l.number == lid) && (l.connection == conn))) t.links.links }
removed_is t conn lid gone n own e = e ∙ ap (λ xs. record t.links { links = xs }) (filter-own lid conn t.links.links n.rising own)

-- a call as words that nothing is against, and that needs no bus and no dial
pub record Served (t : Tables) (own conn : ℕ) (text handle : List ℕ) (words : Kept) : Type 0 where
  pub lets : Lets (check t own conn false (named_link t conn (kept_call words text handle)) (kept_call words text handle))
      (holder_against t own (named_link t conn (kept_call words text handle)) (kept_call words text handle))
  pub simple : (is_bus_call (kept_call words text handle) || asks_dial (kept_call words text handle)) ≡ false

pub here_is : (t : Tables) (conn : ℕ) (r : Row) (a : PendingRow) → pending_of r ≡ pending_at t conn → r.asked ≡ Some a
    → pending_at t conn ≡ Some (asked_call a r.text.bytes.items r.handle.bytes.items)
here_is t conn r a seen has = sym seen ∙ seen_pending r a has

pub served_is : (t : Tables) (own conn : ℕ) (r : Row) (a : PendingRow) → pending_of r ≡ pending_at t conn → r.asked ≡ Some a
    → ((p : Pending) → pending_at t conn ≡ Some p → (is_bus_call p.call || asks_dial p.call) ≡ false)
    → ((p : Pending) → pending_at t conn ≡ Some p → lets_pass t own conn p ≡ true)
    → (words : Kept) → a.call ≡ words → Served t own conn r.text.bytes.items r.handle.bytes.items words
served_is t own conn r a seen has table passes words is =
    let here = here_is t conn r a seen has in
    subst (Served t own conn r.text.bytes.items r.handle.bytes.items) is (record { lets = lets-says _ _ (passes _ here); simple = table _ here })

-- what holds of the call as words holds of the pending call
pub to_pending : (t : Tables) (conn : ℕ) (r : Row) (a : PendingRow) → pending_of r ≡ pending_at t conn → r.asked ≡ Some a → (F : Call → Type 0)
    → (words : Kept) → a.call ≡ words → F (kept_call words r.text.bytes.items r.handle.bytes.items) → (p : Pending) → pending_at t conn ≡ Some p → F p.call
to_pending t conn r a seen has F words is fact p here =
    subst (λ q. F q.call) (pending_is r a (pending_at t conn) p seen has here)
    (subst (λ k. F (kept_call k r.text.bytes.items r.handle.bytes.items)) (sym is) fact)

-- a call on a link that its checks let pass names its connection's link
pub record OnOwn (t : Tables) (own conn lid : ℕ) (asked : Call) : Type 0 where
  pub link : Link
  pub found : link_of t conn lid ≡ Some link
  pub is : IsOwn t conn lid link
  pub named : link_found (link_of t conn lid) ≡ OnLink link

pub on_own : (t : Tables) (own conn lid : ℕ) (asked : Call) → check t own conn false (link_found (link_of t conn lid)) asked ≡ None → OnOwn t own conn lid asked
on_own t own conn lid asked checks = at (link_of t conn lid) refl checks
  where
    at : (o : Option Link) → link_of t conn lid ≡ o → check t own conn false (link_found o) asked ≡ None → OnOwn t own conn lid asked
    at None e h = cc
    at (Some l) e h = record { link = l; found = e; is = own_is t conn lid l e; named = ap link_found e }

-- the lock of a link that is made is free
pub created_free : (t : Tables) (own : ℕ) (client : ℤ) (lock : Bool) (lock_timeout : ℕ) (device : List ℕ)
    → holder_against t own NoLink (call.CreateLink client lock lock_timeout device) ≡ None → lock ≡ true
    → (u : Target) → target device own ≡ Ok u → holder_of t.locks 0 u ≡ None
created_free t own client true lock_timeout device free l u e = asked-free t (target device own) free u e
created_free t own client false lock_timeout device free l u e = absurd (false≢true l)

-- none of the calls that need no bus is left
pub none_else : (k : Kept) (text handle : List ℕ) → ((client : ℤ) (lock : Bool) (lock_timeout : ℕ) → k ≡ kept.CreateLink client lock lock_timeout → ⊥)
    → ((lid : ℕ) (enable : Bool) → k ≡ kept.EnableSrq lid enable → ⊥) → ((lid flags lock_timeout : ℕ) → k ≡ kept.Lock lid flags lock_timeout → ⊥)
    → ((lid : ℕ) → k ≡ kept.Unlock lid → ⊥) → ((lid : ℕ) → k ≡ kept.DestroyLink lid → ⊥) → (k ≡ kept.DestroyIntr → ⊥)
    → (is_bus_call (kept_call k text handle) || asks_dial (kept_call k text handle)) ≡ false → ⊥
none_else (kept.CreateLink client lock lock_timeout) text handle a b c d e f h = a client lock lock_timeout refl
none_else (kept.EnableSrq lid enable) text handle a b c d e f h = b lid enable refl
none_else (kept.Lock lid flags lock_timeout) text handle a b c d e f h = c lid flags lock_timeout refl
none_else (kept.Unlock lid) text handle a b c d e f h = d lid refl
none_else (kept.DestroyLink lid) text handle a b c d e f h = e lid refl
none_else kept.DestroyIntr text handle a b c d e f h = f refl
none_else _ text handle a b c d e f h = false≢true (sym h)

pub none_dials : (t : Tables) (conn : ℕ) (k : Kept) (text handle : List ℕ) → ((host port prog vers family : ℕ) → k ≡ kept.CreateIntr host port prog vers family → ⊥)
    → can_settle t conn (kept_call k text handle) ≡ true → ⊥
none_dials t conn (kept.CreateIntr host port prog vers family) text handle a h = a host port prog vers family refl
none_dials t conn _ text handle a h = false≢true h

-- a connection with some call may have a channel
pub port_held : (t : Tables) (conn : ℕ) → IsSound t → IsSome (pending_at t conn) → has_slot t.srq_state conn ≡ true
port_held t conn s some = at (pending_at t conn) refl some
  where
    at : (o : Option Pending) → pending_at t conn ≡ o → IsSome o → has_slot t.srq_state conn ≡ true
    at (Some p) here h = port_of t conn p s here
    at None here h = absurd (false≢true h)

-- a reply and tables that are these
gives : (x : Option (Reply × Tables)) (r r' : Reply) (t t' : Tables) → x ≡ Some (r, t) → r' ≡ r → t' ≡ t → x ≡ Some (r', t')
gives x r r' t t' found same there = found ∙ ap (λ y. Some (y, t)) (sym same) ∙ ap (λ u. Some (r', u)) (sym there)

pub enable_gives : (t : Tables) (own conn lid : ℕ) (on : Bool) (handle given : List ℕ) (l : Link) → link_found (link_of t conn lid) ≡ OnLink l → l.number ≡ lid → given ≡ handle
    → (r : Reply) (u : Tables) → r ≡ reply.Error code.Ok → u ≡ record t { srq_state = with_enable t.srq_state (record { link = lid; connection = conn; on = on; handle = given }) }
    → effect t own conn (link_found (link_of t conn lid)) (call.EnableSrq lid on handle) ≡ Some (r, u)
enable_gives t own conn lid on handle given l named number same r u replied there =
    gives (effect t own conn (link_found (link_of t conn lid)) (call.EnableSrq lid on handle)) (reply.Error code.Ok) r
    (record t { srq_state = with_enable t.srq_state (record { link = l.number; connection = conn; on = on; handle = handle }) }) u
    (ap (λ a. effect t own conn a (call.EnableSrq lid on handle)) named) replied
    (there ∙ ap (λ b. record t { srq_state = with_enable t.srq_state (record { link = lid; connection = conn; on = on; handle = b }) }) same
    ∙ ap (λ n. record t { srq_state = with_enable t.srq_state (record { link = n; connection = conn; on = on; handle = handle }) }) (sym number))

pub unlock_gives : (t : Tables) (own conn lid : ℕ) (l : Link) → link_found (link_of t conn lid) ≡ OnLink l → l.number ≡ lid
    → (r : Reply) (u : Tables) → r ≡ reply.Error code.Ok → u ≡ record t { locks = without_lock t.locks lid }
    → effect t own conn (link_found (link_of t conn lid)) (call.Unlock lid) ≡ Some (r, u)
unlock_gives t own conn lid l named number r u replied there =
    gives (effect t own conn (link_found (link_of t conn lid)) (call.Unlock lid)) (reply.Error code.Ok) r (record t { locks = without_lock t.locks l.number }) u
    (ap (λ a. effect t own conn a (call.Unlock lid)) named) replied (there ∙ ap (λ n. record t { locks = without_lock t.locks n }) (sym number))

pub destroy_gives : (t : Tables) (own conn lid : ℕ) (l : Link) → link_found (link_of t conn lid) ≡ OnLink l → l.number ≡ lid
    → (r : Reply) (u : Tables) → r ≡ reply.Error code.Ok → u ≡ without_link t conn lid
    → effect t own conn (link_found (link_of t conn lid)) (call.DestroyLink lid) ≡ Some (r, u)
destroy_gives t own conn lid l named number r u replied there =
    gives (effect t own conn (link_found (link_of t conn lid)) (call.DestroyLink lid)) (reply.Error code.Ok) r (without_link t conn l.number) u
    (ap (λ a. effect t own conn a (call.DestroyLink lid)) named) replied (there ∙ ap (without_link t conn) (sym number))

-- a dial that may be settled finds no channel and a number
pub record Settles (t : Tables) (conn : ℕ) : Type 0 where
  pub alone : is_some (channel_at t.srq_state conn) ≡ false
  pub left : has_number t.srq_state ≡ true

settles_if : (t : Tables) (conn : ℕ) (a b c d : Bool) (e₁ e₂ e₃ e₄ : ErrorCode) → is_some (channel_at t.srq_state conn) ≡ c → has_number t.srq_state ≡ d
    → is_none (cond a (Some e₁) (cond b (Some e₂) (cond c (Some e₃) (cond d None (Some e₄))))) ≡ true → Settles t conn
settles_if t conn true b c d e₁ e₂ e₃ e₄ channel number h = absurd (false≢true h)
settles_if t conn false true c d e₁ e₂ e₃ e₄ channel number h = absurd (false≢true h)
settles_if t conn false false true d e₁ e₂ e₃ e₄ channel number h = absurd (false≢true h)
settles_if t conn false false false true e₁ e₂ e₃ e₄ channel number h = record { alone = channel; left = number }
settles_if t conn false false false false e₁ e₂ e₃ e₄ channel number h = absurd (false≢true h)

pub settles_is : (t : Tables) (conn host port prog vers family : ℕ) → can_settle t conn (call.CreateIntr host port prog vers family) ≡ true → Settles t conn
settles_is t conn host port prog vers family h =
    settles_if t conn (not (family == 0)) ((port == 0) || nat_lt 65535 port) (is_some (channel_at t.srq_state conn)) (has_number t.srq_state)
    code.NotSupported code.InvalidAddress code.ChannelUp code.NoResources refl refl h

pub can_settle-at : (t : Tables) (conn : ℕ) (r : Row) (a : PendingRow) → pending_of r ≡ pending_at t conn → r.asked ≡ Some a
    → ((p : Pending) → pending_at t conn ≡ Some p → can_settle t conn p.call ≡ true)
    → (words : Kept) → a.call ≡ words → can_settle t conn (kept_call words r.text.bytes.items r.handle.bytes.items) ≡ true
can_settle-at t conn r a seen has passes words is =
    subst (λ k. can_settle t conn (kept_call k r.text.bytes.items r.handle.bytes.items) ≡ true) is (passes _ (here_is t conn r a seen has))
