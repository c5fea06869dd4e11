-- What is known of a state by the events that each pass made: each connection that is up is so as the pass's own events tell, and one
-- pass alone has it come up.
use Rattle.std.proofs.Common.{◌≡◌, ◌≢◌, ◌<◌, ◌+◌, ◌++◌, ◌⊎◌, inl, inr, ℕ, true, false, List, [], ◌∷◌, Some, sym, ap, ◌∙◌, subst, arith}
use Rattle.std.specs.List.{Contains}
use Rattle.std.proofs.lemmas.Bool.{cases_Bool, cases_eq}
use Rattle.std.proofs.lemmas.Option.{none-some, same_Some}
use Rattle.std.proofs.lemmas.List.Elements.{Contains-append_left, Contains-push, Contains-push_cases}
use Rattle.vx_calls.specs.declared.calls.Role.{Role}
use Rattle.vx_flow.specs.Event.{Event, Up, Abort, Begin, Move}
use Rattle.vx_flow.specs.InterleavedState.{InterleavedState}
use Rattle.vx_flow.specs.InterleavedStep.{interleaved_step}
use Rattle.vx_flow.proofs.Laws.{interleaved-does}
use Rattle.vx_group.specs.Phases.{Phase, Absent, phase_after, phase_by, is_up, HasPhase}
use Rattle.vx_group.specs.MadeLinks.{numbers_by, HasLinks}
use Rattle.vx_group.specs.Owning.{has_up, owner_of, may_make}
use Rattle.vx_group.proofs.Laws.Onward.{interleaved-onward}
use Rattle.vx_group.proofs.Plainly.{Plainly, interleaved-plainly}
use Rattle.vx_group.proofs.Rows.{changes, interleaved-keeps}
use Rattle.vx_group.proofs.Laws.{phase-append}
use Rattle.vx_group.proofs.Phasing.{phase-other, keeps-phase, changes-or, made-phase}
use Rattle.vx_group.proofs.Linking.{AreFree, links-keep, links-free, keeps-links, made-links}

-- the events of each pass, by its number
abbrev pub Own : Type 0
Own = ℕ → List Event

-- these events have the connection come up
abbrev pub HasRaised : List Event → ℕ → Type 0
HasRaised es conn = (r : Role) × Contains es (Up conn r)

-- What is known: each connection, with its links, is as the events of each pass tell; one whose number isn't given has no link; one that a pass had come up has a number that was given, and
-- no other pass had it come up; and one that is up by a pass's events, or of which a pass made an event, that pass had come up.
pub record Known (own : Own) (f : InterleavedState) : Type 0 where
  pub plain : Plainly f
  pub phases : (n conn : ℕ) → HasPhase f conn (phase_by conn (own n))
  pub links : (n conn : ℕ) → HasLinks f conn (phase_by conn (own n)) (numbers_by conn (own n))
  pub free : AreFree f
  pub given : (n conn : ℕ) (r : Role) → Contains (own n) (Up conn r) → conn < f.state.tables.next_connection
  pub once : (n m conn : ℕ) (r q : Role) → Contains (own n) (Up conn r) → Contains (own m) (Up conn q) → n ≡ m
  pub raised : (n conn : ℕ) → is_up (phase_by conn (own n)) ≡ true → HasRaised (own n) conn
  pub owned : (n conn : ℕ) (e : Event) → Contains (own n) e → owner_of e ≡ Some conn → HasRaised (own n) conn

-- ---- what an event tells

-- an event that changes a connection is that connection's
changes-owner : (e : Event) (conn : ℕ) → changes e ≡ Some conn → owner_of e ≡ Some conn
changes-owner (Abort c lid told) conn h = absurd (none-some conn h)
changes-owner (Begin c now) conn h = absurd (none-some conn h)
changes-owner (Move c moves) conn h = absurd (none-some conn h)
changes-owner _ conn h = h

-- a pass that may make a connection's event has it up, or has it come up by that event
abbrev RaisesNow : List Event → Event → ℕ → Type 0
RaisesNow own e conn = ((r : Role) × (e ≡ Up conn r)) ⊎ (is_up (phase_by conn own) ≡ true)

-- so it is of each event that the pass may make
made-raised : (e : Event) (own : List Event) (conn : ℕ) → may_make own e ≡ true → owner_of e ≡ Some conn → RaisesNow own e conn
made-raised (Up c r) own conn may h = inl (r, ap (λ k. Up k r) (same_Some c conn h))
made-raised _ own conn may h = inr (subst (λ o. has_up own o ≡ true) h may)

-- of a connection that isn't up a phase tells nothing
absent-phase : (phase : Phase) (g : InterleavedState) (conn : ℕ) → is_up phase ≡ false → HasPhase g conn phase
absent-phase Absent g conn h = tt
absent-phase _ g conn h = cc

-- a connection that comes up has the number that comes next, which is used up
record UsesNext (f g : InterleavedState) (conn : ℕ) : Type 0 where
  is : conn ≡ f.state.tables.next_connection
  after : g.state.tables.next_connection ≡ conn + 1

-- so it is where it is allowed to come up
up-uses : (f g : InterleavedState) (e : Event) (conn : ℕ) (r : Role) → e ≡ Up conn r → interleaved_step f e ≡ Some g → UsesNext f g conn
up-uses f g e conn r is h =
    let d = (interleaved-does f g (Up conn r) (subst (λ x. interleaved_step f x ≡ Some g) is h)).step in
    record { is = d.number; after = ap (λ (x : InterleavedState). x.state.tables.next_connection) d.leads ∙ ap (λ n. n + 1) (sym d.number) }

-- ---- one event more

-- A pass made one event more, and the others none.
pub record OneMore (own new : Own) (n : ℕ) (e : Event) : Type 0 where
  pub here : new n ≡ own n ++ e ∷ []
  pub there : (k : ℕ) → k ≢ n → new k ≡ own k

-- what stood in a pass's events stands there still
stays-in : (own new : Own) (n : ℕ) (e : Event) → OneMore own new n e → (k : ℕ) (x : Event) → Contains (own k) x → Contains (new k) x
stays-in own new n e more k x h = by (cases_eq k n) where
  by : (k ≡ n) ⊎ (k ≡ n → ⊥) → Contains (new k) x
  by (inl is) =
      subst (λ es. Contains es x) (sym (ap new is ∙ more.here)) (Contains-append_left (own n) (e ∷ []) x (subst (λ j. Contains (own j) x) is h))
  by (inr ne) = subst (λ es. Contains es x) (sym (more.there k ne)) h

-- what stands there stood there, or is the event that was made
stood-in : (own new : Own) (n : ℕ) (e : Event) → OneMore own new n e → (k : ℕ) (x : Event) → Contains (new k) x → Contains (own k) x ⊎ ((k ≡ n) × (e ≡ x))
stood-in own new n e more k x h = by (cases_eq k n) where
  at : (k ≡ n) → Contains (own n) x ⊎ (e ≡ x) → Contains (own k) x ⊎ ((k ≡ n) × (e ≡ x))
  at is (inl before) = inl (subst (λ j. Contains (own j) x) (sym is) before)
  at is (inr new) = inr (is, new)

  by : (k ≡ n) ⊎ (k ≡ n → ⊥) → Contains (own k) x ⊎ ((k ≡ n) × (e ≡ x))
  by (inl is) = at is (Contains-push_cases (own n) e x (subst (λ es. Contains es x) (ap new is ∙ more.here) h))
  by (inr ne) = inl (subst (λ es. Contains es x) (more.there k ne) h)

module _ (own new : Own) (n : ℕ) (e : Event) (f g : InterleavedState) (more : OneMore own new n e) (known : Known own f) (may : may_make (own n) e ≡ true) (h : interleaved_step f e ≡ Some g) where
  -- what a pass had come up stays among its events
  raised-still : (k conn : ℕ) → HasRaised (own k) conn → HasRaised (new k) conn
  raised-still k conn raised = (raised.0, stays-in own new n e more k (Up conn raised.0) raised.1)

  -- the event that it made is among its events
  new-event : Contains (new n) e
  new-event = subst (λ es. Contains es e) (sym more.here) (Contains-push (own n) e)

  -- it had the connection of that event come up, now or before
  new-raised : (conn : ℕ) → owner_of e ≡ Some conn → HasRaised (new n) conn
  new-raised conn of_it = by (made-raised e (own n) conn may of_it) where
    by : RaisesNow (own n) e conn → HasRaised (new n) conn
    by (inl up) = (up.0, subst (Contains (new n)) up.1 new-event)
    by (inr up) = raised-still n conn (known.raised n conn up)

  -- one that a pass had come up has a number that was given
  more-given : (k conn : ℕ) (r : Role) → Contains (new k) (Up conn r) → conn < g.state.tables.next_connection
  more-given k conn r in_new = by (stood-in own new n e more k (Up conn r) in_new) where
    by : Contains (own k) (Up conn r) ⊎ ((k ≡ n) × (e ≡ Up conn r)) → conn < g.state.tables.next_connection
    by (inl before) = omega (arith, known.given k conn r before, (interleaved-onward e f g h).next)
    by (inr now) = let uses = up-uses f g e conn r now.1 h in omega (arith, uses.after)

  -- a connection that comes up now wasn't had come up before
  not-before : (k conn : ℕ) (r q : Role) → Contains (own k) (Up conn r) → e ≡ Up conn q → ⊥
  not-before k conn r q before now = let low = known.given k conn r before in let uses = up-uses f g e conn q now h in absurd (omega (arith, low, uses.is))

  -- no other pass had it come up
  more-once : (k m conn : ℕ) (r q : Role) → Contains (new k) (Up conn r) → Contains (new m) (Up conn q) → k ≡ m
  more-once k m conn r q first second = by (stood-in own new n e more k (Up conn r) first) (stood-in own new n e more m (Up conn q) second) where
    by : Contains (own k) (Up conn r) ⊎ ((k ≡ n) × (e ≡ Up conn r)) → Contains (own m) (Up conn q) ⊎ ((m ≡ n) × (e ≡ Up conn q)) → k ≡ m
    by (inl a) (inl b) = known.once k m conn r q a b
    by (inl a) (inr b) = absurd (not-before k conn r q a b.1)
    by (inr a) (inl b) = absurd (not-before m conn q r b a.1)
    by (inr a) (inr b) = a.0 ∙ sym b.0

  -- a connection of which a pass made an event it had come up
  more-owned : (k conn : ℕ) (x : Event) → Contains (new k) x → owner_of x ≡ Some conn → HasRaised (new k) conn
  more-owned k conn x in_new of_it = by (stood-in own new n e more k x in_new) where
    by : Contains (own k) x ⊎ ((k ≡ n) × (e ≡ x)) → HasRaised (new k) conn
    by (inl before) = raised-still k conn (known.owned k conn x before of_it)
    by (inr now) = subst (λ j. HasRaised (new j) conn) (sym now.0) (new-raised conn (ap owner_of now.1 ∙ of_it))

  -- and so it had one that is up by its events
  more-raised : (k conn : ℕ) → is_up (phase_by conn (new k)) ≡ true → HasRaised (new k) conn
  more-raised k conn up = by (cases_eq k n) where
    at : is_up (phase_after conn (phase_by conn (own n)) e) ≡ true → (changes e ≡ Some conn) ⊎ (changes e ≡ Some conn → ⊥) → HasRaised (new n) conn
    at up (inl is) = new-raised conn (changes-owner e conn is)
    at up (inr other) =
        raised-still n conn (known.raised n conn (sym (ap is_up (phase-other e conn (phase_by conn (own n)) other)) ∙ up))

    by : (k ≡ n) ⊎ (k ≡ n → ⊥) → HasRaised (new k) conn
    by (inl is) =
        subst (λ j. HasRaised (new j) conn) (sym is)
        (at (sym (ap is_up (phase-append conn Absent (own n) (e ∷ []))) ∙ ap (λ es. is_up (phase_by conn es)) (sym more.here ∙ ap new (sym is)) ∙ up) (changes-or e conn))
    by (inr ne) =
        raised-still k conn (known.raised k conn (ap (λ es. is_up (phase_by conn es)) (sym (more.there k ne)) ∙ up))

  -- the event is of no connection that is up by the events of another pass
  not-another : (k conn : ℕ) → k ≢ n → owner_of e ≡ Some conn → is_up (phase_by conn (own k)) ≡ true → ⊥
  not-another k conn ne of_it up = by (known.raised k conn up) (made-raised e (own n) conn may of_it) where
    by : HasRaised (own k) conn → RaisesNow (own n) e conn → ⊥
    by before (inl now) = not-before k conn before.0 now.0 before.1 now.1
    by before (inr mine) = let also = known.raised n conn mine in ne (known.once k n conn before.0 also.0 before.1 also.1)

  -- the state has each connection as the events of each other pass tell
  other-phase : (k conn : ℕ) → k ≢ n → HasPhase g conn (phase_by conn (own k))
  other-phase k conn ne = by (changes-or e conn) (cases_Bool (is_up (phase_by conn (own k)))) where
    by : (changes e ≡ Some conn) ⊎ (changes e ≡ Some conn → ⊥) → (is_up (phase_by conn (own k)) ≡ true) ⊎ (is_up (phase_by conn (own k)) ≡ false)
        → HasPhase g conn (phase_by conn (own k))
    by (inr other) up = keeps-phase (phase_by conn (own k)) f g conn (interleaved-keeps e f g conn other h) (known.phases k conn)
    by (inl is) (inl up) = absurd (not-another k conn ne (changes-owner e conn is) up)
    by (inl is) (inr down) = absent-phase (phase_by conn (own k)) g conn down

  -- and as those of the pass that made the event tell
  more-phases : (k conn : ℕ) → HasPhase g conn (phase_by conn (new k))
  more-phases k conn = by (cases_eq k n) where
    by : (k ≡ n) ⊎ (k ≡ n → ⊥) → HasPhase g conn (phase_by conn (new k))
    by (inl is) =
        subst (λ es. HasPhase g conn (phase_by conn es)) (sym (ap new is ∙ more.here))
        (made-phase e (own n) f g conn may known.plain (known.phases n conn) h)
    by (inr ne) = subst (λ es. HasPhase g conn (phase_by conn es)) (sym (more.there k ne)) (other-phase k conn ne)

  -- so it is of its links
  other-links : (k conn : ℕ) → k ≢ n → HasLinks g conn (phase_by conn (own k)) (numbers_by conn (own k))
  other-links k conn ne = by (changes-or e conn) where
    by : (changes e ≡ Some conn) ⊎ (changes e ≡ Some conn → ⊥) → HasLinks g conn (phase_by conn (own k)) (numbers_by conn (own k))
    by (inr other) = keeps-links f g conn (phase_by conn (own k)) (numbers_by conn (own k)) (links-keep e f g conn other h) (known.links k conn)
    by (inl is) = λ up. absurd (not-another k conn ne (changes-owner e conn is) up)

  more-links : (k conn : ℕ) → HasLinks g conn (phase_by conn (new k)) (numbers_by conn (new k))
  more-links k conn = by (cases_eq k n) where
    by : (k ≡ n) ⊎ (k ≡ n → ⊥) → HasLinks g conn (phase_by conn (new k)) (numbers_by conn (new k))
    by (inl is) =
        subst (λ es. HasLinks g conn (phase_by conn es) (numbers_by conn es)) (sym (ap new is ∙ more.here))
        (made-links e (own n) f g conn may known.free (known.phases n conn) (known.links n conn) h)
    by (inr ne) = subst (λ es. HasLinks g conn (phase_by conn es) (numbers_by conn es)) (sym (more.there k ne)) (other-links k conn ne)

  -- all of it is known behind one event more, which the pass may make
  pub known-more : Known new g
  known-more = record {
    plain = interleaved-plainly e f g known.plain h;
    phases = more-phases;
    links = more-links;
    free = links-free e f g known.plain known.free h;
    given = more-given;
    once = more-once;
    raised = more-raised;
    owned = more-owned;
  }
