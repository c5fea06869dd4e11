-- For a channel that lives: what was taken from it and then its outbox are what rises queued for it while it lived.
use Rattle.std.proofs.Common.{◌≡◌, ◌≢◌, ◌≤◌, ◌<◌, ◌==◌, ℕ, ◌+◌, Bool, true, false, cond, ◌⊎◌, inl, inr, List, [], ◌∷◌, ◌++◌, map, Option, Some, None, Result, Ok, Err, refl, sym, ap, ◌∙◌, subst, arith}
use Rattle.std.specs.Prelude.{◌%◌, ◌^◌, length, is_some, nat_le, ◌&&◌, option_and_then}
use Rattle.std.specs.Option.{option_map, option_map_or}
use Rattle.std.specs.List.{filter, flat_map}
use Rattle.std.proofs.lemmas.Bool.{false≢true, and_parts, cond-true, cond-false, eqb-true, eq-eqb, ne_eqb, cases_eq}
use Rattle.std.proofs.lemmas.List.{append-nil, append_assoc}
use Rattle.std.proofs.lemmas.Option.{cond_some, none-some, same_Some}
use Rattle.std.proofs.Math.Nat.{le_refl}
use Rattle.vx_lemmas.proofs.Laws.Conditions.{chosen}
use Rattle.vx_lemmas.proofs.Laws.Options.{mapped, gone_on}
use Rattle.vx_calls.specs.declared.calls.Role.{Role}
use Rattle.vx_calls.specs.declared.calls.Role.TheVariants as role
use Rattle.vx_calls.specs.declared.codes.ErrorCode.{ErrorCode}
use Rattle.vx_calls.specs.ErrorCode.{same_error}
use Rattle.vx_calls.specs.declared.targets.Target.{Target}
use Rattle.vx_calls.specs.Target.{target}
use Rattle.vx_calls.specs.Call.{Call}
use Rattle.vx_calls.specs.Call as call
use Rattle.vx_calls.specs.Reply.{Reply, same_reply}
use Rattle.vx_488.specs.declared.wire.Wire.{Wire}
use Rattle.vx_488.specs.Wire.{wire_after}
use Rattle.vx_rules.specs.Table.{Link, is_live}
use Rattle.vx_rules.specs.Locks.{holds, with_lock}
use Rattle.vx_rules.specs.declared.limits.TheConstants.{OUTBOX_MAX}
use Rattle.vx_rules.specs.SrqState.{SrqState, Enable, Channel, Srq, Given, Front, Empty, Gone, channel_at, with_channel, with_new_channel, new_channel, handles_of, queued_on, risen_slot, is_rise, sampled, front_given, given_by, given, front_taken, taken_from, taken}
use Rattle.vx_rules.specs.State.{Pending, Tables, State, first, connection_at, pending_at, lives_as, is_idle, has_room, with_pending, with_connection, without_connection}
use Rattle.vx_rules.specs.Lists.{along}
use Rattle.vx_rules.specs.Lines.{Admission}
use Rattle.vx_rules.specs.Checks.{NamedLink, NoLink, DeadLink, OnLink, named_link}
use Rattle.vx_rules.specs.Effects.{create, locked, effect_on, effect, settle}
use Rattle.vx_rules.specs.Decide.{BusInput, decide}
use Rattle.vx_rules.specs.Entry.{Entry, Up, Down, Arrive, Answer, Abort, Sample, Take}
use Rattle.vx_rules.specs.AtomicStep.{atomic_step, may_wait, arrived, may_leave, answered, answer_to, answer, call_fits, if_reply, marked, abort_reply, abort_tables, same_given}
use Rattle.vx_rules.specs.Legal.{Due, is_rise_at, is_enabled, due_of, due_in, has_channel, handles_due, queued_along}
use Rattle.vx_rules.proofs.Laws.{same_srq-is}
use Rattle.vx_flow.specs.Laws.{srqs_of, sent, QueuedLaw}
use Rattle.vx_rules.proofs.Laws.Lists.{along-none}
use Rattle.vx_flow.proofs.Laws.Changes.{Found, Same, Settled, Effected, decide-found}
use Rattle.vx_flow.proofs.Laws.Interrupts.{channel-risen, channel-up, channel-down, channel-put, channel-taken}

-- ---- calls with xids in order

-- the xid behind those of these handles
abbrev pub xid_after : ℕ → List (List ℕ) → ℕ
xid_after xid [] = xid
xid_after xid (handle ∷ handles) = xid_after ((xid + 1) % (2 ^ 32)) handles

abbrev pub call_of : ℕ → ℕ → ℕ → List ℕ → Srq
call_of xid program version handle = record { xid = xid; program = program; version = version; handle = handle }

-- one handle more
sent-more : (xid program version : ℕ) (handles : List (List ℕ)) (handle : List ℕ)
    → sent xid program version (handles ++ handle ∷ []) ≡ sent xid program version handles ++ call_of (xid_after xid handles) program version handle ∷ []
sent-more xid program version [] handle = refl
sent-more xid program version (h ∷ hs) handle = ap (λ rest. call_of xid program version h ∷ rest) (sent-more ((xid + 1) % (2 ^ 32)) program version hs handle)

xid-more : (xid : ℕ) (handles : List (List ℕ)) (handle : List ℕ) → xid_after xid (handles ++ handle ∷ []) ≡ (xid_after xid handles + 1) % (2 ^ 32)
xid-more xid [] handle = refl
xid-more xid (h ∷ hs) handle = xid-more ((xid + 1) % (2 ^ 32)) hs handle

-- ---- what is kept

-- A channel from which these interrupts were taken, and for which these handles were queued.
pub record IsSent (c : Channel) (took : List Srq) (queued : List (List ℕ)) : Type 0 where
  pub handles : List (List ℕ)
  pub calls : took ≡ sent 1 c.program c.version handles
  pub waits : handles ++ c.outbox ≡ queued
  pub next : c.next_xid ≡ xid_after 1 handles

-- What is kept for a connection, of the interrupts taken and the handles queued so far by the channel's number: none of a
-- number that wasn't given out yet, and those of its channel, where it has one.
pub record Kept (mine : ℕ) (d : SrqState) (took : ℕ → List Srq) (queued : ℕ → List (List ℕ)) : Type 0 where
  pub none_took : (n : ℕ) → d.next_channel ≤ n → took n ≡ []
  pub none_queued : (n : ℕ) → d.next_channel ≤ n → queued n ≡ []
  pub below : (c : Channel) → channel_at d mine ≡ Some c → c.number < d.next_channel
  pub sent_of : (c : Channel) → channel_at d mine ≡ Some c → IsSent c (took c.number) (queued c.number)

-- what is said of lists is said of equal ones
sent-same : (c : Channel) (took took' : List Srq) (queued queued' : List (List ℕ)) → took' ≡ took → queued' ≡ queued → IsSent c took queued → IsSent c took' queued'
sent-same c took took' queued queued' t q s = record { handles = s.handles; calls = t ∙ s.calls; waits = s.waits ∙ sym q; next = s.next }

kept-same : (mine : ℕ) (d : SrqState) (took took' : ℕ → List Srq) (queued queued' : ℕ → List (List ℕ)) → ((n : ℕ) → took' n ≡ took n) → ((n : ℕ) → queued' n ≡ queued n)
    → Kept mine d took queued → Kept mine d took' queued'
kept-same mine d took took' queued queued' t q k = record {
  none_took = λ n le. t n ∙ k.none_took n le;
  none_queued = λ n le. q n ∙ k.none_queued n le;
  below = k.below;
  sent_of = λ c at. sent-same c (took c.number) (took' c.number) (queued c.number) (queued' c.number) (t c.number) (q c.number) (k.sent_of c at);
}

-- ---- changes that queue nothing and take nothing

-- A connection's channel stays, or is gone, or is new.
pub data Changed (mine : ℕ) (d u : SrqState) : Type 0 where
  Stayed : d.next_channel ≤ u.next_channel → channel_at u mine ≡ channel_at d mine → Changed mine d u
  Shut : d.next_channel ≤ u.next_channel → channel_at u mine ≡ None → Changed mine d u
  Opened : (program version : ℕ) → u.next_channel ≡ d.next_channel + 1 → channel_at u mine ≡ Some (new_channel d.next_channel program version) → Changed mine d u

le_more : (n : ℕ) → n ≤ n + 1
le_more n = omega arith

-- such a change keeps what is kept
kept-changed : (mine : ℕ) (d u : SrqState) (took : ℕ → List Srq) (queued : ℕ → List (List ℕ)) → Changed mine d u → Kept mine d took queued → Kept mine u took queued
kept-changed mine d u took queued (Stayed le same) k = record {
  none_took = λ n h. k.none_took n (omega (arith, le, h));
  none_queued = λ n h. k.none_queued n (omega (arith, le, h));
  below = λ c at. let b = k.below c (sym same ∙ at) in omega (arith, b, le);
  sent_of = λ c at. k.sent_of c (sym same ∙ at);
}
kept-changed mine d u took queued (Shut le gone) k = record {
  none_took = λ n h. k.none_took n (omega (arith, le, h));
  none_queued = λ n h. k.none_queued n (omega (arith, le, h));
  below = λ c at. absurd (none-some c (sym gone ∙ at));
  sent_of = λ c at. absurd (none-some c (sym gone ∙ at));
}
kept-changed mine d u took queued (Opened program version more made) k = record {
  none_took = λ n h. k.none_took n (omega (arith, more, h));
  none_queued = λ n h. k.none_queued n (omega (arith, more, h));
  below = λ c at. subst (λ (x : Channel). x.number < u.next_channel) (same_Some _ c (sym made ∙ at)) fits;
  sent_of = λ c at. subst (λ (x : Channel). IsSent x (took x.number) (queued x.number)) (same_Some _ c (sym made ∙ at)) new;
}
  where
    fits : d.next_channel < u.next_channel
    fits = omega (arith, more)

    new : IsSent (new_channel d.next_channel program version) (took d.next_channel) (queued d.next_channel)
    new = record {
      handles = [];
      calls = k.none_took d.next_channel (le_refl d.next_channel);
      waits = sym (k.none_queued d.next_channel (le_refl d.next_channel));
      next = refl;
    }

-- an entry that changes the state of service requests alike keeps it too
quiet-kept : (mine : ℕ) (s t : State) (took : ℕ → List Srq) (queued : ℕ → List (List ℕ)) → Changed mine s.tables.srq_state t.tables.srq_state → Kept mine s.tables.srq_state took queued
    → Kept mine t.tables.srq_state (λ n. took n ++ []) (λ n. queued n ++ [])
quiet-kept mine s t took queued change k =
    kept-same mine t.tables.srq_state took (λ n. took n ++ []) queued (λ n. queued n ++ []) (λ n. append-nil (took n)) (λ n. append-nil (queued n))
    (kept-changed mine s.tables.srq_state t.tables.srq_state took queued change k)

-- ---- which changes the entries make

-- by entry: a state of service requests that stays; connections that come up and go down; a channel that is closed or made; marked calls
srq_state-same : (mine : ℕ) (d : SrqState) → Changed mine d d
srq_state-same mine d = Stayed (le_refl d.next_channel) refl

up-changed : (mine : ℕ) (t : Tables) (r : Role) → Changed mine t.srq_state (with_connection t r).srq_state
up-changed mine t role.Core = Stayed (le_refl t.srq_state.next_channel) (channel-up t.srq_state t.next_connection mine)
up-changed mine t role.Abort = srq_state-same mine t.srq_state

down-changed : (mine : ℕ) (t : Tables) (conn : ℕ) → Changed mine t.srq_state (without_connection t conn).srq_state
down-changed mine t conn = by (channel-down t.srq_state conn mine) where
  by : (channel_at (without_connection t conn).srq_state mine ≡ channel_at t.srq_state mine) ⊎ (channel_at (without_connection t conn).srq_state mine ≡ None)
      → Changed mine t.srq_state (without_connection t conn).srq_state
  by (inl same) = Stayed (le_refl t.srq_state.next_channel) same
  by (inr gone) = Shut (le_refl t.srq_state.next_channel) gone

closed-changed : (mine : ℕ) (d : SrqState) (conn : ℕ) → Changed mine d (with_channel d conn None)
closed-changed mine d conn = by (channel-put d conn mine None) where
  by : (channel_at (with_channel d conn None) mine ≡ channel_at d mine) ⊎ (channel_at (with_channel d conn None) mine ≡ None) → Changed mine d (with_channel d conn None)
  by (inl same) = Stayed (le_refl d.next_channel) same
  by (inr gone) = Shut (le_refl d.next_channel) gone

made-changed : (mine : ℕ) (d : SrqState) (conn program version : ℕ) → Changed mine d (with_new_channel d conn program version)
made-changed mine d conn program version = by (channel-put d conn mine (Some (new_channel d.next_channel program version))) where
  by : (channel_at (with_new_channel d conn program version) mine ≡ channel_at d mine)
      ⊎ (channel_at (with_new_channel d conn program version) mine ≡ Some (new_channel d.next_channel program version))
      → Changed mine d (with_new_channel d conn program version)
  by (inl same) = Stayed (le_more d.next_channel) same
  by (inr made) = Opened program version refl made

marked-changed : (mine : ℕ) (t : Tables) (lid : ℕ) → Changed mine t.srq_state (abort_tables t lid).srq_state
marked-changed mine t lid = by (is_live t.links lid) where
  by : (b : Bool) → Changed mine t.srq_state (cond b (marked t lid) t).srq_state
  by true = srq_state-same mine t.srq_state
  by false = srq_state-same mine t.srq_state

-- what an answer found changes
abbrev FoundChanged : ℕ → SrqState → Option (Reply × Tables) → Type 0
FoundChanged mine d None = Unit {0}
FoundChanged mine d (Some x) = Changed mine d x.1.srq_state

create-changed : (mine : ℕ) (t : Tables) (conn : ℕ) (lock : Bool) (named : Result Target ErrorCode) → FoundChanged mine t.srq_state (create t conn lock named)
create-changed mine t conn lock (Err error) = tt
create-changed mine t conn true (Ok named) = srq_state-same mine t.srq_state
create-changed mine t conn false (Ok named) = srq_state-same mine t.srq_state

locked-changed : (mine : ℕ) (t : Tables) (k : Link) → Changed mine t.srq_state (locked t k).srq_state
locked-changed mine t k = by (holds t.locks k.number) where
  by : (b : Bool) → Changed mine t.srq_state (cond b t (record t { locks = with_lock t.locks k.number k.target })).srq_state
  by true = srq_state-same mine t.srq_state
  by false = srq_state-same mine t.srq_state

effect_on-changed : (mine : ℕ) (t : Tables) (conn : ℕ) (k : Link) (asked : Call) → FoundChanged mine t.srq_state (effect_on t conn k asked)
effect_on-changed mine t conn k (call.Lock lid flags lock_timeout) = locked-changed mine t k
effect_on-changed mine t conn k (call.Unlock lid) = srq_state-same mine t.srq_state
effect_on-changed mine t conn k (call.EnableSrq lid enable handle) = Stayed (le_refl t.srq_state.next_channel) refl
effect_on-changed mine t conn k (call.DestroyLink lid) = Stayed (le_refl t.srq_state.next_channel) refl
effect_on-changed mine t conn k _ = tt

effect-changed : (mine : ℕ) (t : Tables) (own conn : ℕ) (about : NamedLink) (asked : Call) → FoundChanged mine t.srq_state (effect t own conn about asked)
effect-changed mine t own conn (OnLink k) asked = effect_on-changed mine t conn k asked
effect-changed mine t own conn NoLink (call.CreateLink client lock lock_timeout device) = create-changed mine t conn lock (target device own)
effect-changed mine t own conn NoLink call.DestroyIntr = closed-changed mine t.srq_state conn
effect-changed mine t own conn NoLink _ = tt
effect-changed mine t own conn DeadLink asked = tt

settle-changed : (mine : ℕ) (t : Tables) (conn : ℕ) (asked : Call) (up : Bool) → FoundChanged mine t.srq_state (settle t conn asked up)
settle-changed mine t conn (call.CreateIntr host port prog vers family) true = made-changed mine t.srq_state conn prog vers
settle-changed mine t conn (call.CreateIntr host port prog vers family) false = srq_state-same mine t.srq_state
settle-changed mine t conn _ up = tt

found-changed : (mine : ℕ) (t : Tables) (w : Wire) (conn : ℕ) (p : Pending) (l : Admission) (d : Reply × Tables) → Found t w conn p l d → Changed mine t.srq_state d.1.srq_state
found-changed mine t w conn p l d (Same e) = subst (λ (u : Tables). Changed mine t.srq_state u.srq_state) (sym e) (srq_state-same mine t.srq_state)
found-changed mine t w conn p l d (Settled up h) = subst (FoundChanged mine t.srq_state) h (settle-changed mine t conn p.call up)
found-changed mine t w conn p l d (Effected passed bus h) = subst (FoundChanged mine t.srq_state) h (effect-changed mine t w.own conn (named_link t conn p.call) p.call)

-- so does every answer
answer-changed : (mine : ℕ) (s t : State) (conn now : ℕ) (o : BusInput) (told : Reply) → option_and_then (if_reply told) (answer s conn now o) ≡ Some t
    → Changed mine s.tables.srq_state t.tables.srq_state
answer-changed mine s t conn now o told h =
    let replied = gone_on (if_reply told) (answer s conn now o) t h in
    let is = cond_some (same_reply replied.0.0 told) replied.0.1 t replied.2 in
    let called = gone_on (answer_to s conn now o) (pending_at s.tables conn) replied.0 replied.1 in
    let decided = mapped (answered s conn now o.moves) (decide s.tables s.wire conn called.0 now o) replied.0 called.2 in
    subst (λ (u : State). Changed mine s.tables.srq_state u.tables.srq_state) (ap (λ (x : Reply × State). x.1) decided.2 ∙ is.1)
    (found-changed mine s.tables s.wire conn called.0 _ decided.0 (decide-found s.tables None s.wire conn called.0 now o decided.0 decided.1))

-- ---- takes

-- no interrupt of another connection, and none where none was given
other-none : (mine conn number : ℕ) (told : Given) (n : ℕ) → (conn == mine) ≡ false → srqs_of mine n (Take conn number told) ≡ []
other-none mine conn number (Front srq) n h = ap (λ b. cond (b && (number == n)) (srq ∷ []) []) h
other-none mine conn number Empty n h = refl
other-none mine conn number Gone n h = refl

gone-none : (mine number : ℕ) (told : Given) (n : ℕ) → same_given Gone told ≡ true → srqs_of mine n (Take mine number told) ≡ []
gone-none mine number (Front srq) n h = absurd (false≢true h)
gone-none mine number Empty n h = refl
gone-none mine number Gone n h = refl

empty-none : (mine number : ℕ) (told : Given) (n : ℕ) → same_given Empty told ≡ true → srqs_of mine n (Take mine number told) ≡ []
empty-none mine number (Front srq) n h = absurd (false≢true h)
empty-none mine number Empty n h = refl
empty-none mine number Gone n h = refl

-- the interrupt itself, of its channel alone
front-is : (mine number : ℕ) (srq : Srq) (n : ℕ) (b : Bool) → (number == n) ≡ b → srqs_of mine n (Take mine number (Front srq)) ≡ cond b (srq ∷ []) []
front-is mine number srq n b h =
    ap (λ a. cond (a && (number == n)) (srq ∷ []) []) (eq-eqb mine mine refl) ∙ ap (λ a. cond a (srq ∷ []) []) h

-- a take that gives nothing
nothing-kept : (mine conn number : ℕ) (d : SrqState) (told : Given) (took : ℕ → List Srq) (queued : ℕ → List (List ℕ))
    → ((n : ℕ) → srqs_of mine n (Take conn number told) ≡ []) → channel_at (taken d conn number) mine ≡ channel_at d mine → Kept mine d took queued
    → Kept mine (taken d conn number) (λ n. took n ++ srqs_of mine n (Take conn number told)) (λ n. queued n ++ [])
nothing-kept mine conn number d told took queued none same k =
    kept-same mine (taken d conn number) took (λ n. took n ++ srqs_of mine n (Take conn number told)) queued (λ n. queued n ++ [])
    (λ n. ap (λ x. took n ++ x) (none n) ∙ append-nil (took n)) (λ n. append-nil (queued n))
    (kept-changed mine d (taken d conn number) took queued (Stayed (le_refl d.next_channel) same) k)

-- a channel whose front was taken
front-sent : (c : Channel) (handle : List ℕ) (rest : List (List ℕ)) (took fresh : List Srq) (queued : List (List ℕ)) → c.outbox ≡ handle ∷ rest
    → fresh ≡ call_of c.next_xid c.program c.version handle ∷ [] → IsSent c took queued → IsSent (front_taken c (handle ∷ rest)) (took ++ fresh) (queued ++ [])
front-sent c handle rest took fresh queued box is s = record {
  handles = s.handles ++ handle ∷ [];
  calls =
      ap (λ x. took ++ x) is
      ∙ ap (λ x. x ++ call_of c.next_xid c.program c.version handle ∷ []) s.calls
      ∙ ap (λ x. sent 1 c.program c.version s.handles ++ call_of x c.program c.version handle ∷ []) s.next
      ∙ sym (sent-more 1 c.program c.version s.handles handle);
  waits = append_assoc s.handles (handle ∷ []) rest ∙ ap (λ x. s.handles ++ x) (sym box) ∙ s.waits ∙ sym (append-nil queued);
  next = ap (λ x. (x + 1) % (2 ^ 32)) s.next ∙ sym (xid-more 1 s.handles handle);
}

-- what is kept, where a front was taken
front-kept : (mine number : ℕ) (d : SrqState) (c : Channel) (handle : List ℕ) (rest : List (List ℕ)) (srq : Srq) (took : ℕ → List Srq) (queued : ℕ → List (List ℕ))
    → c.number ≡ number → channel_at d mine ≡ Some c → c.outbox ≡ handle ∷ rest → call_of c.next_xid c.program c.version handle ≡ srq
    → channel_at (taken d mine number) mine ≡ Some (front_taken c (handle ∷ rest)) → Kept mine d took queued
    → Kept mine (taken d mine number) (λ n. took n ++ srqs_of mine n (Take mine number (Front srq))) (λ n. queued n ++ [])
front-kept mine number d c handle rest srq took queued named here box is after k = record {
  none_took = λ n le. ap (λ x. took n ++ x) (front-is mine number srq n false (ne_eqb number n (apart n le))) ∙ append-nil (took n) ∙ k.none_took n le;
  none_queued = λ n le. append-nil (queued n) ∙ k.none_queued n le;
  below = λ x at. subst (λ (y : Channel). y.number < d.next_channel) (same_Some _ x (sym after ∙ at)) (k.below c here);
  sent_of = λ x at.
      subst (λ (y : Channel). IsSent y (took y.number ++ srqs_of mine y.number (Take mine number (Front srq))) (queued y.number ++ [])) (same_Some _ x (sym after ∙ at))
      (front-sent c handle rest (took c.number) (srqs_of mine c.number (Take mine number (Front srq))) (queued c.number) box
      (front-is mine number srq c.number true (eq-eqb number c.number (sym named)) ∙ ap (λ x. x ∷ []) (sym is)) (k.sent_of c here));
}
  where
    apart : (n : ℕ) → d.next_channel ≤ n → number ≢ n
    apart n le same = let b = k.below c here in omega (arith, b, named, le, same)

-- a take from the connection's own channel
taken-here : (mine number : ℕ) (d : SrqState) (told : Given) (took : ℕ → List Srq) (queued : ℕ → List (List ℕ)) → same_given (given d mine number) told ≡ true
    → Kept mine d took queued → Kept mine (taken d mine number) (λ n. took n ++ srqs_of mine n (Take mine number told)) (λ n. queued n ++ [])
taken-here mine number d told took queued gives k =
    by (channel_at d mine) refl gives (channel-taken d mine number mine ∙ cond-true (mine == mine) _ _ (eq-eqb mine mine refl))
  where
    After : Type 0
    After = Kept mine (taken d mine number) (λ n. took n ++ srqs_of mine n (Take mine number told)) (λ n. queued n ++ [])

    front : (c : Channel) (handle : List ℕ) (rest : List (List ℕ)) (g : Given) → g ≡ told → c.number ≡ number → channel_at d mine ≡ Some c → c.outbox ≡ handle ∷ rest
        → same_given (Front (call_of c.next_xid c.program c.version handle)) g ≡ true → channel_at (taken d mine number) mine ≡ Some (front_taken c (handle ∷ rest))
        → Kept mine (taken d mine number) (λ n. took n ++ srqs_of mine n (Take mine number g)) (λ n. queued n ++ [])
    front c handle rest (Front srq) same named here box gives after =
        front-kept mine number d c handle rest srq took queued named here box (same_srq-is (call_of c.next_xid c.program c.version handle) srq gives) after k
    front c handle rest Empty same named here box gives after = absurd (false≢true gives)
    front c handle rest Gone same named here box gives after = absurd (false≢true gives)

    box : (c : Channel) (outbox : List (List ℕ)) → c.outbox ≡ outbox → c.number ≡ number → channel_at d mine ≡ Some c
        → same_given (front_given c outbox) told ≡ true → channel_at (taken d mine number) mine ≡ Some (front_taken c outbox) → After
    box c [] is named here gives after = nothing-kept mine mine number d told took queued (λ n. empty-none mine number told n gives) (after ∙ sym here) k
    box c (handle ∷ rest) is named here gives after = front c handle rest told refl named here is gives after

    named : (c : Channel) (b : Bool) → (c.number == number) ≡ b → channel_at d mine ≡ Some c
        → same_given (cond b (front_given c c.outbox) Gone) told ≡ true → channel_at (taken d mine number) mine ≡ Some (cond b (front_taken c c.outbox) c) → After
    named c true is here gives after = box c c.outbox refl (eqb-true c.number number is) here gives after
    named c false is here gives after = nothing-kept mine mine number d told took queued (λ n. gone-none mine number told n gives) (after ∙ sym here) k

    by : (o : Option Channel) → channel_at d mine ≡ o → same_given (given_by o number) told ≡ true
        → channel_at (taken d mine number) mine ≡ option_map (taken_from number) o → After
    by None here gives after = nothing-kept mine mine number d told took queued (λ n. gone-none mine number told n gives) (after ∙ sym here) k
    by (Some c) here gives after = named c (c.number == number) refl here gives after

-- every take
taken-kept : (mine conn number : ℕ) (d : SrqState) (told : Given) (took : ℕ → List Srq) (queued : ℕ → List (List ℕ)) → same_given (given d conn number) told ≡ true
    → Kept mine d took queued → Kept mine (taken d conn number) (λ n. took n ++ srqs_of mine n (Take conn number told)) (λ n. queued n ++ [])
taken-kept mine conn number d told took queued gives k = by (cases_eq mine conn) where
  by : (mine ≡ conn) ⊎ (mine ≡ conn → ⊥) → Kept mine (taken d conn number) (λ n. took n ++ srqs_of mine n (Take conn number told)) (λ n. queued n ++ [])
  by (inl e) =
      subst (λ m. Kept mine (taken d m number) (λ n. took n ++ srqs_of mine n (Take m number told)) (λ n. queued n ++ [])) e
      (taken-here mine number d told took queued (ap (λ m. same_given (given d m number) told) e ∙ gives) k)
  by (inr ne) =
      nothing-kept mine conn number d told took queued (λ n. other-none mine conn number told n (ne_eqb conn mine (λ f. ne (sym f))))
      (channel-taken d conn number mine ∙ cond-false (mine == conn) _ _ (ne_eqb mine conn ne)) k

-- ---- rises

-- what is due on a connection with a channel are the handles of its enabled links
due-more : (conn : ℕ) (x : Due) (xs : List Due) (b : Bool) → (x.connection == conn) ≡ b → handles_due conn (x ∷ xs) ≡ cond b (x.handle ∷ handles_due conn xs) (handles_due conn xs)
due-more conn x xs true e = ap (map (λ (d : Due). d.handle)) (cond-true (x.connection == conn) _ _ e)
due-more conn x xs false e = ap (map (λ (d : Due). d.handle)) (cond-false (x.connection == conn) _ _ e)

due-from : (d : SrqState) (conn : ℕ) (c : Channel) → channel_at d conn ≡ Some c → (es : List Enable)
    → handles_due conn (map due_of (filter (is_enabled d) es)) ≡ handles_of es conn
due-from d conn c at [] = refl
due-from d conn c at (e ∷ es) =
    by e.on (e.connection == conn) (option_map_or (λ c. true) (channel_at d e.connection) false) refl lives (due-from d conn c at es)
  where
    lives : (e.connection == conn) ≡ true → option_map_or (λ c. true) (channel_at d e.connection) false ≡ true
    lives h = ap (λ n. option_map_or (λ c. true) (channel_at d n) false) (eqb-true e.connection conn h) ∙ ap (λ o. option_map_or (λ c. true) o false) at

    by : (on here live : Bool) → (e.connection == conn) ≡ here → (here ≡ true → live ≡ true)
        → handles_due conn (map due_of (filter (is_enabled d) es)) ≡ handles_of es conn
        → handles_due conn (map due_of (cond (on && live) (e ∷ filter (is_enabled d) es) (filter (is_enabled d) es)))
        ≡ map (λ (f : Enable). f.handle) (cond (on && here) (e ∷ filter (λ f. f.on && (f.connection == conn)) es) (filter (λ f. f.on && (f.connection == conn)) es))
    by false here live is h rest = rest
    by true true true is h rest = due-more conn (due_of e) (map due_of (filter (is_enabled d) es)) true is ∙ ap (λ x. e.handle ∷ x) rest
    by true true false is h rest = absurd (false≢true (h refl))
    by true false true is h rest = due-more conn (due_of e) (map due_of (filter (is_enabled d) es)) false is ∙ rest
    by true false false is h rest = rest

-- what a rise queues for a channel of this number
abbrev pub rise_queues : ℕ → State → ℕ → List (List ℕ)
rise_queues mine s n = cond (has_channel s mine n) (handles_due mine (due_in s)) []

-- nothing without a channel, nothing for another number, and the handles of the enabled links for its own
rise-none : (mine : ℕ) (s : State) (n : ℕ) → channel_at s.tables.srq_state mine ≡ None → rise_queues mine s n ≡ []
rise-none mine s n at = ap (λ o. cond (option_map_or (λ (c : Channel). c.number == n) o false) (handles_due mine (due_in s)) []) at

rise-some : (mine : ℕ) (s : State) (n : ℕ) (c : Channel) (b : Bool) → channel_at s.tables.srq_state mine ≡ Some c → (c.number == n) ≡ b
    → rise_queues mine s n ≡ cond b (handles_of s.tables.srq_state.enables mine) []
rise-some mine s n c b at is =
    ap (λ o. cond (option_map_or (λ (c : Channel). c.number == n) o false) (handles_due mine (due_in s)) []) at
    ∙ ap (λ a. cond a (handles_due mine (due_in s)) []) is
    ∙ ap (λ x. cond b x []) (due-from s.tables.srq_state mine c at s.tables.srq_state.enables)

-- a channel with more behind its outbox
queued-sent : (c : Channel) (more : List (List ℕ)) (took : List Srq) (queued fresh : List (List ℕ)) → fresh ≡ more → IsSent c took queued
    → IsSent (record c { outbox = c.outbox ++ more }) (took ++ []) (queued ++ fresh)
queued-sent c more took queued fresh is s = record {
  handles = s.handles;
  calls = append-nil took ∙ s.calls;
  waits = sym (append_assoc s.handles c.outbox more) ∙ ap (λ x. x ++ more) s.waits ∙ ap (λ x. queued ++ x) (sym is);
  next = s.next;
}

-- a rise, and every sample
risen-kept : (mine : ℕ) (s : State) (level : Bool) (took : ℕ → List Srq) (queued : ℕ → List (List ℕ)) → Kept mine s.tables.srq_state took queued
    → Kept mine (record s.tables.srq_state { slots = map (risen_slot s.tables.srq_state.enables) s.tables.srq_state.slots; level = level }) (λ n. took n ++ []) (λ n. queued n ++ rise_queues mine s n)
risen-kept mine s level took queued k = by (channel_at d mine) refl (channel-risen d level mine) where
  d : SrqState
  d = s.tables.srq_state

  more : List (List ℕ)
  more = handles_of d.enables mine

  u : SrqState
  u = record d { slots = map (risen_slot d.enables) d.slots; level = level }

  -- a channel that was full is closed
  full : (c : Channel) → channel_at d mine ≡ Some c → (b : Bool) → channel_at u mine ≡ cond b (Some (record c { outbox = c.outbox ++ more })) None
      → Kept mine u (λ n. took n ++ []) (λ n. queued n ++ rise_queues mine s n)
  full c here b after = record {
    none_took = λ n le. append-nil (took n) ∙ k.none_took n le;
    none_queued = λ n le.
        ap (λ x. queued n ++ x) (rise-some mine s n c false here (ne_eqb c.number n (λ same. let b = k.below c here in omega (arith, b, le, same)))) ∙ append-nil (queued n) ∙ k.none_queued n le;
    below = λ x at. fits b x (sym after ∙ at);
    sent_of = λ x at. goes b x (sym after ∙ at);
  }
    where
      fits : (b : Bool) (x : Channel) → cond b (Some (record c { outbox = c.outbox ++ more })) None ≡ Some x → x.number < d.next_channel
      fits true x at = subst (λ (y : Channel). y.number < d.next_channel) (same_Some _ x at) (k.below c here)
      fits false x at = absurd (none-some x at)

      goes : (b : Bool) (x : Channel) → cond b (Some (record c { outbox = c.outbox ++ more })) None ≡ Some x → IsSent x (took x.number ++ []) (queued x.number ++ rise_queues mine s x.number)
      goes true x at =
          subst (λ (y : Channel). IsSent y (took y.number ++ []) (queued y.number ++ rise_queues mine s y.number)) (same_Some _ x at)
          (queued-sent c more (took c.number) (queued c.number) (rise_queues mine s c.number) (rise-some mine s c.number c true here (eq-eqb c.number c.number refl)) (k.sent_of c here))
      goes false x at = absurd (none-some x at)

  by : (o : Option Channel) → channel_at d mine ≡ o → channel_at u mine ≡ option_and_then (queued_on more) o → Kept mine u (λ n. took n ++ []) (λ n. queued n ++ rise_queues mine s n)
  by None here after =
      kept-same mine u took (λ n. took n ++ []) queued (λ n. queued n ++ rise_queues mine s n) (λ n. append-nil (took n))
      (λ n. ap (λ x. queued n ++ x) (rise-none mine s n here) ∙ append-nil (queued n)) (kept-changed mine d u took queued (Shut (le_refl d.next_channel) after) k)
  by (Some c) here after = full c here (nat_le (length (c.outbox ++ more)) OUTBOX_MAX) after

sampled-kept : (mine : ℕ) (s : State) (level : Bool) (took : ℕ → List Srq) (queued : ℕ → List (List ℕ)) → Kept mine s.tables.srq_state took queued
    → Kept mine (sampled s.tables.srq_state level) (λ n. took n ++ []) (λ n. queued n ++ cond (is_rise s.tables.srq_state.level level && has_channel s mine n) (handles_due mine (due_in s)) [])
sampled-kept mine s level took queued k = by (is_rise s.tables.srq_state.level level) where
  by : (b : Bool)
      → Kept mine (cond b (record s.tables.srq_state { slots = map (risen_slot s.tables.srq_state.enables) s.tables.srq_state.slots; level = level }) (record s.tables.srq_state { level = level }))
      (λ n. took n ++ []) (λ n. queued n ++ cond (b && has_channel s mine n) (handles_due mine (due_in s)) [])
  by true = risen-kept mine s level took queued k
  by false =
      kept-same mine (record s.tables.srq_state { level = level }) took (λ n. took n ++ []) queued (λ n. queued n ++ []) (λ n. append-nil (took n)) (λ n. append-nil (queued n))
      (kept-changed mine s.tables.srq_state (record s.tables.srq_state { level = level }) took queued (Stayed (le_refl s.tables.srq_state.next_channel) refl) k)

-- ---- entries and histories

-- what an entry queues for a channel
abbrev pub queued_by : ℕ → ℕ → State → Entry → List (List ℕ)
queued_by mine n s e = cond (is_rise_at s e && has_channel s mine n) (handles_due mine (due_in s)) []

abbrev pub EntryKept : ℕ → State → Entry → State → (ℕ → List Srq) → (ℕ → List (List ℕ)) → Type 0
EntryKept mine s e t took queued = Kept mine t.tables.srq_state (λ n. took n ++ srqs_of mine n e) (λ n. queued n ++ queued_by mine n s e)

-- every entry keeps what is kept
entry-kept : (mine : ℕ) (e : Entry) (s t : State) (took : ℕ → List Srq) (queued : ℕ → List (List ℕ)) → atomic_step s e ≡ Some t → Kept mine s.tables.srq_state took queued
    → EntryKept mine s e t took queued
entry-kept mine (Up conn r) s t took queued h k =
    let parts = cond_some ((conn == s.tables.next_connection) && has_room s.tables r) (record s { tables = with_connection s.tables r }) t h in
    quiet-kept mine s t took queued (subst (λ (u : State). Changed mine s.tables.srq_state u.tables.srq_state) parts.1 (up-changed mine s.tables r)) k
entry-kept mine (Down conn moves) s t took queued h k =
    let parts = cond_some (is_some (connection_at s.tables conn) && may_leave s.tables s conn moves (pending_at s.tables conn))
    (record s { tables = without_connection s.tables conn; wire = wire_after s.wire moves }) t h in
    quiet-kept mine s t took queued (subst (λ (u : State). Changed mine s.tables.srq_state u.tables.srq_state) parts.1 (down-changed mine s.tables conn)) k
entry-kept mine (Arrive conn asked now) s t took queued h k =
    let parts = cond_some (nat_le s.moment now && is_idle s.tables conn && may_wait asked)
    (record s { tables = with_pending s.tables conn (Some (arrived asked now)); moment = now }) t h in
    quiet-kept mine s t took queued (subst (λ (u : State). Changed mine s.tables.srq_state u.tables.srq_state) parts.1 (srq_state-same mine s.tables.srq_state)) k
entry-kept mine (Answer conn now begun moves failed dialed level told) s t took queued h k =
    let o : BusInput = record { begun = begun; moves = moves; failed = failed; dialed = dialed; level = level } in
    let parts = chosen (nat_le s.moment now && call_fits s conn now o (pending_at s.tables conn)) (option_and_then (if_reply told) (answer s conn now o)) t h in
    quiet-kept mine s t took queued (answer-changed mine s t conn now o told parts.1) k
entry-kept mine (Abort conn lid told) s t took queued h k =
    let parts = cond_some (lives_as s.tables conn role.Abort && same_error (abort_reply s.tables lid) told) (record s { tables = abort_tables s.tables lid }) t h in
    quiet-kept mine s t took queued (subst (λ (u : State). Changed mine s.tables.srq_state u.tables.srq_state) parts.1 (marked-changed mine s.tables lid)) k
entry-kept mine (Sample now srq) s t took queued h k =
    let parts = cond_some (nat_le s.moment now) (record s { tables = record s.tables { srq_state = sampled s.tables.srq_state srq }; moment = now }) t h in
    subst (λ (u : State). EntryKept mine s (Sample now srq) u took queued) parts.1 (sampled-kept mine s srq took queued k)
entry-kept mine (Take conn chan told) s t took queued h k =
    let parts = cond_some (is_some (connection_at s.tables conn) && same_given (given s.tables.srq_state conn chan) told)
    (record s { tables = record s.tables { srq_state = taken s.tables.srq_state conn chan } }) t h in
    let gives = and_parts (is_some (connection_at s.tables conn)) (same_given (given s.tables.srq_state conn chan) told) parts.0 in
    subst (λ (u : State). EntryKept mine s (Take conn chan told) u took queued) parts.1 (taken-kept mine conn chan s.tables.srq_state told took queued gives.1 k)

-- along a history from any state
along-kept : (mine : ℕ) (history : List Entry) (s t : State) (took took' : ℕ → List Srq) (queued queued' : ℕ → List (List ℕ)) → Kept mine s.tables.srq_state took queued
    → along atomic_step (Some s) history ≡ Some t → ((n : ℕ) → took' n ≡ took n ++ flat_map (srqs_of mine n) history)
    → ((n : ℕ) → queued' n ≡ queued n ++ queued_along mine n (Some s) history) → Kept mine t.tables.srq_state took' queued'
along-kept mine [] s t took took' queued queued' k h takes queues =
    subst (λ (u : State). Kept mine u.tables.srq_state took' queued') (same_Some s t h)
    (kept-same mine s.tables.srq_state took took' queued queued' (λ n. takes n ∙ append-nil (took n)) (λ n. queues n ∙ append-nil (queued n)) k)
along-kept mine (e ∷ es) s t took took' queued queued' k h takes queues = by (atomic_step s e) refl h (along-kept mine es) where
  by : (o : Option State) → atomic_step s e ≡ o → along atomic_step o es ≡ Some t
      → ((s t : State) (took took' : ℕ → List Srq) (queued queued' : ℕ → List (List ℕ)) → Kept mine s.tables.srq_state took queued
      → along atomic_step (Some s) es ≡ Some t → ((n : ℕ) → took' n ≡ took n ++ flat_map (srqs_of mine n) es)
      → ((n : ℕ) → queued' n ≡ queued n ++ queued_along mine n (Some s) es) → Kept mine t.tables.srq_state took' queued')
      → Kept mine t.tables.srq_state took' queued'
  by None is h rest = absurd (none-some t (sym (along-none atomic_step es) ∙ h))
  by (Some mid) is h rest =
      rest mid t (λ n. took n ++ srqs_of mine n e) took' (λ n. queued n ++ queued_by mine n s e) queued' (entry-kept mine e s mid took queued is k) h
      (λ n. takes n ∙ sym (append_assoc (took n) (srqs_of mine n e) (flat_map (srqs_of mine n) es)))
      (λ n. queues n ∙ ap (λ o. queued n ++ (queued_by mine n s e ++ queued_along mine n o es)) is
      ∙ sym (append_assoc (queued n) (queued_by mine n s e) (queued_along mine n (Some mid) es)))

-- a gateway as it starts has no channel
first-kept : (mine abort_port : ℕ) → Kept mine (first abort_port).tables.srq_state (λ n. []) (λ n. [])
first-kept mine abort_port = record {
  none_took = λ n le. refl;
  none_queued = λ n le. refl;
  below = λ c at. absurd (none-some c at);
  sent_of = λ c at. absurd (none-some c at);
}

pub queued_law-holds : QueuedLaw
queued_law-holds abort_port history s conn c legal at =
    let k = along-kept conn history (first abort_port) s (λ n. []) (λ n. flat_map (srqs_of conn n) history) (λ n. []) (λ n. queued_along conn n (Some (first abort_port)) history)
    (first-kept conn abort_port) legal (λ n. refl) (λ n. refl) in
    let is = k.sent_of c at in (is.handles, is.calls, is.waits)
