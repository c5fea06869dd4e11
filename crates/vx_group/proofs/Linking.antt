-- The state has a connection's links as its own events tell, behind each event.
use Rattle.std.proofs.Common.{◌≡◌, ◌≢◌, ◌≤◌, ◌==◌, ◌&&◌, ◌+◌, ◌++◌, ◌⊎◌, inl, inr, not, ℕ, Bool, true, false, cond, List, [], ◌∷◌, map, Option, Some, None, Result, Ok, Err, refl, sym, ap, ◌∙◌, subst, arith, append-nil, ℤ}
use Rattle.std.specs.Prelude.{is_some, option_and_then}
use Rattle.std.specs.List.{filter}
use Rattle.std.proofs.lemmas.Bool.{false≢true, eqb-true, eq-eqb, ne_eqb, cond-true, cond-false, and_parts}
use Rattle.std.proofs.lemmas.Option.{none-some, same_Some}
use Rattle.std.proofs.lemmas.List.{map-append}
use Rattle.std.proofs.lemmas.List.Elements.{filter-append}
use Rattle.vx_lemmas.proofs.Laws.Lists.{found_passes}
use Rattle.vx_calls.specs.declared.limits.TheConstants.{WRITE_MAX}
use Rattle.vx_calls.specs.declared.codes.ErrorCode.{ErrorCode}
use Rattle.vx_calls.specs.declared.codes.ErrorCode.TheVariants as code
use Rattle.vx_calls.specs.declared.targets.Target.{Target}
use Rattle.vx_calls.specs.Target.{comma_parts, target}
use Rattle.vx_calls.specs.Call.{Call}
use Rattle.vx_calls.specs.Call as call
use Rattle.vx_calls.specs.Reply.{Reply}
use Rattle.vx_calls.specs.Reply as reply
use Rattle.vx_rules.specs.Table.{Link, Table, with_link}
use Rattle.vx_rules.specs.Locks.{holds, with_lock}
use Rattle.vx_rules.specs.State.{Pending, Tables, link_of}
use Rattle.vx_rules.specs.Checks.{NamedLink, NoLink, DeadLink, OnLink, named_link, check}
use Rattle.vx_rules.specs.Effects.{task_of, stopped_reply, create, locked, effect_on, effect}
use Rattle.vx_rules.specs.Decide.{BusInput}
use Rattle.vx_rules.proofs.Laws.Naming.{IsError, parts-well, ChecksWell, create-checks}
use Rattle.vx_flow.specs.Event.{Event, Up, Down, Arrive, Answer, Abort, Sample, Take, Begin, Move, Dial}
use Rattle.vx_flow.specs.InterleavedState.{InterleavedState}
use Rattle.vx_flow.specs.InterleavedStep.{wire_for, bus_input, interleaved_step}
use Rattle.vx_flow.specs.Does.{AnsweredBy, ByAbort, ByNoLink, ByCheck, ByBar, ByDialUp, ByDialDown, ByEffect, ByNoRole, ByFault, ByWhole, ByTimeout, IsAnswered}
use Rattle.vx_flow.proofs.Laws.{interleaved-does, interleaved-frame, another}
use Rattle.vx_flow.proofs.Laws.Kept.{found_is}
use Rattle.vx_group.specs.Phases.{Phase, Absent, Idle, Asked, phase_after, phase_by, is_up, HasPhase}
use Rattle.vx_group.specs.MadeLinks.{numbers_in, numbers_of, numbers_after, answered_numbers, numbers_next, numbers_by, HasLinks}
use Rattle.vx_group.specs.Owning.{may_make}
use Rattle.vx_group.proofs.Laws.{phase-append, numbers-append}
use Rattle.vx_group.proofs.Laws.Onward.{interleaved-onward}
use Rattle.vx_group.proofs.Plainly.{Plainly, asked-below}
use Rattle.vx_group.proofs.Rows.{changes}
use Rattle.vx_group.proofs.Phasing.{phase-other, changes-or}

-- ---- numbers in a list of links

-- what one link adds in front of the numbers of a connection
numbers-front : (l : Link) (ls : List Link) (conn : ℕ) → numbers_in (l ∷ ls) conn ≡ cond (l.connection == conn) (l.number ∷ numbers_in ls conn) (numbers_in ls conn)
numbers-front l ls conn = by (l.connection == conn) where
  by : (b : Bool) → map (λ (m : Link). m.number) (cond b (l ∷ filter (λ m. m.connection == conn) ls) (filter (λ m. m.connection == conn) ls))
      ≡ cond b (l.number ∷ numbers_in ls conn) (numbers_in ls conn)
  by true = refl
  by false = refl

-- of one that is the connection's, and of one that isn't
front-mine : (l : Link) (ls : List Link) (conn : ℕ) → (l.connection == conn) ≡ true → numbers_in (l ∷ ls) conn ≡ l.number ∷ numbers_in ls conn
front-mine l ls conn is = numbers-front l ls conn ∙ cond-true (l.connection == conn) (l.number ∷ numbers_in ls conn) (numbers_in ls conn) is

front-other : (l : Link) (ls : List Link) (conn : ℕ) → (l.connection == conn) ≡ false → numbers_in (l ∷ ls) conn ≡ numbers_in ls conn
front-other l ls conn is = numbers-front l ls conn ∙ cond-false (l.connection == conn) (l.number ∷ numbers_in ls conn) (numbers_in ls conn) is

-- links that are kept leave the numbers of a connection of which each is kept
numbers-kept : (keep : Link → Bool) (conn : ℕ) → ((l : Link) → (l.connection == conn) ≡ true → keep l ≡ true) → (ls : List Link)
    → numbers_in (filter keep ls) conn ≡ numbers_in ls conn
numbers-kept keep conn keeps [] = refl
numbers-kept keep conn keeps (l ∷ ls) = by (keep l) (l.connection == conn) refl refl (numbers-kept keep conn keeps ls) where
  by : (k c : Bool) → keep l ≡ k → (l.connection == conn) ≡ c → numbers_in (filter keep ls) conn ≡ numbers_in ls conn
      → numbers_in (cond k (l ∷ filter keep ls) (filter keep ls)) conn ≡ numbers_in (l ∷ ls) conn
  by true true is of_it rest = front-mine l (filter keep ls) conn of_it ∙ ap (λ ns. l.number ∷ ns) rest ∙ sym (front-mine l ls conn of_it)
  by true false is of_it rest = front-other l (filter keep ls) conn of_it ∙ rest ∙ sym (front-other l ls conn of_it)
  by false true is of_it rest = absurd (false≢true (sym is ∙ keeps l of_it))
  by false false is of_it rest = rest ∙ sym (front-other l ls conn of_it)

-- a connection of which none is kept has none
numbers-gone : (conn : ℕ) (ls : List Link) → numbers_in (filter (λ l. not (l.connection == conn)) ls) conn ≡ []
numbers-gone conn [] = refl
numbers-gone conn (l ∷ ls) = by (l.connection == conn) refl (numbers-gone conn ls) where
  by : (c : Bool) → (l.connection == conn) ≡ c → numbers_in (filter (λ l. not (l.connection == conn)) ls) conn ≡ []
      → numbers_in (cond (not c) (l ∷ filter (λ l. not (l.connection == conn)) ls) (filter (λ l. not (l.connection == conn)) ls)) conn ≡ []
  by true of_it rest = rest
  by false of_it rest = front-other l (filter (λ l. not (l.connection == conn)) ls) conn of_it ∙ rest

-- the numbers but one
abbrev but : ℕ → List ℕ → List ℕ
but lid ns = filter (λ n. not (n == lid)) ns

-- the connection's link of a number goes
abbrev gone : ℕ → ℕ → Link → Bool
gone lid conn l = not ((l.number == lid) && (l.connection == conn))

numbers-without : (lid conn : ℕ) (ls : List Link) → numbers_in (filter (gone lid conn) ls) conn ≡ but lid (numbers_in ls conn)
numbers-without lid conn [] = refl
numbers-without lid conn (l ∷ ls) = by (l.number == lid) (l.connection == conn) refl refl (numbers-without lid conn ls) where
  by : (b c : Bool) → (l.number == lid) ≡ b → (l.connection == conn) ≡ c → numbers_in (filter (gone lid conn) ls) conn ≡ but lid (numbers_in ls conn)
      → numbers_in (cond (not (b && c)) (l ∷ filter (gone lid conn) ls) (filter (gone lid conn) ls)) conn ≡ but lid (numbers_in (l ∷ ls) conn)
  by true true is of_it rest =
      rest ∙ sym (ap (but lid) (front-mine l ls conn of_it) ∙ ap (λ b. cond (not b) (l.number ∷ but lid (numbers_in ls conn)) (but lid (numbers_in ls conn))) is)
  by true false is of_it rest =
      front-other l (filter (gone lid conn) ls) conn of_it ∙ rest ∙ sym (ap (but lid) (front-other l ls conn of_it))
  by false true is of_it rest =
      front-mine l (filter (gone lid conn) ls) conn of_it ∙ ap (λ ns. l.number ∷ ns) rest
      ∙ sym (ap (but lid) (front-mine l ls conn of_it) ∙ ap (λ b. cond (not b) (l.number ∷ but lid (numbers_in ls conn)) (but lid (numbers_in ls conn))) is)
  by false false is of_it rest =
      front-other l (filter (gone lid conn) ls) conn of_it ∙ rest ∙ sym (ap (but lid) (front-other l ls conn of_it))

-- one link more, at the end
numbers-push : (ls : List Link) (l : Link) (conn : ℕ) → numbers_in (ls ++ l ∷ []) conn ≡ numbers_in ls conn ++ numbers_in (l ∷ []) conn
numbers-push ls l conn =
    ap (map (λ (m : Link). m.number)) (filter-append (λ (m : Link). m.connection == conn) ls (l ∷ []))
    ∙ map-append (λ (m : Link). m.number) (filter (λ (m : Link). m.connection == conn) ls) (filter (λ (m : Link). m.connection == conn) (l ∷ []))

-- ---- what an answer makes of them

-- The numbers of the connection's links are those that the reply tells, and those of each other connection stay.
record Goes (t : Tables) (conn : ℕ) (asked : Call) (told : Reply) (u : Tables) : Type 0 where
  own : numbers_after asked told (numbers_of t conn) ≡ Some (numbers_of u conn)
  others : (m : ℕ) → conn ≢ m → numbers_of u m ≡ numbers_of t m

-- the links stay, and the reply tells of none
stays : (t u : Tables) (conn : ℕ) (asked : Call) (told : Reply) → u.links ≡ t.links → numbers_after asked told (numbers_of t conn) ≡ Some (numbers_of t conn) → Goes t conn asked told u
stays t u conn asked told same tells = record {
  own = tells ∙ ap (λ (x : Table). Some (numbers_in x.links conn)) (sym same);
  others = λ m ne. ap (λ (x : Table). numbers_in x.links m) same;
}

abbrev is_about_links : Call → Bool
is_about_links (call.CreateLink client lock lock_timeout device) = true
is_about_links (call.DestroyLink lid) = true
is_about_links _ = false

-- the reply of a call that ends with an error tells of none
stopped-tells : (asked : Call) (error : ErrorCode) (o : BusInput) (numbers : List ℕ) → (is_about_links asked ≡ true → IsError error)
    → numbers_after asked (stopped_reply asked error o.moves) numbers ≡ Some numbers
stopped-tells (call.CreateLink client lock lock_timeout device) error o numbers h = ap (λ b. Some (cond b (numbers ++ 0 ∷ []) numbers)) (h refl)
stopped-tells (call.DestroyLink lid) error o numbers h = ap (λ b. Some (cond b (filter (λ n. not (n == lid)) numbers) numbers)) (h refl)
stopped-tells _ error o numbers h = refl

-- neither call has a job, so that no reply of a whole job is one of these
job-tells : (asked : Call) (about : NamedLink) (told : Reply) (numbers : List ℕ) → is_some (task_of about asked) ≡ true → numbers_after asked told numbers ≡ Some numbers
job-tells (call.CreateLink client lock lock_timeout device) NoLink told numbers h = absurd (false≢true h)
job-tells (call.CreateLink client lock lock_timeout device) _ told numbers h = absurd (false≢true h)
job-tells (call.DestroyLink lid) NoLink told numbers h = absurd (false≢true h)
job-tells (call.DestroyLink lid) _ told numbers h = absurd (false≢true h)
job-tells _ about told numbers h = refl

-- ---- what refuses one of these calls is an error

checks-well : (t : Tables) (own conn : ℕ) (settling : Bool) (about : NamedLink) (asked : Call) → is_about_links asked ≡ true → ChecksWell (check t own conn settling about asked)
checks-well t own conn settling DeadLink asked h = refl
checks-well t own conn settling (OnLink l) (call.CreateLink client lock lock_timeout device) h = tt
checks-well t own conn settling (OnLink l) (call.DestroyLink lid) h = tt
checks-well t own conn settling NoLink (call.CreateLink client lock lock_timeout device) h = create-checks t (target device own) (parts-well own (comma_parts device))
checks-well t own conn settling NoLink (call.DestroyLink lid) h = tt
checks-well t own conn settling _ _ h = absurd (false≢true h)

-- ---- the effects

-- the link that a destroy_link names has the number that it names
named-number : (t : Tables) (conn lid : ℕ) (l : Link) → named_link t conn (call.DestroyLink lid) ≡ OnLink l → l.number ≡ lid
named-number t conn lid l h =
    let found = found_is (link_of t conn lid) l h in
    let test = found_passes (λ k. (k.number == lid) && (k.connection == conn)) t.links.links l found in
    eqb-true l.number lid (and_parts (l.number == lid) (l.connection == conn) test).0

-- what was found goes so
abbrev FoundGoes : Tables → ℕ → Call → Option (Reply × Tables) → Type 0
FoundGoes t conn asked None = Unit {0}
FoundGoes t conn asked (Some d) = Goes t conn asked d.0 d.1

-- a link is made
made-goes : (t u : Tables) (conn : ℕ) (client : ℤ) (lock : Bool) (lock_timeout : ℕ) (device : List ℕ) (port max : ℕ) (named : Target) → u.links ≡ with_link t.links conn named
    → Goes t conn (call.CreateLink client lock lock_timeout device) (reply.CreateLink code.Ok t.links.next port max) u
made-goes t u conn client lock lock_timeout device port max named is =
    let l : Link = record { number = t.links.next; connection = conn; target = named } in
    let numbers : (m : ℕ) → numbers_of u m ≡ numbers_of t m ++ numbers_in (l ∷ []) m = λ m. ap (λ (x : Table). numbers_in x.links m) is ∙ numbers-push t.links.links l m in
    record {
      own = ap Some (sym (numbers conn ∙ ap (λ ns. numbers_of t conn ++ ns) (front-mine l [] conn (eq-eqb conn conn refl))));
      others = λ m ne. numbers m ∙ ap (λ ns. numbers_of t m ++ ns) (front-other l [] m (ne_eqb conn m ne)) ∙ append-nil (numbers_of t m);
    }

create-goes : (t : Tables) (conn : ℕ) (client : ℤ) (lock asked_lock : Bool) (lock_timeout : ℕ) (device : List ℕ) (named : Result Target ErrorCode)
    → FoundGoes t conn (call.CreateLink client asked_lock lock_timeout device) (create t conn lock named)
create-goes t conn client lock asked_lock lock_timeout device (Err error) = tt
create-goes t conn client true asked_lock lock_timeout device (Ok named) = made-goes t _ conn client asked_lock lock_timeout device t.abort_port WRITE_MAX named refl
create-goes t conn client false asked_lock lock_timeout device (Ok named) = made-goes t _ conn client asked_lock lock_timeout device t.abort_port WRITE_MAX named refl

-- a lock is taken
locked-links : (t : Tables) (l : Link) → (locked t l).links ≡ t.links
locked-links t l = by (holds t.locks l.number) where
  by : (b : Bool) → (cond b t (record t { locks = with_lock t.locks l.number l.target })).links ≡ t.links
  by true = refl
  by false = refl

-- another connection's links are kept where one of this connection's goes
kept-gone : (lid conn m : ℕ) → conn ≢ m → (l : Link) → (l.connection == m) ≡ true → gone lid conn l ≡ true
kept-gone lid conn m ne l of_it = by (l.number == lid) (ne_eqb l.connection conn (λ is. ne (sym is ∙ eqb-true l.connection m of_it))) where
  by : (b : Bool) → (l.connection == conn) ≡ false → not (b && (l.connection == conn)) ≡ true
  by true other = ap not other
  by false other = refl

-- the effect of a call on a link
effect_on-goes : (t : Tables) (conn : ℕ) (l : Link) (asked : Call) → named_link t conn asked ≡ OnLink l → FoundGoes t conn asked (effect_on t conn l asked)
effect_on-goes t conn l (call.Lock lid flags lock_timeout) is = stays t (locked t l) conn (call.Lock lid flags lock_timeout) (reply.Error code.Ok) (locked-links t l) refl
effect_on-goes t conn l (call.Unlock lid) is = stays t _ conn (call.Unlock lid) (reply.Error code.Ok) refl refl
effect_on-goes t conn l (call.EnableSrq lid enable handle) is = stays t _ conn (call.EnableSrq lid enable handle) (reply.Error code.Ok) refl refl
effect_on-goes t conn l (call.DestroyLink lid) is = record {
  own = ap (λ n. Some (filter (λ k. not (k == n)) (numbers_of t conn))) (sym (named-number t conn lid l is)) ∙ ap Some (sym (numbers-without l.number conn t.links.links));
  others = λ m ne. numbers-kept (gone l.number conn) m (kept-gone l.number conn m ne) t.links.links;
}
effect_on-goes t conn l _ is = tt

-- the effect of every call
effect-goes : (t : Tables) (own conn : ℕ) (about : NamedLink) (asked : Call) → named_link t conn asked ≡ about → FoundGoes t conn asked (effect t own conn about asked)
effect-goes t own conn (OnLink l) asked is = effect_on-goes t conn l asked is
effect-goes t own conn NoLink (call.CreateLink client lock lock_timeout device) is = create-goes t conn client lock lock lock_timeout device (target device own)
effect-goes t own conn NoLink call.DestroyIntr is = stays t _ conn call.DestroyIntr (reply.Error code.Ok) refl refl
effect-goes t own conn NoLink _ is = tt
effect-goes t own conn DeadLink asked is = tt

-- ---- an answer, by whichever line

-- with an error, and the tables stay
stopped-goes : (t after : Tables) (conn : ℕ) (asked : Call) (error : ErrorCode) (told : Reply) (o : BusInput) → told ≡ stopped_reply asked error o.moves → after ≡ t
    → (is_about_links asked ≡ true → IsError error) → Goes t conn asked told after
stopped-goes t after conn asked error told o is same h =
    stays t after conn asked told (ap (λ (x : Tables). x.links) same)
    (ap (λ (r : Reply). numbers_after asked r (numbers_of t conn)) is ∙ stopped-tells asked error o (numbers_of t conn) h)

-- a call for a channel tells of no link
dialed-goes : (t after : Tables) (conn : ℕ) (asked : Call) (host port program version family : ℕ) (told : Reply) → asked ≡ call.CreateIntr host port program version family
    → after.links ≡ t.links → Goes t conn asked told after
dialed-goes t after conn asked host port program version family told is same =
    stays t after conn asked told same (ap (λ c. numbers_after c told (numbers_of t conn)) is)

line-goes : (f : InterleavedState) (conn now : ℕ) (p : Pending) (o : BusInput) (told : Reply) (after : Tables) → AnsweredBy f conn now p o told after
    → Goes f.state.tables conn p.call told after
line-goes f conn now p o told after (ByAbort marked still stops) = stopped-goes f.state.tables after conn p.call code.Abort told o stops.reply_is stops.same (λ h. refl)
line-goes f conn now p o told after (ByNoLink unmarked dead still stops) = stopped-goes f.state.tables after conn p.call code.InvalidLink told o stops.reply_is stops.same (λ h. refl)
line-goes f conn now p o told after (ByCheck error unmarked lives checked still stops) =
    stopped-goes f.state.tables after conn p.call error told o stops.reply_is stops.same
    (λ h. subst ChecksWell checked (checks-well f.state.tables (wire_for f conn).own conn false (named_link f.state.tables conn p.call) p.call h))
line-goes f conn now p o told after (ByBar bar unmarked checked kept waits still stops) = stopped-goes f.state.tables after conn p.call code.Locked told o stops.reply_is stops.same (λ h. refl)
line-goes f conn now p o told after (ByDialUp clear d told_is after_is) =
    dialed-goes f.state.tables after conn p.call d.host d.port d.program d.version d.family told d.asks (ap (λ (x : Tables). x.links) after_is)
line-goes f conn now p o told after (ByDialDown clear d told_is after_is) =
    dialed-goes f.state.tables after conn p.call d.host d.port d.program d.version d.family told d.asks (ap (λ (x : Tables). x.links) after_is)
line-goes f conn now p o told after (ByEffect clear bus dial still given) =
    subst (FoundGoes f.state.tables conn p.call) given (effect-goes f.state.tables (wire_for f conn).own conn (named_link f.state.tables conn p.call) p.call refl)
line-goes f conn now p o told after (ByNoRole job clear has role still stops) = stopped-goes f.state.tables after conn p.call code.BusFault told o stops.reply_is stops.same (λ h. refl)
line-goes f conn now p o told after (ByFault clear broken stops) = stopped-goes f.state.tables after conn p.call code.BusFault told o stops.reply_is stops.same (λ h. refl)
line-goes f conn now p o told after (ByWhole clear done) =
    stays f.state.tables after conn p.call told (ap (λ (x : Tables). x.links) done.same)
    (job-tells p.call (named_link f.state.tables conn p.call) told (numbers_of f.state.tables conn) (ap is_some done.own.has_job))
line-goes f conn now p o told after (ByTimeout clear overdue stops) = stopped-goes f.state.tables after conn p.call code.Timeout told o stops.reply_is stops.same (λ h. refl)

-- ---- each event

-- the answer of a connection's call
answer-goes : (f g : InterleavedState) (conn now : ℕ) (o : BusInput) (told : Reply) → (d : IsAnswered f conn now o told g) → Goes f.state.tables conn d.asked.call told g.state.tables
answer-goes f g conn now o told d =
    let goes = line-goes f conn now d.asked o told d.after d.line in
    let same : (m : ℕ) → numbers_of g.state.tables m ≡ numbers_of d.after m = λ m. ap (λ (x : InterleavedState). numbers_of x.state.tables m) d.leads in
    record { own = goes.own ∙ ap Some (sym (same conn)); others = λ m ne. same m ∙ goes.others m ne }

-- an event keeps the links of a connection that it doesn't change
pub links-keep : (e : Event) (f g : InterleavedState) (conn : ℕ) → (changes e ≡ Some conn → ⊥) → interleaved_step f e ≡ Some g → numbers_of g.state.tables conn ≡ numbers_of f.state.tables conn
links-keep e f g conn other h = by e refl other where
  same : g.state.tables.links ≡ f.state.tables.links → numbers_of g.state.tables conn ≡ numbers_of f.state.tables conn
  same is = ap (λ (x : Table). numbers_in x.links conn) is

  allowed : (x : Event) → e ≡ x → interleaved_step f x ≡ Some g
  allowed x is = subst (λ y. interleaved_step f y ≡ Some g) is h

  by : (x : Event) → e ≡ x → (changes x ≡ Some conn → ⊥) → numbers_of g.state.tables conn ≡ numbers_of f.state.tables conn
  by (Down c) is other =
      ap (λ (x : InterleavedState). numbers_of x.state.tables conn) (interleaved-does f g (Down c) (allowed (Down c) is)).step.leads
      ∙ numbers-kept (λ l. not (l.connection == c)) conn (λ l of_it. ap not (ne_eqb l.connection c (λ same. other (ap Some (sym same ∙ eqb-true l.connection conn of_it))))) f.state.tables.links.links
  by (Answer c now failed dialed level told) is other =
      (answer-goes f g c now (bus_input f c failed dialed level) told (interleaved-does f g (Answer c now failed dialed level told) (allowed (Answer c now failed dialed level told) is)).step).others conn
      (another c conn other)
  by (Up c r) is other = same ((interleaved-frame f g (Up c r) (allowed (Up c r) is)).all_links refl)
  by (Arrive c asked now) is other = same ((interleaved-frame f g (Arrive c asked now) (allowed (Arrive c asked now) is)).all_links refl)
  by (Abort c lid told) is other = same ((interleaved-frame f g (Abort c lid told) (allowed (Abort c lid told) is)).all_links refl)
  by (Sample now srq) is other = same ((interleaved-frame f g (Sample now srq) (allowed (Sample now srq) is)).all_links refl)
  by (Take c chan given) is other = same ((interleaved-frame f g (Take c chan given) (allowed (Take c chan given) is)).all_links refl)
  by (Begin c now) is other = same ((interleaved-frame f g (Begin c now) (allowed (Begin c now) is)).all_links refl)
  by (Move c moves) is other = same ((interleaved-frame f g (Move c moves) (allowed (Move c moves) is)).all_links refl)
  by (Dial c now) is other = same ((interleaved-frame f g (Dial c now) (allowed (Dial c now) is)).all_links refl)

-- a connection whose number isn't given yet has no link
abbrev pub AreFree : InterleavedState → Type 0
AreFree f = (conn : ℕ) → f.state.tables.next_connection ≤ conn → numbers_of f.state.tables conn ≡ []

-- so it stays
pub links-free : (e : Event) (f g : InterleavedState) → Plainly f → AreFree f → interleaved_step f e ≡ Some g → AreFree g
links-free e f g plain free h conn low = at (changes-or e conn) where
  before : numbers_of f.state.tables conn ≡ []
  before = free conn (omega (arith, low, (interleaved-onward e f g h).next))

  allowed : (x : Event) → e ≡ x → interleaved_step f x ≡ Some g
  allowed x is = subst (λ y. interleaved_step f y ≡ Some g) is h

  same : g.state.tables.links ≡ f.state.tables.links → numbers_of g.state.tables conn ≡ []
  same is = ap (λ (x : Table). numbers_in x.links conn) is ∙ before

  by : (x : Event) → e ≡ x → changes x ≡ Some conn → numbers_of g.state.tables conn ≡ []
  by (Up c r) is own =
      let d = (interleaved-does f g (Up c r) (allowed (Up c r) is)).step in
      let after : g.state.tables.next_connection ≡ f.state.tables.next_connection + 1 = ap (λ (x : InterleavedState). x.state.tables.next_connection) d.leads in
      let mine = same_Some c conn own in
      absurd (omega (arith, low, after, mine, d.number))
  by (Down c) is own =
      ap (λ (x : InterleavedState). numbers_of x.state.tables conn) (interleaved-does f g (Down c) (allowed (Down c) is)).step.leads
      ∙ ap (λ n. numbers_in (filter (λ l. not (l.connection == n)) f.state.tables.links.links) conn) (same_Some c conn own)
      ∙ numbers-gone conn f.state.tables.links.links
  by (Answer c now failed dialed level told) is own =
      let d = (interleaved-does f g (Answer c now failed dialed level told) (allowed (Answer c now failed dialed level told) is)).step in
      let given = asked-below f.state.tables c d.asked plain.numbers d.call_at in
      let mine = same_Some c conn own in
      absurd (omega (arith, low, given, mine, (interleaved-onward e f g h).next))
  by (Arrive c asked now) is own = same ((interleaved-frame f g (Arrive c asked now) (allowed (Arrive c asked now) is)).all_links refl)
  by (Dial c now) is own = same ((interleaved-frame f g (Dial c now) (allowed (Dial c now) is)).all_links refl)
  by _ is own = absurd (none-some conn own)

  at : (changes e ≡ Some conn) ⊎ (changes e ≡ Some conn → ⊥) → numbers_of g.state.tables conn ≡ []
  at (inl own) = by e refl own
  at (inr other) = links-keep e f g conn other h ∙ before

-- ---- what the events tell

-- a choice by another connection's number, and by its own
other-way : (c conn : ℕ) (x y : Option (List ℕ)) → (Some c ≡ Some conn → ⊥) → cond (c == conn) x y ≡ y
other-way c conn x y other = cond-false (c == conn) x y (ne_eqb c conn (λ is. other (ap Some is)))

own-way : (c conn : ℕ) (x y : Option (List ℕ)) → Some c ≡ Some conn → cond (c == conn) x y ≡ x
own-way c conn x y own = cond-true (c == conn) x y (eq-eqb c conn (same_Some c conn own))

-- an event that doesn't change the connection tells of none of its links
next-other : (e : Event) (conn : ℕ) (phase : Phase) (numbers : Option (List ℕ)) → (changes e ≡ Some conn → ⊥) → numbers_next conn phase numbers e ≡ numbers
next-other (Up c r) conn phase numbers other = other-way c conn (Some []) numbers other
next-other (Answer c now failed dialed level told) conn phase numbers other = other-way c conn (answered_numbers phase told numbers) numbers other
next-other _ conn phase numbers other = refl

-- the answer of a connection that is up tells what becomes of its links
answered-links : (phase : Phase) (f g : InterleavedState) (conn now : ℕ) (o : BusInput) (told : Reply) (numbers : Option (List ℕ)) → is_up phase ≡ true → HasPhase f conn phase
    → numbers ≡ Some (numbers_of f.state.tables conn) → IsAnswered f conn now o told g → answered_numbers phase told numbers ≡ Some (numbers_of g.state.tables conn)
answered-links Absent f g conn now o told numbers up phases has d = absurd (false≢true up)
answered-links (Idle r) f g conn now o told numbers up phases has d = absurd (none-some d.asked (sym phases.1 ∙ d.call_at))
answered-links (Asked asked dialed) f g conn now o told numbers up phases has d =
    let same : d.asked ≡ phases.1.pending = same_Some d.asked phases.1.pending (sym d.call_at ∙ phases.1.call_at) in
    let call_is : d.asked.call ≡ asked = ap (λ (p : Pending). p.call) same ∙ phases.1.call_is in
    ap (option_and_then (numbers_after asked told)) has
    ∙ sym (ap (λ c. numbers_after c told (numbers_of f.state.tables conn)) call_is)
    ∙ (answer-goes f g conn now o told d).own

-- each of its own events that a pass may make tells so
own-links : (e : Event) (own : List Event) (f g : InterleavedState) (conn : ℕ) → changes e ≡ Some conn → may_make own e ≡ true → AreFree f → HasPhase f conn (phase_by conn own)
    → HasLinks f conn (phase_by conn own) (numbers_by conn own) → interleaved_step f e ≡ Some g → HasLinks g conn (phase_after conn (phase_by conn own) e) (numbers_next conn (phase_by conn own) (numbers_by conn own) e)
own-links (Up c r) own f g conn is may free phases links h up =
    let d = (interleaved-does f g (Up c r) h).step in
    let mine = same_Some c conn is in
    own-way c conn (Some []) (numbers_by conn own) is
    ∙ ap Some (sym (ap (λ (x : InterleavedState). numbers_of x.state.tables conn) d.leads ∙ free conn (omega (arith, mine, d.number))))
own-links (Down c) own f g conn is may free phases links h up =
    absurd (false≢true (sym (ap is_up (cond-true (c == conn) Absent (phase_by conn own) (eq-eqb c conn (same_Some c conn is)))) ∙ up))
own-links (Arrive c asked now) own f g conn is may free phases links h up =
    links (subst (λ k. is_up (phase_by k own) ≡ true) (same_Some c conn is) may)
    ∙ ap (λ (x : Table). Some (numbers_in x.links conn)) (sym ((interleaved-frame f g (Arrive c asked now) h).all_links refl))
own-links (Dial c now) own f g conn is may free phases links h up =
    links (subst (λ k. is_up (phase_by k own) ≡ true) (same_Some c conn is) may)
    ∙ ap (λ (x : Table). Some (numbers_in x.links conn)) (sym ((interleaved-frame f g (Dial c now) h).all_links refl))
own-links (Answer c now failed dialed level told) own f g conn is may free phases links h up =
    let same = same_Some c conn is in
    let was = subst (λ k. is_up (phase_by k own) ≡ true) same may in
    own-way c conn (answered_numbers (phase_by conn own) told (numbers_by conn own)) (numbers_by conn own) is
    ∙ answered-links (phase_by conn own) f g conn now (bus_input f conn failed dialed level) told (numbers_by conn own) was phases (links was)
    (subst (λ k. IsAnswered f k now (bus_input f k failed dialed level) told g) same (interleaved-does f g (Answer c now failed dialed level told) h).step)
own-links _ own f g conn is may free phases links h up = absurd (none-some conn is)

-- what the state has of a connection's links it has behind an event that leaves them
pub keeps-links : (f g : InterleavedState) (conn : ℕ) (phase : Phase) (numbers : Option (List ℕ)) → numbers_of g.state.tables conn ≡ numbers_of f.state.tables conn
    → HasLinks f conn phase numbers → HasLinks g conn phase numbers
keeps-links f g conn phase numbers same links up = links up ∙ ap Some (sym same)

-- behind an event that the pass may make the state has the links of each connection as the pass's own events tell
pub made-links : (e : Event) (own : List Event) (f g : InterleavedState) (conn : ℕ) → may_make own e ≡ true → AreFree f → HasPhase f conn (phase_by conn own)
    → HasLinks f conn (phase_by conn own) (numbers_by conn own) → interleaved_step f e ≡ Some g → HasLinks g conn (phase_by conn (own ++ e ∷ [])) (numbers_by conn (own ++ e ∷ []))
made-links e own f g conn may free phases links h up =
    numbers-append conn Absent (Some []) own (e ∷ []) ∙ by (changes-or e conn) (sym (ap is_up (phase-append conn Absent own (e ∷ []))) ∙ up)
  where
    by : (changes e ≡ Some conn) ⊎ (changes e ≡ Some conn → ⊥) → is_up (phase_after conn (phase_by conn own) e) ≡ true
        → numbers_next conn (phase_by conn own) (numbers_by conn own) e ≡ Some (numbers_of g.state.tables conn)
    by (inl is) up = own-links e own f g conn is may free phases links h up
    by (inr other) up =
        next-other e conn (phase_by conn own) (numbers_by conn own) other
        ∙ links (sym (ap is_up (phase-other e conn (phase_by conn own) other)) ∙ up)
        ∙ ap Some (sym (links-keep e f g conn other h))
