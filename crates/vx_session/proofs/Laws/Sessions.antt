-- What calls, sessions and links add to how many connections came up and went down.
use Rattle.std.proofs.Common.{◌≡◌, ◌+◌, ℕ, List, [], ◌∷◌, ◌++◌, map, Ok, Err, refl, sym, ap, ◌∙◌, subst, append-nil, arith}
use Rattle.std.proofs.lemmas.List.{map-append}
use Rattle.vx_io_traits.specs.declared.dials.Rang.{Rang}
use Rattle.vx_calls.specs.declared.calls.Role.{Role}
use Rattle.vx_calls.specs.Call.{Call}
use Rattle.vx_488.specs.Steps.{Step}
use Rattle.vx_488.specs.declared.bus.Bus.{Ghosts}
use Rattle.vx_gate.specs.declared.views.Logged.{Logged}
use Rattle.vx_gate.specs.History.{groups}
use Rattle.vx_gate.specs.PassView.{PassView}
use Rattle.vx_state.specs.declared.tables.Connect.{Connect}
use Rattle.vx_exchange.specs.Meaning as meant
use Rattle.vx_exchange.specs.Meaning.{Meaning, Junk, Asks, Aborts, meaning}
use Rattle.vx_flow.specs.Event.{Event, Up, Down, Arrive}
use Rattle.vx_flow.specs.Poll as poll
use Rattle.vx_flow.specs.Poll.{Ending, Waited, Dialed}
use Rattle.vx_group.specs.Groups.{Group, events_of}
use Rattle.vx_core.specs.CoreState.{CoreState}
use Rattle.vx_session.specs.Origin.{Origin}
use Rattle.vx_session.specs.Placing.{Placed, Makes, logged}
use Rattle.vx_session.specs.Parts.{IsSessionPolled, moment_at}
use Rattle.vx_session.specs.Serving.{SessionGoesOn, IsCalled, IsAborted, IsSessionServed}
use Rattle.vx_session.proofs.Laws.Turns.{ispolled-all}
use Rattle.vx_session.specs.Turning.{Joins, Leaves}
use Rattle.vx_session.specs.Counting.{ups, downs, events_by, IsSteady, IsAlone, ComesAndGoes}
use Rattle.vx_session.specs.TurnLaws.{JoinedLaw, RefusedLaw, LeftLaw}
use Rattle.vx_session.proofs.Laws.Events.{ups-append, downs-append, events_of-append, IsNeither, front-steady, all-steady, append-steady}

-- groups, and then more of them
pub events_by-append : (ps qs : List Placed) → events_by (ps ++ qs) ≡ events_by ps ++ events_by qs
events_by-append ps qs = ap events_of (map-append (λ (p : Placed). p.group) ps qs) ∙ events_of-append (map (λ p. p.group) ps) (map (λ p. p.group) qs)

-- no group
pub none-steady : IsSteady (events_by [])
none-steady = record { no_up = refl; no_down = refl }

-- one group, and more
pub more-steady : (p : Placed) (ps : List Placed) → IsSteady p.group.events → IsSteady (events_by ps) → IsSteady (events_by (p ∷ ps))
more-steady p ps one rest = subst IsSteady (sym (events_by-append (p ∷ []) ps)) (append-steady (p.group.events ++ []) (events_by ps) (subst IsSteady (sym (append-nil p.group.events)) one) rest)

-- ---- calls

-- the events of a poll
polled-steady : {B : Type 0} {g : Ghosts B} {before : CoreState B} {conn now : ℕ} {ending : Ending} {events : List Event} {steps : List Step} → IsSessionPolled g before conn now ending events steps → IsSteady events
polled-steady {events = events} p =
    all-steady events
    (ispolled-all IsNeither p (record { no_up = refl; no_down = refl }) (λ made. record { no_up = refl; no_down = refl })
    (λ failed level told. record { no_up = refl; no_down = refl }) (record { no_up = refl; no_down = refl }))

-- how a call goes on behind a poll
goes-steady : {B : Type 0} (g : Origin B) (number conn xid : ℕ) (call : Call) (ending : Ending) (ps : List Placed) (calls : List Rang) (out : List ℕ)
    → SessionGoesOn g number conn xid call ending ps calls out → IsSteady (events_by ps)
goes-steady g number conn xid call (poll.Answered ran level told) [] calls out goes = none-steady
goes-steady g number conn xid call (Dialed host port) (p ∷ []) calls out goes =
    more-steady p [] (subst IsSteady (sym goes.events) (record { no_up = refl; no_down = refl })) none-steady
goes-steady g number conn xid call (Waited why) (p ∷ ps) calls out goes =
    more-steady p ps (polled-steady goes.1.polls.polled) (goes-steady g number conn xid call goes.0 ps calls out goes.2)
goes-steady g number conn xid call _ _ calls out goes = absurd goes

-- a call of a core connection, from its coming to its answer
pub called-steady : {B : Type 0} (g : Origin B) (number conn xid : ℕ) (call : Call) (ps : List Placed) (calls : List Rang) (out : List ℕ)
    → IsCalled g number conn xid call ps calls out → IsSteady (events_by ps)
called-steady g number conn xid call ps calls out is =
    subst (λ qs. IsSteady (events_by qs)) (sym is.groups)
    (more-steady is.first is.later
    (subst IsSteady (sym is.comes.events)
    (front-steady (Arrive conn call (moment_at is.first is.told)) is.comes.part (record { no_up = refl; no_down = refl }) (polled-steady is.comes.polled)))
    (goes-steady g number conn xid call is.begun is.later calls out is.goes_on))

-- a device_abort
pub aborted-steady : (conn xid lid : ℕ) (ps : List Placed) (calls : List Rang) (out : List ℕ) → IsAborted conn xid lid ps calls out → IsSteady (events_by ps)
aborted-steady conn xid lid ps calls out is =
    subst (λ qs. IsSteady (events_by qs)) (sym is.groups)
    (more-steady is.group [] (subst IsSteady (sym is.events) (record { no_up = refl; no_down = refl })) none-steady)

-- a message that was served
pub served-steady : {B : Type 0} (g : Origin B) (number conn : ℕ) (m : Meaning) (ps : List Placed) (calls : List Rang) (out : List ℕ) → IsSessionServed g number conn m ps calls out
    → IsSteady (events_by ps)
served-steady g number conn Junk ps calls out is = absurd is
served-steady g number conn (meant.Answered message) ps calls out is = subst (λ qs. IsSteady (events_by qs)) (sym is.0) none-steady
served-steady g number conn (Asks xid call) ps calls out is = called-steady g number conn xid call ps calls out is
served-steady g number conn (Aborts xid lid) ps calls out is = aborted-steady conn xid lid ps calls out is

-- ---- what a pass made

-- the events of its groups behind a list that it made
makes-events : (told : ℕ) (pass pass' : PassView Group) (ps : List Placed) → Makes told pass ps pass' → events_of pass'.own ≡ events_of pass.own ++ events_by ps
makes-events told pass pass' ps makes = ap events_of makes.own ∙ events_of-append pass.own (map (λ p. p.group) ps)

-- so many more came up
pub makes-ups : (told : ℕ) (pass pass' : PassView Group) (ps : List Placed) → Makes told pass ps pass' → ups (events_of pass'.own) ≡ ups (events_of pass.own) + ups (events_by ps)
makes-ups told pass pass' ps makes = ap ups (makes-events told pass pass' ps makes) ∙ ups-append (events_of pass.own) (events_by ps)

-- and so many more went down
pub makes-downs : (told : ℕ) (pass pass' : PassView Group) (ps : List Placed) → Makes told pass ps pass'
    → downs (events_of pass'.own) ≡ downs (events_of pass.own) + downs (events_by ps)
makes-downs told pass pass' ps makes = ap downs (makes-events told pass pass' ps makes) ∙ downs-append (events_of pass.own) (events_by ps)

-- one group of these events
one-group : (p : Placed) (events : List Event) → p.group.events ≡ events → events_by (p ∷ []) ≡ events
one-group p events are = append-nil p.group.events ∙ are

-- a turn of these events
one-made : (told : ℕ) (pass pass' : PassView Group) (p : Placed) (events : List Event) → Makes told pass (p ∷ []) pass' → p.group.events ≡ events
    → (ups (events_of pass'.own) ≡ ups (events_of pass.own) + ups events) × (downs (events_of pass'.own) ≡ downs (events_of pass.own) + downs events)
one-made told pass pass' p events makes are = (
  makes-ups told pass pass' (p ∷ []) makes ∙ ap (λ es. ups (events_of pass.own) + ups es) (one-group p events are),
  makes-downs told pass pass' (p ∷ []) makes ∙ ap (λ es. downs (events_of pass.own) + downs es) (one-group p events are),
)

-- a connection came up by it
pub joined-holds : {B : Type 0} (g : Origin B) → JoinedLaw g
joined-holds g pass pass' r conn j =
    let made = one-made 0 pass pass' j.placed (Up conn r ∷ []) j.turns.makes j.events in (made.0, omega (arith, made.1))

-- or was refused
pub refused-holds : {B : Type 0} (g : Origin B) → RefusedLaw g
refused-holds g pass pass' r why j = let made = one-made 0 pass pass' j.placed [] j.turns.makes j.events in (omega (arith, made.0), omega (arith, made.1))

-- or went
pub left-holds : {B : Type 0} (g : Origin B) → LeftLaw g
left-holds g pass pass' conn l =
    let made = one-made 0 pass pass' l.placed (Down conn ∷ []) l.turns.makes l.events in (omega (arith, made.0), made.1)

-- the groups of a history that a pass made are its groups
unlogged : (number : ℕ) (ps : List Placed) → groups (logged number ps) ≡ map (λ p. p.group) ps
unlogged number [] = refl
unlogged number (p ∷ ps) = ap (λ l. p.group ∷ l) (unlogged number ps)

-- who is the only one of its gate is so behind a list that it made
pub makes-alone : (told : ℕ) (pass pass' : PassView Group) (ps : List Placed) → Makes told pass ps pass' → IsAlone pass → IsAlone pass'
makes-alone told pass pass' ps makes alone = record {
  parts = makes.parts ∙ alone.parts;
  own = ap groups (makes.alone alone.parts) ∙ map-append (λ (m : Logged Group). m.group) pass.seen (logged pass.number ps) ∙ ap (λ l. l ++ groups (logged pass.number ps)) alone.own
      ∙ ap (λ l. pass.own ++ l) (unlogged pass.number ps) ∙ sym makes.own;
}

-- ---- a link

-- Steady groups, and then the end of a connection.
pub ends-made : (told conn : ℕ) (pass pass' : PassView Group) (ps : List Placed) (last : Placed) → Makes told pass (ps ++ last ∷ []) pass' → IsSteady (events_by ps)
    → last.group.events ≡ Down conn ∷ []
    → (ups (events_of pass'.own) ≡ ups (events_of pass.own)) × (downs (events_of pass'.own) ≡ downs (events_of pass.own) + 1)
ends-made told conn pass pass' ps last makes steady down =
    let are = events_by-append ps (last ∷ []) ∙ ap (λ es. events_by ps ++ es) (one-group last (Down conn ∷ []) down) in
    let up = makes-ups told pass pass' (ps ++ last ∷ []) makes ∙ ap (λ es. ups (events_of pass.own) + ups es) are in
    let gone = makes-downs told pass pass' (ps ++ last ∷ []) makes ∙ ap (λ es. downs (events_of pass.own) + downs es) are in
    let more_up = ups-append (events_by ps) (Down conn ∷ []) in
    let more_down = downs-append (events_by ps) (Down conn ∷ []) in
    (omega (arith, up, more_up, steady.no_up), omega (arith, gone, more_down, steady.no_down))

-- A connection came up, and then its groups were made to its end.
pub came-and-went : {B : Type 0} (g : Origin B) (told conn : ℕ) (r : Role) (pass up pass' : PassView Group) (ps : List Placed) (last : Placed) → Joins g pass r (Ok conn) up
    → Makes told up (ps ++ last ∷ []) pass' → IsSteady (events_by ps) → last.group.events ≡ Down conn ∷ [] → ComesAndGoes pass pass'
came-and-went g told conn r pass up pass' ps last joins makes steady down =
    let first = joined-holds g pass up r conn joins in
    let rest = ends-made told conn up pass' ps last makes steady down in
    record {
      even = omega (arith, first.0, first.1, rest.0, rest.1);
      most = omega (arith, first.0, rest.0);
      alone = λ alone. makes-alone told up pass' (ps ++ last ∷ []) makes (makes-alone 0 pass up (joins.placed ∷ []) joins.turns.makes alone);
    }

-- One was refused.
pub none-came : {B : Type 0} (g : Origin B) (r : Role) (why : Connect) (pass pass' : PassView Group) → Joins g pass r (Err why) pass' → ComesAndGoes pass pass'
none-came g r why pass pass' joins =
    let made = refused-holds g pass pass' r why joins in
    record { even = omega (arith, made.0, made.1); most = omega (arith, made.0); alone = λ alone. makes-alone 0 pass pass' (joins.placed ∷ []) joins.turns.makes alone }

-- One came up, and went again at once.
pub came-undone : {B : Type 0} (g : Origin B) (conn : ℕ) (r : Role) (pass up pass' : PassView Group) → Joins g pass r (Ok conn) up → Leaves g up conn pass' → ComesAndGoes pass pass'
came-undone g conn r pass up pass' joins leaves =
    let first = joined-holds g pass up r conn joins in
    let rest = left-holds g up pass' conn leaves in
    record {
      even = omega (arith, first.0, first.1, rest.0, rest.1);
      most = omega (arith, first.0, rest.0);
      alone = λ alone. makes-alone 0 up pass' (leaves.placed ∷ []) leaves.turns.makes (makes-alone 0 pass up (joins.placed ∷ []) joins.turns.makes alone);
    }
