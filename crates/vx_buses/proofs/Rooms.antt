-- What a link adds to how many connections each bus's pass has had come up and go down.
use Rattle.std.proofs.Common.{◌≡◌, ◌≤◌, ◌<◌, ◌==◌, ℕ, zero, suc, Bool, true, false, cond, List, [], ◌∷◌, Result, Ok, Err, sym, ap, ◌∙◌, subst, arith}
use Rattle.std.specs.List.{All}
use Rattle.std.proofs.lemmas.List.Concat.{flat_map-cons}
use Rattle.std.proofs.lemmas.List.Elements.{All-head, All-tail}
use Rattle.vx_io_traits.specs.declared.links.Link.{Ghosts}
use Rattle.vx_calls.specs.declared.calls.Role.{Role}
use Rattle.vx_calls.specs.declared.limits.TheConstants.{CONNECTION_LAST}
use Rattle.vx_calls.specs.declared.calls.Role.TheVariants as role
use Rattle.vx_desks.specs.declared.routes.counts.Count.{Count}
use Rattle.vx_desks.specs.declared.routes.counts.Count.TheVariants as counts
use Rattle.vx_desks.specs.Four.{Four, at, Each}
use Rattle.vx_state.specs.declared.tables.Connect.{Connect}
use Rattle.vx_state.specs.declared.tables.Connect.TheVariants as connect
use Rattle.vx_stream.specs.declared.ends.End.{End}
use Rattle.vx_session.specs.Origin.{Origin}
use Rattle.vx_session.specs.Placing.{Placed}
use Rattle.vx_session.specs.Turning.{Joins}
use Rattle.vx_session.specs.declared.links.Linked.{Linked}
use Rattle.vx_session.specs.declared.links.Linked.TheVariants as linked
use Rattle.vx_session.specs.Counting.{events_by, IsSteady, ComesAndGoes, IsSessionClear}
use Rattle.vx_session.proofs.Laws.{append-steady, events_by-append, none-steady, called-steady, aborted-steady, came-and-went, none-came, came-undone, never-full}
use Rattle.vx_desks.specs.Meant.{Meant, Junk, Told, Asks, Aborts, meant}
use Rattle.vx_desks.specs.Origins.{Origins, on, OnEach}
use Rattle.vx_desks.specs.FleetServing.{Item, FleetServes, IsFleetServed, placed_on, numbers}
use Rattle.vx_desks.specs.FleetEnding.{FleetHolding}
use Rattle.vx_desks.specs.Joining.{Undone, outcome}
use Rattle.vx_desks.specs.FleetLinking.{HadSession, WasRefused, LinkDid}
use Rattle.vx_desks.proofs.Laws.Joined.{all-up}

-- ---- the messages of a session

-- no connection comes up or goes by a message that was served
served-steady : {B : Type 0} (g : Origins B) (ns conns : Four ℕ) (m : Meant) (bus : ℕ) (ps : List Placed) (out : List ℕ) → IsFleetServed g ns conns m bus ps out → IsSteady (events_by ps)
served-steady g ns conns Junk bus ps out is = absurd is
served-steady g ns conns (Told message) bus ps out is = subst (λ qs. IsSteady (events_by qs)) (sym is.0) none-steady
served-steady g ns conns (Asks b xid there) bus ps out is = called-steady (on bus g) (at bus ns) (at bus conns) xid there ps is.1.calls is.1.given is.1.called
served-steady g ns conns (Aborts b xid lid) bus ps out is = aborted-steady (at bus conns) xid lid ps [] out is.1

-- nor by those of a session that one bus served
pub items-steady : {B : Type 0} (count : Count) (g : Origins B) (ns conns : Four ℕ) (r : Role) (bus : ℕ) (items : List Item) → All (FleetServes count g ns conns r) items → IsSteady (events_by (placed_on bus items))
items-steady count g ns conns r bus [] all = none-steady
items-steady count g ns conns r bus (i ∷ items) all =
    let one = All-head (FleetServes count g ns conns r) i items all in
    let first = served-steady g ns conns (meant count i.answered.message r) i.bus i.placed i.answered.reply one.served in
    subst IsSteady (sym (ap events_by (flat_map-cons (λ (k : Item). cond (k.bus == bus) k.placed []) i items) ∙ events_by-append (cond (i.bus == bus) i.placed []) (placed_on bus items)))
    (append-steady (events_by (cond (i.bus == bus) i.placed [])) (events_by (placed_on bus items)) (chosen (i.bus == bus) first)
    (items-steady count g ns conns r bus items (All-tail (FleetServes count g ns conns r) i items all)))
  where
    chosen : (b : Bool) → IsSteady (events_by i.placed) → IsSteady (events_by (cond b i.placed []))
    chosen true first = first
    chosen false first = none-steady

-- ---- connects

-- what holds of all four holds of each
each-on : {B X Y Z : Type 0} (P : Origin B → X → Y → Z → Type 0) (g : Origins B) (x : Four X) (y : Four Y) (z : Four Z) → OnEach P g x y z → (bus : ℕ)
    → P (on bus g) (at bus x) (at bus y) (at bus z)
each-on P g x y z each zero = each.zero_
each-on P g x y z each (suc zero) = each.one
each-on P g x y z each (suc (suc zero)) = each.two
each-on P g x y z each (suc (suc (suc n))) = each.three

-- causes that are one
same-why : (a b : Connect) → ◌≡◌ {A = Result (Four ℕ) Connect} (Err a) (Err b) → a ≡ b
same-why a b h = cc

-- where all four came up each did
each-up : (joined : Four (Result ℕ Connect)) (conns : Four ℕ) → outcome joined ≡ Ok conns → (bus : ℕ) → at bus joined ≡ Ok (at bus conns)
each-up joined conns h = by (all-up joined.zero_ joined.one joined.two joined.three conns h) where
  by : Each (λ o n. ◌≡◌ {A = Result ℕ Connect} o (Ok n)) joined conns → (bus : ℕ) → at bus joined ≡ Ok (at bus conns)
  by each zero = each.zero_
  by each (suc zero) = each.one
  by each (suc (suc zero)) = each.two
  by each (suc (suc (suc n))) = each.three

-- a bus that refused a connection for this cause
pub record HasRefused (joined : Four (Result ℕ Connect)) (why : Connect) : Type 0 where
  pub bus : ℕ
  pub within : bus ≤ 3
  pub answer : at bus joined ≡ Err why

-- where one didn't come up a bus refused it for the cause that is told
who-refused : (a b c d : Result ℕ Connect) (why : Connect) → outcome (record { zero_ = a; one = b; two = c; three = d }) ≡ Err why
    → HasRefused (record { zero_ = a; one = b; two = c; three = d }) why
who-refused (Err first) b c d why h = record { bus = 0; within = omega arith; answer = ap Err (same-why first why h) }
who-refused (Ok x) (Err first) c d why h = record { bus = 1; within = omega arith; answer = ap Err (same-why first why h) }
who-refused (Ok x) (Ok y) (Err first) d why h = record { bus = 2; within = omega arith; answer = ap Err (same-why first why h) }
who-refused (Ok x) (Ok y) (Ok z) (Err first) why h = record { bus = 3; within = omega arith; answer = ap Err (same-why first why h) }
who-refused (Ok x) (Ok y) (Ok z) (Ok w) why h = absurd (cc)

-- ---- a link

-- a connection of each bus came up, had its session, and went
had-counts : {B L : Type 0} (count : Count) (g : Origins B) (ways : Ghosts L) (clocked : List Placed → Type 0) (told : ℕ) (before : FleetHolding L) (how : End) (after : FleetHolding L)
    → HadSession count g ways clocked told before how after → (bus : ℕ) → bus ≤ 3 → ComesAndGoes (at bus before.passes) (at bus after.passes)
had-counts count g ways clocked told before how after had bus within =
    let did = had.did in
    let joins = subst (λ o. Joins (on bus g) (at bus before.passes) role.Core o (at bus had.up)) (each-up had.joined had.conns had.all bus)
    (each-on (λ o pass answer pass'. Joins o pass role.Core answer pass') g before.passes had.joined had.up had.joins bus) in
    came-and-went (on bus g) told (at bus had.conns) role.Core (at bus before.passes) (at bus had.up) (at bus after.passes) (placed_on bus did.items) (at bus did.lasts) joins (did.makes bus within)
    (items-steady count g (numbers had.up) had.conns role.Core bus did.items did.each) (did.down bus within)

-- one didn't come up, and those that did went again
refused-counts : {B L : Type 0} (g : Origins B) (clocked : List Placed → Type 0) (before : FleetHolding L) (why : Connect) (after : FleetHolding L) → WasRefused g clocked before why after
    → (bus : ℕ) → ComesAndGoes (at bus before.passes) (at bus after.passes)
refused-counts g clocked before why after was bus =
    by (at bus was.joined) (each-on (λ o pass answer pass'. Joins o pass role.Core answer pass') g before.passes was.joined was.up was.joins bus)
    (each-on (λ o pass answer pass'. Undone o pass answer pass') g was.up was.joined after.passes was.undone bus)
  where
    by : (o : Result ℕ Connect) → Joins (on bus g) (at bus before.passes) role.Core o (at bus was.up) → Undone (on bus g) (at bus was.up) o (at bus after.passes)
        → ComesAndGoes (at bus before.passes) (at bus after.passes)
    by (Ok conn) joins leaves = came-undone (on bus g) conn role.Core (at bus before.passes) (at bus was.up) (at bus after.passes) joins leaves
    by (Err why) joins same = subst (ComesAndGoes (at bus before.passes)) (sym same) (none-came (on bus g) role.Core why (at bus before.passes) (at bus was.up) joins)

-- Whatever became of a link: among the groups that each bus's pass made as many connections came up as went down, and at most one.
pub link-counts : {B L : Type 0} (g : Origins B) (ways : Ghosts L) (clocked : List Placed → Type 0) (told : ℕ) (before : FleetHolding L) (how : Linked) (after : FleetHolding L)
    → LinkDid g ways clocked told before how after → (bus : ℕ) → bus ≤ 3 → ComesAndGoes (at bus before.passes) (at bus after.passes)
link-counts g ways clocked told before (linked.Ended how) after did bus within = had-counts counts.Four g ways clocked told before how after did bus within
link-counts g ways clocked told before linked.Full after did bus within = refused-counts g clocked before connect.Full after did bus
link-counts g ways clocked told before linked.NoMemory after did bus within = refused-counts g clocked before connect.NoMemory after did bus

-- Where the pass of each bus is clear behind so many links, the next one isn't refused for want of room.
pub link-never-full : {B L : Type 0} (g : Origins B) (ways : Ghosts L) (clocked : List Placed → Type 0) (told count : ℕ) (before after : FleetHolding L)
    → ((bus : ℕ) → bus ≤ 3 → IsSessionClear count (at bus before.passes)) → count < CONNECTION_LAST → LinkDid g ways clocked told before linked.Full after → ⊥
link-never-full g ways clocked told count before after clear low was =
    let who = who-refused was.joined.zero_ was.joined.one was.joined.two was.joined.three connect.Full was.refused in
    never-full (on who.bus g) count (at who.bus before.passes) (at who.bus was.up) role.Core (clear who.bus who.within) low
    (subst (λ o. Joins (on who.bus g) (at who.bus before.passes) role.Core o (at who.bus was.up)) who.answer
    (each-on (λ o pass answer pass'. Joins o pass role.Core answer pass') g before.passes was.joined was.up was.joins who.bus))
