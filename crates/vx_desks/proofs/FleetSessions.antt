-- What a whole session, and a whole link, do at the desk of a fleet: what they do on connections of the passes.
use Rattle.std.proofs.Common.{◌≡◌, ◌≤◌, ℕ, List, Option, Some, Result, Ok, Err, refl, sym, ap, ◌∙◌, subst, arith}
use Rattle.std.proofs.lemmas.Option.{same_Some}
use Rattle.vx_io_traits.specs.declared.clocks.Clock.{Ghosts as OfClock}
use Rattle.vx_io_traits.specs.declared.links.Link.{Ghosts as OfLink}
use Rattle.vx_calls.specs.declared.calls.Role.{Role}
use Rattle.vx_calls.specs.declared.calls.Role.TheVariants as role
use Rattle.vx_calls.specs.declared.limits.TheConstants.{RECORD_MAX}
use Rattle.vx_calls.specs.Call.{Call}
use Rattle.vx_488.specs.declared.bus.Bus.{Ghosts}
use Rattle.vx_core.specs.CoreState.{CoreState}
use Rattle.vx_gate.specs.PassView.{PassView, GateId}
use Rattle.vx_group.specs.Groups.{Group}
use Rattle.vx_group.specs.Laws.{ClaimsOfGroupsLaw, OwnedLaw}
use Rattle.vx_exchange.specs.Meaning.{Asks, Aborts}
use Rattle.vx_state.specs.declared.tables.Connect.{Connect}
use Rattle.vx_state.specs.declared.tables.Connect.TheVariants as connect
use Rattle.vx_stream.specs.declared.ends.End.{End}
use Rattle.vx_session.specs.Linking.{refused_as}
use Rattle.vx_session.specs.Progress.{Clocked, ClockedAs}
use Rattle.vx_session.specs.Desks.{Attends, DeskSession, DeskLink}
use Rattle.vx_session.specs.declared.desks.Desk.{Ghosts as OfDesk}
use Rattle.vx_session.specs.declared.attending.Attending.{Attending}
use Rattle.vx_session.specs.declared.links.Linked.{Linked}
use Rattle.vx_session.specs.declared.links.Linked.TheVariants as linked
use Rattle.vx_session.proofs.Laws.{clockedas-none}
use Rattle.vx_session.proofs.Laws.Progressing.{stream-keeps}
use Rattle.vx_session.proofs.Laws.Attended.{attends-keep}
use Rattle.vx_desks.specs.declared.routes.counts.Count.{Count}
use Rattle.vx_desks.specs.Four.{Four}
use Rattle.vx_desks.specs.Given.{LinksLaw, OnceLaw}
use Rattle.vx_desks.specs.Origins.{origins}
use Rattle.vx_desks.specs.FleetServing.{State, MeaningDoes, fleet_state}
use Rattle.vx_desks.specs.FleetEnding.{FleetHolding, LeavesAll, FleetSessionDid, at_once}
use Rattle.vx_desks.specs.Joining.{JoinsAll, UndoneAll}
use Rattle.vx_desks.specs.FleetLinking.{FleetLinkDid}
use Rattle.vx_desks.specs.FleetDesk.{AreIdleAt, FleetJoins, FleetLeaves}
use Rattle.vx_desks.proofs.Attended.{fleet-does}
use Rattle.vx_desks.proofs.Progressing.{StreamServed, stream-served}
use Rattle.vx_desks.proofs.Finishing.{session-did}
use Rattle.vx_desks.proofs.Linked.{link-refused}

-- ---- a session

module _ {B C D : Type 0} (bus : Ghosts B) (by_clock : OfClock C) (ways : OfDesk D) (firsts : D → Four (CoreState B)) (gates : D → Four GateId)
    (count : D → Count) (conns : D → Four ℕ) (passes : D → Option (Four (PassView Group))) (clock : D → C)
    (idles : (s : D) (r : Role) → ways.idle s r → AreIdleAt (gates s) r (fleet_state by_clock (count s) r (conns s) (passes s) (clock s)))
    (asks : (s s' : D) (xid : ℕ) (call : Call) (reply : Option (List ℕ)) → ways.asks s xid call reply s'
    → MeaningDoes (origins bus (firsts s)) by_clock.tells (fleet_state by_clock (count s) role.Core (conns s) (passes s) (clock s)) (Asks xid call) reply (fleet_state by_clock (count s') role.Core (conns s') (passes s') (clock s')))
    (aborts : (s s' : D) (xid lid : ℕ) (reply : List ℕ) → ways.aborts s xid lid reply s'
    → MeaningDoes (origins bus (firsts s)) by_clock.tells (fleet_state by_clock (count s) role.Abort (conns s) (passes s) (clock s)) (Aborts xid lid) (Some reply) (fleet_state by_clock (count s') role.Abort (conns s') (passes s') (clock s')))
    (asks_firsts : (s s' : D) (xid : ℕ) (call : Call) (reply : Option (List ℕ)) → ways.asks s xid call reply s' → firsts s' ≡ firsts s)
    (aborts_firsts : (s s' : D) (xid lid : ℕ) (reply : List ℕ) → ways.aborts s xid lid reply s' → firsts s' ≡ firsts s)
    (leaves : (s s' : D) → ways.leaves s s'
    → FleetLeaves (origins bus (firsts s)) (fleet_state by_clock (count s) role.Core (conns s) (passes s) (clock s)) (fleet_state by_clock (count s') role.Core (conns s') (passes s') (clock s'))) where
  abbrev shown : Role → D → State C
  shown r s = fleet_state by_clock (count s) r (conns s) (passes s) (clock s)

  -- the records of its stream were served
  fleet-served : {L : Type 0} (of_link : OfLink L) (r : Role) (s s' : D) (p : Four (PassView Group)) (link link' : L) (how : End) → passes s ≡ Some p
      → (did : DeskSession ways of_link r (record { server = s; link = link }) how (record { server = s'; link = link' }))
      → StreamServed (origins bus (firsts s)) by_clock.tells of_link (shown r s) p link how (shown did.last.role did.last.desk) link'
  fleet-served of_link r s s' p link link' how had did =
      stream-served bus by_clock.tells (λ (x : Attending D). firsts x.desk) (Attends ways) (λ (x : Attending D). shown x.role x.desk)
      (fleet-does bus by_clock ways firsts gates count conns passes clock idles asks aborts) (attends-keep ways firsts asks_firsts aborts_firsts)
      of_link (record { desk = s; role = r }) did.last p link link' how had did.answered

  -- it was a session
  pub fleet-did : {L : Type 0} (of_link : OfLink L) → ClaimsOfGroupsLaw → OwnedLaw → LinksLaw → OnceLaw → (r : Role) (s s' : D) (p p' : Four (PassView Group)) (link link' : L) (how : End) (now : C)
      → passes s ≡ Some p → passes s' ≡ Some p' → clock s' ≡ now → DeskSession ways of_link r (record { server = s; link = link }) how (record { server = s'; link = link' })
      → FleetSessionDid (count s) (origins bus (firsts s)) of_link (ClockedAs r by_clock.tells (clock s) now) (by_clock.told now) r (conns s) (record { passes = p; link = link }) how (record { passes = p'; link = link' })
  fleet-did of_link claims owned links once r s s' p p' link link' how now had has is did =
      let last = did.last in
      let gone = leaves last.desk s' did.leaves in
      let served = fleet-served of_link r s s' p link link' how had did in
      let kept = stream-keeps (Attends ways) (λ (x : Attending D). firsts x.desk) (attends-keep ways firsts asks_firsts aborts_firsts) of_link (record { desk = s; role = r }) last link link' RECORD_MAX at_once how did.answered in
      session-did (origins bus (firsts s)) by_clock.tells of_link claims owned links once (shown r s) (shown last.role last.desk) p gone.passes p' link link' how (by_clock.told now) now
      served gone.had (sym gone.still.told ∙ ap by_clock.told is) (sym gone.still.clock ∙ is)
      (subst (λ x. LeavesAll (origins bus (firsts s)) gone.passes (conns s) x) (same_Some gone.passes' p' (sym gone.has ∙ has))
      (subst (λ n. LeavesAll (origins bus (firsts s)) gone.passes n gone.passes') served.serves.conns
      (subst (λ f. LeavesAll (origins bus f) gone.passes (conns last.desk) gone.passes') kept gone.leaves)))

  -- its clock doesn't go back
  pub fleet-later : {L : Type 0} (of_link : OfLink L) (r : Role) (s s' : D) (p : Four (PassView Group)) (link link' : L) (how : End) → passes s ≡ Some p
      → DeskSession ways of_link r (record { server = s; link = link }) how (record { server = s'; link = link' }) → by_clock.told (clock s) ≤ by_clock.told (clock s')
  fleet-later of_link r s s' p link link' how had did =
      subst (λ n. by_clock.told (clock s) ≤ n) (sym (leaves did.last.desk s' did.leaves).still.told) (fleet-served of_link r s s' p link link' how had did).serves.later

  -- ---- a link

  module _ (joins : (s s' : D) (r : Role) (answer : Result Unit Connect) → ways.joins s r answer s'
      → FleetJoins (origins bus (firsts s)) (fleet_state by_clock (count s) r (conns s) (passes s) (clock s)) r answer (fleet_state by_clock (count s') r (conns s') (passes s') (clock s')))
      (joins_firsts : (s s' : D) (r : Role) (answer : Result Unit Connect) → ways.joins s r answer s' → firsts s' ≡ firsts s) where
    -- its connections were refused
    refused-did : {L : Type 0} (of_link : OfLink L) → ClaimsOfGroupsLaw → OwnedLaw → OnceLaw → (s s' : D) (p p' : Four (PassView Group)) (link link' : L) (why : Connect) (now : C) → passes s ≡ Some p → passes s' ≡ Some p' → clock s' ≡ now
        → ways.joins s role.Core (Err why) s' → link' ≡ link
        → FleetLinkDid (count s) (origins bus (firsts s)) of_link (Clocked by_clock.tells (clock s) now) (by_clock.told now) (record { passes = p; link = link }) (refused_as why) (record { passes = p'; link = link' })
    refused-did of_link claims owned once s s' p p' link link' why now had has is joined same =
        let g = origins bus (firsts s) in
        let j = joins s s' role.Core (Err why) joined in
        subst (λ l. FleetLinkDid (count s) g of_link (Clocked by_clock.tells (clock s) now) (by_clock.told now) (record { passes = p; link = link }) (refused_as why) (record { passes = p'; link = l })) (sym same)
        (link-refused (count s) g of_link claims owned once (Clocked by_clock.tells (clock s) now) (clockedas-none by_clock.tells role.Core (clock s) now (sym is ∙ j.still.clock)) (by_clock.told now) p j.up p' link j.joined why
        (refused_as why) refl (subst (λ x. JoinsAll g role.Core x j.joined j.up) (same_Some j.passes p (sym j.had ∙ had)) j.joins) j.come.0
        (subst (λ x. UndoneAll g j.up j.joined x) (same_Some j.passes' p' (sym j.has ∙ has)) j.come.1))

    -- its core connections had their session, or were refused
    pub fleet-link-did : {L : Type 0} (of_link : OfLink L) → ClaimsOfGroupsLaw → OwnedLaw → LinksLaw → OnceLaw → (s s' : D) (p p' : Four (PassView Group)) (link link' : L) (how : Linked) (now : C) → passes s ≡ Some p → passes s' ≡ Some p' → clock s' ≡ now
        → DeskLink ways of_link role.Core (record { server = s; link = link }) how (record { server = s'; link = link' })
        → FleetLinkDid (count s) (origins bus (firsts s)) of_link (Clocked by_clock.tells (clock s) now) (by_clock.told now) (record { passes = p; link = link }) how (record { passes = p'; link = link' })
    fleet-link-did of_link claims owned links once s s' p p' link link' (linked.Ended how) now had has is did =
        let up = did.up in
        let j = joins s up role.Core (Ok tt) did.joins in
        let after : FleetHolding _ = record { passes = p'; link = link' } in
        record {
          joined = j.joined;
          up = j.up;
          joins = subst (λ x. JoinsAll (origins bus (firsts s)) role.Core x j.joined j.up) (same_Some j.passes p (sym j.had ∙ had)) j.joins;
          conns = conns up;
          all = j.come.0;
          did = subst (λ f. FleetSessionDid (count s) (origins bus f) of_link (Clocked by_clock.tells (clock s) now) (by_clock.told now) role.Core (conns up) (record { passes = j.up; link = link }) how after)
              (joins_firsts s up role.Core (Ok tt) did.joins)
              (subst (λ n. FleetSessionDid n (origins bus (firsts up)) of_link (Clocked by_clock.tells (clock s) now) (by_clock.told now) role.Core (conns up) (record { passes = j.up; link = link }) how after) j.still.count
              (subst (λ k. FleetSessionDid (count up) (origins bus (firsts up)) of_link (Clocked by_clock.tells k now) (by_clock.told now) role.Core (conns up) (record { passes = j.up; link = link }) how after) j.still.clock
              (fleet-did of_link claims owned links once role.Core up s' j.up p' link link' how now (j.has ∙ ap Some j.come.1) has is did.session)));
        }
    fleet-link-did of_link claims owned links once s s' p p' link link' linked.Full now had has is did = refused-did of_link claims owned once s s' p p' link link' connect.Full now had has is did.0 did.1
    fleet-link-did of_link claims owned links once s s' p p' link link' linked.NoMemory now had has is did = refused-did of_link claims owned once s s' p p' link link' connect.NoMemory now had has is did.0 did.1

    -- its clock doesn't go back
    pub fleet-link-later : {L : Type 0} (of_link : OfLink L) (r : Role) (s s' : D) (link link' : L) (how : Linked)
        → DeskLink ways of_link r (record { server = s; link = link }) how (record { server = s'; link = link' }) → by_clock.told (clock s) ≤ by_clock.told (clock s')
    fleet-link-later of_link r s s' link link' (linked.Ended how) did =
        let j = joins s did.up r (Ok tt) did.joins in
        subst (λ n. n ≤ by_clock.told (clock s')) j.still.told (fleet-later of_link r did.up s' j.passes' link link' how j.has did.session)
    fleet-link-later of_link r s s' link link' linked.Full did = let still = (joins s s' r (Err connect.Full) did.0).still in let same = still.told in omega arith
    fleet-link-later of_link r s s' link link' linked.NoMemory did = let still = (joins s s' r (Err connect.NoMemory) did.0).still in let same = still.told in omega arith
