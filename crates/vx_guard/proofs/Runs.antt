-- How the work of a guard ends.
use Rattle.std.proofs.Common.{◌≡◌, ◌≢◌, ◌≤◌, inl, inr, ℕ, List, sym, ap, ◌∙◌, arith}
use Rattle.vx_io_traits.specs.Faults.{Rose}
use Rattle.vx_io_traits.proofs.Laws.{rose_earlier}
use Rattle.vx_io_traits.specs.declared.dials.DialOut.TheVariants.{Up}
use Rattle.vx_door.specs.Opening.{Opening, Opens}
use Rattle.vx_peers.specs.Running.{KeepsOwn}
use Rattle.vx_peers.specs.declared.stopping.DoorEnd.{DoorEnd}
use Rattle.vx_peers.specs.declared.stopping.DoorEnd.TheVariants as door
use Rattle.vx_text.specs.Ends.{End}
use Rattle.vx_core.specs.CoreState.{CoreState}
use Rattle.vx_policy.specs.declared.rules.Rule.{Rule}
use Rattle.vx_policy.specs.Texts.{policy_served_line}
use Rattle.vx_peers.specs.declared.words.Ask.{Ask}
use Rattle.vx_guard.specs.declared.status.GuardStatus.{GuardStatus}
use Rattle.vx_guard.specs.declared.status.GuardStatus.TheVariants as status
use Rattle.vx_peers.specs.declared.stopping.WhyStopped.{WhyStopped}
use Rattle.vx_peers.specs.declared.stopping.WhyStopped.TheVariants as stop
use Rattle.vx_peers.specs.declared.serving.PortEnd.{PortEnd}
use Rattle.vx_peers.specs.declared.serving.PortEnd.TheVariants as port
use Rattle.vx_peers.specs.Outcome.{StopsPeers, IsPortServed}
use Rattle.vx_peers.proofs.Laws.{stops_on}
use Rattle.vx_guard.specs.Peers.{GuardHas, GuardShows, GuardsPeer, serving}
use Rattle.vx_guard.proofs.OnePeer.{Notes, notes-on}
use Rattle.vx_guard.specs.Outcome.{GuardBegins, GivesRules, IsWorked, Works, IsEnd, IsPortRun, IsNew, IsRuledRun, IsGuardAskRun, GuardPutsLine}

module _ {B C N : Type 0} (n : GuardShows B C N) (rules : List Rule) (ask : Ask) (first : GuardHas C) (last : GuardHas C) (new : N) (before after : End)
    (begins : GuardBegins first before) (keeps : KeepsOwn n.door (GuardsPeer n rules)) where
  -- the note's faults rose where it failed, and didn't fall
  noted-so : (opened : N) (why : WhyStopped) (number : ℕ) → StopsPeers (serving n rules) ask.number why number first opened last new → Notes last.failed first.note.faults last.note.faults
  noted-so opened why number stops =
      stops_on (serving n rules) (λ s. Notes s.failed first.note.faults s.note.faults) (λ s s' d d' how so_far did. notes-on n rules first s s' d d' how so_far did)
      ask.number why number first opened last new stops (rw begins.sound (omega arith))

  -- the work ended so
  works-so : (opened : N) (how : GuardStatus) → IsWorked n rules ask first opened last new after how → Works n rules ask opened new before after how
  works-so opened how worked = record { first = first; begins = begins; last = last; worked = worked; keeps = keeps }

  -- the last line was written, or the sink failed in it
  open-told : (opened : N) (number : ℕ) (ended : DoorEnd) → ended ≢ door.Failed → StopsPeers (serving n rules) ask.number (stop.Door ended) number first opened last new
      → (how : GuardStatus) → GuardPutsLine status.Served (policy_served_line number) last.note after how → Works n rules ask opened new before after how
  open-told opened number ended whole stops how (inl told) =
      rw told.0 (works-so opened status.Served (record { served = record { ended = ended; number = number; whole = whole; serves = stops.0; written = told.1 }; noted = stops.1 }))
  open-told opened number ended whole stops how (inr told) =
      let noted : first.note.faults ≤ last.note.faults = rw stops.1 at (noted-so opened (stop.Door ended) number stops) in
      rw told.0 (works-so opened status.SinkFailed (
        rose_earlier first.note.faults last.note.faults after.faults noted told.1.rose,
        inl (record { served = record { ended = ended; number = number; serves = stops.0; stops = told.1 }; noted = stops.1 }),
      ))

  module _ (o : Opening N) (old : N) where
    -- the port was opened, and the work there ended
    port-opened : (opened : N) → Opens o n.link.stands n.door ask.port old Up opened → (how : GuardStatus) → Works n rules ask opened new before after how → IsPortRun n rules o ask old new before after how
    port-opened opened opens status.NetFailed works = inr (record { opened = opened; opens = opens; came = works })
    port-opened opened opens how works = record { opened = opened; opens = opens; came = works }

    -- what became of the port was told
    port-ended : (end : PortEnd) → IsPortServed (serving n rules) o ask first old end last new → (how : GuardStatus) → IsEnd end last.note after how → IsPortRun n rules o ask old new before after how
    port-ended port.Unopened did how told = rw told.0 (inl (did.0, told.1 ∙ ap (λ (s : GuardHas C). s.note) did.1 ∙ begins.note))
    port-ended (port.Served stop.Server number) did how told =
        let rose : Rose first.note.faults last.note.faults = rw did.came.2 at (noted-so did.opened stop.Server number did.came) in
        rw told.0 (port-opened did.opened did.opens status.SinkFailed
        (works-so did.opened status.SinkFailed (rw told.1 rose, inr (record { number = number; stops = did.came; same = told.1 }))))
    port-ended (port.Served (stop.Door door.Failed) number) did how told =
        rw told.0 (port-opened did.opened did.opens status.NetFailed (works-so did.opened status.NetFailed
        ((did.came.0.over keeps).1, record { served = record { number = number; serves = did.came.0; same = told.1 }; noted = did.came.1 })))
    port-ended (port.Served (stop.Door door.Served) number) did how told =
        port-opened did.opened did.opens how (open-told did.opened number door.Served (λ e. absurd cc) did.came how told)
    port-ended (port.Served (stop.Door door.Ended) number) did how told =
        port-opened did.opened did.opens how (open-told did.opened number door.Ended (λ e. absurd cc) did.came how told)

-- So a run at a port ends that a guard began. The sink is what its note is then, with what was told behind it.
pub port-run : {B C N : Type 0} (n : GuardShows B C N) (rules : List Rule) (ask : Ask) (first last : GuardHas C) (old new : N) (before after after' : End) (o : Opening N) → GuardBegins first before
    → KeepsOwn n.door (GuardsPeer n rules) → (end : PortEnd) → IsPortServed (serving n rules) o ask first old end last new → (how : GuardStatus) → IsEnd end last.note after how → after ≡ after'
    → IsPortRun n rules o ask old new before after' how
port-run n rules ask first last old new before after after' o begins keeps end did how told same =
    rw (sym same) (port-ended n rules ask first last new before after begins keeps o old end did how told)

-- there was memory
pub ruled_run : {B C N : Type 0} (n : CoreState B → GuardShows B C N) (rules : List Rule) (o : Opening N) (ask : Ask) (old new : N) (before after : End) (first : CoreState B) → IsNew first → (how : GuardStatus)
    → IsPortRun (n first) rules o ask old new before after how → IsRuledRun n rules o ask old new before after how
ruled_run n rules o ask old new before after first is_new status.NoMemory run = absurd run.came.worked
ruled_run n rules o ask old new before after first is_new how run = (first, is_new, run)

-- the source gave rules
pub ask_run : {B C N K : Type 0} (n : CoreState B → GuardShows B C N) (rules : List Rule) (o : Opening N) (ask : Ask) (old new : N) (source source' : End) (end : K → End) (first before after : K) (how : GuardStatus)
    → GivesRules source source' rules → before ≡ first → IsRuledRun n rules o ask old new (end before) (end after) how
    → IsGuardAskRun n o ask old new (record { source = source; source_after = source'; sink = end first; sink_after = end after }) how
ask_run n rules o ask old new source source' end first before after how gives same run =
    inr (record { rules = rules; gives = gives; runs = rw same at run })
