-- To be believed.
-- How a run of a guard ends: for each status, what was read, who was served, what was written, and why.
use Rattle.std.specs.Prelude.{◌≡◌, ◌+◌, ◌⊎◌, ℕ, false, List, [], Ok}
use Rattle.std.specs.Io.KnownBytes.{Appends}
use Rattle.vx_io_traits.specs.Faults.{Rose}
use Rattle.vx_io_traits.specs.declared.Sink.{Ghosts as OfSink}
use Rattle.vx_io_traits.specs.declared.Source.{Ghosts as OfSource}
use Rattle.vx_io_traits.specs.declared.dials.DialOut.TheVariants.{Failed}
use Rattle.vx_text.specs.Ends.{End, source_shown, sink_shown}
use Rattle.vx_text.specs.Reading.{GivesAll, GivesTooMuch, GivesUpTo}
use Rattle.vx_text.specs.Writing.{StopsIn}
use Rattle.vx_text.specs.TextLines.{lines}
use Rattle.vx_door.specs.Opening.{Opening, Opens}
use Rattle.vx_peers.specs.Running.{KeepsOwn}
use Rattle.vx_peers.specs.declared.stopping.DoorEnd.TheVariants as door
use Rattle.vx_core.specs.InterleavedState.{first_interleaved}
use Rattle.vx_core.specs.CoreState.{CoreState}
use Rattle.vx_policy.specs.declared.rules.Rule.{Rule}
use Rattle.vx_policy.specs.declared.policy.TheConstants.{TEXT_MAX}
use Rattle.vx_policy.specs.declared.policy.PolicyErr.{PolicyErr}
use Rattle.vx_policy.specs.declared.policy.PolicyErr.TheVariants as err
use Rattle.vx_policy.specs.Reading.{IsRead, IsPolicyBad, IsTooMany}
use Rattle.vx_policy.specs.Texts.{policy_usage_line, policy_served_line, form_line, many_line, policy_long_line}
use Rattle.vx_peers.specs.declared.words.Ask.{Ask}
use Rattle.vx_peers.specs.declared.serving.DoorStatus.{DoorStatus}
use Rattle.vx_peers.specs.declared.serving.DoorStatus.TheVariants as peers
use Rattle.vx_peers.specs.declared.serving.PortEnd.{PortEnd}
use Rattle.vx_peers.specs.declared.serving.PortEnd.TheVariants as port
use Rattle.vx_peers.specs.declared.stopping.WhyStopped.TheVariants as stop
use Rattle.vx_peers.specs.Outcome.{PeerAsks, AsksNothing, IsOpenServed, StopsPeers, OpensPort}
use Rattle.vx_guard.specs.declared.status.GuardStatus.{GuardStatus}
use Rattle.vx_guard.specs.declared.status.GuardStatus.TheVariants as status
use Rattle.vx_guard.specs.Peers.{GuardHas, GuardShows, GuardsPeer, serving}

-- the number of a status
abbrev pub guard_status_number : GuardStatus → ℕ
guard_status_number status.Served = 0
guard_status_number status.Usage = 1
guard_status_number status.PolicyFault = 2
guard_status_number status.NetFailed = 3
guard_status_number status.NoMemory = 5
guard_status_number status.SinkFailed = 6
guard_status_number status.SourceFailed = 7

-- the rules' source and the sink, before and after
pub record GuardEnds : Type 0 where
  pub source : End
  pub source_after : End
  pub sink : End
  pub sink_after : End

-- what they are, by what their types tell
abbrev pub guard_ends : {S K : Type 0} → OfSource S → OfSink K → (source source' : S) → (sink sink' : K) → GuardEnds
guard_ends by_source by_sink source source' sink sink' = record {
  source = source_shown by_source source;
  source_after = source_shown by_source source';
  sink = sink_shown by_sink sink;
  sink_after = sink_shown by_sink sink';
}

-- a guard that begins: its pass is the first of its gate, has all parts, has seen nothing and made nothing, so its history has no group;
-- and its note is the sink
pub record GuardBegins {C : Type 0} (s : GuardHas C) (sink : End) : Type 0 where
  pub number : s.pass.number ≡ 0
  pub parts : s.pass.parts ≡ 4294967296
  pub seen : s.pass.seen ≡ []
  pub own : s.pass.own ≡ []
  pub note : s.note ≡ sink
  pub sound : s.failed ≡ false

-- the source gave a text that says these rules
pub record GivesRules (source source' : End) (rules : List Rule) : Type 0 where
  pub text : List ℕ
  pub given : GivesAll TEXT_MAX source source' text
  pub read : IsRead text (Ok rules)

-- The source gave no policy, as this line tells: it gave more than a policy may have; or, of a whole text, the first line of another form
-- than a rule is the one of this number; or none is, and there are more rules than a policy may have.
abbrev pub IsGuardRefused : End → End → List ℕ → Type 0
IsGuardRefused source source' line =
    ((line ≡ policy_long_line) × (text : List ℕ) × GivesTooMuch TEXT_MAX source source' text)
    ⊎ ((text : List ℕ) × GivesAll TEXT_MAX source source' text
    × (((number : ℕ) × (line ≡ form_line number) × IsPolicyBad (lines text) number) ⊎ ((line ≡ many_line) × IsTooMany (lines text))))

-- a line was written by a run that ends so, or the sink failed in it
abbrev pub GuardPutsLine : GuardStatus → List ℕ → End → End → GuardStatus → Type 0
GuardPutsLine how line before after result =
    ((result ≡ how) × Appends before.bytes after.bytes line) ⊎ ((result ≡ status.SinkFailed) × StopsIn before after line)

-- how it is told what became of a port: nothing is told where that couldn't be opened, or the note or the door failed
abbrev pub IsEnd : PortEnd → End → End → GuardStatus → Type 0
IsEnd port.Unopened before after result = (result ≡ status.NetFailed) × (after ≡ before)
IsEnd (port.Served stop.Server number) before after result = (result ≡ status.SinkFailed) × (after ≡ before)
IsEnd (port.Served (stop.Door door.Failed) number) before after result = (result ≡ status.NetFailed) × (after ≡ before)
IsEnd (port.Served (stop.Door door.Served) number) before after result = GuardPutsLine status.Served (policy_served_line number) before after result
IsEnd (port.Served (stop.Door door.Ended) number) before after result = GuardPutsLine status.Served (policy_served_line number) before after result

-- how it is told why a text is no policy
abbrev pub IsGuardTold : PolicyErr → End → End → GuardStatus → Type 0
IsGuardTold (err.Form line) before after result = GuardPutsLine status.PolicyFault (form_line line) before after result
IsGuardTold err.TooMany before after result = GuardPutsLine status.PolicyFault many_line before after result
IsGuardTold err.NoMemory before after result = (result ≡ status.NoMemory) × (after ≡ before)

-- how a run ends that has no rules
abbrev pub IsUnruled : GuardEnds → GuardStatus → Type 0
IsUnruled ends status.PolicyFault = (line : List ℕ) × IsGuardRefused ends.source ends.source_after line × Appends ends.sink.bytes ends.sink_after.bytes line
IsUnruled ends status.SinkFailed = (line : List ℕ) × IsGuardRefused ends.source ends.source_after line × StopsIn ends.sink ends.sink_after line
IsUnruled ends status.SourceFailed =
    Rose ends.source.faults ends.source_after.faults × GivesUpTo (TEXT_MAX + 1) ends.source ends.source_after × (ends.sink_after ≡ ends.sink)
IsUnruled ends status.NoMemory = GivesUpTo (TEXT_MAX + 1) ends.source ends.source_after × (ends.sink_after ≡ ends.sink)
IsUnruled ends _ = ⊥

module _ {B C N : Type 0} (n : GuardShows B C N) (rules : List Rule) where
  -- Peers were met and served, each with its note behind the one before, and no note failed. What was written behind the last note is as
  -- with each program over a door that serves so many.
  pub record GuardServes (ask : Ask) (first : GuardHas C) (opened : N) (last : GuardHas C) (new : N) (after : End) (how : DoorStatus) : Type 0 where
    pub served : IsOpenServed (serving n rules) ask first opened last new last.note after how
    pub noted : last.failed ≡ false

  -- The note failed in the session of the last peer. No further one was met, and nothing was written behind.
  pub record StopsNote (ask : Ask) (first : GuardHas C) (opened : N) (last : GuardHas C) (new : N) (after : End) : Type 0 where
    pub number : ℕ
    pub stops : StopsPeers (serving n rules) ask.number stop.Server number first opened last new
    pub same : after ≡ last.note

  -- how the work at a port that was opened ends
  abbrev pub IsWorked : Ask → GuardHas C → N → GuardHas C → N → End → GuardStatus → Type 0
  IsWorked ask first opened last new after status.Served = GuardServes ask first opened last new after peers.Served
  IsWorked ask first opened last new after status.NetFailed =
      Rose (n.door opened).faults (n.door new).faults × GuardServes ask first opened last new after peers.NetFailed
  IsWorked ask first opened last new after status.SinkFailed =
      Rose first.note.faults after.faults × (GuardServes ask first opened last new after peers.SinkFailed ⊎ StopsNote ask first opened last new after)
  IsWorked ask first opened last new after _ = ⊥

  -- The work ended that began with a history without a group.
  pub record Works (ask : Ask) (opened new : N) (before after : End) (how : GuardStatus) : Type 0 where
    pub first : GuardHas C
    pub begins : GuardBegins first before
    pub last : GuardHas C
    pub worked : IsWorked ask first opened last new after how
    -- serving leaves the door's own counts as they are: they tell how many peers it met, and why no more
    pub keeps : KeepsOwn n.door (GuardsPeer n rules)

  -- the port that is asked for was opened, and the work there ended so
  abbrev pub OpensAndWorks : Opening N → Ask → N → N → End → End → GuardStatus → Type 0
  OpensAndWorks o ask old new before after how = OpensPort (serving n rules) o ask old (λ opened. Works ask opened new before after how)

  -- how the work at a port ends: that couldn't be opened, and nothing was served or written; or the work there ended
  abbrev pub IsPortRun : Opening N → Ask → N → N → End → End → GuardStatus → Type 0
  IsPortRun o ask old new before after status.NetFailed =
      (Opens o n.link.stands n.door ask.port old Failed new × (after ≡ before)) ⊎ OpensAndWorks o ask old new before after status.NetFailed
  IsPortRun o ask old new before after how = OpensAndWorks o ask old new before after how

-- the core that a guard starts with: a gateway with nothing in it, which tells 9011 as the port of its abort channel
abbrev pub IsNew : {B : Type 0} → CoreState B → Type 0
IsNew first = first.interleaved ≡ first_interleaved 9011

-- how what is asked ends by these rules: there was no memory, and nothing was opened or written; or the work at the port ended, of a
-- gateway that began as a new one
abbrev pub IsRuledRun : {B C N : Type 0} → (CoreState B → GuardShows B C N) → List Rule → Opening N → Ask → N → N → End → End → GuardStatus → Type 0
IsRuledRun n rules o ask old new before after status.NoMemory = (new ≡ old) × (after ≡ before)
IsRuledRun {B} n rules o ask old new before after how = (first : CoreState B) × IsNew first × IsPortRun (n first) rules o ask old new before after how

-- the source gave rules, and the run by them ended so
pub record RunsRules {B C N : Type 0} (n : CoreState B → GuardShows B C N) (o : Opening N) (ask : Ask) (old new : N) (ends : GuardEnds) (how : GuardStatus) : Type 0 where
  pub rules : List Rule
  pub gives : GivesRules ends.source ends.source_after rules
  pub runs : IsRuledRun n rules o ask old new ends.sink ends.sink_after how

-- how what is asked ends: there are no rules, and nothing was opened; or the run by those that the source gave ended
abbrev pub IsGuardAskRun : {B C N : Type 0} → (CoreState B → GuardShows B C N) → Opening N → Ask → N → N → GuardEnds → GuardStatus → Type 0
IsGuardAskRun n o ask old new ends how = (IsUnruled ends how × (new ≡ old)) ⊎ RunsRules n o ask old new ends how

-- How a run ends: the words ask nothing, which is told, and the source is unread; or what they ask is done.
abbrev pub IsGuardRun : {B C N : Type 0} → (CoreState B → GuardShows B C N) → Opening N → List (List ℕ) → N → N → GuardEnds → GuardStatus → Type 0
IsGuardRun n o words old new ends how =
    (AsksNothing words × (new ≡ old) × (ends.source_after ≡ ends.source)
    × GuardPutsLine status.Usage policy_usage_line ends.sink ends.sink_after how)
    ⊎ ((ask : Ask) × PeerAsks words ask × IsGuardAskRun n o ask old new ends how)

-- it ends with the number of its status
abbrev pub GuardEndsRun : {B C N : Type 0} → (CoreState B → GuardShows B C N) → Opening N → List (List ℕ) → N → N → GuardEnds → ℕ → Type 0
GuardEndsRun n o words old new ends number = (how : GuardStatus) × (number ≡ guard_status_number how) × IsGuardRun n o words old new ends how
