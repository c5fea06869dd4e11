-- What a desk does whose calls are judged by rules: what the desk below does, but for the calls that a rule denies.
use Rattle.std.specs.Prelude.{◌≡◌, ◌≤◌, ◌<◌, ◌||◌, ℕ, Bool, List, [], length, Option, None, Some, Result}
use Rattle.std.specs.Option.{is_none}
use Rattle.vx_calls.specs.declared.calls.Role.{Role}
use Rattle.vx_calls.specs.declared.limits.TheConstants.{LINK_MAX}
use Rattle.vx_calls.specs.Call.{Call}
use Rattle.vx_text.specs.Ends.{End}
use Rattle.vx_exchange.specs.Meaning.{Asks}
use Rattle.vx_state.specs.declared.tables.Connect.{Connect}
use Rattle.vx_session.specs.declared.desks.Desk.{Ghosts}
use Rattle.vx_policy.specs.declared.made.MadeLink.{MadeLink}
use Rattle.vx_policy.specs.declared.rules.Rule.{Rule}
use Rattle.vx_policy.specs.Targets.{made_after}
use Rattle.vx_desks.specs.Judged.{denial}
use Rattle.vx_desks.specs.Noting.{IsNoted}

-- what a ruled desk has between two calls: the desk below; the rules, the peer, the links that it knows, what its note took, and whether
-- that failed
pub record RuledState (D : Type 0) : Type 0 where
  pub desk : D
  pub rules : List Rule
  pub peer : ℕ
  pub made : List MadeLink
  pub note : End
  pub failed : Bool

-- what it is, by what its note took
abbrev pub ruled_state : {D N : Type 0} → (N → End) → D → List Rule → (peer : ℕ) → List MadeLink → N → (failed : Bool) → RuledState D
ruled_state took desk rules peer made note failed =
    record { desk = desk; rules = rules; peer = peer; made = made; note = took note; failed = failed }

-- A connection comes up at the desk below, or is refused there. No link of it is known yet.
pub record RuledJoins {D : Type 0} (ways : Ghosts D) (s : RuledState D) (r : Role) (answer : Result Unit Connect) (s' : RuledState D) : Type 0 where
  pub joins : ways.joins s.desk r answer s'.desk
  pub same : s' ≡ record s { desk = s'.desk; made = [] }

-- The links that are known behind a call that was answered by this record: those that this tells, where the table has a place for each
-- of them; else those that were known before.
pub record LearnsWithin (made : List MadeLink) (call : Call) (reply : List ℕ) (made' : List MadeLink) : Type 0 where
  pub few : length (made_after made call reply) ≤ LINK_MAX → made' ≡ made_after made call reply
  pub full : LINK_MAX < length (made_after made call reply) → made' ≡ made

-- without a reply nothing is learned
abbrev pub LearnsBy : List MadeLink → Call → Option (List ℕ) → List MadeLink → Type 0
LearnsBy made call None made' = made' ≡ made
LearnsBy made call (Some reply) made' = LearnsWithin made call reply made'

-- a call that no rule denies is answered by the desk below
pub record PassesOn {D : Type 0} (ways : Ghosts D) (s : RuledState D) (xid : ℕ) (call : Call) (reply : Option (List ℕ)) (s' : RuledState D) : Type 0 where
  pub asks : ways.asks s.desk xid call reply s'.desk
  pub learns : LearnsBy s.made call reply s'.made
  pub same : s' ≡ record s { desk = s'.desk; made = s'.made }

-- One that this rule denies doesn't reach the desk below: its line goes to the note, and then its reply says so. Where the note fails
-- there is none.
pub record IsStopped {D : Type 0} (ways : Ghosts D) (rule : ℕ) (s : RuledState D) (xid : ℕ) (call : Call) (reply : Option (List ℕ)) (s' : RuledState D) : Type 0 where
  pub noted : IsNoted (ways.number s.desk) rule xid call s.note reply s'.note
  pub same : s' ≡ record s { note = s'.note; failed = s.failed || is_none reply }

-- either, by the rule that denies it, where one does
abbrev pub DoesBy : {D : Type 0} → Ghosts D → (denied : Option ℕ) → RuledState D → (xid : ℕ) → Call → Option (List ℕ) → RuledState D → Type 0
DoesBy ways None s xid call reply s' = PassesOn ways s xid call reply s'
DoesBy ways (Some rule) s xid call reply s' = IsStopped ways rule s xid call reply s'

-- what a call does
pub record RuledAsks {D : Type 0} (ways : Ghosts D) (s : RuledState D) (xid : ℕ) (call : Call) (reply : Option (List ℕ)) (s' : RuledState D) : Type 0 where
  pub denied : Option ℕ
  pub by_rules : denied ≡ denial s.rules s.peer s.made (Asks xid call)
  pub does : DoesBy ways denied s xid call reply s'

-- a device_abort is judged by no rule: the desk below answers it
pub record RuledAborts {D : Type 0} (ways : Ghosts D) (s : RuledState D) (xid lid : ℕ) (reply : List ℕ) (s' : RuledState D) : Type 0 where
  pub aborts : ways.aborts s.desk xid lid reply s'.desk
  pub same : s' ≡ record s { desk = s'.desk }

-- the connection goes at the desk below
pub record RuledLeaves {D : Type 0} (ways : Ghosts D) (s s' : RuledState D) : Type 0 where
  pub leaves : ways.leaves s.desk s'.desk
  pub same : s' ≡ record s { desk = s'.desk }
