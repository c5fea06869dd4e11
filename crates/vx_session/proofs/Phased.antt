-- What the events of a turn leave of the connection's phase.
use Rattle.std.proofs.Common.{◌≡◌, ◌++◌, ℕ, false, List, [], ◌∷◌, ap, ◌∙◌}
use Rattle.vx_calls.specs.Call.{Call}
use Rattle.vx_488.specs.declared.transfers.Transfer.{Transfer}
use Rattle.vx_flow.specs.Event.{Arrive}
use Rattle.vx_flow.specs.InterleavedState.{InterleavedState}
use Rattle.vx_flow.specs.Poll.{Ending}
use Rattle.vx_group.specs.Groups.{Group, events_of}
use Rattle.vx_group.specs.Phases.{Phase, Absent, Asked, phase_along, phase_by}
use Rattle.vx_group.proofs.Laws.{events-more, phase-append}
use Rattle.vx_session.specs.Acting.{poll_events}
use Rattle.vx_session.specs.Parts.{phase_behind}
use Rattle.vx_session.proofs.Laws.Turns.{chosen-own, poll-phase}

-- the phase by groups, and one more
pub phase-more : (own own' : List Group) (x : Group) (conn : ℕ) → own' ≡ own ++ x ∷ [] → phase_by conn (events_of own') ≡ phase_along conn (phase_by conn (events_of own)) x.events
phase-more own own' x conn is =
    ap (λ gs. phase_by conn (events_of gs)) is ∙ ap (phase_by conn) (events-more own x) ∙ phase-append conn Absent (events_of own) x.events

-- one on which a call comes, and is polled
pub phase-comes : (mid : InterleavedState) (conn now : ℕ) (phase : Phase) (call : Call) (moves : List Transfer) (ending : Ending)
    → phase_along conn phase (Arrive conn call now ∷ poll_events mid conn now moves ending) ≡ phase_behind call false ending
phase-comes mid conn now phase call moves ending =
    ap (λ s. phase_along conn s (poll_events mid conn now moves ending)) (chosen-own conn (Asked call false) phase) ∙ poll-phase mid conn now moves ending call false
