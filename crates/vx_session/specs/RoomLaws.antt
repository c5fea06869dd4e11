-- Laws of the connections that live behind a history.
use Rattle.std.specs.Prelude.{◌≡◌, ◌<◌, ◌+◌, true, List}
use Rattle.vx_calls.specs.declared.calls.Role.{Role}
use Rattle.vx_calls.specs.declared.limits.TheConstants.{ROLE_MAX, CONNECTION_LAST}
use Rattle.vx_rules.specs.State.{has_room}
use Rattle.vx_flow.specs.InterleavedState.{InterleavedState}
use Rattle.vx_group.specs.Groups.{Group, events_of, StandsFor}
use Rattle.vx_session.specs.Counting.{ups, downs, IsCounted}

-- Behind each history for which a state stands, as many connections live as came up and didn't go down, and the next one gets the
-- number that is one more than how many came up.
abbrev pub CountsLaw : Type 0
CountsLaw = (log : List Group) (f : InterleavedState) → StandsFor f log → IsCounted f (events_of log)

-- Where fewer than 64 more came up than went down, and fewer than 2^31 - 1 came up in all, there is room for one more of each role.
abbrev pub FewLaw : Type 0
FewLaw = (log : List Group) (f : InterleavedState) (r : Role) → StandsFor f log → ups (events_of log) < downs (events_of log) + ROLE_MAX
    → ups (events_of log) < CONNECTION_LAST → has_room f.state.tables r ≡ true

-- So it is where each that came up went down again.
abbrev pub RoomLaw : Type 0
RoomLaw = (log : List Group) (f : InterleavedState) (r : Role) → StandsFor f log → ups (events_of log) ≡ downs (events_of log)
    → ups (events_of log) < CONNECTION_LAST → has_room f.state.tables r ≡ true
