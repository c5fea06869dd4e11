-- To be believed.
-- Interleaved events, linearized to entries of one thread: each answer, and each end of a connection, with all that its turn did.
use Rattle.std.specs.Prelude.{List, [], ◌∷◌, ◌++◌, Option, None}
use Rattle.vx_rules.specs.Entry as entry
use Rattle.vx_rules.specs.Entry.{Entry}
use Rattle.vx_flow.specs.Event.{Event, Up, Down, Arrive, Answer, Abort, Sample, Take, Begin, Move, Dial}
use Rattle.vx_flow.specs.InterleavedState.{Turn, turn_of, begun_of, moves_of, turn_after}

-- the entry of an event, with what the turn under way has done where it is of the event's connection
abbrev pub linearized : Option Turn → Event → List Entry
linearized turn (Up conn r) = entry.Up conn r ∷ []
linearized turn (Down conn) = entry.Down conn (moves_of (turn_of turn conn)) ∷ []
linearized turn (Arrive conn asked now) = entry.Arrive conn asked now ∷ []
linearized turn (Answer conn now failed dialed level reply) =
    entry.Answer conn now (begun_of (turn_of turn conn)) (moves_of (turn_of turn conn)) failed dialed level reply ∷ []
linearized turn (Abort conn lid reply) = entry.Abort conn lid reply ∷ []
linearized turn (Sample now srq) = entry.Sample now srq ∷ []
linearized turn (Take conn chan given) = entry.Take conn chan given ∷ []
linearized turn (Begin conn now) = []
linearized turn (Move conn moves) = []
linearized turn (Dial conn now) = []

abbrev pub linearization_from : Option Turn → List Event → List Entry
linearization_from turn [] = []
linearization_from turn (e ∷ es) = linearized turn e ++ linearization_from (turn_after turn e) es

abbrev pub linearization : List Event → List Entry
linearization h = linearization_from None h
