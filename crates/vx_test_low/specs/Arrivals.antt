-- Calls without an answer stand in order of their arrival, whatever their connections' numbers, also those of one moment.
use Rattle.std.specs.Prelude.{◌≡◌, ℕ, Bool, true, false, List, [], ◌∷◌, map, Option, Some, None}
use Rattle.vx_calls.specs.declared.calls.Role.TheVariants as role
use Rattle.vx_calls.specs.declared.codes.ErrorCode.TheVariants as code
use Rattle.vx_calls.specs.Reply as reply
use Rattle.vx_rules.specs.State.{waiting_calls}
use Rattle.vx_flow.specs.Event.{Event, Up, Down, Arrive, Abort, Begin, Move}
use Rattle.vx_test_low.specs.Lists.{changed, first, refused_at, part, device, linked, puts, answered, write}

-- three connections, each with a link to a device, write in the order 3, 1, 2, all at moment 20
abbrev pub in_line : List Event
in_line =
    -- 1 to 4
    Up 1 role.Core ∷ Up 2 role.Core ∷ Up 3 role.Core ∷ Up 4 role.Abort
    -- 5 to 10
    ∷ linked 1 (device 53) 1 10 (linked 2 (device 55) 2 11 (linked 3 (device 57) 3 12
    -- 11 to 13
    (Arrive 3 (write 3 8 (67 ∷ [])) 20 ∷ Arrive 1 (write 1 8 (65 ∷ [])) 20 ∷ Arrive 2 (write 2 8 (66 ∷ [])) 20
    -- 14 to 16: the second in line is answered
    ∷ Begin 1 21 ∷ Move 1 (puts 5 65 true) ∷ answered 1 22 (reply.Write code.Ok 1)
    -- 17: and has another call
    ∷ Arrive 1 (write 1 8 (68 ∷ [])) 23
    -- 18: the call of connection 2 is marked
    ∷ Abort 4 2 code.Ok
    -- 19: the first in line goes
    ∷ Down 3 ∷ [])))

-- the connections whose calls have no answer behind a list, in order, and whether each call is marked
abbrev pub line_of : List Event → Option (List ℕ)
line_of es = part (λ f. map (λ c. c.0) (waiting_calls f.state.tables)) es

abbrev pub marks_of : List Event → Option (List Bool)
marks_of es = part (λ f. map (λ c. c.1.aborted) (waiting_calls f.state.tables)) es

pub record CallsStandInLine : Type 0 where
  pub allowed : refused_at in_line ≡ None
  -- a call that comes is the last
  pub none : line_of (first 10 in_line) ≡ Some []
  pub one : line_of (first 11 in_line) ≡ Some (3 ∷ [])
  pub two : line_of (first 12 in_line) ≡ Some (3 ∷ 1 ∷ [])
  pub three : line_of (first 13 in_line) ≡ Some (3 ∷ 1 ∷ 2 ∷ [])
  -- a turn on the bus leaves it in its place, and its answer takes it out
  pub moves : line_of (first 15 in_line) ≡ Some (3 ∷ 1 ∷ 2 ∷ [])
  pub answers : line_of (first 16 in_line) ≡ Some (3 ∷ 2 ∷ [])
  -- its connection's next call is the last again
  pub again : line_of (first 17 in_line) ≡ Some (3 ∷ 2 ∷ 1 ∷ [])
  -- a device_abort marks a call in its place
  pub marked : line_of (first 18 in_line) ≡ Some (3 ∷ 2 ∷ 1 ∷ [])
  pub marks : marks_of (first 18 in_line) ≡ Some (false ∷ true ∷ false ∷ [])
  -- a connection that goes takes its call along
  pub goes : line_of in_line ≡ Some (2 ∷ 1 ∷ [])
  -- a connection has one call at a time
  pub second_call : refused_at (changed 13 (Arrive 1 (write 1 8 (66 ∷ [])) 20) in_line) ≡ Some 13
  -- and none comes before the greatest moment so far
  pub earlier : refused_at (changed 13 (Arrive 2 (write 2 8 (66 ∷ [])) 19) in_line) ≡ Some 13
