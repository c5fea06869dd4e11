-- Two connections write, each to its device: one turn at a time on the bus. And a turn that gives the gateway a new bus address.
use Rattle.std.specs.Prelude.{◌≡◌, ℕ, true, false, List, [], ◌∷◌, Some, None}
use Rattle.vx_calls.specs.declared.calls.Role.TheVariants as role
use Rattle.vx_calls.specs.declared.codes.ErrorCode.TheVariants as code
use Rattle.vx_calls.specs.Call as call
use Rattle.vx_calls.specs.Reply as reply
use Rattle.vx_488.specs.declared.transfers.Addr.{Addr}
use Rattle.vx_488.specs.declared.transfers.Transfer.{Transfer}
use Rattle.vx_488.specs.declared.transfers.Transfer.TheVariants.{Cmd, Put, Own}
use Rattle.vx_rules.specs.Entry as entry
use Rattle.vx_flow.specs.Event.{Event, Up, Down, Arrive, Sample, Begin, Move}
use Rattle.vx_flow.specs.InterleavedState.{Turn}
use Rattle.vx_flow.specs.Linearization.{linearization}
use Rattle.vx_test_low.specs.Lists.{changed, first, behind, refused_at, part, device, interface, linked, puts, answered, write}

-- connection 1 writes AB with END to device 5 in two moves, and connection 2 then C with END to device 7
abbrev pub shared : List Event
shared =
    -- 1, 2
    Up 1 role.Core ∷ Up 2 role.Core
    -- 3 to 6
    ∷ linked 1 (device 53) 1 10 (linked 2 (device 55) 2 11
    -- 7, 8
    (Arrive 1 (write 1 8 (65 ∷ 66 ∷ [])) 20 ∷ Arrive 2 (write 2 8 (67 ∷ [])) 21
    -- 9 to 13
    ∷ Begin 1 22 ∷ Move 1 (puts 5 65 false) ∷ Sample 23 false
    ∷ Move 1 (Put 66 true ∷ []) ∷ answered 1 24 (reply.Write code.Ok 2)
    -- 14 to 16
    ∷ Begin 2 25 ∷ Move 2 (puts 7 67 true) ∷ answered 2 26 (reply.Write code.Ok 1) ∷ []))

-- the turn of connection 1 with these transfers
abbrev pub turn_with : List Transfer → Turn
turn_with moves = record { connection = 1; begun = 22; moves = moves }

-- the transfers of both moves of connection 1: UNL, MTA 0, MLA 5, A, B with END
abbrev pub both : List Transfer
both = Cmd 0x3F ∷ Cmd 0x40 ∷ Cmd 0x25 ∷ Put 65 false ∷ Put 66 true ∷ []

abbrev pub address : ℕ → Addr
address p = record { p = p; s = None }

-- connection 1 gives the gateway the bus address 7, by a device_docmd on the interface
abbrev pub bus_address : List Event
bus_address =
    -- 1 to 3
    Up 1 role.Core ∷ linked 1 interface 1 10
    -- 4 to 6
    (Arrive 1 (call.Docmd 1 0 1000 0 0x2000A true 4 (0 ∷ 0 ∷ 0 ∷ 7 ∷ [])) 20 ∷ Begin 1 21 ∷ Move 1 (Own 7 ∷ [])
    -- 7
    ∷ answered 1 22 (reply.Docmd code.Ok (0 ∷ 0 ∷ 0 ∷ 7 ∷ [])) ∷ [])

pub record OneTurnAtATime : Type 0 where
  -- each event is allowed
  pub allowed : refused_at shared ≡ None
  -- behind its first move the turn has the transfers of that move; it began at 22
  pub one_move : part (λ f. f.turn) (first 10 shared) ≡ Some (Some (turn_with (puts 5 65 false)))
  -- the bus of the beginning is kept, where nobody listened; now device 5 does
  pub bus_at_first : part (λ f. f.before.listeners) (first 10 shared) ≡ Some []
  pub bus_now : part (λ f. f.state.wire.listeners) (first 10 shared) ≡ Some (address 5 ∷ [])
  -- behind its second move it has those of both
  pub two_moves : part (λ f. f.turn) (first 12 shared) ≡ Some (Some (turn_with both))
  -- the answer ends it, and the bus stays as it left it
  pub over : part (λ f. f.turn) (first 13 shared) ≡ Some None
  pub bus_stays : part (λ f. f.before.listeners) (first 13 shared) ≡ Some (address 5 ∷ [])
  -- the last moment is that of the last answer
  pub last_moment : part (λ f. f.state.moment) shared ≡ Some 26
  -- a second turn under the first
  pub second_turn : refused_at (changed 11 (Begin 2 23) shared) ≡ Some 11
  -- the other turn first: connection 1 has none when it moves
  pub other_turn : refused_at (changed 9 (Begin 2 22) shared) ≡ Some 10
  -- a move without a beginning; by the other connection; to another device
  pub never_begun : refused_at (changed 9 (Sample 22 false) shared) ≡ Some 10
  pub other_moves : refused_at (changed 10 (Move 2 (puts 7 67 true)) shared) ≡ Some 10
  pub other_device : refused_at (changed 10 (Move 1 (puts 7 65 false)) shared) ≡ Some 10
  -- the second move puts the byte of the first again; forgets END; or the flags ask for none
  pub put_again : refused_at (changed 12 (Move 1 (Put 65 false ∷ Put 66 true ∷ [])) shared) ≡ Some 12
  pub no_end : refused_at (changed 12 (Move 1 (Put 66 false ∷ [])) shared) ≡ Some 12
  pub end_unasked : refused_at (changed 7 (Arrive 1 (write 1 0 (65 ∷ 66 ∷ [])) 20) shared) ≡ Some 12
  -- an answer before the bytes are put; with fewer bytes than were put; to the other connection, which had no turn
  pub early : refused_at (changed 12 (answered 1 24 (reply.Write code.Ok 2)) shared) ≡ Some 12
  pub too_few : refused_at (changed 13 (answered 1 24 (reply.Write code.Ok 1)) shared) ≡ Some 13
  pub other_answer : refused_at (changed 11 (answered 2 23 (reply.Write code.Ok 1)) shared) ≡ Some 11
  -- where the bytes are put nothing but the answer comes, no sample either
  pub answer_next : refused_at (changed 13 (Sample 24 false) shared) ≡ Some 13
  -- one answer a call: no second one, no turn behind it, and no call beside it
  pub answered_twice : refused_at (changed 14 (answered 1 25 (reply.Write code.Ok 2)) shared) ≡ Some 14
  pub begun_twice : refused_at (changed 14 (Begin 1 25) shared) ≡ Some 14
  pub called_twice : refused_at (changed 11 (Arrive 1 (write 1 8 (65 ∷ 66 ∷ [])) 23) shared) ≡ Some 11
  -- a moment that goes back: of a beginning, behind a beginning, of an answer
  pub begun_before : refused_at (changed 9 (Begin 1 20) shared) ≡ Some 9
  pub sampled_before : refused_at (changed 11 (Sample 21 false) shared) ≡ Some 11
  pub answered_before : refused_at (changed 13 (answered 1 22 (reply.Write code.Ok 2)) shared) ≡ Some 13
  -- the own address is that of the beginning until the turn's list is whole, and another one where that is a new bus address
  pub new_address : refused_at bus_address ≡ None
  pub own_at_first : part (λ f. f.state.wire.own) (first 5 bus_address) ≡ Some 0
  pub own_before : part (λ f. f.before.own) (first 6 bus_address) ≡ Some 0
  pub own_now : part (λ f. f.state.wire.own) (first 6 bus_address) ≡ Some 7
  pub own_unmoved : part (λ f. f.state.wire.own) (first 10 shared) ≡ Some 0

-- the entry of an answer to connection 1 whose turn began then and made these transfers, and that of the other's
abbrev pub entry_1 : ℕ → ℕ → List Transfer → entry.Entry
entry_1 now begun moves = entry.Answer 1 now begun moves false None false (reply.Write code.Ok 2)

abbrev pub entry_2 : entry.Entry
entry_2 = entry.Answer 2 26 25 (puts 7 67 true) false None false (reply.Write code.Ok 1)

pub record EachTurnLinearizes : Type 0 where
  -- from the ninth event on: each answer once, with the beginning and all transfers of its turn
  pub whole : linearization (behind 8 shared) ≡ entry.Sample 23 false ∷ entry_1 24 22 both ∷ entry_2 ∷ []
  -- an answer between the moves has those before it
  pub between : linearization (behind 8 (changed 12 (answered 1 23 (reply.Write code.Ok 2)) (first 12 shared)))
      ≡ entry.Sample 23 false ∷ entry_1 23 22 (puts 5 65 false) ∷ []
  -- without a beginning it has no transfers, and 0 for its beginning
  pub unbegun : linearization (behind 8 (changed 9 (Sample 22 false) shared))
      ≡ entry.Sample 22 false ∷ entry.Sample 23 false ∷ entry_1 24 0 [] ∷ entry_2 ∷ []
  -- the connection's end takes them in the answer's place; the other's end takes none
  pub ended : linearization (behind 8 (changed 13 (Down 1) shared))
      ≡ entry.Sample 23 false ∷ entry.Down 1 both ∷ entry_2 ∷ []
  pub other_ended : linearization (behind 8 (changed 13 (Down 2) shared))
      ≡ entry.Sample 23 false ∷ entry.Down 2 [] ∷ entry_2 ∷ []
