-- Turns that end without a result: a connection goes, a device_abort, a time that has passed, a bus that fails, or no
-- role.
use Rattle.std.specs.Prelude.{◌≡◌, ℕ, Bool, true, false, List, [], ◌∷◌, ◌++◌, Some, None}
use Rattle.vx_calls.specs.declared.calls.Role.TheVariants as role
use Rattle.vx_calls.specs.declared.codes.ErrorCode.{ErrorCode}
use Rattle.vx_calls.specs.declared.codes.ErrorCode.TheVariants as code
use Rattle.vx_calls.specs.Call as call
use Rattle.vx_calls.specs.Reply as reply
use Rattle.vx_488.specs.declared.transfers.Transfer.TheVariants.{Put}
use Rattle.vx_rules.specs.Entry as entry
use Rattle.vx_flow.specs.Event.{Event, Up, Down, Arrive, Answer, Abort, Sample, Begin, Move}
use Rattle.vx_flow.specs.Linearization.{linearization}
use Rattle.vx_test_low.specs.Lists.{changed, first, behind, refused_at, part, device, interface, linked, puts, answered, write}
use Rattle.vx_test_low.specs.Turns.{shared, address}

-- connection 1 goes down in its turn, behind A, and the other's turn begins
abbrev pub cut : List Event
cut =
    first 10 shared
    -- 11 to 14
    ++ Down 1 ∷ Begin 2 24 ∷ Move 2 (puts 7 67 true) ∷ answered 2 25 (reply.Write code.Ok 1) ∷ []

-- an abort connection ends the call of connection 1, behind A
abbrev pub aborted : List Event
aborted =
    -- 1 to 4
    Up 1 role.Core ∷ Up 2 role.Abort ∷ linked 1 (device 53) 1 10
    -- 5 to 9
    (Arrive 1 (write 1 8 (65 ∷ 66 ∷ [])) 20 ∷ Begin 1 21 ∷ Move 1 (puts 5 65 false) ∷ Abort 2 1 code.Ok
    ∷ answered 1 22 (reply.Write code.Abort 1) ∷ [])

-- the bus holds behind A, and the write has 100 milliseconds from its beginning at 25; it came at 20
abbrev pub held : List Event
held =
    -- 1 to 3
    Up 1 role.Core ∷ linked 1 (device 53) 1 10
    -- 4 to 7
    (Arrive 1 (call.Write 1 100 0 8 (65 ∷ 66 ∷ [])) 20 ∷ Begin 1 25 ∷ Move 1 (puts 5 65 false)
    ∷ answered 1 125 (reply.Write code.Timeout 1) ∷ [])

-- the answer of a write of connection 1 with this error, behind so many bytes
abbrev pub fails : ℕ → Bool → ErrorCode → ℕ → Event
fails now failed error size = Answer 1 now failed None false (reply.Write error size)

-- a write on a link to this is answered 17 without a turn
abbrev pub unturned : List ℕ → List Event
unturned text =
    -- 1 to 3
    Up 1 role.Core ∷ linked 1 text 1 10
    -- 4, 5
    (Arrive 1 (call.Write 1 100 0 8 (65 ∷ [])) 20 ∷ fails 20 false code.BusFault 0 ∷ [])

-- in the turn of a write on link 1 connection 2 reads from the interface, where nobody made the gateway a listener
abbrev pub read_waits : List Event
read_waits =
    -- 1 to 6
    Up 1 role.Core ∷ Up 2 role.Core ∷ linked 1 (device 53) 1 10 (linked 2 interface 2 11
    -- 7 to 10
    (Arrive 1 (write 1 8 (65 ∷ 66 ∷ [])) 20 ∷ Begin 1 21 ∷ Move 1 (puts 5 65 false)
    ∷ Arrive 2 (call.Read 2 1 1000 0 0 0) 22
    -- 11 to 13
    ∷ Move 1 (Put 66 true ∷ []) ∷ fails 24 false code.Ok 2
    ∷ answered 2 25 (reply.Read code.BusFault 0 []) ∷ []))

pub record ConnectionsGo : Type 0 where
  -- the turn goes with its connection, and the bus stays as it left it
  pub allowed : refused_at cut ≡ None
  pub gone : part (λ f. f.turn) (first 11 cut) ≡ Some None
  pub bus_stays : part (λ f. f.before.listeners) (first 12 cut) ≡ Some (address 5 ∷ [])
  -- its end linearizes what it had done
  pub linearizes : linearization (behind 8 cut)
      ≡ entry.Down 1 (puts 5 65 false) ∷ entry.Answer 2 25 24 (puts 7 67 true) false None false (reply.Write code.Ok 1) ∷ []
  -- the other connection goes: the turn stays, and no other begins
  pub other_gone : refused_at (changed 11 (Down 2) cut) ≡ Some 12
  -- no connection of this number lives
  pub nobody_gone : refused_at (changed 11 (Down 3) cut) ≡ Some 11
  -- behind its end the connection makes no transfer, and has no answer
  pub moves_on : refused_at (changed 12 (Move 1 (Put 66 true ∷ [])) cut) ≡ Some 12
  pub answers_still : refused_at (changed 12 (answered 1 24 (reply.Write code.Ok 2)) cut) ≡ Some 12

pub record CallsAreAborted : Type 0 where
  pub allowed : refused_at aborted ≡ None
  -- the marked call makes no more transfers, and tells the bytes that were put
  pub moves_on : refused_at (changed 9 (Move 1 (Put 66 true ∷ [])) aborted) ≡ Some 9
  pub none_put : refused_at (changed 9 (fails 22 false code.Abort 0) aborted) ≡ Some 9
  -- without the abort, and behind one of a link that isn't there, the call isn't marked
  pub unmarked : refused_at (changed 8 (Sample 22 false) aborted) ≡ Some 9
  pub other_link : refused_at (changed 8 (Abort 2 7 code.InvalidLink) aborted) ≡ Some 9
  -- an abort answers 4 exactly where no such link lives, and comes on an abort connection
  pub dead_link : refused_at (changed 8 (Abort 2 7 code.Ok) aborted) ≡ Some 8
  pub live_link : refused_at (changed 8 (Abort 2 1 code.InvalidLink) aborted) ≡ Some 8
  pub on_core : refused_at (changed 8 (Abort 1 1 code.Ok) aborted) ≡ Some 8

pub record TurnsStop : Type 0 where
  -- the time counts from the beginning, and has passed at 125
  pub allowed : refused_at held ≡ None
  pub millisecond_early : refused_at (changed 7 (fails 124 false code.Timeout 1) held) ≡ Some 7
  -- the bus fails, at any moment; then the error is 17, and 17 comes of nothing else here
  pub failed : refused_at (changed 7 (fails 30 true code.BusFault 1) held) ≡ None
  pub not_failed : refused_at (changed 7 (fails 30 false code.BusFault 1) held) ≡ Some 7
  pub failed_late : refused_at (changed 7 (fails 125 true code.Timeout 1) held) ≡ Some 7
  -- on the interface the gateway has no role to write, so no turn begins; on a device it has one, and needs its turn
  pub no_role : refused_at (unturned interface) ≡ None
  pub begun : refused_at (changed 5 (Begin 1 20) (unturned interface)) ≡ Some 5
  pub with_failure : refused_at (changed 5 (fails 20 true code.BusFault 0) (unturned interface)) ≡ Some 5
  pub in_role : refused_at (unturned (device 53)) ≡ Some 5
  -- in another's turn the call without a role waits too
  pub no_role_behind : refused_at read_waits ≡ None
  pub no_role_beside : refused_at (changed 11 (answered 2 23 (reply.Read code.BusFault 0 [])) read_waits) ≡ Some 11
