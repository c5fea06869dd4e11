-- Locks beside a turn: granted where they are out of its way, and waiting where they aren't.
use Rattle.std.specs.Prelude.{◌≡◌, true, false, List, [], ◌∷◌, ◌++◌, Some, None}
use Rattle.vx_calls.specs.declared.calls.Role.TheVariants as role
use Rattle.vx_calls.specs.declared.codes.ErrorCode.TheVariants as code
use Rattle.vx_calls.specs.declared.targets.Target.TheVariants.{Device}
use Rattle.vx_calls.specs.Call.{Call}
use Rattle.vx_calls.specs.Call as call
use Rattle.vx_calls.specs.Reply.{Reply}
use Rattle.vx_calls.specs.Reply as reply
use Rattle.vx_488.specs.declared.transfers.Transfer.TheVariants.{Put}
use Rattle.vx_flow.specs.Event.{Event, Up, Arrive, Begin, Move}
use Rattle.vx_test_low.specs.Lists.{changed, refused_at, part, device, interface, create, made, linked, puts, answered, write}

-- connection 1 has link 1 to device 5; connection 2 has link 2 to device 5 and link 3 to device 7
abbrev pub links : List Event → List Event
links more =
    -- 1, 2
    Up 1 role.Core ∷ Up 2 role.Core
    -- 3 to 8
    ∷ linked 1 (device 53) 1 10 (linked 2 (device 53) 2 11 (linked 2 (device 55) 3 12 more))

-- in the turn of a write on link 1 connection 2 calls so, and is answered so
abbrev pub beside : Call → Reply → List Event
beside asked told = links (
    -- 9 to 11
    Arrive 1 (write 1 8 (65 ∷ 66 ∷ [])) 20 ∷ Begin 1 21 ∷ Move 1 (puts 5 65 false)
    -- 12, 13
    ∷ Arrive 2 asked 22 ∷ answered 2 23 told
    -- 14, 15
    ∷ Move 1 (Put 66 true ∷ []) ∷ answered 1 24 (reply.Write code.Ok 2) ∷ [])

-- in the turn of a write on link 1 the lock of link 2 is asked for, and is granted behind the turn
abbrev pub waiting : List Event
waiting = links (
    -- 9 to 12
    Arrive 1 (write 1 8 (65 ∷ 66 ∷ [])) 20 ∷ Begin 1 21 ∷ Move 1 (puts 5 65 false)
    ∷ Arrive 2 (call.Lock 2 0 0) 22
    -- 13 to 15
    ∷ Move 1 (Put 66 true ∷ []) ∷ answered 1 24 (reply.Write code.Ok 2)
    ∷ answered 2 25 (reply.Error code.Ok) ∷ [])

-- the lock of link 2 keeps a write off link 1, which waits for 500 milliseconds from 20 on
abbrev pub kept_off : List Event
kept_off = links (
    -- 9, 10
    Arrive 2 (call.Lock 2 0 0) 15 ∷ answered 2 15 (reply.Error code.Ok)
    -- 11, 12
    ∷ Arrive 1 (call.Write 1 1000 500 9 (65 ∷ [])) 20 ∷ answered 1 520 (reply.Write code.Locked 0) ∷ [])

abbrev pub done : Reply
done = reply.Error code.Ok

pub record LocksBesideATurn : Type 0 where
  -- a lock on another device is granted, by device_lock and by create_link
  pub other_device : refused_at (beside (call.Lock 3 0 0) done) ≡ None
  pub other_create : refused_at (beside (create true (device 55)) (made 4)) ≡ None
  -- on the turn's device none is; nor at a secondary address of it, nor on the interface
  pub same_device : refused_at (beside (call.Lock 2 0 0) done) ≡ Some 13
  pub same_create : refused_at (beside (create true (device 53)) (made 4)) ≡ Some 13
  pub secondary : refused_at (beside (create true (device 53 ++ 44 ∷ 49 ∷ [])) (made 4)) ≡ Some 13
  pub whole_bus : refused_at (beside (create true interface) (made 4)) ≡ Some 13
  -- what takes no lock and no bus is answered: a link without a lock, an unlock, an end of a link
  pub no_lock : refused_at (beside (create false (device 53)) (made 4)) ≡ None
  pub unlock : refused_at (beside (call.Unlock 2) (reply.Error code.NotHeld)) ≡ None
  pub destroy : refused_at (beside (call.DestroyLink 2) done) ≡ None
  -- a call for the bus waits for every turn, on whatever device
  pub other_write : refused_at (beside (write 3 8 []) (reply.Write code.Ok 0)) ≡ Some 13

pub record LocksWait : Type 0 where
  -- the lock is granted behind the turn, and not in it
  pub allowed : refused_at waiting ≡ None
  pub granted : part (λ f. f.state.tables.locks) waiting ≡ Some (record { link = 2; target = Device 5 None } ∷ [])
  pub in_turn : refused_at (changed 13 (answered 2 23 done) waiting) ≡ Some 13

pub record LocksKeepOff : Type 0 where
  -- at the lock's deadline the write is answered 11, and no millisecond earlier
  pub allowed : refused_at kept_off ≡ None
  pub millisecond_early : refused_at (changed 12 (answered 1 519 (reply.Write code.Locked 0)) kept_off) ≡ Some 12
  -- without a wait it is answered at once
  pub no_wait : refused_at (changed 11 (Arrive 1 (call.Write 1 1000 500 8 (65 ∷ [])) 520) kept_off) ≡ None
  -- its turn doesn't begin; with the lock on another device it does, and the write isn't answered 11
  pub begun : refused_at (changed 12 (Begin 1 30) kept_off) ≡ Some 12
  pub begun_freely : refused_at (changed 12 (Begin 1 30) (changed 9 (Arrive 2 (call.Lock 3 0 0) 15) kept_off)) ≡ None
  pub other_lock : refused_at (changed 9 (Arrive 2 (call.Lock 3 0 0) 15) kept_off) ≡ Some 12
