-- Calls that wait for a lock, in order of their arrival: who waits behind whom, who counts, whom they keep off, and turns beside
-- them.
use Rattle.std.specs.Prelude.{◌≡◌, ℕ, pos, Bool, true, false, List, [], ◌∷◌, ◌++◌, Option, Some, None, is_some}
use Rattle.vx_calls.specs.declared.calls.Role.TheVariants as role
use Rattle.vx_calls.specs.declared.codes.ErrorCode.TheVariants as code
use Rattle.vx_calls.specs.declared.targets.Target.TheVariants.{Device}
use Rattle.vx_calls.specs.Call.{Call}
use Rattle.vx_calls.specs.Call as call
use Rattle.vx_calls.specs.Reply.{Reply}
use Rattle.vx_calls.specs.Reply as reply
use Rattle.vx_488.specs.declared.transfers.Transfer.TheVariants.{Put}
use Rattle.vx_rules.specs.Entry as entry
use Rattle.vx_rules.specs.AtomicStep.{atomic_step}
use Rattle.vx_rules.specs.Legal.{legal_state}
use Rattle.vx_flow.specs.Event.{Event, Up, Down, Arrive, Abort, Begin, Move}
use Rattle.vx_flow.specs.InterleavedState.{Turn}
use Rattle.vx_flow.specs.Linearization.{linearization}
use Rattle.vx_flow.specs.declared.progress.Why.TheVariants as why
use Rattle.vx_test_low.specs.Lists.{changed, first, refused_at, part, device, interface, create, made, linked, puts, answered, write}
use Rattle.vx_test_low.specs.Locks.{done}
use Rattle.vx_test_low.specs.Polled.{Waits}

-- connections 1, 2 and 3 have links 1, 2 and 3 to device 5, and an abort connection is there
abbrev pub links : List Event → List Event
links more =
    -- 1 to 4
    Up 1 role.Core ∷ Up 2 role.Core ∷ Up 3 role.Core ∷ Up 4 role.Abort
    -- 5 to 10
    ∷ linked 1 (device 53) 1 0 (linked 2 (device 53) 2 0 (linked 3 (device 53) 3 0 more))

-- a device_lock that waits for 1,000 milliseconds, and a device_write of A and B that does
abbrev pub lock : ℕ → Call
lock lid = call.Lock lid 1 1000

abbrev pub late_write : ℕ → Call
late_write lid = call.Write lid 1000 1000 9 (65 ∷ 66 ∷ [])

-- what a lock call is answered that another keeps off
abbrev pub locked : Reply
locked = reply.Error code.Locked

-- link 1 holds its lock; then these calls of connections 2 and 3 come
abbrev pub two_wait : Call → Call → List Event → List Event
two_wait second third more = links (
    -- 11, 12
    Arrive 1 (call.Lock 1 0 0) 0 ∷ answered 1 0 done
    -- 13, 14
    ∷ Arrive 2 second 0 ∷ Arrive 3 third 0 ∷ more)

-- and link 1 frees its lock
abbrev pub freed : Call → Call → List Event → List Event
freed second third more = two_wait second third (
    -- 15, 16
    Arrive 1 (call.Unlock 1) 0 ∷ answered 1 0 done ∷ more)

-- so it is with two lock calls
abbrev pub under_lock : List Event → List Event
under_lock more = two_wait (lock 2) (lock 3) more

abbrev pub free : List Event → List Event
free more = freed (lock 2) (lock 3) more

-- behind that connection 1 calls so, at 17, and is answered so
abbrev pub asks : Call → List Event
asks asked = free (Arrive 1 asked 0 ∷ [])

abbrev pub asks_for : Call → Reply → List Event
asks_for asked told = free (Arrive 1 asked 0 ∷ answered 1 0 told ∷ [])

-- or gets a link 4 to this, and calls so on it, at 19
abbrev pub asks_on : List ℕ → Call → List Event
asks_on text asked = free (linked 1 text 4 0 (Arrive 1 asked 0 ∷ []))

pub record EarlierCallsComeFirst : Type 0 where
  -- while link 1 holds its lock both wait for that
  pub second_locked : Waits 2 0 (why.Locked 1) (under_lock [])
  pub third_locked : Waits 3 0 (why.Locked 1) (under_lock [])
  -- once it is free the call that came later waits behind the other, and isn't answered, at any moment before the time is over
  pub third_behind : Waits 3 0 (why.Behind 2) (free [])
  pub third_still : Waits 3 999 (why.Behind 2) (free [])
  pub not_granted : refused_at (free (answered 3 0 done ∷ [])) ≡ Some 17
  pub not_refused : refused_at (free (answered 3 999 locked ∷ [])) ≡ Some 17
  -- the other has the lock, and then keeps it off as a holder
  pub granted : refused_at (free (answered 2 0 done ∷ [])) ≡ None
  pub second_free : Waits 2 0 (why.Behind 3) (free []) → ⊥
  pub holds : part (λ f. f.state.tables.locks) (free (answered 2 0 done ∷ [])) ≡ Some (record { link = 2; target = Device 5 None } ∷ [])
  pub third_later : Waits 3 0 (why.Locked 2) (free (answered 2 0 done ∷ []))
  -- until its time has passed
  pub third_late : refused_at (free (answered 2 0 done ∷ answered 3 1000 locked ∷ [])) ≡ None
  pub millisecond_early : refused_at (free (answered 2 0 done ∷ answered 3 999 locked ∷ [])) ≡ Some 18
  -- the order is that of arrival, and not that of the connections' numbers
  pub by_arrival : Waits 2 0 (why.Behind 3) (changed 13 (Arrive 3 (lock 3) 0) (changed 14 (Arrive 2 (lock 2) 0) (free [])))
  pub by_number : refused_at (changed 13 (Arrive 3 (lock 3) 0) (changed 14 (Arrive 2 (lock 2) 0) (free (answered 2 0 done ∷ [])))) ≡ Some 17
  pub first_granted : refused_at (changed 13 (Arrive 3 (lock 3) 0) (changed 14 (Arrive 2 (lock 2) 0) (free (answered 3 0 done ∷ [])))) ≡ None

-- which calls of connection 2 keep the later one of connection 3 off: behind them it has its lock at once, or not
abbrev pub keeps_off : Call → List Event
keeps_off second = freed second (lock 3) (answered 3 0 done ∷ [])

-- or another call comes third, and link 3 is to this
abbrev pub third_on : List ℕ → Call → List Event
third_on text second = changed 9 (Arrive 3 (create false text) 0) (keeps_off second)

pub record WaitersCount : Type 0 where
  -- a call whose time has passed waits no more: the next has the lock, though its own time has passed too, and isn't refused
  pub timed_out : refused_at (free (answered 3 1000 done ∷ [])) ≡ None
  pub not_refused : refused_at (free (answered 3 1000 locked ∷ [])) ≡ Some 17
  pub no_longer : Waits 3 1000 (why.Behind 2) (freed (lock 2) (call.Lock 3 1 2000) []) → ⊥
  pub time_left : refused_at (freed (lock 2) (call.Lock 3 1 2000) (answered 3 1000 done ∷ [])) ≡ None
  pub millisecond_early : refused_at (freed (lock 2) (call.Lock 3 1 2000) (answered 3 999 done ∷ [])) ≡ Some 17
  -- and so has the other, where it is polled first
  pub late_granted : refused_at (free (answered 2 1000 done ∷ [])) ≡ None
  -- nor does one that a device_abort has marked; an abort of another link changes nothing
  pub aborted : refused_at (free (Abort 4 2 code.Ok ∷ answered 3 0 done ∷ [])) ≡ None
  pub other_aborted : refused_at (free (Abort 4 1 code.Ok ∷ answered 3 0 done ∷ [])) ≡ Some 18
  -- nor one whose connection is gone
  pub gone : refused_at (free (Down 2 ∷ answered 3 0 done ∷ [])) ≡ None
  pub other_gone : refused_at (free (Down 1 ∷ answered 3 0 done ∷ [])) ≡ Some 18
  -- a bus call waits as a lock call does
  pub bus_call : refused_at (keeps_off (late_write 2)) ≡ Some 17
  -- where it asks for no wait, or for one of no time, it doesn't
  pub no_wait : refused_at (keeps_off (call.Write 2 1000 1000 8 (65 ∷ []))) ≡ None
  pub no_time : refused_at (keeps_off (call.Lock 2 1 0)) ≡ None
  pub lock_no_wait : refused_at (keeps_off (call.Lock 2 0 1000)) ≡ None
  -- what needs neither the bus nor a lock doesn't
  pub unlock : refused_at (keeps_off (call.Unlock 2)) ≡ None
  pub destroy : refused_at (keeps_off (call.DestroyLink 2)) ≡ None
  -- a call on another connection's link, or on one that isn't there, doesn't
  pub other_link : refused_at (keeps_off (lock 1)) ≡ None
  pub dead_link : refused_at (keeps_off (lock 7)) ≡ None
  -- a create_link with a lock waits, and one without doesn't
  pub create_locked : refused_at (keeps_off (call.CreateLink (pos 1) true 1000 (device 53))) ≡ Some 17
  pub create_unlocked : refused_at (keeps_off (call.CreateLink (pos 1) false 1000 (device 53))) ≡ None
  -- on another device neither keeps it off; at a secondary address, and on the interface, both do
  pub create_other : refused_at (keeps_off (call.CreateLink (pos 1) true 1000 (device 55))) ≡ None
  pub create_secondary : refused_at (keeps_off (call.CreateLink (pos 1) true 1000 (device 53 ++ 44 ∷ 49 ∷ []))) ≡ Some 17
  pub create_interface : refused_at (keeps_off (call.CreateLink (pos 1) true 1000 interface)) ≡ Some 17
  pub third_other : refused_at (third_on (device 55) (lock 2)) ≡ None
  pub third_interface : refused_at (third_on interface (lock 2)) ≡ Some 17
  -- the gateway's own address, which is 0, plays no part; a text that names no address of a device, or nothing, keeps nobody off
  pub create_own : refused_at (third_on interface (call.CreateLink (pos 1) true 1000 (device 48))) ≡ Some 17
  pub create_nowhere : refused_at (third_on interface (call.CreateLink (pos 1) true 1000 (device 51 ++ 49 ∷ []))) ≡ None
  pub create_untold : refused_at (third_on interface (call.CreateLink (pos 1) true 1000 [])) ≡ None

pub record LaterCallsAreKeptOff : Type 0 where
  -- a write that doesn't wait is answered 11, and its turn doesn't begin
  pub write_refused : refused_at (asks_for (write 1 8 (65 ∷ [])) (reply.Write code.Locked 0)) ≡ None
  pub write_begins : refused_at (free (Arrive 1 (write 1 8 (65 ∷ [])) 0 ∷ Begin 1 0 ∷ [])) ≡ Some 18
  pub write_answered : refused_at (asks_for (write 1 8 (65 ∷ [])) (reply.Write code.Ok 0)) ≡ Some 18
  -- one that waits stands behind the first of those that came before
  pub write_waits : Waits 1 0 (why.Behind 2) (asks (late_write 1))
  pub write_begins_late : refused_at (free (Arrive 1 (late_write 1) 0 ∷ Begin 1 999 ∷ [])) ≡ Some 18
  -- a lock call too
  pub lock_refused : refused_at (asks_for (call.Lock 1 0 0) locked) ≡ None
  pub lock_granted : refused_at (asks_for (call.Lock 1 0 0) done) ≡ Some 18
  pub lock_waits : Waits 1 0 (why.Behind 2) (asks (lock 1))
  -- a create_link with a lock stands behind them, and one without doesn't
  pub create_waits : Waits 1 0 (why.Behind 2) (asks (call.CreateLink (pos 1) true 1000 (device 53)))
  pub create_refused : refused_at (asks_for (create true (device 53)) (reply.CreateLink code.Locked 0 0 0)) ≡ None
  pub create_granted : refused_at (asks_for (create true (device 53)) (made 4)) ≡ Some 18
  pub create_free : refused_at (asks_for (create false (device 53)) (made 4)) ≡ None
  pub create_other : refused_at (asks_for (create true (device 55)) (made 4)) ≡ None
  -- a call on another device isn't kept off; one at a secondary address is, and one on the interface
  pub other_lock : refused_at (asks_on (device 55) (call.Lock 4 0 0) ++ answered 1 0 done ∷ []) ≡ None
  pub other_begins : refused_at (asks_on (device 55) (write 4 8 (65 ∷ [])) ++ Begin 1 0 ∷ []) ≡ None
  pub secondary : Waits 1 0 (why.Behind 2) (asks_on (device 53 ++ 44 ∷ 49 ∷ []) (lock 4))
  pub whole_bus : Waits 1 0 (why.Behind 2) (asks_on interface (lock 4))
  pub whole_bus_lock : refused_at (asks_on interface (call.Lock 4 0 0) ++ answered 1 0 done ∷ []) ≡ Some 20
  -- what needs neither the bus nor a lock isn't
  pub destroy : refused_at (asks_for (call.DestroyLink 1) done) ≡ None
  -- while link 1 holds its lock its own calls are let pass, though others wait on its device
  pub holder_locks : refused_at (under_lock (Arrive 1 (lock 1) 0 ∷ answered 1 0 done ∷ [])) ≡ None
  pub holder_writes : refused_at (under_lock (Arrive 1 (write 1 8 (65 ∷ [])) 0 ∷ Begin 1 0 ∷ Move 1 (puts 5 65 true)
      ∷ answered 1 0 (reply.Write code.Ok 1) ∷ [])) ≡ None

-- a call of connection 1 has its turn; in the turn those of connections 2 and 3 come
abbrev pub beside_turn : Call → List Event
beside_turn third = links (
    -- 11 to 13
    Arrive 1 (late_write 1) 20 ∷ Begin 1 21 ∷ Move 1 (puts 5 65 false)
    -- 14, 15
    ∷ Arrive 2 (lock 2) 22 ∷ Arrive 3 third 22
    -- 16 to 18
    ∷ Move 1 (Put 66 true ∷ []) ∷ answered 1 24 (reply.Write code.Ok 2) ∷ answered 2 25 done ∷ [])

abbrev pub turn_beside : Turn
turn_beside = record { connection = 1; begun = 21; moves = puts 5 65 false }

-- the write of connection 3 begins its turn as the call of connection 2 waits no more, and this comes in the turn
abbrev pub began_late : List Event → List Event
began_late more = freed (lock 2) (late_write 3) (
    -- 17, 18
    Begin 3 1000 ∷ Move 3 (puts 5 65 false) ∷ more)

-- whether a list linearizes to a history of the gateway of one thread
abbrev pub is_legal : List Event → Bool
is_legal es = is_some (legal_state 9011 (linearization es))

-- whether the gateway of one thread takes this entry behind a list
abbrev pub is_taken : entry.Entry → List Event → Option Bool
is_taken e es = part (λ f. is_some (atomic_step f.state e)) es

-- connection 3 goes down, or its call is answered as a marked one, behind the first byte of its write
abbrev pub leaves : entry.Entry
leaves = entry.Down 3 (puts 5 65 false)

abbrev pub ends_marked : ℕ → entry.Entry
ends_marked now = entry.Answer 3 now 0 (puts 5 65 false) false None false (reply.Write code.Abort 1)

pub record TurnsStandInLine : Type 0 where
  -- no turn begins behind a call that waits; once that waits no more it does
  pub behind : refused_at (freed (lock 2) (late_write 3) (Begin 3 999 ∷ [])) ≡ Some 17
  pub late : refused_at (freed (lock 2) (late_write 3) (Begin 3 1000 ∷ [])) ≡ None
  pub aborted : refused_at (freed (lock 2) (late_write 3) (Abort 4 2 code.Ok ∷ Begin 3 0 ∷ [])) ≡ None
  -- a turn that began before goes on, and is answered; then the lock is granted
  pub allowed : refused_at (beside_turn (late_write 3)) ≡ None
  -- the call whose turn is under way stands in no line, though it may wait: the lock call waits for its turn
  pub for_turn : Waits 2 22 (why.Turn 1) (first 14 (beside_turn (late_write 3)))
  pub not_in_line : Waits 2 22 (why.Behind 1) (first 14 (beside_turn (late_write 3))) → ⊥
  pub not_refused : refused_at (first 13 (beside_turn (late_write 3)) ++ Arrive 2 (call.Lock 2 0 0) 22 ∷ answered 2 22 locked ∷ []) ≡ Some 15
  -- the call that came behind the lock call waits behind that, before any turn, or is refused in the turn
  pub third_writes : Waits 3 22 (why.Behind 2) (first 15 (beside_turn (late_write 3)))
  pub third_locks : Waits 3 22 (why.Behind 2) (first 15 (beside_turn (lock 3)))
  pub third_refused : refused_at (first 15 (beside_turn (write 3 8 [])) ++ answered 3 23 (reply.Write code.Locked 0) ∷ []) ≡ None
  -- and behind the turn it doesn't begin, nor behind the lock
  pub third_begins : refused_at (first 17 (beside_turn (late_write 3)) ++ Begin 3 24 ∷ []) ≡ Some 18
  pub third_locked : Waits 3 25 (why.Locked 2) (beside_turn (late_write 3))
  -- the turn's connection may go in the turn, or its call be aborted
  pub goes : refused_at (first 15 (beside_turn (late_write 3)) ++ Down 1 ∷ answered 2 24 done ∷ []) ≡ None
  pub stopped : refused_at (first 15 (beside_turn (late_write 3)) ++ Abort 4 1 code.Ok ∷ answered 1 24 (reply.Write code.Abort 1) ∷ []) ≡ None
  -- for the transfers of a connection that goes locks count alone, since its end has no moment
  pub leaves_in_line : is_taken leaves (freed (lock 2) (late_write 3) []) ≡ Some true
  pub leaves_locked : is_taken leaves (two_wait (lock 2) (late_write 3) []) ≡ Some false
  -- for those of an aborted call the calls that wait before it count too, at the moment of its answer
  pub marked_in_line : is_taken (ends_marked 999) (freed (lock 2) (late_write 3) (Abort 4 3 code.Ok ∷ [])) ≡ Some false
  pub marked_late : is_taken (ends_marked 1000) (freed (lock 2) (late_write 3) (Abort 4 3 code.Ok ∷ [])) ≡ Some true
  pub marked_free : is_taken (ends_marked 0) (freed (lock 2) (late_write 3) (Abort 4 2 code.Ok ∷ Abort 4 3 code.Ok ∷ [])) ≡ Some true
  -- so it is for a turn that began as the other's time was over, though its beginning, and with it the moment, isn't linearized
  pub late_goes : refused_at (began_late (Down 3 ∷ [])) ≡ None
  pub late_goes_legal : is_legal (began_late (Down 3 ∷ [])) ≡ true
  pub late_stopped : refused_at (began_late (Abort 4 3 code.Ok ∷ answered 3 1000 (reply.Write code.Abort 1) ∷ [])) ≡ None
  pub late_stopped_legal : is_legal (began_late (Abort 4 3 code.Ok ∷ answered 3 1000 (reply.Write code.Abort 1) ∷ [])) ≡ true
  -- and what came in a turn, of a call that may wait itself, linearizes behind that call
  pub beside_legal : is_legal (beside_turn (late_write 3)) ≡ true
