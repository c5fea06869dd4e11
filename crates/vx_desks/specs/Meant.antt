-- To be believed.
-- What a message on a connection to a fleet of so many buses means.
use Rattle.std.specs.Prelude.{ℕ, List, ◌++◌}
use Rattle.vx_calls.specs.declared.calls.Role.{Role}
use Rattle.vx_calls.specs.Call.{Call}
use Rattle.vx_rpc.specs.Wording.{success_message}
use Rattle.vx_codec.specs.Answered.{results}
use Rattle.vx_exchange.specs.Meaning as one
use Rattle.vx_exchange.specs.Meaning.{Meaning, meaning}
use Rattle.vx_desks.specs.declared.routes.counts.Count.{Count}
use Rattle.vx_desks.specs.Routing.{Way, Refused, Goes, route_of, fleet_place_of}

-- No call; a message that says what is answered without a bus; a call to a bus, as it is there, with its xid; or a device_abort of a link
-- of a bus, with its xid
pub data Meant : Type 0 where
  Junk : Meant
  Told : (message : List ℕ) → Meant
  Asks : (bus xid : ℕ) (there : Call) → Meant
  Aborts : (bus xid lid : ℕ) → Meant

-- a call goes to its bus, or is answered without one
abbrev pub by_way : ℕ → Way → Meant
by_way xid (Refused answer) = Told (success_message xid ++ results answer)
by_way xid (Goes bus there) = Asks bus xid there

-- what a message to one gateway means to so many of them
abbrev pub by_meaning : Count → Meaning → Meant
by_meaning count one.Junk = Junk
by_meaning count (one.Answered message) = Told message
by_meaning count (one.Asks xid asked) = by_way xid (route_of count asked)
by_meaning count (one.Aborts xid lid) = Aborts (fleet_place_of count lid).0 xid (fleet_place_of count lid).1

abbrev pub meant : Count → List ℕ → Role → Meant
meant count message role = by_meaning count (meaning message role)
