-- What messages mean to a fleet of four buses, and what they don't do at one of fewer.
use Rattle.std.specs.Prelude.{◌≡◌, ◌≤◌, ℕ, ℤ, Bool, List, [], ◌++◌, Option, Some, None, unwrap_or}
use Rattle.std.specs.List.{All}
use Rattle.vx_calls.specs.declared.calls.Role.{Role}
use Rattle.vx_calls.specs.declared.codes.ErrorCode.TheVariants as code
use Rattle.vx_calls.specs.Call.{Call}
use Rattle.vx_calls.specs.Call as call
use Rattle.vx_calls.specs.Reply as reply
use Rattle.vx_488.specs.declared.bus.Bus.{Ghosts}
use Rattle.vx_rpc.specs.Wording.{success_message}
use Rattle.vx_codec.specs.Answered.{results}
use Rattle.vx_rules.specs.Calls.{link_named}
use Rattle.vx_core.specs.CoreState.{CoreState}
use Rattle.vx_exchange.specs.Meaning as one
use Rattle.vx_exchange.specs.Meaning.{Meaning}
use Rattle.vx_desks.specs.declared.routes.counts.Count.{Count}
use Rattle.vx_desks.specs.declared.routes.counts.Count.TheVariants as counts
use Rattle.vx_desks.specs.Four.{Four}
use Rattle.vx_desks.specs.Counts.{count_number}
use Rattle.vx_desks.specs.Numbers.{local_number}
use Rattle.vx_desks.specs.Naming.{bus_of}
use Rattle.vx_desks.specs.Routing.{Way, Refused, Goes, fleet_with_link, text_there}
use Rattle.vx_desks.specs.Meant.{Meant, Junk, Told, Aborts, by_way, by_meaning}
use Rattle.vx_desks.specs.Origins.{origins}
use Rattle.vx_desks.specs.FleetServing.{Item, FleetServes, placed_on}

-- ---- four buses

-- the bus of a link that a client of four buses names so, and the link's number there; 0 is link 0 of bus 0
abbrev pub four_place_of : ℕ → ℕ × ℕ
four_place_of lid = unwrap_or (local_number lid) (0, 0)

-- a call goes to the bus of its link, or to bus 0 where it names none
abbrev pub four_by_link : Call → Option ℕ → Way
four_by_link asked None = Goes 0 asked
four_by_link asked (Some lid) = Goes (four_place_of lid).0 (fleet_with_link asked (four_place_of lid).1)

-- where a call goes, of four buses
abbrev pub four_route_of : Call → Way
four_route_of (call.CreateIntr host port prog vers family) = Refused (reply.Error code.NotSupported)
four_route_of call.DestroyIntr = Refused (reply.Error code.NoChannel)
four_route_of (call.CreateLink client lock lock_timeout device) = Goes (text_there device).0 (call.CreateLink client lock lock_timeout (text_there device).1)
four_route_of asked = four_by_link asked (link_named asked)

-- what a message to one gateway means to four of them
abbrev pub four_meaning : Meaning → Meant
four_meaning one.Junk = Junk
four_meaning (one.Answered message) = Told message
four_meaning (one.Asks xid asked) = by_way xid (four_route_of asked)
four_meaning (one.Aborts xid lid) = Aborts (four_place_of lid).0 xid (four_place_of lid).1

-- each bus that a message names is served
abbrev pub FourLaw : Type 0
FourLaw = (m : Meaning) → by_meaning counts.Four m ≡ four_meaning m

-- ---- fewer buses

-- a create_link whose device text names a bus that isn't served is answered by error 3 (device not accessible), without a bus
abbrev pub UnservedTextLaw : Type 0
UnservedTextLaw = (count : Count) (bus xid : ℕ) (client : ℤ) (lock : Bool) (lock_timeout : ℕ) (device : List ℕ) → count_number count ≤ bus → bus_of device ≡ Some bus
    → by_meaning count (one.Asks xid (call.CreateLink client lock lock_timeout device)) ≡ Told (success_message xid ++ results (reply.CreateLink code.NotAccessible 0 0 0))

-- messages that a fleet served added no group to the history of a bus that it doesn't serve
abbrev pub UnservedLaw : {B : Type 0} → Ghosts B → Type 0
UnservedLaw {B} by_bus = (firsts : Four (CoreState B)) (count : Count) (numbers conns : Four ℕ) (r : Role) (items : List Item) (bus : ℕ) → count_number count ≤ bus
    → All (FleetServes count (origins by_bus firsts) numbers conns r) items → placed_on bus items ≡ []
