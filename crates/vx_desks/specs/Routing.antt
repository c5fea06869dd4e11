-- To be believed.
-- Which bus a call goes to, and as which call there.
use Rattle.std.specs.Prelude.{◌≡◌, ◌≤◌, ◌<◌, ◌+◌, ℕ, ℤ, Bool, true, if◌then◌else◌, List, ◌++◌, length, drop, codes, Option, Some, None, unwrap_or}
use Rattle.vx_calls.specs.declared.calls.Generic.{Generic}
use Rattle.vx_calls.specs.declared.codes.ErrorCode.TheVariants as code
use Rattle.vx_calls.specs.Call.{Call, call_shown}
use Rattle.vx_calls.specs.Call as call
use Rattle.vx_calls.specs.Reply.{Reply, reply_shown}
use Rattle.vx_calls.specs.Reply as reply
use Rattle.vx_codec.specs.Answered.{results, IsPuttableReply}
use Rattle.vx_exchange.specs.declared.record.TheConstants.{REPLY_ROOM}
use Rattle.vx_rules.specs.Calls.{IsShort, link_named}
use Rattle.vx_rules.specs.AtomicStep.{may_wait}
use Rattle.vx_desks.specs.declared.routes.counts.Count.{Count}
use Rattle.vx_desks.specs.Counts.{count_number, serves_bus}
use Rattle.vx_desks.specs.Numbers.{local_number}
use Rattle.vx_desks.specs.Naming.{bus_of}
use Rattle.vx_desks.specs.declared.routes.routing.Destination.{Destination}
use Rattle.vx_desks.specs.declared.routes.routing.Destination.TheVariants as seen

-- to no bus: the call is answered by this; or to this bus, as this call there
pub data Way : Type 0 where
  Refused : (answer : Reply) → Way
  Goes : (bus : ℕ) (there : Call) → Way

-- a bus and the number of a link there; where the bus isn't served, link 0 of bus 0, which is none
abbrev pub served_place : Count → ℕ × ℕ → ℕ × ℕ
served_place count place = if serves_bus count place.0 then place else (0, 0)

-- the bus of a link that a client names so, and the link's number there; 0 is link 0 of bus 0
abbrev pub fleet_place_of : Count → ℕ → ℕ × ℕ
fleet_place_of count lid = served_place count (unwrap_or (local_number lid) (0, 0))

abbrev pub generic_on : Generic → ℕ → Generic
generic_on generic lid = record generic { lid = lid }

-- the call on another link, where it is on one
abbrev pub fleet_with_link : Call → ℕ → Call
fleet_with_link call.Null link = call.Null
fleet_with_link (call.CreateLink client lock lock_timeout device) link = call.CreateLink client lock lock_timeout device
fleet_with_link (call.Write lid io_timeout lock_timeout flags bytes) link = call.Write link io_timeout lock_timeout flags bytes
fleet_with_link (call.Read lid request io_timeout lock_timeout flags term) link = call.Read link request io_timeout lock_timeout flags term
fleet_with_link (call.ReadStb generic) link = call.ReadStb (generic_on generic link)
fleet_with_link (call.Trigger generic) link = call.Trigger (generic_on generic link)
fleet_with_link (call.Clear generic) link = call.Clear (generic_on generic link)
fleet_with_link (call.Remote generic) link = call.Remote (generic_on generic link)
fleet_with_link (call.Local generic) link = call.Local (generic_on generic link)
fleet_with_link (call.Lock lid flags lock_timeout) link = call.Lock link flags lock_timeout
fleet_with_link (call.Unlock lid) link = call.Unlock link
fleet_with_link (call.EnableSrq lid enable handle) link = call.EnableSrq link enable handle
fleet_with_link (call.Docmd lid flags io_timeout lock_timeout cmd big size bytes) link = call.Docmd link flags io_timeout lock_timeout cmd big size bytes
fleet_with_link (call.DestroyLink lid) link = call.DestroyLink link
fleet_with_link (call.CreateIntr host port prog vers family) link = call.CreateIntr host port prog vers family
fleet_with_link call.DestroyIntr link = call.DestroyIntr
fleet_with_link (call.DeviceAbort lid) link = call.DeviceAbort link

-- a device text on the bus that it names: the name, of five bytes, is gpib0 in its place
abbrev pub on_bus : List ℕ → Option ℕ → ℕ × List ℕ
on_bus text None = (0, text)
on_bus text (Some bus) = (bus, codes "gpib0" ++ drop 5 text)

-- the bus of a device text, bus 0 where it names none, and the text there
abbrev pub text_there : List ℕ → ℕ × List ℕ
text_there text = on_bus text (bus_of text)

-- a call goes to the bus of its link, or to bus 0 where it names none
abbrev pub by_link : Count → Call → Option ℕ → Way
by_link count asked None = Goes 0 asked
by_link count asked (Some lid) = Goes (fleet_place_of count lid).0 (fleet_with_link asked (fleet_place_of count lid).1)

-- a create_link goes to the bus of its device text, or is refused where that isn't served: error 3, device not accessible
abbrev pub by_text : Count → ℤ → Bool → ℕ → ℕ × List ℕ → Way
by_text count client lock lock_timeout there =
    if serves_bus count there.0 then Goes there.0 (call.CreateLink client lock lock_timeout there.1) else Refused (reply.CreateLink code.NotAccessible 0 0 0)

-- Where a call goes, of so many buses. There are no interrupt channels: one can't be made, and none is there to be destroyed.
abbrev pub route_of : Count → Call → Way
route_of count (call.CreateIntr host port prog vers family) = Refused (reply.Error code.NotSupported)
route_of count call.DestroyIntr = Refused (reply.Error code.NoChannel)
route_of count (call.CreateLink client lock lock_timeout device) = by_text count client lock lock_timeout (text_there device)
route_of count asked = by_link count asked (link_named asked)

abbrev pub route_shown : Destination → Way
route_shown (seen.Refused answer) = Refused (reply_shown answer)
route_shown (seen.Goes bus there) = Goes bus (call_shown there)

-- the answer to a call that goes to no bus has a record; a call that goes to a bus is one that its core keeps
abbrev pub IsRouted : Count → Destination → Type 0
IsRouted count (seen.Refused answer) = IsPuttableReply (reply_shown answer) × (28 + length (results (reply_shown answer)) ≤ REPLY_ROOM)
IsRouted count (seen.Goes bus there) = (bus < count_number count) × (may_wait (call_shown there) ≡ true) × IsShort (call_shown there)
