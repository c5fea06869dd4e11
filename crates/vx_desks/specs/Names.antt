-- The calls, and the messages, of a client that has names for devices.
use Rattle.std.specs.Prelude.{ℕ, List}
use Rattle.vx_calls.specs.declared.calls.Role.{Role}
use Rattle.vx_calls.specs.Call.{Call}
use Rattle.vx_calls.specs.Call as call
use Rattle.vx_exchange.specs.Meaning.{Meaning, Asks, meaning}
use Rattle.vx_policy.specs.Names.{device_of}

-- the call as it is with these names: the device text of a create_link is what it stands for (VXI-11, create_link)
abbrev pub named : List (List ℕ × List ℕ) → Call → Call
named names (call.CreateLink client lock lock_timeout device) = call.CreateLink client lock lock_timeout (device_of names device)
named names asked = asked

-- what is meant, as it is with these names
abbrev pub as_named : List (List ℕ × List ℕ) → Meaning → Meaning
as_named names (Asks xid asked) = Asks xid (named names asked)
as_named names m = m

-- what a message means on a connection of this role, with these names
abbrev pub named_meaning : List (List ℕ × List ℕ) → List ℕ → Role → Meaning
named_meaning names message r = as_named names (meaning message r)
