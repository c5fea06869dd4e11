-- To be believed.
-- The replies to several messages.
use Rattle.std.specs.Prelude.{ℕ, List}
use Rattle.std.specs.List.{filter_map}
use Rattle.vx_portmap.specs.declared.table.Mapping.{Mapping}
use Rattle.vx_portmap.specs.Answering.{reply}

-- the replies to those that have one, in order
abbrev pub replies : List Mapping → List (List ℕ) → List (List ℕ)
replies ports messages = filter_map (reply ports) messages
