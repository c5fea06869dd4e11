-- To be believed.
-- The port mapper as what serves the peers of a door.
use Rattle.std.specs.Prelude.{◌≡◌, Bool, true, false, List}
use Rattle.vx_io_traits.specs.declared.links.Link.{Ghosts}
use Rattle.vx_door.specs.Going.{Went}
use Rattle.vx_portmap.specs.declared.table.Mapping.{Mapping}
use Rattle.vx_portmap.specs.declared.ends.MapEnd.{MapEnd}
use Rattle.vx_portmap.specs.declared.ends.MapEnd.TheVariants as end
use Rattle.vx_portmap.specs.Streaming.{StreamDid}

-- The peer's stream was served, by receives and sends of the door alone, and the table is as it was.
pub record StreamMapped {N : Type 0} (ways : Ghosts N) (ports : List Mapping) (door : N) (how : MapEnd) (ports' : List Mapping) (door' : N) : Type 0 where
  pub table : ports' ≡ ports
  pub did : StreamDid ways ports door how door'
  pub went : Went ways.receives ways.sends door door'

-- whether a stream ended for a cause of the mapper's own: a message without a reply, a record above the limit, or as many bytes as
-- are received on one
abbrev pub is_own : MapEnd → Bool
is_own end.Junk = true
is_own end.TooLong = true
is_own end.Spent = true
is_own _ = false

-- whether all replies were sent
abbrev pub is_whole : MapEnd → Bool
is_whole end.WriteFault = false
is_whole _ = true
