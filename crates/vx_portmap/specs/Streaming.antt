-- To be believed.
-- What becomes of a stream of records whose messages are answered.
use Rattle.std.specs.Prelude.{◌≡◌, ℕ, List, Option, None, Some, option_map}
use Rattle.vx_record.specs.Fragments.{record_of}
use Rattle.vx_io_traits.specs.declared.links.Link.{Ghosts}
use Rattle.vx_stream.specs.Stopping.{StreamAnswered}
use Rattle.vx_stream.specs.declared.ends.End.{End}
use Rattle.vx_stream.specs.declared.ends.End.TheVariants as stream
use Rattle.vx_portmap.specs.declared.streams.TheConstants.{PIECE}
use Rattle.vx_portmap.specs.declared.limits.TheConstants.{MESSAGE_MAX, STREAM_MAX}
use Rattle.vx_portmap.specs.declared.table.Mapping.{Mapping}
use Rattle.vx_portmap.specs.declared.ends.MapEnd.{MapEnd}
use Rattle.vx_portmap.specs.declared.ends.MapEnd.TheVariants as end
use Rattle.vx_portmap.specs.Answering.{reply}

-- what a message does: the record of its reply, where it has one, goes out, and the table stays
abbrev pub Maps : List Mapping → (message : List ℕ) → (sent : Option (List ℕ)) → List Mapping → Type 0
Maps ports message sent ports' = (sent ≡ option_map record_of (reply ports message)) × (ports' ≡ ports)

-- how a stream ended; none is for one of which as many bytes were received as are on one stream
abbrev pub map_end : Option End → MapEnd
map_end None = end.Spent
map_end (Some stream.Closed) = end.Closed
map_end (Some (stream.CutShort bytes)) = end.CutShort bytes
map_end (Some (stream.Junk length)) = end.Junk
map_end (Some stream.TooLong) = end.TooLong
map_end (Some stream.ReadFault) = end.ReadFault
map_end (Some stream.WriteFault) = end.WriteFault

-- A stream was served, to its end or to where it is no longer: its records were answered, each by what its message does, and at most
-- so many bytes were received.
pub record StreamDid {L : Type 0} (ways : Ghosts L) (ports : List Mapping) (link : L) (how : MapEnd) (link' : L) : Type 0 where
  pub ended : Option End
  pub how_is : how ≡ map_end ended
  pub did : StreamAnswered Maps ways MESSAGE_MAX PIECE (Some STREAM_MAX) (record { server = ports; link = link }) ended (record { server = ports; link = link' })
