-- To be believed.
-- What becomes of a box of packets whose packets are answered.
use Rattle.std.specs.Prelude.{◌≡◌, ◌≤◌, ◌<◌, ℕ, ⊤, List, [], ◌∷◌, ◌++◌, length, Option, Some, None}
use Rattle.std.specs.List.{flat_map}
use Rattle.vx_io_traits.specs.Faults.{Rose, one_more}
use Rattle.vx_portmap.specs.declared.limits.TheConstants.{MESSAGE_MAX}
use Rattle.vx_portmap.specs.declared.table.Mapping.{Mapping}
use Rattle.vx_portmap.specs.declared.serving.PacketEnd.{PacketEnd}
use Rattle.vx_portmap.specs.declared.serving.PacketEnd.TheVariants as end
use Rattle.vx_portmap.specs.Answering.{reply}
use Rattle.vx_portmap.specs.Moves.{Moved, Took, all_given}
use Rattle.vx_portmap.specs.Boxes.{MapTakes, MapAdds, NoneLeft}
use Rattle.vx_portmap.specs.Replies.{replies}

-- what can be known of a box: the packets that it has left, those that it was given and what went through it, where it tells
-- them; and its counts
pub record BoxShown : Type 0 where
  pub left : Option (List (List ℕ))
  pub given : Option (List (List ℕ))
  pub moved : Option (List Moved)
  pub ended : ℕ
  pub take_faults : ℕ
  pub give_faults : ℕ

abbrev pub box_shown : {P : Type 0} → (P → Option (List (List ℕ))) → (P → Option (List (List ℕ))) → (P → Option (List Moved)) → (P → ℕ) → (P → ℕ) → (P → ℕ) → P → BoxShown
box_shown left given moved ended takes gives p =
    record { left = left p; given = given p; moved = moved p; ended = ended p; take_faults = takes p; give_faults = gives p }

-- these packets were read, and those given, in this order; the counts of faults don't fall
pub record BoxGoes (old : BoxShown) (read given : List (List ℕ)) (moved : List Moved) (new : BoxShown) : Type 0 where
  pub takes : MapTakes MESSAGE_MAX old.left new.left read
  pub adds : MapAdds old.given new.given given
  pub moves : MapAdds old.moved new.moved moved
  pub take_faults : old.take_faults ≤ new.take_faults
  pub give_faults : old.give_faults ≤ new.give_faults

-- how often a box told that no more packets come, behind such an end
abbrev pub ended_by : Option PacketEnd → ℕ → ℕ
ended_by (Some end.Ended) ended = one_more ended
ended_by _ ended = ended

-- what goes through a box whose packets are answered: each that is taken is followed by its reply, where it has one
abbrev pub exchange : List Mapping → List ℕ → List Moved
exchange ports packet = Took packet ∷ all_given (replies ports (packet ∷ []))

abbrev pub exchanges : List Mapping → List (List ℕ) → List Moved
exchanges ports packets = flat_map (exchange ports) packets

-- each reply to these packets was given, in order, before the next packet was taken
abbrev pub GivesAll : List Mapping → List (List ℕ) → List (List ℕ) → List Moved → Type 0
GivesAll ports read given moved = (given ≡ replies ports read) × (moved ≡ exchanges ports read)

-- the last packet that was read has a reply, which couldn't be given; the earlier replies were
pub record StopsGiving (ports : List Mapping) (old : BoxShown) (read given : List (List ℕ)) (moved : List Moved) (new : BoxShown) : Type 0 where
  pub earlier : List (List ℕ)
  pub last : List ℕ
  pub text : List ℕ
  pub read_are : read ≡ earlier ++ last ∷ []
  pub given_are : given ≡ replies ports earlier
  pub moved_are : moved ≡ exchanges ports earlier ++ Took last ∷ []
  pub has_reply : reply ports last ≡ Some text
  pub rose : Rose old.give_faults new.give_faults

-- how the work over a limit of packets stands: each reply was given, in order, but for one that couldn't be
abbrev pub PacketsEnd : List Mapping → ℕ → BoxShown → List (List ℕ) → List (List ℕ) → List Moved → BoxShown → Option PacketEnd → Type 0
-- so many packets were read, and nothing ended the work
PacketsEnd ports limit old read given moved new None = (length read ≡ limit) × GivesAll ports read given moved
-- the same, told as an end
PacketsEnd ports limit old read given moved new (Some end.Served) = (length read ≡ limit) × GivesAll ports read given moved
-- the box told that no more come
PacketsEnd ports limit old read given moved new (Some end.Ended) = (length read < limit) × GivesAll ports read given moved × NoneLeft new.left
-- a take failed
PacketsEnd ports limit old read given moved new (Some end.ReadFault) =
    (length read < limit) × GivesAll ports read given moved × Rose old.take_faults new.take_faults
-- a give failed
PacketsEnd ports limit old read given moved new (Some end.WriteFault) = (length read ≤ limit) × StopsGiving ports old read given moved new

-- The next packets of a box were read and answered, and then the work stands so.
pub record MapAnswers (ports : List Mapping) (limit : ℕ) (old : BoxShown) (stop : Option PacketEnd) (new : BoxShown) : Type 0 where
  pub read : List (List ℕ)
  pub given : List (List ℕ)
  pub moved : List Moved
  pub goes : BoxGoes old read given moved new
  pub ended : new.ended ≡ ended_by stop old.ended
  pub ends : PacketsEnd ports limit old read given moved new stop

-- The work over a limit of packets, which ended so.
abbrev pub PacketsDid : List Mapping → ℕ → BoxShown → PacketEnd → BoxShown → Type 0
PacketsDid ports limit old how new = MapAnswers ports limit old (Some how) new

-- how many packets were served, where the work ended as it was to
abbrev pub IsCount : PacketEnd → ℕ → List (List ℕ) → Type 0
IsCount end.Served number read = number ≡ length read
IsCount end.Ended number read = number ≡ length read
IsCount _ number read = ⊤

-- The same, with the number of packets that were served.
pub record PacketsCounted (ports : List Mapping) (limit : ℕ) (old : BoxShown) (how : PacketEnd) (number : ℕ) (new : BoxShown) : Type 0 where
  pub did : PacketsDid ports limit old how new
  pub count : IsCount how number did.read

-- an end that may come before the limit
abbrev pub IsEarly : Option PacketEnd → Type 0
IsEarly (Some end.Served) = ⊥
IsEarly _ = ⊤

-- a packet's reply, where it has one, was given; or it couldn't be
abbrev pub GivesReply : List Mapping → List ℕ → BoxShown → List (List ℕ) → BoxShown → Option PacketEnd → Type 0
GivesReply ports packet old given new None = given ≡ replies ports (packet ∷ [])
GivesReply ports packet old given new (Some end.WriteFault) = (given ≡ []) × (text : List ℕ) × (reply ports packet ≡ Some text) × Rose old.give_faults new.give_faults
GivesReply ports packet old given new (Some _) = ⊥

-- A packet that was read was answered: its reply was given, or couldn't be, or it has none.
pub record AnswersPacket (ports : List Mapping) (packet : List ℕ) (old : BoxShown) (stop : Option PacketEnd) (new : BoxShown) : Type 0 where
  pub given : List (List ℕ)
  pub takes : MapTakes 0 old.left new.left []
  pub adds : MapAdds old.given new.given given
  pub moves : MapAdds old.moved new.moved (all_given given)
  pub ended : new.ended ≡ old.ended
  pub take_faults : new.take_faults ≡ old.take_faults
  pub give_faults : old.give_faults ≤ new.give_faults
  pub gives_reply : GivesReply ports packet old given new stop
