-- To be believed.
-- What a pump of a channel did.
use Rattle.std.specs.Prelude.{◌≡◌, ◌≢◌, ◌<◌, ℕ, max, List, [], ◌∷◌, ◌++◌, map, length}
use Rattle.std.specs.List.{All, flat_map}
use Rattle.vx_io_traits.specs.Faults.{Rose}
use Rattle.vx_io_traits.specs.Stands.{Goes}
use Rattle.vx_io_traits.specs.declared.clocks.Clock.{Ghosts as OfClock}
use Rattle.vx_io_traits.specs.declared.links.Link.{Ghosts}
use Rattle.vx_gate.specs.PassView.{PassView}
use Rattle.vx_exchange.specs.SrqState.{Given, Front, Empty, Gone}
use Rattle.vx_exchange.specs.Meaning.{srq_record}
use Rattle.vx_core.specs.Groups.{Group}
use Rattle.vx_session.specs.Placing.{Placed, Makes, IsHistory}
use Rattle.vx_session.specs.Origin.{Origin}
use Rattle.vx_session.specs.Turning.{Samples, TakesFrom, taken_steps}
use Rattle.vx_stream.specs.Shown.{LinkShown, LinkGoes, link_shown}
use Rattle.vx_stream.specs.Calling.{OnlyTook}
use Rattle.vx_session.specs.declared.pumps.PumpEnd.{PumpEnd}
use Rattle.vx_session.specs.declared.pumps.PumpEnd.TheVariants as end

-- one turn of a pump: the group that it added, and what it was given
pub record Taking : Type 0 where
  pub placed : Placed
  pub given : Given

-- the group is a take of this channel that gave this, or has no event where the connection isn't up; the bus's list was cut in it, or
-- nothing done
abbrev pub IsTaking : ℕ → ℕ → Taking → Type 0
IsTaking conn chan t = TakesFrom t.placed.before conn chan t.given t.placed.group.events × (t.placed.group.steps ≡ taken_steps t.placed.group.events)

-- the record of the interrupt call of a turn that was given one
abbrev pub given_record : Given → List ℕ
given_record (Front srq) = srq_record srq
given_record Empty = []
given_record Gone = []

-- the records of the interrupts that these turns were given, in order
abbrev pub taken_records : List Taking → List ℕ
taken_records turns = flat_map (λ t. given_record t.given) turns

-- the channel lived in each of these turns
abbrev pub HaveLived : List Taking → Type 0
HaveLived turns = All (λ t. t.given ≢ Gone) turns

-- Why it ended: its last turn, and no earlier one, found the channel gone; or a send of the record of the interrupt that its last
-- turn was given failed.
abbrev pub PumpEnds : LinkShown → List Taking → Taking → List ℕ → LinkShown → PumpEnd → Type 0
PumpEnds seen earlier last unsent seen' end.ChannelGone = (last.given ≡ Gone) × (unsent ≡ [])
PumpEnds seen earlier last unsent seen' end.WriteFault =
    (sent : List ℕ) × (given_record last.given ≡ sent ++ unsent) × (0 < length unsent) × Rose seen.send_faults seen'.send_faults

-- A pump made these turns, one after the other, and wrote the records of the interrupts that it took, in order, each once; the
-- link took `written` of them, and was asked for nothing. What its pass has seen then is a gateway's history.
pub record Pumps {B L : Type 0} (g : Origin B) (ways : Ghosts L) (pass : PassView Group) (conn chan : ℕ) (link : L) (how : PumpEnd) (pass' : PassView Group) (link' : L) : Type 0 where
  pub earlier : List Taking
  pub last : Taking
  pub written : List ℕ
  pub unsent : List ℕ
  pub makes : Makes 0 pass (map (λ t. t.placed) (earlier ++ last ∷ [])) pass'
  pub history : IsHistory g pass'.seen
  pub each : All (IsTaking conn chan) (earlier ++ last ∷ [])
  pub lived : HaveLived earlier
  pub bytes : Goes ways.stands link link' written []
  pub goes : LinkGoes (link_shown ways link) [] (link_shown ways link')
  pub calls : OnlyTook ways link written link'
  pub wrote : taken_records (earlier ++ last ∷ []) ≡ written ++ unsent
  pub ends : PumpEnds (link_shown ways link) earlier last unsent (link_shown ways link') how

-- A turn looked at the SRQ line, at the moment that the clock told in it, by one call.
pub record SamplesNow {B C : Type 0} (g : Origin B) (of : OfClock C) (clock : C) (pass : PassView Group) (pass' : PassView Group) (clock' : C) : Type 0 where
  pub told : ℕ
  pub asked : of.tells clock told clock'
  pub rises : of.told clock' ≡ max (of.told clock) told
  pub samples : Samples g told pass pass'
