-- Bytes that are handed to a link.
use Rattle.std.specs.Prelude.{◌≡◌, ◌<◌, ℕ, Bool, true, false, List, [], ◌++◌, length}
use Rattle.vx_io_traits.specs.Faults.{Rose}
use Rattle.vx_io_traits.specs.Stands.{Goes}
use Rattle.vx_io_traits.specs.declared.links.Link.{Ghosts}
use Rattle.vx_stream.specs.Shown.{LinkShown, LinkGoes, link_shown}
use Rattle.vx_stream.specs.Calling.{OnlyTook}

-- whether all bytes went: or some are left, and the link's count of faults rose
abbrev pub IsSent : LinkShown → List ℕ → LinkShown → Bool → Type 0
IsSent seen unsent seen' true = unsent ≡ []
IsSent seen unsent seen' false = (0 < length unsent) × Rose seen.send_faults seen'.send_faults

-- Bytes were handed to a link, which took a front of them: all, unless it failed.
pub record SendsAll {L : Type 0} (ways : Ghosts L) (link : L) (bytes : List ℕ) (all : Bool) (link' : L) : Type 0 where
  pub sent : List ℕ
  pub unsent : List ℕ
  pub cut : bytes ≡ sent ++ unsent
  pub took : Goes ways.stands link link' sent []
  pub goes : LinkGoes (link_shown ways link) [] (link_shown ways link')
  pub calls : OnlyTook ways link sent link'
  pub is_sent : IsSent (link_shown ways link) unsent (link_shown ways link') all
