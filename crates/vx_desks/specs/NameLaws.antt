-- What a desk with names is where it has none.
use Rattle.std.specs.Prelude.{◌≡◌, ℕ, List, []}
use Rattle.vx_io_traits.specs.declared.links.Link.{Ghosts as OfLink}
use Rattle.vx_calls.specs.declared.calls.Role.{Role}
use Rattle.vx_calls.specs.Call.{Call}
use Rattle.vx_stream.specs.declared.ends.End.{End}
use Rattle.vx_session.specs.declared.desks.Desk.{Ghosts}
use Rattle.vx_session.specs.declared.links.Linked.{Linked}
use Rattle.vx_session.specs.Desks.{DeskSession, DeskLink}
use Rattle.vx_desks.specs.declared.named.Named.{Named}
use Rattle.vx_exchange.specs.Meaning.{meaning}
use Rattle.vx_desks.specs.Names.{named, named_meaning}
use Rattle.vx_desks.specs.NamedDesk.{named_ways}

-- each call is what it is
abbrev pub NoNamesLaw : Type 0
NoNamesLaw = (asked : Call) → named [] asked ≡ asked

-- and each message means what it means
abbrev pub NoNamesMeaningLaw : Type 0
NoNamesMeaningLaw = (message : List ℕ) (r : Role) → named_meaning [] message r ≡ meaning message r

-- and a session is one at the desk below
abbrev pub NoNamesSessionLaw : {D L : Type 0} → Ghosts D → OfLink L → Type 0
NoNamesSessionLaw {D} {L} ways of_link =
    (r : Role) (s s' : Named D) (link link' : L) (how : End) → s.names.now ≡ []
    → DeskSession (named_ways ways) of_link r (record { server = s; link = link }) how (record { server = s'; link = link' })
    → DeskSession ways of_link r (record { server = s.desk; link = link }) how (record { server = s'.desk; link = link' })

-- and so is a link
abbrev pub NoNamesLinkLaw : {D L : Type 0} → Ghosts D → OfLink L → Type 0
NoNamesLinkLaw {D} {L} ways of_link =
    (r : Role) (s s' : Named D) (link link' : L) (how : Linked) → s.names.now ≡ []
    → DeskLink (named_ways ways) of_link r (record { server = s; link = link }) how (record { server = s'; link = link' })
    → DeskLink ways of_link r (record { server = s.desk; link = link }) how (record { server = s'.desk; link = link' })
