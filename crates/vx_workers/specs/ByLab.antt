-- What serving a link of a server does, by what its lab wrote down.
use Rattle.std.specs.Prelude.{ℕ, Bool, List}
use Rattle.vx_calls.specs.declared.calls.Role.{Role}
use Rattle.vx_calls.specs.declared.calls.Role.TheVariants as role
use Rattle.vx_io_traits.specs.declared.links.Link.{Ghosts}
use Rattle.vx_exchange.specs.Meaning.{meaning}
use Rattle.vx_session.specs.Origin.{Origin}
use Rattle.vx_session.specs.Placing.{Placed}
use Rattle.vx_session.specs.Linking.{LinkDid}
use Rattle.vx_session.specs.declared.links.Linked.{Linked}
use Rattle.vx_desks.specs.Wholes.{GuardHolding}
use Rattle.vx_desks.specs.RuledLinking.{LabLinkDid}
use Rattle.vx_workers.specs.declared.access.LabBook.{LabBook}

-- on core connections, by the names and, where there are some, the rules; on abort connections, where no device is named and no call is
-- judged, as any link is served
abbrev pub IsServed : {B L : Type 0} → LabBook → Origin B → Ghosts L → (List Placed → Type 0) → ℕ → Role → GuardHolding L → Linked → GuardHolding L → Type 0
IsServed book g ways clocked told role.Core before how after = (failed : Bool) × LabLinkDid book.names book.policy g ways clocked told before how failed after
IsServed book g ways clocked told role.Abort before how after =
    LinkDid meaning g ways clocked told role.Abort (record { pass = before.pass; link = before.link; dial = before.dial }) how (record { pass = after.pass; link = after.link; dial = after.dial })
