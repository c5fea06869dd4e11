-- Changes of what hangs on the simulated bus.
use Rattle.std.specs.Prelude.{◌≡◌, Bool, true, false, Option, Some, None}
use Rattle.std.specs.List.{list_any}
use Rattle.vx_488.specs.declared.transfers.Addr.{Addr}
use Rattle.vx_sim.specs.declared.attach.Attach.{Attach}
use Rattle.vx_sim.specs.Bench.{stands_at}
use Rattle.vx_sim.specs.Occupants.{Occupant}
use Rattle.vx_sim.specs.SimState.{SimState}
use Rattle.vx_sim.specs.Attaching.{refusal, IsAttached}

-- what came of attaching an instrument: it stands on the bus, or nothing changed
abbrev pub AttachChanges : Addr → Occupant → SimState → Option Attach → SimState → Type 0
AttachChanges a inst old None new = (refusal old a ≡ None) × IsAttached a inst old new
AttachChanges a inst old (Some why) new = (refusal old a ≡ Some why) × (new ≡ old)

-- where there is something to attach
abbrev pub AttachesOne : Addr → Option Occupant → SimState → Option Attach → SimState → Type 0
AttachesOne a None old answer new = (answer ≡ None) × (new ≡ old)
AttachesOne a (Some inst) old answer new = AttachChanges a inst old answer new

-- whether an instrument stands at the address; it changes so, where one does
pub record ChangesAt (a : Addr) (Change : SimState → SimState → Type 0) (old : SimState) (answer : Bool) (new : SimState) : Type 0 where
  pub stands : answer ≡ list_any (stands_at a) old.bench
  pub change : answer ≡ true → Change old new
  pub same : answer ≡ false → new ≡ old
