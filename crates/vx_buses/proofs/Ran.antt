-- How a run comes to its end: the work at the port is what was asked.
use Rattle.vx_text.specs.Ends.{End}
use Rattle.std.proofs.Common.{◌≡◌, ℕ, sym, subst}
use Rattle.vx_488.specs.declared.bus.Bus.{Ghosts}
use Rattle.vx_core.specs.CoreState.{CoreState}
use Rattle.vx_desks.specs.Four.{Four}
use Rattle.vx_peers.specs.declared.words.Ask.{Ask}
use Rattle.vx_peers.specs.declared.serving.DoorStatus.{DoorStatus}
use Rattle.vx_peers.specs.declared.serving.DoorStatus.TheVariants as status
use Rattle.vx_buses.specs.Outcome.{FleetShows, Hosts, IsFleetAskRun}

-- what is told of the cores that the gates were started over may be told in other words
told-so : {B C N : Type 0} (g : Ghosts B) (clock : C → ℕ → C → Type 0) (start start' : Four (CoreState B) → Type 0) (n : FleetShows N) (ask : Ask) (old new : N) (before after : End) (how : DoorStatus)
    → ((firsts : Four (CoreState B)) → start firsts → start' firsts) → Hosts g clock n start ask old new before after how → Hosts g clock n start' ask old new before after how
told-so g clock start start' n ask old new before after how tells hosts = record {
  server = hosts.server;
  begins = record { gates = hosts.begins.gates; first = hosts.begins.first; cores = tells hosts.server.firsts hosts.begins.cores };
  server' = hosts.server';
  served = hosts.served;
  keeps = hosts.keeps;
}

-- the work at a port doesn't end for want of memory
pub hosts-run : {B C N : Type 0} (g : Ghosts B) (clock : C → ℕ → C → Type 0) (start : Four (CoreState B) → Type 0) (firsts : Four (CoreState B)) (n : FleetShows N) (ask : Ask) (old new : N) (before after : End) (how : DoorStatus) → start firsts
    → Hosts g clock n (λ f. f ≡ firsts) ask old new before after how → IsFleetAskRun g clock n start ask old new before after how
hosts-run g clock start firsts n ask old new before after status.NoMemory holds hosts = absurd hosts.served.came
hosts-run g clock start firsts n ask old new before after status.Served holds hosts = told-so g clock (λ f. f ≡ firsts) start n ask old new before after status.Served (λ f same. subst start (sym same) holds) hosts
hosts-run g clock start firsts n ask old new before after status.Usage holds hosts = told-so g clock (λ f. f ≡ firsts) start n ask old new before after status.Usage (λ f same. subst start (sym same) holds) hosts
hosts-run g clock start firsts n ask old new before after status.NetFailed holds hosts = told-so g clock (λ f. f ≡ firsts) start n ask old new before after status.NetFailed (λ f same. subst start (sym same) holds) hosts
hosts-run g clock start firsts n ask old new before after status.SinkFailed holds hosts = told-so g clock (λ f. f ≡ firsts) start n ask old new before after status.SinkFailed (λ f same. subst start (sym same) holds) hosts

-- and so of a whole run
pub run-so : {B C N : Type 0} (g : Ghosts B) (clock : C → ℕ → C → Type 0) (start start' : Four (CoreState B) → Type 0) (n : FleetShows N) (ask : Ask) (old new : N) (before after : End) (how : DoorStatus)
    → ((firsts : Four (CoreState B)) → start firsts → start' firsts) → IsFleetAskRun g clock n start ask old new before after how → IsFleetAskRun g clock n start' ask old new before after how
run-so g clock start start' n ask old new before after status.NoMemory tells ran = ran
run-so g clock start start' n ask old new before after status.Served tells ran = told-so g clock start start' n ask old new before after status.Served tells ran
run-so g clock start start' n ask old new before after status.Usage tells ran = told-so g clock start start' n ask old new before after status.Usage tells ran
run-so g clock start start' n ask old new before after status.NetFailed tells ran = told-so g clock start start' n ask old new before after status.NetFailed tells ran
run-so g clock start start' n ask old new before after status.SinkFailed tells ran = told-so g clock start start' n ask old new before after status.SinkFailed tells ran
