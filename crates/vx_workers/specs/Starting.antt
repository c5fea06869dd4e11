-- Why the workers of a server aren't all started.
use Rattle.std.specs.Prelude.{⊤, Result, Ok, Err}
use Rattle.vx_workers.specs.declared.starting.Unstarted.{Unstarted}
use Rattle.vx_workers.specs.declared.starting.Unstarted.TheVariants.{Refused, NoMemory}

-- a fact for a worker that was refused; where all were started, or memory ran out, it holds
abbrev pub OnUnstarted : {X : Type 0} → Result X Unstarted → Type 0 → Type 0
OnUnstarted (Ok x) P = ⊤
OnUnstarted (Err Refused) P = P
OnUnstarted (Err NoMemory) P = ⊤
