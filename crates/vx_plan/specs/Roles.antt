-- To be believed.
-- The role that the gateway needs for a job.
use Rattle.std.specs.Prelude.{Bool, true, ◌&&◌}
use Rattle.vx_calls.specs.declared.targets.Target.{Target}
use Rattle.vx_calls.specs.declared.targets.Target.TheVariants.{Interface, Device}
use Rattle.vx_488.specs.declared.wire.Wire.{Wire}
use Rattle.vx_488.specs.Wire.{own_talks, own_listens}
use Rattle.vx_plan.specs.declared.tasks.Task.{Task}
use Rattle.vx_plan.specs.declared.tasks.Task.TheVariants.{Write, Read, Status, Ren, Ifc}

-- a write on the interface is for a talker, a read for a listener
abbrev pub may_write : Target → Wire → Bool
may_write Interface w = own_talks w
may_write (Device p s) w = true

abbrev pub may_read : Target → Wire → Bool
may_read Interface w = own_listens w
may_read (Device p s) w = true

-- Whether the gateway has the role that the job needs: in charge, but for interface clear, remote enable and bus status.
abbrev pub has_role : Task → Wire → Bool
has_role (Write t len end) w = w.incharge && may_write t w
has_role (Read t max stop) w = w.incharge && may_read t w
has_role (Status selector) w = true
has_role (Ren on) w = true
has_role Ifc w = true
has_role _ w = w.incharge
