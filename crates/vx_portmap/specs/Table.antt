-- To be believed.
-- The table of mappings: which have one place, and the port that is found there (RFC 1833, section 3).
use Rattle.std.specs.Prelude.{ℕ, Bool, ◌&&◌, ◌==◌, nat_le, List, length, find, Option, None, Some, if◌then◌else◌}
use Rattle.std.specs.List.{list_any}
use Rattle.vx_portmap.specs.declared.limits.TheConstants.{PORTS_MAX}
use Rattle.vx_portmap.specs.declared.table.Mapping.{Mapping}
use Rattle.vx_portmap.specs.declared.table.AddErr.{AddErr}
use Rattle.vx_portmap.specs.declared.table.AddErr.TheVariants.{Known, Full}

-- whether two mappings have the same program, version and protocol; their ports aren't looked at
abbrev pub is_same : Mapping → Mapping → Bool
is_same m n = (m.prog == n.prog) && (m.vers == n.vers) && (m.prot == n.prot)

-- why a mapping isn't added to these; none where it is
abbrev pub add_error : List Mapping → Mapping → Option AddErr
add_error ports m =
    if list_any (λ n. is_same n m) ports then Some Known
    else if nat_le PORTS_MAX (length ports) then Some Full
    else None

-- the port of a mapping that was found, or 0
abbrev pub port_or_zero : Option Mapping → ℕ
port_or_zero None = 0
port_or_zero (Some m) = m.port

-- the port at which the table has the program, version and protocol of a mapping, or 0
abbrev pub port_at : List Mapping → Mapping → ℕ
port_at ports asked = port_or_zero (find (λ n. is_same n asked) ports)
