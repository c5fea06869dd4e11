-- To be believed.
-- The version of a script, by its first line.
use Rattle.std.specs.Prelude.{List, ℕ, codes, if◌then◌else◌}
use Rattle.std.specs.Str.{bytes_eq}
use Rattle.vx_script.specs.declared.Version.{Version}
use Rattle.vx_script.specs.declared.Version.TheVariants.{One, Two}

-- the first line of a script of version 2
abbrev pub script_head : List ℕ
script_head = codes "vxscript 2"

-- the version of a script with this first line: any other line than the head is one of version 1
abbrev pub version_by : List ℕ → Version
version_by line = if bytes_eq line script_head then Two else One
