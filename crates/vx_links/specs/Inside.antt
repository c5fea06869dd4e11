-- What the fields of a `Links` hold, as a table, and what is true of them.
use Rattle.std.specs.Prelude.{◌≤◌, map, vec_capacity}
use Rattle.vx_calls.specs.declared.limits.TheConstants.{LINK_MAX}
use Rattle.vx_links.specs.declared.links.Links.TheInside.{Inside}
use Rattle.vx_rules.specs.Table.{Table, IsNumbered}
use Rattle.vx_links.specs.Shown.{link_shown}

abbrev pub table_of : Inside → Table
table_of t = record { links = map link_shown t.rows.items; next = t.next }

-- the room of all rows stands, and the numbers are in order
pub record IsLinkKept (t : Inside) : Type 0 where
  pub room : LINK_MAX ≤ vec_capacity t.rows
  pub numbered : IsNumbered (table_of t)
