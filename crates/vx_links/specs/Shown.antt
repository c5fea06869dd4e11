-- What a row shows, as a link.
use Rattle.vx_links.specs.declared.links.LinkRow.{LinkRow}
use Rattle.vx_rules.specs.Table.{Link}

-- the link that a row shows
abbrev pub link_shown : LinkRow → Link
link_shown row = record { number = row.lid; connection = row.conn; target = row.target }
