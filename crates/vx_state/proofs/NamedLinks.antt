-- The link that a call is about, from the table of links.
use Rattle.std.proofs.Common.{◌≡◌, ◌==◌, ◌&&◌, ℕ, Bool, true, false, cond, Some, None, refl, sym, ap, ◌∙◌}
use Rattle.std.specs.List.{find}
use Rattle.std.specs.Option.{option_and_then}
use Rattle.vx_links.specs.declared.links.LinkRow.{LinkRow}
use Rattle.vx_links.specs.Shown.{link_shown}
use Rattle.vx_rules.specs.Table.{Link, Table, IsNumbered, link_at}
use Rattle.vx_rules.proofs.Laws.Numbers.{find-own}
use Rattle.vx_rules.specs.Checks.{OnLink, DeadLink, link_found}

owned_link : (b : Bool) (l : Link) → link_found (cond b (Some l) None) ≡ cond b (OnLink l) DeadLink
owned_link true l = refl
owned_link false l = refl

-- a link of this number is the connection's, or none that it may name
pub found_row : (t : Table) (conn lid : ℕ) (row : LinkRow) → IsNumbered t → Some (link_shown row) ≡ link_at t lid
    → cond (row.conn == conn) (OnLink (link_shown row)) DeadLink ≡ link_found (find (λ l. (l.number == lid) && (l.connection == conn)) t.links)
found_row t conn lid row n found =
    sym (owned_link (row.conn == conn) (link_shown row))
    ∙ ap (λ o. link_found (option_and_then (λ l. cond (l.connection == conn) (Some l) None) o)) found
    ∙ ap link_found (sym (find-own lid conn t.links n.rising))

pub found_none : (t : Table) (conn lid : ℕ) → IsNumbered t → None ≡ link_at t lid
    → DeadLink ≡ link_found (find (λ l. (l.number == lid) && (l.connection == conn)) t.links)
found_none t conn lid n found =
    ap (λ o. link_found (option_and_then (λ l. cond (l.connection == conn) (Some l) None) o)) found
    ∙ ap link_found (sym (find-own lid conn t.links n.rising))
