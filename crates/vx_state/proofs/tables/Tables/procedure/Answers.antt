use Rattle.std.proofs.Common.{◌==◌, map, sym, ap, ◌∙◌}
use Rattle.std.specs.List.{find}
use Rattle.std.specs.Option.{option_map, option_copied, option_and_then}
use Rattle.vx_rules.specs.State.{Pending, Connection, Tables, connection_at}
use Rattle.vx_rules.specs.Calls.{proc_of}
use Rattle.vx_state.specs.Rows.{connection_of}
use Rattle.vx_state.proofs.Order.{rows_rising}
use Rattle.vx_state.proofs.tables.Tables.procedure.Goals as goal

pub returns-in-Some : goal.returns-in-Some
returns-in-Some c =
    c.procedure_of.ensures
    ∙ ap (λ o. option_map (λ (p : Pending). proc_of p.call) (option_and_then (λ (k : Connection). k.pending) o))
    (ap (λ o. option_map connection_of (option_copied o)) (sym c.in-Some.is) ∙ c.find_row.ensures
    ∙ ap (λ rs. find (λ (k : Connection). k.number == c.args.conn) (map connection_of rs)) c.deref.ensures.value
    ∙ ap (λ (t : Tables). connection_at t c.args.conn) c.self.view_is)

pub find_row-requires : goal.find_row-requires
find_row-requires c = record { rising = rows_rising c.self.inside c.deref.result.now c.deref.ensures.value c.self.invariant }
