use Rattle.std.proofs.Common.{IsSome, ap, sym, subst, ◌∙◌}
use Rattle.vx_rules.specs.State.{pending_at}
use Rattle.vx_state.specs.Inside.{tables_of}
use Rattle.vx_rules.specs.Sound.{has_slot}
use Rattle.vx_state.proofs.Granting.{port_held}
use Rattle.vx_state.proofs.Order.{rows_rising}
use Rattle.vx_state.proofs.tables.Tables.held.Goals as goal

pub returns-clause-port : goal.returns-clause-port
returns-clause-port c =
    ap (λ t. has_slot t.srq_state c.args.conn) (sym c.self.view_is)
    ∙ port_held (tables_of c.self.inside) c.args.conn c.self.invariant.sound (subst (λ t. IsSome (pending_at t c.args.conn)) (sym c.self.view_is) c.requires)

pub find_row-requires : goal.find_row-requires
find_row-requires c = record { rising = rows_rising c.self.inside c.deref.result.now c.deref.ensures.value c.self.invariant }
