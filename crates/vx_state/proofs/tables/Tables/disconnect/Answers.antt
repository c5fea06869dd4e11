use Rattle.std.proofs.Common.{◌==◌, not, sym, subst, arith}
use Rattle.std.specs.List.{All}
use Rattle.std.proofs.lemmas.List.Elements.{All-filter}
use Rattle.vx_rules.specs.Serving.{IsPlainLink}
use Rattle.vx_state.specs.Inside.{tables_of}
use Rattle.vx_state.proofs.Closing.{with_calls, changed_is, gone_sound}
use Rattle.vx_state.proofs.Order.{given_left}
use Rattle.vx_state.proofs.tables.Tables.disconnect.Goals as goal

pub invariant_of-self : goal.invariant_of-self
invariant_of-self c =
    let t = tables_of c.self.inside in
    record {
      sound = gone_sound t c.args.conn _ _ _ _ _ c.self.invariant.sound c.drop_arrival.ensures.left
          (changed_is (with_calls t t.connections c.drop_arrival.new.arrivals.items) _ _ _ _ _ _ _ _ c.drop_row.ensures c.drop_links.ensures.links c.drop_links.ensures.locks c.gone.ensures);
      room = omega (arith, c.self.invariant.room, c.drop_arrival.ensures.room);
      ordered = given_left c.args.conn _ t.connections _ c.drop_row.ensures c.self.invariant.ordered;
      numbers = c.self.invariant.numbers;
      plain = subst (λ l. All IsPlainLink l.links) (sym c.drop_links.ensures.links) (All-filter (λ l. not (l.connection == c.args.conn)) IsPlainLink t.links.links c.self.invariant.plain);
    }
