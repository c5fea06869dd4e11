use Rattle.std.proofs.Common.{◌==◌, None, map, ap, ◌∙◌, arith}
use Rattle.std.proofs.lemmas.List.{with_items_is}
use Rattle.vx_rules.specs.Lists.{update_first}
use Rattle.vx_state.specs.Rows.{connection_of}
use Rattle.vx_state.specs.Inside.{tables_of}
use Rattle.vx_rules.proofs.Laws.Keeping.{ended-sound}
use Rattle.vx_state.proofs.Closing.{calls_sound}
use Rattle.vx_state.proofs.Order.{rows_rising, given_call}
use Rattle.vx_state.proofs.tables.Tables.end_call.Goals as goal

pub invariant_of-self : goal.invariant_of-self
invariant_of-self c =
    let rows = c.self.inside.rows in
    let written = with_items_is rows c.end_call.new.rows (c.end_call.auto.rows ∙ c.deref_mut.ensures.len) in
    record {
      sound = calls_sound (tables_of c.self.inside) _ _ _ _
          (ap (map connection_of) written ∙ c.end_call.ensures
          ∙ ap (λ rs. update_first (λ k. k.number == c.args.conn) (λ k. record k { pending = None }) (map connection_of rs)) c.deref_mut.ensures.value)
          c.drop_arrival.ensures.left (ended-sound (tables_of c.self.inside) c.args.conn c.self.invariant.sound);
      room = omega (arith, c.self.invariant.room, c.drop_arrival.ensures.room);
      ordered = given_call (λ r. r.number == c.args.conn) _ _ c.deref_mut.result.now _ _ (ap (map connection_of) written ∙ c.end_call.ensures) c.deref_mut.ensures.value c.self.invariant.ordered;
      numbers = c.self.invariant.numbers;
      plain = c.self.invariant.plain;
    }

pub end_call-requires : goal.end_call-requires
end_call-requires c = record { rising = rows_rising c.self.inside c.deref_mut.result.now c.deref_mut.ensures.value c.self.invariant }
