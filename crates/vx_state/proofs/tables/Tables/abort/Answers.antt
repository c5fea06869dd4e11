use Rattle.std.proofs.Common.{map, ap, ◌∙◌}
use Rattle.std.proofs.lemmas.List.{with_items_is}
use Rattle.vx_rules.specs.AtomicStep.{mark_on}
use Rattle.vx_state.specs.Rows.{connection_of}
use Rattle.vx_state.specs.Inside.{tables_of}
use Rattle.vx_rules.proofs.Laws.Keeping.{marked-sound}
use Rattle.vx_state.proofs.Closing.{rows_sound}
use Rattle.vx_state.proofs.Order.{given_marked}
use Rattle.vx_state.proofs.tables.Tables.abort.Goals as goal

pub invariant_of-self : goal.invariant_of-self
invariant_of-self c =
    let written = with_items_is c.self.inside.rows c.mark_calls.new.rows (c.mark_calls.auto.rows ∙ c.deref_mut.ensures.len) in
    record {
      sound = rows_sound (tables_of c.self.inside) _ _
          (ap (map connection_of) written ∙ c.mark_calls.ensures ∙ ap (λ rs. map (mark_on c.args.lid) (map connection_of rs)) c.deref_mut.ensures.value)
          (marked-sound (tables_of c.self.inside) c.args.lid c.self.invariant.sound);
      room = c.self.invariant.room;
      ordered = given_marked c.args.lid _ c.deref_mut.result.now _ _ (ap (map connection_of) written ∙ c.mark_calls.ensures) c.deref_mut.ensures.value c.self.invariant.ordered;
      numbers = c.self.invariant.numbers;
      plain = c.self.invariant.plain;
    }
