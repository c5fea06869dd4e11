use Rattle.vx_state.specs.Inside.{tables_of}
use Rattle.vx_rules.proofs.Laws.Keeping.{without_lock-sound}
use Rattle.vx_state.proofs.Closing.{locks_sound}
use Rattle.vx_state.proofs.tables.Tables.free_lock.Goals as goal

pub invariant_of-self : goal.invariant_of-self
invariant_of-self c = record {
  sound = locks_sound (tables_of c.self.inside) _ _ c.free.ensures.locks (without_lock-sound (tables_of c.self.inside) c.args.lid c.self.invariant.sound);
  room = c.self.invariant.room;
  ordered = c.self.invariant.ordered;
  numbers = c.self.invariant.numbers;
  plain = c.self.invariant.plain;
}
