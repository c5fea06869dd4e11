use Rattle.vx_state.specs.Inside.{tables_of}
use Rattle.vx_rules.proofs.Laws.Keeping.{with_new_channel-sound}
use Rattle.vx_state.proofs.Closing.{srq_state_sound}
use Rattle.vx_state.proofs.tables.Tables.open_channel.Goals as goal

pub invariant_of-self : goal.invariant_of-self
invariant_of-self c = record {
  sound = srq_state_sound (tables_of c.self.inside) _ _ c.in-Ok.ensures.made (with_new_channel-sound (tables_of c.self.inside) c.args.conn c.args.prog c.args.vers c.self.invariant.sound);
  room = c.self.invariant.room;
  ordered = c.self.invariant.ordered;
  numbers = c.self.invariant.numbers;
  plain = c.self.invariant.plain;
}
