use Rattle.std.proofs.Common.{◌≡◌, ◌&&◌, ◌==◌, true, ap, ◌∙◌}
use Rattle.std.proofs.lemmas.Bool.{and_parts}
use Rattle.vx_state.specs.Inside.{tables_of}
use Rattle.vx_rules.specs.Sound.{owns}
use Rattle.vx_lemmas.proofs.Laws.Lists.{any_weaker}
use Rattle.vx_rules.proofs.Laws.Keeping.{with_enable-sound}
use Rattle.vx_state.proofs.Closing.{srq_state_sound}
use Rattle.vx_state.proofs.Room.{enable_room}
use Rattle.vx_state.proofs.tables.Tables.enable.Goals as goal

pub enable-requires-clause-room : goal.enable-requires-clause-room
enable-requires-clause-room c =
    let t = tables_of c.self.inside in
    let own : owns t.links.links c.args.lid c.args.conn ≡ true = ap (λ s. owns s.links.links c.args.lid c.args.conn) c.self.view_is ∙ c.requires.owned in
    enable_room t c.args.lid c.self.invariant.sound
    (any_weaker (λ l. (l.number == c.args.lid) && (l.connection == c.args.conn)) (λ l. l.number == c.args.lid) t.links.links (λ l both. (and_parts _ _ both).0) own)

pub invariant_of-self : goal.invariant_of-self
invariant_of-self c =
    let t = tables_of c.self.inside in
    let own : owns t.links.links c.args.lid c.args.conn ≡ true = ap (λ s. owns s.links.links c.args.lid c.args.conn) c.self.view_is ∙ c.requires.owned in
    record {
      sound = srq_state_sound t _ _ c.enable.ensures (with_enable-sound t _ c.self.invariant.sound own);
      room = c.self.invariant.room;
      ordered = c.self.invariant.ordered;
      numbers = c.self.invariant.numbers;
      plain = c.self.invariant.plain;
    }
