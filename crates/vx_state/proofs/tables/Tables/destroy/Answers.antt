use Rattle.std.proofs.Common.{◌≡◌, ◌==◌, not, true, refl, sym, ap, subst, ◌∙◌}
use Rattle.std.specs.List.{All}
use Rattle.std.proofs.lemmas.List.Elements.{All-filter}
use Rattle.vx_rules.specs.Serving.{IsPlainLink}
use Rattle.vx_rules.specs.State.{without_link}
use Rattle.vx_state.specs.Inside.{tables_of}
use Rattle.vx_rules.specs.Sound.{IsSound, owns}
use Rattle.vx_rules.proofs.Laws.Keeping.{without_link-sound}
use Rattle.vx_state.proofs.Closing.{changed_is}
use Rattle.vx_state.proofs.Granting.{removed_is}
use Rattle.vx_state.proofs.tables.Tables.destroy.Goals as goal

pub invariant_of-self : goal.invariant_of-self
invariant_of-self c =
    let t = tables_of c.self.inside in
    let own : owns t.links.links c.args.lid c.args.conn ≡ true = ap (λ s. owns s.links.links c.args.lid c.args.conn) c.self.view_is ∙ c.requires.owned in
    record {
      sound = subst IsSound
          (sym (changed_is t t.connections t.connections c.remove.new.self _ c.free.new.self _ c.forget.new.self _ refl
          (removed_is t c.args.conn c.args.lid c.remove.new.self c.self.invariant.sound.numbered own c.remove.ensures.links) c.free.ensures.locks c.forget.ensures))
          (without_link-sound t c.args.conn c.args.lid c.self.invariant.sound);
      room = c.self.invariant.room;
      ordered = c.self.invariant.ordered;
      numbers = c.self.invariant.numbers;
      plain = subst (λ l. All IsPlainLink l.links) (sym c.remove.ensures.links) (All-filter (λ l. not (l.number == c.args.lid)) IsPlainLink t.links.links c.self.invariant.plain);
    }

pub returns-clause-tables : goal.returns-clause-tables
returns-clause-tables c =
    let t = tables_of c.self.inside in
    let own : owns t.links.links c.args.lid c.args.conn ≡ true = ap (λ s. owns s.links.links c.args.lid c.args.conn) c.self.view_is ∙ c.requires.owned in
    changed_is t t.connections t.connections c.remove.new.self _ c.free.new.self _ c.forget.new.self _ refl
    (removed_is t c.args.conn c.args.lid c.remove.new.self c.self.invariant.sound.numbered own c.remove.ensures.links) c.free.ensures.locks c.forget.ensures
    ∙ ap (λ s. without_link s c.args.conn c.args.lid) c.self.view_is
