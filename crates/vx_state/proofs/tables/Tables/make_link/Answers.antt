use Rattle.std.proofs.Common.{◌≡◌, false, sym, ap, subst, ◌∙◌}
use Rattle.std.specs.List.{All}
use Rattle.std.proofs.lemmas.List.Elements.{All-push}
use Rattle.vx_rules.specs.Serving.{IsPlainLink}
use Rattle.vx_rules.specs.Table.{is_full}
use Rattle.vx_rules.specs.Locks.{holds, holder_of, is_blocked}
use Rattle.vx_rules.specs.State.{with_link}
use Rattle.vx_state.specs.Inside.{tables_of}
use Rattle.vx_rules.specs.Sound.{IsSound}
use Rattle.vx_rules.proofs.Laws.Keeping.{with_link-sound}
use Rattle.vx_rules.proofs.Laws.Walks.{made-free, made-none, made-live, create-sound}
use Rattle.vx_state.proofs.Room.{lock_room}
use Rattle.vx_state.proofs.Granting.{made_is}
use Rattle.vx_state.proofs.tables.Tables.make_link.Goals as goal

pub take_if-requires-clause-none : goal.take_if-requires-clause-none
take_if-requires-clause-none c = λ l. ap (holds c.self.inside.locks) c.in-Ok.ensures.number ∙ made-none (tables_of c.self.inside) c.self.invariant.sound

pub take_if-requires-clause-free : goal.take_if-requires-clause-free
take_if-requires-clause-free c = λ l.
    ap (λ n. is_blocked c.self.inside.locks n c.args.target) c.in-Ok.ensures.number
    ∙ made-free (tables_of c.self.inside) c.args.target c.self.invariant.sound (ap (λ t. holder_of t.locks 0 c.args.target) c.self.view_is ∙ c.requires.free l)

pub take_if-requires-clause-room : goal.take_if-requires-clause-room
take_if-requires-clause-room c = λ l.
    let t = tables_of c.self.inside in
    let room : is_full t.links ≡ false = ap (λ s. is_full s.links) c.self.view_is ∙ c.requires.room in
    lock_room (with_link t c.args.conn c.args.target) t.links.next (with_link-sound t c.args.conn c.args.target c.self.invariant.sound room)
    (made-live t c.args.conn c.args.target) (made-none t c.self.invariant.sound)

pub invariant_of-self : goal.invariant_of-self
invariant_of-self c =
    let t = tables_of c.self.inside in
    let room : is_full t.links ≡ false = ap (λ s. is_full s.links) c.self.view_is ∙ c.requires.room in
    record {
      sound = subst IsSound
          (sym (made_is t c.args.conn c.args.lock c.args.target c.insert.new.self c.in-Ok.lid c.take_if.new.locks c.in-Ok.ensures.added c.in-Ok.ensures.number c.take_if.ensures))
          (create-sound t c.args.conn c.args.lock c.args.target c.self.invariant.sound room (λ l. ap (λ s. holder_of s.locks 0 c.args.target) c.self.view_is ∙ c.requires.free l));
      room = c.self.invariant.room;
      ordered = c.self.invariant.ordered;
      numbers = c.self.invariant.numbers;
      plain = subst (λ l. All IsPlainLink l.links) (sym c.in-Ok.ensures.added)
          (All-push IsPlainLink t.links.links (record { number = t.links.next; connection = c.args.conn; target = c.args.target }) c.self.invariant.plain c.requires.plain);
    }
