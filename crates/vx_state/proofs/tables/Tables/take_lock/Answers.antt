use Rattle.std.proofs.Common.{◌≡◌, cond, Some, None, is_some, sym, ap, subst, ◌∙◌}
use Rattle.std.proofs.lemmas.Bool.{false≢true}
use Rattle.vx_links.specs.Shown.{link_shown}
use Rattle.vx_rules.specs.Table.{is_live}
use Rattle.vx_rules.specs.Locks.{holds, holder_of, with_lock}
use Rattle.vx_rules.specs.State.{link_of}
use Rattle.vx_rules.specs.Effects.{locked}
use Rattle.vx_state.specs.Inside.{tables_of}
use Rattle.vx_rules.proofs.Laws.Walks.{locked-sound}
use Rattle.vx_state.proofs.Closing.{with_locks}
use Rattle.vx_state.proofs.Room.{lock_room}
use Rattle.vx_state.proofs.Granting.{own_is, same_link, locked_is, not_blocked}
use Rattle.vx_rules.specs.Sound.{IsSound}
use Rattle.vx_state.proofs.tables.Tables.take_lock.Goals as goal

pub unreachable-requires : goal.unreachable-requires
unreachable-requires c =
    let on = c.requires.on in
    let found : link_of (tables_of c.self.inside) c.args.conn c.args.lid ≡ Some on.0 = ap (λ t. link_of t c.args.conn c.args.lid) c.self.view_is ∙ on.1 in
    false≢true (sym (ap is_some c.in_default.is) ∙ c.find.ensures.live ∙ (own_is (tables_of c.self.inside) c.args.conn c.args.lid on.0 found).live)

pub lock_unless_held-requires-clause-free : goal.lock_unless_held-requires-clause-free
lock_unless_held-requires-clause-free c =
    let t = tables_of c.self.inside in
    let on = c.requires.on in
    let found : link_of t c.args.conn c.args.lid ≡ Some on.0 = ap (λ s. link_of s c.args.conn c.args.lid) c.self.view_is ∙ on.1 in
    let same = same_link t c.args.conn c.args.lid c.in-Some.link on.0 c.self.invariant.sound.numbered c.in-Some.ensures.link found in
    not_blocked t c.args.lid c.in-Some.link.target
    (ap (λ n. holder_of t.locks n c.in-Some.link.target) (sym c.in-Some.ensures.number) ∙ ap (λ l. holder_of t.locks l.number l.target) same
    ∙ ap (λ s. holder_of s.locks on.0.number on.0.target) c.self.view_is ∙ on.2)

pub lock_unless_held-requires-clause-room : goal.lock_unless_held-requires-clause-room
lock_unless_held-requires-clause-room c = λ none. lock_room (tables_of c.self.inside) c.args.lid c.self.invariant.sound (sym c.in-Some.ensures.live) none

pub invariant_of-self : goal.invariant_of-self
invariant_of-self c =
    let t = tables_of c.self.inside in
    let row = c.in-Some.link in
    let on = c.requires.on in
    let found : link_of t c.args.conn c.args.lid ≡ Some on.0 = ap (λ s. link_of s c.args.conn c.args.lid) c.self.view_is ∙ on.1 in
    let same = same_link t c.args.conn c.args.lid row on.0 c.self.invariant.sound.numbered c.in-Some.ensures.link found in
    let free : holder_of t.locks row.lid row.target ≡ None =
    ap (λ l. holder_of t.locks l.number l.target) same ∙ ap (λ s. holder_of s.locks on.0.number on.0.target) c.self.view_is ∙ on.2 in
    let kept = ap (with_locks t) (c.lock_unless_held.ensures ∙ ap (λ n. cond (holds t.locks n) t.locks (with_lock t.locks n row.target)) (sym c.in-Some.ensures.number))
    ∙ locked_is t (holds t.locks row.lid) (with_lock t.locks row.lid row.target) in
    record {
      sound = subst IsSound (sym kept) (locked-sound t (link_shown row) c.self.invariant.sound (ap (λ n. is_live t.links n) c.in-Some.ensures.number ∙ sym c.in-Some.ensures.live) free);
      room = c.self.invariant.room;
      ordered = c.self.invariant.ordered;
      numbers = c.self.invariant.numbers;
      plain = c.self.invariant.plain;
    }

pub returns-clause-tables : goal.returns-clause-tables
returns-clause-tables c = λ l here.
    let t = tables_of c.self.inside in
    let row = c.in-Some.link in
    let found : link_of t c.args.conn c.args.lid ≡ Some l = ap (λ s. link_of s c.args.conn c.args.lid) c.self.view_is ∙ here in
    let same = same_link t c.args.conn c.args.lid row l c.self.invariant.sound.numbered c.in-Some.ensures.link found in
    ap (with_locks t) (c.lock_unless_held.ensures ∙ ap (λ n. cond (holds t.locks n) t.locks (with_lock t.locks n row.target)) (sym c.in-Some.ensures.number))
    ∙ locked_is t (holds t.locks row.lid) (with_lock t.locks row.lid row.target)
    ∙ ap (locked t) same ∙ ap (λ s. locked s l) c.self.view_is
