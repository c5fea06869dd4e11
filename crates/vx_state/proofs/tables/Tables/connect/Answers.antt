use Rattle.std.proofs.Common.{◌≡◌, ◌<◌, ◌≤◌, true, None, map, count_by, sym, subst, ap, ◌∙◌, arith}
use Rattle.std.proofs.lemmas.Bool.{and_from, lt-ltb, le-leb}
use Rattle.vx_calls.specs.declared.limits.TheConstants.{ROLE_MAX, CONNECTION_LAST}
use Rattle.vx_rules.specs.State.{count_of, same_role, has_room, with_connection}
use Rattle.vx_state.specs.Rows.{connection_of}
use Rattle.vx_state.specs.Inside.{tables_of, numbers_of, AreGiven}
use Rattle.vx_rules.proofs.Laws.Keeping.{with_connection-sound}
use Rattle.vx_state.proofs.Closing.{connected_sound, connected_is, with_srq_state, rows_sound, srq_state_sound, kept_is}
use Rattle.vx_state.proofs.Order.{given_more}
use Rattle.vx_state.proofs.tables.Tables.connect.Goals as goal

pub invariant_of-self : goal.invariant_of-self
invariant_of-self c =
    let t = tables_of c.self.inside in
    let counted : c.count_role.result ≡ count_of t c.args.role =
    c.count_role.ensures ∙ ap (λ rs. count_by (λ k. same_role k.role c.args.role) (map connection_of rs)) c.deref.ensures.value in
    let fewer : count_of t c.args.role < ROLE_MAX = omega (arith, c.if-count_role-ge-ROLE_MAX.false, counted) in
    let left : c.self.inside.next ≤ CONNECTION_LAST = omega (arith, c.if-self-gt-CONNECTION_LAST.false) in
    let room : has_room t c.args.role ≡ true = and_from _ _ (lt-ltb _ _ fewer) (le-leb _ _ left) in
    record {
      sound = connected_sound t c.args.role _ _ c.in-Ok.ensures.rows c.in-Ok.ensures.ports (with_connection-sound t c.args.role room c.self.invariant.sound);
      ordered = given_more (record { number = c.self.inside.next; role = c.args.role; pending = None }) _ t.connections c.in-Ok.ensures.rows c.self.invariant.ordered;
      numbers = omega (arith, left);
      plain = c.self.invariant.plain;
      room = c.self.invariant.room;
    }

pub invariant_of-self-in-Err : goal.invariant_of-self-in-Err
invariant_of-self-in-Err c =
    let t = tables_of c.self.inside in
    let shown = ap (map connection_of) c.in-Err.ensures.kept in
    record {
      sound = rows_sound (with_srq_state t c.add_row.new.srq) _ _ shown (srq_state_sound t _ _ c.in-Err.ensures.err c.self.invariant.sound);
      ordered = subst (λ cs. AreGiven (numbers_of cs) c.self.inside.next) (sym shown) c.self.invariant.ordered;
      numbers = c.self.invariant.numbers;
      plain = c.self.invariant.plain;
      room = c.self.invariant.room;
    }

pub returns-in-Ok-clause-ok : goal.returns-in-Ok-clause-ok
returns-in-Ok-clause-ok c =
    connected_is (tables_of c.self.inside) c.args.role _ _ c.in-Ok.ensures.rows c.in-Ok.ensures.ports ∙ ap (λ t. with_connection t c.args.role) c.self.view_is

pub returns-in-Err-clause-err : goal.returns-in-Err-clause-err
returns-in-Err-clause-err c = kept_is (tables_of c.self.inside) _ _ (ap (map connection_of) c.in-Err.ensures.kept) c.in-Err.ensures.err ∙ c.self.view_is
