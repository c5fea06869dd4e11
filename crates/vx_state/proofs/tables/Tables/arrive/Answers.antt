use Rattle.std.proofs.Common.{◌≡◌, ◌==◌, true, false, Some, map, sym, ap, subst, ◌∙◌, arith}
use Rattle.std.proofs.lemmas.List.{with_items_is}
use Rattle.std.proofs.lemmas.Bool.{and_parts}
use Rattle.vx_calls.specs.Call.{call_shown}
use Rattle.vx_rules.specs.State.{Pending, is_idle}
use Rattle.vx_rules.specs.Lists.{update_first}
use Rattle.vx_rules.specs.AtomicStep.{arrived}
use Rattle.vx_state.specs.Held.{kept_call, text_of}
use Rattle.vx_state.specs.Rows.{connection_of}
use Rattle.vx_state.specs.Inside.{tables_of}
use Rattle.vx_rules.proofs.Laws.Arriving.{idle-new}
use Rattle.vx_rules.proofs.Laws.Keeping.{with_pending-sound}
use Rattle.vx_state.proofs.Closing.{calls_sound}
use Rattle.vx_state.proofs.Room.{arrival_room}
use Rattle.vx_state.proofs.Order.{rows_rising, given_call}
use Rattle.vx_state.proofs.tables.Tables.arrive.Goals as goal

pub invariant_of-self : goal.invariant_of-self
invariant_of-self c =
    let t = tables_of c.self.inside in
    let asked = call_shown c.args.call.now in
    let words = c.words_of.result in
    let written = with_items_is c.self.inside.rows c.keep_call.new.rows (c.keep_call.auto.rows ∙ c.deref_mut.ensures.len) in
    let come = ap (λ x. kept_call words x c.handle_of.result.bytes.items) c.text_of.ensures ∙ ap (kept_call words (text_of asked)) c.handle_of.ensures ∙ c.words_of.ensures in
    let idle : is_idle t c.args.conn ≡ true = subst (λ s. is_idle s c.args.conn ≡ true) (sym c.self.view_is) c.requires.idle in
    record {
      sound = calls_sound t _ _ _ _
          (ap (map connection_of) written ∙ c.keep_call.ensures
          ∙ ap (λ k. update_first (λ r. r.number == c.args.conn) (λ r. let p : Pending = record { call = k; arrival = c.args.now; aborted = false } in record r { pending = Some p }) (map connection_of c.deref_mut.result.now)) come
          ∙ ap (λ rs. update_first (λ r. r.number == c.args.conn) (λ r. record r { pending = Some (arrived asked c.args.now) }) (map connection_of rs)) c.deref_mut.ensures.value)
          c.add_arrival.ensures.added
          (with_pending-sound t c.args.conn (Some (arrived asked c.args.now)) c.self.invariant.sound (λ some. (and_parts _ _ idle).0));
      room = omega (arith, c.self.invariant.room, c.add_arrival.ensures.room);
      ordered = given_call (λ r. r.number == c.args.conn) _ _ c.deref_mut.result.now _ _ (ap (map connection_of) written ∙ c.keep_call.ensures) c.deref_mut.ensures.value c.self.invariant.ordered;
      numbers = c.self.invariant.numbers;
      plain = c.self.invariant.plain;
    }

pub add_arrival-requires-clause-fresh : goal.add_arrival-requires-clause-fresh
add_arrival-requires-clause-fresh c =
    let t = tables_of c.self.inside in
    idle-new t c.args.conn c.self.invariant.sound.waiting (subst (λ s. is_idle s c.args.conn ≡ true) (sym c.self.view_is) c.requires.idle)

pub add_arrival-requires-clause-room : goal.add_arrival-requires-clause-room
add_arrival-requires-clause-room c =
    let t = tables_of c.self.inside in
    let left = arrival_room t c.args.conn c.self.invariant.sound (subst (λ s. is_idle s c.args.conn ≡ true) (sym c.self.view_is) c.requires.idle) in
    omega (arith, left, c.self.invariant.room)

pub keep_call-requires-clause-rising : goal.keep_call-requires-clause-rising
keep_call-requires-clause-rising c = rows_rising c.self.inside c.deref_mut.result.now c.deref_mut.ensures.value c.self.invariant
