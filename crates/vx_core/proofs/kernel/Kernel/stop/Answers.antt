use Rattle.std.proofs.Common.{◌≡◌, ◌≤◌, ℕ, false, List, Some, length, take, sym, ap, ◌∙◌, subst, arith}
use Rattle.std.proofs.lemmas.List.{length-take-le}
use Rattle.vx_calls.specs.declared.limits.TheConstants.{READ_MAX}
use Rattle.vx_calls.specs.Reply.{Reply, reply_shown}
use Rattle.vx_488.specs.declared.transfers.Transfer.{Transfer}
use Rattle.vx_rules.specs.State.{Pending, pending_at}
use Rattle.vx_rules.specs.Effects.{stopped_reply}
use Rattle.vx_flow.specs.InterleavedState.{turn_of, moves_of}
use Rattle.vx_flow.specs.Poll.{Answered}
use Rattle.vx_core.specs.Shown.{turn_shown}
use Rattle.vx_core.specs.Given.{reply_bytes}
use Rattle.vx_core.proofs.Laws.{running-own}
use Rattle.vx_core.proofs.Replying.{Counts, counts-some, counts-none, stopped-front, stopped-few, some-of}
use Rattle.vx_core.proofs.kernel.Kernel.stop.Goals as goal
use Rattle.vx_core.proofs.kernel.Kernel.stop.Goals.{in-Some, in-None}

pub moved_by-requires : goal.moved_by-requires
moved_by-requires g c =
    record { plain = (c.requires.holds.runs c.in-Some.running (running-own c.args.self.now.running c.args.conn c.in-Some.running (sym c.own_turn.ensures ∙ c.in-Some.is)).0).plain }

pub slice_bounds-stopped-end : goal.slice_bounds-stopped-end
slice_bounds-stopped-end g c =
    let k = c.args.self.now in
    let moves : List Transfer = moves_of (turn_of (turn_shown k.running k.made) c.args.conn) in
    let counts : Counts moves k.room c.match-own_turn.puts = elim c.match-own_turn.branch [
      | in-Some w ↦
          let own = sym c.own_turn.ensures ∙ w.in-Some.is in
          let runs = c.requires.holds.runs w.in-Some.running (running-own k.running c.args.conn w.in-Some.running own).0 in
          subst (Counts moves k.room) (sym w.puts-is)
          (counts-some k.running k.made c.args.conn w.in-Some.running k.room w.moved_by.result own
          (w.moved_by.ensures.within k.before _ k.made runs.begins.left runs.begins.had_made)
          (w.moved_by.ensures.moved k.before _ k.made runs.begins.left k.room runs.begins.had_made runs.holds))
      | in-None w ↦
          subst (Counts moves k.room) (sym w.puts-is) (counts-none k.running k.made c.args.conn k.room (sym c.own_turn.ensures ∙ w.in-None.is))
    ] in
    let long : length c.deref.result.now ≡ READ_MAX = ap length c.deref.ensures.value ∙ c.self.invariant.1 in
    sym (length-take-le c.match-own_turn.puts.1 c.deref.result.now (omega (arith, counts.few, long)))

counted : (g : _) (c : goal.After-close g) → Counts (moves_of (turn_of (turn_shown c.args.self.now.running c.args.self.now.made) c.args.conn)) c.args.self.now.room c.match-own_turn.puts
counted g c =
    let k = c.args.self.now in
    let moves : List Transfer = moves_of (turn_of (turn_shown k.running k.made) c.args.conn) in
    elim c.match-own_turn.branch [
      | in-Some w ↦
          let own = sym c.own_turn.ensures ∙ w.in-Some.is in
          let runs = c.requires.holds.runs w.in-Some.running (running-own k.running c.args.conn w.in-Some.running own).0 in
          subst (Counts moves k.room) (sym w.puts-is)
          (counts-some k.running k.made c.args.conn w.in-Some.running k.room w.moved_by.result own
          (w.moved_by.ensures.within k.before _ k.made runs.begins.left runs.begins.had_made)
          (w.moved_by.ensures.moved k.before _ k.made runs.begins.left k.room runs.begins.had_made runs.holds))
      | in-None w ↦
          subst (Counts moves k.room) (sym w.puts-is) (counts-none k.running k.made c.args.conn k.room (sym c.own_turn.ensures ∙ w.in-None.is))
    ]

long : (g : _) (c : goal.After-close g) → length c.args.self.now.room ≡ READ_MAX
long g c = sym (ap (λ k. length k.room) c.self.view_is) ∙ c.self.invariant.1

shown : (g : _) (c : goal.After-close g) (p : Pending) → pending_at c.args.self.now.tables c.args.conn ≡ Some p
    → reply_shown c.stopped.result ≡ stopped_reply p.call c.args.error (moves_of (turn_of (turn_shown c.args.self.now.running c.args.self.now.made) c.args.conn))
shown g c p e =
    let k = c.args.self.now in
    let counts = counted g c in
    let moves : List Transfer = moves_of (turn_of (turn_shown k.running k.made) c.args.conn) in
    c.stopped.ensures p moves (ap (λ k. pending_at k.tables c.args.conn) c.self.view_is ∙ e) counts.puts_is
    (counts.got_is ∙ ap (take c.match-own_turn.puts.1) (sym (c.deref.ensures.value ∙ ap (λ k. k.room) c.self.view_is)))

pub returns-clause-reply : goal.returns-clause-reply
returns-clause-reply g c = λ p e.
    let k = c.args.self.now in
    let n : ℕ = c.match-own_turn.puts.1 in
    let room : List ℕ = c.close.new.self.room in
    let counts = counted g c in
    let same : room ≡ k.room = ap (λ k. k.room) c.close.ensures in
    let moves : List Transfer = moves_of (turn_of (turn_shown k.running k.made) c.args.conn) in
    let said = shown g c p e in
    let fits : n ≤ length room = omega (arith, counts.few, ap length same ∙ long g c) in
    let front = stopped-front p.call c.args.error moves room n fits (counts.got_is ∙ ap (take n) (sym same)) in
    let P : Reply → Type 0 = λ r. take (length (reply_bytes r)) room ≡ reply_bytes r in
    ap (λ r. Answered c.args.ran false r) (c.of-given.ensures.reply room (subst P (sym said) front) ∙ said)

pub returns-clause-within : goal.returns-clause-within
returns-clause-within g c =
    let k = c.args.self.now in
    let counts = counted g c in
    let some = some-of (pending_at k.tables c.args.conn) c.requires.pending in
    let moves : List Transfer = moves_of (turn_of (turn_shown k.running k.made) c.args.conn) in
    let said = shown g c some.0 some.1 in
    let fits : c.match-own_turn.puts.1 ≤ length k.room = omega (arith, counts.few, long g c) in
    let few = stopped-few some.0.call c.args.error moves k.room c.match-own_turn.puts.1 fits counts.got_is counts.few in
    omega (arith, c.of-given.ensures.len ∙ ap (λ (r : Reply). length (reply_bytes r)) said, few)
