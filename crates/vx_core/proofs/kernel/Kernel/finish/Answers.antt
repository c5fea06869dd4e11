use Rattle.std.proofs.Common.{◌≡◌, ◌≤◌, ℕ, List, Bool, Some, length, drop, sym, ap, ◌∙◌, subst}
use Rattle.std.proofs.lemmas.List.{take_at}
use Rattle.vx_plan.specs.declared.tasks.Task.{Task}
use Rattle.vx_plan.specs.Plan.{Whole, stand_of}
use Rattle.vx_plan.specs.Tasks.{HasBytes, most_bytes}
use Rattle.vx_plan.specs.Results.{whole_reply}
use Rattle.vx_ctrl.specs.Turns.{HasMade, GetsBytes}
use Rattle.vx_ctrl.specs.Goes.{HoldsBytes}
use Rattle.vx_rules.specs.State.{Pending, pending_at}
use Rattle.vx_rules.specs.Calls.{bytes_of, is_big}
use Rattle.vx_flow.specs.Poll.{Answered}
use Rattle.vx_flow.specs.declared.progress.Ran.TheVariants as ran
use Rattle.vx_core.specs.declared.running.Running.{Running}
use Rattle.vx_core.specs.Given.{given_reply}
use Rattle.vx_core.specs.Polling.{level_told}
use Rattle.vx_core.proofs.Replying.{whole-left}
use Rattle.vx_core.proofs.kernel.Kernel.finish.Goals as goal

pub finished-given-requires-clause-plain : goal.finished-given-requires-clause-plain
finished-given-requires-clause-plain g c =
    let r : Running = record { conn = c.args.conn; turn = c.args.turn.now } in
    (c.requires.holds.runs r c.requires.turn).plain

pub finished-given-requires-clause-sent : goal.finished-given-requires-clause-sent
finished-given-requires-clause-sent g c =
    let r : Running = record { conn = c.args.conn; turn = c.args.turn.now } in
    let runs = c.requires.holds.runs r c.requires.turn in
    let bytes : c.bytes-bytes.result.now ≡ bytes_of runs.asked.call =
    c.bytes-bytes.ensures runs.asked (ap (λ k. pending_at k.tables c.args.conn) c.self.view_is ∙ runs.call_at) in
    let P : List ℕ → Type 0 = λ bytes. HasBytes c.args.turn.now.task bytes in
    subst P (sym bytes) runs.sent

pub finished-given-requires-clause-short : goal.finished-given-requires-clause-short
finished-given-requires-clause-short g c =
    let r : Running = record { conn = c.args.conn; turn = c.args.turn.now } in
    let runs = c.requires.holds.runs r c.requires.turn in
    let bytes : c.bytes-bytes.result.now ≡ bytes_of runs.asked.call =
    c.bytes-bytes.ensures runs.asked (ap (λ k. pending_at k.tables c.args.conn) c.self.view_is ∙ runs.call_at) in
    let P : List ℕ → Type 0 = λ bytes. length bytes ≤ most_bytes c.args.turn.now.task in
    subst P (sym bytes) runs.few

pub returns-clause-within : goal.returns-clause-within
returns-clause-within g c =
    let r : Running = record { conn = c.args.conn; turn = c.args.turn.now } in
    let k = c.args.self.now in
    let runs = c.requires.holds.runs r c.requires.turn in
    let bytes : c.bytes-bytes.result.now ≡ bytes_of runs.asked.call =
    c.bytes-bytes.ensures runs.asked (ap (λ k. pending_at k.tables c.args.conn) c.self.view_is ∙ runs.call_at) in
    let P : List ℕ → Type 0 = λ bytes. HasMade c.args.turn.now k.before bytes k.made runs.begins.left in
    c.finished-given.ensures.len k.before k.made runs.begins.left (subst P (sym bytes) runs.begins.had_made)

pub returns-clause-reply : goal.returns-clause-reply
returns-clause-reply g c = λ p e.
    let r : Running = record { conn = c.args.conn; turn = c.args.turn.now } in
    let k = c.args.self.now in
    let runs = c.requires.holds.runs r c.requires.turn in
    let task = c.args.turn.now.task in
    let same : Some runs.asked ≡ Some p = sym runs.call_at ∙ e in
    let asks : runs.asked ≡ p = cc in
    let at : pending_at c.self.inside.tables c.args.conn ≡ Some p = ap (λ k. pending_at k.tables c.args.conn) c.self.view_is ∙ e in
    let bytes : c.bytes-bytes.result.now ≡ bytes_of p.call = c.bytes-bytes.ensures p at in
    let P : List ℕ → Type 0 = λ bytes. HasMade c.args.turn.now k.before bytes k.made runs.begins.left in
    let had : HasMade c.args.turn.now k.before c.bytes-bytes.result.now k.made runs.begins.left =
    subst P (ap (λ (p : Pending). bytes_of p.call) asks ∙ sym bytes) runs.begins.had_made in
    let whole : stand_of (Some runs.begins.left) ≡ Whole = whole-left g.B.Bus.means k r runs c.requires.turn c.requires.whole in
    let room : c.deref_mut.result.now ≡ k.room = c.deref_mut.ensures.value ∙ ap (λ k. k.room) c.self.view_is in
    let Q : List ℕ → Type 0 = λ room. GetsBytes task → HoldsBytes c.args.turn.now k.made room in
    let holds : GetsBytes task → HoldsBytes c.args.turn.now k.made c.deref_mut.result.now = subst Q (sym room) runs.holds in
    let given = c.finished-given.ensures.reply k.before k.made runs.begins.left had whole holds in
    let wide : length c.finished-given.new.room ≡ c.self.inside.room.len =
    c.finished-given.ensures.room ∙ sym (sym c.deref_mut.ensures.len ∙ ap length c.deref_mut.ensures.value ∙ c.self.invariant.1) in
    let kept : c.close.new.self.room ≡ c.finished-given.new.room =
    ap (λ k. k.room) c.close.ensures
    ∙ take_at c.finished-given.new.room (drop (length c.finished-given.new.room) c.self.inside.room.items) c.self.inside.room.len wide in
    let before : c.self.inside.before ≡ k.before = ap (λ k. k.before) c.self.view_is in
    let big : c.is_big-is_big.result ≡ is_big p.call = c.is_big-is_big.ensures p at in
    let L : Bool = level_told task (g.B.Bus.srq_level k.bus) (g.B.Bus.ndac_level k.bus) in
    let level : c.level_told-level.result ≡ L =
    c.level_told-level.ensures
    ∙ ap (λ (t : Task). level_told t (g.B.Bus.srq_level c.self.inside.bus) (g.B.Bus.ndac_level c.self.inside.bus)) c.task.ensures
    ∙ ap (λ k. level_told task (g.B.Bus.srq_level k.bus) (g.B.Bus.ndac_level k.bus)) c.self.view_is in
    let reply : given_reply c.finished-given.result c.close.new.self.room ≡ whole_reply task (bytes_of p.call) k.before (is_big p.call) L k.made =
    ap (λ room. given_reply c.finished-given.result room) kept
    ∙ given
    ∙ ap (λ bytes. whole_reply task bytes c.self.inside.before c.is_big-is_big.result c.level_told-level.result k.made) bytes
    ∙ ap (λ w. whole_reply task (bytes_of p.call) w c.is_big-is_big.result c.level_told-level.result k.made) before
    ∙ ap (λ b. whole_reply task (bytes_of p.call) k.before b c.level_told-level.result k.made) big
    ∙ ap (λ l. whole_reply task (bytes_of p.call) k.before (is_big p.call) l k.made) level in
    ap (λ l. Answered ran.Finished l (given_reply c.finished-given.result c.close.new.self.room)) level
    ∙ ap (λ r. Answered ran.Finished L r) reply
