use Rattle.std.proofs.Common.{◌≡◌, ◌≤◌, ◌<◌, ◌==◌, ◌++◌, ◌∷◌, [], ℕ, List, not, length, ap, sym, subst, ◌∙◌, arith, rules}
use Rattle.std.specs.Vec.{vec_capacity}
use Rattle.std.proofs.lemmas.Fn.{filter_same}
use Rattle.vx_calls.specs.declared.limits.TheConstants.{ROLE_MAX}
use Rattle.vx_rules.specs.Sound.{IsSound}
use Rattle.vx_flow.specs.InterleavedStep.{without_dial}
use Rattle.vx_core.specs.KernelState.{KernelState}
use Rattle.vx_core.specs.Keeping.{KeepsDials}
use Rattle.vx_core.proofs.Dialing.{PassedDial, passed_dial, keeps_dials, room_left, port_fits, redialed}
use Rattle.vx_core.proofs.kernel.Kernel.dial.Goals as goal

pub push_reserved-requires : goal.push_reserved-requires
push_reserved-requires g c =
    let filtered = filter_same _ (λ n. not (n == c.args.conn)) _ (λ x b f' k. search rules) _ _ c.retain.ensures.filtered in
    let view = c.self.view_is in
    let d = passed_dial g.B.Bus.means c.args.self.now c.args.conn c.requires.pending c.requires.passed c.requires.dials in
    let sound = subst (λ (k : KernelState g.row.B.Denot). IsSound k.tables) view c.sound_law.ensures in
    let room : length (without_dial c.args.self.now.dialed c.args.conn) < ROLE_MAX =
    room_left c.args.self.now.tables c.args.self.now.dialed c.args.conn sound c.requires.holds.few c.requires.holds.dials d in
    let len : length c.retain.new.self.items ≡ length (without_dial c.args.self.now.dialed c.args.conn) =
    ap length filtered ∙ ap (λ (k : KernelState g.row.B.Denot). length (without_dial k.dialed c.args.conn)) view in
    let wide : ROLE_MAX ≤ vec_capacity c.self.inside.dialed = c.self.invariant.2 in
    omega (arith, c.retain.ensures.capacity)

pub overflow_cast-result : goal.overflow_cast-result
overflow_cast-result g c =
    let d = passed_dial g.B.Bus.means c.args.self.now c.args.conn c.requires.pending c.requires.passed c.requires.dials in
    let here = subst (λ (k : KernelState g.row.B.Denot). PassedDial k.tables c.args.conn) (sym c.self.view_is) d in
    let within : c.dials_to-host.result.1 ≤ 65535 = port_fits c.self.inside.tables c.args.conn c.dials_to-host.result here c.dials_to-host.ensures in
    omega arith

pub returns-clause-kept : goal.returns-clause-kept
returns-clause-kept g c =
    let filtered = filter_same _ (λ n. not (n == c.args.conn)) _ (λ x b f' k. search rules) _ _ c.retain.ensures.filtered in
    redialed {B = g.row.B.Denot} _ c.args.self.now c.args.conn c.push_reserved.new.self.items c.self.view_is
    (c.push_reserved.ensures.items ∙ ap (λ (ns : List ℕ). ns ++ c.args.conn ∷ []) filtered)

pub returns-clause-dials : goal.returns-clause-dials
returns-clause-dials g c =
    let filtered = filter_same _ (λ n. not (n == c.args.conn)) _ (λ x b f' k. search rules) _ _ c.retain.ensures.filtered in
    let items = c.push_reserved.ensures.items ∙ ap (λ (ns : List ℕ). ns ++ c.args.conn ∷ []) filtered in
    let d = passed_dial g.B.Bus.means c.args.self.now c.args.conn c.requires.pending c.requires.passed c.requires.dials in
    let after = keeps_dials c.args.self.now.tables c.args.self.now.dialed c.args.conn c.requires.holds.dials d in
    subst (KeepsDials c.self.inside.tables) (sym items)
    (subst (λ (k : KernelState g.row.B.Denot). KeepsDials k.tables (without_dial k.dialed c.args.conn ++ c.args.conn ∷ [])) (sym c.self.view_is) after)
