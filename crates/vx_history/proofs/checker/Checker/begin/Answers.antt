use Rattle.std.proofs.Common.{[], Some, is_none, ◌&&◌, refl, sym, ◌∙◌}
use Rattle.std.proofs.lemmas.Bool.{and_from}
use Rattle.vx_flow.specs.Event as event
use Rattle.vx_history.specs.Saying.{has_call}
use Rattle.vx_history.specs.Stepping.{checker_shown, turn_shown}
use Rattle.vx_history.proofs.Stepped.{taken, here, turn-begin, none-shown}
use Rattle.vx_history.proofs.checker.Checker.begin.Goals as goal

pub returns : goal.returns
returns c =
    let s = checker_shown c.args.self.now in
    let e = event.Begin c.args.conn c.args.self.now.moment in
    let holds = and_from (has_call s c.args.conn) (is_none s.turn) (sym c.has_call.ensures ∙ c.if-not-has_call.false)
    (none-shown c.args.self.now.turn c.args.self.now.moves.items (sym c.is_some.ensures ∙ c.if-is_some.false)) in
    let found = taken s s.kept e s.gateway (turn_shown (Some (record { conn = c.args.conn; at = c.args.self.now.moment })) []) refl (turn-begin s.turn c.args.conn c.args.self.now.moment) in
    rw c.clear.ensures.items (found.0, here s (has_call s c.args.conn && is_none s.turn) e holds ∙ found.1)
