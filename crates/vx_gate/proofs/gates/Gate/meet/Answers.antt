use Rattle.std.proofs.Common.{arith}
use Rattle.vx_gate.proofs.Keeps.{meet_joins}
use Rattle.vx_gate.proofs.Outcomes.{seated, met_seen}
use Rattle.vx_gate.proofs.gates.Gate.meet.Goals as goal

pub join_seat-requires : goal.join_seat-requires
join_seat-requires g c =
    let t = seated _ _ _ c.into_seat-place.ensures.shown c.into_seat-place.ensures.is_pass c.requires.into c.args.self.now.sized.0 in
    let u = seated _ _ _ c.into_seat.ensures.shown c.into_seat.ensures.is_pass c.requires.other c.args.self.now.sized.0 in
    (t.1, u.1, c.into_seat.ensures.is_pass.empty, omega (arith, c.args.self.now.sized.0), meet_joins _ _ _ _ _ _ t.0 u.0)

pub returns-clause-begins : goal.returns-clause-begins
returns-clause-begins g c = met_seen (g.K.Kept.stands c.args.self.now.table.shared.key.value) g.K.Kept.may_add c.into_seat-place.result c.into_seat.result c.join_seat.new.seat c.learn.new.place _ _ _ _
    c.into_seat-place.ensures.shown c.into_seat.ensures.shown c.join_seat.ensures.2 c.learn.ensures.learned c.of.ensures
