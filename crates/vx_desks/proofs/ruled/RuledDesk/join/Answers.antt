use Rattle.std.proofs.Common.{refl, ap}
use Rattle.vx_desks.specs.Ruling.{ruled_state}
use Rattle.vx_desks.proofs.ruled.RuledDesk.join.Goals as goal

pub returns-clause-joins : goal.returns-clause-joins
returns-clause-joins g c =
    let s = c.args.self in (
      record {
        joins = c.join-desk.ensures.joins;
        same = ap (λ made. ruled_state g.N.Note.took c.join-desk.result.0 s.policy.now s.peer made s.note.now s.failed) c.clear.ensures;
      },
      refl,
      refl,
    )
