use Rattle.std.proofs.Common.{◌≤◌, refl, ap, ◌∙◌, subst, arith}
use Rattle.vx_calls.specs.declared.limits.TheConstants.{READ_MAX}
use Rattle.vx_core.specs.declared.ended.Ended.TheVariants as ended
use Rattle.vx_core.specs.Given.{given_reply}
use Rattle.vx_core.specs.Ending.{ended_len}
use Rattle.vx_core.specs.declared.polled.Polled.TheVariants as polled
use Rattle.vx_core.proofs.Lent.{core-leaves, lent-fits}
use Rattle.vx_core.proofs.shared.Core.poll.Goals as goal

pub lend-requires : goal.lend-requires
lend-requires g c =
    let within = subst (λ e. ended_len e ≤ READ_MAX) c.in-Answered.is c.poll.ensures.within in
    omega (arith, within, c.room.ensures.len)

pub returns-in-Answered : goal.returns-in-Answered
returns-in-Answered g c =
    let shows = c.lend.ensures ∙ ap (given_reply c.in-Answered.given) c.room.ensures.room in (
      (
        refl,
        λ _. tt,
        core-leaves g.B.Bus.means g.B.Bus.through g.B.Bus.srq_level g.B.Bus.ndac_level c.args.self.now c.self.inside.kernel c.poll.new.kernel c.args.conn c.args.now
            c.poll.result (ended.Answered c.in-Answered.ran c.in-Answered.level c.in-Answered.given)
            (polled.Answer c.lend.result) c.self.view_is c.poll.ensures.last c.poll.ensures.began c.poll.ensures.leaves
            c.in-Answered.is shows,
      ),
      record {
        fits = lent-fits c.in-Answered.given c.poll.new.kernel.room _ shows (subst (λ e. ended_len e ≤ READ_MAX) c.in-Answered.is c.poll.ensures.within);
        after = tt;
      },
    )

pub returns-in-Waited : goal.returns-in-Waited
returns-in-Waited g c = (
  (
    refl,
    λ _. tt,
    core-leaves g.B.Bus.means g.B.Bus.through g.B.Bus.srq_level g.B.Bus.ndac_level c.args.self.now c.self.inside.kernel c.poll.new.kernel c.args.conn c.args.now
        c.poll.result (ended.Waited c.in-Waited.why) (polled.NotYet c.in-Waited.why) c.self.view_is c.poll.ensures.last c.poll.ensures.began c.poll.ensures.leaves c.in-Waited.is refl,
  ),
  record { fits = tt; after = tt },
)
