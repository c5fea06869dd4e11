use Rattle.std.proofs.Common.{sym, subst, take}
use Rattle.std.specs.Prelude.{option_map}
use Rattle.vx_calls.specs.Call.{call_shown}
use Rattle.vx_desks.specs.Ruling.{LearnsBy}
use Rattle.vx_desks.proofs.ruled.learn.Goals as goal

pub returns-in-Some : goal.returns-in-Some
returns-in-Some c =
    subst (λ o. LearnsBy c.args.made.now (call_shown c.args.call.now) (option_map (λ n. take n c.args.reply.now) o) c.learn.new.self) (sym c.in-Some.is)
    (record { few = c.learn.ensures.few; full = c.learn.ensures.full })
