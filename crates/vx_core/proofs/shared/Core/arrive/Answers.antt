use Rattle.std.proofs.Common.{ap}
use Rattle.vx_calls.specs.Call.{call_shown}
use Rattle.vx_core.specs.declared.shared.Core.TheInside.{Inside}
use Rattle.vx_core.proofs.CoreCalls.{arrives-so, idle_still}
use Rattle.vx_core.proofs.shared.Core.arrive.Goals as goal

pub arrive-requires-clause-idle : goal.arrive-requires-clause-idle
arrive-requires-clause-idle g c =
    idle_still g.B.Bus.means c.self.inside.kernel c.hear.new.self _ c.args.self.now c.args.conn c.args.now c.self.view_is c.requires.idle c.hear.ensures.kept
    (ap (λ (i : Inside g.row.B.Denot). i.kernel) c.self-inside.view_is)

pub arrive-requires-clause-waits : goal.arrive-requires-clause-waits
arrive-requires-clause-waits g c = c.requires.waits

pub arrive-requires-clause-short : goal.arrive-requires-clause-short
arrive-requires-clause-short g c = c.requires.short

pub invariant_of-self : goal.invariant_of-self
invariant_of-self g c =
    (arrives-so g.B.Bus.means c.self.inside.kernel c.hear.new.self _ c.args.self.now c.args.conn (call_shown c.args.call.now) c.args.now c.arrive.new.self c.self.view_is c.self.invariant
    c.requires.idle c.requires.waits c.hear.ensures.kept c.hear.ensures.means (ap (λ (i : Inside g.row.B.Denot). i.kernel) c.self-inside.view_is) c.arrive.ensures).keeps

pub returns-clause-interleaved : goal.returns-clause-interleaved
returns-clause-interleaved g c =
    (arrives-so g.B.Bus.means c.self.inside.kernel c.hear.new.self _ c.args.self.now c.args.conn (call_shown c.args.call.now) c.args.now c.arrive.new.self c.self.view_is c.self.invariant
    c.requires.idle c.requires.waits c.hear.ensures.kept c.hear.ensures.means (ap (λ (i : Inside g.row.B.Denot). i.kernel) c.self-inside.view_is) c.arrive.ensures).allowed
