use Rattle.vx_player.proofs.player.Player.step.Goals as goal

pub returns-in-Up-clause-taken : goal.returns-in-Up-clause-taken
returns-in-Up-clause-taken g c = rw c.in-Up.is c.up.ensures.taken

pub returns-in-In-clause-taken : goal.returns-in-In-clause-taken
returns-in-In-clause-taken g c = rw c.in-In.is c.piece.ensures.taken

pub returns-in-Down-clause-taken : goal.returns-in-Down-clause-taken
returns-in-Down-clause-taken g c = rw c.in-Down.is c.down.ensures.taken

pub returns-in-At-clause-taken : goal.returns-in-At-clause-taken
returns-in-At-clause-taken g c = rw c.in-At.is c.at.ensures.taken

pub returns-in-Poll-clause-taken : goal.returns-in-Poll-clause-taken
returns-in-Poll-clause-taken g c = rw c.in-Poll.is c.poll.ensures.taken

pub returns-in-Sample-clause-taken : goal.returns-in-Sample-clause-taken
returns-in-Sample-clause-taken g c = rw c.in-Sample.is c.sample.ensures.taken

pub returns-in-Take-clause-taken : goal.returns-in-Take-clause-taken
returns-in-Take-clause-taken g c = rw c.in-Take.is c.take.ensures.taken

pub returns-in-Dial-clause-taken : goal.returns-in-Dial-clause-taken
returns-in-Dial-clause-taken g c = rw c.in-Dial.is c.dial.ensures.taken

pub returns-in-Inst-clause-taken : goal.returns-in-Inst-clause-taken
returns-in-Inst-clause-taken g c = rw c.in-Inst.is c.inst.ensures.taken

pub returns-in-Plug-clause-taken : goal.returns-in-Plug-clause-taken
returns-in-Plug-clause-taken g c = rw c.in-Plug.is c.plug.ensures.taken

pub returns-in-Pull-clause-taken : goal.returns-in-Pull-clause-taken
returns-in-Pull-clause-taken g c = rw c.in-Pull.is c.pull.ensures.taken

pub returns-in-Set-clause-taken : goal.returns-in-Set-clause-taken
returns-in-Set-clause-taken g c = rw c.in-Set.is c.set.ensures.taken

pub returns-in-Fail-clause-taken : goal.returns-in-Fail-clause-taken
returns-in-Fail-clause-taken g c = rw c.in-Fail.is c.fail.ensures.taken

pub returns-in-Up-clause-stopped : goal.returns-in-Up-clause-stopped
returns-in-Up-clause-stopped g c = rw c.in-Up.is c.up.ensures.stopped

pub returns-in-In-clause-stopped : goal.returns-in-In-clause-stopped
returns-in-In-clause-stopped g c = rw c.in-In.is c.piece.ensures.stopped

pub returns-in-Down-clause-stopped : goal.returns-in-Down-clause-stopped
returns-in-Down-clause-stopped g c = rw c.in-Down.is c.down.ensures.stopped

pub returns-in-Poll-clause-stopped : goal.returns-in-Poll-clause-stopped
returns-in-Poll-clause-stopped g c = rw c.in-Poll.is c.poll.ensures.stopped

pub returns-in-Take-clause-stopped : goal.returns-in-Take-clause-stopped
returns-in-Take-clause-stopped g c = rw c.in-Take.is c.take.ensures.stopped

pub returns-in-Dial-clause-stopped : goal.returns-in-Dial-clause-stopped
returns-in-Dial-clause-stopped g c = rw c.in-Dial.is c.dial.ensures.stopped

pub returns-in-Inst-clause-stopped : goal.returns-in-Inst-clause-stopped
returns-in-Inst-clause-stopped g c = rw c.in-Inst.is c.inst.ensures.stopped

pub returns-in-Plug-clause-stopped : goal.returns-in-Plug-clause-stopped
returns-in-Plug-clause-stopped g c = rw c.in-Plug.is c.plug.ensures.stopped

pub returns-in-Pull-clause-stopped : goal.returns-in-Pull-clause-stopped
returns-in-Pull-clause-stopped g c = rw c.in-Pull.is c.pull.ensures.stopped

pub returns-in-Set-clause-stopped : goal.returns-in-Set-clause-stopped
returns-in-Set-clause-stopped g c = rw c.in-Set.is c.set.ensures.stopped
