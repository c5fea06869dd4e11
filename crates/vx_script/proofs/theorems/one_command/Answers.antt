use Rattle.vx_script.proofs.Tabled.{one-command}
use Rattle.vx_script.proofs.theorems.one_command.Goals as goal

pub returns : goal.returns
returns c = λ line a b first second. one-command line a b first second
