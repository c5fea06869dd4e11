use Rattle.vx_history.proofs.checker.Checker.free.Goals as goal

pub returns-in-Up : goal.returns-in-Up
returns-in-Up c = rw c.in-Up.is c.up.ensures
