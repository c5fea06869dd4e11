use Rattle.vx_player.proofs.made_run.take_all.Goals as goal

pub take_rounds-requires-clause-running : goal.take_rounds-requires-clause-running
take_rounds-requires-clause-running g c = (c.args.player.now.rack, c.in-Ok.ensures.taken c.args.ask.seed)
