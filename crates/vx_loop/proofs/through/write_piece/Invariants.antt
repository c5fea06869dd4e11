use Rattle.vx_loop.proofs.through.write_piece.Given as goal

-- the link as it is before the call
abbrev pub ghosts-write_marked : goal.ghosts-write_marked
ghosts-write_marked g a = record { start = a.link.now }
