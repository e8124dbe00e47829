use Rattle.av_mem.proofs.mem.Mem.unmap.Given as goal

abbrev pub ghosts-send_away : goal.ghosts-send_away
ghosts-send_away a = record { name = a.blank.name; parts = a.blank.parts }
