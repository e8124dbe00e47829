use Rattle.av_mem.proofs.mem.Mem.namers.Given as goal

abbrev pub ghosts-find_namers : goal.ghosts-find_namers
ghosts-find_namers a = record { name = a.blank.name; parts = a.blank.parts }
