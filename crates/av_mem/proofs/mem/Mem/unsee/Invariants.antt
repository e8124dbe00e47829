use Rattle.av_mem.proofs.mem.Mem.unsee.Given as goal

abbrev pub ghosts-clear : goal.ghosts-clear
ghosts-clear a = record { name = a.blank.name; parts = a.blank.parts }
