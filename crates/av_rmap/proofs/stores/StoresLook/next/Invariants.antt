use Rattle.av_rmap.proofs.stores.StoresLook.next.Given as goal

abbrev pub ghosts-overlaps : goal.ghosts-overlaps
ghosts-overlaps g a = record { name = a.blank.name; parts = a.blank.parts }
