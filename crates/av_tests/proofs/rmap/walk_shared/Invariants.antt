use Rattle.av_tests.proofs.rmap.walk_shared.Given as goal

abbrev pub ghosts-seen_in_stores : goal.ghosts-seen_in_stores
ghosts-seen_in_stores g a = record { name = a.blank.name; parts = a.blank.parts }
