use Rattle.av_tests.proofs.rmap.a_walk_finds_the_entries_of_both_processes.Given as goal

abbrev pub ghosts-walk_shared_alone : goal.ghosts-walk_shared_alone
ghosts-walk_shared_alone g a = record { name = a.blank.name; parts = a.blank.parts }
