use Rattle.av_tests.proofs.interval.one_in_a_thousand.Given as goal

abbrev pub ghosts-find_all : goal.ghosts-find_all
ghosts-find_all g a = record { name = a.blank.name; parts = a.blank.parts }
