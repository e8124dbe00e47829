use Rattle.av_tests.proofs.chain.unlink.Given as goal

abbrev pub ghosts-unlink_by : goal.ghosts-unlink_by
ghosts-unlink_by a = record { name = a.blank.name; parts = a.blank.parts }
