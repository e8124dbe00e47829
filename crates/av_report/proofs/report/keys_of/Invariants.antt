use Rattle.av_report.proofs.report.keys_of.Given as goal

abbrev pub ghosts-keys_by : goal.ghosts-keys_by
ghosts-keys_by a = record { name = a.blank.name; parts = a.blank.parts }
