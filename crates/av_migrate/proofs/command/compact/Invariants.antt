use Rattle.av_migrate.proofs.command.compact.Given as goal

abbrev pub ghosts-add_moves : goal.ghosts-add_moves
ghosts-add_moves a = record { name = a.blank.name; parts = a.blank.parts }
