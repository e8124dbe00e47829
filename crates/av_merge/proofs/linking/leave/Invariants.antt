use Rattle.av_merge.proofs.linking.leave.Given as goal

abbrev pub ghosts-leave_by : goal.ghosts-leave_by
ghosts-leave_by a = record { name = a.blank.name; parts = a.blank.parts }
