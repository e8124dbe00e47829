use Rattle.av_swapoff.proofs.command.end_closing.Goals as goal

pub remove-requires-clause-unused : goal.remove-requires-clause-unused
remove-requires-clause-unused c = c.requires.unused c.in-Empty.is
