use Rattle.av_arena.proofs.tree.+pop_first.Given as goal

abbrev pub decreases-pop_first : goal.decreases-pop_first
decreases-pop_first g l = l.tree.height
