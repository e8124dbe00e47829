use Rattle.av_spaces.proofs.ForkLaws.{IsForking}
use Rattle.av_spaces.proofs.fork.fork_each.Given as goal

abbrev pub invariant-loop-span : goal.invariant-loop-span
invariant-loop-span l = IsForking l.child l.initial.areas l.areas l.tree l.initial.anons l.anons l.spans l.span-index
