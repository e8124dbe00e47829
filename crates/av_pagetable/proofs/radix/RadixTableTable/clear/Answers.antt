use Rattle.std.proofs.Common.{[], ◌∙◌, ap, arith}
use Rattle.av_pagetable.proofs.DirEntries.{no_entries}
use Rattle.av_pagetable.proofs.Leaf.{in_top, in_upper}
use Rattle.av_pagetable.proofs.radix.RadixTableTable.clear.Goals as goal

pub returns : goal.returns
returns c = ap in_top c.clear.ensures ∙ (λ i page. no_entries in_upper 134217728 [] (omega arith) page i)
