use Rattle.std.proofs.Common.{◌∙◌, ap}
use Rattle.av_pagetable.specs.Entries.{table_at}
use Rattle.av_pagetable.proofs.Entries.{table_more}
use Rattle.av_pagetable.proofs.tables.make_place.Goals as goal

pub loop-tables-preserved : goal.loop-tables-preserved
loop-tables-preserved g c = ap table_at c.in_ok-push.ensures.items ∙ (λ i p. table_more c.loop-tables.tables.items p i) ∙ c.loop-tables.invariant
