use Rattle.std.proofs.Common.{ap, sym, ◌∙◌}
use Rattle.av_pagetable.proofs.radix.RadixTableTable.change.Goals as goal

-- where nothing was changed the entry is still there
pub find_and_change-requires-clause-there : goal.find_and_change-requires-clause-there
find_and_change-requires-clause-there c none = c.requires.there (ap (λ f. f c.args.page) (sym c.if-not-change_near.ensures) ∙ none)
