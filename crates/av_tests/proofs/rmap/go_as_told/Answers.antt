use Rattle.std.proofs.Common.{◌∙◌}
use Rattle.av_tests.proofs.rmap.go_as_told.Goals as goal

-- only frame 1 got items
pub rename-requires-clause-not_merged : goal.rename-requires-clause-not_merged
rename-requires-clause-not_merged c =
    (λ i. (c.in_ok-add-3.ensures i).items 2) ∙ (λ i. (c.in_ok-add-2.ensures i).items 2) ∙ (λ i. (c.in_ok-add.ensures i).items 2)
    ∙ (λ i. (c.requires i).items 2)
