use Rattle.std.proofs.Common.{ap, sym, ◌∙◌}
use Rattle.av_step.specs.Step.{sizes_of}
use Rattle.av_sample.proofs.show_on_four.Goals as goal

-- neither has one
pub show_all-requires : goal.show_all-requires
show_all-requires c = (λ i area. c.new-dev.ensures.sizes area i) ∙ ap sizes_of (sym c.in-Ok.ensures.new.sizes)
