use Rattle.std.proofs.Common.{ap, sym, ◌∙◌}
use Rattle.av_step.specs.Step.{sizes_of}
use Rattle.av_run_tests.proofs.kernel.drive.Goals as goal

-- neither has one
pub step_all-requires : goal.step_all-requires
step_all-requires c = (λ i area. c.new-dev.ensures.sizes area i) ∙ ap sizes_of (sym c.requires)
