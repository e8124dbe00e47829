-- The device has the swap areas of the kernel.
use Rattle.std.proofs.Common.{◌≡◌}
use Rattle.av_step.specs.Step.{sizes_of}
use Rattle.av_run_tests.proofs.kernel.step_all.Given as goal

abbrev pub invariant-loop-command : goal.invariant-loop-command
invariant-loop-command g l = record { attached : g.D.SwapDev.sizes l.dev ≡ sizes_of l.kernel.sizes }
