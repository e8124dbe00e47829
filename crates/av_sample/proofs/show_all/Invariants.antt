-- The device has the swap areas of the kernel.
use Rattle.std.proofs.Common.{◌≡◌}
use Rattle.av_step.specs.Step.{sizes_of}
use Rattle.av_sample.proofs.show_all.Given as goal

abbrev pub invariant-loop-line : goal.invariant-loop-line
invariant-loop-line g l = record { attached : g.D.SwapDev.sizes l.dev ≡ sizes_of l.kernel.sizes }
