use Rattle.std.proofs.Common.{ℕ, ap, subst, sym, ◌∙◌}
use Rattle.av_kernel.specs.Kernel.{Stands}
use Rattle.av_step.specs.Step.{sizes_of}
use Rattle.av_plain.specs.Device.{setting_of, seen_by}
use Rattle.av_plain.specs.Transcript.{at_first}
use Rattle.av_replay.proofs.Calls.{goes_on_at}
use Rattle.av_replay.proofs.Endings.{nothing_done, same_frames}
use Rattle.av_replay.proofs.over.run_trace.Goals as goal

pub returns-in_default-clause-replayed : goal.returns-in_default-clause-replayed
returns-in_default-clause-replayed g c = nothing_done c.args.frames _

pub replay_over-status-requires : goal.replay_over-status-requires
replay_over-status-requires g c =
    let new = c.in-Ok.ensures.new in
    let d = seen_by g.D.SwapDev.sizes g.D.SwapDev.pages g.D.SwapDev.failures g.D.SwapDev.history c.args.dev.now in
    record {
      stands = subst (λ (n : ℕ). Stands c.in-Ok.kernel d (at_first (setting_of n d))) (sym new.frames) (c.in-Ok.ensures.stands d);
      steps = new.steps;
      tally = new.tally;
      unspent = new.spent;
      attached = c.requires.attached ∙ ap sizes_of (sym new.sizes);
    }

pub returns : goal.returns
returns g c =
    let over = c.replay_over-status.ensures in
    rw (c.hand_back.ensures.status, c.hand_back.ensures.kernel) (record {
      replayed = same_frames _ _ _ _ _ _ c.in-Ok.ensures.new.frames over;
      kernel = goes_on_at c.replay_over-status.result _;
    })
