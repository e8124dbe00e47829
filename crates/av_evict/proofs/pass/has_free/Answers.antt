use Rattle.std.proofs.Common.{◌∙◌}
use Rattle.av_evict.proofs.SeekLaws.{tells-free}
use Rattle.av_evict.proofs.pass.has_free.Goals as goal

pub returns : goal.returns
returns g c = λ told l sound stands. c.is_some.ensures ∙ tells-free (g.S.System.view c.args.system.now told).setting l c.free_frame.result
    (c.free_frame.ensures.free told l sound stands)
