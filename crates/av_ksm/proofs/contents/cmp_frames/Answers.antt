use Rattle.std.proofs.Common.{◌∙◌}
use Rattle.av_frames.specs.Store.{shown}
use Rattle.av_ksm.proofs.ContentsLaws.{bytes-compared}
use Rattle.av_ksm.proofs.contents.cmp_frames.Goals as goal

pub returns : goal.returns
returns c = c.compare.ensures ∙ bytes-compared (shown c.args.frames.now).bytes c.args.frame c.args.other c.bytes.result.now c.bytes-2.result.now
    c.bytes.ensures.long c.bytes.ensures.bytes c.bytes-2.ensures.long c.bytes-2.ensures.bytes
