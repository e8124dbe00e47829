use Rattle.std.proofs.Common.{◌<◌, length, subst, sym, ◌∙◌, ap}
use Rattle.av_frames.specs.Store.{Store, shown}
use Rattle.av_frames.specs.contracts.frames.Frames.{the_view}
use Rattle.av_frames.proofs.Shown.{seen_laid, zeros}
use Rattle.av_frames.proofs.frames.Frames.zero.Goals as goal

pub returns : goal.returns
returns c =
    let s = the_view c.self.inside in
    let below : c.args.frame < length s.bytes = subst (λ (v : Store). c.args.frame < length v.bytes) (sym c.self.view_is) c.requires in
    rw (← c.self.view_is) (ap (λ b. shown (record s { bytes = b })) c.clear.ensures ∙ seen_laid s c.args.frame _ _ below (zeros 4096))
