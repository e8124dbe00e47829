use Rattle.std.proofs.lemmas.Result.{on_ok_weaker}
use Rattle.av_audit.proofs.RemapUnits.{remap-next}
use Rattle.av_audit.proofs.remapping.remap_to.Goals as goal

pub returns-in-Some : goal.returns-in-Some
returns-in-Some c = on_ok_weaker c.remap.result (λ h w at alive.
    remap-next c.remap.new.self w c.args.process c.args.address c.args.old c.args.new c.args.mode c.args.to c.in-Some.to
    c.pages_of-n.result c.pages_of-m.result c.leaves_old.result c.in-Some.is c.pages_of-n.ensures.pages c.pages_of-m.ensures.pages c.leaves_old.ensures
    (h w at alive)) c.remap.ensures
