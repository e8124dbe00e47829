use Rattle.std.proofs.Common.{◌∙◌, ap}
use Rattle.av_base.specs.Words.{with_at}
use Rattle.av_pagetable.proofs.dir.with_one.Goals as goal

pub returns : goal.returns
returns g c = c.in_ok-set.ensures ∙ ap (with_at c.args.page c.args.entry) (λ i q. c.in_ok-part.ensures q i)
