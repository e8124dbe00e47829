use Rattle.std.proofs.Common.{None, ap, ◌∙◌}
use Rattle.av_base.specs.Words.{with_at}
use Rattle.av_anon.specs.Infos.{info_in}
use Rattle.av_anon.specs.Unlink.{without_anon_of}
use Rattle.av_anon.proofs.unlink.destroy.Goals as goal

pub returns : goal.returns
returns c =
    let info = info_in c.args.infos.now in
    c.remove.ensures ∙ ap (with_at c.args.anon None) c.count_children_down.ensures ∙ ap (λ o. without_anon_of o c.args.anon info) c.in-Some.ensures
