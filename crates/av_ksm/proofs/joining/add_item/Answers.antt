use Rattle.av_ksm.proofs.joining.add_item.Goals as goal

pub info-root-requires : goal.info-root-requires
info-root-requires c = c.requires.rooted c.in-Some.at c.in-Some.is
