use Rattle.av_plain.specs.Fork.{inheritance}
use Rattle.av_plain.specs.World.{pages}
use Rattle.av_swap_laws.proofs.Fork.{fork-bytes, fork-chosen}
use Rattle.av_swap_laws.proofs.entries.forks_hold_bytes.Goals as goal

pub returns : goal.returns
returns c = λ m closing v new d w l p q sorted none bytes free h.
    (fork-bytes v new d w l p q sorted bytes none h, fork-chosen m closing l p q (inheritance (pages w p) l p) v new sorted none free)
