use Rattle.std.proofs.Common.{◌≡◌, drop}
use Rattle.av_anon.specs.Fork.{member_to_reuse}
use Rattle.av_anon.specs.Infos.{info_in}
use Rattle.av_anon.proofs.fork.lowest_idle.Given as goal

-- none of those passed is idle
abbrev pub invariant-loop-anon : goal.invariant-loop-anon
invariant-loop-anon l = member_to_reuse (info_in l.infos) l.anons ≡ member_to_reuse (info_in l.infos) (drop l.anon-index l.anons)
