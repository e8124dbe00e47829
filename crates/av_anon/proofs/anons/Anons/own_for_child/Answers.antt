use Rattle.std.proofs.Common.{sym}
use Rattle.av_anon.specs.Infos.{info_in}
use Rattle.av_anon.proofs.Choosing.{reused_there}
use Rattle.av_anon.proofs.anons.Anons.own_for_child.Goals as goal

pub count_active_up-requires : goal.count_active_up-requires
count_active_up-requires c = reused_there (info_in c.args.self.now.infos) c.deref.result.now c.in-Some.anon (sym c.in-Some.ensures)
