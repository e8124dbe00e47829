use Rattle.std.proofs.Common.{subst}
use Rattle.av_mem.specs.Entries.{IsWithin}
use Rattle.av_mem.specs.Mem.{plain, view}
use Rattle.av_mem.proofs.entries.slot_behind.Goals as goal

pub slot-requires : goal.slot-requires
slot-requires c = subst (λ e. IsWithin (view c.args.mem.now) (plain e)) c.in-Here.is c.requires
