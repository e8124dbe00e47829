-- The machines of which a unit can be judged.
use Rattle.std.specs.Prelude.{◌<◌}
use Rattle.av_audit_book.specs.Machine.{AreNamed, setting_of}
use Rattle.av_audit_book.specs.declared.machine.Machine.{Machine}
use Rattle.av_audit_machine.specs.Heads.{AreCounted}

-- a machine that words can say: it has a frame, and numbers for its slots and bad pages
pub record FitsWords (machine : Machine) : Type 0 where
  pub some : 0 < machine.frames
  pub named : AreNamed (setting_of machine)
  pub counted : AreCounted machine
