-- What is said of a page beside its protection.
use Rattle.std.specs.Prelude.{Bool, false}
use Rattle.av_base.specs.declared.flags.Flag.{Flag}
use Rattle.av_base.specs.declared.flags.Flag.TheVariants.{DontFork, WipeOnFork, Locked, Mergeable}
use Rattle.av_base.specs.declared.flags.Flags.{Flags}

-- none of the flags
abbrev pub no_flags : Flags
no_flags = record {
  dont_fork = false;
  wipe_on_fork = false;
  locked = false;
  mergeable = false;
}

-- with one of them set or cleared
abbrev pub with_flag : Flag → Bool → Flags → Flags
with_flag DontFork set flags = record flags { dont_fork = set }
with_flag WipeOnFork set flags = record flags { wipe_on_fork = set }
with_flag Locked set flags = record flags { locked = set }
with_flag Mergeable set flags = record flags { mergeable = set }

-- without `locked`
abbrev pub unlocked : Flags → Flags
unlocked = with_flag Locked false
