-- Commands by their events.
use Rattle.std.specs.Prelude.{Bool, true, false}
use Rattle.av_trace.specs.declared.command.Command.{Command}
use Rattle.av_trace.specs.declared.command.Command.TheVariants.{Age, Complete, Maps, Merge}
use Rattle.av_trace.specs.declared.command.Command.TheVariants.{Mprotect, Reclaim, Spawn, Stat}
use Rattle.av_trace.specs.declared.command.Command.TheVariants.{Areas as AsksAreas}
use Rattle.av_trace.specs.declared.command.Command.TheVariants.{Rmap as AsksRmap}
use Rattle.av_trace.specs.declared.command.Command.TheVariants.{Entry as AsksEntry}
use Rattle.av_trace.specs.declared.command.Command.TheVariants.{Slot as AsksSlot}

-- whether nothing happens to the ledger in a command: it reports, or changes memories alone
abbrev pub is_without_events : Command → Bool
is_without_events (Spawn p) = true
is_without_events (Mprotect p a len prot) = true
is_without_events (Maps p) = true
is_without_events (AsksAreas p) = true
is_without_events (AsksRmap p a) = true
is_without_events (AsksEntry p a) = true
is_without_events (AsksSlot k page) = true
is_without_events Stat = true
is_without_events command = false

-- whether each event of a command is a note
abbrev pub is_told : Command → Bool
is_told (Reclaim n) = true
is_told (Age n) = true
is_told (Complete n) = true
is_told Merge = true
is_told command = false
