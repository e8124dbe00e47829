-- What commands are about.
use Rattle.av_trace.specs.declared.command.Command.{Command}
use Rattle.av_trace.specs.declared.command.Command.TheVariants as commands

pub data Kind : Type 0 where
  OfProcesses : Kind
  OfAreas : Kind
  OfMarks : Kind
  OfPages : Kind
  OfFrames : Kind
  Reports : Kind

abbrev pub kind_of : Command → Kind
kind_of (commands.Spawn p) = OfProcesses
kind_of (commands.Fork p q) = OfProcesses
kind_of (commands.Exit p) = OfProcesses
kind_of (commands.Mmap p len prot place) = OfAreas
kind_of (commands.Munmap p a len) = OfAreas
kind_of (commands.Mprotect p a len prot) = OfMarks
kind_of (commands.Mremap p a old new mode) = OfAreas
kind_of (commands.Madvise p a len advice) = OfMarks
kind_of (commands.Mlock p a len) = OfPages
kind_of (commands.Munlock p a len) = OfMarks
kind_of (commands.Read p a n) = OfPages
kind_of (commands.Write p a bytes) = OfPages
kind_of (commands.Reclaim n) = OfFrames
kind_of (commands.Age n) = OfFrames
kind_of (commands.Complete n) = OfFrames
kind_of (commands.Swapon k priority) = OfFrames
kind_of (commands.Swapoff k) = OfFrames
kind_of commands.Merge = OfFrames
kind_of commands.Compact = OfFrames
kind_of (commands.Maps p) = Reports
kind_of (commands.Areas p) = Reports
kind_of (commands.Rmap p a) = Reports
kind_of (commands.Entry p a) = Reports
kind_of (commands.Slot k page) = Reports
kind_of commands.Stat = Reports
