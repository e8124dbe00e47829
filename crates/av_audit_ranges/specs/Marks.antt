-- What is said of a page, and its changes.
use Rattle.std.specs.Prelude.{Bool, false, Option, Some, None, option_and_then}
use Rattle.std.specs.Option.{option_map_or}
use Rattle.av_base.specs.Flags.{with_flag}
use Rattle.av_audit_ranges.specs.declared.marks.Change.{Change}
use Rattle.av_audit_ranges.specs.declared.marks.Change.TheVariants.{Unmap, Protect, Mark}
use Rattle.av_audit_ranges.specs.declared.marks.Marks.{Marks}
use Rattle.av_audit_ranges.specs.declared.marks.Rewrite.{Rewrite}
use Rattle.av_audit_ranges.specs.declared.marks.Rewrite.TheVariants.{By, To}

-- what is said of a page after a change, if it is mapped still
abbrev pub change_of : Change → Marks → Option Marks
change_of Unmap k = None
change_of (Protect prot) k = Some (record k { prot = prot })
change_of (Mark flag set) k = Some (record k { flags = with_flag flag set k.flags })

-- whether a page of which this is said is mapped and locked
abbrev pub is_locked : Option Marks → Bool
is_locked o = option_map_or (λ (k : Marks). k.flags.locked) o false

-- what is said of a page after it is changed, or this is said of it
abbrev pub marks_of_rewrite : Rewrite → Option Marks → Option Marks
marks_of_rewrite (By change) o = option_and_then (change_of change) o
marks_of_rewrite (To k) o = Some k
