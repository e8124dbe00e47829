-- What the changes of areas that there are make of an area.
use Rattle.av_merge.specs.declared.changing.Change.{Change}
use Rattle.av_merge.specs.declared.changing.Change.TheVariants.{Flag, Prot}
use Rattle.av_vma.specs.Pages.{Effect, to_flag, to_prot}

-- the effect of a change
abbrev pub effect_of : Change → Effect
effect_of (Prot prot) = to_prot prot
effect_of (Flag flag set) = to_flag flag set
