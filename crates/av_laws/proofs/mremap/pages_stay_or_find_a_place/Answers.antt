use Rattle.std.specs.Prelude.{Some, refl}
use Rattle.av_plain.specs.World.{is_mapped, pages}
use Rattle.av_laws.specs.Areas.{world_of}
use Rattle.av_laws.specs.Mremap.{last}
use Rattle.av_laws.proofs.Gaps.{one_below, two_below}
use Rattle.av_laws.proofs.mremap.pages_stay_or_find_a_place.Goals as goal

pub returns-clause-next_to_top : goal.returns-clause-next_to_top
returns-clause-next_to_top c =
    record { answer = (Some 0x7fffffffd, one_below (is_mapped (pages (world_of last) 1)) refl refl, refl, refl, refl); notes = refl }

pub returns-clause-below_itself : goal.returns-clause-below_itself
returns-clause-below_itself c =
    record { answer = (Some 0x7fffffffc, two_below (is_mapped (pages (world_of last) 1)) refl refl refl, refl, refl, refl); notes = refl }
