use Rattle.std.proofs.Common.{◌≡◌, ◌∙◌, None, Some, false, slice_index_or, ap}
use Rattle.av_base.specs.Flags.{no_flags}
use Rattle.av_vma.specs.declared.area.Area.{Area}
use Rattle.av_vma.specs.Index.{first_of}
use Rattle.av_vma.specs.Pages.{pages_in}
use Rattle.av_report.proofs.ReportAreas.{all_at, on_pages}
use Rattle.av_report.proofs.report.add_areas.Goals as goal

abbrev none : Area
none = record { pid = 0; start = 0; end = 0; prot = record { read = false; write = false; execute = false }; flags = no_flags; pgoff = 0; anon = None }

pub area_row-requires-clause-area : goal.area_row-requires-clause-area
area_row-requires-clause-area c =
    let areas = c.args.areas.now in
    let i = c.loop-area.area-index in
    let a = slice_index_or areas i none in
    ap (λ o. pages_in o (first_of a)) c.requires.areas
    ∙ all_at (λ (a : Area). pages_in (Some areas) (first_of a) ≡ Some a) none areas i c.loop-area-test.true
    (on_pages c.args.process areas c.requires.rising)
