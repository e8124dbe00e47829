-- The rows of `areas` are told by what the pages have.
use Rattle.std.proofs.Common.{◌≡◌, List, map, sym, ap, ◌∙◌}
use Rattle.av_trace.specs.declared.row.Row.{Row}
use Rattle.av_vma.specs.Pages.{Pages}
use Rattle.av_plain.specs.Areas.{Anons}
use Rattle.av_plain.specs.Report.{AreRowsOf, area_row}
use Rattle.av_plain.proofs.Report.Areas.{one_list}

pub one-rows : (anons : Anons) (on : Pages) (rows others : List Row) → AreRowsOf anons on rows → AreRowsOf anons on others → rows ≡ others
one-rows anons on rows others h g = h.1 ∙ ap (map (area_row anons)) (one_list h.0 g.0 h.2 g.2 (λ page. h.3 page ∙ sym (g.3 page))) ∙ sym g.1
