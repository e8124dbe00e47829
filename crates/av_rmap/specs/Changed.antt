-- Entries that a walk changes.
use Rattle.std.specs.Prelude.{ℕ, List, [], ◌∷◌, Option, Some, None}
use Rattle.av_pagetable.specs.declared.pte.Pte.{Pte}
use Rattle.av_pagetable.specs.Entries.{with_entry}
use Rattle.av_vma.specs.declared.area.Area.{Area}
use Rattle.av_rmap.specs.View.{View}
use Rattle.av_rmap.specs.Walk.{page_at}

-- all entries
abbrev pub with_changed : (Pte → Pte) → View → View
with_changed change view =
    record view { entry = λ process page. change (view.entry process page) }

-- only that of the area's page with the index
abbrev pub changed_in : (Pte → Pte) → ℕ → Option Area → View → View
changed_in change index None view = view
changed_in change index (Some area) view =
    let page = page_at index area in
    record view {
      entry = with_entry area.pid page (change (view.entry area.pid page)) view.entry;
    }

-- one after the other those of these areas' pages with it
abbrev pub changed_over : (Pte → Pte) → ℕ → List ℕ → View → View
changed_over change index [] view = view
changed_over change index (a ∷ areas) view =
    changed_over change index areas (changed_in change index (view.areas a) view)
