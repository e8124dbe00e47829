-- What the stores show to a walk.
use Rattle.av_vma.specs.Areas.{area_of}
use Rattle.av_anon.specs.Anons.{family}
use Rattle.av_anon.specs.Spans.{spans_of}
use Rattle.av_pagetable.specs.Entries.{entry_at}
use Rattle.av_rmap.specs.View.{View, view_with}
use Rattle.av_rmap.specs.declared.stores.Stores.{Stores}
use Rattle.av_rmap.specs.declared.stores.StoresMut.{StoresMut}

abbrev pub view_of : Stores → View
view_of s =
    view_with (area_of s.areas.now) (family s.anons.now) (spans_of s.anons.now) (entry_at
    s.tables.now)

abbrev pub view_of_mut : StoresMut → View
view_of_mut s =
    view_with (area_of s.areas.now) (family s.anons.now) (spans_of s.anons.now) (entry_at
    s.tables.now)
