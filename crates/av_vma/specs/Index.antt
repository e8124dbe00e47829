-- The linear index of a page.
use Rattle.std.specs.Prelude.{ℕ, ◌+◌, ◌-◌}
use Rattle.av_base.specs.Page.{page_of}
use Rattle.av_vma.specs.declared.area.Area.{Area}

-- the first page of an area, and the first one past it
abbrev pub first_of : Area → ℕ
first_of area = page_of area.start

abbrev pub past_of : Area → ℕ
past_of area = page_of area.end

-- the linear index of a page: it runs on from the area's offset
abbrev pub index_of : Area → ℕ → ℕ
index_of area page = (page - first_of area) + area.pgoff
