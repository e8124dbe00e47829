-- The bytes of frames as a list of pages, of which only the first are written out.
use Rattle.std.specs.Prelude.{◌≡◌, ℕ, ◌-◌, List, ◌++◌, length, replicate, slice_index, slice_set}
use Rattle.av_base.specs.Page.{page_size}

-- a page of zeros
abbrev pub zeros : List ℕ
zeros = replicate page_size 0

-- so many pages: these, then zeros
abbrev pub all_pages : List (List ℕ) → ℕ → List (List ℕ)
all_pages filled count = filled ++ replicate (count - length filled) zeros

-- one page has these bytes now, and no other page changes
abbrev pub WritesOver : ℕ → (ℕ → ℕ) → List (List ℕ) → List (List ℕ) → Type 0
WritesOver frame bytes old new =
    (page : List ℕ) × (new ≡ slice_set old frame page) × ((i : ℕ) → slice_index page i ≡ bytes i)
