-- The swap areas of a device: how many pages each has, what the pages hold where that is told, and
-- what a call changes of them; and what a device was asked.
use Rattle.std.specs.Prelude.{◌≡◌, ℕ, ◌-◌, ◌<◌, if◌then◌else◌, List, [], map, min, length}
use Rattle.std.specs.Prelude.{◌++◌, ◌∷◌}
use Rattle.std.specs.Prelude.{slice_index, slice_index_or, Bool, false, Option, Some, None}
use Rattle.std.specs.Prelude.{option_map, IfSome, IsSomeAnd}
use Rattle.av_base.specs.Words.{with_at}
use Rattle.av_base.specs.Page.{page_size}
use Rattle.av_base.specs.declared.slot.Slot.{Slot}
use Rattle.std.specs.declared.vec.Vec.{Vec}
use Rattle.std.specs.declared.alloc.Global.{Global}

-- a device has at most so many swap areas
abbrev pub most_areas : ℕ
most_areas = 8

-- of each so many pages are used at most, so that the number of a slot fits twenty bits
abbrev pub most_pages : ℕ
most_pages = 1048576

-- pages by area and number, with the bytes of one changed
abbrev pub with_page : ℕ → ℕ → List ℕ → (ℕ → ℕ → List ℕ) → ℕ → ℕ → List ℕ
with_page area page bytes told = with_at area (with_at page bytes (told area)) told

-- the area is attached, and has the page
abbrev pub HasPage : (ℕ → Option ℕ) → ℕ → ℕ → Type 0
HasPage sizes area page = IsSomeAnd (sizes area) (λ n. page < n)

-- the page holds these bytes, where that is told
abbrev pub Holds : Option (ℕ → ℕ → List ℕ) → ℕ → ℕ → List ℕ → Type 0
Holds pages area page bytes = IfSome pages (λ told. told area page ≡ bytes)

-- the page holds these bytes now, and each other page what it held
abbrev pub IsWritten :
    ℕ → ℕ → List ℕ → Option (ℕ → ℕ → List ℕ) → Option (ℕ → ℕ → List ℕ) → Type 0
IsWritten area page bytes old new = new ≡ option_map (with_page area page bytes) old

-- the page holds some bytes now, and each other page what it held
abbrev pub IsSpoiled : ℕ → ℕ → Option (ℕ → ℕ → List ℕ) → Option (ℕ → ℕ → List ℕ) → Type 0
IsSpoiled area page old new = (bytes : List ℕ) × IsWritten area page bytes old new

-- each bit of a page's bytes is inverted
abbrev pub IsInverted : List ℕ → List ℕ → Type 0
IsInverted old new = (k : ℕ) → k < page_size → slice_index new k ≡ 255 - slice_index old k

-- the area has some pages now, and those of each other area hold what they held
abbrev pub IsRenewed : ℕ → Option (ℕ → ℕ → List ℕ) → Option (ℕ → ℕ → List ℕ) → Type 0
IsRenewed area old new = (own : ℕ → List ℕ) × (new ≡ option_map (with_at area own) old)

-- the pages of an area, in the list of areas
abbrev pub area_in : List (Vec (List ℕ) Global) → ℕ → List (List ℕ)
area_in areas area = slice_index_or (map (λ v. v.items) areas) area []

-- how many of them are used
abbrev pub size_in : List (Vec (List ℕ) Global) → ℕ → ℕ
size_in areas area = min (length (area_in areas area)) most_pages

-- the sizes of those that are attached
abbrev pub sizes_in : List Bool → List (Vec (List ℕ) Global) → ℕ → Option ℕ
sizes_in attached areas area =
    if slice_index_or attached area false then Some (size_in areas area) else None

-- what each page holds
abbrev pub pages_in : List (Vec (List ℕ) Global) → ℕ → ℕ → List ℕ
pages_in areas area page = slice_index_or (area_in areas area) page []

-- ---- what a device was asked

-- a swap area that was to be attached: its number, the name, and whether that went well
pub record Attach : Type 0 where
  pub area : ℕ
  pub name : List ℕ
  pub well : Bool

-- what was to be attached, and which pages were to be written, in the order of the calls; a call
-- that failed is one, too
pub record History : Type 0 where
  pub attached : List Attach
  pub written : List Slot

-- before any call
abbrev pub no_history : History
no_history = record { attached = []; written = [] }

-- after one more
abbrev pub after_attach : ℕ → List ℕ → Bool → History → History
after_attach area name well history = record history {
  attached = history.attached ++ record { area = area; name = name; well = well } ∷ [];
}

abbrev pub after_write : ℕ → ℕ → History → History
after_write area page history =
    record history { written = history.written ++ record { area = area; page = page } ∷ [] }
