-- Which entries say that their page was accessed, and of which frames none does.
use Rattle.std.specs.Prelude.{◌≡◌, ℕ, Bool, true, false, ◌&&◌, ◌==◌, List, slice_index_or}
use Rattle.av_pagetable.specs.declared.pte.Pte.{Pte}
use Rattle.av_pagetable.specs.declared.pte.Pte.TheVariants.{Empty, Zero, Here, Away}

-- whether an entry names the frame
abbrev pub names_frame : ℕ → Pte → Bool
names_frame frame Empty = false
names_frame frame Zero = false
names_frame frame (Here other write seen) = frame == other
names_frame frame (Away slot) = false

-- whether it names the frame and says that the page was accessed
abbrev pub names_seen : ℕ → Pte → Bool
names_seen frame Empty = false
names_seen frame Zero = false
names_seen frame (Here other write seen) = frame == other && seen
names_seen frame (Away slot) = false

-- no entry that names the frame is seen
abbrev pub IsUnseen : (ℕ → ℕ → Pte) → ℕ → Type 0
IsUnseen entry frame = (process page : ℕ) → names_seen frame (entry process page) ≡ false

-- whether the frame has a mark
abbrev pub is_marked : List Bool → ℕ → Bool
is_marked marks frame = slice_index_or marks frame false

-- no entry that names a frame with a mark is seen
abbrev pub AreUnseen : (ℕ → ℕ → Pte) → List Bool → Type 0
AreUnseen entry marks = (frame : ℕ) → is_marked marks frame ≡ true → IsUnseen entry frame
