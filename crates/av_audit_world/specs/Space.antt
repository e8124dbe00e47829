-- The pages that a process has.
use Rattle.std.specs.Prelude.{◌≡◌, ℕ, ◌<◌, ◌≤◌, List, [], Option, Some, None, slice_index}
use Rattle.std.specs.Ordering.{nat_cmp}
use Rattle.std.specs.BTreeMap.{get}
use Rattle.std.specs.declared.alloc.Global.{Global}
use Rattle.std.specs.declared.rc.Rc.{Rc}
use Rattle.std.specs.declared.vec.Vec.{Vec}
use Rattle.av_base.specs.Limits.{top_page}
use Rattle.av_base.specs.Page.{page_size}
use Rattle.av_base.specs.declared.flags.Flags.{Flags}
use Rattle.av_base.specs.declared.prot.Prot.{Prot}
use Rattle.av_plain.specs.World.{Page, Process}
use Rattle.av_audit_ranges.specs.Ranges.{marks_at}
use Rattle.av_audit_ranges.specs.declared.marks.Marks.{Marks}
use Rattle.av_audit_world.specs.declared.space.Space.{Space}

-- the two parts of what is said of a page
abbrev pub marks_of : Marks → Prot × Flags
marks_of k = (k.prot, k.flags)

-- the bytes of a page, which several processes may have
abbrev pub PageBytes : Type 0
PageBytes = Rc (Vec ℕ Global) Global

-- the bytes that are kept of a page, if any are
abbrev pub bytes_in : Option PageBytes → List ℕ
bytes_in None = []
bytes_in (Some bytes) = bytes.value.items

-- the byte at a place of such a page
abbrev pub byte_in : Option PageBytes → ℕ → ℕ
byte_in bytes i = slice_index (bytes_in bytes) i

-- a page of which this is said and that has these bytes; or none is mapped
abbrev pub IsPage : Option Marks → (ℕ → ℕ) → Option Page → Type 0
IsPage None at None = Unit {0}
IsPage None at (Some p) = ⊥
IsPage (Some k) at None = ⊥
IsPage (Some k) at (Some p) = (p.prot ≡ k.prot) × (p.flags ≡ k.flags)
    × ((i : ℕ) → i < page_size → p.bytes i ≡ Some (at i))

-- the process has these pages, none of them at the top or above
pub record IsSpace (s : Space) (q : Process) : Type 0 where
  pub pages : (page : ℕ)
      → IsPage (marks_at s.ranges page) (byte_in (get nat_cmp s.bytes page)) (q page)
  pub top : (page : ℕ) → top_page ≤ page → q page ≡ None
