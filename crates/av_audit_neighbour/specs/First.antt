-- Which page tells what a frame holds.
use Rattle.std.specs.Prelude.{◌≡◌, ◌⊎◌, ◌<◌, ℕ, Bool, true, false, IsSomeAnd, Some}
use Rattle.std.specs.Prelude.{MatchBool, ◌==◌, is_some, slice_index}
use Rattle.std.specs.List.{list_all, range_with_len}
use Rattle.std.specs.BTreeMap.{BTreeMap, get}
use Rattle.std.specs.Ordering.{nat_cmp}
use Rattle.av_base.specs.Keys.{Key}
use Rattle.av_base.specs.Page.{page_size}
use Rattle.av_plain.specs.Ledger.{Ledger, entry, names_frame}
use Rattle.av_plain.specs.Merge.{FrameBytes, HoldClaims}
use Rattle.av_plain.specs.World.{Holds, World, pages}
use Rattle.av_audit_world.specs.declared.memories.Memories.{Memories}
use Rattle.av_audit_neighbour.specs.Held.{bytes_of_page}

-- for each frame the page that tells, if one does
abbrev pub FramePages : Type 0
FramePages = BTreeMap ℕ Key

-- whether two pages hold the same, by what is kept of them
abbrev pub same_page : Memories → Key → Key → Bool
same_page memories k q = list_all
    (λ i. slice_index (bytes_of_page memories k) i == slice_index (bytes_of_page memories q) i)
    (range_with_len 0 page_size)

-- a frame for which a page told has it still
abbrev pub StillTell : FramePages → FramePages → Type 0
StillTell old new = (f : ℕ) (q : Key) → get nat_cmp old f ≡ Some q → get nat_cmp new f ≡ Some q

-- the page tells of the frame now, or one did that holds the same; and of other frames none
-- tells that didn't. Or one did that doesn't hold the same
pub record IsToldFor (memories : Memories) (old : FramePages) (f : ℕ) (k : Key) (new : FramePages)
    : Type 0 where
  pub first : Key
  pub tells : get nat_cmp new f ≡ Some first
  pub same : same_page memories first k ≡ true
  pub still : StillTell old new
  pub only : (g : ℕ) (q : Key) → get nat_cmp new g ≡ Some q
      → (get nat_cmp old g ≡ Some q) ⊎ ((g ≡ f) × (q ≡ k))

abbrev pub TellsFrame : Memories → FramePages → ℕ → Key → Bool → FramePages → Type 0
TellsFrame memories old f k same new = MatchBool same (IsToldFor memories old f k new)
    ((first : Key) × (get nat_cmp old f ≡ Some first) × (same_page memories first k ≡ false))

-- what a frame holds by these bytes is what the page has that tells of it
abbrev pub AreTrue : Memories → FrameBytes → FramePages → Type 0
AreTrue memories held pages = (f : ℕ) (q : Key) → get nat_cmp pages f ≡ Some q
    → (i : ℕ) → i < page_size → held f i ≡ slice_index (bytes_of_page memories q) i

-- a page tells of the frame that this page's entry names, if it is mapped, and what that claims
abbrev pub Fits : World → Ledger → Memories → FramePages → Key → Type 0
Fits w l memories told k = (f : ℕ) → IsSomeAnd (entry l k) (λ e. names_frame f e ≡ true)
    → is_some (pages w k.0 k.1) ≡ true
    → (q : Key) × (get nat_cmp told f ≡ Some q)
    × Holds (pages w k.0 k.1) (slice_index (bytes_of_page memories q))

-- it is so now, whatever holds what the pages claim
pub record HasTold (w : World) (l : Ledger) (memories : Memories) (old : FramePages) (k : Key)
    (new : FramePages) : Type 0 where
  pub fits : Fits w l memories new k
  pub still : StillTell old new
  pub true_yet : (held : FrameBytes) → HoldClaims w l held → AreTrue memories held old
      → AreTrue memories held new

-- or nothing holds what the pages claim
abbrev pub IsTold : World → Ledger → Memories → FramePages → Key → Bool → FramePages → Type 0
IsTold w l memories old k same new = MatchBool same (HasTold w l memories old k new)
    ((held : FrameBytes) → HoldClaims w l held → AreTrue memories held old → ⊥)
