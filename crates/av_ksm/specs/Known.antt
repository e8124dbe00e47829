-- What a merge knows of what frames hold: the frames that were merged before it, and those of its
-- candidates so far, but for those that hold what another one did.
use Rattle.std.specs.List.{find, range_with_len}
use Rattle.std.specs.Prelude.{◌≡◌, ◌⊎◌, ◌<◌, ℕ, ◌==◌, if◌then◌else◌, Bool, true}
use Rattle.std.specs.Prelude.{List, [], ◌∷◌, ◌++◌, filter, map, Option, Some, None}
use Rattle.av_base.specs.Keys.{Key}
use Rattle.av_base.specs.Page.{address_of}
use Rattle.av_trace.specs.declared.note.Note.{Note}
use Rattle.av_trace.specs.declared.note.Note.TheVariants.{Joined, Shared}
use Rattle.av_plain.specs.Event.{after_notes}
use Rattle.av_plain.specs.Ledger.{Ledger, Setting, is_merged}
use Rattle.av_plain.specs.Merge.{FrameBytes, hold_same, merge_notes, merged_like, other_like}
use Rattle.av_ksm.specs.Join.{HasOwn}

-- a frame, and the page that has it, unless it was merged before
abbrev pub Known : Type 0
Known = ℕ × Option Key

-- the first that holds the same as a frame
abbrev pub first_like : FrameBytes → List Known → ℕ → Option Known
first_like held known f = find (λ x. hold_same held x.0 f) known

-- the page has the frame still, which is neither merged nor cached
pub record WaitsAt (l : Ledger) (x : Known) : Type 0 where
  pub key : Key
  pub page : x.1 ≡ Some key
  pub seen : Bool
  pub own : HasOwn l key x.0 seen

-- the frame is one that an earlier candidate has still, and the first that may be merged with f
pub record Waits (m : Setting) (held : FrameBytes) (l : Ledger) (earlier : List ℕ) (f : ℕ)
    (x : Known) : Type 0 where
  pub at : WaitsAt l x
  pub merged : merged_like m held l f ≡ None
  pub other : other_like held earlier f ≡ (if x.0 == f then None else Some x.0)

-- it is merged, the least of those that hold the same
pub record IsLeast (m : Setting) (held : FrameBytes) (l : Ledger) (f : ℕ) (x : Known) : Type 0 where
  pub merged : is_merged l x.0 ≡ true
  pub least : merged_like m held l f ≡ Some x.0

-- what a page with the frame f may join, by what is known
abbrev pub MayJoin : Setting → FrameBytes → Ledger → List ℕ → ℕ → Option Known → Type 0
MayJoin m held l earlier f None =
    (merged_like m held l f ≡ None) × (other_like held earlier f ≡ None)
MayJoin m held l earlier f (Some x) = IsLeast m held l f x ⊎ Waits m held l earlier f x

-- this is known, whatever the frame
abbrev pub Knows : Setting → FrameBytes → Ledger → List ℕ → List Known → Type 0
Knows m held l earlier known = (f : ℕ) → MayJoin m held l earlier f (first_like held known f)

-- ---- a turn

-- before the first page: the frames that are merged
abbrev pub as_merged : ℕ → Known
as_merged f = (f, None)

abbrev pub known_at_first : Setting → Ledger → List Known
known_at_first m l = map as_merged (filter (is_merged l) (range_with_len 0 m.frames))

-- what a page with the frame f does by the first known frame that holds the same
abbrev pub turn_notes : Ledger → Key → ℕ → ℕ → List Note
turn_notes l k f g = if g == f then []
    else if is_merged l g then Joined k.0 (address_of k.1) g ∷ []
    else Shared g ∷ Joined k.0 (address_of k.1) g ∷ []

-- a candidate, by that frame: these are its notes, and after them this is known
abbrev pub TakesTurn : Setting → FrameBytes → Ledger → List ℕ → List Known → Key → ℕ → Option Known
    → Type 0
TakesTurn m held l earlier known k f None =
    (merge_notes m held l earlier k (Some f) ≡ [])
    × Knows m held l (earlier ++ f ∷ []) (known ++ (f, Some k) ∷ [])
TakesTurn m held l earlier known k f (Some x) =
    (merge_notes m held l earlier k (Some f) ≡ turn_notes l k f x.0)
    × (x.0 < m.frames
    → Knows m held (after_notes l (turn_notes l k f x.0)) (earlier ++ f ∷ []) known)
