-- What a merge knows of what frames hold: the frames that were merged before it, and those of its
-- candidates so far, but for those that hold what another one did.
use Rattle.std.specs.List.{find, range_with_len}
use Rattle.std.specs.Prelude.{◌≡◌, ◌⊎◌, ◌<◌, ℕ, ◌==◌, if◌then◌else◌, true}
use Rattle.std.specs.Prelude.{List, [], ◌∷◌, filter, IsSomeAnd, Option, Some, None}
use Rattle.av_base.specs.Keys.{Key}
use Rattle.av_base.specs.Page.{address_of}
use Rattle.av_trace.specs.declared.note.Note.{Note}
use Rattle.av_trace.specs.declared.note.Note.TheVariants.{Joined, Shared}
use Rattle.av_plain.specs.Ledger.{Ledger, Setting, entry, is_merged, names_frame}
use Rattle.av_plain.specs.Merge.{FrameBytes, hold_same, merged_like, other_like}

-- the first that holds the same as a frame
abbrev pub first_like : FrameBytes → List ℕ → ℕ → Option ℕ
first_like held known f = find (λ x. hold_same held x f) known

-- none that is merged holds the same as f, and of the earlier candidates that do this one is the
-- first
pub record Waits (m : Setting) (held : FrameBytes) (l : Ledger) (earlier : List ℕ) (f x : ℕ)
    : Type 0 where
  pub below : x < m.frames
  pub merged : merged_like m held l f ≡ None
  pub other : other_like held earlier f ≡ (if x == f then None else Some x)

-- what a page with the frame f may join, by what is known
abbrev pub MayJoin : Setting → FrameBytes → Ledger → List ℕ → ℕ → Option ℕ → Type 0
MayJoin m held l earlier f None =
    (merged_like m held l f ≡ None) × (other_like held earlier f ≡ None)
MayJoin m held l earlier f (Some x) =
    (merged_like m held l f ≡ Some x) ⊎ Waits m held l earlier f x

-- this is known, whatever the frame
abbrev pub Knows : Setting → FrameBytes → Ledger → List ℕ → List ℕ → Type 0
Knows m held l earlier known = (f : ℕ) → MayJoin m held l earlier f (first_like held known f)

-- before the first page: the frames that are merged, the least first
abbrev pub known_at_first : Setting → Ledger → List ℕ
known_at_first m l = filter (is_merged l) (range_with_len 0 m.frames)

-- what a page with the frame f does by the first known frame that holds the same
abbrev pub turn_notes : Ledger → Key → ℕ → ℕ → List Note
turn_notes l k f g = if is_merged l g then Joined k.0 (address_of k.1) g ∷ []
    else if g == f then []
    else Shared g ∷ Joined k.0 (address_of k.1) g ∷ []

-- entries name frames of the machine
abbrev pub AreInRange : Setting → Ledger → Type 0
AreInRange m l = (k : Key) (f : ℕ) → IsSomeAnd (entry l k) (λ e. names_frame f e ≡ true)
    → f < m.frames
