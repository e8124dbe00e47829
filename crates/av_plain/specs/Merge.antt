-- Merging: pages with equal bytes come to share one frame.
use Rattle.std.specs.List.{find, list_all, range_with_len}
use Rattle.std.specs.Prelude.{◌≡◌, ℕ, not, ◌&&◌, ◌==◌, if◌then◌else◌, Bool, true, false, List, []}
use Rattle.std.specs.Prelude.{◌∷◌, ◌++◌, map, Option, Some, None, option_and_then, is_none}
use Rattle.std.specs.Prelude.{IsSomeAnd, ◌<◌, ◌⊎◌}
use Rattle.av_base.specs.Keys.{Key}
use Rattle.av_base.specs.Page.{address_of, page_size}
use Rattle.av_trace.specs.declared.note.Note.{Note}
use Rattle.av_trace.specs.declared.note.Note.TheVariants.{Shared, Joined}
use Rattle.av_trace.specs.declared.reply.Answer.{Answer}
use Rattle.av_trace.specs.declared.reply.Answer.TheVariants.{Done}
use Rattle.av_trace.specs.declared.row.Row.{Row}
use Rattle.av_plain.specs.Event.{Event, after_notes, frame_of, note_events}
use Rattle.av_plain.specs.Fault.{is_locked}
use Rattle.av_plain.specs.Ledger.{Entry, InFrame, Ledger, Setting, entry, is_merged, names_frame}
use Rattle.av_plain.specs.Ledger.{slot_of}
use Rattle.av_plain.specs.World.{Holds, Page, World, pages}

-- ---- what frames hold

-- the bytes of each frame, by their place in it
abbrev pub FrameBytes : Type 0
FrameBytes = ℕ → ℕ → ℕ

-- the frames hold what the pages claim whose entries name them; a byte that no page claims may be
-- any
abbrev pub HoldClaims : World → Ledger → FrameBytes → Type 0
HoldClaims w l held = (k : Key) (f : ℕ) → IsSomeAnd (entry l k) (λ e. names_frame f e ≡ true)
    → Holds (pages w k.0 k.1) (held f)

-- whether two frames hold the same
abbrev pub hold_same : FrameBytes → ℕ → ℕ → Bool
hold_same held f g = list_all (λ i. held f i == held g i) (range_with_len 0 page_size)

-- ---- candidates

-- whether there is a page, and it may be merged
abbrev pub may_merge : Option Page → Bool
may_merge None = false
may_merge (Some page) = page.flags.mergeable

-- the frame of a page, by its entry, if it may join another: the page may be merged, and the frame
-- is neither merged nor cached nor one of a locked page
abbrev pub candidate_by : World → Ledger → Key → Option Entry → Option ℕ
candidate_by w l k (Some (InFrame f seen)) =
    if may_merge (pages w k.0 k.1) && not (is_merged l f) && is_none (slot_of l f)
    && not (is_locked w l f)
    then Some f else None
candidate_by w l k entry = None

abbrev pub candidate : World → Ledger → Key → Option ℕ
candidate w l k = candidate_by w l k (entry l k)

-- ---- one page

-- the least merged frame that holds the same as f
abbrev pub merged_like : Setting → FrameBytes → Ledger → ℕ → Option ℕ
merged_like m held l f = find (λ g. is_merged l g && hold_same held g f) (range_with_len 0 m.frames)

-- the first of some frames that is another than f and holds the same
abbrev pub other_like : FrameBytes → List ℕ → ℕ → Option ℕ
other_like held frames f = find (λ h. not (h == f) && hold_same held h f) frames

-- a page joins a merged frame, or else an earlier candidate's, which is merged then
abbrev pub join_notes : Key → Option ℕ → Option ℕ → List Note
join_notes k (Some g) other = Joined k.0 (address_of k.1) g ∷ []
join_notes k None (Some h) = Shared h ∷ Joined k.0 (address_of k.1) h ∷ []
join_notes k None None = []

-- a page in its turn, by the frame that it has as a candidate and the frames of the candidates
-- before it
abbrev pub merge_notes : Setting → FrameBytes → Ledger → List ℕ → Key → Option ℕ → List Note
merge_notes m held l earlier k None = []
merge_notes m held l earlier k (Some f) =
    join_notes k (merged_like m held l f) (other_like held earlier f)

-- and then this page is one of those before
abbrev pub with_candidate : List ℕ → Option ℕ → List ℕ
with_candidate earlier None = earlier
with_candidate earlier (Some f) = earlier ++ f ∷ []

-- ---- the command

-- the pages in turn, each by what those before it left
abbrev pub merges : Setting → FrameBytes → World → Ledger → List ℕ → List Key → List Note
merges m held w l earlier [] = []
merges m held w l earlier (k ∷ ks) =
    let here = merge_notes m held l earlier k (candidate w l k) in
    here ++ merges m held w (after_notes l here) (with_candidate earlier (candidate w l k)) ks

-- merge: the pages with an entry, by process and address
abbrev pub Merges : Setting → World → Ledger → List Event → Answer → List Row → Type 0
Merges m w l events answer rows = (held : FrameBytes) × HoldClaims w l held
    × (events ≡ note_events (merges m held w l [] (map (λ e. e.0) l.entries)))
    × (answer ≡ Done) × (rows ≡ [])

-- ---- which pages share a frame

-- the frame that the page's entry names, if it names one
abbrev pub frame_named : Ledger → Key → Option ℕ
frame_named l k = option_and_then frame_of (entry l k)

-- the pages that are candidates in their turn, each with its frame
abbrev pub with_page : Key → Option ℕ → List (Key × ℕ) → List (Key × ℕ)
with_page k None cs = cs
with_page k (Some f) cs = (k, f) ∷ cs

abbrev pub candidates : Setting → FrameBytes → World → Ledger → List ℕ → List Key → List (Key × ℕ)
candidates m held w l earlier [] = []
candidates m held w l earlier (k ∷ ks) =
    let now = after_notes l (merge_notes m held l earlier k (candidate w l k)) in
    with_page k (candidate w l k)
    (candidates m held w now (with_candidate earlier (candidate w l k)) ks)

-- one of some pages with a frame
abbrev pub Has : Key × ℕ → List (Key × ℕ) → Type 0
Has c [] = ⊥
Has c (x ∷ xs) = (c ≡ x) ⊎ Has c xs

-- a page claims this byte
abbrev pub Claims : World → Key → ℕ → ℕ → Type 0
Claims w k i b = IsSomeAnd (pages w k.0 k.1) (λ p. p.bytes i ≡ Some b)

-- two pages claim each byte, and the same
abbrev pub ClaimSame : World → Key → Key → Type 0
ClaimSame w k q = (i : ℕ) → i < page_size → (b : ℕ) × Claims w k i b × Claims w q i b

-- ---- what a page joins

-- the page's entry named one frame, and names a merged one now, unseen, that holds the same
pub record HasJoined (held : FrameBytes) (l l' : Ledger) (k : Key) : Type 0 where
  pub was : ℕ
  pub frame : ℕ
  pub named : frame_named l k ≡ Some was
  pub entry_is : entry l' k ≡ Some (InFrame frame false)
  pub merged : is_merged l' frame ≡ true
  pub same : hold_same held frame was ≡ true
