-- How a slot of a swap area that is closing is emptied.
use Rattle.std.specs.Prelude.{◌≡◌, ℕ, ◌<◌, ◌≤◌, ◌+◌, true, false, List, [], ◌∷◌, map, Option}
use Rattle.std.specs.Prelude.{Some, None}
use Rattle.std.specs.List.{list_any}
use Rattle.av_base.specs.Keys.{Key, same_key}
use Rattle.av_base.specs.Page.{address_of}
use Rattle.av_base.specs.declared.slot.Slot.{Slot}
use Rattle.av_io.specs.Count.{RoseBy}
use Rattle.av_trace.specs.declared.note.Note.{Note}
use Rattle.av_trace.specs.declared.note.Note.TheVariants.{Loaded, Mapped}
use Rattle.av_plain.specs.Event.{after_notes}
use Rattle.av_plain.specs.Ledger.{InSlot, Ledger, Setting, entry, frame_at, has_free, is_free}
use Rattle.av_plain.specs.Ledger.{slot_count}
use Rattle.av_plain.specs.Pass.{Seeks, Spared, fails, out_of}
use Rattle.av_plain.specs.Swapoff.{IsFetched, map_notes}
use Rattle.av_evict.specs.System.{SystemView, spares}
use Rattle.av_swapoff.specs.System.{IsUser}
use Rattle.av_swapoff.specs.declared.slot.FetchEnd.{FetchEnd}
use Rattle.av_swapoff.specs.declared.slot.FetchEnd.TheVariants.{In, NoFrame, Unread}

-- the frame that was free took the page, or the device did not give it
abbrev pub IsLoaded : Setting → Slot → Option ℕ → Ledger → List Note → Type 0
IsLoaded m s None l notes = notes ≡ []
IsLoaded m s (Some f) l notes =
    (f < m.frames) × (is_free l f ≡ true) × (notes ≡ Loaded s f ∷ [])

-- nothing is in flight, the slot is in use, and the key is its user
pub record MayFetch (s : Slot) (key : Key) (l : Ledger) : Type 0 where
  pub landed : l.flight ≡ []
  pub used : 0 < slot_count l s
  pub user : IsUser l s key

-- a page is not cached, and what comes before a frame is taken came
pub record IsSought (m : Setting) (spared : Spared) (s : Slot) (l : Ledger) (notes : List Note)
    : Type 0 where
  pub absent : frame_at l s ≡ None
  pub seeks : Seeks m spared l notes

-- what was done for a slot's page: it is in this frame; or none was free, by these numbers, of
-- which no more are called cached than there are `fail` notes; or one was, and the device did not
-- give the page
abbrev pub Fetches : Setting → Spared → Slot → FetchEnd → Ledger → List Note → Type 0
Fetches m spared s (In f) l notes = IsFetched m spared l s f notes
Fetches m spared s (NoFrame out) l notes =
    IsSought m spared s l notes × (has_free m (after_notes l notes) ≡ false)
    × (out ≡ out_of m spared (after_notes l notes)) × (out.fault ≤ fails notes)
Fetches m spared s Unread l notes =
    IsSought m spared s l notes × (has_free m (after_notes l notes) ≡ true)

-- by what the device gave
abbrev pub fetched_of : Option ℕ → FetchEnd
fetched_of None = Unread
fetched_of (Some f) = In f

-- how often the device failed beside the `fail` notes
abbrev pub unread_of : FetchEnd → ℕ
unread_of (In f) = 0
unread_of (NoFrame out) = 0
unread_of Unread = 1

-- the same, by what a pass over the system leaves alone at first; and the device failed at least so
-- often
abbrev pub FetchesBy : SystemView → SystemView → Slot → FetchEnd → Ledger → List Note → Type 0
FetchesBy old new s fetched l notes =
    Fetches old.setting (spares old None) s fetched l notes
    × RoseBy (fails notes + unread_of fetched) old.failures new.failures

-- the frame caches the slot, and nothing is in flight
pub record IsIn (s : Slot) (f : ℕ) (l : Ledger) : Type 0 where
  pub cached : frame_at l s ≡ Some f
  pub landed : l.flight ≡ []

-- each entry that names the slot becomes the frame, and the slot is dropped
abbrev pub MapsBack : Slot → ℕ → Ledger → List Note → Type 0
MapsBack s f l notes = notes ≡ map_notes l s f

-- the keys are apart
abbrev pub AreApart : List Key → Type 0
AreApart [] = Unit {0}
AreApart (k ∷ ks) = (list_any (same_key k) ks ≡ false) × AreApart ks

-- the entries of these keys, which are apart, name the slot, which the frame caches
pub record MayMapAll (s : Slot) (f : ℕ) (keys : List Key) (l : Ledger) : Type 0 where
  pub named : (k : Key) → list_any (same_key k) keys ≡ true → entry l k ≡ Some (InSlot s)
  pub apart : AreApart keys
  pub cached : frame_at l s ≡ Some f

-- the notes of these
abbrev pub mapped_notes : ℕ → List Key → List Note
mapped_notes f keys = map (λ (k : Key). Mapped k.0 (address_of k.1) f) keys
