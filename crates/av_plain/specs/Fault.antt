-- How one page is made ready for an access: which notes come, or why it is not served.
use Rattle.std.specs.Prelude.{◌≡◌, ◌⊎◌, ℕ, Bool, true, false, not, ◌&&◌, ◌||◌, ◌==◌, nat_lt}
use Rattle.std.specs.Prelude.{if◌then◌else◌, IsTrue, List, [], ◌∷◌, ◌++◌, Option, Some, None}
use Rattle.std.specs.List.{list_any}
use Rattle.av_base.specs.Keys.{Key}
use Rattle.av_base.specs.Page.{address_of}
use Rattle.av_base.specs.declared.slot.Slot.{Slot}
use Rattle.av_trace.specs.declared.reply.OutOf.{OutOf}
use Rattle.av_trace.specs.declared.note.Note.{Note}
use Rattle.av_trace.specs.declared.note.Note.TheVariants.{Zeroed, New, Copied, Loaded, Mapped}
use Rattle.av_trace.specs.declared.note.Note.TheVariants.{Dropped}
use Rattle.av_plain.specs.World.{World, Page, pages, allows, is_locked_page}
use Rattle.av_plain.specs.Ledger.{Ledger, Setting, Entry, Zero, InFrame, InSlot, entry}
use Rattle.av_plain.specs.Ledger.{map_count, slot_entries, slot_of, frame_at, in_flight, has_free}
use Rattle.av_plain.specs.Ledger.{is_full, is_merged, walk}
use Rattle.av_plain.specs.Event.{after_notes, when}
use Rattle.av_plain.specs.Pass.{Spared, Seeks, TakesFor, out_of}

-- ---- what a page needs

-- an entry names the slot, if there is one
abbrev pub is_named : Ledger → Option Slot → Bool
is_named l None = false
is_named l (Some s) = nat_lt 0 (slot_entries l s)

-- a write to the frame has to copy it: another entry names it, or an entry names its slot, or it is
-- merged
abbrev pub asks_copy : Ledger → ℕ → Bool
asks_copy l f = nat_lt 1 (map_count l f) || is_named l (slot_of l f) || is_merged l f

-- what a page needs before it can be read or written
pub data Need : Type 0 where
  Ready : Need
  ZeroPage : Need
  NewPage : Need
  -- a copy of the frame
  CopyOnWrite : (frame : ℕ) → Need
  -- a frame for what is in the slot, on the device alone
  SwapIn : (slot : Slot) → Need
  -- the frame that caches its slot
  MapCached : (frame : ℕ) → Need

-- what a page needs whose entry names the slot, by the frame that caches it
abbrev pub need_of_slot : Slot → Option ℕ → Need
need_of_slot s None = SwapIn s
need_of_slot s (Some f) = MapCached f

-- what a page needs, by its entry
abbrev pub need : Bool → Ledger → Option Entry → Need
need false l None = ZeroPage
need true l None = NewPage
need false l (Some Zero) = Ready
need true l (Some Zero) = NewPage
need false l (Some (InFrame f seen)) = Ready
need true l (Some (InFrame f seen)) = if asks_copy l f then CopyOnWrite f else Ready
need write l (Some (InSlot s)) = need_of_slot s (frame_at l s)

-- ---- a frame is taken for it

-- what a pass leaves alone, by the ledger and the frame that is about to be copied, if there is one
abbrev pub Sparing : Type 0
Sparing = Ledger → Option ℕ → Spared

-- whether a page of the frame's walk is locked
abbrev pub is_locked : World → Ledger → ℕ → Bool
is_locked w l f = list_any (λ (k : Key). is_locked_page (pages w k.0 k.1)) (walk l f)

-- in an access that frame and those of locked pages are left alone, and no swap area is closing
abbrev pub sparing : World → Sparing
sparing w l pinned = record { pinned = pinned; locked = is_locked w l; closing = None }

-- a frame is taken, behind the pass if there is one
abbrev pub Takes : Setting → Sparing → Ledger → Option ℕ → List Note → (ℕ → Note) → Type 0
Takes m spares l pinned notes note = TakesFor m (spares l pinned) l notes note

-- ---- a page is served

-- a page on the device or in the cache comes in: then its entry is a frame
abbrev pub ComesIn : Setting → Sparing → Ledger → Key → Need → List Note → Type 0
ComesIn m spares l k (SwapIn s) notes =
    (loaded : List Note) × (f : ℕ) × Takes m spares l None loaded (Loaded s)
    × (frame_at (after_notes l loaded) s ≡ Some f)
    × (notes ≡ loaded ++ Mapped k.0 (address_of k.1) f ∷ [])
ComesIn m spares l k (MapCached f) notes = notes ≡ Mapped k.0 (address_of k.1) f ∷ []
ComesIn m spares l k Ready notes = notes ≡ []
ComesIn m spares l k ZeroPage notes = notes ≡ []
ComesIn m spares l k NewPage notes = notes ≡ []
ComesIn m spares l k (CopyOnWrite g) notes = notes ≡ []

-- what a page whose entry is no slot gets
abbrev pub IsMade : Setting → Sparing → Ledger → Key → Need → List Note → Type 0
IsMade m spares l k Ready notes = notes ≡ []
IsMade m spares l k ZeroPage notes = notes ≡ Zeroed k.0 (address_of k.1) ∷ []
IsMade m spares l k NewPage notes = Takes m spares l None notes (New k.0 (address_of k.1))
IsMade m spares l k (CopyOnWrite g) notes =
    Takes m spares l (Some g) notes (Copied k.0 (address_of k.1))
IsMade m spares l k (SwapIn s) notes = ⊥
IsMade m spares l k (MapCached f) notes = ⊥

-- whether a page's slot is needed no more: no entry names it, it isn't in flight, and the page was
-- written, or came in while swap is full
abbrev pub is_unneeded : Setting → Bool → Bool → Ledger → Slot → Bool
is_unneeded m write came l s =
    not (in_flight l s) && slot_entries l s == 0 && (write || came && is_full m l)

-- the `drop` of a frame's slot, if it has one and that is needed no more
abbrev pub drop_of_slot : Setting → Bool → Bool → Ledger → Option Slot → List Note
drop_of_slot m write came l None = []
drop_of_slot m write came l (Some s) = when (is_unneeded m write came l s) (Dropped s)

-- and by the page's entry
abbrev pub drop_of_entry : Setting → Bool → Bool → Ledger → Option Entry → List Note
drop_of_entry m write came l None = []
drop_of_entry m write came l (Some Zero) = []
drop_of_entry m write came l (Some (InFrame f seen)) = drop_of_slot m write came l (slot_of l f)
drop_of_entry m write came l (Some (InSlot s)) = []

-- the `drop` that ends a page's notes, if any
abbrev pub drop_at : Setting → Bool → Bool → Ledger → Key → List Note
drop_at m write came l k = drop_of_entry m write came l (entry l k)

-- whether the page's entry was a slot, and it has to come in
abbrev pub was_slot : Need → Bool
was_slot (SwapIn s) = true
was_slot (MapCached f) = true
was_slot Ready = false
was_slot ZeroPage = false
was_slot NewPage = false
was_slot (CopyOnWrite g) = false

-- the page is served with these notes
pub record Serves (m : Setting) (spares : Sparing) (l : Ledger) (write : Bool) (k : Key)
    (notes : List Note) : Type 0 where
  pub coming : List Note
  pub making : List Note
  pub whole : let now = after_notes l (coming ++ making) in
      notes ≡ coming ++ making ++ drop_at m write (was_slot (need write l (entry l k))) now k
  pub comes_in : ComesIn m spares l k (need write l (entry l k)) coming
  pub made : let now = after_notes l coming in
      IsMade m spares now k (need write now (entry now k)) making

-- ---- a page is not served

-- the frame that the page's copy pins, if it needs one
abbrev pub pinned_by : Need → Option ℕ
pinned_by (CopyOnWrite g) = Some g
pinned_by Ready = None
pinned_by ZeroPage = None
pinned_by NewPage = None
pinned_by (SwapIn s) = None
pinned_by (MapCached f) = None

-- whether a frame has to be taken
abbrev pub wants_frame : Need → Bool
wants_frame NewPage = true
wants_frame (CopyOnWrite g) = true
wants_frame (SwapIn s) = true
wants_frame Ready = false
wants_frame ZeroPage = false
wants_frame (MapCached f) = false

-- a frame is wanted, but the pass freed none; these are the numbers
pub record FindsNone (m : Setting) (spares : Sparing) (l : Ledger) (need : Need)
    (sought : List Note) (out : OutOf) : Type 0 where
  pub wants : IsTrue (wants_frame need)
  pub seeks : Seeks m (spares l (pinned_by need)) l sought
  pub none : has_free m (after_notes l sought) ≡ false
  pub numbers : out
      ≡ out_of m (spares l (pinned_by need)) (after_notes l sought)

-- no frame was free for the page; before that it may have come in
pub record RunsOut (m : Setting) (spares : Sparing) (l : Ledger) (write : Bool) (k : Key)
    (notes : List Note) (out : OutOf) : Type 0 where
  pub coming : List Note
  pub sought : List Note
  pub whole : notes ≡ coming ++ sought
  pub before : (coming ≡ []) ⊎ ComesIn m spares l k (need write l (entry l k)) coming
  pub finds : let now = after_notes l coming in
      FindsNone m spares now (need write now (entry now k)) sought out

-- a frame was free for a page that is on the device alone, and it did not come
pub record IsLost (m : Setting) (spares : Sparing) (l : Ledger) (write : Bool) (k : Key)
    (notes : List Note) : Type 0 where
  pub slot : Slot
  pub absent : need write l (entry l k) ≡ SwapIn slot
  pub seeks : Seeks m (spares l None) l notes
  pub frame : IsTrue (has_free m (after_notes l notes))

-- ---- served or not

-- whether there is a page, and its protection allows the access
abbrev pub permits : Bool → Option Page → Bool
permits write None = false
permits write (Some page) = allows write page.prot

-- and so for a key of the memories
abbrev pub is_allowed : World → Bool → Key → Bool
is_allowed w write k = permits write (pages w k.0 k.1)

-- why a page is not served
pub data Stop : Type 0 where
  -- it is not mapped, or its protection does not allow the access
  Denied : Stop
  -- no frame could be had
  Starved : (out : OutOf) → Stop
  -- the device did not give it
  Lost : Stop

-- what the notes of a page are: of one that is served, or not served for this reason
abbrev pub Touches : Setting → World → Ledger → Bool → Key → List Note → Option Stop → Type 0
Touches m w l write k notes None =
    IsTrue (is_allowed w write k) × Serves m (sparing w) l write k notes
Touches m w l write k notes (Some Denied) = (is_allowed w write k ≡ false) × (notes ≡ [])
Touches m w l write k notes (Some (Starved out)) =
    IsTrue (is_allowed w write k) × RunsOut m (sparing w) l write k notes out
Touches m w l write k notes (Some Lost) =
    IsTrue (is_allowed w write k) × IsLost m (sparing w) l write k notes
