-- What happens to the ledger, one event at a time, and what stands after it.
use Rattle.std.specs.FinMap.Entries.{put, where_key}
use Rattle.std.specs.Ordering.{nat_cmp}
use Rattle.std.specs.Prelude.{ℕ, ◌+◌, ◌-◌, Bool, true, false, not, ◌&&◌, ◌==◌, if◌then◌else◌, List}
use Rattle.std.specs.Prelude.{[], ◌∷◌, ◌++◌, map, filter, fold, Option, Some, None}
use Rattle.av_base.specs.Keys.{Key, key_cmp}
use Rattle.av_base.specs.Page.{page_of}
use Rattle.av_base.specs.Words.{is_in, renamed, within, without}
use Rattle.av_base.specs.declared.flags.Flag.{Flag}
use Rattle.av_base.specs.declared.slot.Slot.{Slot}
use Rattle.av_trace.specs.declared.note.Cause.TheVariants.{Writeback, Referenced, NoSlot}
use Rattle.av_trace.specs.declared.note.Cause.TheVariants.{Ksm, Locked, WriteStarted}
use Rattle.av_trace.specs.declared.note.Note.{Note}
use Rattle.av_trace.specs.declared.note.Note.TheVariants.{Zeroed, New, Copied, Loaded, Mapped, Put}
use Rattle.av_trace.specs.declared.note.Note.TheVariants.{Unmapped, Started, Written, Failed}
use Rattle.av_trace.specs.declared.note.Note.TheVariants.{Dropped, Kept, Aged, Shared, Joined}
use Rattle.av_trace.specs.declared.note.Note.TheVariants.{Moved}
use Rattle.av_plain.specs.Ledger.{names_frame, same_slot, is_free, frame_at, InFrame}
use Rattle.av_plain.specs.Ledger.{slot_of, Entry, Zero, entry, Cached, Ledger, SwapArea}
use Rattle.av_plain.specs.Ledger.{InSlot}
use Rattle.av_plain.specs.World.{process}

-- what may happen to the ledger
pub data Event : Type 0 where
  -- what a note tells
  Noted : (note : Note) → Event
  -- the entry at the key goes
  Zapped : (key : Key) → Event
  -- a read or write has served the page
  Used : (write : Bool) (key : Key) → Event
  -- the second process gets the first one's entries of these pages
  Forked : (parent child : ℕ) (pages : List ℕ) → Event
  -- a flag of those of the process's n pages from one on that are mapped is set, or cleared
  FlagSet : (process from n : ℕ) (flag : Flag) (set : Bool) → Event
  -- the process's entries of the n pages from one page on go to another
  EntriesMoved : (process n from to : ℕ) → Event
  TurnedOn : (number : ℕ) (area : SwapArea) → Event
  TurnedOff : (number : ℕ) → Event
  -- the list of free frames is put in order
  FreeSorted : Event

-- ---- parts of a change

-- the key has this entry now
abbrev pub set_entry : Key → Entry → Ledger → Ledger
set_entry k e l = record l { entries = put key_cmp k e l.entries }

-- the entry with its seen bit cleared
abbrev pub without_seen : Entry → Entry
without_seen Zero = Zero
without_seen (InFrame f seen) = InFrame f false
without_seen (InSlot s) = InSlot s

-- each entry that names the frame becomes what is said
abbrev pub change_entries : ℕ → (Entry → Entry) → Ledger → Ledger
change_entries f change l =
    record l { entries = map (λ e. (e.0, if names_frame f e.1 then change e.1 else e.1)) l.entries }

-- the frame leaves its list, and is merged no longer
abbrev pub off_lists : ℕ → Ledger → Ledger
off_lists f l = record l {
  active = without f l.active;
  inactive = without f l.inactive;
  merged = without f l.merged;
}

-- the frame goes to the head of inactive, from whichever list it was in
abbrev pub to_inactive_head : ℕ → Ledger → Ledger
to_inactive_head f l = record l { active = without f l.active; inactive = f ∷ without f l.inactive }

-- or to its tail
abbrev pub to_inactive_tail : ℕ → Ledger → Ledger
to_inactive_tail f l =
    record l { active = without f l.active; inactive = without f l.inactive ++ f ∷ [] }

-- or to the head of active
abbrev pub to_active : ℕ → Ledger → Ledger
to_active f l = record l { active = f ∷ without f l.active; inactive = without f l.inactive }

-- a frame that is free leaves its list, and isn't merged
abbrev pub settle : ℕ → Ledger → Ledger
settle f l = if is_free l f then off_lists f l else l

-- the cached slot is stale, or is not
abbrev pub with_stale : Bool → Slot → Ledger → Ledger
with_stale stale s l =
    record l {
      cache = map
          (λ (c : Cached). if same_slot s c.slot then record c { stale = stale } else c) l.cache;
    }

-- the slot is cached at the frame
abbrev pub into_cache : Slot → ℕ → Bool → Ledger → Ledger
into_cache s f stale l =
    record l { cache = record { slot = s; frame = f; stale = stale } ∷ l.cache }

-- the slot is cached no longer
abbrev pub off_cache : Slot → Ledger → Ledger
off_cache s l = record l { cache = filter (λ (c : Cached). not (same_slot s c.slot)) l.cache }

-- the slot is in flight no longer
abbrev pub off_flight : Slot → Ledger → Ledger
off_flight s l = record l { flight = filter (λ t. not (same_slot s t)) l.flight }

-- the frame that an entry names
abbrev pub frame_of : Entry → Option ℕ
frame_of Zero = None
frame_of (InFrame f seen) = Some f
frame_of (InSlot s) = None

-- what is done with the frame or slot, where there is one
abbrev pub if_some : {A : Type 0} → Option A → (A → Ledger → Ledger) → Ledger → Ledger
if_some None change l = l
if_some (Some x) change l = change x l

-- the frame of an entry that has gone leaves its list where it is free now
abbrev pub settle_entry : Option Entry → Ledger → Ledger
settle_entry None l = l
settle_entry (Some e) l = if_some (frame_of e) settle l

-- the entry names another frame now, and the one that it named may be free
abbrev pub change_frame : Key → ℕ → Ledger → Ledger
change_frame k f l = settle_entry (entry l k) (set_entry k (InFrame f false) l)

-- ---- frames at other places

-- the entry of a frame names its place, and keeps its seen bit
abbrev pub placed_entry : (ℕ → ℕ) → Entry → Entry
placed_entry place Zero = Zero
placed_entry place (InFrame f seen) = InFrame (place f) seen
placed_entry place (InSlot s) = InSlot s

-- each frame is at its place in all that the ledger says: in its entries, in the cache, in its list
-- and among the merged ones
abbrev pub with_places : (ℕ → ℕ) → Ledger → Ledger
with_places place l = record l {
  entries = map (λ e. (e.0, placed_entry place e.1)) l.entries;
  cache = map (λ (c : Cached). record c { frame = place c.frame }) l.cache;
  active = map place l.active;
  inactive = map place l.inactive;
  merged = map place l.merged;
}

-- ---- what a note changes

-- the key of an address
abbrev pub key_at : ℕ → ℕ → Key
key_at process address = (process, page_of address)

-- the ledger after a note
abbrev pub after_note : Note → Ledger → Ledger
after_note (Zeroed p a) l = set_entry (key_at p a) Zero l
after_note (New p a f) l = to_inactive_head f (set_entry (key_at p a) (InFrame f false) l)
after_note (Copied p a f) l = to_inactive_head f (change_frame (key_at p a) f l)
after_note (Loaded s f) l = to_inactive_head f (into_cache s f false l)
after_note (Mapped p a f) l = set_entry (key_at p a) (InFrame f false) l
after_note (Put f s) l = into_cache s f true l
after_note (Unmapped f) l = if_some (slot_of l f) (λ s. change_entries f (λ _. InSlot s)) l
after_note (Started s) l = with_stale false s (record l { flight = l.flight ++ s ∷ [] })
after_note (Written s) l = if_some (frame_at l s) to_inactive_tail (off_flight s l)
after_note (Failed s) l = with_stale true s (off_flight s l)
after_note (Dropped s) l = if_some (frame_at l s) settle (off_cache s l)
after_note (Kept f Writeback) l = to_inactive_head f l
after_note (Kept f WriteStarted) l = to_inactive_head f l
after_note (Kept f Referenced) l = to_active f (change_entries f without_seen l)
after_note (Kept f NoSlot) l = to_active f l
after_note (Kept f Locked) l = to_active f l
after_note (Kept f Ksm) l = to_active f l
after_note (Aged f) l = to_inactive_head f (change_entries f without_seen l)
after_note (Shared f) l = record l { merged = l.merged ++ f ∷ [] }
after_note (Joined p a f) l = change_frame (key_at p a) f l
after_note (Moved from to) l = with_places (renamed from to) l

-- the ledger after some notes
abbrev pub after_notes : Ledger → List Note → Ledger
after_notes l [] = l
after_notes l (note ∷ notes) = after_notes (after_note note l) notes

-- a note that stands under a condition
abbrev pub when : Bool → Note → List Note
when true note = note ∷ []
when false note = []

-- notes as events
abbrev pub note_events : List Note → List Event
note_events notes = map Noted notes

-- ---- the other events

-- the slot that an entry names, or at which its frame is cached
abbrev pub slot_behind : Ledger → Entry → Option Slot
slot_behind l Zero = None
slot_behind l (InFrame f seen) = slot_of l f
slot_behind l (InSlot s) = Some s

-- the entries whose keys pass the test
abbrev pub entries_where : (Key → Bool) → Ledger → List (Key × Entry)
entries_where test l = where_key key_cmp test l.entries

-- the ledger after an entry is taken away
abbrev pub after_zap : Key → Ledger → Ledger
after_zap k l =
    settle_entry (entry l k)
    (record l { entries = entries_where (λ q. not (k.0 == q.0 && k.1 == q.1)) l })

-- the entry is seen where it is a frame, and a write makes the slot of that frame stale
abbrev pub after_use_of : Bool → Key → Ledger → Option Entry → Ledger
after_use_of write k l None = l
after_use_of write k l (Some Zero) = l
after_use_of write k l (Some (InSlot s)) = l
after_use_of false k l (Some (InFrame f seen)) = set_entry k (InFrame f true) l
after_use_of true k l (Some (InFrame f seen)) =
    if_some (slot_of l f) (with_stale true) (set_entry k (InFrame f true) l)

-- the ledger after a page was read or written
abbrev pub after_use : Bool → Key → Ledger → Ledger
after_use write k l = after_use_of write k l (entry l k)

-- the entries of some keys put in, one by one
abbrev pub put_all : List (Key × Entry) → Ledger → Ledger
put_all es l = fold (λ l e. set_entry e.0 e.1 l) l es

-- the child gets the parent's entries of these pages, unseen
abbrev pub after_fork : ℕ → ℕ → List ℕ → Ledger → Ledger
after_fork p q pages l =
    put_all (map (λ e. ((q, e.0.1), without_seen e.1))
    (entries_where (λ k. k.0 == p && is_in k.1 pages) l)) l

-- the entries of the n pages from `from` on go to as many pages from `to` on
abbrev pub after_move : ℕ → ℕ → ℕ → ℕ → Ledger → Ledger
after_move p n from to l =
    put_all (map (λ e. ((p, e.0.1 - from + to), e.1))
    (entries_where (λ k. k.0 == p && within from n k.1) l))
    (record l { entries = entries_where (λ k. not (k.0 == p && within from n k.1)) l })

-- the ledger after an event
abbrev pub after : Ledger → Event → Ledger
after l (Noted note) = after_note note l
after l (Zapped k) = after_zap k l
after l (Used write k) = after_use write k l
after l (Forked p q pages) = after_fork p q pages l
after l (FlagSet p from n flag set) = l
after l (EntriesMoved p n from to) = after_move p n from to l
after l (TurnedOn k area) = record l { on = put nat_cmp k area l.on }
after l (TurnedOff k) = record l { on = where_key nat_cmp (λ q. not (q == k)) l.on }
after l FreeSorted = l

-- and after several
abbrev pub after_all : Ledger → List Event → Ledger
after_all l [] = l
after_all l (e ∷ es) = after_all (after l e) es

-- the note that an event tells, if it is one
abbrev pub note_in : Event → List Note
note_in (Noted note) = note ∷ []
note_in event = []

-- the notes among the events
abbrev pub notes_of : List Event → List Note
notes_of [] = []
notes_of (e ∷ es) = note_in e ++ notes_of es
