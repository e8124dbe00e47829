-- After each event what is free is listed, frames and slots, and slots in use are there.
use Rattle.std.proofs.Common.{refl, ◌≡◌, ℕ, false, true, T, [], Option, None, ◌<◌}
use Rattle.std.specs.FinMap.Entries.{is_sorted}
use Rattle.av_base.specs.Keys.{key_cmp}
use Rattle.av_base.specs.Words.{within}
use Rattle.av_plain.specs.Choice.{Chooses, Free, ListsAll, frame_in, slot_in_note}
use Rattle.av_plain.specs.Device.{AreLayouts}
use Rattle.av_plain.specs.Event.{Event, FlagSet, Forked, EntriesMoved, Noted, TurnedOff, TurnedOn, Used, Zapped, after, after_move, after_note, after_use, after_zap}
use Rattle.av_plain.specs.Ledger.{Ledger, Setting, entry, is_on, size_of, slots_in_use}
use Rattle.av_plain.specs.Sound.{AreThere, AreasFit, IsSound}
use Rattle.av_plain.proofs.Fork.{child_ledger}
use Rattle.av_plain.proofs.FreeFrames.{IsHeld, Steady, fewer-steady, fork-steady, from_lists, move-steady, note-steady, to_lists, used-steady, zap-steady}
use Rattle.av_plain.proofs.FreeSlots.{TracksSlots, brings-tracks, fewer-brings, fork-brings, from_tracks, move-brings, note-brings, to_tracks, turned-off-tracks, turned-on-tracks, used-brings, zap-brings}
use Rattle.av_plain.proofs.Sound.Fork.{forked-no_new}
use Rattle.av_plain.proofs.Sound.Mremap.{moved-no_new}
use Rattle.av_plain.proofs.Sound.Swap.Area.{fit-off, fit-on, there-off, there-on}
use Rattle.av_plain.proofs.Sound.There.{IsLawful, NoNew, lawful-no_new, there-by, used-no_new}
use Rattle.av_plain.proofs.Sound.Zap.{no_new-taken}
use Rattle.av_plain.specs.Event.{FreeSorted}
use Rattle.av_plain.specs.Choice.{sorts_free}
use Rattle.av_plain.proofs.FreeFrames.{chosen-lists}
use Rattle.av_plain.proofs.FreeSlots.{bare, plain-brings}
use Rattle.av_plain.proofs.Sound.There.{less}

-- the condition at each event: a note brings into use only what it takes, an entry that goes over or moves finds its place empty, an area that is
-- turned on was off, and one that is turned off has no slot in use
abbrev pub IsLawfulEvent : Setting → Option ℕ → Ledger → Event → Type 0
IsLawfulEvent m closing l (Noted note) = IsLawful m closing l note × IsHeld l note
IsLawfulEvent m closing l (Used write k) = Unit {0}
IsLawfulEvent m closing l (Zapped k) = Unit {0}
IsLawfulEvent m closing l (Forked p q goes) = IsSound m l × ((page : ℕ) → entry l (q, page) ≡ None)
IsLawfulEvent m closing l (FlagSet p from n flag set) = Unit {0}
IsLawfulEvent m closing l (EntriesMoved p n from to) = IsSound m l
    × ((page : ℕ) → within to n page ≡ true → within from n page ≡ false → entry l (p, page) ≡ None)
IsLawfulEvent m closing l (TurnedOn k area) = AreLayouts m × (is_on l k ≡ false)
IsLawfulEvent m closing l (TurnedOff k) = slots_in_use m l k ≡ []
IsLawfulEvent m closing l FreeSorted = Unit {0}

-- the uses of frames
event-steady : (m : Setting) (closing : Option ℕ) (l : Ledger) (e : Event) → T (is_sorted key_cmp l.entries) → IsLawfulEvent m closing l e
    → sorts_free e ≡ false → Steady l (after l e) (frame_in e)
event-steady m closing l (Noted note) sorted lawful sorts = note-steady l note sorted lawful.1
event-steady m closing l FreeSorted sorted lawful sorts = fewer-steady l l (λ g gone. gone)
event-steady m closing l (Used write k) sorted lawful sorts = used-steady l write k sorted
event-steady m closing l (Zapped k) sorted lawful sorts = zap-steady l k sorted
event-steady m closing l (Forked p q goes) sorted lawful sorts = fork-steady m l p q goes lawful.0 lawful.1
event-steady m closing l (FlagSet p from n flag set) sorted lawful sorts = fewer-steady l l (λ g gone. gone)
event-steady m closing l (EntriesMoved p n from to) sorted lawful sorts = move-steady m l p n from to lawful.0 lawful.1
event-steady m closing l (TurnedOn k area) sorted lawful sorts = fewer-steady l (after l (TurnedOn k area)) (λ g gone. gone)
event-steady m closing l (TurnedOff k) sorted lawful sorts = fewer-steady l (after l (TurnedOff k)) (λ g gone. gone)

-- the slots of areas
pub event-tracks : (m : Setting) (closing : Option ℕ) (l : Ledger) (e : Event) (free free' : Free) → T (is_sorted key_cmp l.entries)
    → IsLawfulEvent m closing l e → Chooses m closing l e free free' → TracksSlots m l free.slots → TracksSlots m (after l e) free'.slots
event-tracks m closing l (Noted note) free free' sorted lawful c h =
    brings-tracks m closing l (after_note note l) (slot_in_note note) free.slots free'.slots c.slots (note-brings m closing l note sorted lawful.0) h
event-tracks m closing l (Used write k) free free' sorted lawful c h =
    brings-tracks m closing l (after_use write k l) None free.slots free'.slots c.slots (used-brings m l write k sorted) h
event-tracks m closing l (Zapped k) free free' sorted lawful c h =
    brings-tracks m closing l (after_zap k l) None free.slots free'.slots c.slots (zap-brings m l k sorted) h
event-tracks m closing l (Forked p q goes) free free' sorted lawful c h =
    brings-tracks m closing l (child_ledger p q goes l) None free.slots free'.slots c.slots (fork-brings m l p q goes lawful.0 lawful.1) h
event-tracks m closing l (FlagSet p from n flag set) free free' sorted lawful c h =
    brings-tracks m closing l l None free.slots free'.slots c.slots (fewer-brings l l refl (λ s i. i)) h
event-tracks m closing l (EntriesMoved p n from to) free free' sorted lawful c h =
    brings-tracks m closing l (after_move p n from to l) None free.slots free'.slots c.slots (move-brings m l p n from to lawful.0 lawful.1) h
event-tracks m closing l (TurnedOn k area) free free' sorted lawful c h =
    turned-on-tracks m closing l k area free.slots free'.slots lawful.0 lawful.1 c.slots h
event-tracks m closing l FreeSorted free free' sorted lawful c h =
    brings-tracks m closing l l None free.slots free'.slots c.slots (plain-brings m l l (less (bare m) l l refl (λ s i. i))) h
event-tracks m closing l (TurnedOff k) free free' sorted lawful c h = turned-off-tracks m closing l k free.slots free'.slots lawful c.slots h

-- both
pub lists-stay : (m : Setting) (closing : Option ℕ) (l : Ledger) (e : Event) (free free' : Free) → T (is_sorted key_cmp l.entries)
    → IsLawfulEvent m closing l e → AreThere m l → AreasFit m l → Chooses m closing l e free free' → ListsAll m l free → ListsAll m (after l e) free'
lists-stay m closing l e free free' sorted lawful there fits c h = record {
  frames = from_lists m (after l e) free'.frames
      (chosen-lists m l e free.frames free'.frames (event-steady m closing l e sorted lawful) c.frames (to_lists m l free.frames h.frames));
  slots = from_tracks m (after l e) free'.slots (event-tracks m closing l e free free' sorted lawful c (to_tracks m l free.slots there fits h.slots));
}

-- ---- what is there, and how much an area has

-- an area that is turned on has pages
abbrev pub HasPages : Setting → Event → Type 0
HasPages m (TurnedOn k area) = 0 < size_of m k
HasPages m e = Unit {0}

-- slots in use are there after each event, and no area has more of them than slots
pub areas-stay : (m : Setting) (closing : Option ℕ) (l : Ledger) (e : Event) → T (is_sorted key_cmp l.entries) → IsLawfulEvent m closing l e
    → HasPages m e → AreThere m l → AreasFit m l → AreThere m (after l e) × AreasFit m (after l e)
areas-stay m closing l e sorted lawful pages there fits = by e lawful pages
  where
    same : (l' : Ledger) → NoNew m l l' → AreThere m l' × AreasFit m l'
    same l' n = (there-by m l l' n there, n.fits fits)

    by : (e : Event) → IsLawfulEvent m closing l e → HasPages m e → AreThere m (after l e) × AreasFit m (after l e)
    by (Noted note) lawful pages = same (after_note note l) (lawful-no_new m closing l note sorted lawful.0)
    by (Used write k) lawful pages = same (after_use write k l) (used-no_new m l write k sorted)
    by (Zapped k) lawful pages = same (after_zap k l) (no_new-taken m k l sorted)
    by (Forked p q goes) lawful pages = same (child_ledger p q goes l) (forked-no_new m l p q goes lawful.0 lawful.1)
    by (FlagSet p from n flag set) lawful pages = (there, fits)
    by (EntriesMoved p n from to) lawful pages = same (after_move p n from to l) (moved-no_new m l p n from to lawful.0 lawful.1)
    by (TurnedOn k area) lawful pages = (there-on m l k area there fits lawful.1, fit-on m l k area there fits lawful.1 pages)
    by FreeSorted lawful pages = (there, fits)
    by (TurnedOff k) lawful pages = (there-off m l k there fits lawful, fit-off m l k there fits lawful)
