-- The memories as the flags leave them that events set, and which commands have such events.
use Rattle.std.proofs.Common.{◌≡◌, ℕ, Bool, true, false, cond, ◌&&◌, ◌==◌, List, [], ◌∷◌, ◌++◌, map, min, ◌+◌, ◌-◌, ◌⊎◌, inl, inr, Option, Some, None, refl, ap, ◌∙◌}
use Rattle.std.specs.List.{list_all}
use Rattle.std.specs.Prelude.{MatchOption}
use Rattle.av_base.specs.Keys.{Key}
use Rattle.av_base.specs.Page.{page_of, pages_of}
use Rattle.av_base.specs.declared.slot.Slot.{Slot}
use Rattle.av_trace.specs.declared.command.Command.{Command}
use Rattle.av_trace.specs.declared.command.Command.TheVariants.{Compact, Merge, Spawn, Fork, Exit, Mmap, Mremap, Munmap, Mprotect, Madvise, Mlock, Munlock, Read, Write, Reclaim, Age, Complete, Swapon, Swapoff, Maps, Areas as AsksAreas, Rmap as AsksRmap, Entry as AsksEntry, Slot as AsksSlot, Stat}
use Rattle.av_trace.specs.declared.note.Note.{Note}
use Rattle.av_trace.specs.declared.note.Note.TheVariants.{Aged, Dropped}
use Rattle.av_trace.specs.declared.place.Place.{Place}
use Rattle.av_trace.specs.declared.place.Place.TheVariants.{Auto, At, Fixed, NoReplace}
use Rattle.av_trace.specs.declared.reply.Answer.{Answer}
use Rattle.av_trace.specs.declared.row.Row.{Row}
use Rattle.av_plain.specs.Access.{Accesses, End, page_events}
use Rattle.av_plain.specs.Event.{Event, EntriesMoved, FlagSet, Forked, FreeSorted, Noted, TurnedOff, TurnedOn, Used, Zapped, after, after_all, note_events, when}
use Rattle.av_plain.specs.Fault.{Stop}
use Rattle.av_plain.specs.Ledger.{Ledger, Setting, SwapArea, entry, is_orphan}
use Rattle.av_plain.specs.Map.{zaps_for_place}
use Rattle.av_plain.specs.Merge.{merges}
use Rattle.av_plain.specs.Mremap.{events_to, range_zaps, remap_events}
use Rattle.av_plain.specs.Reclaim.{from_tail}
use Rattle.av_plain.specs.Refusal.{Refuses, refusal, tests}
use Rattle.av_plain.specs.Step.{Follows, IsLegal}
use Rattle.av_plain.specs.Areas.{Areas, next_areas}
use Rattle.av_vma.specs.Pages.{Lengths}
use Rattle.av_trace.specs.declared.reply.Errno.{Errno}
use Rattle.av_trace.specs.declared.reply.Reply.{Reply}
use Rattle.av_plain.specs.Swapoff.{Close, Closed, NoRoom, Unread, turn_off_events}
use Rattle.av_plain.specs.Swapon.{turn_on_events}
use Rattle.av_plain.specs.World.{World, pages, set_process, with_change_on, with_page_flag}
use Rattle.av_plain.proofs.Sound.Swap.Area.{turn-on-events}
use Rattle.av_plain.specs.Zap.{keys_in, keys_of_process, orphan_drop, slot_behind_key, zap_of, zaps_of}

-- ---- events

abbrev pub flagged_by : World → Event → World
flagged_by w (FlagSet p from n flag set) = set_process w p (with_change_on (pages w p) from n (with_page_flag flag set))
flagged_by w e = w

abbrev pub flagged : World → List Event → World
flagged w [] = w
flagged w (e ∷ es) = flagged (flagged_by w e) es

abbrev pub sets_none : Event → Bool
sets_none (FlagSet p from n flag set) = false
sets_none e = true

abbrev pub set_none : List Event → Bool
set_none es = list_all sets_none es

both : (a b : Bool) → (a && b) ≡ true → (a ≡ true) × (b ≡ true)
both true b h = (refl, h)
both false b h = cc

unflagged_by : (w : World) (e : Event) → sets_none e ≡ true → flagged_by w e ≡ w
unflagged_by w (FlagSet p from n flag set) h = cc
unflagged_by w (Noted note) h = refl
unflagged_by w (Zapped k) h = refl
unflagged_by w (Used write k) h = refl
unflagged_by w (Forked p q goes) h = refl
unflagged_by w (EntriesMoved p n from to) h = refl
unflagged_by w (TurnedOn k area) h = refl
unflagged_by w (TurnedOff k) h = refl
unflagged_by w FreeSorted h = refl

-- where none sets a flag the memories stay
pub unflagged : (w : World) (es : List Event) → set_none es ≡ true → flagged w es ≡ w
unflagged w [] h = refl
unflagged w (e ∷ es) h = let parts = both (sets_none e) (set_none es) h in
    ap (λ w. flagged w es) (unflagged_by w e parts.0) ∙ unflagged w es parts.1

-- ---- events of a kind

pub none-append : (a b : List Event) → set_none a ≡ true → set_none b ≡ true → set_none (a ++ b) ≡ true
none-append [] b h g = g
none-append (e ∷ a) b h g =
    let parts = both (sets_none e) (set_none a) h in
    ap (λ c. c && set_none (a ++ b)) parts.0 ∙ none-append a b parts.1 g

pub notes-set_none : (notes : List Note) → set_none (note_events notes) ≡ true
notes-set_none [] = refl
notes-set_none (note ∷ notes) = notes-set_none notes

pub zaps-set_none : (l : Ledger) (ks : List Key) → set_none (zaps_of l ks) ≡ true
zaps-set_none l [] = refl
zaps-set_none l (k ∷ ks) = none-append (zap_of l k) (zaps_of (after_all l (zap_of l k)) ks)
    (drops (slot_behind_key l (entry l k))) (zaps-set_none (after_all l (zap_of l k)) ks)
  where
    now : Ledger
    now = after l (Zapped k)

    drops : (o : Option Slot) → set_none (orphan_drop now o) ≡ true
    drops None = refl
    drops (Some s) = notes-set_none (when (is_orphan now s) (Dropped s))

place-set_none : (l : Ledger) (p n : ℕ) (place : Place) → set_none (zaps_for_place l p n place) ≡ true
place-set_none l p n Auto = refl
place-set_none l p n (At a) = refl
place-set_none l p n (Fixed a) = zaps-set_none l (keys_in l p (page_of a) n)
place-set_none l p n (NoReplace a) = refl

remap-set_none : (l : Ledger) (p from n to k : ℕ) → set_none (remap_events l p from n to k) ≡ true
remap-set_none l p from n to k = by (to == from)
  where
    target : Ledger
    target = after_all l (range_zaps l p to k)

    by : (b : Bool) → set_none (cond b (range_zaps l p (from + k) (n - k))
        ((range_zaps l p to k ++ range_zaps target p (from + k) (n - k)) ++ EntriesMoved p (min n k) from to ∷ [])) ≡ true
    by true = zaps-set_none l (keys_in l p (from + k) (n - k))
    by false = none-append (range_zaps l p to k ++ range_zaps target p (from + k) (n - k)) (EntriesMoved p (min n k) from to ∷ [])
        (none-append (range_zaps l p to k) (range_zaps target p (from + k) (n - k))
        (zaps-set_none l (keys_in l p to k)) (zaps-set_none target (keys_in target p (from + k) (n - k)))) refl

events_to-set_none : (l : Ledger) (p from n k : ℕ) (to : Option ℕ) → set_none (events_to l p from n to k) ≡ true
events_to-set_none l p from n k None = refl
events_to-set_none l p from n k (Some to) = remap-set_none l p from n to k

page-set_none : (write : Bool) (k : Key) (notes : List Note) (stop : Option Stop) → set_none (page_events write k notes stop) ≡ true
page-set_none write k notes None = none-append (note_events notes) (Used write k ∷ []) (notes-set_none notes) refl
page-set_none write k notes (Some stop) = notes-set_none notes

pub accesses-set_none : (m : Setting) (w : World) (l : Ledger) (p : ℕ) (ps : List (Bool × ℕ)) (events : List Event) (end : End)
    → Accesses m w l p ps events end → set_none events ≡ true
accesses-set_none m w l p [] events end h = ap set_none h.0
accesses-set_none m w l p (page ∷ rest) events end (inl h) =
    let here = page_events page.0 (p, page.1) h.0 None in
    ap set_none h.3 ∙ none-append here h.1 (page-set_none page.0 (p, page.1) h.0 None)
    (accesses-set_none m w (after_all l here) p rest h.1 end h.4)
accesses-set_none m w l p (page ∷ rest) events end (inr h) = ap set_none h.3 ∙ page-set_none page.0 (p, page.1) h.0 (Some h.1)

turn_on-set_none : (k : ℕ) (priority : Option ℕ) (answer : Answer) → set_none (turn_on_events k priority answer) ≡ true
turn_on-set_none k priority answer = by (turn-on-events k priority answer)
  where
    by : (turn_on_events k priority answer ≡ []) ⊎ ((area : SwapArea) × (turn_on_events k priority answer ≡ TurnedOn k area ∷ []))
        → set_none (turn_on_events k priority answer) ≡ true
    by (inl i) = ap set_none i
    by (inr (area, i)) = ap set_none i

turn_off-set_none : (k : ℕ) (end : Close) → set_none (turn_off_events k end) ≡ true
turn_off-set_none k Closed = refl
turn_off-set_none k (NoRoom out) = refl
turn_off-set_none k Unread = refl

-- ---- commands

-- the commands that set flags
abbrev pub sets_flags : Command → Bool
sets_flags (Madvise p a len advice) = true
sets_flags (Mlock p a len) = true
sets_flags (Munlock p a len) = true
sets_flags command = false

pub follows-set_none : (m : Setting) (w : World) (l : Ledger) (command : Command) (es : List Event) (answer : Answer) (rows : List Row)
    → sets_flags command ≡ false → Follows m w l command es answer rows → set_none es ≡ true
follows-set_none m w l (Spawn p) es answer rows un h = ap set_none h.1
follows-set_none m w l (Fork p q) es answer rows un h = ap set_none h.1
follows-set_none m w l (Exit p) es answer rows un h = ap set_none h.1 ∙ zaps-set_none l (keys_of_process l p)
follows-set_none m w l (Mmap p len prot place) es answer rows un h = ap set_none h.3 ∙ place-set_none l p (pages_of len) place
follows-set_none m w l (Munmap p a len) es answer rows un h = ap set_none h.1 ∙ zaps-set_none l (keys_in l p (page_of a) (pages_of len))
follows-set_none m w l (Mprotect p a len prot) es answer rows un h = ap set_none h.1
follows-set_none m w l (Mremap p a old new mode) es answer rows un h =
    ap set_none h.3 ∙ events_to-set_none l p (page_of a) (pages_of old) (pages_of new) h.0
follows-set_none m w l (Madvise p a len advice) es answer rows un h = cc
follows-set_none m w l (Mlock p a len) es answer rows un h = cc
follows-set_none m w l (Munlock p a len) es answer rows un h = cc
follows-set_none m w l (Read p a n) es answer rows un h = accesses-set_none m w l p _ es h.0 h.2
follows-set_none m w l (Write p a bytes) es answer rows un h = accesses-set_none m w l p _ es h.0 h.1
follows-set_none m w l (Reclaim n) es answer rows un h = ap set_none h.3 ∙ notes-set_none h.0
follows-set_none m w l (Age n) es answer rows un h = ap set_none h.1 ∙ notes-set_none (map Aged (from_tail n l.active))
follows-set_none m w l (Complete n) es answer rows un h = ap set_none h.3 ∙ notes-set_none h.0
follows-set_none m w l (Swapon k priority) es answer rows un h = ap set_none h.1 ∙ turn_on-set_none k priority answer
follows-set_none m w l (Swapoff k) es answer rows un h = ap set_none h.whole
    ∙ none-append (note_events (h.done ++ h.notes)) (turn_off_events k h.end) (notes-set_none (h.done ++ h.notes)) (turn_off-set_none k h.end)
follows-set_none m w l Merge es answer rows un h =
    ap set_none h.2 ∙ notes-set_none (merges m h.0 w l [] (map (λ e. e.0) l.entries))
follows-set_none m w l Compact es answer rows un h =
    ap set_none h.2 ∙ none-append (note_events h.0) (FreeSorted ∷ []) (notes-set_none h.0) refl
follows-set_none m w l (Maps p) es answer rows un h = ap set_none h.2
follows-set_none m w l (AsksAreas p) es answer rows un h = ap set_none h.2
follows-set_none m w l (AsksRmap p a) es answer rows un h = ap set_none h.1
follows-set_none m w l (AsksEntry p a) es answer rows un h = ap set_none h.1
follows-set_none m w l (AsksSlot k page) es answer rows un h = ap set_none h.1
follows-set_none m w l Stat es answer rows un h = ap set_none h.1

-- so it is with what is legal
pub legal-set_none : (m : Setting) (w : World) (l : Ledger) (command : Command) (reply : Reply) (es : List Event) → sets_flags command ≡ false
    → IsLegal m w l command reply es → set_none es ≡ true
legal-set_none m w l command reply es un legal = by (refusal (tests m w l command)) legal.answer
  where
    by : (o : Option Errno) → MatchOption o (Follows m w l command es reply.answer reply.rows) (λ error. Refuses error es reply.answer reply.rows)
        → set_none es ≡ true
    by None h = follows-set_none m w l command es reply.answer reply.rows un h
    by (Some error) h = ap set_none h.1

-- the areas of such a command are those that its events leave
pub flags-areas : (long : Lengths) (on : Areas) (w : World) (command : Command) (answer : Answer) → sets_flags command ≡ true
    → next_areas long on w command answer ≡ on
flags-areas long on w (Madvise p a len advice) answer sets = refl
flags-areas long on w (Mlock p a len) answer sets = refl
flags-areas long on w (Munlock p a len) answer sets = refl
flags-areas long on w command answer sets = cc
