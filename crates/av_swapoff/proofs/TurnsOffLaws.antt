-- What a swapoff did, by how its area was emptied.
use Rattle.std.proofs.Common.{◌≡◌, ℕ, ◌+◌, ◌<◌, Bool, true, false, cond, ◌==◌, nat_lt, List, [], ◌∷◌, ◌++◌, Option, Some, None, is_some, refl, sym, ap, subst, ◌∙◌, arith}
use Rattle.std.proofs.lemmas.Bool.Decides.{nat_tests}
use Rattle.std.proofs.lemmas.Bool.{false≢true}
use Rattle.std.proofs.lemmas.List.{append-nil}
use Rattle.std.specs.FinMap.Entries.{find}
use Rattle.std.specs.Ordering.{nat_cmp}
use Rattle.av_base.specs.declared.slot.Slot.{Slot}
use Rattle.av_swapcache.specs.Swap.{Store as SwapStore, after_off, count_of, is_on as is_shown_on, shown as shown_swap, with_closing}
use Rattle.av_trace.specs.declared.note.Cause.TheVariants.{Ksm, Locked, NoSlot, Referenced, WriteStarted, Writeback}
use Rattle.av_trace.specs.declared.note.Note.{Note}
use Rattle.av_trace.specs.declared.note.Note.TheVariants.{Aged, Copied, Dropped, Failed, Joined, Kept, Loaded, Mapped, Moved, New, Put, Shared, Started, Unmapped, Written, Zeroed}
use Rattle.av_plain.specs.Areas.{Rmap, rmap_after_all}
use Rattle.av_plain.specs.Choice.{Chooses, ChoosesAll}
use Rattle.av_plain.specs.Device.{Device, as_told, setting_of, Wrote}
use Rattle.av_plain.specs.Event.{Event, TurnedOff, after, after_all, after_note, after_notes, change_entries, if_some, key_at, note_events, off_cache, off_flight, to_inactive_tail, notes_of}
use Rattle.av_plain.specs.Ledger.{InSlot, Ledger, Setting, SwapArea, frame_at, slot_count, slot_entries, slot_of, slots_in_use}
use Rattle.av_plain.specs.Load.{after_load, after_loads, with_loads}
use Rattle.av_plain.specs.Sound.{AllSound, IsSound, count}
use Rattle.av_plain.specs.Stands.{View, free_of}
use Rattle.av_plain.specs.Swapoff.{Closed, TurnsOff, close_answer, turn_off_events}
use Rattle.av_plain.specs.World.{World}
use Rattle.av_plain.proofs.Access.{after_all-append, after_notes-append, chooses-append, note_events-all, notes_of-append, notes_of-note_events}
use Rattle.av_plain.proofs.AreasLeft.{rmap_after_all-append}
use Rattle.av_plain.proofs.Event.{changed-by}
use Rattle.av_plain.proofs.Sound.Swap.Area.{used-elsewhere}
use Rattle.av_plain.proofs.Sound.Swap.Empty.{done-empty, empties-hold, turn-off-sound}
use Rattle.av_plain.proofs.Sound.There.{counted-slot, settle-on}
use Rattle.av_mem.specs.Between.{IsBetween, KeepsBetween}
use Rattle.av_mem.specs.Mem.{Serves, frame_count, setting_by, view}
use Rattle.av_mem.specs.declared.mem.Mem.{Mem}
use Rattle.av_mem.proofs.ServesLaws.{same-setting}
use Rattle.av_mem.proofs.KeepsLaws.{serves-whenever}
use Rattle.av_swapoff.specs.Command.{HasEmptied, HasTurnedOff, IsClosingOver, KeepsClosing, after_closing, swapoff_events}
use Rattle.av_swapoff.specs.Empty.{close_of}
use Rattle.av_reclaim.proofs.StepMakes.{frame-found}
use Rattle.av_swapoff.specs.declared.empty.EmptyEnd.{EmptyEnd}
use Rattle.av_swapoff.specs.declared.empty.EmptyEnd.TheVariants.{Empty, NoFrame, NoPage}
use Rattle.av_swapoff.proofs.CloseLaws.{on-shown, serves-closing, serves-off, step-off, view-closing, with_swap}
use Rattle.av_plain.specs.Pass.{pages_written}

-- ---- notes turn no area on or off

on-note : (l : Ledger) (note : Note) → (after_note note l).on ≡ l.on
on-note l (Zeroed p a) = refl
on-note l (New p a f) = refl
on-note l (Copied p a f) = changed-by (λ l. l.on) (λ g l. refl) (key_at p a) f l
on-note l (Loaded s f) = refl
on-note l (Mapped p a f) = refl
on-note l (Put f s) = refl
on-note l (Unmapped f) = by (slot_of l f)
  where
    by : (o : Option Slot) → (if_some o (λ s. change_entries f (λ _. InSlot s)) l).on ≡ l.on
    by None = refl
    by (Some s) = refl
on-note l (Started s) = refl
on-note l (Written s) = by (frame_at l s)
  where
    by : (o : Option ℕ) → (if_some o to_inactive_tail (off_flight s l)).on ≡ l.on
    by None = refl
    by (Some f) = refl
on-note l (Failed s) = refl
on-note l (Dropped s) = settle-on (frame_at l s) (off_cache s l)
on-note l (Kept f Writeback) = refl
on-note l (Kept f WriteStarted) = refl
on-note l (Kept f Referenced) = refl
on-note l (Kept f NoSlot) = refl
on-note l (Kept f Locked) = refl
on-note l (Kept f Ksm) = refl
on-note l (Aged f) = refl
on-note l (Shared f) = refl
on-note l (Joined p a f) = changed-by (λ l. l.on) (λ g l. refl) (key_at p a) f l
on-note l (Moved from to) = refl

on-notes : (l : Ledger) (notes : List Note) → (after_notes l notes).on ≡ l.on
on-notes l [] = refl
on-notes l (note ∷ notes) = on-notes (after_note note l) notes ∙ on-note l note

-- ---- an area that goes off makes no page unclaimed

loads-off : (m : Setting) (w : World) (l : Ledger) (es : List Event) (area : ℕ) → with_loads m w l (es ++ TurnedOff area ∷ []) ≡ with_loads m w l es
loads-off m w l es area = by (is_some m.headers)
  where
    more : (w : World) (l : Ledger) (es : List Event) → after_loads w l (es ++ TurnedOff area ∷ []) ≡ after_loads w l es
    more w l [] = refl
    more w l (e ∷ es) = more (after_load l e w) (after l e) es

    by : (b : Bool) → cond b w (after_loads w l (es ++ TurnedOff area ∷ [])) ≡ cond b w (after_loads w l es)
    by true = refl
    by false = more w l es

-- ---- an area begins to close

-- what stood before stands while it is closing
pub closing-of : (d : Device) (k : Mem) (swap : SwapStore) (area : ℕ) → shown_swap swap ≡ with_closing (Some area) (shown_swap k.swap)
    → (w : World) (r : Rmap) (l : Ledger) → KeepsBetween d k w r l → KeepsClosing d area (with_swap k swap) w r l
closing-of d k swap area close w r l between =
    record { sound = between.sound; serves = serves-closing k swap (Some area) close d None w r l between.serves }

-- also over the device as it is
pub closing-over : (d : Device) (k : Mem) (swap : SwapStore) (area : ℕ) → shown_swap swap ≡ with_closing (Some area) (shown_swap k.swap)
    → IsBetween d.sizes k → IsClosingOver (as_told false d) area (with_swap k swap)
closing-over d k swap area close h = (
  h.1,
  h.2,
  h.3,
  closing-of (as_told false d) k swap area close h.1 h.2 h.3
      (record { sound = h.4.sound; serves = serves-whenever d.sizes None h.0 (d.failures, d.history) None k h.1 h.2 h.3 h.4.serves }),
)

-- ---- when an area has been emptied

module _ (d d' : Device) (k k' : Mem) (w : World) (r : Rmap) (l : Ledger) (area : ℕ) (before now : List Note) (end : EmptyEnd)
    (keeps : KeepsClosing d area k w r l) (h : HasEmptied d d' k k' w r l area before now end) where
  setting-stays : setting_by d' k' ≡ setting_by d k
  setting-stays = ap (λ n. setting_of n d') h.count ∙ same-setting (frame_count k) d d' h.same

  all-sound : AllSound (setting_by d k) w l
  all-sound = record {
    world = keeps.serves.tidy;
    ledger = keeps.sound;
    at_pages = keeps.serves.at_pages;
    in_areas = keeps.serves.there;
    areas_fit = keeps.serves.areas_fit;
  }

  events-done : after_notes (after_notes l h.empties.done) h.empties.rest ≡ after_notes l h.added
  events-done = sym (after_notes-append l h.empties.done h.empties.rest) ∙ ap (after_notes l) (sym h.empties.whole)

  -- none of its slots is in use where it is empty
  pub none-in-use : close_of end ≡ Closed → slots_in_use (setting_by d' k') (after_notes l h.added) area ≡ []
  none-in-use closed = ap (λ m. slots_in_use m (after_notes l h.added) area) setting-stays
      ∙ ap (λ x. slots_in_use (setting_by d k) x area) (sym events-done)
      ∙ (empties-hold (setting_by d k) w area (after_notes l h.empties.done) h.empties.pages h.empties.rest (close_of end)
      (done-empty (setting_by d k) w l h.empties.done all-sound h.empties.completes) h.empties.empties).none closed

  pub on-still : is_shown_on (shown_swap k.swap) area ≡ true → is_shown_on (shown_swap k'.swap) area ≡ true
  on-still on = sym (on-shown k' (after_notes l h.added) h.closing.serves.held.ledger.swap area)
      ∙ ap (λ (es : List (ℕ × SwapArea)). is_some (find nat_cmp area es)) (on-notes l h.added)
      ∙ on-shown k l keeps.serves.held.ledger.swap area ∙ on

  -- so none of them has a count
  pub unused : close_of end ≡ Closed → (s : Slot) → s.area ≡ area → count_of (shown_swap k'.swap) s ≡ 0
  unused closed s same = shown-count ∙ zero (slot_count l' s) (by (nat_lt 0 (slot_count l' s)) refl)
    where
      l' : Ledger
      l' = after_notes l h.added

      zero : (n : ℕ) → nat_lt 0 n ≡ false → n ≡ 0
      zero n e = grind (arith, nat_tests, e)

      positive : (n : ℕ) → nat_lt 0 n ≡ true → 0 < n
      positive n e = grind (arith, nat_tests, e)

      itself : (s.area == area) ≡ true
      itself = grind (arith, nat_tests, same)

      shown-count : count_of (shown_swap k'.swap) s ≡ slot_count l' s
      shown-count = (λ i. h.closing.serves.held.ledger.swap.counts s i + cond (is_some (h.closing.serves.held.ledger.swap.finds s i)) 1 0)
          ∙ ap (λ b. slot_entries l' s + cond b 1 0) (frame-found s l')

      by : (b : Bool) → nat_lt 0 (slot_count l' s) ≡ b → nat_lt 0 (slot_count l' s) ≡ false
      by false is = is
      by true is = absurd (false≢true (sym (used-elsewhere (setting_by d' k') l' area s h.closing.serves.there (none-in-use closed)
          (positive (count l' s) (sym (counted-slot l' s) ∙ is))) ∙ itself))

  -- ---- what the command did

  turned-off : TurnsOff (setting_by d k) w l area (swapoff_events area h.added end) (close_answer (close_of end)) []
  turned-off = record {
    done = h.empties.done;
    pages = h.empties.pages;
    notes = h.empties.rest;
    end = close_of end;
    completes = h.empties.completes;
    empties = h.empties.empties;
    whole = ap (λ ns. note_events ns ++ turn_off_events area (close_of end)) h.empties.whole;
    answered = refl;
    no_rows = refl;
  }

  sound-then : IsSound (setting_by d' k') (after_all l (swapoff_events area h.added end))
  sound-then = subst (λ m. IsSound m (after_all l (swapoff_events area h.added end))) (sym setting-stays)
      (turn-off-sound (setting_by d k) w l area (swapoff_events area h.added end) (close_answer (close_of end)) [] all-sound turned-off).ledger

  -- over these swap areas it has been done, where that is served and chosen
  abbrev Done : SwapStore → List Event → Type 0
  Done swap es = Serves d' None (with_swap k' swap) (with_loads (setting_by d k) w l es) (rmap_after_all l es r) (after_all l es)
      × ChoosesAll (setting_by d k) (Some area) l es (free_of (view k)) (free_of (view (with_swap k' swap)))

  -- it stays on
  stays-on : (swap : SwapStore) → shown_swap swap ≡ with_closing None (shown_swap k'.swap) → Done swap (note_events h.added ++ [])
  stays-on swap same = subst (Done swap) (sym (append-nil (note_events h.added))) (
    subst (λ x. Serves d' None (with_swap k' swap) w' r' x) (sym (note_events-all l h.added)) (serves-closing k' swap None same d' (Some area) w' r'
        (after_notes l h.added) h.closing.serves),
    subst (λ (v : View). ChoosesAll (setting_by d k) (Some area) l (note_events h.added) (free_of (view k)) (free_of v))
        (sym (view-closing k' swap None same))
        h.free,
  )
    where
      w' : World
      w' = with_loads (setting_by d k) w l (note_events h.added)

      r' : Rmap
      r' = rmap_after_all l (note_events h.added) r

  -- or goes off
  goes-off : (swap : SwapStore) → shown_swap swap ≡ after_off area (shown_swap k'.swap) → close_of end ≡ Closed
      → Done swap (note_events h.added ++ TurnedOff area ∷ [])
  goes-off swap same closed = (
    subst (λ x. Serves d' None (with_swap k' swap) x (rmap_after_all l all r) (after_all l all)) (sym (loads-off (setting_by d k) w l es area))
        (subst (λ x. Serves d' None (with_swap k' swap) w' x (after_all l all)) (sym (rmap_after_all-append l es (TurnedOff area ∷ []) r))
        (subst (λ x. Serves d' None (with_swap k' swap) w' r' x) (sym ledger)
        (serves-off d' k' swap area same w' r' (after_notes l h.added) (Some area) h.closing.serves h.closing.sound.in_order (none-in-use closed)))),
    chooses-append (setting_by d k) (Some area) l es (TurnedOff area ∷ []) (free_of (view k)) (free_of (view k'))
        (free_of (view (with_swap k' swap))) h.free
        (subst (λ x. ChoosesAll (setting_by d k) (Some area) x (TurnedOff area ∷ []) (free_of (view k')) (free_of (view (with_swap k' swap))))
        (sym (note_events-all l h.added)) (free_of (view (with_swap k' swap)), chosen, refl)),
  )
    where
      es : List Event
      es = note_events h.added

      all : List Event
      all = note_events h.added ++ TurnedOff area ∷ []

      w' : World
      w' = with_loads (setting_by d k) w l (note_events h.added)

      r' : Rmap
      r' = rmap_after_all l (note_events h.added) r

      ledger : after_all l (note_events h.added ++ TurnedOff area ∷ []) ≡ after (after_notes l h.added) (TurnedOff area)
      ledger = after_all-append l (note_events h.added) (TurnedOff area ∷ []) ∙ ap (λ x. after x (TurnedOff area)) (note_events-all l h.added)

      chosen : Chooses (setting_by d k) (Some area) (after_notes l h.added) (TurnedOff area) (free_of (view k')) (free_of (view (with_swap k' swap)))
      chosen = subst (λ m. Chooses m (Some area) (after_notes l h.added) (TurnedOff area) (free_of (view k'))
          (free_of (view (with_swap k' swap)))) setting-stays
          (step-off d' k' swap area same w' r' (after_notes l h.added) (Some area) h.closing.serves).chosen

  ends : (swap : SwapStore) → shown_swap swap ≡ after_closing area end (shown_swap k'.swap) → Done swap (swapoff_events area h.added end)
  ends swap same = by end refl same
    where
      by : (e : EmptyEnd) → end ≡ e → shown_swap swap ≡ after_closing area e (shown_swap k'.swap) → Done swap (swapoff_events area h.added e)
      by Empty is same = goes-off swap same (ap close_of is)
      by (NoFrame out) is same = stays-on swap same
      by NoPage is same = stays-on swap same

-- an area that goes off makes no note
pub swapoff-notes : (area : ℕ) (added : List Note) (end : EmptyEnd) → notes_of (swapoff_events area added end) ≡ added
swapoff-notes area added end = notes_of-append (note_events added) (turn_off_events area (close_of end))
    ∙ (λ i. notes_of-note_events added i ++ none end i) ∙ append-nil added
  where
    none : (end : EmptyEnd) → notes_of (turn_off_events area (close_of end)) ≡ []
    none Empty = refl
    none (NoFrame out) = refl
    none NoPage = refl

-- whatever stood before the area began to close
pub has-turned-off : (d d' : Device) (old k' : Mem) (swap0 swap : SwapStore) (area : ℕ) (before now : List Note) (end : EmptyEnd)
    → shown_swap swap0 ≡ with_closing (Some area) (shown_swap old.swap) → shown_swap swap ≡ after_closing area end (shown_swap k'.swap)
    → (w : World) (r : Rmap) (l : Ledger) → KeepsBetween d old w r l → HasEmptied d d' (with_swap old swap0) k' w r l area before now end
    → HasTurnedOff d d' old (with_swap k' swap) w r l area before now end
has-turned-off d d' old k' swap0 swap area before now end close finish w r l between h =
    let keeps : KeepsClosing d area (with_swap old swap0) w r l = closing-of d old swap0 area close w r l between in
    let done = ends d d' (with_swap old swap0) k' w r l area before now end keeps h swap finish in
    record {
      added = h.added;
      noted = h.noted;
      turns_off = turned-off d d' (with_swap old swap0) k' w r l area before now end keeps h;
      done = record {
        between = record { sound = sound-then d d' (with_swap old swap0) k' w r l area before now end keeps h; serves = done.0 };
        free = subst (λ (v : View). ChoosesAll (setting_by d old) (Some area) l (swapoff_events area h.added end) (free_of v)
            (free_of (view (with_swap k' swap))))
            (view-closing old swap0 (Some area) close) done.1;
        same = h.same;
        wrote = subst (λ ns. Wrote (pages_written ns) d.history d'.history) (sym (swapoff-notes area h.added end)) h.wrote;
        count = h.count;
      };
    }

-- ---- the end

-- the area that was closing may go off, or give its slots again
pub record MayEnd (k : Mem) (area : ℕ) (end : EmptyEnd) : Type 0 where
  pub on : is_shown_on (shown_swap k.swap) area ≡ true
  pub closing : (shown_swap k.swap).closing ≡ Some area
  pub unused : end ≡ Empty → (s : Slot) → s.area ≡ area → count_of (shown_swap k.swap) s ≡ 0

pub may-end : (d d' : Device) (k k' : Mem) (area : ℕ) (before now : List Note) (end : EmptyEnd) → is_shown_on (shown_swap k.swap) area ≡ true
    → (o : IsClosingOver d area k) → HasEmptied d d' k k' o.0 o.1 o.2 area before now end → MayEnd k' area end
may-end d d' k k' area before now end on o h = record {
  on = on-still d d' k k' o.0 o.1 o.2 area before now end o.3 h on;
  closing = h.closing.serves.swap.closed;
  unused = λ e. unused d d' k k' o.0 o.1 o.2 area before now end o.3 h (ap close_of e);
}
