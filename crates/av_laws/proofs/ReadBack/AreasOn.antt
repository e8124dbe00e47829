-- In a run each swap area that is on has one of the eight numbers, and few slots: so what `swapon` answers has numbers of 64 bits.
use Rattle.std.specs.FinMap.Entries.{by_order, find, put, where_key}
use Rattle.std.specs.List.{AllByRecursion}
use Rattle.std.specs.Ordering.{eq_by_cmp, nat_cmp}
use Rattle.std.specs.Prelude.{IfSome, IsSomeAnd, MatchBool, MatchOption, count_by}
use Rattle.std.specs.declared.cmp.Ordering.{Ordering}
use Rattle.std.specs.declared.cmp.Ordering.TheVariants.{Less, Equal, Greater}
use Rattle.std.proofs.Common.{◌≡◌, ◌⊎◌, inl, inr, ℕ, ◌+◌, ◌-◌, ◌<◌, ◌≤◌, min, Bool, true, false, cond, not, ◌&&◌, ◌==◌, List, [], ◌∷◌, ◌++◌, map, Option, Some, None, is_some, refl, sym, ap, subst, ◌∙◌, arith}
use Rattle.std.proofs.lemmas.Bool.Decides.{nat_tests}
use Rattle.av_base.specs.Keys.{Key}
use Rattle.av_base.specs.Page.{page_of, pages_met, pages_of}
use Rattle.av_base.specs.Words.{is_in, within}
use Rattle.av_base.specs.declared.slot.Slot.{Slot}
use Rattle.av_clusters.specs.Clusters.{Slots, fresh, is_free as is_free_page}
use Rattle.av_swapdev.specs.Device.{most_pages}
use Rattle.av_swapdev.specs.Header.{Layout}
use Rattle.av_text.specs.Number.{IsWide}
use Rattle.av_trace.specs.Command.{IsInRange}
use Rattle.av_trace.specs.declared.command.Command.{Command}
use Rattle.av_trace.specs.declared.command.Command.TheVariants.{Compact, Merge, Spawn, Fork, Exit, Mmap, Mremap, Munmap, Mprotect, Madvise, Mlock, Munlock, Read, Write, Reclaim, Age, Complete, Swapon, Swapoff, Maps, Areas as AsksAreas, Rmap as AsksRmap, Entry as AsksEntry, Slot as AsksSlot, Stat}
use Rattle.av_trace.specs.declared.note.Cause.TheVariants.{Ksm, Locked, NoSlot, Referenced, WriteStarted, Writeback}
use Rattle.av_trace.specs.declared.note.Note.{Note}
use Rattle.av_trace.specs.declared.note.Note.TheVariants.{Aged, Copied, Dropped, Failed, Kept, Loaded, Mapped, New, Put, Started, Unmapped, Written, Zeroed, Joined, Moved, Shared}
use Rattle.av_trace.specs.declared.place.Place.{Place}
use Rattle.av_trace.specs.declared.place.Place.TheVariants.{Auto, At, Fixed, NoReplace}
use Rattle.av_trace.specs.declared.reply.Answer.{Answer}
use Rattle.av_trace.specs.declared.reply.Answer.TheVariants.{Refused}
use Rattle.av_trace.specs.declared.reply.Errno.{Errno}
use Rattle.av_trace.specs.declared.reply.Errno.TheVariants.{Eio, Enomem}
use Rattle.av_trace.specs.declared.reply.Reply.{Reply}
use Rattle.av_trace.specs.declared.row.Row.{Row}
use Rattle.av_plain.specs.Access.{Accesses, End, page_events}
use Rattle.av_base.specs.declared.flags.Flag.{Flag}
use Rattle.av_plain.specs.Advice.{advice_events, flag_of_advice, pages_advised}
use Rattle.av_plain.specs.Lock.{BringsIn, accesses_of, with_lock}
use Rattle.av_plain.specs.Choice.{AreFresh, ChoosesAll, Free}
use Rattle.av_plain.specs.Event.{Event, EntriesMoved, FlagSet, Forked, FreeSorted, Noted, TurnedOff, TurnedOn, Used, Zapped, after, after_all, after_note, after_use_of, change_entries, entries_where, if_some, key_at, note_events, off_cache, off_flight, put_all, set_entry, settle_entry, to_inactive_tail, when, with_stale, without_seen}
use Rattle.av_plain.specs.Ledger.{Entry, HasNumbers, InFrame, InSlot, Ledger, Setting, SwapArea, Zero, entry, frame_at, is_orphan, size_of, slot_of}
use Rattle.av_plain.specs.Map.{zaps_for_place}
use Rattle.av_plain.specs.Mremap.{events_to, range_zaps}
use Rattle.av_plain.specs.Refusal.{Refuses, refusal, tests}
use Rattle.av_plain.specs.Sound.{AllSound}
use Rattle.av_plain.specs.Step.{Follows, closing_swap_area}
use Rattle.av_plain.specs.Swapoff.{Close, Closed, NoRoom, Unread, turn_off_events}
use Rattle.av_plain.specs.Swapon.{IsByHeader, header_answer, priority_of, turn_on_events}
use Rattle.av_plain.specs.Transcript.{IsStep, State}
use Rattle.av_plain.specs.World.{World, pages, pages_to_hole, pages_to_locked}
use Rattle.av_plain.specs.Zap.{keys_in, keys_of_process, orphan_drop, slot_behind_key, zap_of, zaps_of}
use Rattle.av_plain.proofs.Event.{changed-by}
use Rattle.av_plain.proofs.Mremap.{then_target}
use Rattle.av_plain.proofs.Sound.There.{settle-on}
use Rattle.av_laws.specs.ReadBack.{IsSmall, IsSmallArea, IsSmallLayout, IsSmallSetting, IsWideOnAnswer}
use Rattle.av_laws.proofs.ReadBack.{AskedOn, has-pages}
use Rattle.av_laws.proofs.ReadBack.Counts.{IsFewOn, slots-few}
use Rattle.av_laws.proofs.ReadBack.InRuns.{Below}
use Rattle.av_laws.proofs.ReadBack.Wide.{all-append}

-- ---- which area an event turns on

-- an area that a command may name, and that has pages
abbrev IsNamed : Setting → Event → Type 0
IsNamed m (TurnedOn k area) = (k ≤ 7) × (0 < size_of m k)
IsNamed m event = Unit {0}

abbrev AreNamed : Setting → List Event → Type 0
AreNamed m events = AllByRecursion (IsNamed m) events

module _ (m : Setting) where
  named-notes : (notes : List Note) → AreNamed m (note_events notes)
  named-notes [] = tt
  named-notes (note ∷ notes) = (tt, named-notes notes)

  named-zap : (l : Ledger) (k : Key) → AreNamed m (zap_of l k)
  named-zap l k = (tt, by (after l (Zapped k)) (slot_behind_key l (entry l k)))
    where
      by : (now : Ledger) (o : Option Slot) → AreNamed m (orphan_drop now o)
      by now None = tt
      by now (Some s) = named-notes (when (is_orphan now s) (Dropped s))

  named-zaps : (l : Ledger) (ks : List Key) → AreNamed m (zaps_of l ks)
  named-zaps l [] = tt
  named-zaps l (k ∷ ks) = all-append (IsNamed m) (zap_of l k) (zaps_of (after_all l (zap_of l k)) ks) (named-zap l k)
      (named-zaps (after_all l (zap_of l k)) ks)

  named-remap : (l : Ledger) (p from n : ℕ) (to : Option ℕ) (k : ℕ) → AreNamed m (events_to l p from n to k)
  named-remap l p from n None k = tt
  named-remap l p from n (Some to) k = by (to == from)
    where
      first : List Event
      first = range_zaps l p to k

      second : List Event
      second = range_zaps (then_target l p from n to k) p (from + k) (n - k)

      by : (b : Bool) → AreNamed m (cond b (range_zaps l p (from + k) (n - k)) ((first ++ second) ++ EntriesMoved p (min n k) from to ∷ []))
      by true = named-zaps l (keys_in l p (from + k) (n - k))
      by false = all-append (IsNamed m) (first ++ second) (EntriesMoved p (min n k) from to ∷ [])
          (all-append (IsNamed m) first second (named-zaps l (keys_in l p to k))
          (named-zaps (then_target l p from n to k) (keys_in (then_target l p from n to k) p (from + k) (n - k)))) (tt, tt)

  named-accesses : (w : World) (l : Ledger) (p : ℕ) (pages : List (Bool × ℕ)) (events : List Event) (end : End) → Accesses m w l p pages events end
      → AreNamed m events
  named-accesses w l p [] events end h = subst (AreNamed m) (sym h.0) tt
  named-accesses w l p (page ∷ pages) events end (inl h) = subst (AreNamed m) (sym h.3)
      (all-append (IsNamed m) (page_events page.0 (p, page.1) h.0 None) h.1
      (all-append (IsNamed m) (note_events h.0) (Used page.0 (p, page.1) ∷ []) (named-notes h.0) (tt, tt))
      (named-accesses w (after_all l (page_events page.0 (p, page.1) h.0 None)) p pages h.1 end h.4))
  named-accesses w l p (page ∷ pages) events end (inr h) = subst (AreNamed m) (sym h.3) (named-notes h.0)

  none-named : (events : List Event) → events ≡ [] → AreNamed m events
  none-named events e = subst (AreNamed m) (sym e) tt

  named-on : (k : ℕ) (priority : Option ℕ) (answer : Answer) → k ≤ 7 → 0 < size_of m k → (answer ≡ Refused Eio) ⊎ IsByHeader m.headers k answer
      → AreNamed m (turn_on_events k priority answer)
  named-on k priority answer few some (inl e) = subst (λ a. AreNamed m (turn_on_events k priority a)) (sym e) tt
  named-on k priority answer few some (inr h) = by m.headers h
    where
      of_header : (o : Option Layout) → AreNamed m (turn_on_events k priority (header_answer o))
      of_header None = tt
      of_header (Some layout) = ((few, some), tt)

      by : (o : Option (ℕ → Option Layout)) → IsByHeader o k answer → AreNamed m (turn_on_events k priority answer)
      by (Some headers) e = subst (λ a. AreNamed m (turn_on_events k priority a)) (sym e) (of_header (headers k))
      by None (inl e) = subst (λ a. AreNamed m (turn_on_events k priority a)) (sym e) tt
      by None (inr h) = subst (λ a. AreNamed m (turn_on_events k priority a)) (sym h.3) ((few, some), tt)

  named-follows : (w : World) (l : Ledger) (command : Command) (events : List Event) (answer : Answer) (rows : List Row) → IsInRange command
      → refusal (tests m w l command) ≡ None → Follows m w l command events answer rows → AreNamed m events
  named-follows w l (Spawn p) events answer rows fit fine h = none-named events h.1
  named-follows w l (Fork p q) events answer rows fit fine h = subst (AreNamed m) (sym h.1) (tt, tt)
  named-follows w l (Exit p) events answer rows fit fine h = subst (AreNamed m) (sym h.1) (named-zaps l (keys_of_process l p))
  named-follows w l (Mmap p len prot place) events answer rows fit fine h = subst (AreNamed m) (sym h.3) (by place)
    where
      by : (place : Place) → AreNamed m (zaps_for_place l p (pages_of len) place)
      by Auto = tt
      by (At a) = tt
      by (Fixed a) = named-zaps l (keys_in l p (page_of a) (pages_of len))
      by (NoReplace a) = tt
  named-follows w l (Munmap p a len) events answer rows fit fine h = subst (AreNamed m) (sym h.1)
      (named-zaps l (keys_in l p (page_of a) (pages_of len)))
  named-follows w l (Mprotect p a len prot) events answer rows fit fine h = none-named events h.1
  named-follows w l (Mremap p a old new mode) events answer rows fit fine h = subst (AreNamed m) (sym h.3)
      (named-remap l p (page_of a) (pages_of old) h.0 (pages_of new))
  named-follows w l (Madvise p a len advice) events answer rows fit fine h = subst (AreNamed m) (sym h.1) (by (flag_of_advice advice))
    where
      by : (change : Option (Flag × Bool))
          → AreNamed m (advice_events l p (page_of a) (pages_advised (pages w p) (page_of a) (pages_of len) change) change)
      by None = named-zaps l (keys_in l p (page_of a) (pages_to_locked (pages w p) (page_of a) (pages_of len)))
      by (Some change) = (tt, tt)
  named-follows w l (Mlock p a len) events answer rows fit fine h = subst (AreNamed m) (sym h.1)
      (tt, by (pages_to_hole (pages w p) (page_of a) (pages_met a len) == pages_met a len) h.3)
    where
      by : (b : Bool) → MatchBool b (BringsIn m w l p (page_of a) (pages_met a len) h.0 answer) ((h.0 ≡ []) × (answer ≡ Refused Enomem))
          → AreNamed m h.0
      by true q = named-accesses (with_lock true w p (page_of a) (pages_met a len)) l p
          (accesses_of (pages w p) (page_of a) (pages_met a len)) h.0 q.0 q.1
      by false q = none-named h.0 q.0
  named-follows w l (Munlock p a len) events answer rows fit fine h = subst (AreNamed m) (sym h.1) (tt, tt)
  named-follows w l (Read p a n) events answer rows fit fine h = named-accesses w l p _ events h.0 h.2
  named-follows w l (Write p a bytes) events answer rows fit fine h = named-accesses w l p _ events h.0 h.1
  named-follows w l (Reclaim n) events answer rows fit fine h = subst (AreNamed m) (sym h.3) (named-notes h.0)
  named-follows w l (Age n) events answer rows fit fine h = subst (AreNamed m) (sym h.1) (named-notes _)
  named-follows w l (Complete n) events answer rows fit fine h = subst (AreNamed m) (sym h.3) (named-notes h.0)
  named-follows w l (Swapon k priority) events answer rows fit fine h = subst (AreNamed m) (sym h.1)
      (named-on k priority answer fit.0.most (has-pages m w l k priority fine) h.0)
  named-follows w l (Swapoff k) events answer rows fit fine h = subst (AreNamed m) (sym h.whole)
      (all-append (IsNamed m) (note_events (h.done ++ h.notes)) (turn_off_events k h.end) (named-notes (h.done ++ h.notes)) (by h.end))
    where
      by : (end : Close) → AreNamed m (turn_off_events k end)
      by Closed = (tt, tt)
      by (NoRoom out) = tt
      by Unread = tt
  named-follows w l Merge events answer rows fit fine h = subst (AreNamed m) (sym h.2) (named-notes _)
  named-follows w l Compact events answer rows fit fine h = subst (AreNamed m) (sym h.2)
      (all-append (IsNamed m) (note_events h.0) (FreeSorted ∷ []) (named-notes h.0) (tt, tt))
  named-follows w l (Maps p) events answer rows fit fine h = none-named events h.2
  named-follows w l (AsksAreas p) events answer rows fit fine h = none-named events h.2
  named-follows w l (AsksRmap p a) events answer rows fit fine h = none-named events h.1
  named-follows w l (AsksEntry p a) events answer rows fit fine h = none-named events h.1
  named-follows w l (AsksSlot k page) events answer rows fit fine h = none-named events h.1
  named-follows w l Stat events answer rows fit fine h = none-named events h.1

-- ---- and it has few slots

abbrev IsFewEvent : Event → Type 0
IsFewEvent (TurnedOn k area) = IsFewOn (k, area) × IsWide area.bad
IsFewEvent event = Unit {0}

-- new clusters are those of an area with few pages
fresh-few : (m : Setting) (k : ℕ) (area : SwapArea) (made : Slots) → IsSmallArea m k → AreFresh m k area made
    → (area.slots ≤ most_pages) × IsWide area.bad
fresh-few m k area made small h = by m.headers small.header h
  where
    told : (o : Option Layout) → IfSome o IsSmallLayout
        → IsSomeAnd o (λ (h : Layout). HasNumbers area h × (made ≡ fresh h.pages h.bad)) → (area.slots ≤ most_pages) × IsWide area.bad
    told None few h = absurd h
    told (Some layout) few h = let a = h.0.slots in let b = h.0.bad in (omega (arith, few, a), omega (arith, few, b))

    by : (o : Option (ℕ → Option Layout))
        → IfSome {T = ℕ → Option Layout} o (λ headers. IfSome (headers k) IsSmallLayout)
        → MatchOption {T = ℕ → Option Layout} o
        ((pages : ℕ) × (bad : List ℕ) × (pages ≤ min (size_of m k) most_pages) × (1 + area.slots + area.bad ≡ pages)
        × (made ≡ fresh pages bad) × (count_by is_free_page made.pages ≡ area.slots))
        (λ headers. IsSomeAnd (headers k) (λ (h : Layout). HasNumbers area h × (made ≡ fresh h.pages h.bad)))
        → (area.slots ≤ most_pages) × IsWide area.bad
    by None few h = let least = h.2 in let sum = h.3 in (omega (arith, least, sum), omega (arith, least, sum))
    by (Some headers) few h = told (headers k) few h

few-event : (m : Setting) (closing : Option ℕ) (l : Ledger) (e : Event) (free free' : Free) → IsSmallSetting m → IsNamed m e
    → ChoosesAll m closing l (e ∷ []) free free' → IsFewEvent e
few-event m closing l (TurnedOn k area) free free' small named h =
    let switched = h.1.slots.2 in
    let few = fresh-few m k area switched.0 (small.areas k named.1) switched.1 in
    ((named.0, few.0), few.1)
few-event m closing l (Noted note) free free' small named h = tt
few-event m closing l (Zapped k) free free' small named h = tt
few-event m closing l (Used write k) free free' small named h = tt
few-event m closing l (Forked p q pages) free free' small named h = tt
few-event m closing l (EntriesMoved p n from to) free free' small named h = tt
few-event m closing l (FlagSet p from n flag set) free free' small named h = tt
few-event m closing l (TurnedOff k) free free' small named h = tt
few-event m closing l FreeSorted free free' small named h = tt

few-events : (m : Setting) (closing : Option ℕ) (l : Ledger) (es : List Event) (free free' : Free) → IsSmallSetting m → AreNamed m es
    → ChoosesAll m closing l es free free' → AllByRecursion IsFewEvent es
few-events m closing l [] free free' small named h = tt
few-events m closing l (e ∷ es) free free' small named h = (
  few-event m closing l e free h.0 small named.0 (h.0, h.1, refl),
  few-events m closing (after l e) es h.0 free' small named.1 h.2,
)

-- ---- the areas that are on after a command

abbrev pub AreFewOn : Ledger → Type 0
AreFewOn l = AllByRecursion IsFewOn l.on

few-put : (k : ℕ) (area : SwapArea) (on : List (ℕ × SwapArea)) → IsFewOn (k, area) → AllByRecursion IsFewOn on
    → AllByRecursion IsFewOn (put nat_cmp k area on)
few-put k area [] few all = (few, tt)
few-put k area (a ∷ on) few all = by (nat_cmp k a.0) (few-put k area on few all.1)
  where
    by : (o : Ordering) → AllByRecursion IsFewOn (put nat_cmp k area on)
        → AllByRecursion IsFewOn (by_order o ((k, area) ∷ a ∷ on) ((a.0, area) ∷ on) (a ∷ put nat_cmp k area on))
    by Less rest = (few, all)
    by Equal rest = ((all.0.0, few.1), all.1)
    by Greater rest = (all.0, rest)

few-where : (test : ℕ → Bool) (on : List (ℕ × SwapArea)) → AllByRecursion IsFewOn on → AllByRecursion IsFewOn (where_key nat_cmp test on)
few-where test [] all = tt
few-where test (a ∷ on) all = by (test a.0) (few-where test on all.1)
  where
    by : (b : Bool) → AllByRecursion IsFewOn (where_key nat_cmp test on)
        → AllByRecursion IsFewOn (cond b (a ∷ where_key nat_cmp test on) (where_key nat_cmp test on))
    by true rest = (all.0, rest)
    by false rest = rest

-- notes leave them
note-on : (note : Note) (l : Ledger) → (after_note note l).on ≡ l.on
note-on (Zeroed p a) l = refl
note-on (New p a f) l = refl
note-on (Copied p a f) l = changed-by (λ l. l.on) (λ g l. refl) (key_at p a) f l
note-on (Loaded s f) l = refl
note-on (Mapped p a f) l = refl
note-on (Put f s) l = refl
note-on (Unmapped f) l = by (slot_of l f)
  where
    by : (o : Option Slot) → (if_some o (λ s. change_entries f (λ _. InSlot s)) l).on ≡ l.on
    by None = refl
    by (Some s) = refl
note-on (Started s) l = refl
note-on (Written s) l = by (frame_at l s)
  where
    by : (o : Option ℕ) → (if_some o to_inactive_tail (off_flight s l)).on ≡ l.on
    by None = refl
    by (Some f) = refl
note-on (Failed s) l = refl
note-on (Dropped s) l = settle-on (frame_at l s) (off_cache s l)
note-on (Kept f Writeback) l = refl
note-on (Kept f WriteStarted) l = refl
note-on (Kept f Referenced) l = refl
note-on (Kept f NoSlot) l = refl
note-on (Kept f Locked) l = refl
note-on (Kept f Ksm) l = refl
note-on (Aged f) l = refl
note-on (Shared f) l = refl
note-on (Joined p a f) l = changed-by (λ l. l.on) (λ g l. refl) (key_at p a) f l
note-on (Moved from to) l = refl

few-put_all : (es : List (Key × Entry)) (l : Ledger) → AreFewOn l → AreFewOn (put_all es l)
few-put_all [] l all = all
few-put_all (e ∷ es) l all = few-put_all es (set_entry e.0 e.1 l) all

few-after : (l : Ledger) (e : Event) → IsFewEvent e → AreFewOn l → AreFewOn (after l e)
few-after l (Noted note) few all = subst (AllByRecursion IsFewOn) (sym (note-on note l)) all
few-after l (Zapped k) few all = subst (AllByRecursion IsFewOn) (sym (by (entry l k) _)) all
  where
    by : (o : Option Entry) (left : Ledger) → (settle_entry o left).on ≡ left.on
    by None left = refl
    by (Some Zero) left = refl
    by (Some (InFrame f seen)) left = settle-on (Some f) left
    by (Some (InSlot s)) left = refl
few-after l (Used write k) few all = subst (AllByRecursion IsFewOn) (sym (by write (entry l k))) all
  where
    stale : (o : Option Slot) (l' : Ledger) → (if_some o (with_stale true) l').on ≡ l'.on
    stale None l' = refl
    stale (Some s) l' = refl

    by : (write : Bool) (o : Option Entry) → (after_use_of write k l o).on ≡ l.on
    by write None = refl
    by write (Some Zero) = refl
    by write (Some (InSlot s)) = refl
    by false (Some (InFrame f seen)) = refl
    by true (Some (InFrame f seen)) = stale (slot_of l f) (set_entry k (InFrame f true) l)
few-after l (Forked p q pages) few all = few-put_all
    (map (λ e. ((q, e.0.1), without_seen e.1)) (entries_where (λ k. k.0 == p && is_in k.1 pages) l)) l all
few-after l (EntriesMoved p n from to) few all = few-put_all
    (map (λ e. ((p, e.0.1 - from + to), e.1)) (entries_where (λ k. k.0 == p && within from n k.1) l))
    (record l { entries = entries_where (λ k. not (k.0 == p && within from n k.1)) l }) all
few-after l (FlagSet p from n flag set) few all = all
few-after l (TurnedOn k area) few all = few-put k area l.on few.0 all
few-after l (TurnedOff k) few all = few-where (λ q. not (q == k)) l.on all
few-after l FreeSorted few all = all

few-after_all : (l : Ledger) (es : List Event) → AllByRecursion IsFewEvent es → AreFewOn l → AreFewOn (after_all l es)
few-after_all l [] few all = all
few-after_all l (e ∷ es) few all = few-after_all (after l e) es few.1 (few-after l e few.0 all)

-- ---- a step

module _ (m : Setting) (old new : State) (command : Command) (reply : Reply) (small : IsSmallSetting m) (fit : IsInRange command)
    (h : IsStep m old command reply new) where
  step-events : AllByRecursion IsFewEvent h.events
  step-events = few-events m (closing_swap_area command) old.ledger h.events old.free new.free small
      (by (refusal (tests m old.world old.ledger command)) refl h.legal.answer) h.free
    where
      by : (o : Option Errno) → refusal (tests m old.world old.ledger command) ≡ o
          → MatchOption o (Follows m old.world old.ledger command h.events reply.answer reply.rows)
          (λ error. Refuses error h.events reply.answer reply.rows) → AreNamed m h.events
      by None fine x = named-follows m old.world old.ledger command h.events reply.answer reply.rows fit fine x
      by (Some error) fine x = none-named m h.events x.1

  pub step-few_on : AreFewOn old.ledger → AreFewOn new.ledger
  step-few_on all = subst AreFewOn (sym h.ledger) (few-after_all old.ledger h.events step-events all)

-- what a swapon answers without a header has numbers of 64 bits
pub on-now : (m : Setting) (old new : State) (command : Command) (reply : Reply) → IsSmallSetting m → IsInRange command
    → IsStep m old command reply new → AskedOn m command reply.answer
on-now m old new (Swapon k priority) reply small fit h = by (refusal (tests m old.world old.ledger (Swapon k priority))) h.legal.answer
  where
    turned : (events : List Event) (slots bad : ℕ) → AllByRecursion IsFewEvent events
        → events ≡ TurnedOn k (record { slots = slots; bad = bad; priority = priority_of priority }) ∷ [] → IsWide slots × IsWide bad
    turned events slots bad few is =
        let one = subst (AllByRecursion IsFewEvent) is few in
        let most = one.0.0.1 in
        (omega (arith, most), one.0.1)

    of_header : (headers : ℕ → Option Layout) (o : Option Layout) → IsWideOnAnswer (record m { headers = Some headers }) (header_answer o)
    of_header headers None = tt
    of_header headers (Some layout) = tt

    said : (o : Option (ℕ → Option Layout)) → m.headers ≡ o → IsByHeader o k reply.answer
        → h.events ≡ turn_on_events k priority reply.answer → IsWideOnAnswer (record m { headers = o }) reply.answer
    said (Some headers) told e es = subst (IsWideOnAnswer (record m { headers = Some headers })) (sym e) (of_header headers (headers k))
    said None told (inl e) es = subst (IsWideOnAnswer (record m { headers = None })) (sym e) tt
    said None told (inr q) es = subst (IsWideOnAnswer (record m { headers = None })) (sym q.3)
        (turned h.events q.0 q.1 (step-events m old new (Swapon k priority) reply small fit h) (es ∙ ap (turn_on_events k priority) q.3))

    by : (o : Option Errno) → MatchOption o (Follows m old.world old.ledger (Swapon k priority) h.events reply.answer reply.rows)
        (λ error. Refuses error h.events reply.answer reply.rows) → IsWideOnAnswer m reply.answer
    by None (inl e, es, rows) = subst (IsWideOnAnswer m) (sym e) tt
    by None (inr x, es, rows) = said m.headers refl x es
    by (Some error) x = subst (IsWideOnAnswer m) (sym x.0) tt
on-now m old new command reply small fit h = tt

-- ---- a state in a run is small

pub small-state : (m : Setting) (w : World) (l : Ledger) → AllSound m w l → Below w → AreFewOn l → IsSmall w l
small-state m w l s below few = record {
  below = λ p page is. (below p page is).0;
  processes = λ p page is. (below p page is).1;
  areas = λ k is. let low = numbered k l.on few is in omega (arith, low);
  slots = let most = slots-few l.on s.areas_fit.rising few in omega (arith, most);
}
  where
    numbered : (k : ℕ) (on : List (ℕ × SwapArea)) → AllByRecursion IsFewOn on → is_some (find nat_cmp k on) ≡ true → k ≤ 7
    numbered k [] all is = cc
    numbered k (a ∷ on) all is = by (eq_by_cmp nat_cmp k a.0) refl is (numbered k on all.1)
      where
        by : (b : Bool) → eq_by_cmp nat_cmp k a.0 ≡ b → is_some (cond b (Some a.1) (find nat_cmp k on)) ≡ true
            → (is_some (find nat_cmp k on) ≡ true → k ≤ 7) → k ≤ 7
        by true same is rest = let e : k ≡ a.0 = grind (arith, nat_tests, same) in let few = all.0.0 in omega (arith, e, few)
        by false same is rest = rest is
