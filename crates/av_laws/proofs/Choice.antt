-- Which slots are chosen at several events, computed.
use Rattle.std.proofs.Common.{◌≡◌, ℕ, ◌+◌, ◌≤◌, length, Bool, true, false, ◌&&◌, ◌==◌, List, [], ◌∷◌, ◌++◌, Option, Some, None, refl, sym, ap, arith}
use Rattle.std.proofs.lemmas.Bool.Decides.{nat_tests}
use Rattle.std.specs.Prelude.{min, if◌then◌else◌, IsSomeAnd, MatchBool, MatchOption, count_by, option_and_then, option_map}
use Rattle.av_base.specs.Words.{is_in, with_at, without}
use Rattle.av_base.specs.declared.slot.Slot.{Slot}
use Rattle.av_clusters.specs.Clusters.{Slots, fresh, is_free as is_free_page, take_slot}
use Rattle.av_swapdev.specs.Device.{most_pages}
use Rattle.av_swapdev.specs.Header.{Layout}
use Rattle.av_plain.specs.Choice.{AreaSlots, ChoosesAll, ChoosesFrame, ChoosesSlot, Free, IsGiven, SwitchesArea, TakesFrame, TakesOut, frame_in, giving_swap_area, new_free, no_slots, slot_in, sorts_free, takes_any, with_given_back}
use Rattle.av_plain.specs.Event.{Event, FlagSet, Forked, FreeSorted, EntriesMoved, Noted, TurnedOff, TurnedOn, Used, Zapped, after}
use Rattle.av_plain.specs.Ledger.{HasNumbers, Ledger, Setting, SwapArea, free_frames, size_of}
use Rattle.av_plain.proofs.Choice.{ChoosesFrames}

-- ---- the slots, computed

-- the slots without the one that is given
abbrev given_of : ℕ → Option (ℕ × Slots) → AreaSlots → AreaSlots
given_of k None slots = slots
given_of k (Some t) slots = with_at k t.1 slots

abbrev left_by : Option Slot → AreaSlots → AreaSlots
left_by None slots = slots
left_by (Some s) slots = given_of s.area (take_slot (slots s.area)) slots

-- the clusters that the header of an area says, where it is told
abbrev fresh_of : Option Layout → Slots
fresh_of None = fresh 0 []
fresh_of (Some h) = fresh h.pages h.bad

abbrev header_in : Option (ℕ → Option Layout) → ℕ → Option Layout
header_in None k = None
header_in (Some headers) k = headers k

-- the slots where an area is turned on by its header, or off
abbrev switched : Setting → Event → AreaSlots → AreaSlots
switched m (Noted note) slots = slots
switched m (Zapped k) slots = slots
switched m (Used write k) slots = slots
switched m (Forked p c pages) slots = slots
switched m (EntriesMoved p n from to) slots = slots
switched m (FlagSet p from n flag set) slots = slots
switched m (TurnedOn k area) slots = with_at k (fresh_of (header_in m.headers k)) slots
switched m (TurnedOff k) slots = with_at k (no_slots k) slots
switched m FreeSorted slots = slots

-- the slots after an event
abbrev pub slots_after : Setting → Ledger → Event → AreaSlots → AreaSlots
slots_after m l e slots =
    with_given_back m l (after l e) (left_by (slot_in e) (switched m e slots))

abbrev pub slots_after_all : Setting → Ledger → List Event → AreaSlots → AreaSlots
slots_after_all m l [] slots = slots
slots_after_all m l (e ∷ es) slots = slots_after_all m (after l e) es (slots_after m l e slots)

-- whether the area has the numbers of the header
abbrev has_numbers : SwapArea → Option Layout → Bool
has_numbers area None = false
has_numbers area (Some h) = (area.slots == h.slots) && (area.bad == length h.bad)

-- whether an event turns no area on but by its header
abbrev may_switch : Setting → Event → Bool
may_switch m (Noted note) = true
may_switch m (Zapped k) = true
may_switch m (Used write k) = true
may_switch m (Forked p c pages) = true
may_switch m (EntriesMoved p n from to) = true
may_switch m (FlagSet p from n flag set) = true
may_switch m (TurnedOn k area) = has_numbers area (header_in m.headers k)
may_switch m (TurnedOff k) = true
may_switch m FreeSorted = true

abbrev is_number : ℕ → Option ℕ → Bool
is_number k None = false
is_number k (Some j) = j == k

abbrev is_page : ℕ → Option (ℕ × Slots) → Bool
is_page page None = false
is_page page (Some t) = t.0 == page

-- whether the slot that an event takes is the one that is given
abbrev gives_slot : Setting → Option ℕ → Ledger → Option Slot → AreaSlots → Bool
gives_slot m closing l None slots = true
gives_slot m closing l (Some s) slots =
    is_number s.area (giving_swap_area m closing l) && is_page s.page (take_slot (slots s.area))

abbrev pub gives : Setting → Option ℕ → Ledger → Event → AreaSlots → Bool
gives m closing l e slots = may_switch m e
    && gives_slot m closing l (slot_in e) (switched m e slots)

abbrev pub gives_all : Setting → Option ℕ → Ledger → List Event → AreaSlots → Bool
gives_all m closing l [] slots = true
gives_all m closing l (e ∷ es) slots = gives m closing l e slots
    && gives_all m closing (after l e) es (slots_after m l e slots)

both : (a b : Bool) → (a && b) ≡ true → (a ≡ true) × (b ≡ true)
both true b h = (refl, h)
both false b h = cc

-- an area that is turned on so has the clusters of its header
turned : (m : Setting) (e : Event) (slots : AreaSlots) → may_switch m e ≡ true
    → SwitchesArea m e slots (switched m e slots)
turned m (Noted note) slots h = refl
turned m (Zapped k) slots h = refl
turned m (Used write k) slots h = refl
turned m (Forked p c pages) slots h = refl
turned m (EntriesMoved p n from to) slots h = refl
turned m (FlagSet p from n flag set) slots h = refl
turned m (TurnedOn k area) slots h = (fresh_of (header_in m.headers k), told m.headers h, refl)
  where
    by : (o : Option Layout) → has_numbers area o ≡ true
        → IsSomeAnd o (λ (h : Layout). HasNumbers area h × (fresh_of o ≡ fresh h.pages h.bad))
    by None h = cc
    by (Some layout) h =
        let parts = both (area.slots == layout.slots) (area.bad == length layout.bad) h in
        let slots : area.slots ≡ layout.slots = grind (arith, nat_tests, parts.0) in
        let bad_pages : area.bad ≡ length layout.bad = grind (arith, nat_tests, parts.1) in
        (record { slots = slots; bad = bad_pages }, refl)

    told : (o : Option (ℕ → Option Layout)) → has_numbers area (header_in o k) ≡ true
        → MatchOption o
        ((pages : ℕ) × (named : List ℕ) × (pages ≤ min (size_of m k) most_pages) × (1 + area.slots + area.bad ≡ pages)
        × (fresh_of (header_in o k) ≡ fresh pages named)
        × (count_by is_free_page (fresh_of (header_in o k)).pages ≡ area.slots))
        (λ headers. IsSomeAnd (headers k)
        (λ (h : Layout). HasNumbers area h × (fresh_of (header_in o k) ≡ fresh h.pages h.bad)))
    told None h = cc
    told (Some headers) h = by (headers k) h
turned m (TurnedOff k) slots h = refl
turned m FreeSorted slots h = refl

slot-chosen : (m : Setting) (closing : Option ℕ) (l : Ledger) (e : Event) (slots : AreaSlots)
    → gives m closing l e slots ≡ true → ChoosesSlot m closing l e slots (slots_after m l e slots)
slot-chosen m closing l e slots h =
    let on = switched m e slots in
    let parts = both (may_switch m e) (gives_slot m closing l (slot_in e) on) h in
    (on, left_by (slot_in e) on, turned m e slots parts.0, given on (slot_in e) parts.1, refl)
  where
    number : (k : ℕ) (o : Option ℕ) → is_number k o ≡ true → o ≡ Some k
    number k None h = cc
    number k (Some j) h = let e : j ≡ k = grind (arith, nat_tests, h) in ap Some e

    page : (on : AreaSlots) (k p : ℕ) (o : Option (ℕ × Slots)) → is_page p o ≡ true
        → IsSomeAnd o (λ t. (t.0 ≡ p) × (given_of k o on ≡ with_at k t.1 on))
    page on k p None h = cc
    page on k p (Some t) h = (grind (arith, nat_tests, h), refl)

    given : (on : AreaSlots) (o : Option Slot) → gives_slot m closing l o on ≡ true
        → MatchOption o (left_by o on ≡ on) (λ s. IsGiven m closing l s on (left_by o on))
    given on None h = refl
    given on (Some s) h =
        let parts = both (is_number s.area (giving_swap_area m closing l))
        (is_page s.page (take_slot (on s.area))) h in (
          number s.area (giving_swap_area m closing l) parts.0,
          page on s.area s.page (take_slot (on s.area)) parts.1,
        )

-- so frames and slots are chosen
pub all-chosen : (m : Setting) (closing : Option ℕ) (l : Ledger) (es : List Event)
    (free left : List ℕ) (slots : AreaSlots) → ChoosesFrames m l es free left
    → gives_all m closing l es slots ≡ true
    → ChoosesAll m closing l es (record { frames = free; slots = slots })
    (record { frames = left; slots = slots_after_all m l es slots })
all-chosen m closing l [] free left slots h g = λ i. record { frames = h i; slots = slots }
all-chosen m closing l (e ∷ es) free left slots h g =
    let parts = both (gives m closing l e slots)
    (gives_all m closing (after l e) es (slots_after m l e slots)) g in (
      record { frames = h.0; slots = slots_after m l e slots },
      record { frames = h.1; slots = slot-chosen m closing l e slots parts.0 },
      all-chosen m closing (after l e) es h.0 left (slots_after m l e slots) h.2 parts.1,
    )

-- ---- frames that are chosen, computed

abbrev take_first : Option ℕ → List ℕ → Option (List ℕ)
take_first None free = Some free
take_first (Some f) [] = None
take_first (Some f) (g ∷ free) = if f == g then Some free else None

-- and one that an event takes, wherever it stands
abbrev take_any : Option ℕ → Bool → List ℕ → Option (List ℕ)
take_any None any free = Some free
take_any (Some f) true free = if is_in f free then Some (without f free) else None
take_any (Some f) false free = take_first (Some f) free

abbrev free_after : Setting → Ledger → Event → List ℕ → Option (List ℕ)
free_after m l e free =
    if sorts_free e then Some (free_frames m (after l e))
    else option_map (λ rest. new_free m l (after l e) ++ rest) (take_any (frame_in e) (takes_any e) free)

abbrev choose : Setting → Ledger → List Event → List ℕ → Option (List ℕ)
choose m l [] free = Some free
choose m l (e ∷ es) free = option_and_then (λ next. choose m (after l e) es next) (free_after m l e free)

same_list : {x y : List ℕ} → Some x ≡ Some y → x ≡ y
same_list e = cc

one-chosen : (m : Setting) (l : Ledger) (e : Event) (free next : List ℕ) → free_after m l e free ≡ Some next → ChoosesFrame m l e free next
one-chosen m l e free next h = sorts (sorts_free e) h
  where
    first : (o : Option ℕ) (free rest : List ℕ) → take_first o free ≡ Some rest → MatchOption o (free ≡ rest) (λ f. free ≡ f ∷ rest)
    first None free rest h = same_list h
    first (Some f) [] rest h = cc
    first (Some f) (g ∷ free) rest h = same (f == g) refl h
      where
        same : (b : Bool) → (f == g) ≡ b → (if b then Some free else None) ≡ Some rest → (g ∷ free) ≡ f ∷ rest
        same true is h = let e : f ≡ g = grind (arith, nat_tests, is) in let r : free ≡ rest = cc in λ i. sym e i ∷ r i
        same false is h = cc

    any : (o : Option ℕ) (b : Bool) (rest : List ℕ) → take_any o b free ≡ Some rest
        → MatchOption o (free ≡ rest) (λ f. MatchBool b (TakesOut f free rest) (free ≡ f ∷ rest))
    any None b rest h = same_list h
    any (Some f) false rest h = first (Some f) free rest h
    any (Some f) true rest h = out (is_in f free) refl h
      where
        out : (b : Bool) → is_in f free ≡ b → (if b then Some (without f free) else None) ≡ Some rest → TakesOut f free rest
        out true is h = (is, same_list (sym h))
        out false is h = cc

    takes : (o : Option (List ℕ)) → take_any (frame_in e) (takes_any e) free ≡ o
        → option_map (λ rest. new_free m l (after l e) ++ rest) o ≡ Some next → TakesFrame m l e free next
    takes None is h = cc
    takes (Some rest) is h = (rest, any (frame_in e) (takes_any e) rest is, same_list (sym h))

    sorts : (b : Bool) → (if b then Some (free_frames m (after l e))
        else option_map (λ rest. new_free m l (after l e) ++ rest) (take_any (frame_in e) (takes_any e) free)) ≡ Some next
        → MatchBool b (next ≡ free_frames m (after l e)) (TakesFrame m l e free next)
    sorts true h = same_list (sym h)
    sorts false h = takes (take_any (frame_in e) (takes_any e) free) refl h

pub chosen-by : (m : Setting) (l : Ledger) (es : List Event) (free left : List ℕ)
    → choose m l es free ≡ Some left → ChoosesFrames m l es free left
chosen-by m l [] free left h = same_list (sym h)
chosen-by m l (e ∷ es) free left h = by (free_after m l e free) refl h (λ next i. chosen-by m (after l e) es next left i)
  where
    by : (o : Option (List ℕ)) → free_after m l e free ≡ o → option_and_then (λ next. choose m (after l e) es next) o ≡ Some left
        → ((next : List ℕ) → choose m (after l e) es next ≡ Some left → ChoosesFrames m (after l e) es next left)
        → ChoosesFrames m l (e ∷ es) free left
    by None is h again = cc
    by (Some next) is h again = (next, one-chosen m l e free next is, again next h)

-- events that may come, by the frames that are free after them
pub may : (m : Setting) (closing : Option ℕ) (l : Ledger) (es : List Event) (free : Free) (left : List ℕ) → choose m l es free.frames ≡ Some left →
    gives_all m closing l es free.slots ≡ true → (after : Free) × ChoosesAll m closing l es free after
may m closing l es free left h g = (_, all-chosen m closing l es free.frames left free.slots (chosen-by m l es free.frames left h) g)
