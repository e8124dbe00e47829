-- What `Swap` keeps, after one of its areas has changed.
use Rattle.std.proofs.Common.{◌≡◌, ℕ, zero, suc, ◌+◌, ◌-◌, ◌^◌, ◌<◌, ◌≤◌, Bool, true, false, cond, not, ◌&&◌, ltb, List, [], ◌∷◌, length, get_or, set, replicate, Option, Some, None, is_some, option_map, refl, sym, ap, subst, ◌∙◌, arith, length-set, eq-eqb, ne_eqb}
use Rattle.std.proofs.lemmas.Bool.{false≢true}
use Rattle.std.specs.List.{ends_with, list_any}
use Rattle.std.specs.Prelude.{codes, nat_eq, count_by, ◌==◌}
use Rattle.av_swapdev.specs.Header.{AddsUp, Layout, all_named, answer_of, area_pages, bad_count, header_of, in_numbers, is_out, last_page, layout_of, order_of, read_by, with_slots}
use Rattle.av_swapdev.specs.declared.header.HeaderErr.{HeaderErr}
use Rattle.av_swapdev.specs.declared.header.HeaderErr.TheVariants.{Signature, Version, LastPage, Short, TooManyBad, BadPage, NoSlot}
use Rattle.av_swapdev.specs.declared.header.Order.{Order}
use Rattle.av_swapcache.proofs.FreshArea.{free_at_first}
use Rattle.std.specs.FinMap.Entries.{put}
use Rattle.std.specs.Ordering.{nat_cmp}
use Rattle.std.specs.Prelude.{ℤ, IfSome, IsSomeAnd, MatchResult, OnOk, OnErr, is_err, Result, Ok, Err}
use Rattle.av_base.specs.Page.{page_size}
use Rattle.av_frames.specs.Store.{Shown as ShownFrames}
use Rattle.av_swapcache.specs.Calls.{IsFirst}
use Rattle.av_swapcache.proofs.SlotLaws.{area_at-set, areas_one, is_there, on-off, on-put, slot-is, slot-other, slots_all, slots_same}
use Rattle.std.proofs.lemmas.Bool.Decides.{nat_tests}
use Rattle.av_clusters.specs.Clusters.{Slots, is_free, pages_of, take_slot}
use Rattle.av_swapdev.specs.Device.{HasPage}
use Rattle.std.proofs.lemmas.List.{length-replicate}
use Rattle.av_base.specs.Words.{how_many, renamed, with_at}
use Rattle.av_base.specs.declared.slot.Slot.{Slot}
use Rattle.av_swapdev.specs.declared.header.Header.{Header}
use Rattle.av_swapcache.specs.Area.{AreaShown, AreaStore, IsSlot, area_shown, count_in, counted, free_in, fresh_area, given_back as area_given_back, with_entries as area_with_entries, with_frame}
use Rattle.av_swapcache.specs.Swap.{HasAreas, IsSlotIn, IsWhole, Shown, Store, after_off, after_on, after_put, area_at, bad_in, can_give, count_of, entries_in, find_in, frame_in, given_back, header_at, is_closing, is_on, is_writing, itself, on_from, priority_in, same_slot, shown, slots_in, with_area, with_entries, with_renamed, with_slot}
use Rattle.av_swapcache.proofs.Flight.{is_listed, whole_drop, whole_put, whole_renamed, whole_same}
use Rattle.av_swapcache.proofs.SwapLaws.{area_is, frames_kept, frames_one, header-at, shown_found, shown_named, shown_put, shown_same, shown_unnamed, with_one}

abbrev HasHeader : ℕ → Option Header → Type 0
HasHeader p header = IsSomeAnd header (λ (a : Header). p < a.pages)

-- ---- what is known of an area that is on

module _ (s v : Store) (same : s ≡ v) (k : ℕ) where
  header_now : header_at (shown v) k ≡ option_map (λ (a : AreaStore). a.header) (get_or s.areas k None)
  header_now = ap (λ (w : Store). header_at (shown w) k) (sym same) ∙ header-at s k

  pub header_is : (a : AreaStore) → Some a ≡ get_or s.areas k None → header_at (shown v) k ≡ Some a.header
  header_is a h = header_now ∙ ap (option_map (λ (a : AreaStore). a.header)) (sym h)

  pub not_off : None ≡ get_or s.areas k None → is_on (shown v) k ≡ true → ⊥
  not_off h on = false≢true (sym (ap is_some (header_now ∙ ap (option_map (λ (a : AreaStore). a.header)) (sym h))) ∙ on)

  pub page_below : (p : ℕ) (a : AreaStore) → Some a ≡ get_or s.areas k None → IsSomeAnd (header_at (shown v) k) (λ (h : Header). p < h.pages)
      → p < a.header.pages
  page_below p a h is = subst (λ o. IsSomeAnd o (λ (h : Header). p < h.pages)) (header_is a h) is

  pub page_not_off : (p : ℕ) → None ≡ get_or s.areas k None → IsSomeAnd (header_at (shown v) k) (λ (h : Header). p < h.pages) → ⊥
  page_not_off p h is = subst (λ o. IsSomeAnd o (λ (h : Header). p < h.pages)) (header_now ∙ ap (option_map (λ (a : AreaStore). a.header)) (sym h)) is

  pub on_is : (b : Bool) → b ≡ is_some (get_or s.areas k None) → b ≡ is_on (shown v) k
  on_is b e = e ∙ both (get_or s.areas k None) ∙ sym (ap is_some header_now)
    where
      both : (x : Option AreaStore) → is_some x ≡ is_some (option_map (λ (a : AreaStore). a.header) x)
      both None = refl
      both (Some a) = refl

pub some_is : {X Y : Type 0} (f : X → Y) (o : Option X) → is_some o ≡ is_some (option_map f o)
some_is f None = refl
some_is f (Some x) = refl

-- ---- after an area has changed

-- what is shown, where the change of the area is known
pub after : (s v : Store) (areas : List (Option AreaStore)) (k : ℕ) (b : AreaStore) (change : Shown → Shown) → s ≡ v
    → areas ≡ set s.areas k (Some b) →
    shown (with_one s k b) ≡ change (shown s) → shown (record s { areas = areas }) ≡ change (shown v)
after s v areas k b change same back e = ap (λ l. shown (record s { areas = l })) back ∙ e ∙ ap (λ w. change (shown w)) same

resized : (n n' : ℕ) (find : Slot → Option ℕ) (q : List Slot) (ql qr : ℕ) (flags : List Bool) → n' ≡ n → IsWhole n find q ql qr flags
    → IsWhole n' find q ql qr flags
resized n n' find q ql qr flags e w = subst (λ m. IsWhole m find q ql qr flags) (sym e) w

module _ (s : Store) (areas : List (Option AreaStore)) (k : ℕ) (a b : AreaStore) (ql qr : ℕ) (h : Some a ≡ get_or s.areas k None)
    (back : areas ≡ set s.areas k (Some b)) (w : IsWhole (length s.areas) (frame_in s.areas) s.flight ql qr s.writing) where
  replaced : (find : Slot → Option ℕ) → frame_in (set s.areas k (Some b)) ≡ find → IsWhole (length s.areas) find s.flight ql qr s.writing
      → IsWhole (length areas) (frame_in areas) s.flight ql qr s.writing
  replaced find e kept = subst (λ l. IsWhole (length l) (frame_in l) s.flight ql qr s.writing) (sym back)
      (resized (length s.areas) (length (set s.areas k (Some b))) (frame_in (set s.areas k (Some b))) s.flight ql qr s.writing
      (length-set s.areas k (Some b))
      (whole_same (length s.areas) find s.flight ql qr s.writing (frame_in (set s.areas k (Some b))) e kept))

  pub kept_whole : (area_shown b).find ≡ (area_shown a).find → IsWhole (length areas) (frame_in areas) s.flight ql qr s.writing
  kept_whole e = replaced (frame_in s.areas) (frames_kept s k a b (sym h) e) w

  pub put_whole : (p f : ℕ) → (area_shown b).find ≡ with_at p (Some f) (area_shown a).find → frame_in s.areas (record { area = k; page = p }) ≡ None →
      ((t : Slot) → frame_in s.areas t ≡ Some f → ⊥) → f < length s.writing → IsWhole (length areas) (frame_in areas) s.flight ql qr s.writing
  put_whole p f e none free below = replaced _ (frames_one s k a b (sym h) p (Some f) e)
      (whole_put (length s.areas) (frame_in s.areas) s.flight ql qr s.writing (record { area = k; page = p }) f w none free below)

  pub drop_whole : (p f : ℕ) → (area_shown b).find ≡ with_at p None (area_shown a).find → frame_in s.areas (record { area = k; page = p }) ≡ Some f →
      list_any (same_slot (record { area = k; page = p })) s.flight ≡ false → IsWhole (length areas) (frame_in areas) s.flight ql qr s.writing
  drop_whole p f e is none = replaced _ (frames_one s k a b (sym h) p None e)
      (whole_drop (length s.areas) (frame_in s.areas) s.flight ql qr s.writing (record { area = k; page = p }) f w is none)

  pub renamed_whole : (p f g : ℕ) (flag : Bool) → (area_shown b).find ≡ with_at p (Some g) (area_shown a).find
      → frame_in s.areas (record { area = k; page = p }) ≡ Some f → ((t : Slot) → frame_in s.areas t ≡ Some g → ⊥) → g < length s.writing
      → flag ≡ get_or s.writing f flag → IsWhole (length areas) (frame_in areas) s.flight ql qr (set (set s.writing g flag) f false)
  renamed_whole p f g flag e is free below reads =
      subst (λ l. IsWhole (length l) (frame_in l) s.flight ql qr (set (set s.writing g flag) f false)) (sym back)
      (resized (length s.areas) (length (set s.areas k (Some b))) (frame_in (set s.areas k (Some b))) s.flight ql qr
      (set (set s.writing g flag) f false) (length-set s.areas k (Some b))
      (whole_same (length s.areas) _ s.flight ql qr (set (set s.writing g flag) f false) (frame_in (set s.areas k (Some b)))
      (frames_one s k a b (sym h) p (Some g) e)
      (whole_renamed (length s.areas) (frame_in s.areas) s.flight ql qr s.writing (record { area = k; page = p }) f g flag w is free below reads)))

-- ---- whether a slot is in flight

pub flies_is : (s v : Store) (ql qr : ℕ) (t : Slot) → s ≡ v → IsWhole (length s.areas) (frame_in s.areas) s.flight ql qr s.writing
    → (b : Bool) → b ≡ is_writing s.writing (frame_in s.areas t) → b ≡ list_any (same_slot t) v.flight
flies_is s v ql qr t same w b e = e ∙ sym (is_listed t s.flight (is_writing s.writing (frame_in s.areas t)) (w.flying t))
    ∙ ap (λ (x : Store). list_any (same_slot t) x.flight) same

-- ---- an entry more

module _ (s v : Store) (areas : List (Option AreaStore)) (k p n : ℕ) (a b : AreaStore) (same : s ≡ v) (h : Some a ≡ get_or s.areas k None)
    (back : areas ≡ set s.areas k (Some b)) where
  pub up_shown : {E : Type 0} (r : Result (Unit {0}) E)
      → MatchResult r (λ _. area_shown b ≡ area_with_entries p ((area_shown a).entries p + n) (area_shown a)) (λ _. area_shown b ≡ area_shown a)
      → MatchResult r
      (λ _. shown (record s { areas = areas }) ≡ with_entries (record { area = k; page = p })
      ((shown v).entries (record { area = k; page = p }) + n) (shown v))
      (λ _. shown (record s { areas = areas }) ≡ shown v)
  up_shown (Ok x) e = after s v areas k b
      (λ w. with_entries (record { area = k; page = p }) (w.entries (record { area = k; page = p }) + n) w) same back
      (shown_named s k a b (sym h) p ((shown s).entries (record { area = k; page = p }) + n)
      (e ∙ ap (λ m. area_with_entries p (m + n) (area_shown a)) (area_is s k a b (sym h) (λ o. entries_in o p))))
  up_shown (Err x) e = after s v areas k b (λ w. w) same back (shown_same s k a b (sym h) e)

pub up_find : {E : Type 0} (r : Result (Unit {0}) E) (p n : ℕ) (a b : AreaStore)
    → MatchResult r (λ _. area_shown b ≡ area_with_entries p n (area_shown a)) (λ _. area_shown b ≡ area_shown a)
    → (area_shown b).find ≡ (area_shown a).find
up_find (Ok x) p n a b e = λ i. (e i).find
up_find (Err x) p n a b e = λ i. (e i).find

-- and one fewer
pub down_shown : (s v : Store) (areas : List (Option AreaStore)) (k p n : ℕ) (a b : AreaStore) → s ≡ v → Some a ≡ get_or s.areas k None →
    areas ≡ set s.areas k (Some b) → area_shown b ≡ area_given_back p (area_with_entries p ((area_shown a).entries p - n) (area_shown a))
    → shown (record s { areas = areas }) ≡ given_back (record { area = k; page = p })
    (with_entries (record { area = k; page = p }) ((shown v).entries (record { area = k; page = p }) - n) (shown v))
down_shown s v areas k p n a b same h back e = after s v areas k b
    (λ w. given_back (record { area = k; page = p })
    (with_entries (record { area = k; page = p }) (w.entries (record { area = k; page = p }) - n) w)) same back
    (shown_unnamed s k a b (sym h) p ((shown s).entries (record { area = k; page = p }) - n)
    (e ∙ ap (λ m. area_given_back p (area_with_entries p (m - n) (area_shown a))) (area_is s k a b (sym h) (λ o. entries_in o p))))

-- ---- what is known of slots

pub nothing_counts : (n : ℕ) (o : Option ℕ) → counted n o ≡ 0 → (o ≡ None) × (n ≡ 0)
nothing_counts n None e = (refl, omega (arith, e))
nothing_counts n (Some f) e = absurd (omega (arith, e))

-- the device has the page of a slot
pub has_page : (sizes : ℕ → Option ℕ) (s v : Store) (k p : ℕ) → s ≡ v → HasAreas sizes (shown v) → IsSlotIn (area_at s.areas k) p → HasPage sizes k p
has_page sizes s v k p same has is = by (get_or s.areas k None) refl is
  where
    within : (o : Option ℕ) (a : AreaStore) → IsSomeAnd o (λ n. a.header.pages ≤ n) → p < a.header.pages → IsSomeAnd o (λ n. p < n)
    within None a x y = x
    within (Some n) a x y = omega (arith, x, y)

    by : (o : Option AreaStore) → get_or s.areas k None ≡ o → IsSlotIn (option_map area_shown o) p → HasPage sizes k p
    by None e x = absurd x
    by (Some a) e x = within (sizes k) a
        (subst (λ o. IfSome o (λ (h : Header). IsSomeAnd (sizes k) (λ n. h.pages ≤ n))) (header_is s v same k a (sym e)) (has k)) x.below

pub slot_of_area : (s : Store) (k p : ℕ) (a : AreaStore) → Some a ≡ get_or s.areas k None → IsSlot (area_shown a) p → IsSlotIn (area_at s.areas k) p
slot_of_area s k p a h is = subst (λ o. IsSomeAnd (option_map area_shown o) (λ b. IsSlot b p)) h is

pub behind_header : (s : Store) (k p : ℕ) → IsSlotIn (area_at s.areas k) p → 0 < p
behind_header s k p is = by (area_at s.areas k) is
  where
    by : (o : Option AreaShown) → IsSlotIn o p → 0 < p
    by None x = absurd x
    by (Some a) x = x.behind_header

-- an area that gives a slot is on
pub gives_is_on : (s v : Store) (k : ℕ) → s ≡ v → can_give (shown v) k ≡ true → None ≡ get_or s.areas k None → ⊥
gives_is_on s v k same gives off = false≢true (sym (ap (λ (w : Store). can_give (shown w) k) (sym same)
    ∙ ap (λ o. ltb 0 (free_in (slots_in (option_map area_shown o))) && not (is_closing (shown s) k)) (sym off)) ∙ gives)

pub gives_some : (s v : Store) (k : ℕ) (a : AreaStore) → s ≡ v → can_give (shown v) k ≡ true → Some a ≡ get_or s.areas k None
    → 0 < free_in (area_shown a).slots
gives_some s v k a same gives on = by (not (is_closing (shown s) k)) (free_in a.slots) (sym (ap (λ (w : Store). can_give (shown w) k) (sym same)
    ∙ ap (λ o. ltb 0 (free_in (slots_in (option_map area_shown o))) && not (is_closing (shown s) k)) (sym on)) ∙ gives)
  where
    first : (b c : Bool) → (b && c) ≡ true → b ≡ true
    first true c e = refl
    first false c e = e

    by : (b : Bool) (m : ℕ) → (ltb 0 m && b) ≡ true → 0 < m
    by b m e = let some = first (ltb 0 m) b e in grind (arith, nat_tests)

-- ---- a slot that is put

pub put_shown : (s v : Store) (areas : List (Option AreaStore)) (k p f : ℕ) (a b : AreaStore) → s ≡ v → Some a ≡ get_or s.areas k None →
    areas ≡ set s.areas k (Some b) → IsSomeAnd (take_slot (area_shown a).slots) (λ t. (t.0 ≡ p)
    × (area_shown b ≡ record (with_frame p (Some f) (area_shown a)) { slots = t.1 }))
    → (rest : Slots) × (take_slot ((shown v).slots k) ≡ Some (p, rest))
    × (shown (record s { areas = areas }) ≡ after_put (record { area = k; page = p }) f rest (shown v))
put_shown s v areas k p f a b same h back e = subst (λ o. (rest : Slots) × (take_slot o ≡ Some (p, rest))
    × (shown (record s { areas = areas }) ≡ after_put (record { area = k; page = p }) f rest (shown v)))
    (area_is s k a b (sym h) slots_in ∙ ap (λ (w : Store). (shown w).slots k) same)
    (by (take_slot a.slots) e)
  where
    by : (o : Option (ℕ × Slots)) → IsSomeAnd o (λ t. (t.0 ≡ p) × (area_shown b ≡ record (with_frame p (Some f) (area_shown a)) { slots = t.1 }))
        → (rest : Slots) × (o ≡ Some (p, rest)) × (shown (record s { areas = areas }) ≡ after_put (record { area = k; page = p }) f rest (shown v))
    by None x = absurd x
    by (Some t) x = (
      t.1,
      ap (λ m. Some (m, t.1)) x.0,
      after s v areas k b (after_put (record { area = k; page = p }) f t.1) same back (shown_put s k a b (sym h) p f t.1 x.1),
    )

pub put_find : (a b : AreaStore) (p f : ℕ) (o : Option (ℕ × Slots)) → IsSomeAnd o (λ t. (t.0 ≡ p)
    × (area_shown b ≡ record (with_frame p (Some f) (area_shown a)) { slots = t.1 })) → (area_shown b).find ≡ with_at p (Some f) (area_shown a).find
put_find a b p f None e = absurd e
put_find a b p f (Some t) e = λ i. (e.1 i).find

-- ---- at first

same_value : {X : Type 0} (n i : ℕ) (x : X) → get_or (replicate n x) i x ≡ x
same_value zero i x = refl
same_value (suc n) zero x = refl
same_value (suc n) (suc i) x = same_value n i x

none_set : (n : ℕ) → how_many itself (replicate n false) ≡ 0
none_set zero = refl
none_set (suc n) = let rest = none_set n in omega (arith, rest)

pub fresh_whole : (areas : List (Option AreaStore)) (ql qr n : ℕ) (q : List Slot) (flags : List Bool) → areas ≡ replicate 8 None → q ≡ []
    → ql ≡ 0 → n ≤ qr →
    n < 2 ^ 32 → flags ≡ replicate n false → IsWhole (length areas) (frame_in areas) q ql qr flags
fresh_whole areas ql qr n q flags a e l room few f = record {
  eight = ap length a;
  len = l ∙ sym (ap length e);
  room = subst (λ m. m ≤ qr) (sym (ap length f ∙ length-replicate n false)) room;
  few = subst (λ m. m < 2 ^ 32) (sym (ap length f ∙ length-replicate n false)) few;
  total = ap length e ∙ sym (none_set n) ∙ sym (ap (how_many itself) f);
  in_range = λ s g h. absurd (some_none (none s) h);
  apart = λ s t g h k. absurd (some_none (none s) h);
  flying = λ s. ap (how_many (same_slot s)) e ∙ sym (ap (λ o. cond (is_writing flags o) 1 0) (none s));
  owned = λ g h. absurd (false≢true (sym (ap (λ l. get_or l g false) f ∙ unset n g) ∙ h));
}
  where
    some_none : {x : Option ℕ} {g : ℕ} → x ≡ None → x ≡ Some g → ⊥
    some_none u v = cc

    none : (s : Slot) → frame_in areas s ≡ None
    none s = ap (λ l. frame_in l s) a ∙ ap (λ (o : Option AreaStore). find_in (option_map area_shown o) s.page) (same_value 8 s.area None)

    unset : (m g : ℕ) → get_or (replicate m false) g false ≡ false
    unset m g = same_value m g false

-- ---- a write that has ended

pub on_ok : {T E : Type 0} (r : Result T E) (P : Type 0) → OnOk r P → is_err r ≡ false → P
on_ok (Ok x) P h e = h
on_ok (Err x) P h e = absurd (false≢true (sym e))

pub on_err : {T E : Type 0} (r : Result T E) (P : Type 0) → OnErr r P → is_err r ≡ true → P
on_err (Ok x) P h e = absurd (false≢true e)
on_err (Err x) P h e = h

-- the first in flight, and what is shown without it
pub was_first : (s v : Store) (t : Slot) (f : ℕ) (page : List ℕ) (rest : List Slot) (was : ShownFrames) → s ≡ v → s.flight ≡ t ∷ rest →
    Some f ≡ frame_in s.areas t → IsSlotIn (area_at s.areas t.area) t.page → length page ≡ page_size → ((i : ℕ) → get_or page i 0 ≡ was.bytes f i)
    → IsFirst t f page (shown v) (shown (record s { flight = rest; writing = set s.writing f false })) was
was_first s v t f page rest was same e h is long bytes = record {
  first = ap (λ (w : Store). w.flight) (sym same) ∙ e;
  swap = (λ i. record (shown s) { frames = length-set s.writing f false i; flight = rest })
      ∙ ap (λ (w : Store). record (shown w) { flight = rest }) same;
  cached = ap (λ (w : Store). frame_in w.areas t) (sym same) ∙ sym h;
  behind_header = behind_header s t.area t.page is;
  long = long;
  bytes = bytes;
}

-- ---- an area that is turned off

-- no slot of it is cached
uncached : (s v : Store) (k : ℕ) → s ≡ v → ((t : Slot) → t.area ≡ k → count_of (shown v) t ≡ 0) → (p : ℕ)
    → (find_in (area_at s.areas k) p ≡ None) × (entries_in (area_at s.areas k) p ≡ 0)
uncached s v k same none p = nothing_counts (entries_in (area_at s.areas k) p) (find_in (area_at s.areas k) p)
    (ap (λ (w : Store). count_of (shown w) (record { area = k; page = p })) same ∙ none (record { area = k; page = p }) refl)

pub on_below : (s v : Store) (k : ℕ) → s ≡ v → is_on (shown v) k ≡ true → k < length s.areas
on_below s v k same on = by (get_or s.areas k None) refl
  where
    by : (o : Option AreaStore) → get_or s.areas k None ≡ o → k < length s.areas
    by None e = absurd (not_off s v same k (sym e) on)
    by (Some a) e = is_there s.areas k a e

module _ (s v : Store) (k : ℕ) (same : s ≡ v) (on : is_on (shown v) k ≡ true) (none : (t : Slot) → t.area ≡ k → count_of (shown v) t ≡ 0) where
  now : area_at (set s.areas k None) ≡ with_at k None (area_at s.areas)
  now = area_at-set s.areas k None (on_below s v k same on)

  frames_same : frame_in (set s.areas k None) ≡ frame_in s.areas
  frames_same = (λ i t. find_in (now i t.area) t.page) ∙ slots_same find_in (area_at s.areas) k None (λ i p. sym (uncached s v k same none p).0 i)

  pub off_whole : (ql qr : ℕ) → IsWhole (length s.areas) (frame_in s.areas) s.flight ql qr s.writing
      → IsWhole (length (set s.areas k None)) (frame_in (set s.areas k None)) s.flight ql qr s.writing
  off_whole ql qr w = resized (length s.areas) (length (set s.areas k None)) (frame_in (set s.areas k None)) s.flight ql qr s.writing
      (length-set s.areas k None)
      (whole_same (length s.areas) (frame_in s.areas) s.flight ql qr s.writing (frame_in (set s.areas k None)) frames_same w)

  pub off_shown : shown (record s { areas = set s.areas k None; closing = None }) ≡ after_off k (shown v)
  off_shown = (λ i. record (shown s) {
    find = frames_same i;
    entries = ((λ i t. entries_in (now i t.area) t.page)
        ∙ slots_same entries_in (area_at s.areas) k None (λ i p. sym (uncached s v k same none p).1 i)) i;
    bad = ((λ i t. bad_in (now i t.area) t.page) ∙ slots_all bad_in (area_at s.areas) k None) i;
    on = on-off 0 k k s.areas (zero_is k) i;
    closing = None;
    priority = ((λ i j. priority_in (now i j)) ∙ areas_one priority_in (area_at s.areas) k None) i;
    slots = ((λ i j. slots_in (now i j)) ∙ areas_one slots_in (area_at s.areas) k None) i;
  }) ∙ ap (λ (w : Store). after_off k (shown w)) same
    where
      zero_is : (m : ℕ) → 0 + m ≡ m
      zero_is m = omega arith

-- ---- an area that is turned on

module _ (s v : Store) (k : ℕ) (b : AreaStore) (header : Header) (priority : ℤ) (bad_list : List ℕ) (same : s ≡ v) (off : is_on (shown v) k ≡ false)
    (below : k < length s.areas) (e : area_shown b ≡ fresh_area header priority bad_list) where
  is_none : get_or s.areas k None ≡ None
  is_none = by (get_or s.areas k None) refl
    where
      by : (o : Option AreaStore) → get_or s.areas k None ≡ o → get_or s.areas k None ≡ None
      by None h = h
      by (Some a) h = absurd (false≢true (sym off ∙ ap is_some (header_is s v same k a (sym h))))

  now_on : area_at (set s.areas k (Some b)) ≡ with_at k (Some (area_shown b)) (area_at s.areas)
  now_on = area_at-set s.areas k (Some b) below

  was_off : area_at s.areas k ≡ None
  was_off = ap (option_map area_shown) is_none

  frames_on : frame_in (set s.areas k (Some b)) ≡ frame_in s.areas
  frames_on = (λ i t. find_in (now_on i t.area) t.page)
      ∙ slots_same find_in (area_at s.areas) k (Some (area_shown b)) ((λ i. (e i).find) ∙ sym (ap find_in was_off))

  pub on_whole : (ql qr : ℕ) → IsWhole (length s.areas) (frame_in s.areas) s.flight ql qr s.writing
      → IsWhole (length (set s.areas k (Some b))) (frame_in (set s.areas k (Some b))) s.flight ql qr s.writing
  on_whole ql qr w = resized (length s.areas) (length (set s.areas k (Some b))) (frame_in (set s.areas k (Some b))) s.flight ql qr s.writing
      (length-set s.areas k (Some b))
      (whole_same (length s.areas) (frame_in s.areas) s.flight ql qr s.writing (frame_in (set s.areas k (Some b))) frames_on w)

  pub on_shown : shown (record s { areas = set s.areas k (Some b) }) ≡ after_on k header priority bad_list (shown v)
  on_shown = (λ i. record (shown s) {
    find = frames_on i;
    entries = ((λ i t. entries_in (now_on i t.area) t.page)
        ∙ slots_same entries_in (area_at s.areas) k (Some (area_shown b)) ((λ i. (e i).entries) ∙ sym (ap entries_in was_off))) i;
    bad = ((λ i t. bad_in (now_on i t.area) t.page) ∙ slots_all bad_in (area_at s.areas) k (Some (area_shown b))
        ∙ (λ i. with_area k (e i).bad (λ (t : Slot). bad_in (area_at s.areas t.area) t.page))) i;
    on = (on-put 0 k k s.areas b (zero_is k) below is_none ∙ (λ i. put nat_cmp k (e i).header (on_from 0 s.areas))) i;
    priority = ((λ i j. priority_in (now_on i j)) ∙ areas_one priority_in (area_at s.areas) k (Some (area_shown b))
        ∙ (λ i. with_at k (e i).priority (λ j. priority_in (area_at s.areas j)))) i;
    slots = ((λ i j. slots_in (now_on i j)) ∙ areas_one slots_in (area_at s.areas) k (Some (area_shown b))
        ∙ (λ i. with_at k (e i).slots (λ j. slots_in (area_at s.areas j)))) i;
  }) ∙ ap (λ (w : Store). after_on k header priority bad_list (shown w)) same
    where
      zero_is : (m : ℕ) → 0 + m ≡ m
      zero_is m = omega arith

pub both : {A B : Type 0} → A → B → A × B
both a b = (a, b)

-- a slot that an entry names has a count
pub named_count : (s v : Store) (k p : ℕ) (a : AreaStore) → s ≡ v → Some a ≡ get_or s.areas k None
    → 0 < (shown v).entries (record { area = k; page = p })
    → 0 < count_in (area_shown a) p
named_count s v k p a same h named = more (subst (λ m. 0 < m)
    (ap (λ (w : Store). (shown w).entries (record { area = k; page = p })) (sym same)
    ∙ sym (ap (λ (o : Option AreaStore). entries_in (option_map area_shown o) p) h)) named)
  where
    more : 0 < (area_shown a).entries p → 0 < (area_shown a).entries p + cond (is_some ((area_shown a).find p)) 1 0
    more e = omega (arith, e)

-- ---- what a header says

pub answered : (r : Result Layout HeaderErr) (h : Header) → Ok h ≡ answer_of r → (layout : Layout) × (r ≡ Ok layout) × (h ≡ in_numbers layout)
answered (Ok layout) h e = (layout, refl, same e)
  where
    same : ◌≡◌ {A = Result Header HeaderErr} (Ok h) (Ok (in_numbers layout)) → h ≡ in_numbers layout
    same e = cc
answered (Err fault) h e = absurd (never e)
  where
    never : ◌≡◌ {A = Result Header HeaderErr} (Ok h) (Err fault) → ⊥
    never e = cc

pub faulted : (r : Result Layout HeaderErr) (fault : HeaderErr) → Err fault ≡ answer_of r → r ≡ Err fault
faulted (Ok layout) fault e = absurd (never e)
  where
    never : ◌≡◌ {A = Result Header HeaderErr} (Err fault) (Ok (in_numbers layout)) → ⊥
    never e = cc
faulted (Err other) fault e = same e
  where
    same : ◌≡◌ {A = Result Header HeaderErr} (Err fault) (Err other) → ◌≡◌ {A = Result Layout HeaderErr} (Err other) (Err fault)
    same e = cc

-- a layout is that of its pages and of those that are named
named_in : (order : Option Order) (page : List ℕ) (device : ℕ) (layout : Layout) → read_by order page device ≡ Ok layout
    → (n : ℕ) × (named : List ℕ) × (layout ≡ layout_of n named)
named_in None page device layout e = absurd (never e)
  where
    never : ◌≡◌ {A = Result Layout HeaderErr} (Err Version) (Ok layout) → ⊥
    never e = cc
named_in (Some order) page device layout e =
    (area_pages order page, all_named order page, last (last_page order page == 0) e)
  where
    never : (fault : HeaderErr) → ◌≡◌ {A = Result Layout HeaderErr} (Err fault) (Ok layout) → ⊥
    never fault e = cc

    same : {other : Layout} → ◌≡◌ {A = Result Layout HeaderErr} (Ok other) (Ok layout) → layout ≡ other
    same e = cc

    found : Layout
    found = layout_of (area_pages order page) (all_named order page)

    slots : (b : Bool) → cond b (Err NoSlot) (Ok (layout_of (area_pages order page) (all_named order page))) ≡ Ok layout
        → layout ≡ layout_of (area_pages order page) (all_named order page)
    slots true e = absurd (never NoSlot e)
    slots false e = same e

    wrong : (b : Bool) → cond b (Err BadPage) (with_slots (layout_of (area_pages order page) (all_named order page))) ≡ Ok layout
        → layout ≡ layout_of (area_pages order page) (all_named order page)
    wrong true e = absurd (never BadPage e)
    wrong false e = slots ((layout_of (area_pages order page) (all_named order page)).slots == 0) e

    many : (b : Bool) → cond b (Err TooManyBad) (cond (list_any (is_out (last_page order page)) (all_named order page)) (Err BadPage)
        (with_slots (layout_of (area_pages order page) (all_named order page)))) ≡ Ok layout
        → layout ≡ layout_of (area_pages order page) (all_named order page)
    many true e = absurd (never TooManyBad e)
    many false e = wrong (list_any (is_out (last_page order page)) (all_named order page)) e

    short : (b : Bool) → cond b (Err Short) (cond (ltb 637 (bad_count order page)) (Err TooManyBad)
        (cond (list_any (is_out (last_page order page)) (all_named order page)) (Err BadPage)
        (with_slots (layout_of (area_pages order page) (all_named order page))))) ≡ Ok layout
        → layout ≡ layout_of (area_pages order page) (all_named order page)
    short true e = absurd (never Short e)
    short false e = many (ltb 637 (bad_count order page)) e

    last : (b : Bool) → cond b (Err LastPage)
        (cond (ltb device (area_pages order page)) (Err Short) (cond (ltb 637 (bad_count order page)) (Err TooManyBad)
        (cond (list_any (is_out (last_page order page)) (all_named order page)) (Err BadPage)
        (with_slots (layout_of (area_pages order page) (all_named order page)))))) ≡ Ok layout
        → layout ≡ layout_of (area_pages order page) (all_named order page)
    last true e = absurd (never LastPage e)
    last false e = short (ltb device (area_pages order page)) e

layout_is : (page : List ℕ) (device : ℕ) (layout : Layout) → header_of page device ≡ Ok layout
    → (n : ℕ) × (named : List ℕ) × (layout ≡ layout_of n named)
layout_is page device layout e = by (ends_with nat_eq page (codes "SWAPSPACE2")) e
  where
    never : ◌≡◌ {A = Result Layout HeaderErr} (Err Signature) (Ok layout) → ⊥
    never e = cc

    by : (b : Bool) → cond b (read_by (order_of page) page device) (Err Signature) ≡ Ok layout
        → (n : ℕ) × (named : List ℕ) × (layout ≡ layout_of n named)
    by true e = named_in (order_of page) page device layout e
    by false e = absurd (never e)

-- so at first as many slots are free as the header says
pub slots_are : (page : List ℕ) (device : ℕ) (layout : Layout) (header : Header) → header_of page device ≡ Ok layout → header ≡ in_numbers layout →
    AddsUp header device → count_by is_free (pages_of layout.pages layout.bad) ≡ header.slots
slots_are page device layout header e h adds = by (layout_is page device layout e)
  where
    some : 0 < header.pages
    some = let a = adds.all in omega (arith, a)

    by : (n : ℕ) × (named : List ℕ) × (layout ≡ layout_of n named) → count_by is_free (pages_of layout.pages layout.bad) ≡ header.slots
    by l = ap (λ (y : Layout). count_by is_free (pages_of y.pages y.bad)) l.2
        ∙ free_at_first l.0 l.1 (subst (λ m. 0 < m) (ap (λ (x : Header). x.pages) h ∙ ap (λ (y : Layout). y.pages) l.2) some)
        ∙ sym (ap (λ (x : Header). x.slots) h ∙ ap (λ (y : Layout). y.slots) l.2)

-- the same area by the same numbers
pub same_area : (header : Header) (kept priority : ℤ) (listed bad_list : List ℕ) → kept ≡ priority → listed ≡ bad_list
    → fresh_area header kept listed ≡ fresh_area header priority bad_list
same_area header kept priority listed bad_list p b = λ i. fresh_area header (p i) (b i)

-- a slot without a count isn't cached
pub unused_is : (s v : Store) (k p : ℕ) (a : AreaStore) → s ≡ v → Some a ≡ get_or s.areas k None → count_in (area_shown a) p ≡ 0
    → (frame_in s.areas (record { area = k; page = p }) ≡ None) × (count_of (shown v) (record { area = k; page = p }) ≡ 0)
unused_is s v k p a same h e = (
  sym (ap (λ (o : Option AreaStore). find_in (option_map area_shown o) p) h)
      ∙ (nothing_counts ((area_shown a).entries p) ((area_shown a).find p) e).0,
  ap (λ (w : Store). count_of (shown w) (record { area = k; page = p })) (sym same)
      ∙ sym (ap (λ (o : Option AreaStore). counted (entries_in (option_map area_shown o) p) (find_in (option_map area_shown o) p)) h) ∙ e,
)

-- and so by the bad pages that are listed
pub slots_listed : (page : List ℕ) (device : ℕ) (layout : Layout) (header : Header) (listed : List ℕ) → header_of page device ≡ Ok layout
    → header ≡ in_numbers layout →
    AddsUp header device → listed ≡ layout.bad → count_by is_free (pages_of header.pages listed) ≡ header.slots
slots_listed page device layout header listed e h adds is =
    (λ k. count_by is_free (pages_of (h k).pages (is k))) ∙ slots_are page device layout header e h adds

-- ---- a slot goes over to another frame

-- the frames of slots, where this slot alone is cached at the one frame
pub renamed_one : (find : Slot → Option ℕ) (s : Slot) (f g : ℕ) → find s ≡ Some f → ((t u : Slot) (h : ℕ) → find t ≡ Some h → find u ≡ Some h → t ≡ u)
    → with_slot s (Some g) find ≡ (λ t. option_map (renamed f g) (find t))
renamed_one find s f g is apart = λ i t. point t (same_slot t s) refl i
  where
    given : (o : Option ℕ) → o ≡ Some f → option_map (renamed f g) o ≡ Some g
    given o e = ap (option_map (renamed f g)) e ∙ ap (λ b. Some (cond b g f)) (eq-eqb f f refl)

    point : (t : Slot) (b : Bool) → same_slot t s ≡ b → with_slot s (Some g) find t ≡ option_map (renamed f g) (find t)
    point t true e = ap (λ b. cond b (Some g) (find t)) e ∙ sym (given (find t) (ap find (slot-is t s e) ∙ is))
    point t false e = ap (λ b. cond b (Some g) (find t)) e ∙ stays (find t) refl
      where
        stays : (o : Option ℕ) → find t ≡ o → find t ≡ option_map (renamed f g) (find t)
        stays None h = h ∙ sym (ap (option_map (renamed f g)) h)
        stays (Some x) h =
            let ne : x ≡ f → ⊥ = λ same. slot-other t s e (apart t s f (h ∙ ap Some same) is) in
            h ∙ sym (ap (option_map (renamed f g)) h ∙ ap (λ b. Some (cond b g x)) (ne_eqb x f ne))

-- and where none is
pub renamed_none : (find : Slot → Option ℕ) (f g : ℕ) → ((t : Slot) → find t ≡ Some f → ⊥) → find ≡ (λ t. option_map (renamed f g) (find t))
renamed_none find f g free = λ i t. stays t (find t) refl i
  where
    stays : (t : Slot) (o : Option ℕ) → find t ≡ o → find t ≡ option_map (renamed f g) (find t)
    stays t None h = h ∙ sym (ap (option_map (renamed f g)) h)
    stays t (Some x) h = h ∙ sym (ap (option_map (renamed f g)) h ∙ ap (λ b. Some (cond b g x)) (ne_eqb x f (λ same. free t (h ∙ ap Some same))))

pub renamed_shown : (s : Store) (k p f g : ℕ) (a b : AreaStore) (ql qr : ℕ) → Some a ≡ get_or s.areas k None
    → IsWhole (length s.areas) (frame_in s.areas) s.flight ql qr s.writing → frame_in s.areas (record { area = k; page = p }) ≡ Some f
    → area_shown b ≡ with_frame p (Some g) (area_shown a) → shown (with_one s k b) ≡ with_renamed f g (shown s)
renamed_shown s k p f g a b ql qr h w is e =
    shown_found s k a b (sym h) p (Some g) e
    ∙ ap (λ (find : Slot → Option ℕ). record (shown s) { find = find })
    (renamed_one (frame_in s.areas) (record { area = k; page = p }) f g is w.apart)
