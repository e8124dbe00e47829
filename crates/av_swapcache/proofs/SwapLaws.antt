-- What is shown of the swap areas after one of them has changed.
use Rattle.std.proofs.Common.{◌≡◌, ℕ, ◌+◌, true, cond, List, get_or, set, Option, Some, None, is_some, option_map, sym, ap, ◌∙◌, arith}
use Rattle.std.proofs.lemmas.Bool.{false≢true}
use Rattle.av_base.specs.Words.{with_at}
use Rattle.av_base.specs.declared.slot.Slot.{Slot}
use Rattle.av_clusters.specs.Clusters.{Slots}
use Rattle.av_swapcache.specs.Area.{AreaShown, AreaStore, after_count, area_shown, count_in, given_back as area_given_back, with_frame, with_entries as area_with_entries}
use Rattle.av_swapcache.specs.Swap.{Store, after_put, area_at, bad_in, count_of, entries_in, find_in, frame_in, given_back, header_at, is_on, priority_in, shown, slots_in, with_entries, with_find, with_slot}
use Rattle.av_swapcache.proofs.AreaLaws.{own}
use Rattle.av_swapcache.proofs.SlotLaws.{area_at-set, areas_one, areas_same, find-on, here, is_there, on-same, slots_one, slots_same}

-- the slot at a page of an area
abbrev at_page : ℕ → ℕ → Slot
at_page k p = record { area = k; page = p }

zero_plus : (n : ℕ) → 0 + n ≡ n
zero_plus n = omega arith

-- the header of an area that is on
pub header-at : (s : Store) (k : ℕ) → header_at (shown s) k ≡ option_map (λ (a : AreaStore). a.header) (get_or s.areas k None)
header-at s k = find-on 0 k k s.areas (zero_plus k)

pub off_is : (s : Store) (k : ℕ) → None ≡ get_or s.areas k None → is_on (shown s) k ≡ true → ⊥
off_is s k h on = false≢true
    (ap (λ (o : Option AreaStore). is_some (option_map (λ (a : AreaStore). a.header) o)) h ∙ sym (ap is_some (header-at s k)) ∙ on)

-- ---- one area has changed

module _ (areas : List (Option AreaStore)) (k : ℕ) (a b : AreaStore) where
  now_at : get_or areas k None ≡ Some a → area_at (set areas k (Some b)) ≡ with_at k (Some (area_shown b)) (area_at areas)
  now_at h = area_at-set areas k (Some b) (is_there areas k a h)

  was_at : get_or areas k None ≡ Some a → area_at areas k ≡ Some (area_shown a)
  was_at h = ap (option_map area_shown) h

  -- what is read of slots and areas
  pub slots_kept : {X : Type 0} (read : Option AreaShown → ℕ → X) → get_or areas k None ≡ Some a
      → read (Some (area_shown b)) ≡ read (Some (area_shown a))
      → ◌≡◌ {A = Slot → X} (λ (t : Slot). read (area_at (set areas k (Some b)) t.area) t.page) (λ (t : Slot). read (area_at areas t.area) t.page)
  slots_kept read h e = (λ i t. read (now_at h i t.area) t.page)
      ∙ slots_same read (area_at areas) k (Some (area_shown b)) (e ∙ sym (ap read (was_at h)))

  pub slots_changed : {X : Type 0} (read : Option AreaShown → ℕ → X) (p : ℕ) (x : X) → get_or areas k None ≡ Some a →
      read (Some (area_shown b)) ≡ with_at p x (read (Some (area_shown a)))
      → (λ (t : Slot). read (area_at (set areas k (Some b)) t.area) t.page) ≡ with_slot (at_page k p) x
      (λ (t : Slot). read (area_at areas t.area) t.page)
  slots_changed read p x h e = (λ i t. read (now_at h i t.area) t.page)
      ∙ slots_one read (area_at areas) k (Some (area_shown b)) p x (e ∙ sym (ap (λ o. with_at p x (read o)) (was_at h)))

  pub areas_kept : {X : Type 0} (read : Option AreaShown → X) → get_or areas k None ≡ Some a → read (Some (area_shown b)) ≡ read (Some (area_shown a))
      → ◌≡◌ {A = ℕ → X} (λ j. read (area_at (set areas k (Some b)) j)) (λ j. read (area_at areas j))
  areas_kept read h e = (λ i j. read (now_at h i j)) ∙ areas_same read (area_at areas) k (Some (area_shown b)) (e ∙ sym (ap read (was_at h)))

  pub areas_changed : {X : Type 0} (read : Option AreaShown → X) (x : X) → get_or areas k None ≡ Some a → read (Some (area_shown b)) ≡ x
      → (λ j. read (area_at (set areas k (Some b)) j)) ≡ with_at k x (λ j. read (area_at areas j))
  areas_changed read x h e = (λ i j. read (now_at h i j)) ∙ areas_one read (area_at areas) k (Some (area_shown b))
      ∙ ap (λ y. with_at k y (λ j. read (area_at areas j))) e

-- one area of the store has changed
abbrev pub with_one : Store → ℕ → AreaStore → Store
with_one s k b = record s { areas = set s.areas k (Some b) }

module _ (s : Store) (k : ℕ) (a b : AreaStore) (h : get_or s.areas k None ≡ Some a) where
  pub shown_found : (p : ℕ) (x : Option ℕ) → area_shown b ≡ with_frame p x (area_shown a)
      → shown (with_one s k b) ≡ with_find (at_page k p) x (shown s)
  shown_found p x e = λ i. record (shown s) {
    find = slots_changed s.areas k a b find_in p x h (λ i. (e i).find) i;
    entries = slots_kept s.areas k a b entries_in h (λ i. (e i).entries) i;
    bad = slots_kept s.areas k a b bad_in h (λ i. (e i).bad) i;
    on = on-same 0 k s.areas a b h (λ i. (e i).header) i;
    priority = areas_kept s.areas k a b priority_in h (λ i. (e i).priority) i;
    slots = areas_kept s.areas k a b slots_in h (λ i. (e i).slots) i;
  }

  pub shown_named : (p n : ℕ) → area_shown b ≡ area_with_entries p n (area_shown a)
      → shown (with_one s k b) ≡ with_entries (at_page k p) n (shown s)
  shown_named p n e = λ i. record (shown s) {
    find = slots_kept s.areas k a b find_in h (λ i. (e i).find) i;
    entries = slots_changed s.areas k a b entries_in p n h (λ i. (e i).entries) i;
    bad = slots_kept s.areas k a b bad_in h (λ i. (e i).bad) i;
    on = on-same 0 k s.areas a b h (λ i. (e i).header) i;
    priority = areas_kept s.areas k a b priority_in h (λ i. (e i).priority) i;
    slots = areas_kept s.areas k a b slots_in h (λ i. (e i).slots) i;
  }

  pub shown_same : area_shown b ≡ area_shown a → shown (with_one s k b) ≡ shown s
  shown_same e = λ i. record (shown s) {
    find = slots_kept s.areas k a b find_in h (λ i. (e i).find) i;
    entries = slots_kept s.areas k a b entries_in h (λ i. (e i).entries) i;
    bad = slots_kept s.areas k a b bad_in h (λ i. (e i).bad) i;
    on = on-same 0 k s.areas a b h (λ i. (e i).header) i;
    priority = areas_kept s.areas k a b priority_in h (λ i. (e i).priority) i;
    slots = areas_kept s.areas k a b slots_in h (λ i. (e i).slots) i;
  }

  pub shown_put : (p f : ℕ) (rest : Slots) → area_shown b ≡ record (with_frame p (Some f) (area_shown a)) { slots = rest }
      → shown (with_one s k b) ≡ after_put (at_page k p) f rest (shown s)
  shown_put p f rest e = λ i. record (shown s) {
    find = slots_changed s.areas k a b find_in p (Some f) h (λ i. (e i).find) i;
    entries = slots_kept s.areas k a b entries_in h (λ i. (e i).entries) i;
    bad = slots_kept s.areas k a b bad_in h (λ i. (e i).bad) i;
    on = on-same 0 k s.areas a b h (λ i. (e i).header) i;
    priority = areas_kept s.areas k a b priority_in h (λ i. (e i).priority) i;
    slots = areas_changed s.areas k a b slots_in rest h (λ i. (e i).slots) i;
  }

  -- what an area says of a slot is what is shown of it
  pub area_is : {X : Type 0} (read : Option AreaShown → X) → read (Some (area_shown a)) ≡ read (area_at s.areas k)
  area_is read = sym (ap read (was_at s.areas k a b h))

  pub shown_dropped : (p : ℕ) → area_shown b ≡ area_given_back p (with_frame p None (area_shown a))
      → shown (with_one s k b) ≡ given_back (at_page k p) (with_find (at_page k p) None (shown s))
  shown_dropped p e = λ i. record (shown s) {
    find = slots_changed s.areas k a b find_in p None h (λ i. (e i).find) i;
    entries = slots_kept s.areas k a b entries_in h (λ i. (e i).entries) i;
    bad = slots_kept s.areas k a b bad_in h (λ i. (e i).bad) i;
    on = on-same 0 k s.areas a b h (λ i. (e i).header) i;
    priority = areas_kept s.areas k a b priority_in h (λ i. (e i).priority) i;
    slots = areas_changed s.areas k a b slots_in _ h (left e) i;
  }
    where
      count : count_in (with_frame p None (area_shown a)) p ≡ count_of (with_find (at_page k p) None (shown s)) (at_page k p)
      count = λ i. area_is (λ o. entries_in o p) i + cond (is_some (gone i)) 1 0
        where
          gone : with_at p None (area_shown a).find p ≡ with_slot (at_page k p) None (frame_in s.areas) (at_page k p)
          gone = own p (area_shown a).find None ∙ sym (here (at_page k p) None (frame_in s.areas))

      left : area_shown b ≡ area_given_back p (with_frame p None (area_shown a)) → (area_shown b).slots
          ≡ after_count p (count_of (with_find (at_page k p) None (shown s)) (at_page k p)) (slots_in (area_at s.areas k))
      left e = (λ i. (e i).slots) ∙ λ i. after_count p (count i) (area_is slots_in i)

  pub shown_unnamed : (p n : ℕ) → area_shown b ≡ area_given_back p (area_with_entries p n (area_shown a))
      → shown (with_one s k b) ≡ given_back (at_page k p) (with_entries (at_page k p) n (shown s))
  shown_unnamed p n e = λ i. record (shown s) {
    find = slots_kept s.areas k a b find_in h (λ i. (e i).find) i;
    entries = slots_changed s.areas k a b entries_in p n h (λ i. (e i).entries) i;
    bad = slots_kept s.areas k a b bad_in h (λ i. (e i).bad) i;
    on = on-same 0 k s.areas a b h (λ i. (e i).header) i;
    priority = areas_kept s.areas k a b priority_in h (λ i. (e i).priority) i;
    slots = areas_changed s.areas k a b slots_in _ h (left e) i;
  }
    where
      count : count_in (area_with_entries p n (area_shown a)) p ≡ count_of (with_entries (at_page k p) n (shown s)) (at_page k p)
      count = λ i. some i + cond (is_some (area_is (λ o. find_in o p) i)) 1 0
        where
          some : with_at p n (area_shown a).entries p ≡ with_slot (at_page k p) n (shown s).entries (at_page k p)
          some = own p (area_shown a).entries n ∙ sym (here (at_page k p) n (shown s).entries)

      left : area_shown b ≡ area_given_back p (area_with_entries p n (area_shown a)) → (area_shown b).slots
          ≡ after_count p (count_of (with_entries (at_page k p) n (shown s)) (at_page k p)) (slots_in (area_at s.areas k))
      left e = (λ i. (e i).slots) ∙ λ i. after_count p (count i) (area_is slots_in i)

  -- the frames of slots
  pub frames_kept : (area_shown b).find ≡ (area_shown a).find → frame_in (set s.areas k (Some b)) ≡ frame_in s.areas
  frames_kept e = slots_kept s.areas k a b find_in h e

  pub frames_one : (p : ℕ) (x : Option ℕ) → (area_shown b).find ≡ with_at p x (area_shown a).find
      → frame_in (set s.areas k (Some b)) ≡ with_slot (at_page k p) x (frame_in s.areas)
  frames_one p x e = slots_changed s.areas k a b find_in p x h e
