-- What holds of the slots, the cache and the flight at any time.
use Rattle.std.proofs.Common.{◌≡◌, ℕ, ◌+◌, ◌<◌, ◌≤◌, Bool, true, false, cond, not, ◌&&◌, ltb, ◌⊎◌, inl, inr, List, length, get_or, Option, Some, None, is_some, option_map, refl, sym, subst, ◌∙◌, arith, count_by}
use Rattle.std.proofs.lemmas.Bool.{cases_lt, false≢true}
use Rattle.std.proofs.lemmas.List.{get_or_past}
use Rattle.std.specs.List.{list_any}
use Rattle.std.specs.Prelude.{IfSome}
use Rattle.av_base.specs.declared.slot.Slot.{Slot}
use Rattle.av_clusters.specs.Clusters.{is_taken, page_at}
use Rattle.av_swapdev.specs.declared.header.Header.{Header}
use Rattle.av_swapcache.specs.Area.{AreaStore, area_shown, counted, is_slot}
use Rattle.av_swapcache.specs.Swap.{AreKept, IsFit, IsKeptOn, IsWhole, Store, area_at, bad_in, entries_in, find_in, frame_in, is_writing, no_slots, same_slot, shown, slots_in}
use Rattle.av_swapcache.proofs.Flight.{is_listed}
use Rattle.av_swapcache.proofs.SwapLaws.{header-at}

-- one area more
pub kept_more : (areas : List (Option AreaStore)) (n : ℕ) → AreKept areas n → IsKeptOn (get_or areas n None) → AreKept areas (n + 1)
kept_more areas n old now k less = by (cases_lt k n)
  where
    by : (k < n) ⊎ (n ≤ k) → IsKeptOn (get_or areas k None)
    by (inl b) = old k b
    by (inr b) = let is : n ≡ k = omega (arith, less, b) in subst (λ m. IsKeptOn (get_or areas m None)) is now

module _ (s : Store) (ql qr : ℕ) (w : IsWhole (length s.areas) (frame_in s.areas) s.flight ql qr s.writing)
    (kept : AreKept s.areas (length s.areas)) where
  any : (k : ℕ) → IsKeptOn (get_or s.areas k None)
  any k = by (cases_lt k (length s.areas))
    where
      by : (k < length s.areas) ⊎ (length s.areas ≤ k) → IsKeptOn (get_or s.areas k None)
      by (inl b) = kept k b
      by (inr b) = subst IsKeptOn (sym (get_or_past s.areas k None b)) tt

  at_most_one : (b : Bool) (m : ℕ) → m ≡ cond b 1 0 → m ≤ 1
  at_most_one true m e = omega (arith, e)
  at_most_one false m e = omega (arith, e)

  flies : (s' : Slot) (o : Option ℕ) → list_any (same_slot s') s.flight ≡ is_writing s.writing o → list_any (same_slot s') s.flight ≡ true
      → is_some o ≡ true
  flies s' None e h = absurd (false≢true (sym e ∙ h))
  flies s' (Some f) e h = refl

  pub fits : IsFit (shown s)
  fits = record {
    taken = λ t. takes t.page (get_or s.areas t.area None) (any t.area);
    usable = λ t. subst (λ (o : Option Header). IfSome o (λ (a : Header). is_slot (page_at (slots_in (area_at s.areas t.area)).pages t.page)
        ≡ (ltb 0 t.page && ltb t.page a.pages && not (bad_in (area_at s.areas t.area) t.page)))) (sym (header-at s t.area))
        (uses t.page (get_or s.areas t.area None) (any t.area));
    number = λ k. subst (λ (o : Option Header). IfSome o (λ (a : Header). count_by is_slot (slots_in (area_at s.areas k)).pages ≡ a.slots))
        (sym (header-at s k))
        (counts (get_or s.areas k None) (any k));
    off = λ k e. none (get_or s.areas k None) (sym (header-at s k) ∙ e);
    in_range = w.in_range;
    apart = w.apart;
    once = λ t. at_most_one (is_writing s.writing (frame_in s.areas t)) _ (w.flying t);
    flying = λ t h. flies t (frame_in s.areas t) (is_listed t s.flight (is_writing s.writing (frame_in s.areas t)) (w.flying t)) h;
  }
    where
      takes : (p : ℕ) (o : Option AreaStore) → IsKeptOn o → is_taken (page_at (slots_in (option_map area_shown o)).pages p)
          ≡ ltb 0 (counted (entries_in (option_map area_shown o) p) (find_in (option_map area_shown o) p))
      takes p None h = refl
      takes p (Some a) h = h.taken p

      uses : (p : ℕ) (o : Option AreaStore) → IsKeptOn o → IfSome (option_map (λ (a : AreaStore). a.header) o) (λ (a : Header).
          is_slot (page_at (slots_in (option_map area_shown o)).pages p) ≡ (ltb 0 p && ltb p a.pages && not (bad_in (option_map area_shown o) p)))
      uses p None h = tt
      uses p (Some a) h = h.usable p

      counts : (o : Option AreaStore) → IsKeptOn o → IfSome (option_map (λ (a : AreaStore). a.header) o) (λ (a : Header).
          count_by is_slot (slots_in (option_map area_shown o)).pages ≡ a.slots)
      counts None h = tt
      counts (Some a) h = h.number

      none : (o : Option AreaStore) → option_map (λ (a : AreaStore). a.header) o ≡ None → slots_in (option_map area_shown o) ≡ no_slots
      none None e = refl
      none (Some a) e = absurd (never e)
        where
          never : ◌≡◌ {A = Option Header} (Some a.header) None → ⊥
          never e = cc

pub fits_now : (s v : Store) (ql qr : ℕ) → s ≡ v → IsWhole (length s.areas) (frame_in s.areas) s.flight ql qr s.writing
    → AreKept s.areas (length s.areas)
    → IsFit (shown v)
fits_now s v ql qr same w kept = subst (λ (x : Store). IsFit (shown x)) same (fits s ql qr w kept)
