-- What the calls of `Lru` show, from the values that the code reads.
use Rattle.std.proofs.Common.{◌≡◌, ◌≢◌, ◌⊎◌, ℕ, ◌+◌, ◌-◌, ◌<◌, ◌≤◌, ◌^◌, cond, true, false, List, [], ◌∷◌, ◌++◌, length, zero, suc, get_or, slice_set, Option, Some, None, refl, sym, ap, ◌∙◌, subst, arith, inl, inr, replicate, count_by, min, take, reverse}
use Rattle.std.specs.Prelude.{slice_index}
use Rattle.std.proofs.lemmas.Bool.{cond-true, cond-false}
use Rattle.std.proofs.lemmas.Option.{none-some}
use Rattle.std.proofs.lemmas.List.{length-replicate}
use Rattle.std.proofs.lemmas.List.Folds.{sum_by-replicate}
use Rattle.av_lru.specs.declared.lists.Which.{Which}
use Rattle.av_lru.specs.declared.lists.Which.TheVariants.{Active, Inactive}
use Rattle.av_lru.specs.declared.lists.Lengths.{Lengths}
use Rattle.av_lru.specs.Lists.{Lists, list_of, with_list, without_frame, with_renamed, last_of, frame_before, place_in, IsApart}
use Rattle.av_base.specs.Words.{is_in, without}
use Rattle.av_lru.specs.Links.{head_of, len_of, with_len, Joins, Inserts, lists_of, place_of, IsWhole, is_off, IsIn, IsRing, walk, after_links}
use Rattle.av_lru.proofs.Paths.{IsIn-without, frame_at, frame_past, last_path, prev_path}
use Rattle.av_lru.proofs.Tails.{back_in, tails_path}
use Rattle.av_lru.proofs.Whole.{found_in, is_apart, read, read_place, head_below, head_past, free_place, first_on, last_on, on_below, off_ring, room, front, push, Shows, before_on, after_on, some, leaves, taken_free, renames, renamed_free, not_in, in_found, ring, placed_below, length-listed, shows}

abbrev pub Reads : List ℕ → ℕ → ℕ → Type 0
Reads xs i x = x ≡ get_or xs i x

module _ (links back : List ℕ) (places : List (Option Which)) (lens : Lengths) (whole : IsWhole links back places lens) (ls : Lists)
    (seen : lists_of links (length places) lens ≡ ls) where
  pub in_places : (f : ℕ) → f < ls.frames → f < length places
  in_places f h = subst (λ (v : Lists). f < v.frames) (sym seen) h

  -- ---- a frame joins

  module _ (w : Which) (f n h : ℕ) (in_range : f < ls.frames) (not_active : is_in f ls.active ≡ false) (not_inactive : is_in f ls.inactive ≡ false)
      (count : n ≡ length places) (head : h ≡ head_of n w) where
    below : f < length places
    below = in_places f in_range

    free : place_of places f ≡ None
    free = free_place links back places lens whole f (subst (λ (v : Lists). is_in f v.active ≡ false) (sym seen) not_active)
        (subst (λ (v : Lists). is_in f v.inactive ≡ false) (sym seen) not_inactive)

    head_is : h ≡ head_of (length places) w
    head_is = head ∙ ap (λ m. head_of m w) count

    pub head_in : h < length places + 2
    head_in = subst (λ m. m < length places + 2) (sym head_is) (head_below (length places) w)

    pub not_head : f ≢ h
    not_head same = let b = below in let p = head_past (length places) w in let e = head_is in omega (arith, b, p, e, same)

    pub has_room : len_of w lens < 2 ^ 32 - 1
    has_room = room links back places lens whole w f below free

    module _ (first : ℕ) (reads : Reads links h first) where
      first_is : first ≡ slice_index links (head_of (length places) w)
      first_is = read links h first reads (let a = head_in in let b = whole.next in omega (arith, a, b)) ∙ ap (slice_index links) head_is

      pub first_in : first < length back
      first_in = let a = on_below links back places lens whole w _ (first_on links back places lens whole w) in let b = whole.prev in
          let e = first_is in omega (arith, a, b, e)

      pub not_first : f ≢ first
      not_first same = off_ring links back places lens whole f below free w _ (first_on links back places lens whole w) (sym first_is ∙ sym same)

      pub fronted : (links' back' : List ℕ) (lens' : Lengths) → length links' ≡ length links → length back' ≡ length back
          → Inserts (slice_index links) (slice_index back) (slice_index links') (slice_index back') h f first
          → lens' ≡ with_len w (len_of w lens + 1) lens
          → Shows links' back' (slice_set places f (Some w)) lens' (with_list w (f ∷ list_of w ls) ls)
      fronted links' back' lens' next prev splices lengths =
          subst (λ (v : Lists). Shows links' back' (slice_set places f (Some w)) lens' (with_list w (f ∷ list_of w v) v)) seen
          (subst (λ (l : Lengths). Shows links' back' (slice_set places f (Some w)) l
          (with_list w (f ∷ list_of w (lists_of links (length places) lens)) (lists_of links (length places) lens))) (sym lengths)
          (front links back places lens whole w f below free links' back' next prev
          (subst (λ m. Inserts (slice_index links) (slice_index back) (slice_index links') (slice_index back')
          (head_of (length places) w) f m) first_is
          (subst (λ m. Inserts (slice_index links) (slice_index back) (slice_index links') (slice_index back') m f first) head_is splices))))

    module _ (last : ℕ) (reads : Reads back h last) where
      last_is : last ≡ slice_index back (head_of (length places) w)
      last_is = read back h last reads (let a = head_in in let b = whole.prev in omega (arith, a, b)) ∙ ap (slice_index back) head_is

      pub last_in : last < length links
      last_in = let a = on_below links back places lens whole w _ (last_on links back places lens whole w) in let b = whole.next in
          let e = last_is in omega (arith, a, b, e)

      pub not_last : f ≢ last
      not_last same = off_ring links back places lens whole f below free w _ (last_on links back places lens whole w) (sym last_is ∙ sym same)

      pub pushed : (links' back' : List ℕ) (lens' : Lengths) → length links' ≡ length links → length back' ≡ length back
          → Inserts (slice_index links) (slice_index back) (slice_index links') (slice_index back') last f h
          → lens' ≡ with_len w (len_of w lens + 1) lens
          → Shows links' back' (slice_set places f (Some w)) lens' (with_list w (list_of w ls ++ f ∷ []) ls)
      pushed links' back' lens' next prev splices lengths =
          subst (λ (v : Lists). Shows links' back' (slice_set places f (Some w)) lens' (with_list w (list_of w v ++ f ∷ []) v)) seen
          (subst (λ (l : Lengths). Shows links' back' (slice_set places f (Some w)) l
          (with_list w (list_of w (lists_of links (length places) lens) ++ f ∷ []) (lists_of links (length places) lens))) (sym lengths)
          (push links back places lens whole w f below free links' back' next prev
          (subst (λ m. Inserts (slice_index links) (slice_index back) (slice_index links') (slice_index back') m f
          (head_of (length places) w)) last_is
          (subst (λ m. Inserts (slice_index links) (slice_index back) (slice_index links') (slice_index back') last f m) head_is splices))))

  -- ---- a frame leaves

  module _ (f : ℕ) (in_range : f < ls.frames) (at : Option Which) (reads : at ≡ get_or places f at) where
    pub at_is : place_of places f ≡ at
    at_is = read_place places f at reads (in_places f in_range)

    pub stays : at ≡ None → ls ≡ without_frame f ls
    stays none = subst (λ (v : Lists). v ≡ without_frame f v) seen (sym (taken_free links back places lens whole f (at_is ∙ none)))

    module _ (w : Which) (is : at ≡ Some w) where
      was : place_of places f ≡ Some w
      was = at_is ∙ is

      pub before_in : slice_index back f < length links
      before_in = let a = on_below links back places lens whole w _ (before_on links back places lens whole w f was) in
          let b = whole.next in omega (arith, a, b)

      pub after_in : slice_index links f < length back
      after_in = let a = on_below links back places lens whole w _ (after_on links back places lens whole w f was) in let b = whole.prev in
          omega (arith, a, b)

      pub is_some : 0 < len_of w lens
      is_some = some links back places lens whole w f was

      pub left : (links' back' : List ℕ) (lens' : Lengths) → length links' ≡ length links → length back' ≡ length back
          → Joins (slice_index links) (slice_index links') (slice_index back f) (slice_index links f)
          → Joins (slice_index back) (slice_index back') (slice_index links f) (slice_index back f)
          → lens' ≡ with_len w (len_of w lens - 1) lens
          → Shows links' back' (slice_set places f None) lens' (without_frame f ls)
      left links' back' lens' next prev nexts prevs lengths =
          subst (λ (v : Lists). Shows links' back' (slice_set places f None) lens' (without_frame f v)) seen
          (subst (λ (l : Lengths). Shows links' back' (slice_set places f None) l
          (without_frame f (lists_of links (length places) lens))) (sym lengths)
          (leaves links back places lens whole w f was links' back' next prev nexts prevs))

    -- ---- a frame gives its place

    pub keeps_place : (t : ℕ) → at ≡ None → ls ≡ with_renamed f t ls
    keeps_place t none = subst (λ (v : Lists). v ≡ with_renamed f t v) seen (sym (renamed_free links back places lens whole f t (at_is ∙ none)))

    module _ (t : ℕ) (new_in : t < ls.frames) (not_active : is_in t ls.active ≡ false) (not_inactive : is_in t ls.inactive ≡ false)
        (w : Which) (is : at ≡ Some w) (before after : ℕ) (reads_before : Reads back f before) (reads_after : Reads links f after) where
      taken : place_of places f ≡ Some w
      taken = at_is ∙ is

      unused : place_of places t ≡ None
      unused = free_place links back places lens whole t (subst (λ (v : Lists). is_in t v.active ≡ false) (sym seen) not_active)
          (subst (λ (v : Lists). is_in t v.inactive ≡ false) (sym seen) not_inactive)

      before_place : before ≡ slice_index back f
      before_place = read back f before reads_before (let a = in_places f in_range in let b = whole.prev in omega (arith, a, b))

      after_place : after ≡ slice_index links f
      after_place = read links f after reads_after (let a = in_places f in_range in let b = whole.next in omega (arith, a, b))

      pub before_below : before < length links
      before_below = let a = on_below links back places lens whole w _ (before_on links back places lens whole w f taken) in
          let b = whole.next in let e = before_place in omega (arith, a, b, e)

      pub after_below : after < length back
      after_below = let a = on_below links back places lens whole w _ (after_on links back places lens whole w f taken) in
          let b = whole.prev in let e = after_place in omega (arith, a, b, e)

      pub not_before : t ≢ before
      not_before same = off_ring links back places lens whole t (in_places t new_in) unused w _ (before_on links back places lens whole w f taken)
          (sym before_place ∙ sym same)

      pub not_after : t ≢ after
      not_after same = off_ring links back places lens whole t (in_places t new_in) unused w _ (after_on links back places lens whole w f taken)
          (sym after_place ∙ sym same)

      pub gives : (links' back' : List ℕ) → length links' ≡ length links → length back' ≡ length back
          → Inserts (slice_index links) (slice_index back) (slice_index links') (slice_index back') before t after
          → Shows links' back' (slice_set (slice_set places t (Some w)) f None) lens (with_renamed f t ls)
      gives links' back' next prev splices =
          subst (λ (v : Lists). Shows links' back' (slice_set (slice_set places t (Some w)) f None) lens (with_renamed f t v)) seen
          (renames links back places lens whole w f t taken (in_places t new_in) unused links' back' next prev
          (subst (λ m. Inserts (slice_index links) (slice_index back) (slice_index links') (slice_index back') (slice_index back f) t m) after_place
          (subst (λ m. Inserts (slice_index links) (slice_index back) (slice_index links') (slice_index back') m t after) before_place splices)))

  -- ---- what is read

  pub long : (w : Which) → length (list_of w ls) ≡ len_of w lens
  long w = subst (λ (v : Lists). length (list_of w v) ≡ len_of w lens) seen (length-listed links back places lens w)

  pub listed_in : (f : ℕ) → (is_in f ls.active ≡ true) ⊎ (is_in f ls.inactive ≡ true) → f < length places
  listed_in f h = by (subst (λ (v : Lists). (is_in f v.active ≡ true) ⊎ (is_in f v.inactive ≡ true)) (sym seen) h)
    where
      by : (is_in f (lists_of links (length places) lens).active ≡ true) ⊎ (is_in f (lists_of links (length places) lens).inactive ≡ true)
          → f < length places
      by (inl a) = placed_below links back places lens f Active ((ring links back places lens whole Active).placed f (in_found f _ a))
      by (inr b) = placed_below links back places lens f Inactive ((ring links back places lens whole Inactive).placed f (in_found f _ b))

  pub tail_is : (w : Which) (n h last : ℕ) (found : Option ℕ) → n ≡ length places → h ≡ head_of n w → Reads back h last → found ≡ frame_at n last →
      found ≡ last_of None (list_of w ls)
  tail_is w n h last found count head reads is =
      let head_is : h ≡ head_of (length places) w = head ∙ ap (λ m. head_of m w) count in
      let inside : h < length back = let a = subst (λ m. m < length places + 2) (sym head_is) (head_below (length places) w) in
      let b = whole.prev in omega (arith, a, b) in
      let last_is : last ≡ slice_index back (head_of (length places) w) = read back h last reads inside ∙ ap (slice_index back) head_is in
      is ∙ ap (λ m. frame_at m last) count ∙ ap (frame_at (length places)) last_is
      ∙ subst (λ (v : Lists). frame_at (length places) (slice_index back (head_of (length places) w)) ≡ last_of None (list_of w v)) seen
      (last_path (slice_index links) (slice_index back) (length places) _ _ _ None (ring links back places lens whole w).linked
      (λ f there. placed_below links back places lens f w ((ring links back places lens whole w).placed f there))
      (frame_past (length places) _ (head_past (length places) w)))

  pub before_is : (w : Which) (f n at : ℕ) (found : Option ℕ) → n ≡ length places → Reads back f at → found ≡ frame_at n at
      → is_in f (list_of w ls) ≡ true →
      found ≡ frame_before None f (list_of w ls)
  before_is w f n at found count reads is inside =
      let there : IsIn f (list_of w (lists_of links (length places) lens)) =
      in_found f _ (subst (λ (v : Lists). is_in f (list_of w v) ≡ true) (sym seen) inside) in
      let small : f < length back = let a = placed_below links back places lens f w ((ring links back places lens whole w).placed f there) in
      let b = whole.prev in omega (arith, a, b) in
      is ∙ ap (λ m. frame_at m at) count ∙ ap (frame_at (length places)) (read back f at reads small)
      ∙ subst (λ (v : Lists). frame_at (length places) (slice_index back f) ≡ frame_before None f (list_of w v)) seen
      (prev_path (slice_index links) (slice_index back) (length places) _ _ _ None f (ring links back places lens whole w).linked
      (λ g inside'. placed_below links back places lens g w ((ring links back places lens whole w).placed g inside'))
      (frame_past (length places) _ (head_past (length places) w)) there)

  pub within_frames : (w : Which) → len_of w lens ≤ ls.frames
  within_frames w = subst (λ (v : Lists). len_of w lens ≤ v.frames) seen (by w)
    where
      by : (w : Which) → len_of w lens ≤ length places
      by Active = let t = whole.total in omega (arith, t)
      by Inactive = let t = whole.total in omega (arith, t)

  pub apart_is : (w : Which) → IsApart (list_of w ls)
  apart_is w = subst (λ (v : Lists). IsApart (list_of w v)) seen (is_apart _ (ring links back places lens whole w).apart)

  pub in_frames : (w : Which) (f : ℕ) → is_in f (list_of w ls) ≡ true → f < ls.frames
  in_frames w = subst (λ (v : Lists). (f : ℕ) → is_in f (list_of w v) ≡ true → f < v.frames) seen
      (λ f inside. placed_below links back places lens f w ((ring links back places lens whole w).placed f (in_found f _ inside)))

  -- membership in each list, by the vector of the places
  module _ (f : ℕ) where
    inside : (w : Which) → place_of places f ≡ Some w → is_in f (list_of w (lists_of links (length places) lens)) ≡ true
    inside w h = found_in f _ ((ring links back places lens whole w).listed f h)

    outside : (w : Which) → (place_of places f ≡ Some w → ⊥) → is_in f (list_of w (lists_of links (length places) lens)) ≡ false
    outside w h = not_in f _ (λ there. h ((ring links back places lens whole w).placed f there))

    pub never_both : is_in f ls.active ≡ true → is_in f ls.inactive ≡ false
    never_both = subst (λ (v : Lists). is_in f v.active ≡ true → is_in f v.inactive ≡ false) seen
        (λ h. outside Inactive (λ other. differ (sym ((ring links back places lens whole Active).placed f (in_found f _ h)) ∙ other)))
      where
        differ : Some Active ≡ Some Inactive → ⊥
        differ e = cc

    pub place_is : (o : Option Which) → f < ls.frames → o ≡ get_or places f o → o ≡ place_in f ls
    place_is o in_range reads = subst (λ (v : Lists). o ≡ place_in f v) seen (by o (read_place places f o reads (in_places f in_range)))
      where
        by : (o : Option Which) → place_of places f ≡ o → o ≡ place_in f (lists_of links (length places) lens)
        by None e = sym (cond-false _ _ _ (outside Active (λ h. none-some Active (sym e ∙ h)))
            ∙ cond-false _ _ _ (outside Inactive (λ h. none-some Inactive (sym e ∙ h))))
        by (Some Active) e = sym (cond-true _ _ _ (inside Active e))
        by (Some Inactive) e = sym (cond-false _ _ _ (outside Active (λ h. differ (sym h ∙ e))) ∙ cond-true _ _ _ (inside Inactive e))
          where
            differ : Some Active ≡ Some Inactive → ⊥
            differ e = cc

  -- the way back from a list's head
  module _ (w : Which) (n h count k steps : ℕ) (size : n ≡ length places) (head : h ≡ head_of n w) (len : k ≡ length (list_of w ls))
      (is : steps ≡ min count k) where
    head_at : h ≡ head_of (length places) w
    head_at = head ∙ ap (λ m. head_of m w) size

    len_at : k ≡ length (list_of w (lists_of links (length places) lens))
    len_at = subst (λ (v : Lists). k ≡ length (list_of w v)) (sym seen) len

    on_way : (i : ℕ) → i < steps → after_links (slice_index back) (suc i) h < length places
    on_way i less = subst (λ m. after_links (slice_index back) (suc i) m < length places) (sym head_at)
        (placed_below links back places lens _ w ((ring links back places lens whole w).placed _
        (back_in (slice_index links) (slice_index back) _ _ _ i (ring links back places lens whole w).linked
        (let a = len_at in omega (arith, less, is, a)))))

    pub way_within : (i : ℕ) → i < steps → after_links (slice_index back) i h < length back
    way_within zero less = let a = subst (λ m. m < length places + 2) (sym head_at) (head_below (length places) w) in let b = whole.prev in
        omega (arith, a, b)
    way_within (suc i) less = let a = on_way i (omega (arith, less)) in let b = whole.prev in omega (arith, a, b)

    pub way_small : (i : ℕ) → i < steps → after_links (slice_index back) (i + 1) h < 2 ^ 32
    way_small i less =
        let a = on_way i less in let b = whole.few in
        subst (λ m. after_links (slice_index back) m h < 2 ^ 32) (let e : suc i ≡ i + 1 = omega arith in e) (omega (arith, a, b))

    pub tails_are : walk (slice_index back) steps h ≡ take count (reverse (list_of w ls))
    tails_are = subst (λ (v : Lists). walk (slice_index back) steps h ≡ take count (reverse (list_of w v))) seen
        (ap (walk (slice_index back) steps) head_at
        ∙ tails_path (slice_index links) (slice_index back) _ (list_of w (lists_of links (length places) lens)) _ count steps
        (ring links back places lens whole w).linked (is ∙ ap (min count) len_at))

-- a frame is not among the others
pub gone : (f : ℕ) (fs : List ℕ) → is_in f (without f fs) ≡ false
gone f fs = not_in f (without f fs) (λ found. (IsIn-without f f fs found).1 refl)

-- ---- two empty lists

pub empty : (links back : List ℕ) (places : List (Option Which)) (n : ℕ) → n < 2 ^ 32
    → (length links ≡ n + 2) × (slice_index links n ≡ n) × (slice_index links (n + 1) ≡ n + 1)
    → (length back ≡ n + 2) × (slice_index back n ≡ n) × (slice_index back (n + 1) ≡ n + 1)
    → places ≡ replicate n None
    → Shows links back places (record { active = 0; inactive = 0 }) (record { frames = n; active = []; inactive = [] })
empty links back places n few next prev is =
    subst (λ (ps : List (Option Which)). Shows links back ps (record { active = 0; inactive = 0 })
    (record { frames = n; active = []; inactive = [] })) (sym is)
    (shows links back (replicate n None) (record { active = 0; inactive = 0 }) (record { frames = n; active = []; inactive = [] }) n
    (length-replicate n None) refl few next.0 prev.0 total rings lengths)
  where
    total : 0 + 0 + count_by is_off (replicate n None) ≡ n
    total = let h = sum_by-replicate (λ o. cond (is_off o) 1 0) n None in omega (arith, h)

    none_at : (m f : ℕ) → place_of (replicate m None) f ≡ None
    none_at zero f = refl
    none_at (suc m) zero = refl
    none_at (suc m) (suc f) = none_at m f

    rings : (v : Which) → IsRing (slice_index links) (slice_index back) (place_of (replicate n None)) v (head_of n v)
        (list_of v (record { frames = n; active = []; inactive = [] }))
    rings Active = record
        { linked = (next.1, prev.1); apart = tt; placed = λ f there. absurd there; listed = λ f h. none-some Active (sym (none_at n f) ∙ h) }
    rings Inactive = record {
      linked = (next.2, prev.2);
      apart = tt;
      placed = λ f there. absurd there;
      listed = λ f h. none-some Inactive (sym (none_at n f) ∙ h);
    }

    lengths : (v : Which) → length (list_of v (record { frames = n; active = []; inactive = [] })) ≡ len_of v (record { active = 0; inactive = 0 })
    lengths Active = refl
    lengths Inactive = refl
