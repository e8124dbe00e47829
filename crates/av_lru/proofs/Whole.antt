-- How the fields of `Lru` stay fit, and what a contract then sees, when a frame joins or leaves a list.
use Rattle.std.proofs.Common.{◌≡◌, ◌≢◌, ◌⊎◌, ℕ, zero, suc, ◌+◌, ◌-◌, ◌<◌, ◌≤◌, ◌^◌, true, false, cond, ◌||◌, List, [], ◌∷◌, ◌++◌, length, map, get_or, slice_set, Option, Some, None, count_by, refl, sym, ap, ◌∙◌, subst, inl, inr, arith, eq-eqb, ne_eqb, length-set, get_or-set_same, get_or-set_other, length-append}
use Rattle.std.specs.Prelude.{slice_index}
use Rattle.std.proofs.lemmas.Bool.{cases_eq, cases_lt, false≢true}
use Rattle.std.proofs.lemmas.List.{get_or_past}
use Rattle.std.proofs.lemmas.List.Sums.{sum_by-set}
use Rattle.std.proofs.lemmas.Option.{none-some, same_Some}
use Rattle.av_lru.specs.declared.lists.Which.{Which}
use Rattle.av_lru.specs.declared.lists.Which.TheVariants.{Active, Inactive}
use Rattle.av_lru.specs.declared.lists.Lengths.{Lengths}
use Rattle.av_lru.specs.Lists.{Lists, list_of, with_list, without_frame, with_renamed, IsApart}
use Rattle.av_base.specs.Words.{is_in, renamed, without}
use Rattle.av_lru.specs.Links.{head_of, len_of, with_len, is_off, IsIn, AreApart, Joins, Inserts, walk, frames_of, lists_of, IsPath, IsRing, place_of, IsWhole}
use Rattle.av_lru.proofs.Renamed.{IsRing-renamed, map-absent, length-renamed}
use Rattle.av_lru.proofs.Paths.{IsOn, without_absent, length-without, length-walk, walk_path, prev_end_on, next_start_on, prev_on, next_on, IsRing-kept, IsRing-skip, IsRing-push, IsRing-front}

-- ---- the two lists

same_or : (v w : Which) → (v ≡ w) ⊎ (v ≢ w)
same_or Active Active = inl refl
same_or Active Inactive = inr (λ e. cc)
same_or Inactive Active = inr (λ e. cc)
same_or Inactive Inactive = inl refl

heads_differ : (n : ℕ) (v w : Which) → v ≢ w → head_of n v ≢ head_of n w
heads_differ n Active Active ne same = ne refl
heads_differ n Active Inactive ne same = omega arith
heads_differ n Inactive Active ne same = omega arith
heads_differ n Inactive Inactive ne same = ne refl

pub head_below : (n : ℕ) (w : Which) → head_of n w < n + 2
head_below n Active = omega arith
head_below n Inactive = omega arith

pub head_past : (n : ℕ) (w : Which) → n ≤ head_of n w
head_past n Active = omega arith
head_past n Inactive = omega arith

len_same : (w : Which) (n : ℕ) (lens : Lengths) → len_of w (with_len w n lens) ≡ n
len_same Active n lens = refl
len_same Inactive n lens = refl

len_other : (v w : Which) (n : ℕ) (lens : Lengths) → v ≢ w → len_of v (with_len w n lens) ≡ len_of v lens
len_other Active Active n lens ne = absurd (ne refl)
len_other Active Inactive n lens ne = refl
len_other Inactive Active n lens ne = refl
len_other Inactive Inactive n lens ne = absurd (ne refl)

list_same : (w : Which) (fs : List ℕ) (ls : Lists) → list_of w (with_list w fs ls) ≡ fs
list_same Active fs ls = refl
list_same Inactive fs ls = refl

list_other : (v w : Which) (fs : List ℕ) (ls : Lists) → v ≢ w → list_of v (with_list w fs ls) ≡ list_of v ls
list_other Active Active fs ls ne = absurd (ne refl)
list_other Active Inactive fs ls ne = refl
list_other Inactive Active fs ls ne = refl
list_other Inactive Inactive fs ls ne = absurd (ne refl)

frames_same : (w : Which) (fs : List ℕ) (ls : Lists) → (with_list w fs ls).frames ≡ ls.frames
frames_same Active fs ls = refl
frames_same Inactive fs ls = refl

list_taken : (v : Which) (f : ℕ) (ls : Lists) → list_of v (without_frame f ls) ≡ without f (list_of v ls)
list_taken Active f ls = refl
list_taken Inactive f ls = refl

list_renamed : (v : Which) (f t : ℕ) (ls : Lists) → list_of v (with_renamed f t ls) ≡ map (renamed f t) (list_of v ls)
list_renamed Active f t ls = refl
list_renamed Inactive f t ls = refl

-- ---- membership

pub in_found : (f : ℕ) (fs : List ℕ) → is_in f fs ≡ true → IsIn f fs
in_found f [] h = cc
in_found f (g ∷ gs) h =
    elim (cases_eq g f) [
      | inl same ↦ inl same
      | inr differs ↦ inr (in_found f gs (sym (ap (λ b. b || is_in f gs) (ne_eqb f g (λ e. differs (sym e)))) ∙ h))
    ]

pub not_in : (f : ℕ) (fs : List ℕ) → ¬ IsIn f fs → is_in f fs ≡ false
not_in f [] absent = refl
not_in f (g ∷ gs) absent = ap (λ b. b || is_in f gs) (ne_eqb f g (λ e. absent (inl (sym e)))) ∙ not_in f gs (λ found. absent (inr found))

pub found_in : (f : ℕ) (fs : List ℕ) → IsIn f fs → is_in f fs ≡ true
found_in f [] found = absurd found
found_in f (g ∷ gs) found =
    elim (cases_eq g f) [
      | inl same ↦ ap (λ b. b || is_in f gs) (eq-eqb f g (sym same))
      | inr differs ↦
          ap (λ b. b || is_in f gs) (ne_eqb f g (λ e. differs (sym e)))
          ∙ found_in f gs (elim found [ inl here ↦ absurd (differs here) | inr there ↦ there ])
    ]

pub absent_in : (f : ℕ) (fs : List ℕ) → is_in f fs ≡ false → ¬ IsIn f fs
absent_in f fs h found = false≢true (sym h ∙ found_in f fs found)

pub is_apart : (fs : List ℕ) → AreApart fs → IsApart fs
is_apart [] apart = tt
is_apart (g ∷ gs) apart = (not_in g gs apart.0, is_apart gs apart.1)

-- a read whose default is the item itself
pub read : (xs : List ℕ) (i x : ℕ) → x ≡ get_or xs i x → i < length xs → x ≡ slice_index xs i
read [] i x h below = absurd (omega arith)
read (y ∷ ys) zero x h below = h
read (y ∷ ys) (suc i) x h below = read ys i x h (omega arith)

pub read_place : (xs : List (Option Which)) (i : ℕ) (x : Option Which) → x ≡ get_or xs i x → i < length xs → place_of xs i ≡ x
read_place [] i x h below = absurd (omega arith)
read_place (y ∷ ys) zero x h below = sym h
read_place (y ∷ ys) (suc i) x h below = read_place ys i x h (omega arith)

-- the fields are fit, and a contract sees these lists
pub record Shows (links back : List ℕ) (places : List (Option Which)) (lens : Lengths) (ls : Lists) : Type 0 where
  pub whole : IsWhole links back places lens
  pub seen : lists_of links (length places) lens ≡ ls

frames_of_ring : (links back : List ℕ) (n head : ℕ) (fs : List ℕ) → IsPath (slice_index links) (slice_index back) head fs head →
    length fs ≡ n → frames_of links n head ≡ fs
unfolding frames_of
frames_of_ring links back n head fs path len = ap (λ k. walk (slice_index links) k head) (sym len) ∙ walk_path (slice_index links)
    (slice_index back) head fs head path

pub length-frames_of : (links : List ℕ) (n head : ℕ) → length (frames_of links n head) ≡ n
unfolding frames_of
length-frames_of links n head = length-walk (slice_index links) n head

-- rings of the right lengths are what is seen
pub shows : (links back : List ℕ) (places : List (Option Which)) (lens : Lengths) (ls : Lists) (n : ℕ)
    → length places ≡ n → ls.frames ≡ n → n < 2 ^ 32 → length links ≡ n + 2 → length back ≡ n + 2
    → lens.active + lens.inactive + count_by is_off places ≡ n
    → ((v : Which) → IsRing (slice_index links) (slice_index back) (place_of places) v (head_of n v) (list_of v ls))
    → ((v : Which) → length (list_of v ls) ≡ len_of v lens)
    → Shows links back places lens ls
shows links back places lens ls n size frames few next prev total rings lengths = record {
  whole = record {
    few = subst (λ m. m < 2 ^ 32) (sym size) few;
    next = next ∙ ap (λ m. m + 2) (sym size);
    prev = prev ∙ ap (λ m. m + 2) (sym size);
    total = total ∙ sym size;
    rings = λ v. subst (λ m. IsRing (slice_index links) (slice_index back) (place_of places) v (head_of m v)
        (frames_of links (len_of v lens) (head_of m v)))
        (sym size)
        (subst (IsRing (slice_index links) (slice_index back) (place_of places) v (head_of n v)) (sym (is v)) (rings v));
  };
  seen = λ k. record {
    frames = (size ∙ sym frames) k;
    active = (ap (frames_of links lens.active) size ∙ is Active) k;
    inactive = (ap (λ m. frames_of links lens.inactive (m + 1)) size ∙ is Inactive) k;
  };
}
  where
    is : (v : Which) → frames_of links (len_of v lens) (head_of n v) ≡ list_of v ls
    is v = frames_of_ring links back (len_of v lens) (head_of n v) (list_of v ls) (rings v).linked (lengths v)

module _ (links back : List ℕ) (places : List (Option Which)) (lens : Lengths) where
  -- a list as it is read off the links
  abbrev pub list_at : Which → List ℕ
  list_at v = frames_of links (len_of v lens) (head_of (length places) v)

  abbrev pub seen_lists : Lists
  seen_lists = lists_of links (length places) lens

  pub listed_at : (v : Which) → list_of v seen_lists ≡ list_at v
  listed_at Active = refl
  listed_at Inactive = refl

  pub length-listed : (v : Which) → length (list_of v seen_lists) ≡ len_of v lens
  length-listed v = ap length (listed_at v) ∙ length-frames_of links (len_of v lens) (head_of (length places) v)

  none_past : (f : ℕ) → length places ≤ f → place_of places f ≡ None
  none_past f past = get_or_past places f None past

  pub heads_none : (v : Which) → place_of places (head_of (length places) v) ≡ None
  heads_none v = none_past _ (head_past (length places) v)

  pub placed_below : (f : ℕ) (v : Which) → place_of places f ≡ Some v → f < length places
  placed_below f v h =
      elim (cases_lt f (length places)) [
        | inl below ↦ below
        | inr past ↦ absurd (none-some v (sym (none_past f past) ∙ h))
      ]

  module _ (whole : IsWhole links back places lens) where
    pub ring : (v : Which) → IsRing (slice_index links) (slice_index back) (place_of places) v (head_of (length places) v) (list_of v seen_lists)
    ring v = subst (IsRing (slice_index links) (slice_index back) (place_of places) v (head_of (length places) v)) (sym (listed_at v)) (whole.rings v)

    pub on_below : (v : Which) (at : ℕ) → IsOn (head_of (length places) v) (list_of v seen_lists) at → at < length places + 2
    on_below v at on =
        elim on [
          | inl here ↦ subst (λ k. k < length places + 2) (sym here) (head_below (length places) v)
          | inr there ↦ let less = placed_below at v ((ring v).placed at there) in omega (arith, less)
        ]

    apart : (v w : Which) → v ≢ w → (at on : ℕ) → IsOn (head_of (length places) v) (list_of v seen_lists) at →
        IsOn (head_of (length places) w) (list_of w seen_lists) on → at ≢ on
    apart v w ne at on first second same =
        elim first [
          | inl here ↦
              elim second [
                | inl also ↦ heads_differ (length places) v w ne (sym here ∙ same ∙ also)
                | inr there ↦ none-some w (sym (heads_none v) ∙ ap (place_of places) (sym here ∙ same) ∙ (ring w).placed on there)
              ]
          | inr found ↦
              elim second [
                | inl also ↦ none-some v (sym (heads_none w) ∙ ap (place_of places) (sym also ∙ sym same) ∙ (ring v).placed at found)
                | inr there ↦ ne (same_Some v w (sym ((ring v).placed at found) ∙ ap (place_of places) same ∙ (ring w).placed on there))
              ]
        ]

    -- a frame that is off both lists is on no ring
    pub off_ring : (f : ℕ) → f < length places → place_of places f ≡ None → (v : Which) (at : ℕ) →
        IsOn (head_of (length places) v) (list_of v seen_lists) at → at ≢ f
    off_ring f below free v at on same =
        elim on [
          | inl here ↦ let past = head_past (length places) v in omega (arith, past, here, same)
          | inr there ↦ none-some v (sym free ∙ ap (place_of places) (sym same) ∙ (ring v).placed at there)
        ]

    pub first_on : (v : Which) → IsOn (head_of (length places) v) (list_of v seen_lists) (slice_index links (head_of (length places) v))
    first_on v = next_start_on (slice_index links) (slice_index back) _ _ _ (ring v).linked

    pub last_on : (v : Which) → IsOn (head_of (length places) v) (list_of v seen_lists) (slice_index back (head_of (length places) v))
    last_on v = prev_end_on (slice_index links) (slice_index back) _ _ _ (ring v).linked

    pub free_place : (f : ℕ) → is_in f seen_lists.active ≡ false → is_in f seen_lists.inactive ≡ false → place_of places f ≡ None
    free_place f a b = by (place_of places f) refl
      where
        by : (o : Option Which) → place_of places f ≡ o → o ≡ None
        by None e = refl
        by (Some Active) e = absurd (absent_in f _ a ((ring Active).listed f e))
        by (Some Inactive) e = absurd (absent_in f _ b ((ring Inactive).listed f e))

    -- ---- a frame joins

    module _ (w : Which) (f : ℕ) (below : f < length places) (free : place_of places f ≡ None) where
      count_join : count_by is_off (slice_set places f (Some w)) + 1 ≡ count_by is_off places
      count_join =
          let h = sum_by-set (λ o. cond (is_off o) 1 0) places f (Some w) None below in
          let h2 = subst (λ o. count_by is_off (slice_set places f (Some w)) + cond (is_off o) 1 0 ≡ count_by is_off places + 0) free h in
          omega (arith, h2)

      pub room : len_of w lens < 2 ^ 32 - 1
      room = by w
        where
          by : (v : Which) → len_of v lens < 2 ^ 32 - 1
          by Active = let a = count_join in let b = whole.total in let d = whole.few in omega (arith, a, b, d)
          by Inactive = let a = count_join in let b = whole.total in let d = whole.few in omega (arith, a, b, d)

      total_join : (v : Which) (k : ℕ) → k + 1 ≡ count_by is_off places →
          (with_len v (len_of v lens + 1) lens).active + (with_len v (len_of v lens + 1) lens).inactive + k ≡ length places
      total_join Active k h = let b = whole.total in omega (arith, b, h)
      total_join Inactive k h = let b = whole.total in omega (arith, b, h)

      place_here : place_of (slice_set places f (Some w)) f ≡ Some w
      place_here = get_or-set_same places f (Some w) None below

      place_other : (g : ℕ) → g ≢ f → place_of (slice_set places f (Some w)) g ≡ place_of places g
      place_other g ne = get_or-set_other places f g (Some w) None ne

      module _ (links' back' : List ℕ) (next : length links' ≡ length links) (prev : length back' ≡ length back) where
        joins : (before after : ℕ) (fs : List ℕ)
            → Inserts (slice_index links) (slice_index back) (slice_index links') (slice_index back') before f after
            → IsOn (head_of (length places) w) (list_of w seen_lists) before → IsOn (head_of (length places) w) (list_of w seen_lists) after
            → IsRing (slice_index links') (slice_index back') (place_of (slice_set places f (Some w))) w (head_of (length places) w) fs
            → length fs ≡ len_of w lens + 1
            → Shows links' back' (slice_set places f (Some w)) (with_len w (len_of w lens + 1) lens) (with_list w fs seen_lists)
        joins before after fs splices before_on after_on changed len =
            shows links' back' (slice_set places f (Some w)) (with_len w (len_of w lens + 1) lens) (with_list w fs seen_lists) (length places)
            (length-set places f (Some w)) (frames_same w fs seen_lists) whole.few (next ∙ whole.next) (prev ∙ whole.prev)
            (total_join w _ count_join)
            (λ v. elim (same_or v w) [
              | inl same ↦ subst (λ u. IsRing (slice_index links') (slice_index back') (place_of (slice_set places f (Some w))) u
                  (head_of (length places) u)
                  (list_of u (with_list w fs seen_lists))) (sym same)
                  (subst (IsRing (slice_index links') (slice_index back') (place_of (slice_set places f (Some w))) w (head_of (length places) w))
                  (sym (list_same w fs seen_lists)) changed)
              | inr ne ↦ subst (IsRing (slice_index links') (slice_index back') (place_of (slice_set places f (Some w))) v
                  (head_of (length places) v))
                  (sym (list_other v w fs seen_lists ne))
                  (IsRing-kept (slice_index links) (slice_index back) (slice_index links') (slice_index back') (place_of places)
                  (place_of (slice_set places f (Some w))) v (head_of (length places) v) (heads_none v) (list_of v seen_lists) (ring v)
                  (λ at on. splices.nexts at (apart v w ne at before on before_on) (off_ring f below free v at on))
                  (λ at on. splices.prevs at (apart v w ne at after on after_on) (off_ring f below free v at on))
                  (λ g was. place_other g (λ same. none-some v (sym free ∙ ap (place_of places) (sym same) ∙ was)) ∙ was)
                  (λ g now. elim (cases_eq g f) [
                    | inl same ↦ absurd (ne (sym (same_Some w v (sym place_here ∙ ap (place_of (slice_set places f (Some w))) (sym same) ∙ now))))
                    | inr differs ↦ sym (place_other g differs) ∙ now
                  ]))
            ])
            (λ v. elim (same_or v w) [
              | inl same ↦ subst (λ u. length (list_of u (with_list w fs seen_lists)) ≡ len_of u (with_len w (len_of w lens + 1) lens)) (sym same)
                  (ap length (list_same w fs seen_lists) ∙ len ∙ sym (len_same w _ lens))
              | inr ne ↦ ap length (list_other v w fs seen_lists ne) ∙ length-listed v ∙ sym (len_other v w _ lens ne)
            ])

        pub front : Inserts (slice_index links) (slice_index back) (slice_index links') (slice_index back') (head_of (length places) w) f
            (slice_index links (head_of (length places) w))
            → Shows links' back' (slice_set places f (Some w)) (with_len w (len_of w lens + 1) lens)
            (with_list w (f ∷ list_of w seen_lists) seen_lists)
        front splices = joins _ _ _ splices (inl refl) (first_on w)
            (IsRing-front (slice_index links) (slice_index back) (slice_index links') (slice_index back') (place_of places)
            (place_of (slice_set places f (Some w))) w (head_of (length places) w) (heads_none w) (list_of w seen_lists) f (ring w)
            (off_ring f below free w _ (inl refl)) free splices place_here place_other)
            (let len = length-listed w in omega (arith, len))

        pub push : Inserts (slice_index links) (slice_index back) (slice_index links') (slice_index back')
            (slice_index back (head_of (length places) w)) f
            (head_of (length places) w)
            → Shows links' back' (slice_set places f (Some w)) (with_len w (len_of w lens + 1) lens)
            (with_list w (list_of w seen_lists ++ f ∷ []) seen_lists)
        push splices = joins _ _ _ splices (last_on w) (inl refl)
            (IsRing-push (slice_index links) (slice_index back) (slice_index links') (slice_index back') (place_of places)
            (place_of (slice_set places f (Some w))) w (head_of (length places) w) (heads_none w) (list_of w seen_lists) f (ring w)
            (off_ring f below free w _ (inl refl)) free splices place_here place_other)
            (let len = length-listed w in omega (arith, len, length-append (list_of w seen_lists) (f ∷ [])))

    -- ---- a frame leaves

    module _ (w : Which) (f : ℕ) (was : place_of places f ≡ Some w) where
      below : f < length places
      below = placed_below f w was

      found : IsIn f (list_of w seen_lists)
      found = (ring w).listed f was

      pub before_on : IsOn (head_of (length places) w) (list_of w seen_lists) (slice_index back f)
      before_on = prev_on (slice_index links) (slice_index back) _ _ _ f (ring w).linked found

      pub after_on : IsOn (head_of (length places) w) (list_of w seen_lists) (slice_index links f)
      after_on = next_on (slice_index links) (slice_index back) _ _ _ f (ring w).linked found

      shorter : length (without f (list_of w seen_lists)) + 1 ≡ len_of w lens
      shorter = length-without f (list_of w seen_lists) (ring w).apart found ∙ length-listed w

      pub some : 0 < len_of w lens
      some = let h = shorter in omega (arith, h)

      absent : (v : Which) → v ≢ w → ¬ IsIn f (list_of v seen_lists)
      absent v ne there = ne (same_Some v w (sym ((ring v).placed f there) ∙ was))

      count_leave : count_by is_off (slice_set places f None) ≡ count_by is_off places + 1
      count_leave =
          let h = sum_by-set (λ o. cond (is_off o) 1 0) places f None None below in
          let h2 = subst (λ o. count_by is_off (slice_set places f None) + cond (is_off o) 1 0 ≡ count_by is_off places + 1) was h in
          omega (arith, h2)

      total_leave : (v : Which) (k : ℕ) → 0 < len_of v lens → k ≡ count_by is_off places + 1 →
          (with_len v (len_of v lens - 1) lens).active + (with_len v (len_of v lens - 1) lens).inactive + k ≡ length places
      total_leave Active k some h = let b = whole.total in omega (arith, b, h, some)
      total_leave Inactive k some h = let b = whole.total in omega (arith, b, h, some)

      place_none : place_of (slice_set places f None) f ≡ None
      place_none = get_or-set_same places f None None below

      place_rest : (g : ℕ) → g ≢ f → place_of (slice_set places f None) g ≡ place_of places g
      place_rest g ne = get_or-set_other places f g None None ne

      pub leaves : (links' back' : List ℕ) → length links' ≡ length links → length back' ≡ length back
          → Joins (slice_index links) (slice_index links') (slice_index back f) (slice_index links f)
          → Joins (slice_index back) (slice_index back') (slice_index links f) (slice_index back f)
          → Shows links' back' (slice_set places f None) (with_len w (len_of w lens - 1) lens) (without_frame f seen_lists)
      leaves links' back' next prev nexts prevs =
          shows links' back' (slice_set places f None) (with_len w (len_of w lens - 1) lens) (without_frame f seen_lists) (length places)
          (length-set places f None) refl whole.few (next ∙ whole.next) (prev ∙ whole.prev)
          (total_leave w _ some count_leave)
          (λ v. subst (IsRing (slice_index links') (slice_index back') (place_of (slice_set places f None)) v (head_of (length places) v))
          (sym (list_taken v f seen_lists))
          (elim (same_or v w) [
            | inl same ↦ subst (λ u. IsRing (slice_index links') (slice_index back') (place_of (slice_set places f None)) u
                (head_of (length places) u)
                (without f (list_of u seen_lists))) (sym same)
                (IsRing-skip (slice_index links) (slice_index back) (slice_index links') (slice_index back') (place_of places)
                (place_of (slice_set places f None)) w (head_of (length places) w) (heads_none w) (list_of w seen_lists) f
                (ring w) was nexts prevs place_none place_rest)
            | inr ne ↦ subst (IsRing (slice_index links') (slice_index back') (place_of (slice_set places f None)) v (head_of (length places) v))
                (sym (without_absent f (list_of v seen_lists) (absent v ne)))
                (IsRing-kept (slice_index links) (slice_index back) (slice_index links') (slice_index back') (place_of places)
                (place_of (slice_set places f None)) v (head_of (length places) v) (heads_none v) (list_of v seen_lists) (ring v)
                (λ at on. nexts.others at (apart v w ne at _ on before_on))
                (λ at on. prevs.others at (apart v w ne at _ on after_on))
                (λ g is. place_rest g (λ same. ne (same_Some v w (sym is ∙ ap (place_of places) same ∙ was))) ∙ is)
                (λ g now. elim (cases_eq g f) [
                  | inl same ↦ absurd (none-some v (sym place_none ∙ ap (place_of (slice_set places f None)) (sym same) ∙ now))
                  | inr differs ↦ sym (place_rest g differs) ∙ now
                ]))
          ]))
          (λ v. elim (same_or v w) [
            | inl same ↦ subst (λ u. length (list_of u (without_frame f seen_lists)) ≡ len_of u (with_len w (len_of w lens - 1) lens)) (sym same)
                (ap length (list_taken w f seen_lists) ∙ one_less _ _ shorter ∙ sym (len_same w _ lens))
            | inr ne ↦ ap length (list_taken v f seen_lists) ∙ ap length (without_absent f (list_of v seen_lists) (absent v ne)) ∙ length-listed v
                ∙ sym (len_other v w _ lens ne)
          ])
        where
          one_less : (a b : ℕ) → a + 1 ≡ b → a ≡ b - 1
          one_less a b h = omega arith

    -- a frame that is in no list leaves both as they are
    pub taken_free : (f : ℕ) → place_of places f ≡ None → without_frame f seen_lists ≡ seen_lists
    taken_free f free = λ k. record {
      frames = length places;
      active = without_absent f _ (absent Active) k;
      inactive = without_absent f _ (absent Inactive) k;
    }
      where
        absent : (v : Which) → ¬ IsIn f (list_of v seen_lists)
        absent v there = none-some v (sym free ∙ (ring v).placed f there)

    -- ---- a frame gives its place

    module _ (w : Which) (f t : ℕ) (was : place_of places f ≡ Some w) (below : t < length places) (free : place_of places t ≡ None) where
      abbrev now : List (Option Which)
      now = slice_set (slice_set places t (Some w)) f None

      differ : f ≢ t
      differ same = none-some w (sym free ∙ ap (place_of places) (sym same) ∙ was)

      from_below : f < length (slice_set places t (Some w))
      from_below = subst (λ n. f < n) (sym (length-set places t (Some w))) (placed_below f w was)

      place_left : place_of now f ≡ None
      place_left = get_or-set_same (slice_set places t (Some w)) f None None from_below

      place_new : place_of now t ≡ Some w
      place_new = get_or-set_other (slice_set places t (Some w)) f t None None (λ same. differ (sym same))
          ∙ get_or-set_same places t (Some w) None below

      place_others : (g : ℕ) → g ≢ f → g ≢ t → place_of now g ≡ place_of places g
      place_others g ne other = get_or-set_other (slice_set places t (Some w)) f g None None ne ∙ get_or-set_other places t g (Some w) None other

      same_count : count_by is_off now ≡ count_by is_off places
      same_count =
          let one = sum_by-set (λ o. cond (is_off o) 1 0) places t (Some w) None below in
          let first = subst (λ o. count_by is_off (slice_set places t (Some w)) + cond (is_off o) 1 0 ≡ count_by is_off places + 0) free one in
          let two = sum_by-set (λ o. cond (is_off o) 1 0) (slice_set places t (Some w)) f None None from_below in
          let second = subst (λ o. count_by is_off now + cond (is_off o) 1 0 ≡ count_by is_off (slice_set places t (Some w)) + 1)
          (get_or-set_other places t f (Some w) None differ ∙ was) two in
          omega (arith, first, second)

      pub renames : (links' back' : List ℕ) → length links' ≡ length links → length back' ≡ length back
          → Inserts (slice_index links) (slice_index back) (slice_index links') (slice_index back') (slice_index back f) t (slice_index links f)
          → Shows links' back' (slice_set (slice_set places t (Some w)) f None) lens (with_renamed f t seen_lists)
      renames links' back' next prev splices =
          shows links' back' now lens (with_renamed f t seen_lists) (length places)
          (length-set (slice_set places t (Some w)) f None ∙ length-set places t (Some w)) refl whole.few (next ∙ whole.next) (prev ∙ whole.prev)
          (ap (λ n. lens.active + lens.inactive + n) same_count ∙ whole.total)
          (λ v. subst (IsRing (slice_index links') (slice_index back') (place_of now) v (head_of (length places) v))
          (sym (list_renamed v f t seen_lists))
          (elim (same_or v w) [
            | inl same ↦ subst (λ u. IsRing (slice_index links') (slice_index back') (place_of now) u (head_of (length places) u)
                (map (renamed f t) (list_of u seen_lists))) (sym same)
                (IsRing-renamed f t (slice_index links) (slice_index back) (slice_index links') (slice_index back') (place_of places) (place_of now) w
                (head_of (length places) w) (heads_none w) (list_of w seen_lists) (ring w) (off_ring t below free w _ (inl refl)) was free splices
                place_left place_new place_others)
            | inr ne ↦
                let absent : ¬ IsIn f (list_of v seen_lists) = λ there. ne (same_Some v w (sym ((ring v).placed f there) ∙ was)) in
                subst (IsRing (slice_index links') (slice_index back') (place_of now) v (head_of (length places) v))
                (sym (map-absent f t (list_of v seen_lists) absent))
                (IsRing-kept (slice_index links) (slice_index back) (slice_index links') (slice_index back') (place_of places) (place_of now) v
                (head_of (length places) v) (heads_none v) (list_of v seen_lists) (ring v)
                (λ at on. splices.nexts at (apart v w ne at _ on (before_on w f was)) (off_ring t below free v at on))
                (λ at on. splices.prevs at (apart v w ne at _ on (after_on w f was)) (off_ring t below free v at on))
                (λ g is. place_others g (λ same. ne (same_Some v w (sym is ∙ ap (place_of places) same ∙ was)))
                (λ same. none-some v (sym free ∙ ap (place_of places) (sym same) ∙ is)) ∙ is)
                (λ g is. elim (cases_eq g f) [
                  | inl same ↦ absurd (none-some v (sym place_left ∙ ap (place_of now) (sym same) ∙ is))
                  | inr differs ↦ elim (cases_eq g t) [
                    | inl same ↦ absurd (ne (same_Some v w (sym is ∙ ap (place_of now) same ∙ place_new)))
                    | inr other ↦ sym (place_others g differs other) ∙ is
                  ]
                ]))
          ]))
          (λ v. ap length (list_renamed v f t seen_lists) ∙ length-renamed f t (list_of v seen_lists) ∙ length-listed v)

    -- a frame that is in no list has no place to give
    pub renamed_free : (f t : ℕ) → place_of places f ≡ None → with_renamed f t seen_lists ≡ seen_lists
    renamed_free f t free = λ k. record {
      frames = length places;
      active = map-absent f t _ (absent Active) k;
      inactive = map-absent f t _ (absent Inactive) k;
    }
      where
        absent : (v : Which) → ¬ IsIn f (list_of v seen_lists)
        absent v there = none-some v (sym free ∙ (ring v).placed f there)
