-- Where the pages of a mapping go, and what holds of the pages there.
use Rattle.std.proofs.Common.{◌≡◌, inl, inr, ℕ, ◌+◌, ◌≤◌, Bool, true, false, cond, not, ◌&&◌, [], ◌∷◌, ◌++◌, Option, Some, None, Result, Ok, Err, refl, sym, ap, subst, ◌∙◌, arith, nat_le, nat_lt}
use Rattle.std.proofs.lemmas.Bool.Decides.{nat_tests}
use Rattle.std.specs.Prelude.{MatchBool, MatchResult}
use Rattle.av_base.specs.Limits.{low_page, top_page}
use Rattle.av_vma.specs.Gap.{IsRoom, IsGap}
use Rattle.av_vmatree.specs.Spans.{IsFree, IsMet}
use Rattle.av_trace.specs.declared.reply.Errno.{Errno}
use Rattle.av_trace.specs.declared.reply.Errno.TheVariants.{Eperm, Enomem, Eexist, Einval}
use Rattle.av_trace.specs.declared.place.Place.{Place}
use Rattle.av_trace.specs.declared.place.Place.TheVariants.{Auto, At, Fixed, NoReplace}
use Rattle.av_plain.specs.World.{Process, is_mapped, meets}
use Rattle.av_base.specs.Page.{page_of, pages_of, address_of, is_on_page}
use Rattle.av_plain.specs.Refusal.{Tests, top, low, fixed_tests, refusal}
use Rattle.av_plain.specs.Place.{is_room}
use Rattle.av_plain.proofs.World.Ranges.{none-meets, some-meets, meets-none, room-is}
use Rattle.av_spaces.specs.Spaces.{Spaces, is_taken}
use Rattle.av_place.specs.Place.{IsProcess, IsPlaced, AreToUnmap}
use Rattle.std.specs.Int.{div_ceil}

-- ---- pages and addresses

pub page_back : (page : ℕ) → page_of (address_of page) ≡ page
page_back page = omega arith

-- a length rounded up to whole pages, as std rounds
pub rounded_up : (len : ℕ) → div_ceil len 4096 ≡ pages_of len
rounded_up len = omega arith

-- the gap rule looks at each page alone
gap_agrees : (f g : ℕ → Bool) (n : ℕ) (to : Option ℕ) → ((q : ℕ) → f q ≡ g q) → IsGap f n to → IsGap g n to
gap_agrees f g n to same h = subst (λ (t : ℕ → Bool). IsGap t n to) (λ i q. same q i) h

-- ---- tests in order

-- where they pass, the others decide
pub passed_first : (ts us : Tests) → refusal ts ≡ None → refusal (ts ++ us) ≡ refusal us
passed_first [] us is = refl
passed_first (t ∷ ts) us is = by t.0 is (passed_first ts us)
  where
    by : (b : Bool) → cond b (Some t.1) (refusal ts) ≡ None → (refusal ts ≡ None → refusal (ts ++ us) ≡ refusal us) →
        cond b (Some t.1) (refusal (ts ++ us)) ≡ refusal us
    by true is rest = cc
    by false is rest = rest is

-- and they passed, if all did
all_passed : (ts us : Tests) → refusal (ts ++ us) ≡ None → (refusal ts ≡ None) × (refusal us ≡ None)
all_passed [] us is = (refl, is)
all_passed (t ∷ ts) us is = by t.0 is (all_passed ts us)
  where
    by : (b : Bool) → cond b (Some t.1) (refusal (ts ++ us)) ≡ None → (refusal (ts ++ us) ≡ None → (refusal ts ≡ None) × (refusal us ≡ None)) →
        (cond b (Some t.1) (refusal ts) ≡ None) × (refusal us ≡ None)
    by true is rest = cc
    by false is rest = rest is

-- ---- room

module _ (s : Spaces) (p : ℕ) (q : Process) (same : IsProcess s p q) (n page : ℕ) where
  pub free_meets : IsFree (is_taken s p) page (page + n) → meets q page n ≡ false
  free_meets free = none-meets q page n (λ o low high. sym (same o) ∙ free o low high)

  pub met_meets : IsMet (is_taken s p) page (page + n) → meets q page n ≡ true
  met_meets met = some-meets q page n met.page (record { lowest = met.lowest; highest = met.highest; mapped = sym (same met.page) ∙ met.met })

  -- there is room where no page is taken, among pages that a process may have
  pub room_by : (b : Bool) → (nat_le low_page page && nat_le (page + n) top_page) ≡ true → (b ≡ true → IsFree (is_taken s p) page (page + n)) →
      (b ≡ false → IsMet (is_taken s p) page (page + n)) → b ≡ is_room q n page
  room_by b within free met = by (nat_le low_page page) (nat_le (page + n) top_page) within
      ∙ ap (λ c. nat_le low_page page && nat_le (page + n) top_page && not c) (sym (either b free met))
    where
      either : (b : Bool) → (b ≡ true → IsFree (is_taken s p) page (page + n)) → (b ≡ false → IsMet (is_taken s p) page (page + n))
          → meets q page n ≡ not b
      either true free met = free_meets (free refl)
      either false free met = met_meets (met refl)

      by : (x y : Bool) → (x && y) ≡ true → b ≡ (x && y && not (not b))
      by true true h = twice b
        where
          twice : (b : Bool) → b ≡ not (not b)
          twice true = refl
          twice false = refl
      by true false h = cc
      by false y h = cc

-- ---- the place

-- the pages are some that a process may have; at a place that isn't fixed they are free
pub record IsSuited (s : Spaces) (p n page : ℕ) (place : Place) : Type 0 where
  pub lowest : low_page ≤ page
  pub highest : page + n ≤ top_page
  pub clear : AreToUnmap (is_taken s p) page n place

module _ (s : Spaces) (p : ℕ) (q : Process) (same : IsProcess s p q) (n : ℕ) where
  -- an automatic place is the greatest gap
  abbrev pub Automatic : Result ℕ Errno → Type 0
  Automatic r = MatchResult r (λ page. IsGap (is_taken s p) n (Some page)) (λ error. IsGap (is_taken s p) n None × (error ≡ Enomem))

  gap_is : (to : Option ℕ) → IsGap (is_taken s p) n to → IsGap (is_mapped q) n to
  gap_is to = gap_agrees (is_taken s p) (is_mapped q) n to same

  pub placed_auto : (r : Result ℕ Errno) → Automatic r → IsPlaced q n Auto r
  placed_auto (Ok page) h = (refl, gap_is (Some page) h)
  placed_auto (Err error) h = inr (refl, gap_is None h.0, h.1)

  -- a hint
  pub placed_elsewhere : (a : ℕ) (r : Result ℕ Errno) → is_room q n (page_of a) ≡ false → Automatic r → IsPlaced q n (At a) r
  placed_elsewhere a (Ok page) none h = (
    refl,
    subst (λ b. MatchBool b (Some page ≡ Some (page_of a)) (IsGap (is_mapped q) n (Some page)))
        (sym none) (gap_is (Some page) h),
  )
  placed_elsewhere a (Err error) none h = inr (
    refl,
    subst (λ b. MatchBool b (None ≡ Some (page_of a)) (IsGap (is_mapped q) n None))
        (sym none) (gap_is None h.0),
    h.1,
  )

  -- an address that it has to have, and that nothing may stand at
  pub placed_taken : (a page : ℕ) → (refusal (fixed_tests n a) ≡ None) × (page ≡ page_of a) → IsMet (is_taken s p) page (page + n) →
      IsPlaced q n (NoReplace a) (Err Eexist)
  placed_taken a page h met = inl (
      passed_first (fixed_tests n a) ((meets q (page_of a) n, Eexist) ∷ []) h.0
      ∙ ap (λ b. cond b (Some Eexist) None) (ap (λ x. meets q x n) (sym h.1) ∙ met_meets s p q same n page met)
      )

  pub placed_free : (a page : ℕ) → (refusal (fixed_tests n a) ≡ None) × (page ≡ page_of a) → IsFree (is_taken s p) page (page + n) →
      IsPlaced q n (NoReplace a) (Ok page)
  placed_free a page h free = (
    passed_first (fixed_tests n a) ((meets q (page_of a) n, Eexist) ∷ []) h.0
        ∙ ap (λ b. cond b (Some Eexist) None) (ap (λ x. meets q x n) (sym h.1) ∙ free_meets s p q same n page free),
    ap Some h.1,
  )

  -- ---- what holds there

  room_free : (page : ℕ) → IsRoom (is_mapped q) n page → IsFree (is_taken s p) page (page + n)
  room_free page room o low high = same o ∙ room.free o low high

  -- the tests of an address passed
  fixed_is : (a page : ℕ) → refusal (fixed_tests n a) ≡ None → page ≡ page_of a → (low_page ≤ page) × (page + n ≤ top_page)
  fixed_is a page is e = by (nat_lt top (a + address_of n)) (is_on_page a) (nat_lt a low) refl refl refl is
    where
      by : (b c d : Bool) → nat_lt top (a + address_of n) ≡ b → is_on_page a ≡ c → nat_lt a low ≡ d →
          cond b (Some Enomem) (cond (not c) (Some Einval) (cond d (Some Eperm) None)) ≡ None
          → (low_page ≤ page) × (page + n ≤ top_page)
      by true c d t o u is = cc
      by false false d t o u is = cc
      by false true true t o u is = cc
      by false true false t o u is =
          let most : a + address_of n ≤ top = grind (arith, nat_tests, t) in
          let least : low ≤ a = grind (arith, nat_tests, u) in
          (omega (arith, least, e), omega (arith, most, e))

  pub suited : (page : ℕ) (place : Place) → IsPlaced q n place (Ok page) → IsSuited s p n page place
  suited page Auto h = record { lowest = h.1.0.lowest; highest = h.1.0.highest; clear = room_free page h.1.0 }
  suited page (At a) h = by (is_room q n (page_of a)) refl h.1
    where
      by : (b : Bool) → is_room q n (page_of a) ≡ b → MatchBool b (Some page ≡ Some (page_of a)) (IsGap (is_mapped q) n (Some page)) →
          IsSuited s p n page (At a)
      by true e is =
          let there : page ≡ page_of a = cc in
          let room = subst (IsRoom (is_mapped q) n) (sym there) (room-is q n (page_of a) e) in
          record { lowest = room.lowest; highest = room.highest; clear = room_free page room }
      by false e gap = record { lowest = gap.0.lowest; highest = gap.0.highest; clear = room_free page gap.0 }
  suited page (Fixed a) h =
      let there : page ≡ page_of a = (let is = h.1 in cc) in
      let ends = fixed_is a page h.0 there in
      record { lowest = ends.0; highest = ends.1; clear = there }
  suited page (NoReplace a) h =
      let there : page ≡ page_of a = (let is = h.1 in cc) in
      let passed = all_passed (fixed_tests n a) ((meets q (page_of a) n, Eexist) ∷ []) h.0 in
      let ends = fixed_is a page passed.0 there in
      record {
        lowest = ends.0;
        highest = ends.1;
        clear = λ o low high. same o ∙ meets-none q page n o
            (ap (λ x. meets q x n) there ∙ none (meets q (page_of a) n) passed.1) low high;
      }
    where
      none : (b : Bool) → cond b (Some Eexist) None ≡ None → b ≡ false
      none true is = cc
      none false is = refl
