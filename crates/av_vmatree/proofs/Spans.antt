-- Lists of spans of which no two meet.
use Rattle.std.proofs.Common.{◌≡◌, ℕ, ◌+◌, ◌-◌, ◌^◌, ◌<◌, ◌≤◌, max, ◌⊎◌, inl, inr, Bool, true, false, cond, ◌&&◌, eqb, ltb, leb, Option, Some, None, is_some, IfSome, IsSome, IsSomeAnd, Result, Ok, Err, is_ok, OnOk, List, [], ◌∷◌, ◌++◌, length, refl, sym, ap, subst, ◌∙◌, arith}
use Rattle.std.specs.Option.{option_or}
use Rattle.std.proofs.lemmas.List.{length-append}
use Rattle.std.proofs.lemmas.Bool.{leb-true, ltb-true, ltb-false, le-leb, lt-leb, lt-ltb, le-ltb, eq-eqb, ne_eqb, eqb-true, eqb-false, both_ways, cases_lt, and_parts, cond-false}
use Rattle.av_base.specs.Limits.{low_page, top_page}
use Rattle.av_base.specs.Words.{with_at}
use Rattle.av_arena.specs.Order.{entry_at, with_entry, without_key}
use Rattle.std.specs.List.{AllByRecursion}
use Rattle.av_vmatree.specs.declared.span.Span.{Span}
use Rattle.av_vmatree.specs.Spans.{start_of, holds, area_after, area_at, area_before, first_from, last_below, is_page_taken, span_of, with_span, unless_area, without_area, IsFree, AreApart, AreDistinct, AreSpans}

-- no span meets the n pages from p on
abbrev pub AreClear : List Span → ℕ → ℕ → Type 0
AreClear xs p n = AllByRecursion (λ a. (a.to ≤ p) ⊎ (p + n ≤ a.from)) xs

-- the spans lie in [lo, hi)
abbrev pub IsWithin : ℕ → ℕ → List Span → Type 0
IsWithin lo hi = AllByRecursion (λ a. (lo ≤ a.from) × (a.to ≤ hi))

pub holds_below : (s : Span) (p : ℕ) → p < s.from → holds s p ≡ false
holds_below s p h = rw (lt-leb s.from p h) refl

pub holds_above : (s : Span) (p : ℕ) → s.to ≤ p → holds s p ≡ false
holds_above s p h =
    elim (leb s.from p) as (λ v. leb s.from p ≡ v → (v && ltb p (s.from + (s.to - s.from))) ≡ false) [
      | true ↦ λ e. let k : s.from ≤ p = leb-true _ _ e in le-ltb p (s.from + (s.to - s.from)) (omega arith)
      | false ↦ λ e. refl
    ] refl

pub holds_here : (s : Span) (p : ℕ) → s.from ≤ p → p < s.to → holds s p ≡ true
holds_here s p h k = rw (le-leb s.from p h, lt-ltb p (s.from + (s.to - s.from)) (omega arith)) refl

some_free : (b : Bool) (a : ℕ) (x : Option ℕ) → is_some (cond b (Some a) x) ≡ false → is_some x ≡ false
some_free true a x e = cc
some_free false a x e = e

tail_free : (s : Span) (xs : List Span) (f t : ℕ) → IsFree (is_page_taken (s ∷ xs)) f t → IsFree (is_page_taken xs) f t
tail_free s xs f t free = λ page low high. some_free (holds s page) s.area (area_at xs page) (free page low high)

head_clear : (s : Span) (xs : List Span) (p n : ℕ) → 1 ≤ n → s.from < s.to → IsFree (is_page_taken (s ∷ xs)) p (p + n) → (s.to ≤ p) ⊎ (p + n ≤ s.from)
head_clear s xs p n one some free = elim (cases_lt p s.to) [
  | inr past ↦ inl past
  | inl not_past ↦ elim (cases_lt s.from (p + n)) [
    | inr before ↦ inr before
    | inl not_before ↦
        let page = max p s.from in
        let here : holds s page ≡ true = holds_here s page (omega arith) (omega arith) in
        let met : is_page_taken (s ∷ xs) page ≡ true = rw here refl in
        absurd (both_ways _ (free page (omega arith) (omega arith)) met)
  ]
]

-- pages that are not taken are of no span
pub clear_from_free : (p n : ℕ) (xs : List Span) → 1 ≤ n → AreApart xs → IsFree (is_page_taken xs) p (p + n) → AreClear xs p n
clear_from_free p n [] one apart free = tt
clear_from_free p n (s ∷ xs) one apart free =
    (head_clear s xs p n one apart.0 free, clear_from_free p n xs one apart.2 (tail_free s xs p (p + n) free))

-- pages of no span are not taken
pub free_from_clear : (p n : ℕ) (xs : List Span) → AreClear xs p n → IsFree (is_page_taken xs) p (p + n)
free_from_clear p n [] clear = λ page low high. refl
free_from_clear p n (s ∷ xs) clear = λ page low high.
    let out : holds s page ≡ false = elim clear.0 [ inl past ↦ holds_above s page (omega arith) | inr before ↦ holds_below s page (omega arith) ] in
    rw out (free_from_clear p n xs clear.1 page low high)

pub wide_at : (l : List Span) (a : Span) (r : List Span) → AreApart (l ++ a ∷ r) → a.from < a.to
wide_at [] a r s = s.0
wide_at (c ∷ l) a r s = wide_at l a r s.2

later_low : (hi : ℕ) (a : Span) (xs : List Span) (lo : ℕ) → AllByRecursion (λ b. a.to ≤ b.from) xs → IsWithin lo hi xs → IsWithin a.to hi xs
later_low hi a [] lo s w = tt
later_low hi a (b ∷ xs) lo s w = ((s.0, w.0.1), later_low hi a xs lo s.1 w.1)

-- there are no more areas than pages
pub count-le : (lo hi : ℕ) (xs : List Span) → lo ≤ hi → AreApart xs → IsWithin lo hi xs → length xs + lo ≤ hi
count-le lo hi [] o s w = omega arith
count-le lo hi (a ∷ xs) o s w =
    let some = s.0 in
    let here = w.0 in
    let rest = count-le a.to hi xs here.1 s.2 (later_low hi a xs lo s.1 w.1) in
    omega (arith, some, here.0, rest)

all_with : (P : Span → Type 0) (a : Span) (xs : List Span) → P a → AllByRecursion P xs → AllByRecursion P (with_entry start_of a xs)
all_with P a [] p s = (p, tt)
all_with P a (b ∷ xs) p s =
    elim (ltb a.from b.from) as (λ v. AllByRecursion P (cond v (a ∷ b ∷ xs) (b ∷ cond (ltb b.from a.from) (with_entry start_of a xs) xs))) [
      | true ↦ (p, s)
      | false ↦ (
        s.0,
        elim (ltb b.from a.from) as (λ v. AllByRecursion P (cond v (with_entry start_of a xs) xs))
            [ true ↦ all_with P a xs p s.1 | false ↦ s.1 ],
      )
    ]

pub within_with : (lo hi : ℕ) (a : Span) (xs : List Span) → lo ≤ a.from → a.to ≤ hi → IsWithin lo hi xs → IsWithin lo hi (with_entry start_of a xs)
within_with lo hi a xs p q w = all_with (λ b. (lo ≤ b.from) × (b.to ≤ hi)) a xs (p, q) w

-- an area on free pages before one is before all later ones
later_all : (a b : Span) (xs : List Span) → a.to ≤ b.from → b.from < b.to → AllByRecursion (λ c. b.to ≤ c.from) xs
    → AllByRecursion (λ c. a.to ≤ c.from) xs
later_all a b [] p some s = tt
later_all a b (c ∷ xs) p some s = let h = s.0 in (omega (arith, p, some, h), later_all a b xs p some s.1)

pub apart_with : (a : Span) (xs : List Span) → a.from < a.to → AreApart xs → AreClear xs a.from (a.to - a.from) → AreApart (with_entry start_of a xs)
apart_with a [] some s f = (some, tt, tt)
apart_with a (b ∷ xs) some s f =
    elim (ltb a.from b.from) as
    (λ v. ltb a.from b.from ≡ v → AreApart (cond v (a ∷ b ∷ xs) (b ∷ cond (ltb b.from a.from) (with_entry start_of a xs) xs))) [
      | true ↦ λ e. let less : a.from < b.from = ltb-true _ _ e in let wide : b.from < b.to = s.0 in
          let before : a.to ≤ b.from = elim f.0 [ inl h ↦ omega arith | inr h ↦ omega arith ] in
          (some, (before, later_all a b xs before s.0 s.1), s)
      | false ↦ λ e. let more : b.from ≤ a.from = ltb-false _ _ e in let wide : b.from < b.to = s.0 in
          let past : b.to ≤ a.from = elim f.0 [ inl h ↦ h | inr h ↦ omega arith ] in
          let less : b.from < a.from = omega arith in
          rw (lt-ltb b.from a.from less) (s.0, all_with (λ c. b.to ≤ c.from) a xs past s.1, apart_with a xs some s.2 f.1)
    ] refl

all_without : (P : Span → Type 0) (k : ℕ) (xs : List Span) → AllByRecursion P xs → AllByRecursion P (without_key start_of k xs)
all_without P k [] s = tt
all_without P k (b ∷ xs) s = elim (eqb b.from k) as (λ v. AllByRecursion P (cond v xs (b ∷ without_key start_of k xs))) [
  | true ↦ s.1
  | false ↦ (s.0, all_without P k xs s.1)
]

pub within_without : (lo hi k : ℕ) (xs : List Span) → IsWithin lo hi xs → IsWithin lo hi (without_key start_of k xs)
within_without lo hi k xs w = all_without (λ b. (lo ≤ b.from) × (b.to ≤ hi)) k xs w

pub apart_without : (k : ℕ) (xs : List Span) → AreApart xs → AreApart (without_key start_of k xs)
apart_without k [] s = tt
apart_without k (b ∷ xs) s = elim (eqb b.from k) as (λ v. AreApart (cond v xs (b ∷ without_key start_of k xs))) [
  | true ↦ s.2
  | false ↦ (s.0, all_without (λ c. b.to ≤ c.from) k xs s.1, apart_without k xs s.2)
]

-- a page below the end of a span is in none after it
none_later : (p : ℕ) (a : Span) (xs : List Span) → p < a.to → AllByRecursion (λ b. a.to ≤ b.from) xs → area_at xs p ≡ None
none_later p a [] h s = refl
none_later p a (b ∷ xs) h s = let k = s.0 in rw (holds_below b p (omega (arith, k, h))) (none_later p a xs h s.1)

pub at_left : (p : ℕ) (d l : List Span) (a : Span) (r : List Span) → d ≡ l ++ a ∷ r → AreApart d → p < a.from → area_at l p ≡ area_at d p
at_left p d l a r is s h = rw is (go l (rw is at s))
  where
    go : (l : List Span) → AreApart (l ++ a ∷ r) → area_at l p ≡ area_at (l ++ a ∷ r) p
    go [] s = let wide = s.0 in rw (holds_below a p h) (sym (none_later p a r (omega (arith, wide, h)) s.1))
    go (b ∷ l) s = ap (cond (holds b p) (Some b.area)) (go l s.2)

middle_after : (b : Span) (l : List Span) (a : Span) (r : List Span) → AllByRecursion (λ c. b.to ≤ c.from) (l ++ a ∷ r) → b.to ≤ a.from
middle_after b [] a r s = s.0
middle_after b (c ∷ l) a r s = middle_after b l a r s.1

skip : (p : ℕ) (b : Span) (xs : List Span) → b.to ≤ p → area_at (b ∷ xs) p ≡ area_at xs p
skip p b xs h = rw (holds_above b p h) refl

pub at_right : (p : ℕ) (d l : List Span) (a : Span) (r : List Span) → d ≡ l ++ a ∷ r → AreApart d → a.to ≤ p → area_at r p ≡ area_at d p
at_right p d l a r is s h = rw is (go l (rw is at s))
  where
    go : (l : List Span) → AreApart (l ++ a ∷ r) → area_at r p ≡ area_at (l ++ a ∷ r) p
    go [] s = sym (skip p a r h)
    go (b ∷ l) s = let k = middle_after b l a r s.1 in let wide = wide_at l a r s.2 in go l s.2
        ∙ sym (skip p b (l ++ a ∷ r) (omega (arith, k, wide, h)))

pub at_here : (p : ℕ) (d l : List Span) (a : Span) (r : List Span) → d ≡ l ++ a ∷ r → AreApart d → a.from ≤ p → p < a.to → Some a.area ≡ area_at d p
at_here p d l a r is s h k = rw is (go l (rw is at s))
  where
    go : (l : List Span) → AreApart (l ++ a ∷ r) → Some a.area ≡ area_at (l ++ a ∷ r) p
    go [] s = rw (holds_here a p h k) refl
    go (b ∷ l) s = let m = middle_after b l a r s.1 in go l s.2 ∙ sym (skip p b (l ++ a ∷ r) (omega (arith, m, h)))

-- the area that is found is one whose span holds the page
within_some : (o : Option ℕ) (P Q : ℕ → Type 0) → ((n : ℕ) → P n → Q n) → IfSome o P → IfSome o Q
within_some None P Q f p = p
within_some (Some n) P Q f p = f n p

pub held : (xs : List Span) (p : ℕ) → AreDistinct xs → IfSome (area_at xs p) (λ n. IsSomeAnd (span_of xs n) (λ s. holds s p ≡ true))
held [] p d = tt
held (b ∷ xs) p d =
    elim (holds b p) as (λ v. holds b p ≡ v → IfSome (cond v (Some b.area) (area_at xs p))
    (λ n. IsSomeAnd (cond (eqb n b.area) (Some b) (span_of xs n)) (λ s. holds s p ≡ true))) [
      | true ↦ λ e. rw (eq-eqb b.area b.area refl) e
      | false ↦ λ e. within_some (area_at xs p) _ _ later (held xs p d.1)
    ] refl
  where
    later : (n : ℕ) → IsSomeAnd (span_of xs n) (λ s. holds s p ≡ true)
        → IsSomeAnd (cond (eqb n b.area) (Some b) (span_of xs n)) (λ s. holds s p ≡ true)
    later n h = elim (eqb n b.area) as (λ v. eqb n b.area ≡ v → IsSomeAnd (cond v (Some b) (span_of xs n)) (λ s. holds s p ≡ true)) [
      | true ↦ λ e. absurd (subst (λ o. IsSomeAnd o (λ s. holds s p ≡ true)) (ap (span_of xs) (eqb-true _ _ e) ∙ d.0) h)
      | false ↦ λ e. h
    ] refl

-- two tests of which one at most passes may be asked in either order
swap_tests : {X : Type 0} (a b : Bool) (x y z : X) → (b ≡ true → a ≡ false) → cond a x (cond b y z) ≡ cond b y (cond a x z)
swap_tests true true x y z not = let e = not refl in cc
swap_tests true false x y z not = refl
swap_tests false b x y z not = refl

-- a span on free pages is after those that begin at or below it
past : (a b : Span) → b.from < b.to → a.from < a.to → (b.to ≤ a.from) ⊎ (a.from + (a.to - a.from) ≤ b.from) → ltb a.from b.from ≡ false
    → b.to ≤ a.from
past a b wide some clear e = let more : b.from ≤ a.from = ltb-false _ _ e in elim clear [ inl h ↦ h | inr h ↦ absurd (omega arith) ]

other_here : (a b : Span) (xs : List Span) → span_of (b ∷ xs) a.area ≡ None → a.area ≡ b.area → ⊥
other_here a b xs new same = let e : span_of (b ∷ xs) a.area ≡ Some b = rw (eq-eqb a.area b.area same) refl in cc

other_later : (a b : Span) (xs : List Span) → span_of (b ∷ xs) a.area ≡ None → span_of xs a.area ≡ None
other_later a b xs new = sym (cond-false (eqb a.area b.area) (Some b) (span_of xs a.area) (ne_eqb _ _ (other_here a b xs new))) ∙ new

-- the pages and the numbers with one span more
pub at_with : (a : Span) (xs : List Span) (p : ℕ) → a.from < a.to → AreApart xs → AreClear xs a.from (a.to - a.from) →
    area_at (with_span a xs) p ≡ cond (holds a p) (Some a.area) (area_at xs p)
at_with a [] p some s f = refl
at_with a (b ∷ xs) p some s f =
    elim (ltb a.from b.from) as
    (λ v. ltb a.from b.from ≡ v → area_at (cond v (a ∷ b ∷ xs) (b ∷ cond (ltb b.from a.from) (with_span a xs) xs)) p ≡ cond
    (holds a p) (Some a.area) (area_at (b ∷ xs) p)) [
      | true ↦ λ e. refl
      | false ↦ λ e.
          let after : b.to ≤ a.from = past a b s.0 some f.0 e in
          let wide : b.from < b.to = s.0 in
          let less : b.from < a.from = omega arith in
          rw (lt-ltb b.from a.from less, at_with a xs p some s.2 f.1) (swap_tests (holds b p) (holds a p) _ _ _
          (λ h. holds_above b p (let low : a.from ≤ p = leb-true _ _ (and_parts _ _ h).0 in omega arith)))
    ] refl

pub span_with : (a : Span) (xs : List Span) (n : ℕ) → a.from < a.to → AreApart xs → AreClear xs a.from (a.to - a.from) → span_of xs a.area ≡ None →
    span_of (with_span a xs) n ≡ with_at a.area (Some a) (span_of xs) n
span_with a [] n some s f new = refl
span_with a (b ∷ xs) n some s f new =
    elim (ltb a.from b.from) as
    (λ v. ltb a.from b.from ≡ v → span_of (cond v (a ∷ b ∷ xs) (b ∷ cond (ltb b.from a.from) (with_span a xs) xs)) n ≡ with_at
    a.area (Some a) (span_of (b ∷ xs)) n) [
      | true ↦ λ e. refl
      | false ↦ λ e.
          let after : b.to ≤ a.from = past a b s.0 some f.0 e in
          let wide : b.from < b.to = s.0 in
          let less : b.from < a.from = omega arith in
          rw (lt-ltb b.from a.from less, span_with a xs n some s.2 f.1 (other_later a b xs new))
          (swap_tests (eqb n b.area) (eqb n a.area) _ _ _ (λ h. ne_eqb n b.area (λ same. other_here a b xs new (sym (eqb-true _ _ h) ∙ same))))
    ] refl

pub distinct_with : (a : Span) (xs : List Span) → a.from < a.to → AreApart xs → AreClear xs a.from (a.to - a.from) → span_of xs a.area ≡ None →
    AreDistinct xs → AreDistinct (with_span a xs)
distinct_with a [] some s f new d = (refl, tt)
distinct_with a (b ∷ xs) some s f new d =
    elim (ltb a.from b.from) as (λ v. ltb a.from b.from ≡ v → AreDistinct (cond v (a ∷ b ∷ xs) (b ∷ cond (ltb b.from a.from) (with_span a xs) xs))) [
      | true ↦ λ e. (new, d)
      | false ↦ λ e.
          let after : b.to ≤ a.from = past a b s.0 some f.0 e in
          let wide : b.from < b.to = s.0 in
          let less : b.from < a.from = omega arith in
          let later = other_later a b xs new in
          rw (lt-ltb b.from a.from less) (
            span_with a xs b.area some s.2 f.1 later ∙ cond-false (eqb b.area a.area) (Some a) (span_of xs b.area)
                (ne_eqb _ _ (λ same. other_here a b xs new (sym same))) ∙ d.0,
            distinct_with a xs some s.2 f.1 later d.1,
          )
    ] refl

-- what an insertion of a span leaves
pub record IsInserted (a : Span) (xs new : List Span) : Type 0 where
  pub good : AreSpans new
  pub areas : (n : ℕ) → span_of new n ≡ with_at a.area (Some a) (span_of xs) n
  pub pages : (p : ℕ) → area_at new p ≡ cond (holds a p) (Some a.area) (area_at xs p)

pub inserted : (a : Span) (xs : List Span) → AreSpans xs → a.from < a.to → low_page ≤ a.from → a.to ≤ top_page
    → IsFree (is_page_taken xs) a.from a.to →
    span_of xs a.area ≡ None → IsInserted a xs (with_span a xs)
inserted a xs good some low high free new =
    let clear : AreClear xs a.from (a.to - a.from) = clear_from_free a.from (a.to - a.from) xs (omega arith) good.apart
    (λ page least most. free page least (omega arith)) in
    record {
      good = record {
        apart = apart_with a xs some good.apart clear;
        within = within_with low_page top_page a xs low high good.within;
        distinct = distinct_with a xs some good.apart clear new good.distinct;
      };
      areas = λ n. span_with a xs n some good.apart clear new;
      pages = λ p. at_with a xs p some good.apart clear;
    }

pub room_more : (xs : List Span) → AreSpans xs → length xs + 1 < 2 ^ 63
room_more xs g = let h = count-le 16 34359738367 xs (omega arith) g.apart g.within in omega (arith, h)

-- each side of a span in a row is shorter than the row
pub left_shorter : (d l : List Span) (a : Span) (r : List Span) → d ≡ l ++ a ∷ r → length l < length d
left_shorter d l a r is = let n : length d ≡ length l + length (a ∷ r) = ap length is ∙ length-append l (a ∷ r) in omega arith

pub right_shorter : (d l : List Span) (a : Span) (r : List Span) → d ≡ l ++ a ∷ r → length r < length d
right_shorter d l a r is = let n : length d ≡ length l + length (a ∷ r) = ap length is ∙ length-append l (a ∷ r) in omega arith

-- nothing in place of what is not there changes nothing
pub or_nothing : (o : Option Span) → option_or o None ≡ o
or_nothing None = refl
or_nothing (Some s) = refl

pub or_none : (o : Option ℕ) → option_or o None ≡ o
or_none None = refl
or_none (Some n) = refl

pub apart_left : (l : List Span) (a : Span) (r : List Span) → AreApart (l ++ a ∷ r) → AreApart l
apart_left [] a r s = tt
apart_left (b ∷ l) a r s = (s.0, all_front b l (a ∷ r) s.1, apart_left l a r s.2)
  where
    all_front : (b : Span) (l m : List Span) → AllByRecursion (λ c. b.to ≤ c.from) (l ++ m) → AllByRecursion (λ c. b.to ≤ c.from) l
    all_front b [] m s = tt
    all_front b (c ∷ l) m s = (s.0, all_front b l m s.1)

apart_tail : (l m : List Span) → AreApart (l ++ m) → AreApart m
apart_tail [] m s = s
apart_tail (b ∷ l) m s = apart_tail l m s.2

pub apart_right : (l : List Span) (a : Span) (r : List Span) → AreApart (l ++ a ∷ r) → AreApart r
apart_right [] a r s = s.2
apart_right (b ∷ l) a r s = apart_right l a r s.2

pub inserted_span : (a : Span) (d xs new : List Span) → d ≡ xs → new ≡ with_span a d → AreSpans d → a.from < a.to → low_page ≤ a.from
    → a.to ≤ top_page →
    IsFree (is_page_taken xs) a.from a.to → span_of xs a.area ≡ None → IsInserted a xs new
inserted_span a d xs new is e good some low high free other =
    subst (IsInserted a xs) (sym (e ∙ ap (with_span a) is)) (inserted a xs (subst AreSpans is good) some low high free other)

-- what an insertion leaves that can lack memory
pub inserted_if : {E : Type 0} (r : Result Unit E) (a : Span) (d xs new : List Span) → d ≡ xs → new ≡ cond (is_ok r) (with_span a d) d → AreSpans d →
    a.from < a.to → low_page ≤ a.from → a.to ≤ top_page → IsFree (is_page_taken xs) a.from a.to → span_of xs a.area ≡ None →
    OnOk r (IsInserted a xs new) × AreSpans new
inserted_if (Ok _) a d xs new is e good some low high free other = let h = inserted_span a d xs new is e good some low high free other in (h, h.good)
inserted_if (Err _) a d xs new is e good some low high free other = (tt, subst AreSpans (sym e) good)

none_either : (v : Bool) (x : Option Span) → x ≡ None → x ≡ cond v None x
none_either true x e = e
none_either false x e = refl

-- the spans with one less
pub span_without : (n : ℕ) (xs : List Span) (k : ℕ) → AreDistinct xs → span_of (without_area n xs) k ≡ with_at n None (span_of xs) k
span_without n [] k d = none_either (eqb k n) None refl
span_without n (b ∷ xs) k d =
    elim (eqb b.area n) as (λ v. eqb b.area n ≡ v → span_of (cond v xs (b ∷ without_area n xs)) k ≡ with_at n None (span_of (b ∷ xs)) k) [
      | true ↦ λ e.
          let same : b.area ≡ n = eqb-true _ _ e in
          elim (eqb k n) as (λ v. eqb k n ≡ v → span_of xs k ≡ cond v None (cond (eqb k b.area) (Some b) (span_of xs k))) [
            | true ↦ λ h. ap (span_of xs) (eqb-true k n h ∙ sym same) ∙ d.0
            | false ↦ λ h. rw (same, h) refl
          ] refl
      | false ↦ λ e. rw (span_without n xs k d.1) (swap_tests (eqb k b.area) (eqb k n) (Some b) None (span_of xs k)
          (λ h. ne_eqb k b.area (λ same. eqb-false b.area n e (sym same ∙ eqb-true k n h))))
    ] refl

distinct_without : (n : ℕ) (xs : List Span) → AreDistinct xs → AreDistinct (without_area n xs)
distinct_without n [] d = tt
distinct_without n (b ∷ xs) d =
    elim (eqb b.area n) as (λ v. eqb b.area n ≡ v → AreDistinct (cond v xs (b ∷ without_area n xs))) [
      | true ↦ λ e. d.1
      | false ↦ λ e. (rw (span_without n xs b.area d.1, e) d.0, distinct_without n xs d.1)
    ] refl

-- an area that is not there is at no page
unless_none : (n : ℕ) (xs : List Span) (p : ℕ) → span_of xs n ≡ None → area_at xs p ≡ unless_area n (area_at xs p)
unless_none n [] p none = refl
unless_none n (b ∷ xs) p none =
    elim (eqb n b.area) as (λ v. eqb n b.area ≡ v → cond v (Some b) (span_of xs n) ≡ None → area_at (b ∷ xs) p ≡ unless_area n (area_at (b ∷ xs) p)) [
      | true ↦ λ e no. cc
      | false ↦ λ e no. elim (holds b p) as (λ v. cond v (Some b.area) (area_at xs p) ≡ unless_area n (cond v (Some b.area) (area_at xs p))) [
        | true ↦ rw (ne_eqb b.area n (λ same. eqb-false n b.area e (sym same))) refl
        | false ↦ unless_none n xs p no
      ]
    ] refl none

at_without : (n : ℕ) (xs : List Span) (p : ℕ) → AreApart xs → AreDistinct xs → area_at (without_area n xs) p ≡ unless_area n (area_at xs p)
at_without n [] p s d = refl
at_without n (b ∷ xs) p s d =
    elim (eqb b.area n) as (λ v. eqb b.area n ≡ v → area_at (cond v xs (b ∷ without_area n xs)) p ≡ unless_area n (area_at (b ∷ xs) p)) [
      | true ↦ λ e. elim (holds b p) as (λ v. holds b p ≡ v → area_at xs p ≡ unless_area n (cond v (Some b.area) (area_at xs p))) [
        | true ↦ λ h. rw e (none_later p b xs (let high : p < b.from + (b.to - b.from) =
            ltb-true p (b.from + (b.to - b.from)) (and_parts (leb b.from p) (ltb p (b.from + (b.to - b.from))) h).1 in
            let wide : b.from < b.to = s.0 in omega arith) s.1)
        | false ↦ λ h. unless_none n xs p (ap (span_of xs) (sym (eqb-true b.area n e)) ∙ d.0)
      ] refl
      | false ↦ λ e. elim (holds b p) as
          (λ v. cond v (Some b.area) (area_at (without_area n xs) p) ≡ unless_area n (cond v (Some b.area) (area_at xs p))) [
            | true ↦ rw e refl
            | false ↦ at_without n xs p s.2 d.1
          ]
    ] refl

pub all_found : (P : Span → Type 0) (n : ℕ) (xs : List Span) (a : Span) → AllByRecursion P xs → span_of xs n ≡ Some a → P a
all_found P n [] a all found = cc
all_found P n (b ∷ xs) a all found =
    elim (eqb n b.area) as (λ v. cond v (Some b) (span_of xs n) ≡ Some a → P a) [
      | true ↦ λ e. let same : b ≡ a = cc in subst P same all.0
      | false ↦ λ e. all_found P n xs a all.1 e
    ] found

-- a span is taken out by its start as by its area
without_start : (n : ℕ) (xs : List Span) (a : Span) → AreApart xs → span_of xs n ≡ Some a → without_key start_of a.from xs ≡ without_area n xs
without_start n [] a s found = refl
without_start n (b ∷ xs) a s found =
    elim (eqb n b.area) as
    (λ v. eqb n b.area ≡ v → cond v (Some b) (span_of xs n) ≡ Some a → without_key start_of a.from (b ∷ xs) ≡ without_area n (b ∷ xs)) [
      | true ↦ λ e found. let same : b ≡ a = cc in rw (eq-eqb b.from a.from (ap start_of same), eq-eqb b.area n (sym (eqb-true n b.area e))) refl
      | false ↦ λ e found.
          let later : b.to ≤ a.from = all_found (λ t. b.to ≤ t.from) n xs a s.1 found in
          let wide : b.from < b.to = s.0 in
          rw (ne_eqb b.from a.from (λ same. omega arith), ne_eqb b.area n (λ same. eqb-false n b.area e (sym same)))
          (ap (λ t. b ∷ t) (without_start n xs a s.2 found))
    ] refl found

-- what the removal of an area leaves
pub record IsRemoved (n : ℕ) (xs new : List Span) : Type 0 where
  pub good : AreSpans new
  pub spans : new ≡ without_area n xs
  pub areas : (k : ℕ) → span_of new k ≡ with_at n None (span_of xs) k
  pub pages : (p : ℕ) → area_at new p ≡ unless_area n (area_at xs p)

removed_span : (n : ℕ) (a : Span) (xs : List Span) → AreSpans xs → span_of xs n ≡ Some a → IsRemoved n xs (without_key start_of a.from xs)
removed_span n a xs good found =
    let same = without_start n xs a good.apart found in
    record {
      good = record {
        apart = apart_without a.from xs good.apart;
        within = within_without low_page top_page a.from xs good.within;
        distinct = subst AreDistinct (sym same) (distinct_without n xs good.distinct);
      };
      spans = same;
      areas = λ k. ap (λ t. span_of t k) same ∙ span_without n xs k good.distinct;
      pages = λ p. ap (λ t. area_at t p) same ∙ at_without n xs p good.apart good.distinct;
    }

removed_found : (n first : ℕ) (found : Option Span) (xs : List Span) → AreSpans xs → span_of xs n ≡ found → IsSomeAnd found (λ a. a.from ≡ first) →
    IsRemoved n xs (without_key start_of first xs)
removed_found n first None xs good is there = absurd there
removed_found n first (Some a) xs good is there = subst (λ k. IsRemoved n xs (without_key start_of k xs)) there (removed_span n a xs good is)

pub removed_here : (n first : ℕ) (xs : List Span) → AreSpans xs → IsSomeAnd (span_of xs n) (λ a. a.from ≡ first) →
    IsRemoved n xs (without_key start_of first xs)
removed_here n first xs good there = removed_found n first (span_of xs n) xs good refl there

pub removed : (n first : ℕ) (d xs new : List Span) → d ≡ xs → AreSpans d → IsSomeAnd (span_of xs n) (λ a. a.from ≡ first) →
    new ≡ without_key start_of first d → IsRemoved n xs new
removed n first d xs new is good there e =
    subst (IsRemoved n xs) (sym (e ∙ ap (without_key start_of first) is)) (removed_here n first xs (subst AreSpans is good) there)

-- what another end of an area leaves
pub record IsEnded (s : Span) (xs new : List Span) : Type 0 where
  pub good : AreSpans new
  pub spans : new ≡ with_span s (without_area s.area xs)
  pub areas : (k : ℕ) → span_of new k ≡ with_at s.area (Some s) (span_of xs) k
  pub pages : (p : ℕ) → area_at new p ≡ cond (holds s p) (Some s.area) (unless_area s.area (area_at xs p))

with_at_twice : {X : Type 0} (v : Bool) (x y z : X) → cond v x (cond v y z) ≡ cond v x z
with_at_twice true x y z = refl
with_at_twice false x y z = refl

-- an area that is there begins with a page that a process may have
pub low_there : (n first : ℕ) (found : Option Span) (xs : List Span) → AreSpans xs → span_of xs n ≡ found →
    IsSomeAnd found (λ a. a.from ≡ first) → low_page ≤ first
low_there n first None xs good is there = absurd there
low_there n first (Some a) xs good is there =
    subst (λ k. low_page ≤ k) there (all_found (λ b. (low_page ≤ b.from) × (b.to ≤ top_page)) n xs a good.within is).0

pub ended_here : (s : Span) (xs : List Span) → AreSpans xs → IsSomeAnd (span_of xs s.area) (λ a. a.from ≡ s.from) → s.from < s.to → s.to ≤ top_page →
    IsFree (is_page_taken (without_area s.area xs)) s.from s.to → IsEnded s xs (with_span s (without_key start_of s.from xs))
ended_here s xs good there some high free =
    let left = removed_here s.area s.from xs good there in
    let new = without_key start_of s.from xs in
    let none : span_of new s.area ≡ None = left.areas s.area ∙ rw (eq-eqb s.area s.area refl) refl in
    let h = inserted s new left.good some (low_there s.area s.from (span_of xs s.area) xs good refl there) high
    (subst (λ l. IsFree (is_page_taken l) s.from s.to) (sym left.spans) free) none in
    record {
      good = h.good;
      spans = ap (with_span s) left.spans;
      areas = λ k. h.areas k ∙ ap (cond (eqb k s.area) (Some s)) (left.areas k) ∙ with_at_twice (eqb k s.area) (Some s) None (span_of xs k);
      pages = λ p. h.pages p ∙ ap (cond (holds s p) (Some s.area)) (left.pages p);
    }

pub ended : (s : Span) (d xs new : List Span) → d ≡ xs → AreSpans d → IsSomeAnd (span_of xs s.area) (λ a. a.from ≡ s.from) → s.from < s.to
    → s.to ≤ top_page →
    IsFree (is_page_taken (without_area s.area xs)) s.from s.to → new ≡ with_span s (without_key start_of s.from d) → IsEnded s xs new
ended s d xs new is good there some high free e =
    subst (IsEnded s xs) (sym (e ∙ ap (λ l. with_span s (without_key start_of s.from l)) is))
    (ended_here s xs (subst AreSpans is good) there some high free)

-- a span of an area is an entry with the key of its start
pub entry_there : (n first : ℕ) (xs : List Span) → IsSomeAnd (span_of xs n) (λ a. a.from ≡ first) → IsSome (entry_at start_of first xs)
entry_there n first [] there = absurd there
entry_there n first (b ∷ xs) there =
    elim (eqb b.from first) as (λ v. eqb b.from first ≡ v → IsSome (cond v (Some b) (entry_at start_of first xs))) [
      | true ↦ λ e. refl
      | false ↦ λ e.
          let rest : IsSomeAnd (span_of xs n) (λ a. a.from ≡ first) =
          elim (eqb n b.area) as
          (λ v. IsSomeAnd (cond v (Some b) (span_of xs n)) (λ a. a.from ≡ first) → IsSomeAnd (span_of xs n) (λ a. a.from ≡ first)) [
            | true ↦ λ h. absurd (eqb-false b.from first e h)
            | false ↦ λ h. h
          ] there in
          entry_there n first xs rest
    ] refl

-- the nearest areas, down the tree
pub option_or_assoc : (x y z : Option ℕ) → option_or (option_or x y) z ≡ option_or x (option_or y z)
option_or_assoc (Some a) y z = refl
option_or_assoc None y z = refl

option_or_some : (x y : Option ℕ) (n : ℕ) → option_or (option_or x (Some n)) y ≡ option_or x (Some n)
option_or_some (Some a) y n = refl
option_or_some None y n = refl

before_cut : (p : ℕ) (l m : List Span) → area_before (l ++ m) p ≡ option_or (area_before m p) (area_before l p)
before_cut p [] m = elim (area_before m p) as (λ o. o ≡ option_or o None) [ Some x ↦ refl | None ↦ refl ]
before_cut p (b ∷ l) m = ap (λ o. option_or o (cond (leb b.to p) (Some b.area) None)) (before_cut p l m)
    ∙ option_or_assoc (area_before m p) (area_before l p) _

before_none : (p : ℕ) (a : Span) (xs : List Span) → p < a.to → AllByRecursion (λ b. a.to ≤ b.from) xs → AreApart xs → area_before xs p ≡ None
before_none p a [] h later s = refl
before_none p a (b ∷ xs) h later s =
    let wide : b.from < b.to = s.0 in
    let k : a.to ≤ b.from = later.0 in
    rw (before_none p a xs h later.1 s.2, lt-leb b.to p (omega arith)) refl

pub before_right : (p : ℕ) (d l : List Span) (a : Span) (r : List Span) (near : Option ℕ) → d ≡ l ++ a ∷ r → a.to ≤ p →
    option_or (area_before r p) (Some a.area) ≡ option_or (area_before d p) near
before_right p d l a r near is h =
    rw (
      is,
      before_cut p l (a ∷ r),
      le-leb a.to p h,
      option_or_some (area_before r p) (area_before l p) a.area,
      option_or_some (area_before r p) near a.area,
    )
    refl

pub before_left : (p : ℕ) (d l : List Span) (a : Span) (r : List Span) (near : Option ℕ) → d ≡ l ++ a ∷ r → AreApart d → p < a.to →
    option_or (area_before l p) near ≡ option_or (area_before d p) near
before_left p d l a r near is s h =
    let apart = apart_tail l (a ∷ r) (subst AreApart is s) in
    rw (is, before_cut p l (a ∷ r), before_none p a r h apart.1 apart.2, lt-leb a.to p h) refl

after_cut : (p : ℕ) (l m : List Span) → area_after (l ++ m) p ≡ option_or (area_after l p) (area_after m p)
after_cut p [] m = refl
after_cut p (b ∷ l) m = elim (ltb p b.from) as (λ v. cond v (Some b.area) (area_after (l ++ m) p) ≡ option_or (cond v (Some b.area) (area_after l p))
    (area_after m p)) [ true ↦ refl | false ↦ after_cut p l m ]

after_none : (p : ℕ) (l : List Span) (a : Span) (r : List Span) → a.from ≤ p → AreApart (l ++ a ∷ r) → area_after l p ≡ None
after_none p [] a r h s = refl
after_none p (b ∷ l) a r h s =
    let wide : b.from < b.to = s.0 in
    let k : b.to ≤ a.from = middle_after b l a r s.1 in
    rw (le-ltb p b.from (omega arith)) (after_none p l a r h s.2)

pub after_left : (p : ℕ) (d l : List Span) (a : Span) (r : List Span) (near : Option ℕ) → d ≡ l ++ a ∷ r → p < a.from →
    option_or (area_after l p) (Some a.area) ≡ option_or (area_after d p) near
after_left p d l a r near is h =
    rw (is, after_cut p l (a ∷ r), lt-ltb p a.from h, option_or_some (area_after l p) near a.area) refl

pub after_right : (p : ℕ) (d l : List Span) (a : Span) (r : List Span) (near : Option ℕ) → d ≡ l ++ a ∷ r → AreApart d → a.from ≤ p →
    option_or (area_after r p) near ≡ option_or (area_after d p) near
after_right p d l a r near is s h =
    rw (is, after_cut p l (a ∷ r), after_none p l a r h (subst AreApart is s), le-ltb p a.from h) refl

-- the spans on both sides of a page, down the tree
or_assoc : (x y z : Option Span) → option_or (option_or x y) z ≡ option_or x (option_or y z)
or_assoc (Some a) y z = refl
or_assoc None y z = refl

or_some : (x y : Option Span) (s : Span) → option_or (option_or x (Some s)) y ≡ option_or x (Some s)
or_some (Some a) y s = refl
or_some None y s = refl

below_cut : (p : ℕ) (l m : List Span) → last_below (l ++ m) p ≡ option_or (last_below m p) (last_below l p)
below_cut p [] m = elim (last_below m p) as (λ o. o ≡ option_or o None) [ Some x ↦ refl | None ↦ refl ]
below_cut p (b ∷ l) m = ap (λ o. option_or o (cond (ltb b.from p) (Some b) None)) (below_cut p l m) ∙ or_assoc (last_below m p) (last_below l p) _

below_none : (p : ℕ) (a : Span) (xs : List Span) → p ≤ a.to → AllByRecursion (λ b. a.to ≤ b.from) xs → last_below xs p ≡ None
below_none p a [] h later = refl
below_none p a (b ∷ xs) h later =
    let k : a.to ≤ b.from = later.0 in
    rw (below_none p a xs h later.1, le-ltb b.from p (omega arith)) refl

pub below_right : (p : ℕ) (d l : List Span) (a : Span) (r : List Span) (near : Option Span) → d ≡ l ++ a ∷ r → a.from < p →
    option_or (last_below r p) (Some a) ≡ option_or (last_below d p) near
below_right p d l a r near is h =
    rw (is, below_cut p l (a ∷ r), lt-ltb a.from p h, or_some (last_below r p) (last_below l p) a, or_some (last_below r p) near a) refl

pub below_left : (p : ℕ) (d l : List Span) (a : Span) (r : List Span) (near : Option Span) → d ≡ l ++ a ∷ r → AreApart d → p ≤ a.from →
    option_or (last_below l p) near ≡ option_or (last_below d p) near
below_left p d l a r near is s h =
    let apart = apart_tail l (a ∷ r) (subst AreApart is s) in
    let wide : a.from < a.to = apart.0 in
    rw (is, below_cut p l (a ∷ r), below_none p a r (omega arith) apart.1, le-ltb a.from p h) refl

from_cut : (p : ℕ) (l m : List Span) → first_from (l ++ m) p ≡ option_or (first_from l p) (first_from m p)
from_cut p [] m = refl
from_cut p (b ∷ l) m = elim (leb p b.from) as (λ v. cond v (Some b) (first_from (l ++ m) p) ≡ option_or (cond v (Some b) (first_from l p))
    (first_from m p)) [ true ↦ refl | false ↦ from_cut p l m ]

from_none : (p : ℕ) (l : List Span) (a : Span) (r : List Span) → a.from < p → AreApart (l ++ a ∷ r) → first_from l p ≡ None
from_none p [] a r h s = refl
from_none p (b ∷ l) a r h s =
    let wide : b.from < b.to = s.0 in
    let k : b.to ≤ a.from = middle_after b l a r s.1 in
    rw (lt-leb p b.from (omega arith)) (from_none p l a r h s.2)

pub from_left : (p : ℕ) (d l : List Span) (a : Span) (r : List Span) (near : Option Span) → d ≡ l ++ a ∷ r → p ≤ a.from →
    option_or (first_from l p) (Some a) ≡ option_or (first_from d p) near
from_left p d l a r near is h =
    rw (is, from_cut p l (a ∷ r), le-leb p a.from h, or_some (first_from l p) near a) refl

pub from_right : (p : ℕ) (d l : List Span) (a : Span) (r : List Span) (near : Option Span) → d ≡ l ++ a ∷ r → AreApart d → a.from < p →
    option_or (first_from r p) near ≡ option_or (first_from d p) near
from_right p d l a r near is s h =
    rw (is, from_cut p l (a ∷ r), from_none p l a r h (subst AreApart is s), lt-leb p a.from h) refl

pub room_here : (xs : List Span) → AreSpans xs → length xs < 2 ^ 63
room_here xs g = let h = room_more xs g in omega (arith, h)

-- no span begins at a page that is free
holds_start : (s : Span) (page : ℕ) → s.from < s.to → s.from ≡ page → holds s page ≡ false → ⊥
holds_start s page h e q = let d : holds s page ≡ true = holds_here s page (omega arith) (omega arith) in cc

pub no_start : (spans : List Span) → AreApart spans → (page : ℕ) → is_page_taken spans page ≡ false → entry_at start_of page spans ≡ None
no_start [] a page e = refl
no_start (s ∷ t) a page e = elim (holds s page) as (λ b. holds s page ≡ b → is_some (cond b (Some s.area) (area_at t page)) ≡ false →
    entry_at start_of page (s ∷ t) ≡ None) [
      | true ↦ λ q d. cc
      | false ↦ λ q d. rw (ne_eqb s.from page (λ p. holds_start s page a.0 p q)) (no_start t a.2 page d)
    ] refl e
