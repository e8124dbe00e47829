-- Each frame is free or stands once in one of the lists, so the numbers of `stat` add up.
use Rattle.std.proofs.Common.{◌≡◌, ℕ, zero, suc, ◌+◌, ◌<◌, ◌≤◌, min, Bool, true, false, cond, ◌&&◌, List, [], ◌∷◌, length, filter, refl, sym, ap, ◌∙◌, arith, ◌==◌, nat_lt}
use Rattle.std.proofs.lemmas.Bool.Decides.{nat_tests}
use Rattle.av_base.specs.Words.{how_many, is_in}
use Rattle.std.specs.List.{range_with_len}
use Rattle.av_plain.specs.World.{World}
use Rattle.av_plain.specs.Ledger.{Ledger, Setting, is_free, free_frames}
use Rattle.av_plain.specs.Report.{totals}
use Rattle.av_plain.specs.Sound.{listings, uses, IsSound}
use Rattle.av_plain.proofs.Sound.Counts.{same-itself}
use Rattle.av_plain.proofs.Sound.Changes.{any-counts, free-is}

-- ---- sums over the numbers below one

-- the sum of what each number gives
abbrev pub sum_of : (ℕ → ℕ) → List ℕ → ℕ
sum_of g [] = 0
sum_of g (f ∷ fs) = g f + sum_of g fs

sum-same : (g h : ℕ → ℕ) (a n : ℕ) → ((f : ℕ) → f < a + n → g f ≡ h f) → sum_of g (range_with_len a n) ≡ sum_of h (range_with_len a n)
sum-same g h a zero e = refl
sum-same g h a (suc n) e = λ i. e a (omega arith) i + sum-same g h (a + 1) n (λ f less. e f (omega (arith, less))) i

sum-plus : (g h : ℕ → ℕ) (fs : List ℕ) → sum_of (λ f. g f + h f) fs ≡ sum_of g fs + sum_of h fs
sum-plus g h [] = refl
sum-plus g h (f ∷ fs) = let rest = sum-plus g h fs in omega (arith, rest)

sum-none : (fs : List ℕ) → sum_of (λ f. 0) fs ≡ 0
sum-none [] = refl
sum-none (f ∷ fs) = let rest = sum-none fs in omega (arith, rest)

-- a number among those from one on is counted once, one below them is not
sum-below : (x a n : ℕ) → x < a → sum_of (λ f. cond (f == x) 1 0) (range_with_len a n) ≡ 0
sum-below x a zero h = refl
sum-below x a (suc n) h = let rest = sum-below x (a + 1) n (omega (arith, h)) in by (a == x) refl rest
  where
    by : (b : Bool) → (a == x) ≡ b → sum_of (λ f. cond (f == x) 1 0) (range_with_len (a + 1) n) ≡ 0 →
        cond b 1 0 + sum_of (λ f. cond (f == x) 1 0) (range_with_len (a + 1) n) ≡ 0
    by true is rest = absurd (grind (arith, nat_tests, is, h))
    by false is rest = omega (arith, rest)

sum-once : (x a n : ℕ) → a ≤ x → x < a + n → sum_of (λ f. cond (f == x) 1 0) (range_with_len a n) ≡ 1
sum-once x a zero low high = absurd (omega (arith, low, high))
sum-once x a (suc n) low high = by (a == x) refl (λ more. sum-once x (a + 1) n more (omega (arith, high)))
  where
    by : (b : Bool) → (a == x) ≡ b → (a + 1 ≤ x → sum_of (λ f. cond (f == x) 1 0) (range_with_len (a + 1) n) ≡ 1) →
        cond b 1 0 + sum_of (λ f. cond (f == x) 1 0) (range_with_len (a + 1) n) ≡ 1
    by true is later = let less : x < a + 1 = grind (arith, nat_tests, is) in let rest = sum-below x (a + 1) n less in omega (arith, rest)
    by false is later = let more : a + 1 ≤ x = grind (arith, nat_tests, is, low) in let rest = later more in omega (arith, rest)

-- how often each number stands in a list, summed up, is the list's length, where all are below n
pub sum-length : (n : ℕ) (fs : List ℕ) → ((f : ℕ) → 0 < how_many (λ g. f == g) fs → f < n)
    → sum_of (λ f. how_many (λ g. f == g) fs) (range_with_len 0 n) ≡
    length fs
sum-length n [] below = sum-none (range_with_len 0 n)
sum-length n (x ∷ fs) below =
    sum-plus (λ f. cond (f == x) 1 0) (λ f. how_many (λ g. f == g) fs) (range_with_len 0 n)
    ∙ both _ _ _ (sum-once x 0 n (omega arith) (let less = below x (first (x == x) _ (same-itself x)) in omega (arith, less)))
    (sum-length n fs (λ f h. below f (more (f == x) _ h)))
  where
    first : (b : Bool) (k : ℕ) → b ≡ true → 0 < cond b 1 0 + k
    first true k h = omega arith
    first false k h = cc

    more : (b : Bool) (k : ℕ) → 0 < k → 0 < cond b 1 0 + k
    more b k h = omega (arith, h)

    both : (a b k : ℕ) → a ≡ 1 → b ≡ k → a + b ≡ suc k
    both a b k h i = omega (arith, h, i)

sum-counts : (test : ℕ → Bool) (fs : List ℕ) → sum_of (λ f. cond (test f) 1 0) fs ≡ length (filter test fs)
sum-counts test [] = refl
sum-counts test (f ∷ fs) =
    elim (test f) as (λ b. cond b 1 0 + sum_of (λ f. cond (test f) 1 0) fs ≡ length (cond b (f ∷ filter test fs) (filter test fs))) [
      | true ↦ one_more _ _ (sum-counts test fs)
      | false ↦ zero_plus _ _ (sum-counts test fs)
    ]
  where
    one_more : (a b : ℕ) → a ≡ b → 1 + a ≡ suc b
    one_more a b h = omega (arith, h)

    zero_plus : (a b : ℕ) → a ≡ b → 0 + a ≡ b
    zero_plus a b h = omega (arith, h)

sum-ones : (a n : ℕ) → sum_of (λ f. 1) (range_with_len a n) ≡ n
sum-ones a zero = refl
sum-ones a (suc n) = let rest = sum-ones (a + 1) n in omega (arith, rest)

-- ---- the frames

-- a list that has exactly the free frames, each once, is as long as there are free frames
pub free-length : (m : Setting) (l : Ledger) (fs : List ℕ) → ((f : ℕ) → how_many (λ g. f == g) fs ≡ cond (nat_lt f m.frames && is_free l f) 1 0) →
    length fs ≡ length (free_frames m l)
free-length m l fs once =
    sym (sum-length m.frames fs (λ f h. below f (nat_lt f m.frames) refl (once f) h))
    ∙ sum-same _ (λ f. cond (is_free l f) 1 0) 0 m.frames (λ f less. once f ∙ ap (λ b. cond (b && is_free l f) 1 0) (is_less f less))
    ∙ sum-counts (is_free l) (range_with_len 0 m.frames)
  where
    is_less : (f : ℕ) → f < 0 + m.frames → nat_lt f m.frames ≡ true
    is_less f h = grind (arith, nat_tests, h)

    below : (f : ℕ) (b : Bool) → nat_lt f m.frames ≡ b → {k : ℕ} → k ≡ cond (b && is_free l f) 1 0 → 0 < k → f < m.frames
    below f true is e h = grind (arith, nat_tests, is)
    below f false is e h = absurd (omega (arith, e, h))

-- a list without repetition that has exactly the free frames
pub free-once : (m : Setting) (l : Ledger) (fs : List ℕ) → ((f : ℕ) → how_many (λ g. f == g) fs ≤ 1) → ((f : ℕ) → is_in f fs ≡ true → f < m.frames) →
    ((f : ℕ) → f < m.frames → is_in f fs ≡ is_free l f)
    → (f : ℕ) → how_many (λ g. f == g) fs ≡ cond (nat_lt f m.frames && is_free l f) 1 0
free-once m l fs once below same f = by (nat_lt f m.frames) refl (is_in f fs) (any-counts (λ g. f == g) fs) refl
  where
    count : (n : ℕ) (b : Bool) → n ≤ 1 → b ≡ nat_lt 0 n → n ≡ cond b 1 0
    count n true few e = let z : 0 < n = grind (arith, nat_tests, e) in omega (arith, few, z)
    count n false few e = let z : n ≡ 0 = grind (arith, nat_tests, e) in z

    by : (t : Bool) → nat_lt f m.frames ≡ t → (b : Bool) → b ≡ nat_lt 0 (how_many (λ g. f == g) fs) → is_in f fs ≡ b →
        how_many (λ g. f == g) fs ≡ cond (t && is_free l f) 1 0
    by true is b e at = count _ b (once f) e ∙ ap (λ b. cond b 1 0) (sym at ∙ same f (grind (arith, nat_tests, is)))
    by false is true e at = let less = below f at in absurd (grind (arith, nat_tests, is, less))
    by false is false e at = count _ false (once f) e

-- each frame is free, active or inactive
pub frames-add : (m : Setting) (l : Ledger) → IsSound m l → length (free_frames m l) + length l.active + length l.inactive ≡ m.frames
frames-add m l s =
    let active = sum-length m.frames l.active (λ f h. s.in_range f (used f (let a = s.listed f in omega (arith, a, h)))) in
    let inactive = sum-length m.frames l.inactive (λ f h. s.in_range f (used f (let a = s.listed f in omega (arith, a, h)))) in
    let listed = sum-plus (λ f. how_many (λ g. f == g) l.active) (λ f. how_many (λ g. f == g) l.inactive) (range_with_len 0 m.frames) in
    let free = sum-counts (is_free l) (range_with_len 0 m.frames) in
    let each = sum-same (λ f. cond (is_free l f) 1 0 + listings l f) (λ f. 1) 0 m.frames (λ f less. one f) in
    let whole = sum-plus (λ f. cond (is_free l f) 1 0) (listings l) (range_with_len 0 m.frames) in
    let ones = sum-ones 0 m.frames in
    omega (arith, active, inactive, listed, free, each, whole, ones)
  where
    used : (f : ℕ) → 0 < min 1 (uses l f) → 0 < uses l f
    used f h = omega (arith, h)

    one : (f : ℕ) → cond (is_free l f) 1 0 + listings l f ≡ 1
    one f = by (uses l f) (is_free l f) (listings l f) (free-is l f) (s.listed f)
      where
        by : (u : ℕ) (b : Bool) (n : ℕ) → b ≡ (u == 0) → n ≡ min 1 u → cond b 1 0 + n ≡ 1
        by u true n h i = let z : u ≡ 0 = grind (arith, nat_tests, h) in omega (arith, z, i)
        by u false n h i = let z : 0 < u = grind (arith, nat_tests, h) in omega (arith, z, i)

-- `stat` without swap: the free frames are those of a list that has each once
pub totals-plain : (m : Setting) (w : World) (l : Ledger) (fs : List ℕ) → l.flight ≡ [] → l.on ≡ []
    → ((f : ℕ) → how_many (λ g. f == g) fs ≡ cond (nat_lt f m.frames && is_free l f) 1 0)
    → totals m w l ≡ record {
      frames = m.frames;
      free = length fs;
      active = length l.active;
      inactive = length l.inactive;
      flight = 0;
      slots = 0;
      free_slots = 0;
      processes = length w;
    }
totals-plain m w l fs flight on once = λ i. record {
  frames = m.frames;
  free = sym (free-length m l fs once) i;
  active = length l.active;
  inactive = length l.inactive;
  flight = length (flight i);
  slots = (totals m w (record l { on = on i })).slots;
  free_slots = (totals m w (record l { on = on i })).free_slots;
  processes = length w;
}
