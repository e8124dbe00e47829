-- The queue, what is kept of each frame, and the free frames that they list.
use Rattle.std.proofs.Common.{◌≡◌, ℕ, zero, suc, ◌+◌, ◌<◌, ◌≤◌, ◌^◌, Bool, true, false, cond, not, ◌||◌, List, [], ◌∷◌, ◌++◌, length, get_or, slice_set, replicate, filter, Some, refl, sym, ap, subst, ◌∙◌, arith, ◌==◌, length-set, get_or-set_same, get_or-set_other}
use Rattle.std.proofs.lemmas.List.{length-replicate}
use Rattle.std.proofs.lemmas.Bool.Decides.{nat_tests}
use Rattle.std.specs.List.{range_with_len}
use Rattle.av_base.specs.Words.{how_many, is_in, without}
use Rattle.av_base.proofs.Without.{count-without, length-without, without-none}
use Rattle.av_base.proofs.Counted.{count-set, count-none}
use Rattle.av_frames.specs.declared.free_list.Place.{Place}
use Rattle.av_frames.specs.declared.free_list.Place.TheVariants.{Free, Used, Left}
use Rattle.av_frames.specs.Free.{IsListed, is_free, is_out, listed, place_of}
use Rattle.av_frames.specs.Store.{first_of}
use Rattle.av_frames.proofs.Numbers.{numbers-suc, length-numbers, once_from, none_plus}

same_is : (f : ℕ) → (f == f) ≡ true
same_is f = grind (arith, nat_tests)

pub not_in : (f : ℕ) (fs : List ℕ) → how_many (λ g. f == g) fs ≡ 0 → is_in f fs ≡ false
not_in f [] h = refl
not_in f (g ∷ fs) h = elim (f == g) as (λ b. cond b 1 0 + how_many (λ g. f == g) fs ≡ 0 → (b || is_in f fs) ≡ false) [
  | true ↦ λ e. absurd (omega (arith, e))
  | false ↦ λ e. not_in f fs (omega (arith, e))
] h

pub none_in : (f : ℕ) (fs : List ℕ) → is_in f fs ≡ false → how_many (λ g. f == g) fs ≡ 0
none_in f [] h = refl
none_in f (g ∷ fs) h = elim (f == g) as (λ b. b || is_in f fs ≡ false → cond b 1 0 + how_many (λ g. f == g) fs ≡ 0) [
  | true ↦ λ e. cc
  | false ↦ λ e. let rest = none_in f fs e in omega (arith, rest)
] h

-- ---- how often a number stands in what passes a test

many-filter : (p : ℕ → Bool) (f : ℕ) (xs : List ℕ) → how_many (λ g. f == g) (filter p xs) ≡ cond (p f) (how_many (λ g. f == g) xs) 0
many-filter p f [] = by (p f)
  where
    by : (b : Bool) → ◌≡◌ {A = ℕ} 0 (cond b 0 0)
    by true = refl
    by false = refl
many-filter p f (x ∷ xs) = by (f == x) (p x) (p f) refl refl refl (many-filter p f xs)
  where
    rest : ℕ
    rest = how_many (λ g. f == g) xs

    two : true ≡ false → ⊥
    two h = cc

    by : (s b d : Bool) → (f == x) ≡ s → p x ≡ b → p f ≡ d → how_many (λ g. f == g) (filter p xs) ≡ cond (p f) rest 0
        → how_many (λ g. f == g) (cond (p x) (x ∷ filter p xs) (filter p xs)) ≡ cond (p f) (cond (f == x) 1 0 + rest) 0
    by s true true a e d h =
        ap (λ c. how_many (λ g. f == g) (cond c (x ∷ filter p xs) (filter p xs))) e ∙ ap (λ n. cond (f == x) 1 0 + n) (h ∙ ap (λ c. cond c rest 0) d)
        ∙ sym (ap (λ c. cond c (cond (f == x) 1 0 + rest) 0) d)
    by s false false a e d h =
        ap (λ c. how_many (λ g. f == g) (cond c (x ∷ filter p xs) (filter p xs))) e ∙ h ∙ ap (λ c. cond c rest 0) d
        ∙ sym (ap (λ c. cond c (cond (f == x) 1 0 + rest) 0) d)
    by true true false a e d h =
        let same : f ≡ x = grind (arith, nat_tests, a) in absurd (two (sym e ∙ ap p (sym same) ∙ d))
    by true false true a e d h =
        let same : f ≡ x = grind (arith, nat_tests, a) in absurd (two (sym d ∙ ap p same ∙ e))
    by false true false a e d h =
        ap (λ c. how_many (λ g. f == g) (cond c (x ∷ filter p xs) (filter p xs))) e ∙ ap (λ c. cond c 1 0 + how_many (λ g. f == g) (filter p xs)) a
        ∙ none_plus (how_many (λ g. f == g) (filter p xs)) ∙ h ∙ ap (λ c. cond c rest 0) d
        ∙ sym (ap (λ c. cond c (cond (f == x) 1 0 + rest) 0) d)
    by false false true a e d h =
        ap (λ c. how_many (λ g. f == g) (cond c (x ∷ filter p xs) (filter p xs))) e ∙ h ∙ ap (λ c. cond c rest 0) d
        ∙ sym (ap (λ c. cond c (cond (f == x) 1 0 + rest) 0) d ∙ ap (λ c. cond c 1 0 + rest) a ∙ none_plus rest)

-- all pass where none is missing
short : (p : ℕ → Bool) (xs : List ℕ) → length (filter p xs) ≤ length xs
short p [] = omega arith
short p (x ∷ xs) = by (p x) (short p xs)
  where
    by : (b : Bool) → length (filter p xs) ≤ length xs → length (cond b (x ∷ filter p xs) (filter p xs)) ≤ suc (length xs)
    by true h = omega (arith, h)
    by false h = omega (arith, h)

pub all-pass : (p : ℕ → Bool) (xs : List ℕ) → length (filter p xs) ≡ length xs → filter p xs ≡ xs
all-pass p [] h = refl
all-pass p (x ∷ xs) h = by (p x) h (short p xs) (all-pass p xs)
  where
    by : (b : Bool) → length (cond b (x ∷ filter p xs) (filter p xs)) ≡ suc (length xs) → length (filter p xs) ≤ length xs
        → (length (filter p xs) ≡ length xs → filter p xs ≡ xs) → cond b (x ∷ filter p xs) (filter p xs) ≡ x ∷ xs
    by true h s rest = ap (λ ys. x ∷ ys) (rest (omega (arith, h)))
    by false h s rest = absurd (omega (arith, h, s))

-- to look again changes nothing
pub twice : (p : ℕ → Bool) (xs : List ℕ) → filter p (filter p xs) ≡ filter p xs
twice p [] = refl
twice p (x ∷ xs) = by (p x) refl (twice p xs)
  where
    by : (b : Bool) → p x ≡ b → filter p (filter p xs) ≡ filter p xs
        → filter p (cond (p x) (x ∷ filter p xs) (filter p xs)) ≡ cond (p x) (x ∷ filter p xs) (filter p xs)
    by true e h = ap (λ c. filter p (cond c (x ∷ filter p xs) (filter p xs))) e ∙ ap (λ c. cond c (x ∷ filter p (filter p xs)) (filter p (filter p xs))) e
        ∙ ap (λ ys. x ∷ ys) h ∙ sym (ap (λ c. cond c (x ∷ filter p xs) (filter p xs)) e)
    by false e h = ap (λ c. filter p (cond c (x ∷ filter p xs) (filter p xs))) e ∙ h ∙ sym (ap (λ c. cond c (x ∷ filter p xs) (filter p xs)) e)

-- one more number
pub filter_next : (p : ℕ → Bool) (n m : ℕ) → m ≡ n + 1
    → filter p (range_with_len 0 m) ≡ filter p (range_with_len 0 n) ++ cond (p n) (n ∷ []) []
filter_next p n m e =
    ap (λ k. filter p (range_with_len 0 k)) (let s : m ≡ suc n = omega (arith, e) in s)
    ∙ ap (filter p) (sym (numbers-suc 0 n)) ∙ ap (λ k. filter p (range_with_len 0 n ++ k ∷ [])) (none_plus n)
    ∙ filter-append (range_with_len 0 n)
  where
    filter-append : (xs : List ℕ) → filter p (xs ++ n ∷ []) ≡ filter p xs ++ cond (p n) (n ∷ []) []
    filter-append [] = refl
    filter-append (x ∷ xs) = by (p x) (filter-append xs)
      where
        by : (b : Bool) → filter p (xs ++ n ∷ []) ≡ filter p xs ++ cond (p n) (n ∷ []) []
            → cond b (x ∷ filter p (xs ++ n ∷ [])) (filter p (xs ++ n ∷ [])) ≡ cond b (x ∷ filter p xs) (filter p xs) ++ cond (p n) (n ∷ []) []
        by true h = ap (λ ys. x ∷ ys) h
        by false h = h

-- ---- what is kept of a frame

pub same_free : (a b : List Place) → ((f : ℕ) → is_free (place_of a f) ≡ is_free (place_of b f)) → (xs : List ℕ) → listed a xs ≡ listed b xs
same_free a b same xs = λ k. filter (λ f. same f k) xs

pub free-within : (places : List Place) (f : ℕ) → is_free (place_of places f) ≡ true → f < length places
free-within [] f h = cc
free-within (p ∷ ps) zero h = omega arith
free-within (p ∷ ps) (suc f) h = let less = free-within ps f h in omega (arith, less)

pub in-within : (places : List Place) (f : ℕ) → is_out (place_of places f) ≡ false → f < length places
in-within [] f h = cc
in-within (p ∷ ps) zero h = omega arith
in-within (p ∷ ps) (suc f) h = let less = in-within ps f h in omega (arith, less)

-- one that is free has its place, once
free-in : (p : Place) → is_free p ≡ true → is_out p ≡ false
free-in Free h = refl
free-in Used h = cc
free-in Left h = cc

pub any_default : {X : Type 0} (xs : List X) (f : ℕ) (a b : X) → f < length xs → get_or xs f a ≡ get_or xs f b
any_default [] f a b h = absurd (omega (arith, h))
any_default (x ∷ xs) zero a b h = refl
any_default (x ∷ xs) (suc f) a b h = any_default xs f a b (omega (arith, h))

-- ---- a frame's place is set

there : (f g : ℕ) → (f == g) ≡ true → g ≡ f
there f g e = grind (arith, nat_tests, e)

apart : (f g : ℕ) → (f == g) ≡ false → g ≡ f → ⊥
apart f g e = grind (arith, nat_tests, e)

swapped : (f g : ℕ) → (f == g) ≡ false → (g == f) ≡ false
swapped f g e = grind (arith, nat_tests, e)

swapped_true : (f g : ℕ) → (f == g) ≡ true → (g == f) ≡ true
swapped_true f g e = grind (arith, nat_tests, e)

same_place : (places : List Place) (f g : ℕ) (x : Place) → f < length places → g ≡ f → place_of (slice_set places f x) g ≡ x
same_place places f g x below e = ap (place_of (slice_set places f x)) e ∙ get_or-set_same places f x Used below

other_place : (places : List Place) (f g : ℕ) (x : Place) → (f == g) ≡ false → place_of (slice_set places f x) g ≡ place_of places g
other_place places f g x e = get_or-set_other places f g x Used (apart f g e)

-- one that isn't free has no place any more
pub keeps_free : (places : List Place) (n : ℕ) → n < length places → is_free (place_of places n) ≡ false → (f : ℕ)
    → is_free (place_of (slice_set places n Used) f) ≡ is_free (place_of places f)
keeps_free places n below h f = by (n == f) refl
  where
    by : (b : Bool) → (n == f) ≡ b → is_free (place_of (slice_set places n Used) f) ≡ is_free (place_of places f)
    by true e = let same = there n f e in
        ap is_free (same_place places n f Used below same) ∙ sym (ap (λ k. is_free (place_of places k)) same ∙ h)
    by false e = ap is_free (other_place places n f Used e)

pub keeps_out : (places : List Place) (n : ℕ) → n < length places
    → ((f : ℕ) → f < n → is_out (place_of places f) ≡ not (is_free (place_of places f))) → (f : ℕ) → f < n + 1
    → is_out (place_of (slice_set places n Used) f) ≡ not (is_free (place_of (slice_set places n Used) f))
keeps_out places n below h f less = by (n == f) refl
  where
    by : (b : Bool) → (n == f) ≡ b → is_out (place_of (slice_set places n Used) f) ≡ not (is_free (place_of (slice_set places n Used) f))
    by true e = let is = same_place places n f Used below (there n f e) in ap is_out is ∙ sym (ap (λ p. not (is_free p)) is)
    by false e = let is = other_place places n f Used e in
        ap is_out is ∙ h f (grind (arith, nat_tests, e, less)) ∙ sym (ap (λ p. not (is_free p)) is)

-- nor has one that is free been left
pub out-more : (places : List Place) (n : ℕ) → place_of places n ≡ Free
    → ((f : ℕ) → f < n → is_out (place_of places f) ≡ not (is_free (place_of places f))) → (f : ℕ) → f < n + 1
    → is_out (place_of places f) ≡ not (is_free (place_of places f))
out-more places n is h f less = by (n == f) refl
  where
    by : (b : Bool) → (n == f) ≡ b → is_out (place_of places f) ≡ not (is_free (place_of places f))
    by true e = let free = ap (place_of places) (there n f e) ∙ is in ap is_out free ∙ sym (ap (λ p. not (is_free p)) free)
    by false e = h f (grind (arith, nat_tests, e, less))

-- one that isn't free any more is listed no more
out-step : (f g : ℕ) (a b d : Bool) (new old : List ℕ) → (f == g) ≡ d → new ≡ without f old → ((f == g) ≡ true → a ≡ false) → ((f == g) ≡ false → a ≡ b)
    → cond a (g ∷ new) new ≡ without f (cond b (g ∷ old) old)
out-step f g a b true new old e h same other = ap (λ c. cond c (g ∷ new) new) (same e) ∙ h ∙ sym (drops b)
  where
    drops : (b : Bool) → without f (cond b (g ∷ old) old) ≡ without f old
    drops true = ap (λ c. cond (not c) (g ∷ without f old) (without f old)) e
    drops false = refl
out-step f g a b false new old e h same other = ap (λ c. cond c (g ∷ new) new) (other e) ∙ stays b
  where
    stays : (b : Bool) → cond b (g ∷ new) new ≡ without f (cond b (g ∷ old) old)
    stays true = ap (λ xs. g ∷ xs) h ∙ sym (ap (λ c. cond (not c) (g ∷ without f old) (without f old)) e)
    stays false = h

pub listed-out : (places : List Place) (f : ℕ) (x : Place) (queue : List ℕ) → f < length places → is_free x ≡ false
    → listed (slice_set places f x) queue ≡ without f (listed places queue)
listed-out places f x [] below h = refl
listed-out places f x (g ∷ gs) below h =
    out-step f g (is_free (place_of (slice_set places f x) g)) (is_free (place_of places g)) (f == g) (listed (slice_set places f x) gs) (listed places gs)
    refl (listed-out places f x gs below h) (λ e. ap is_free (same_place places f g x below (there f g e)) ∙ h)
    (λ e. ap is_free (other_place places f g x e))

-- the place of one that isn't free says nothing
without-step : (p : ℕ → Bool) (f g : ℕ) (b d : Bool) (rest old : List ℕ) → (f == g) ≡ d → filter p rest ≡ old → ((f == g) ≡ true → b ≡ false)
    → ((f == g) ≡ false → p g ≡ b) → filter p (cond (not (f == g)) (g ∷ rest) rest) ≡ cond b (g ∷ old) old
without-step p f g b true rest old e h same other =
    ap (λ c. filter p (cond (not c) (g ∷ rest) rest)) e ∙ h ∙ sym (ap (λ c. cond c (g ∷ old) old) (same e))
without-step p f g b false rest old e h same other =
    ap (λ c. filter p (cond (not c) (g ∷ rest) rest)) e ∙ ap (λ c. cond c (g ∷ filter p rest) (filter p rest)) (other e)
    ∙ ap (λ xs. cond b (g ∷ xs) xs) h

pub listed-without : (places : List Place) (f : ℕ) (x : Place) (queue : List ℕ) → is_free (place_of places f) ≡ false
    → listed (slice_set places f x) (without f queue) ≡ listed places queue
listed-without places f x [] h = refl
listed-without places f x (g ∷ gs) h =
    without-step (λ k. is_free (place_of (slice_set places f x) k)) f g (is_free (place_of places g)) (f == g) (without f gs) (listed places gs)
    refl (listed-without places f x gs h) (λ e. ap (λ k. is_free (place_of places k)) (there f g e) ∙ h)
    (λ e. ap is_free (other_place places f g x e))

-- ---- the first of a list

pub first-goes : (f : ℕ) (xs : List ℕ) → first_of xs ≡ Some f → how_many (λ g. f == g) xs ≤ 1
    → (xs ≡ f ∷ without f xs) × (is_in f xs ≡ true) × (is_in f (without f xs) ≡ false)
first-goes f [] is once = cc
first-goes f (x ∷ xs) is once = by x (let e : x ≡ f = cc in e) once
  where
    by : (x : ℕ) → x ≡ f → cond (f == x) 1 0 + how_many (λ g. f == g) xs ≤ 1
        → (x ∷ xs ≡ f ∷ cond (not (f == x)) (x ∷ without f xs) (without f xs)) × ((f == x) || is_in f xs ≡ true)
        × (is_in f (cond (not (f == x)) (x ∷ without f xs) (without f xs)) ≡ false)
    by x e once =
        let same : (f == x) ≡ true = grind (arith, nat_tests, e) in
        let none : how_many (λ g. f == g) xs ≡ 0 = fewer _ (subst (λ b. cond b 1 0 + how_many (λ g. f == g) xs ≤ 1) same once) in
        let rest = ap (λ b. cond (not b) (x ∷ without f xs) (without f xs)) same ∙ without-none f xs none in (
          ap (λ y. y ∷ xs) e ∙ ap (λ ys. f ∷ ys) (sym rest),
          ap (λ b. b || is_in f xs) same,
          ap (is_in f) rest ∙ not_in f xs none,
        )
      where
        fewer : (n : ℕ) → 1 + n ≤ 1 → n ≡ 0
        fewer n h = omega arith

-- ---- queue and places that fit together

module _ (queue : List ℕ) (room : ℕ) (places : List Place) (left : ℕ) (w : IsListed queue room places left) where
  many : (f : ℕ) → how_many (λ g. f == g) (listed places queue) ≡ cond (is_free (place_of places f)) (cond (is_out (place_of places f)) 0 1) 0
  many f = many-filter (λ g. is_free (place_of places g)) f queue ∙ ap (λ n. cond (is_free (place_of places f)) n 0) (w.once f)

  -- what is read of a frame
  pub found : (f : ℕ) (p : Place) → p ≡ get_or places f p → f < length places → p ≡ place_of places f
  found f p is below = is ∙ any_default places f p Used below

  -- a free frame is listed, and no other
  pub has_is : (f : ℕ) → is_free (place_of places f) ≡ is_in f (listed places queue)
  has_is f = by (place_of places f) (is_in f (listed places queue)) _ (many f) (not_in f (listed places queue)) (none_in f (listed places queue))
    where
      by : (p : Place) (b : Bool) (n : ℕ) → n ≡ cond (is_free p) (cond (is_out p) 0 1) 0 → (n ≡ 0 → b ≡ false) → (b ≡ false → n ≡ 0) → is_free p ≡ b
      by Free true n e z o = refl
      by Free false n e z o = absurd (let none = o refl in omega (arith, e, none))
      by Used b n e z o = sym (z e)
      by Left b n e z o = sym (z e)

  pub tells : (f : ℕ) (p : Place) → p ≡ get_or places f p → f < length places → is_free p ≡ is_in f (listed places queue)
  tells f p is below = ap is_free (found f p is below) ∙ has_is f

  pub once_listed : (f : ℕ) → how_many (λ g. f == g) (listed places queue) ≤ 1
  once_listed f = by (place_of places f) _ (many f)
    where
      by : (p : Place) (n : ℕ) → n ≡ cond (is_free p) (cond (is_out p) 0 1) 0 → n ≤ 1
      by Free n e = omega (arith, e)
      by Used n e = omega (arith, e)
      by Left n e = omega (arith, e)

  pub in_range_listed : (f : ℕ) → is_in f (listed places queue) ≡ true → f < length places
  in_range_listed f h = free-within places f (has_is f ∙ h)

  -- how often it stands in the queue, and in the list
  once_there : (f : ℕ) → is_in f (listed places queue) ≡ true
      → (is_free (place_of places f) ≡ true) × (is_out (place_of places f) ≡ false) × (how_many (λ g. f == g) (listed places queue) ≡ 1)
  once_there f h = by (place_of places f) (has_is f ∙ h) (many f)
    where
      by : (p : Place) → is_free p ≡ true → how_many (λ g. f == g) (listed places queue) ≡ cond (is_free p) (cond (is_out p) 0 1) 0
          → (is_free p ≡ true) × (is_out p ≡ false) × (how_many (λ g. f == g) (listed places queue) ≡ 1)
      by Free h e = (refl, refl, e)
      by Used h e = cc
      by Left h e = cc

  -- a free frame is taken out: its place is left
  pub whole_out : (f : ℕ) → is_in f (listed places queue) ≡ true → IsListed queue room (slice_set places f Left) (left + 1)
  whole_out f h =
      let is = once_there f h in
      let below = free-within places f is.0 in
      let long = length-set places f Left in
      record {
        few = let few = w.few in omega (arith, long, few);
        room = let room = w.room in omega (arith, long, room);
        total = sum _ _ _ _ _ w.total (count-set is_out places f Left Used below) (ap (λ b. cond b 1 0) is.1) long;
        once = λ g. others g (f == g) refl below is.1;
        counted = less _ _ _ _ (ap length (listed-out places f Left queue below refl)) (length-without f (listed places queue)) is.2 w.counted;
      }
    where
      sum : (n k m c p : ℕ) {r : ℕ} → n + k ≡ p → m + c ≡ k + 0 → c ≡ 0 → r ≡ p → n + m ≡ r
      sum n k m c p a b z e = omega arith

      less : (a b one c : ℕ) → a ≡ b → b + one ≡ c → one ≡ 1 → c + left ≡ length queue → a + (left + 1) ≡ length queue
      less a b one c h i o e = omega arith

      others : (g : ℕ) (b : Bool) → (f == g) ≡ b → f < length places → is_out (place_of places f) ≡ false
          → how_many (λ x. g == x) queue ≡ cond (is_out (place_of (slice_set places f Left) g)) 0 1
      others g true e below out = let same = there f g e in
          w.once g ∙ ap (λ k. cond (is_out (place_of places k)) 0 1) same ∙ ap (λ b. cond b 0 1) out
          ∙ sym (ap (λ p. cond (is_out p) 0 1) (same_place places f g Left below same))
      others g false e below out = w.once g ∙ sym (ap (λ p. cond (is_out p) 0 1) (other_place places f g Left e))

  -- where no place is left, the queue is the list
  pub all_listed : left ≤ 0 → listed places queue ≡ queue
  all_listed h = all-pass (λ f. is_free (place_of places f)) queue (let a = w.counted in omega (arith, a, h))

  -- and its first is free
  pub front_listed : (f : ℕ) (rest : List ℕ) → left ≤ 0 → queue ≡ f ∷ rest
      → (is_in f (listed places queue) ≡ true) × (how_many (λ g. f == g) rest ≡ 0)
  front_listed f rest none is =
      let first : is_in f (listed places queue) ≡ true = ap (is_in f) (all_listed none ∙ is) ∙ ap (λ b. b || is_in f rest) (same_is f) in
      (first, one _ (sym (ap (λ b. cond b 1 0 + how_many (λ g. f == g) rest) (same_is f)) ∙ sym (ap (how_many (λ g. f == g)) (all_listed none ∙ is)) ∙ (once_there f first).2))
    where
      one : (n : ℕ) → 1 + n ≡ 1 → n ≡ 0
      one n h = omega arith

  -- it is taken
  pub listed_taken : (f : ℕ) (rest : List ℕ) → left ≤ 0 → queue ≡ f ∷ rest → listed (slice_set places f Used) rest ≡ rest
  listed_taken f rest none is =
      let front = front_listed f rest none is in
      let below = in_range_listed f front.0 in
      sym (ap (λ p. cond (is_free p) (f ∷ listed (slice_set places f Used) rest) (listed (slice_set places f Used) rest)) (same_place places f f Used below refl))
      ∙ ap (listed (slice_set places f Used)) (sym is) ∙ listed-out places f Used queue below refl
      ∙ ap (without f) (all_listed none ∙ is) ∙ ap (λ b. cond (not b) (f ∷ without f rest) (without f rest)) (same_is f) ∙ without-none f rest front.1

  pub whole_taken : (f : ℕ) (rest : List ℕ) (room' : ℕ) → left ≤ 0 → queue ≡ f ∷ rest → room' ≡ room
      → IsListed rest room' (slice_set places f Used) left
  whole_taken f rest room' none is wide =
      let front = front_listed f rest none is in
      let once = once_there f front.0 in
      let below = free-within places f once.0 in
      let long = length-set places f Used in
      record {
        few = let few = w.few in omega (arith, long, few);
        room = let room = w.room in omega (arith, long, room, wide);
        total = sum _ _ _ _ _ (sym (ap (λ xs. length xs + how_many is_out places) is) ∙ w.total) (count-set is_out places f Used Used below) (ap (λ b. cond b 1 0) once.1) long;
        once = λ g. others g (f == g) refl below front.1;
        counted = ap (λ xs. length xs + left) (listed_taken f rest none is) ∙ (let e : length rest + left ≡ length rest = omega (arith, none) in e);
      }
    where
      sum : (n k m c p : ℕ) {r : ℕ} → suc n + k ≡ p → m + c ≡ k + 1 → c ≡ 0 → r ≡ p → n + m ≡ r
      sum n k m c p a b z e = omega arith

      others : (g : ℕ) (b : Bool) → (f == g) ≡ b → f < length places → how_many (λ x. f == x) rest ≡ 0
          → how_many (λ x. g == x) rest ≡ cond (is_out (place_of (slice_set places f Used) g)) 0 1
      others g true e below none = let same = there f g e in
          ap (λ k. how_many (λ x. k == x) rest) same ∙ none ∙ sym (ap (λ p. cond (is_out p) 0 1) (same_place places f g Used below same))
      others g false e below none =
          sym (ap (λ b. cond b 1 0 + how_many (λ x. g == x) rest) (swapped f g e) ∙ none_plus _)
          ∙ sym (ap (how_many (λ x. g == x)) is) ∙ w.once g ∙ sym (ap (λ p. cond (is_out p) 0 1) (other_place places f g Used e))

  -- a frame that isn't free is given: what was left of it goes
  pub listed_given : (f : ℕ) → f < length places → is_in f (listed places queue) ≡ false
      → listed (slice_set places f Free) (f ∷ without f queue) ≡ f ∷ listed places queue
  listed_given f below h =
      ap (λ p. cond (is_free p) (f ∷ listed (slice_set places f Free) (without f queue)) (listed (slice_set places f Free) (without f queue)))
      (same_place places f f Free below refl)
      ∙ ap (λ xs. f ∷ xs) (listed-without places f Free queue (has_is f ∙ h))

  -- how many stand in the queue then
  pub fewer_given : (f : ℕ) → length (without f queue) + cond (is_out (place_of places f)) 0 1 ≡ length queue
  fewer_given f = ap (λ n. length (without f queue) + n) (sym (w.once f)) ∙ length-without f queue

  -- a place that is left is counted
  pub left_given : (f : ℕ) → place_of places f ≡ Left → 1 ≤ left
  left_given f is =
      least _ _ (ap (λ p. cond (is_out p) 0 1) is) (fewer_given f) w.counted
      (subst (λ xs. length xs ≤ length (without f queue)) (listed-without places f Used queue (ap is_free is))
      (short (λ g. is_free (place_of (slice_set places f Used) g)) (without f queue)))
    where
      least : (c n : ℕ) → c ≡ 1 → length (without f queue) + c ≡ length queue → n + left ≡ length queue → n ≤ length (without f queue) → 1 ≤ left
      least c n a b d e = omega arith

  -- one that has none isn't there
  pub none_given : (f : ℕ) → (place_of places f ≡ Left → ⊥) → is_in f (listed places queue) ≡ false
      → (is_out (place_of places f) ≡ true) × (without f queue ≡ queue)
  none_given f not_left h =
      let out = used_is (place_of places f) not_left (has_is f ∙ h) in
      (out, without-none f queue (w.once f ∙ ap (λ b. cond b 0 1) out))
    where
      used_is : (p : Place) → (p ≡ Left → ⊥) → is_free p ≡ false → is_out p ≡ true
      used_is Free n h = cc
      used_is Used n h = refl
      used_is Left n h = absurd (n refl)

  pub room_given : (f : ℕ) → f < length places → is_in f (listed places queue) ≡ false → length (without f queue) < length places
  room_given f below h = by (place_of places f) (has_is f ∙ h) (fewer_given f) w.total (count-set is_out places f Free Used below)
    where
      by : (p : Place) → is_free p ≡ false → length (without f queue) + cond (is_out p) 0 1 ≡ length queue
          → length queue + how_many is_out places ≡ length places
          → how_many is_out (slice_set places f Free) + cond (is_out p) 1 0 ≡ how_many is_out places + 0 → length (without f queue) < length places
      by Free h a b c = cc
      by Used h a b c = omega (arith, a, b, c)
      by Left h a b c = omega (arith, a, b, c)

  pub whole_given : (f room' left' : ℕ) → f < length places → is_in f (listed places queue) ≡ false → room' ≡ room
      → left' + cond (is_out (place_of places f)) 0 1 ≡ left → IsListed (f ∷ without f queue) room' (slice_set places f Free) left'
  whole_given f room' left' below h wide rest =
      let long = length-set places f Free in
      record {
        few = let few = w.few in omega (arith, long, few);
        room = let room = w.room in omega (arith, long, room, wide);
        total = sum (place_of places f) (has_is f ∙ h) (fewer_given f) w.total (count-set is_out places f Free Used below) ∙ sym long;
        once = λ g. others g (f == g) refl below;
        counted = all _ _ _ (ap length (listed_given f below h)) w.counted (fewer_given f) rest;
      }
    where
      sum : (p : Place) → is_free p ≡ false → length (without f queue) + cond (is_out p) 0 1 ≡ length queue
          → length queue + how_many is_out places ≡ length places
          → how_many is_out (slice_set places f Free) + cond (is_out p) 1 0 ≡ how_many is_out places + 0
          → suc (length (without f queue)) + how_many is_out (slice_set places f Free) ≡ length places
      sum Free h a b c = cc
      sum Used h a b c = omega (arith, a, b, c)
      sum Left h a b c = omega (arith, a, b, c)

      all : (a n c : ℕ) → a ≡ suc n → n + left ≡ length queue → length (without f queue) + c ≡ length queue → left' + c ≡ left
          → a + left' ≡ suc (length (without f queue))
      all a n c h i j k = omega arith

      others : (g : ℕ) (b : Bool) → (f == g) ≡ b → f < length places
          → cond (g == f) 1 0 + how_many (λ x. g == x) (without f queue) ≡ cond (is_out (place_of (slice_set places f Free) g)) 0 1
      others g true e below = let same = there f g e in let swap = swapped_true f g e in
          ap (λ n. cond (g == f) 1 0 + n) (count-without f g queue) ∙ ap (λ b. cond b 1 0 + cond b 0 (how_many (λ x. g == x) queue)) swap
          ∙ sym (ap (λ p. cond (is_out p) 0 1) (same_place places f g Free below same))
      others g false e below = let swap = swapped f g e in
          ap (λ n. cond (g == f) 1 0 + n) (count-without f g queue) ∙ ap (λ b. cond b 1 0 + cond b 0 (how_many (λ x. g == x) queue)) swap
          ∙ none_plus _ ∙ w.once g ∙ sym (ap (λ p. cond (is_out p) 0 1) (other_place places f g Free e))

-- ---- no place is left

length-sorted : (places : List Place) (a : ℕ) (q : ℕ → Bool) → ((i : ℕ) → q (a + i) ≡ is_free (place_of places i))
    → ((i : ℕ) → is_out (place_of places i) ≡ not (is_free (place_of places i)))
    → length (filter q (range_with_len a (length places))) + how_many is_out places ≡ length places
length-sorted [] a q same out = refl
length-sorted (p ∷ ps) a q same out =
    by (is_free p) (is_out p) (ap q (let e : a ≡ a + 0 = omega arith in e) ∙ same 0) (out 0)
    (length-sorted ps (a + 1) q (λ i. ap q (let e : (a + 1) + i ≡ a + suc i = omega arith in e) ∙ same (suc i)) (λ i. out (suc i)))
  where
    rest : List ℕ
    rest = filter q (range_with_len (a + 1) (length ps))

    by : (b d : Bool) → q a ≡ b → d ≡ not b → length rest + how_many is_out ps ≡ length ps
        → length (cond (q a) (a ∷ rest) rest) + (cond d 1 0 + how_many is_out ps) ≡ suc (length ps)
    by true d e o h = ap (λ c. length (cond c (a ∷ rest) rest) + (cond d 1 0 + how_many is_out ps)) e
        ∙ ap (λ c. suc (length rest) + (cond c 1 0 + how_many is_out ps)) o ∙ omega (arith, h)
    by false d e o h = ap (λ c. length (cond c (a ∷ rest) rest) + (cond d 1 0 + how_many is_out ps)) e
        ∙ ap (λ c. length rest + (cond c 1 0 + how_many is_out ps)) o ∙ omega (arith, h)

pub whole_sorted : (places : List Place) (room : ℕ) → length places < 2 ^ 32 → length places ≤ room
    → ((f : ℕ) → is_out (place_of places f) ≡ not (is_free (place_of places f)))
    → IsListed (listed places (range_with_len 0 (length places))) room places 0
whole_sorted places room few wide out = record {
  few = few;
  room = wide;
  total = length-sorted places 0 (λ f. is_free (place_of places f)) (λ i. ap (λ j. is_free (place_of places j)) (none_plus i)) out;
  once = λ f. many-filter (λ g. is_free (place_of places g)) f (range_with_len 0 (length places)) ∙ by f (place_of places f) (out f) (in-within places f);
  counted = ap (λ xs. length xs + 0) (twice (λ f. is_free (place_of places f)) (range_with_len 0 (length places))) ∙ plus_zero _;
}
  where
    plus_zero : (n : ℕ) → n + 0 ≡ n
    plus_zero n = omega arith

    by : (f : ℕ) (p : Place) → is_out p ≡ not (is_free p) → (is_out p ≡ false → f < length places)
        → cond (is_free p) (how_many (λ g. f == g) (range_with_len 0 (length places))) 0 ≡ cond (is_out p) 0 1
    by f Free o h = once_from 0 (length places) f f (sym (none_plus f)) (h refl)
    by f Used o h = refl
    by f Left o h = cc

-- all are free at first
pub all_free : (n f : ℕ) → is_out (place_of (replicate n Free) f) ≡ not (is_free (place_of (replicate n Free) f))
all_free zero f = refl
all_free (suc n) zero = refl
all_free (suc n) (suc f) = all_free n f

pub listed_fresh : (n : ℕ) → listed (replicate n Free) (range_with_len 0 n) ≡ range_with_len 0 n
listed_fresh n = all-pass (λ f. is_free (place_of (replicate n Free) f)) (range_with_len 0 n)
    (let long = length-replicate n Free in
    let none = count-none is_out Free n refl in
    let numbers = length-numbers 0 n in
    let both = subst (λ m. length (listed (replicate n Free) (range_with_len 0 m)) + how_many is_out (replicate n Free) ≡ m) long
    (length-sorted (replicate n Free) 0 (λ f. is_free (place_of (replicate n Free) f)) (λ i. ap (λ j. is_free (place_of (replicate n Free) j)) (none_plus i)) (all_free n)) in
    omega (arith, none, numbers, both))

pub whole_fresh : (n room : ℕ) → n < 2 ^ 32 → n ≤ room → IsListed (range_with_len 0 n) room (replicate n Free) 0
whole_fresh n room few wide =
    subst (λ xs. IsListed xs room (replicate n Free) 0) (ap (λ m. listed (replicate n Free) (range_with_len 0 m)) (length-replicate n Free) ∙ listed_fresh n)
    (whole_sorted (replicate n Free) room (subst (λ m. m < 2 ^ 32) (sym (length-replicate n Free)) few)
    (subst (λ m. m ≤ room) (sym (length-replicate n Free)) wide) (all_free n))
