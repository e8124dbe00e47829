-- What is kept of what frames hold: their order is total, and two are equal in it where they hold the same. So a search of what rises finds the one that holds the same as another.
use Rattle.std.proofs.Common.{◌≡◌, ℕ, ◌+◌, ◌<◌, ◌≤◌, Bool, true, false, cond, ◌&&◌, ◌==◌, List, [], ◌∷◌, ◌++◌, suc, zero, map, length, get_or, set, Option, Some, None, Ok, Err, refl, sym, ap, subst, ◌∙◌, arith, eqb, ltb, ◌-◌}
use Rattle.std.proofs.lemmas.Bool.{false≢true}
use Rattle.std.proofs.lemmas.Bool.Decides.{nat_tests}
use Rattle.std.proofs.lemmas.Cmp.{nat_list_cmp_total, on_total, tied_itself}
use Rattle.std.proofs.lemmas.List.FromFn.{fill_by_all}
use Rattle.std.proofs.lemmas.Map.Text.{is_eq-slice_cmp}
use Rattle.std.specs.Cmp.{IsTotalOrder}
use Rattle.std.specs.Cmp.Lexicographic.{pointwise, slice_cmp}
use Rattle.std.specs.Ordering.{is_eq, nat_cmp, ordering_reverse}
use Rattle.std.specs.Prelude.{EachIndex}
use Rattle.std.specs.declared.cmp.Ordering.TheVariants.{Less, Greater}
use Rattle.std.specs.List.{find, list_all, range_with_len}
use Rattle.av_base.specs.Page.{page_size}
use Rattle.std.proofs.lemmas.List.{get_or-set_other, get_or-set_same, get_or_default}
use Rattle.std.proofs.lemmas.List.Edits.{get_or-insert_above, get_or-insert_at, get_or-insert_below, length-insert}
use Rattle.std.proofs.lemmas.List.Elements.{All-append}
use Rattle.std.proofs.lemmas.List.Folds.{find-append}
use Rattle.std.proofs.Math.ListN.{length-set}
use Rattle.std.specs.List.{insert}
use Rattle.std.specs.Option.{option_or}
use Rattle.std.specs.Prelude.{All, IfSome, IsSome, is_some}
use Rattle.av_ksm.specs.Contents.{AreKept, AreRising, bytes_in, cmp_frames, noted, IsPlace}
use Rattle.av_ksm.specs.declared.contents.Contents.{Contents}
use Rattle.av_base.specs.Keys.{Key}
use Rattle.av_plain.specs.Merge.{FrameBytes, hold_same}
use Rattle.av_ksm.specs.Known.{Known, first_like}

-- ---- bytes

-- two lists of values of functions are compared place by place
places-compared : (f g : ℕ → ℕ) (is : List ℕ) → pointwise eqb (map f is) (map g is) ≡ list_all (λ i. f i == g i) is
places-compared f g [] = refl
places-compared f g (i ∷ is) = λ j. (f i == g i) && places-compared f g is j

-- and where each place passes they are one
places-same : (f g : ℕ → ℕ) (is : List ℕ) → list_all (λ i. f i == g i) is ≡ true → map f is ≡ map g is
places-same f g [] h = refl
places-same f g (i ∷ is) h = let x = both (f i == g i) _ h in (λ j. one (f i) (g i) x.0 j ∷ places-same f g is x.1 j)
  where
    both : (a b : Bool) → (a && b) ≡ true → (a ≡ true) × (b ≡ true)
    both true b h = (refl, h)
    both false b h = absurd (false≢true h)

    one : (a b : ℕ) → (a == b) ≡ true → a ≡ b
    one a b h = grind (arith, nat_tests, h)

-- a list of a frame's bytes is that of the frame
bytes-are : (held : FrameBytes) (f : ℕ) (xs : List ℕ) → length xs ≡ page_size → ((i : ℕ) → get_or xs i 0 ≡ held f i) → xs ≡ bytes_in held f
unfolding bytes_in
bytes-are held f xs long at = fill_by_all (held f) xs page_size 0 long (λ k low. at k)

-- so the order of two such lists is that of the frames
pub bytes-compared : (held : FrameBytes) (f g : ℕ) (xs ys : List ℕ) → length xs ≡ page_size → ((i : ℕ) → get_or xs i 0 ≡ held f i)
    → length ys ≡ page_size → ((i : ℕ) → get_or ys i 0 ≡ held g i) → slice_cmp nat_cmp xs ys ≡ cmp_frames held f g
bytes-compared held f g xs ys long at long' at' = λ i. slice_cmp nat_cmp (bytes-are held f xs long at i) (bytes-are held g ys long' at' i)

-- ---- frames that hold the same

compared-same : (held : FrameBytes) (f g : ℕ) → pointwise eqb (bytes_in held f) (bytes_in held g) ≡ hold_same held f g
unfolding bytes_in
compared-same held f g = places-compared (held f) (held g) (range_with_len 0 page_size)

bytes-same : (held : FrameBytes) (f g : ℕ) → hold_same held f g ≡ true → bytes_in held f ≡ bytes_in held g
unfolding bytes_in
bytes-same held f g h = places-same (held f) (held g) (range_with_len 0 page_size) h

-- they are those that are equal in the order
pub same-ordered : (held : FrameBytes) (f g : ℕ) → hold_same held f g ≡ is_eq (cmp_frames held f g)
same-ordered held f g = sym (compared-same held f g) ∙ sym (is_eq-slice_cmp (bytes_in held f) (bytes_in held g))

pub ordered : (held : FrameBytes) → IsTotalOrder (cmp_frames held)
ordered held = on_total (bytes_in held) nat_list_cmp_total

holds-itself : (held : FrameBytes) (f : ℕ) → hold_same held f f ≡ true
holds-itself held f = same-ordered held f f ∙ ap is_eq (tied_itself (ordered held) f)

-- what holds the same as one holds the same as the other
same-alike : (held : FrameBytes) (f g : ℕ) → hold_same held f g ≡ true → (h : ℕ) → hold_same held h f ≡ hold_same held h g
same-alike held f g e h = sym (compared-same held h f) ∙ (λ i. pointwise eqb (bytes_in held h) (bytes-same held f g e i)) ∙ compared-same held h g

pub first-alike : (held : FrameBytes) (known : List Known) (f g : ℕ) → hold_same held f g ≡ true → first_like held known f ≡ first_like held known g
first-alike held known f g e = λ i. find (λ (x : Known). same-alike held f g e x.0 i) known

-- ---- a row that rises

module _ (held : FrameBytes) (row : List ℕ) (rising : AreRising held row) (f m : ℕ) where
  -- behind one that is less all before are less
  pub less-more : m < length row → cmp_frames held (get_or row m 0) f ≡ Less → (k : ℕ) → k < m + 1 → cmp_frames held (get_or row k 0) f ≡ Less
  less-more low here k before = by (eqb k m) refl
    where
      by : (b : Bool) → eqb k m ≡ b → cmp_frames held (get_or row k 0) f ≡ Less
      by true e = let is : k ≡ m = grind (arith, nat_tests, e) in subst (λ k. cmp_frames held (get_or row k 0) f ≡ Less) (sym is) here
      by false e = let lower : k < m = grind (arith, nat_tests, e, before) in
          (ordered held).trans (get_or row k 0) (get_or row m 0) f (rising k m lower low) here

  -- and from one that is greater all are greater
  pub greater-more : cmp_frames held (get_or row m 0) f ≡ Greater → (k : ℕ) → m ≤ k → k < length row → cmp_frames held (get_or row k 0) f ≡ Greater
  greater-more here k from low = by (eqb k m) refl
    where
      by : (b : Bool) → eqb k m ≡ b → cmp_frames held (get_or row k 0) f ≡ Greater
      by true e = let is : k ≡ m = grind (arith, nat_tests, e) in subst (λ k. cmp_frames held (get_or row k 0) f ≡ Greater) (sym is) here
      by false e = let higher : m < k = grind (arith, nat_tests, e, from) in
          (ordered held).antisymm (get_or row k 0) f
          ∙ ap ordering_reverse ((ordered held).trans f (get_or row m 0) (get_or row k 0)
          ((ordered held).antisymm f (get_or row m 0) ∙ ap ordering_reverse here) (rising m k higher low))

-- ---- a row with one more

module _ (xs : List ℕ) (at x : ℕ) (low : at ≤ length xs) where
  abbrev more : List ℕ
  more = insert xs at x

  -- what holds of each and of that one holds of each then
  each-insert : (P : ℕ → Type 0) → EachIndex xs (λ i. P (get_or xs i 0)) → P x → EachIndex more (λ i. P (get_or more i 0))
  each-insert P all one i within = by (eqb i at) (ltb i at) refl refl
    where
      by : (a b : Bool) → eqb i at ≡ a → ltb i at ≡ b → P (get_or more i 0)
      by true b e l = let is : i ≡ at = grind (arith, nat_tests, e) in subst P (sym (ap (λ i. get_or more i 0) is ∙ get_or-insert_at xs at x 0 low)) one
      by false true e l = let under : i < at = grind (arith, nat_tests, l) in
          subst P (sym (get_or-insert_below xs at x 0 i under low)) (all i (omega arith))
      by false false e l = let over : at < i = grind (arith, nat_tests, e, l) in above (i - 1) (omega arith) (omega arith)
        where
          above : (k : ℕ) → k + 1 ≡ i → at ≤ k → P (get_or more i 0)
          above k is from = let long = length-insert xs at x low in
              subst P (sym (ap (λ i. get_or more i 0) (sym is) ∙ get_or-insert_above xs at x 0 k from low)) (all k (omega arith))

  -- and the other way round
  each-before : (P : ℕ → Type 0) → EachIndex more (λ i. P (get_or more i 0)) → EachIndex xs (λ i. P (get_or xs i 0))
  each-before P all i within = by (ltb i at) refl
    where
      by : (b : Bool) → ltb i at ≡ b → P (get_or xs i 0)
      by true l = let under : i < at = grind (arith, nat_tests, l) in let long = length-insert xs at x low in
          subst P (get_or-insert_below xs at x 0 i under low) (all i (omega arith))
      by false l = let from : at ≤ i = grind (arith, nat_tests, l) in let long = length-insert xs at x low in
          subst P (get_or-insert_above xs at x 0 i from low) (all (i + 1) (omega arith))

  one-before : (P : ℕ → Type 0) → EachIndex more (λ i. P (get_or more i 0)) → P x
  one-before P all = let long = length-insert xs at x low in subst P (get_or-insert_at xs at x 0 low) (all at (omega arith))

-- a row that rises does so with one more in its place
rising-more : (held : FrameBytes) (row : List ℕ) (i f : ℕ) → AreRising held row → IsPlace held row f (Err i) → AreRising held (insert row i f)
rising-more held row i f rising place a b before within = by (eqb b i) (ltb b i) refl refl
  where
    under : (k : ℕ) → k < i → get_or (insert row i f) k 0 ≡ get_or row k 0
    under k low = get_or-insert_below row i f 0 k low place.0

    here : get_or (insert row i f) i 0 ≡ f
    here = get_or-insert_at row i f 0 place.0

    over : (k : ℕ) → i ≤ k → get_or (insert row i f) (k + 1) 0 ≡ get_or row k 0
    over k from = get_or-insert_above row i f 0 k from place.0

    Below : ℕ → ℕ → Type 0
    Below x y = cmp_frames held x y ≡ Less

    by : (p q : Bool) → eqb b i ≡ p → ltb b i ≡ q → cmp_frames held (get_or (insert row i f) a 0) (get_or (insert row i f) b 0) ≡ Less
    by true q e l =
        let is : b ≡ i = grind (arith, nat_tests, e) in
        let low : a < i = omega arith in
        (λ j. cmp_frames held (under a low j) (get_or (insert row i f) (is j) 0)) ∙ ap (cmp_frames held (get_or row a 0)) here ∙ place.1 a low
    by false true e l =
        let low : b < i = grind (arith, nat_tests, l) in
        let lower : a < i = omega arith in
        (λ j. cmp_frames held (under a lower j) (under b low j)) ∙ rising a b before (omega (arith, place.0))
    by false false e l =
        let high : i < b = grind (arith, nat_tests, e, l) in
        behind (b - 1) (omega arith) (omega arith)
      where
        behind : (k : ℕ) → b ≡ k + 1 → i ≤ k → cmp_frames held (get_or (insert row i f) a 0) (get_or (insert row i f) b 0) ≡ Less
        behind k is from = ap (λ b. cmp_frames held (get_or (insert row i f) a 0) (get_or (insert row i f) b 0)) is
            ∙ ap (cmp_frames held (get_or (insert row i f) a 0)) (over k from) ∙ first (eqb a i) (ltb a i) refl refl
          where
            low : k < length row
            low = let long = length-insert row i f place.0 in omega arith

            first : (p q : Bool) → eqb a i ≡ p → ltb a i ≡ q → cmp_frames held (get_or (insert row i f) a 0) (get_or row k 0) ≡ Less
            first true q e l =
                let at : a ≡ i = grind (arith, nat_tests, e) in
                ap (λ a. cmp_frames held (get_or (insert row i f) a 0) (get_or row k 0)) at ∙ ap (λ g. cmp_frames held g (get_or row k 0)) here
                ∙ (ordered held).antisymm f (get_or row k 0) ∙ ap ordering_reverse (place.2 k from low)
            first false true e l =
                let lower : a < i = grind (arith, nat_tests, l) in
                ap (λ g. cmp_frames held g (get_or row k 0)) (under a lower) ∙ rising a k (omega arith) low
            first false false e l =
                let higher : i < a = grind (arith, nat_tests, e, l) in
                both (a - 1) (omega arith) (omega arith)
              where
                both : (m : ℕ) → a ≡ m + 1 → i ≤ m → cmp_frames held (get_or (insert row i f) a 0) (get_or row k 0) ≡ Less
                both m at from = ap (λ a. cmp_frames held (get_or (insert row i f) a 0) (get_or row k 0)) at
                    ∙ ap (λ g. cmp_frames held g (get_or row k 0)) (over m from) ∙ rising m k (omega arith) low

-- ---- options

some-or : {X : Type 0} (o p : Option X) → IsSome o → option_or o p ≡ o
some-or None p h = absurd (false≢true h)
some-or (Some x) p h = refl

-- what is found passes what all do
found-all : {X : Type 0} (P : X → Type 0) (p : X → Bool) (xs : List X) → ((k : ℕ) (d : X) → k < length xs → P (get_or xs k d)) → IfSome (find p xs) P
found-all P p [] all = tt
found-all P p (x ∷ xs) all = by (p x) (found-all P p xs (λ k d low. all (suc k) d (omega arith)))
  where
    by : (b : Bool) → IfSome (find p xs) P → IfSome (cond b (Some x) (find p xs)) P
    by true rest = all 0 x (omega arith)
    by false rest = rest

pub found-below : (n : ℕ) (o : Option Known) (f : ℕ) (page : Option Key) → o ≡ Some (f, page) → IfSome o (λ x. x.0 < n) → f < n
found-below n o f page is low = subst (λ o. IfSome o (λ (x : Known). x.0 < n)) is low

-- ---- what is kept

-- what is noted, where it is noted of one frame more
noted-each : (c c' : Contents) (f : ℕ) (o : Option Known) → f < length c.like.items → c'.like.items ≡ set c.like.items f o
    → (P : ℕ → Option Known → Type 0) → P f o → (g : ℕ) → P g (noted c g) → P g (noted c' g)
noted-each c c' f o low is P one g rest = by (eqb g f) refl
  where
    by : (b : Bool) → eqb g f ≡ b → P g (noted c' g)
    by true e = let same : g ≡ f = grind (arith, nat_tests, e) in
        subst (λ g. P g (noted c' g)) (sym same) (subst (P f) (sym (ap (λ l. get_or l f None) is ∙ get_or-set_same c.like.items f o None low)) one)
    by false e = let other : g ≡ f → ⊥ = grind (arith, nat_tests, e) in
        subst (P g) (sym (ap (λ l. get_or l g None) is ∙ get_or-set_other c.like.items f g o None other)) rest

-- the first one, with one more known
first-more : (held : FrameBytes) (known : List Known) (x : Known) (f : ℕ)
    → first_like held (known ++ x ∷ []) f ≡ option_or (first_like held known f) (cond (hold_same held x.0 f) (Some x) None)
first-more held known x f = find-append (λ (x : Known). hold_same held x.0 f) known (x ∷ [])

below-more : (n : ℕ) (known : List Known) (x : Known) → All (λ (x : Known). x.0 < n) known → x.0 < n → All (λ (x : Known). x.0 < n) (known ++ x ∷ [])
below-more n known x all low = All-append (λ (x : Known). x.0 < n) known (x ∷ []) all one
  where
    one : (k : ℕ) (d : Known) → k < 1 → (get_or (x ∷ []) k d).0 < n
    one zero d h = low
    one (suc k) d h = absurd (omega arith)

module _ (n : ℕ) (held : FrameBytes) (known : List Known) (c : Contents) (kept : AreKept n held known c) where
  -- what is read of a frame's note
  read : (f : ℕ) (o : Option Known) → f < n → o ≡ get_or c.like.items f o → o ≡ noted c f
  read f o low is = is ∙ get_or_default c.like.items f o None (omega (arith, kept.long))

  -- if it is one, it is the first one like it
  pub noted-first : (f : ℕ) (o : Option Known) → f < n → o ≡ get_or c.like.items f o → IsSome o → o ≡ first_like held known f
  noted-first f o low is some = let at = read f o low is in at ∙ kept.first f (ap is_some (sym at) ∙ some)

  -- what is noted of the one that the row has at a frame's place
  module _ (f i g : ℕ) (o : Option Known) (place : IsPlace held c.row.items f (Ok i)) (at : g ≡ get_or c.row.items i g) (is : o ≡ get_or c.like.items g o) where
    place-noted : o ≡ noted c (get_or c.row.items i 0)
    place-noted =
        let there = at ∙ get_or_default c.row.items i g 0 place.0 in
        read g o (subst (λ g. g < n) (sym there) (kept.row_below i place.0)) is ∙ ap (noted c) there

    pub place-some : IsSome o
    place-some = ap is_some place-noted ∙ kept.row_noted i place.0

    pub place-first : o ≡ first_like held known f
    place-first = place-noted ∙ kept.first (get_or c.row.items i 0) (kept.row_noted i place.0)
        ∙ first-alike held known (get_or c.row.items i 0) f (same-ordered held (get_or c.row.items i 0) f ∙ ap is_eq place.1)

  -- where the row has none, none is known
  pub place-none : (f i : ℕ) → IsPlace held c.row.items f (Err i) → first_like held known f ≡ None
  place-none f i place = kept.whole f (λ k low. same-ordered held (get_or c.row.items k 0) f ∙ by k low (ltb k i) refl)
    where
      by : (k : ℕ) → k < length c.row.items → (b : Bool) → ltb k i ≡ b → is_eq (cmp_frames held (get_or c.row.items k 0) f) ≡ false
      by k low true e = let under : k < i = grind (arith, nat_tests, e) in ap is_eq (place.1 k under)
      by k low false e = let from : i ≤ k = grind (arith, nat_tests, e) in ap is_eq (place.2 k from low)

  pub first-below : (f : ℕ) (o : Option Known) → o ≡ first_like held known f → IfSome o (λ x. x.0 < n)
  first-below f o is = subst (λ o. IfSome o (λ (x : Known). x.0 < n)) (sym is)
      (found-all (λ (x : Known). x.0 < n) (λ (x : Known). hold_same held x.0 f) known kept.below)

  -- the first one is noted of a frame
  pub kept-noted : (c' : Contents) (f : ℕ) (o : Option Known) → f < n → c'.like.items ≡ set c.like.items f o → c'.row.items ≡ c.row.items
      → o ≡ first_like held known f → IsSome o → AreKept n held known c'
  kept-noted c' f o low like row is some = record {
    long = ap length like ∙ length-set c.like.items f o ∙ kept.long;
    first = λ g. noted-each c c' f o (omega (arith, kept.long)) like (λ g o. IsSome o → o ≡ first_like held known g) (λ h. is) g (kept.first g);
    below = kept.below;
    row_below = subst (λ (r : List ℕ). EachIndex r (λ i. get_or r i 0 < n)) (sym row) kept.row_below;
    rising = subst (AreRising held) (sym row) kept.rising;
    row_noted = subst (λ (r : List ℕ). EachIndex r (λ i. IsSome (noted c' (get_or r i 0)))) (sym row)
        (λ i within. noted-each c c' f o (omega (arith, kept.long)) like (λ g o. IsSome o) some (get_or c.row.items i 0) (kept.row_noted i within));
    whole = λ g. subst (λ (r : List ℕ). EachIndex r (λ i. hold_same held (get_or r i 0) g ≡ false) → first_like held known g ≡ None) (sym row) (kept.whole g);
  }

  -- one more that holds the same as one that is known changes nothing
  pub kept-more : (x : Known) → x.0 < n → IsSome (first_like held known x.0) → AreKept n held (known ++ x ∷ []) c
  kept-more x low some = record {
    long = kept.long;
    first = λ f h. kept.first f h ∙ sym (first-more held known x f ∙ some-or (first_like held known f) _ (ap is_some (sym (kept.first f h)) ∙ h));
    below = below-more n known x kept.below low;
    row_below = kept.row_below;
    rising = kept.rising;
    row_noted = kept.row_noted;
    whole = λ f none. first-more held known x f ∙ ap (λ o. option_or o (cond (hold_same held x.0 f) (Some x) None)) (kept.whole f none) ∙ other f none (hold_same held x.0 f) refl;
  }
    where
      other : (f : ℕ) → EachIndex c.row.items (λ i. hold_same held (get_or c.row.items i 0) f ≡ false) → (b : Bool) → hold_same held x.0 f ≡ b → cond b (Some x) None ≡ None
      other f none true e = absurd (false≢true (sym (ap is_some (first-alike held known x.0 f e ∙ kept.whole f none)) ∙ some))
      other f none false e = refl

  -- one more that holds what none does is known, and has its place
  pub kept-added : (c' : Contents) (f i : ℕ) (page : Option Key) → f < n → IsPlace held c.row.items f (Err i)
      → c'.like.items ≡ set c.like.items f (Some (f, page)) → c'.row.items ≡ insert c.row.items i f → AreKept n held (known ++ (f, page) ∷ []) c'
  kept-added c' f i page low place like row = record {
    long = ap length like ∙ length-set c.like.items f (Some (f, page)) ∙ kept.long;
    first = λ g. noted-each c c' f (Some (f, page)) (omega (arith, kept.long)) like (λ g o. IsSome o → o ≡ first_like held (known ++ (f, page) ∷ []) g)
        (λ h. sym (first-more held known (f, page) f ∙ ap (λ o. option_or o (cond (hold_same held f f) (Some (f, page)) None)) (place-none f i place)
        ∙ ap (λ b. cond b (Some (f, page)) None) (holds-itself held f))) g
        (λ h. kept.first g h ∙ sym (first-more held known (f, page) g ∙ some-or (first_like held known g) _ (ap is_some (sym (kept.first g h)) ∙ h)));
    below = below-more n known (f, page) kept.below low;
    row_below = subst (λ (r : List ℕ). EachIndex r (λ i. get_or r i 0 < n)) (sym row) (each-insert c.row.items i f place.0 (λ g. g < n) kept.row_below low);
    rising = subst (AreRising held) (sym row) (rising-more held c.row.items i f kept.rising place);
    row_noted = subst (λ (r : List ℕ). EachIndex r (λ i. IsSome (noted c' (get_or r i 0)))) (sym row)
        (each-insert c.row.items i f place.0 (λ g. IsSome (noted c' g))
        (λ k within. noted-each c c' f (Some (f, page)) (omega (arith, kept.long)) like (λ g o. IsSome o) refl (get_or c.row.items k 0) (kept.row_noted k within))
        (ap is_some (ap (λ l. get_or l f None) like ∙ get_or-set_same c.like.items f (Some (f, page)) None (omega (arith, kept.long)))));
    whole = λ g none.
        let all = subst (λ (r : List ℕ). EachIndex r (λ i. hold_same held (get_or r i 0) g ≡ false)) row none in
        first-more held known (f, page) g
        ∙ (λ j. option_or (kept.whole g (each-before c.row.items i f place.0 (λ h. hold_same held h g ≡ false) all) j)
        (cond (one-before c.row.items i f place.0 (λ h. hold_same held h g ≡ false) all j) (Some (f, page)) None));
  }

-- what is kept stays so while there are as many frames, and they hold what they did
pub kept-still : (n m : ℕ) (held new : FrameBytes) (known : List Known) (c : Contents) → m ≡ n → new ≡ held → AreKept n held known c → AreKept m new known c
kept-still n m held new known c is same kept = subst (λ k. AreKept k new known c) (sym is) (subst (λ h. AreKept n h known c) (sym same) kept)
