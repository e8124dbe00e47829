-- The lists of items, after each call.
use Rattle.std.proofs.Common.{◌≡◌, ℕ, zero, suc, ◌+◌, ◌<◌, ◌≤◌, Bool, true, false, cond, ◌||◌, ◌==◌, List, [], ◌∷◌, ◌++◌, length, replicate, get_or}
use Rattle.std.proofs.Common.{set, refl, sym, ap, subst, ◌∙◌, ◌^◌, arith, length-set, get_or-set_same, get_or-set_other}
use Rattle.std.specs.List.{swap}
use Rattle.std.specs.Prelude.{MatchResult, Result, Ok, Err}
use Rattle.std.proofs.lemmas.Bool.{false≢true}
use Rattle.std.proofs.lemmas.Bool.Decides.{nat_tests}
use Rattle.std.proofs.lemmas.List.{length-replicate}
use Rattle.av_base.specs.Items.{Item, is_item, same_item, with_item}
use Rattle.av_base.specs.Words.{how_many, with_at}
use Rattle.av_base.proofs.Counted.{count-most, count-none, count-set, count-some}
use Rattle.av_rmap.specs.Items.{AreOnce, is_merged, none_merged, shown, with_items, with_renamed}
use Rattle.av_rmap.specs.ItemLists.{AllOnce, AreKept}

-- ---- no item twice

pub not_item : (x : Item) (items : List Item) → is_item x items ≡ false → how_many (same_item x) items ≡ 0
not_item x [] h = refl
not_item x (y ∷ items) h = elim (same_item x y) as (λ b. b || is_item x items ≡ false → cond b 1 0 + how_many (same_item x) items ≡ 0) [
  | true ↦ λ e. absurd (false≢true (sym e))
  | false ↦ λ e. let rest = not_item x items e in omega (arith, rest)
] h

pub some_item : (x : Item) (items : List Item) → is_item x items ≡ true → 0 < how_many (same_item x) items
some_item x [] h = absurd (false≢true h)
some_item x (y ∷ items) h = elim (same_item x y) as (λ b. b || is_item x items ≡ true → 0 < cond b 1 0 + how_many (same_item x) items) [
  | true ↦ λ e. omega arith
  | false ↦ λ e. let rest = some_item x items e in omega (arith, rest)
] h

many-push : (test : Item → Bool) (items : List Item) (x : Item) → how_many test (items ++ x ∷ []) ≡ how_many test items + cond (test x) 1 0
many-push test [] x = omega arith
many-push test (y ∷ items) x = let rest = many-push test items x in omega (arith, rest)

-- two items that are one count alike
same-many : (y x : Item) (items : List Item) → same_item y x ≡ true → how_many (same_item y) items ≡ how_many (same_item x) items
same-many y x items e = λ i. how_many (same_item (first i, second i)) items
  where
    first : y.0 ≡ x.0
    first = grind (arith, nat_tests, e)

    second : y.1 ≡ x.1
    second = grind (arith, nat_tests, e)

pub once_with : (x : Item) (items : List Item) → AreOnce items → AreOnce (with_item x items)
once_with x items once = by (is_item x items) refl
  where
    by : (b : Bool) → is_item x items ≡ b → AreOnce (cond (is_item x items) items (items ++ x ∷ []))
    by true e = subst (λ b. AreOnce (cond b items (items ++ x ∷ []))) (sym e) once
    by false e = subst (λ b. AreOnce (cond b items (items ++ x ∷ []))) (sym e) (λ y. each y (same_item y x) refl)
      where
        each : (y : Item) (b : Bool) → same_item y x ≡ b → how_many (same_item y) (items ++ x ∷ []) ≤ 1
        each y true s =
            let all = many-push (same_item y) items x in
            let none = same-many y x items s ∙ not_item x items e in
            let one = ap (λ b. cond {A = ℕ} b 1 0) s in
            omega (arith, all, none, one)
        each y false s =
            let all = many-push (same_item y) items x in
            let some = once y in
            let none = ap (λ b. cond {A = ℕ} b 1 0) s in
            omega (arith, all, some, none)

-- ---- the list of one frame changes

at-set : (lists : List (List Item)) (f : ℕ) (items : List Item) → f < length lists
    → (λ g. get_or (set lists f items) g []) ≡ with_at f items (λ g. get_or lists g [])
at-set lists f items below = λ i g. point g (g == f) refl i
  where
    point : (g : ℕ) (b : Bool) → (g == f) ≡ b → get_or (set lists f items) g [] ≡ cond (g == f) items (get_or lists g [])
    point g true e = let is : g ≡ f = grind (arith, nat_tests, e) in
        ap (λ n. get_or (set lists f items) n []) is ∙ get_or-set_same lists f items [] below ∙ sym (ap (λ b. cond b items (get_or lists g [])) e)
    point g false e = let ne : g ≡ f → ⊥ = grind (arith, nat_tests, e) in
        get_or-set_other lists f g items [] ne ∙ sym (ap (λ b. cond b items (get_or lists g [])) e)

pub shown-set : (lists : List (List Item)) (f : ℕ) (items : List Item) → f < length lists
    → shown (set lists f items) ≡ with_items f items (shown lists)
shown-set lists f items below = λ i. record { frames = length-set lists f items i; items = at-set lists f items below i }

pub once-set : (lists : List (List Item)) (f : ℕ) (items : List Item) → f < length lists → AllOnce lists → AreOnce items → AllOnce (set lists f items)
once-set lists f items below all once g = by (g == f) refl
  where
    by : (b : Bool) → (g == f) ≡ b → AreOnce (get_or (set lists f items) g [])
    by true e = let is : f ≡ g = grind (arith, nat_tests, e) in
        subst (λ n. AreOnce (get_or (set lists f items) n [])) is (subst AreOnce (sym (get_or-set_same lists f items [] below)) once)
    by false e = let ne : g ≡ f → ⊥ = grind (arith, nat_tests, e) in
        subst AreOnce (sym (get_or-set_other lists f g items [] ne)) (all g)

-- that of a frame changes, and it is counted: what that asks, and what is kept then
pub record IsRecounted (lists : List (List Item)) (f : ℕ) (items : List Item) (old : ℕ) : Type 0 where
  pub few : old + cond (is_merged items) 1 0 < 2 ^ 32 + cond (is_merged (get_or lists f [])) 1 0
  pub kept : (new : ℕ) → new + cond (is_merged (get_or lists f [])) 1 0 ≡ old + cond (is_merged items) 1 0 → AreKept (set lists f items) new

pub recounted : (lists : List (List Item)) (f : ℕ) (items : List Item) (old : ℕ) → f < length lists → AreKept lists old → AreOnce items
    → IsRecounted lists f items old
recounted lists f items old below kept once =
    let moved = count-set is_merged lists f items [] below in
    let most = count-most is_merged (set lists f items) in
    let same = length-set lists f items in
    record {
      few = omega (arith, kept.counted, kept.few, moved, most, same);
      kept = λ new sum. record {
        once = once-set lists f items below kept.once once;
        few = subst (λ n. n < 2 ^ 32) (sym same) kept.few;
        counted = omega (arith, sum, kept.counted, moved);
      };
    }

-- ---- the list of a frame that there is

pub item-at : (lists : List (List Item)) (f : ℕ) (d : List Item) → f < length lists → get_or lists f d ≡ get_or lists f []
item-at [] f d below = absurd (omega (arith, below))
item-at (w ∷ lists) zero d below = refl
item-at (w ∷ lists) (suc f) d below = item-at lists f d (omega (arith, below))

pub lists-swap : (lists : List (List Item)) (i j : ℕ) → i < length lists → j < length lists
    → swap lists i j ≡ set (set lists i (get_or lists j [])) j (get_or lists i [])
lists-swap [] i j a b = absurd (omega (arith, a))
lists-swap (d ∷ lists) i j a b = λ k. set (set (d ∷ lists) i (item-at (d ∷ lists) j d b k)) j (item-at (d ∷ lists) i d a k)

-- the list of one frame changes, and it is counted by what is said of it
module _ (lists v : List (List Item)) (f : ℕ) (old : ℕ) (was : Bool) (seen : lists ≡ v) (below : f < length v) (said : was ≡ is_merged (get_or v f [])) where
  there : f < length lists
  there = subst (λ (v : List (List Item)). f < length v) (sym seen) below

  was_one : ◌≡◌ {A = ℕ} (cond was 1 0) (cond (is_merged (get_or lists f [])) 1 0)
  was_one = ap (λ b. cond {A = ℕ} b 1 0) (said ∙ ap (λ (v : List (List Item)). is_merged (get_or v f [])) (sym seen))

  pub was-some : AreKept lists old → cond was 1 0 ≤ old
  was-some kept = omega (arith, kept.counted, count-some is_merged lists f [] there, was_one)

  pub is-few : AreKept lists old → (now : List Item) → AreOnce now → (is : Bool) → is ≡ is_merged now → old + cond is 1 0 < 2 ^ 32 + cond was 1 0
  is-few kept now once is said =
      let few = (recounted lists f now old there kept once).few in omega (arith, few, was_one, ap (λ b. cond {A = ℕ} b 1 0) said)

  pub is-kept : AreKept lists old → (now : List Item) → AreOnce now → (is : Bool) → is ≡ is_merged now
      → (new : ℕ) → new + cond was 1 0 ≡ old + cond is 1 0 → AreKept (set lists f now) new
  is-kept kept now once is said new sum =
      (recounted lists f now old there kept once).kept new (omega (arith, sum, was_one, ap (λ b. cond {A = ℕ} b 1 0) said))

-- one frame's list goes to another, which has none
pub shown-moved : (lists : List (List Item)) (f t : ℕ) → f < length lists → t < length lists → get_or lists t [] ≡ []
    → shown (set (set lists f (get_or lists t [])) t (get_or lists f [])) ≡ with_renamed f t (shown lists)
shown-moved lists f t a b none =
    shown-set (set lists f (get_or lists t [])) t (get_or lists f []) (subst (λ n. t < n) (sym (length-set lists f (get_or lists t []))) b)
    ∙ ap (with_items t (get_or lists f [])) (shown-set lists f (get_or lists t []) a ∙ ap (λ xs. with_items f xs (shown lists)) none)
    ∙ turned (f == t) refl
  where
    turned : (b : Bool) → (f == t) ≡ b → with_items t (get_or lists f []) (with_items f [] (shown lists)) ≡ with_renamed f t (shown lists)
    turned b e = λ i. record { frames = length lists; items = λ g. point g (g == f) (g == t) refl refl i }
      where
        point : (g : ℕ) (x y : Bool) → (g == f) ≡ x → (g == t) ≡ y
            → cond (g == t) (get_or lists f []) (cond (g == f) [] (get_or lists g []))
            ≡ cond (g == f) [] (cond (g == t) (get_or lists f []) (get_or lists g []))
        point g true true p q =
            let is : f ≡ t = grind (arith, nat_tests, p, q) in
            ap (λ c. cond c (get_or lists f []) (cond (g == f) [] (get_or lists g []))) q ∙ ap (λ n. get_or lists n []) is ∙ none
            ∙ sym (ap (λ c. cond c [] (cond (g == t) (get_or lists f []) (get_or lists g []))) p)
        point g true false p q =
            ap (λ c. cond c (get_or lists f []) (cond (g == f) [] (get_or lists g []))) q ∙ ap (λ c. cond c [] (get_or lists g [])) p
            ∙ sym (ap (λ c. cond c [] (cond (g == t) (get_or lists f []) (get_or lists g []))) p)
        point g false true p q =
            ap (λ c. cond c (get_or lists f []) (cond (g == f) [] (get_or lists g []))) q
            ∙ sym (ap (λ c. cond c [] (cond (g == t) (get_or lists f []) (get_or lists g []))) p
            ∙ ap (λ c. cond c (get_or lists f []) (get_or lists g [])) q)
        point g false false p q =
            ap (λ c. cond c (get_or lists f []) (cond (g == f) [] (get_or lists g []))) q ∙ ap (λ c. cond c [] (get_or lists g [])) p
            ∙ sym (ap (λ c. cond c [] (cond (g == t) (get_or lists f []) (get_or lists g []))) p
            ∙ ap (λ c. cond c (get_or lists f []) (get_or lists g [])) q)

pub once-moved : (lists : List (List Item)) (f t : ℕ) → f < length lists → t < length lists → AllOnce lists
    → AllOnce (set (set lists f (get_or lists t [])) t (get_or lists f []))
once-moved lists f t a b all =
    once-set (set lists f (get_or lists t [])) t (get_or lists f []) (subst (λ n. t < n) (sym (length-set lists f (get_or lists t []))) b)
    (once-set lists f (get_or lists t []) a all (all t)) (all f)

-- as many frames are merged then
pub kept-moved : (lists : List (List Item)) (f t : ℕ) (merged : ℕ) → f < length lists → t < length lists → get_or lists t [] ≡ []
    → AreKept lists merged → AreKept (set (set lists f (get_or lists t [])) t (get_or lists f [])) merged
kept-moved lists f t merged a b none kept =
    let mid = set lists f (get_or lists t []) in
    let low : t < length mid = subst (λ n. t < n) (sym (length-set lists f (get_or lists t []))) b in
    let first = count-set is_merged lists f (get_or lists t []) [] a in
    let then = count-set is_merged mid t (get_or lists f []) [] low in
    let still : get_or mid t [] ≡ [] = left (t == f) refl in
    record {
      once = once-moved lists f t a b kept.once;
      few = subst (λ n. n < 2 ^ 32) (sym (length-set mid t (get_or lists f []) ∙ length-set lists f (get_or lists t []))) kept.few;
      counted = omega (
        arith,
        kept.counted,
        first,
        then,
        ap (λ items. cond {A = ℕ} (is_merged items) 1 0) none,
        ap (λ items. cond {A = ℕ} (is_merged items) 1 0) still,
      );
    }
  where
    left : (x : Bool) → (t == f) ≡ x → get_or (set lists f (get_or lists t [])) t [] ≡ []
    left true e = let is : t ≡ f = grind (arith, nat_tests, e) in
        ap (λ n. get_or (set lists f (get_or lists t [])) n []) is ∙ get_or-set_same lists f (get_or lists t []) [] a ∙ none
    left false e = let ne : t ≡ f → ⊥ = grind (arith, nat_tests, e) in get_or-set_other lists f t (get_or lists t []) [] ne ∙ none

-- ---- no item at all

pub none-replicate : (n : ℕ) → shown (replicate n []) ≡ none_merged n
none-replicate n = λ i. record { frames = length-replicate {A = List Item} n [] i; items = λ f. each n f i }
  where
    each : (n f : ℕ) → ◌≡◌ {A = List Item} (get_or (replicate n []) f []) []
    each zero f = refl
    each (suc n) zero = refl
    each (suc n) (suc f) = each n f

pub replicate-next : (n m : ℕ) → m ≡ n + 1 → replicate {A = List Item} n [] ++ [] ∷ [] ≡ replicate m []
replicate-next n m e = next n ∙ ap (λ k. replicate {A = List Item} k []) (let s : suc n ≡ m = omega (arith, e) in s)
  where
    next : (n : ℕ) → replicate {A = List Item} n [] ++ [] ∷ [] ≡ replicate (suc n) []
    next zero = refl
    next (suc n) = ap (λ l. [] ∷ l) (next n)

pub none-once : (lists : List (List Item)) (n : ℕ) → lists ≡ replicate n [] → AllOnce lists
none-once lists n e = subst AllOnce (sym e) (all n)
  where
    all : (n f : ℕ) (x : Item) → how_many (same_item x) (get_or (replicate n []) f []) ≤ 1
    all zero f x = omega arith
    all (suc n) zero x = omega arith
    all (suc n) (suc f) x = all n f x

pub none-kept : (lists : List (List Item)) (n : ℕ) → n < 2 ^ 32 → lists ≡ replicate n [] → AreKept lists 0
none-kept lists n few e = record {
  once = none-once lists n e;
  few = subst (λ l. length {A = List Item} l < 2 ^ 32) (sym e) (subst (λ m. m < 2 ^ 32) (sym (length-replicate {A = List Item} n [])) few);
  counted = sym (ap (how_many is_merged) e ∙ count-none is_merged [] n refl);
}

-- ---- one more item

abbrev pub IsAdded : {E : Type 0} → Result (Unit {0}) E → Item → List Item → List Item → Type 0
IsAdded r x old new = MatchResult r (λ _. new ≡ with_item x old) (λ _. new ≡ old)

pub once_added : {E : Type 0} (r : Result (Unit {0}) E) (x : Item) (old new : List Item) → IsAdded r x old new → AreOnce old → AreOnce new
once_added (Ok u) x old new e once = subst AreOnce (sym e) (once_with x old once)
once_added (Err u) x old new e once = subst AreOnce (sym e) once

pub shown_added : {E : Type 0} (r : Result (Unit {0}) E) (lists : List (List Item)) (f : ℕ) (x : Item) (old new : List Item) → f < length lists
    → old ≡ get_or lists f [] → IsAdded r x old new
    → MatchResult r (λ _. shown (set lists f new) ≡ with_items f (with_item x (get_or lists f [])) (shown lists))
    (λ _. shown (set lists f new) ≡ shown lists)
shown_added (Ok u) lists f x old new below is e =
    shown-set lists f new below ∙ ap (λ xs. with_items f xs (shown lists)) (e ∙ ap (with_item x) is)
shown_added (Err u) lists f x old new below is e =
    shown-set lists f new below ∙ ap (λ xs. with_items f xs (shown lists)) (e ∙ is)
    ∙ (λ i. record { frames = length lists; items = λ g. same g (g == f) refl i })
  where
    same : (g : ℕ) (b : Bool) → (g == f) ≡ b → cond (g == f) (get_or lists f []) (get_or lists g []) ≡ get_or lists g []
    same g true h = let at : f ≡ g = grind (arith, nat_tests, h) in
        ap (λ b. cond b (get_or lists f []) (get_or lists g [])) h ∙ ap (λ n. get_or lists n []) at
    same g false h = ap (λ b. cond b (get_or lists f []) (get_or lists g [])) h
