-- Keys as they are put in, and go.
use Rattle.std.proofs.Common.{◌≡◌, ◌<◌, List, [], ◌∷◌, length, Bool, true, false, cond, Some, None, refl, sym, ap, subst, ◌∙◌, arith}
use Rattle.std.specs.Prelude.{◌&&◌, ◌==◌}
use Rattle.std.specs.declared.cmp.Ordering.{Ordering}
use Rattle.std.specs.declared.cmp.Ordering.TheVariants.{Less, Equal, Greater}
use Rattle.std.specs.BTreeMap.{insert_entry, is_at}
use Rattle.std.specs.Cmp.{eq_by_cmp_equiv}
use Rattle.std.specs.List.{AllByRecursion}
use Rattle.std.specs.List.Sorted.{IsStrictlySortedBy}
use Rattle.std.specs.Map.{keys_of, lookup, remove_entry}
use Rattle.std.specs.Ordering.{match_ordering}
use Rattle.std.proofs.lemmas.Bool.Decides.{nat_tests}
use Rattle.std.proofs.lemmas.Map.{lookup-remove_entry}
use Rattle.std.proofs.lemmas.Map.Keys.{IsDistinct-from_sorted}
use Rattle.av_base.proofs.Keys.{keys_total}
use Rattle.av_base.specs.Keys.{Key, key_cmp, same_key}
use Rattle.av_audit_index.specs.Keys.{AreRising}

-- ---- what a key is, after one was put in or went

other-way : (q k : Key) → is_at (key_cmp q) k ≡ same_key k q
other-way q k = grind (arith, nat_tests)

same-both : (q k x : Key) → key_cmp k x ≡ Equal → is_at (key_cmp q) x ≡ same_key k q
same-both q k x e = grind (arith, nat_tests)

not-both : (q k x : Key) → key_cmp k x ≡ Greater → is_at (key_cmp q) x ≡ true → same_key k q ≡ false
not-both q k x e h = grind (arith, nat_tests)

pub put-at : (es : List (Key × Bool)) (k : Key) (b : Bool) (q : Key)
    → lookup (is_at (key_cmp q)) (insert_entry key_cmp es k b) ≡ cond (same_key k q) (Some b) (lookup (is_at (key_cmp q)) es)
put-at [] k b q = ap (λ t. cond t (Some b) None) (other-way q k)
put-at (e ∷ es) k b q = by (key_cmp k e.0) refl (put-at es k b q)
  where
    equal : (s t : Bool) → s ≡ t → cond s (Some b) (lookup (is_at (key_cmp q)) es)
        ≡ cond t (Some b) (cond s (Some e.1) (lookup (is_at (key_cmp q)) es))
    equal true true h = refl
    equal false false h = refl
    equal true false h = cc
    equal false true h = cc

    greater : (s t : Bool) → (s ≡ true → t ≡ false) → cond s (Some e.1) (cond t (Some b) (lookup (is_at (key_cmp q)) es))
        ≡ cond t (Some b) (cond s (Some e.1) (lookup (is_at (key_cmp q)) es))
    greater true true h = let no = h refl in cc
    greater true false h = refl
    greater false true h = refl
    greater false false h = refl

    by : (o : Ordering) → key_cmp k e.0 ≡ o
        → lookup (is_at (key_cmp q)) (insert_entry key_cmp es k b) ≡ cond (same_key k q) (Some b) (lookup (is_at (key_cmp q)) es)
        → lookup (is_at (key_cmp q)) (match_ordering o ((k, b) ∷ e ∷ es) ((e.0, b) ∷ es) (e ∷ insert_entry key_cmp es k b))
        ≡ cond (same_key k q) (Some b) (cond (is_at (key_cmp q) e.0) (Some e.1) (lookup (is_at (key_cmp q)) es))
    by Less h rest = ap (λ t. cond t (Some b) (cond (is_at (key_cmp q) e.0) (Some e.1) (lookup (is_at (key_cmp q)) es))) (other-way q k)
    by Equal h rest = equal (is_at (key_cmp q) e.0) (same_key k q) (same-both q k e.0 h)
    by Greater h rest = ap (λ o. cond (is_at (key_cmp q) e.0) (Some e.1) o) rest
        ∙ greater (is_at (key_cmp q) e.0) (same_key k q) (not-both q k e.0 h)

pub left-at : (es : List (Key × Bool)) (k q : Key) → IsStrictlySortedBy key_cmp (keys_of es)
    → lookup (is_at (key_cmp q)) (remove_entry (is_at (key_cmp k)) es) ≡ cond (same_key k q) None (lookup (is_at (key_cmp q)) es)
left-at es k q rising =
    lookup-remove_entry (eq_by_cmp_equiv keys_total) (is_at (key_cmp k)) one q es (IsDistinct-from_sorted key_cmp (keys_of es) rising)
  where
    one : (x y : Key) → is_at (key_cmp k) x ≡ true → is_at (key_cmp k) y ≡ same_key x y
    one x y h = grind (arith, nat_tests)

-- ---- the keys rise as before

abbrev Below : Key → List (Key × Bool) → Type 0
Below x es = AllByRecursion (λ y. key_cmp x y ≡ Less) (keys_of es)

further : (x y z : Key) → key_cmp x y ≡ Less → key_cmp y z ≡ Less → key_cmp x z ≡ Less
further x y z a b = grind (arith, nat_tests)

flipped : (x y : Key) → key_cmp x y ≡ Greater → key_cmp y x ≡ Less
flipped x y h = grind (arith, nat_tests)

below-all : (x y : Key) (es : List (Key × Bool)) → key_cmp x y ≡ Less → Below y es → Below x es
below-all x y [] less h = tt
below-all x y (e ∷ es) less h = (further x y e.0 less h.0, below-all x y es less h.1)

below-put : (x : Key) (es : List (Key × Bool)) (k : Key) (b : Bool) → key_cmp x k ≡ Less → Below x es → Below x (insert_entry key_cmp es k b)
below-put x [] k b less h = (less, tt)
below-put x (e ∷ es) k b less h = by (key_cmp k e.0) (below-put x es k b less h.1)
  where
    by : (o : Ordering) → Below x (insert_entry key_cmp es k b)
        → Below x (match_ordering o ((k, b) ∷ e ∷ es) ((e.0, b) ∷ es) (e ∷ insert_entry key_cmp es k b))
    by Less rest = (less, h)
    by Equal rest = (h.0, h.1)
    by Greater rest = (h.0, rest)

pub rises-put : (es : List (Key × Bool)) (k : Key) (b : Bool) → IsStrictlySortedBy key_cmp (keys_of es)
    → IsStrictlySortedBy key_cmp (keys_of (insert_entry key_cmp es k b))
unfolding IsStrictlySortedBy
rises-put [] k b h = (tt, tt)
rises-put (e ∷ es) k b h = by (key_cmp k e.0) refl (rises-put es k b h.1)
  where
    by : (o : Ordering) → key_cmp k e.0 ≡ o → IsStrictlySortedBy key_cmp (keys_of (insert_entry key_cmp es k b))
        → IsStrictlySortedBy key_cmp (keys_of (match_ordering o ((k, b) ∷ e ∷ es) ((e.0, b) ∷ es) (e ∷ insert_entry key_cmp es k b)))
    by Less o rest = ((o, below-all k e.0 es o h.0), h)
    by Equal o rest = h
    by Greater o rest = (below-put e.0 es k b (flipped k e.0 o) h.0, rest)

below-left : (x : Key) (test : Key → Bool) (es : List (Key × Bool)) → Below x es → Below x (remove_entry test es)
below-left x test [] h = tt
below-left x test (e ∷ es) h = by (test e.0) (below-left x test es h.1)
  where
    by : (b : Bool) → Below x (remove_entry test es) → Below x (cond b es (e ∷ remove_entry test es))
    by true rest = h.1
    by false rest = (h.0, rest)

pub rises-left : (test : Key → Bool) (es : List (Key × Bool)) → IsStrictlySortedBy key_cmp (keys_of es)
    → IsStrictlySortedBy key_cmp (keys_of (remove_entry test es))
unfolding IsStrictlySortedBy
rises-left test [] h = h
rises-left test (e ∷ es) h = by (test e.0) (rises-left test es h.1)
  where
    by : (b : Bool) → IsStrictlySortedBy key_cmp (keys_of (remove_entry test es))
        → IsStrictlySortedBy key_cmp (keys_of (cond b es (e ∷ remove_entry test es)))
    by true rest = h.1
    by false rest = (below-left e.0 test es h.0, rest)

pub none-rise : AreRising []
unfolding IsStrictlySortedBy
none-rise = record { rising = tt }

pub one-rises : (first : Key × Bool) → AreRising (first ∷ [])
unfolding IsStrictlySortedBy
one-rises first = record { rising = (tt, tt) }

pub put-rises : (es made : List (Key × Bool)) (k : Key) (b : Bool) → AreRising es → made ≡ insert_entry key_cmp es k b → AreRising made
put-rises es made k b are is = record { rising = subst (λ es. IsStrictlySortedBy key_cmp (keys_of es)) (sym is) (rises-put es k b are.rising) }

pub left-rises : (es left : List (Key × Bool)) (test : Key → Bool) → AreRising es → left ≡ remove_entry test es → AreRising left
left-rises es left test are is = record { rising = subst (λ es. IsStrictlySortedBy key_cmp (keys_of es)) (sym is) (rises-left test es are.rising) }

-- there is a key, once one was put in
pub put-some : (es : List (Key × Bool)) (k : Key) (b : Bool) → 0 < length (insert_entry key_cmp es k b)
put-some [] k b = omega arith
put-some (e ∷ es) k b = by (key_cmp k e.0)
  where
    by : (o : Ordering) → 0 < length (match_ordering o ((k, b) ∷ e ∷ es) ((e.0, b) ∷ es) (e ∷ insert_entry key_cmp es k b))
    by Less = omega arith
    by Equal = omega arith
    by Greater = omega arith

-- ---- two keys

pub two-rise : (first second : Key × Bool) → AreRising (first ∷ second ∷ []) → key_cmp first.0 second.0 ≡ Less
unfolding IsStrictlySortedBy
two-rise first second are = are.rising.0.0

-- one put in after the other
pub two-are : (first second : Key × Bool) (es one two : List (Key × Bool)) → es ≡ []
    → one ≡ insert_entry key_cmp es first.0 first.1 → two ≡ insert_entry key_cmp one second.0 second.1
    → key_cmp first.0 second.0 ≡ Less → two ≡ first ∷ second ∷ []
two-are first second es one two none a b less =
    b ∙ ap (λ l. insert_entry key_cmp l second.0 second.1) (a ∙ ap (λ l. insert_entry key_cmp l first.0 first.1) none)
    ∙ by (key_cmp second.0 first.0) (turned first.0 second.0 less)
  where
    turned : (x y : Key) → key_cmp x y ≡ Less → key_cmp y x ≡ Greater
    turned x y h = grind (arith, nat_tests)

    by : (o : Ordering) → o ≡ Greater
        → match_ordering o (second ∷ first ∷ []) ((first.0, second.1) ∷ []) (first ∷ second ∷ []) ≡ first ∷ second ∷ []
    by Greater h = refl
    by Less h = cc
    by Equal h = cc

-- the second takes what is put
pub second-takes : (first second : Key × Bool) (k : Key) (b : Bool) → key_cmp first.0 second.0 ≡ Less → (k.0 == second.0.0 && k.1 == second.0.1) ≡ true
    → (first ∷ (second.0, b) ∷ []) ≡ insert_entry key_cmp (first ∷ second ∷ []) k b
second-takes first second k b less is = by (key_cmp k first.0) (key_cmp k second.0) (after first.0 second.0 k less is) (at second.0 k is)
  where
    after : (x y k : Key) → key_cmp x y ≡ Less → (k.0 == y.0 && k.1 == y.1) ≡ true → key_cmp k x ≡ Greater
    after x y k less is = grind (arith, nat_tests)

    at : (y k : Key) → (k.0 == y.0 && k.1 == y.1) ≡ true → key_cmp k y ≡ Equal
    at y k is = grind (arith, nat_tests)

    by : (o p : Ordering) → o ≡ Greater → p ≡ Equal
        → (first ∷ (second.0, b) ∷ []) ≡ match_ordering o ((k, b) ∷ first ∷ second ∷ []) ((first.0, b) ∷ second ∷ [])
        (first ∷ match_ordering p ((k, b) ∷ second ∷ []) ((second.0, b) ∷ []) (second ∷ (k, b) ∷ []))
    by Greater Equal h i = refl
    by Less p h i = cc
    by Equal p h i = cc
    by Greater Less h i = cc
    by Greater Greater h i = cc
