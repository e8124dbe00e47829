-- Laws of entries in order: what a key finds, and how many entries pass a test, after a change.
use Rattle.std.proofs.Common.{◌≡◌, ℕ, ◌+◌, ◌<◌, Bool, true, false, cond, not, ◌&&◌, T, List, [], ◌∷◌, Option, Some, None, refl, sym, ap, subst, ◌∙◌, arith, Ordering}
use Rattle.std.specs.declared.cmp.Ordering.TheVariants.{Less, Equal, Greater}
use Rattle.std.proofs.lemmas.Bool.Decides.{nat_tests}
use Rattle.std.specs.Ordering.{is_lt, is_eq, eq_by_cmp, nat_cmp}
use Rattle.std.specs.Cmp.{IsTotalOrder, nat_cmp_total}
use Rattle.std.proofs.lemmas.Cmp.{on_total, then_total}
use Rattle.std.specs.FinMap.Entries.{find, put, where_key, below_all, is_sorted, by_order}
use Rattle.av_base.specs.Keys.{key_cmp}
use Rattle.av_base.proofs.Keys.{keys_total}
use Rattle.av_base.specs.Words.{how_many}

-- what passes at a key, as a number
abbrev pub weight : {X : Type 0} → (X → Bool) → Option X → ℕ
weight p None = 0
weight p (Some x) = cond (p x) 1 0

pub both_first : (a b : Bool) → T (a && b) → T a
both_first true b h = tt
both_first false b h = absurd h

pub both_second : (a b : Bool) → T (a && b) → T b
both_second true b h = h
both_second false b h = absurd h

pub is_less : (o : Ordering) → T (is_lt o) → o ≡ Less
is_less Less h = refl
is_less Equal h = absurd h
is_less Greater h = absurd h

-- what is found lies behind all that a number is below
pub found-above : {X : Type 0} (x k : ℕ) (es : List (ℕ × X)) (a : X) → T (below_all nat_cmp x es) → find nat_cmp k es ≡ Some a → x < k
found-above x k [] a below is = cc
found-above {X} x k (e ∷ es) a below is =
    by (is_lt (nat_cmp x e.0)) (eq_by_cmp nat_cmp k e.0) refl refl below is (λ b i. found-above x k es a b i)
  where
    by : (c b : Bool) → is_lt (nat_cmp x e.0) ≡ c → eq_by_cmp nat_cmp k e.0 ≡ b → T (c && below_all nat_cmp x es)
        → cond b (Some e.1) (find nat_cmp k es) ≡ Some a → (T (below_all nat_cmp x es) → find nat_cmp k es ≡ Some a → x < k) → x < k
    by true true less same b i rest = grind (arith, nat_tests, less, same)
    by true false less same b i rest = rest b i
    by false b' less same b i rest = absurd b

added : (v e n : ℕ) → (v + (e + n)) + 0 ≡ (e + n) + v
added v e n = omega arith

single : (v : ℕ) → (v + 0) + 0 ≡ 0 + v
single v = omega arith

swapped : (v e n : ℕ) → (v + n) + e ≡ (e + n) + v
swapped v e n = omega arith

deeper : (e n m w v : ℕ) → n + w ≡ m + v → (e + n) + w ≡ (e + m) + v
deeper e n m w v h = omega arith

later : (e n m w : ℕ) → n ≡ m + w → e + n ≡ (e + m) + w
later e n m w h = omega arith

last : (e n m : ℕ) → n ≡ m + 0 → e + n ≡ m + e
last e n m h = omega arith

module _ {K X : Type 0} {R : K → K → Ordering} (o : IsTotalOrder R) (p : X → Bool) where
  pub find_below : (q : K) (es : List (K × X)) → T (below_all R q es) → find R q es ≡ None
  find_below q [] h = refl
  find_below q (e ∷ es) h = ap (λ r. cond (is_eq r) (Some e.1) (find R q es)) (is_less _ (both_first _ _ h)) ∙ find_below q es (both_second _ _ h)

  pub below_less : (x y : K) (es : List (K × X)) → R x y ≡ Less → T (below_all R y es) → T (below_all R x es)
  below_less x y [] e h = tt
  below_less x y (f ∷ es) e h =
      let less = is_less _ (both_first _ _ h) in
      subst (λ r. T (is_lt r && below_all R x es)) (sym (o.trans x y f.0 e less)) (below_less x y es e (both_second _ _ h))

  below_tied : (x y : K) (es : List (K × X)) → R x y ≡ Equal → T (below_all R y es) → T (below_all R x es)
  below_tied x y [] e h = tt
  below_tied x y (f ∷ es) e h =
      let less = is_less _ (both_first _ _ h) in
      subst (λ r. T (is_lt r && below_all R x es)) (sym (o.congr x y f.0 e ∙ less)) (below_tied x y es e (both_second _ _ h))

  pub count-put : (k : K) (v : X) (es : List (K × X)) → T (is_sorted R es) → how_many (λ e. p e.1) (put R k v es) + weight p (find R k es) ≡ how_many
      (λ e. p e.1) es + cond (p v) 1 0
  count-put k v [] h = single _
  count-put k v (e ∷ es) h =
      elim (R k e.0) as (λ r. R k e.0 ≡ r → how_many (λ e. p e.1) (by_order r ((k, v) ∷ e ∷ es) ((e.0, v) ∷ es) (e ∷ put R k v es)) + weight p
      (cond (is_eq r) (Some e.1) (find R k es)) ≡ how_many (λ e. p e.1) (e ∷ es) + cond (p v) 1 0) [
        | Less ↦ λ is. let none = find_below k es (below_less k e.0 es is (both_first _ _ h)) in rw none (added _ _ _)
        | Equal ↦ λ is. swapped _ _ _
        | Greater ↦ λ is. deeper _ _ _ _ _ (count-put k v es (both_second _ _ h))
      ] refl

  -- the others, and what the key has
  pub count-without : (k : K) (es : List (K × X)) → T (is_sorted R es) →
      how_many (λ e. p e.1) es ≡ how_many (λ e. p e.1) (where_key R (λ q. not (eq_by_cmp R k q)) es) + weight p (find R k es)
  count-without k [] h = refl
  count-without k (e ∷ es) h =
      elim (R k e.0) as (λ r. R k e.0 ≡ r → how_many (λ e. p e.1) (e ∷ es) ≡ how_many (λ e. p e.1)
      (cond (not (is_eq r)) (e ∷ where_key R (λ q. not (eq_by_cmp R k q)) es) (where_key R (λ q. not (eq_by_cmp R k q)) es)) + weight p
      (cond (is_eq r) (Some e.1) (find R k es))) [
        | Less ↦ λ is. later _ _ _ _ (count-without k es (both_second _ _ h))
        | Equal ↦ λ is. let none = find_below k es (below_tied k e.0 es is (both_first _ _ h)) in
            last _ _ _ (rw none at (count-without k es (both_second _ _ h)))
        | Greater ↦ λ is. later _ _ _ _ (count-without k es (both_second _ _ h))
      ] refl
