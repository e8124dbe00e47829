-- The continuation digits of a slot by their places.
use Rattle.std.proofs.Common.{◌≡◌, ℕ, zero, suc, ◌-◌, ◌/◌, ◌^◌, ◌<◌, ◌≤◌, ltb, Bool, true, false, cond, List, [], ◌∷◌, get_or, Option, Some, None, refl, sym, ap, subst, ◌∙◌, arith}
use Rattle.std.proofs.Math.Nat.{div-eq_of_lt, pow-le-pow_right}
use Rattle.av_swapmap.specs.Digits.{with_more, digit_of, further_of, count_of}
use Rattle.av_swapmap.specs.Counts.{IsSlot}

-- past the fourth there is none
pub past_is : (n i : ℕ) → n < 2 ^ 32 → 4 < i → 0 ≡ digit_of n i
past_is n i h far =
    let some : 0 < 128 = omega arith in
    let three : 4 ≤ i - 1 = omega arith in
    let high : 128 ^ 4 ≤ 128 ^ (i - 1) = pow-le-pow_right {n = 128} some {i = 4} {j = i - 1} three in
    let low : n / 63 < 128 ^ (i - 1) = omega (arith, high) in
    sym (ap (with_more 128) (div-eq_of_lt low))

-- the digits that are kept
pub kept_is : (b i : ℕ) (ds : List ℕ) → IsSlot b (Some ds) → 1 ≤ i → i ≤ 4 → get_or ds (i - 1) 0 ≡ digit_of (count_of b (Some ds)) i
kept_is b i ds slot one four = split (count_of b (Some ds)) (ltb (count_of b (Some ds)) 63) refl slot.more_is
  where
    place : (n i : ℕ) → 1 ≤ i → i ≤ 4 → get_or (digit_of n 1 ∷ digit_of n 2 ∷ digit_of n 3 ∷ digit_of n 4 ∷ []) (i - 1) 0 ≡ digit_of n i
    place n zero one four = absurd (omega (arith, one))
    place n (suc zero) one four = refl
    place n (suc (suc zero)) one four = refl
    place n (suc (suc (suc zero))) one four = refl
    place n (suc (suc (suc (suc zero)))) one four = refl
    place n (suc (suc (suc (suc (suc i))))) one four = absurd (omega (arith, four))

    inner : (xs ys : List ℕ) → Some xs ≡ Some ys → xs ≡ ys
    inner xs ys h = cc

    none : (n : ℕ) → ltb n 63 ≡ true → Some ds ≡ further_of n → ⊥
    none n e is = clash (is ∙ ap (λ t. cond t None (Some (digit_of n 1 ∷ digit_of n 2 ∷ digit_of n 3 ∷ digit_of n 4 ∷ []))) e)
      where
        clash : Some ds ≡ None → ⊥
        clash h = cc

    split : (n : ℕ) (t : Bool) → ltb n 63 ≡ t → Some ds ≡ further_of n → get_or ds (i - 1) 0 ≡ digit_of n i
    split n true e is = absurd (none n e is)
    split n false e is =
        let all : ds ≡ digit_of n 1 ∷ digit_of n 2 ∷ digit_of n 3 ∷ digit_of n 4 ∷ [] =
        inner _ _ (is ∙ ap (λ t. cond t None (Some (digit_of n 1 ∷ digit_of n 2 ∷ digit_of n 3 ∷ digit_of n 4 ∷ []))) e) in
        ap (λ xs. get_or xs (i - 1) 0) all ∙ place n i one four

-- the same of a lookup
pub kept_at : (b i : ℕ) (ds : List ℕ) (m : Option (List ℕ)) → Some ds ≡ m → IsSlot b m → 1 ≤ i → i ≤ 4
    → get_or ds (i - 1) 0 ≡ digit_of (count_of b m) i
kept_at b i ds m is slot one four =
    subst (λ m. get_or ds (i - 1) 0 ≡ digit_of (count_of b m) i) is (kept_is b i ds (subst (IsSlot b) (sym is) slot) one four)
