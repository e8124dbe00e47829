-- The order of lists of bytes: a piece in front that is the same in both changes nothing.
use Rattle.std.proofs.Common.{◌≡◌, ℕ, List, [], ◌∷◌, ◌++◌, ◌+◌, ◌%◌, max, refl, ap, sym, ◌∙◌, drop, take, bit_or, bit_xor, arith}
use Rattle.std.specs.Int.{bit_at}
use Rattle.std.proofs.lemmas.Cmp.{nat_cmp_total, tied_itself}
use Rattle.std.proofs.lemmas.List.{take-append-drop}
use Rattle.std.proofs.lemmas.Nat.Bits.{bit_at-zero, bit_at_or, bit_at_xor, same_from_bits}
use Rattle.std.specs.Cmp.Lexicographic.{slice_cmp}
use Rattle.std.specs.Ordering.{nat_cmp, ordering_then}

same-front : (p xs ys : List ℕ) → slice_cmp nat_cmp (p ++ xs) (p ++ ys) ≡ slice_cmp nat_cmp xs ys
same-front [] xs ys = refl
same-front (x ∷ p) xs ys =
    ap (λ o. ordering_then o (slice_cmp nat_cmp (p ++ xs) (p ++ ys))) (tied_itself nat_cmp_total x) ∙ same-front p xs ys

pub same-piece : (n m : ℕ) (xs ys p q rest more : List ℕ) → p ≡ take n xs → rest ≡ drop n xs → q ≡ take m ys → more ≡ drop m ys → p ≡ q
    → slice_cmp nat_cmp rest more ≡ slice_cmp nat_cmp xs ys
same-piece n m xs ys p q rest more e f g h same =
    sym (same-front p rest more) ∙ (λ i. slice_cmp nat_cmp (p ++ rest) (same i ++ more))
    ∙ (λ i. slice_cmp nat_cmp (whole n xs p rest e f i) (whole m ys q more g h i))
  where
    whole : (n : ℕ) (xs p rest : List ℕ) → p ≡ take n xs → rest ≡ drop n xs → p ++ rest ≡ xs
    whole n xs p rest e f = (λ i. e i ++ f i) ∙ take-append-drop n xs

-- where differences with one more come to nothing, they did before, and that one is none
pub no-difference : (d x y : ℕ) → bit_or d (bit_xor x y) ≡ 0 → (d ≡ 0) × (x ≡ y)
no-difference d x y e = (same_from_bits d 0 (λ i. (bits i).0 ∙ sym (bit_at-zero i)), same_from_bits x y (λ i. (bits i).1))
  where
    bits : (i : ℕ) → (bit_at d i ≡ 0) × (bit_at x i ≡ bit_at y i)
    bits i =
        let none : max (bit_at d i) (bit_at (bit_xor x y) i) ≡ 0 = sym (bit_at_or d (bit_xor x y) i) ∙ ap (λ n. bit_at n i) e ∙ bit_at-zero i in
        let even : bit_at (bit_xor x y) i ≡ (bit_at x i + bit_at y i) % 2 = bit_at_xor x y i in
        (omega arith, omega arith)
