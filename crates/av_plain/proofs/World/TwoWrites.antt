-- Two pieces written one behind the other are one piece written.
use Rattle.std.proofs.Common.{◌≡◌, ℕ, ◌+◌, ◌-◌, ◌*◌, ◌<◌, ◌≤◌, Bool, true, false, cond, List, ◌++◌, length, get_or, Option, Some, None, option_map, refl, sym, ap, ◌∙◌, arith, length-append}
use Rattle.std.proofs.lemmas.Bool.Decides.{nat_tests}
use Rattle.std.proofs.lemmas.List.{get_or_append_left, get_or-append_right}
use Rattle.av_plain.specs.World.{Process, Page, with_bytes}
use Rattle.av_base.specs.Words.{within}

at_byte : (a x : ℕ) (xs ys : List ℕ) (b : Option ℕ)
    → cond (within (a + length xs) (length ys) x) (Some (get_or ys (x - (a + length xs)) 0))
    (cond (within a (length xs) x) (Some (get_or xs (x - a) 0)) b)
    ≡ cond (within a (length (xs ++ ys)) x) (Some (get_or (xs ++ ys) (x - a) 0)) b
at_byte a x xs ys b = by_tests (within (a + length xs) (length ys) x) refl (within a (length xs) x) refl
  where
    by_tests : (s : Bool) → within (a + length xs) (length ys) x ≡ s → (t : Bool) → within a (length xs) x ≡ t
        → cond (within (a + length xs) (length ys) x) (Some (get_or ys (x - (a + length xs)) 0))
        (cond (within a (length xs) x) (Some (get_or xs (x - a) 0)) b)
        ≡ cond (within a (length (xs ++ ys)) x) (Some (get_or (xs ++ ys) (x - a) 0)) b
    by_tests true e t d =
        let low : a + length xs ≤ x = grind (arith, nat_tests) in
        let high : x < (a + length xs) + length ys = grind (arith, nat_tests) in
        let whole : within a (length (xs ++ ys)) x ≡ true = ap (λ n. within a n x) (length-append xs ys) ∙ inside a (length xs + length ys) x
        (omega (arith, low)) (omega (arith, high)) in
        ap (λ s. cond s (Some (get_or ys (x - (a + length xs)) 0)) (cond (within a (length xs) x) (Some (get_or xs (x - a) 0)) b)) e
        ∙ ap Some (ap (λ i. get_or ys i 0) (let same : x - (a + length xs) ≡ (x - a) - length xs = omega (arith, low) in same)
        ∙ sym (get_or-append_right xs ys (length xs) (x - a) 0 refl (omega (arith, low))))
        ∙ ap (λ s. cond s (Some (get_or (xs ++ ys) (x - a) 0)) b) (sym whole)
      where
        inside : (a n x : ℕ) → a ≤ x → x < a + n → within a n x ≡ true
        inside a n x low high = grind (arith, nat_tests)
    by_tests false e true d =
        let low : a ≤ x = grind (arith, nat_tests) in
        let high : x < a + length xs = grind (arith, nat_tests) in
        let whole : within a (length (xs ++ ys)) x ≡ true = ap (λ n. within a n x) (length-append xs ys)
        ∙ inside a (length xs + length ys) x low (omega (arith, high)) in
        (λ i. cond (e i) (Some (get_or ys (x - (a + length xs)) 0)) (cond (d i) (Some (get_or xs (x - a) 0)) b))
        ∙ ap Some (sym (get_or_append_left xs ys 0 (x - a) (omega (arith, low, high))))
        ∙ ap (λ s. cond s (Some (get_or (xs ++ ys) (x - a) 0)) b) (sym whole)
      where
        inside : (a n x : ℕ) → a ≤ x → x < a + n → within a n x ≡ true
        inside a n x low high = grind (arith, nat_tests)
    by_tests false e false d = (λ i. cond (e i) (Some (get_or ys (x - (a + length xs)) 0)) (cond (d i) (Some (get_or xs (x - a) 0)) b))
        ∙ ap (λ s. cond s (Some (get_or (xs ++ ys) (x - a) 0)) b)
        (sym (ap (λ n. within a n x) (length-append xs ys) ∙ outside a (length xs) (length ys) x e d))
      where
        outside : (a n k x : ℕ) → within (a + n) k x ≡ false → within a n x ≡ false → within a (n + k) x ≡ false
        outside a n k x e d = grind (arith, nat_tests)

pub with_bytes_twice : (m : Process) (a : ℕ) (xs ys : List ℕ) → with_bytes (with_bytes m a xs) (a + length xs) ys ≡ with_bytes m a (xs ++ ys)
with_bytes_twice m a xs ys = λ k page. at_page (m page) page k
  where
    at_page : (o : Option Page) (page : ℕ) → option_map (λ (p : Page). record p {
      bytes = λ i. cond (within (a + length xs) (length ys) (4096 * page + i))
          (Some (get_or ys (4096 * page + i - (a + length xs)) 0)) (p.bytes i);
    })
        (option_map (λ (p : Page). record p {
          bytes = λ i. cond (within a (length xs) (4096 * page + i))
              (Some (get_or xs (4096 * page + i - a) 0)) (p.bytes i);
        }) o)
        ≡ option_map (λ (p : Page). record p {
          bytes = λ i. cond (within a (length (xs ++ ys)) (4096 * page + i))
              (Some (get_or (xs ++ ys) (4096 * page + i - a) 0)) (p.bytes i);
        }) o
    at_page None page = refl
    at_page (Some p) page = λ k. Some (record p { bytes = λ i. at_byte a (4096 * page + i) xs ys (p.bytes i) k })
