-- Slots that no entry names yet.
use Rattle.std.proofs.Common.{◌≡◌, ℕ, ◌==◌, ltb, ◌&&◌, Bool, true, false, cond, List, [], length, get_or, None, refl, ap, ◌∙◌}
use Rattle.av_swapmap.specs.Digits.{cached_of, count_of}
use Rattle.av_swapmap.specs.Counts.{shown, fresh}
use Rattle.av_base.specs.Words.{is_in}

pub seen_fresh : (n : ℕ) (bytes bad : List ℕ) → length bytes ≡ n → ((p : ℕ) → get_or bytes p 0 ≡ cond (ltb p n && is_in p bad) 63 0) →
    shown (record { bytes = bytes; more = [] }) ≡ fresh n bad
seen_fresh n bytes bad long at = λ k. record {
  pages = long k;
  bad = λ p. (ap (λ x. x == 63) (at p) ∙ bad_is (ltb p n && is_in p bad)) k;
  cached = λ p. (ap cached_of (at p) ∙ cached_is (ltb p n && is_in p bad)) k;
  count = λ p. (ap (λ x. count_of x None) (at p) ∙ count_is (ltb p n && is_in p bad)) k;
}
  where
    bad_is : (b : Bool) → (cond b 63 0 == 63) ≡ b
    bad_is true = refl
    bad_is false = refl

    cached_is : (b : Bool) → cached_of (cond b 63 0) ≡ false
    cached_is true = refl
    cached_is false = refl

    count_is : (b : Bool) → count_of (cond b 63 0) None ≡ 0
    count_is true = refl
    count_is false = refl
