-- The greatest place that is free, where the page below the top is taken.
use Rattle.std.specs.Prelude.{◌≡◌, ℕ, ◌+◌, ◌-◌, ◌<◌, ◌≤◌, Bool, nat_le, true, false, Some, refl}
use Rattle.std.proofs.Common.{arith, subst, sym, ◌∙◌}
use Rattle.std.proofs.lemmas.Bool.Decides.{nat_tests}
use Rattle.std.proofs.lemmas.Bool.{false≢true}
use Rattle.av_base.specs.Limits.{low_page, top_page}
use Rattle.av_vma.specs.Gap.{IsRoom, IsGap}

not_free : (b : Bool) → b ≡ false → b ≡ true → ⊥
not_free b h i = false≢true (sym h ∙ i)

-- where all pages from one on are taken and the n below are not, the place ends there
gap_under : (is_taken : ℕ → Bool) (from n : ℕ) {page : ℕ} → page ≡ from - n → 0 < n → low_page + n ≤ from → from ≤ top_page →
    ((q : ℕ) → page ≤ q → q < from → is_taken q ≡ false) → ((q : ℕ) → from ≤ q → q < top_page → is_taken q ≡ true) → IsGap is_taken n (Some page)
gap_under is_taken from n {page} is some low high below above = (
  record { lowest = omega (arith, is, low); highest = omega (arith, is, low, high); free = λ q a b. below q a (omega (arith, is, b, low)) },
  (λ other room. fits other room),
)
  where
    fits : (other : ℕ) → IsRoom is_taken n other → other ≤ page
    fits other room = by (nat_le other page) refl
      where
        last : ℕ
        last = other + n - 1

        by : (b : Bool) → nat_le other page ≡ b → other ≤ page
        by true h = grind (arith, nat_tests, h)
        by false h =
            let more : page < other = grind (arith, nat_tests, h) in
            let top = room.highest in
            absurd (not_free (is_taken (other + n - 1)) (room.free (other + n - 1) (omega (arith, some)) (omega (arith, some)))
            (above (other + n - 1) (omega (arith, is, low, some, more)) (omega (arith, some, top))))

module _ (is_taken : ℕ → Bool) (last : is_taken 0x7fffffffe ≡ true) (before : is_taken 0x7fffffffd ≡ false) where
  taken_above : (q : ℕ) → 0x7fffffffe ≤ q → q < top_page → is_taken q ≡ true
  taken_above q low high = let same : 0x7fffffffe ≡ q = omega (arith, low, high) in subst (λ q. is_taken q ≡ true) same last

  pub one_below : IsGap is_taken 1 (Some 0x7fffffffd)
  one_below = gap_under is_taken 0x7fffffffe 1 refl (omega arith) (omega arith) (omega arith)
      (λ q low high. let same : 0x7fffffffd ≡ q = omega (arith, low, high) in subst (λ q. is_taken q ≡ false) same before) taken_above

  pub two_below : is_taken 0x7fffffffc ≡ false → IsGap is_taken 2 (Some 0x7fffffffc)
  two_below free = gap_under is_taken 0x7fffffffe 2 refl (omega arith) (omega arith) (omega arith)
      (λ q low high. by q (nat_le q 0x7fffffffc) refl low high) taken_above
    where
      by : (q : ℕ) (b : Bool) → nat_le q 0x7fffffffc ≡ b → 0x7fffffffc ≤ q → q < 0x7fffffffe → is_taken q ≡ false
      by q true is low high = let same : 0x7fffffffc ≡ q = grind (arith, nat_tests, is, low) in subst (λ q. is_taken q ≡ false) same free
      by q false is low high = let same : 0x7fffffffd ≡ q = grind (arith, nat_tests, is, high) in subst (λ q. is_taken q ≡ false) same before
