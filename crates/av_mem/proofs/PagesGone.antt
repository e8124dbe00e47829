-- Tables without the entries of a range of pages.
use Rattle.std.proofs.Common.{◌≡◌, ℕ, ◌+◌, ◌≤◌, ◌<◌, Bool, true, false, cond, ◌&&◌, ◌||◌, ◌==◌, None, refl, sym, ap, ◌∙◌, arith}
use Rattle.std.proofs.lemmas.Bool.Decides.{nat_tests}
use Rattle.av_base.specs.Words.{within}
use Rattle.av_swap_laws.specs.Steps.{with_pte}
use Rattle.av_mem.specs.Entries.{Table, without_pages}

pub within-none : (from page : ℕ) → within from 0 page ≡ true → ⊥
within-none from page h = grind (arith, nat_tests, h)

pub within-one : (from page : ℕ) → within from 1 page ≡ true → page ≡ from
within-one from page h = grind (arith, nat_tests, h)

pub within-low : (from n page : ℕ) → within from n page ≡ true → from ≤ page
within-low from n page h = grind (arith, nat_tests, h)

pub within-high : (from n page : ℕ) → within from n page ≡ true → page < from + n
within-high from n page h = grind (arith, nat_tests, h)

equal : (a b : ℕ) → (a == b) ≡ true → a ≡ b
equal a b e = grind (arith, nat_tests, e)

module _ (table : Table) (p : ℕ) where
  -- one page
  pub page-one : (page : ℕ) → with_pte p page None table ≡ without_pages p page 1 table
  page-one page = λ i q other. by q other i
    where
      one : (other : ℕ) → (other == page) ≡ within page 1 other
      one other = grind (arith, nat_tests)

      by : (q other : ℕ) → cond (q == p && other == page) None (table q other) ≡ cond (q == p && within page 1 other) None (table q other)
      by q other = ap (λ b. cond (q == p && b) None (table q other)) (one other)

  -- pages that have none
  pub pages-none : (from n : ℕ) → ((page : ℕ) → within from n page ≡ true → table p page ≡ None) → without_pages p from n table ≡ table
  pages-none from n none = λ i q page. by q page (q == p) (within from n page) refl refl i
    where
      by : (q page : ℕ) (a b : Bool) → (q == p) ≡ a → within from n page ≡ b → cond (a && b) None (table q page) ≡ table q page
      by q page true true at inside = sym (ap (λ q. table q page) (equal q p at) ∙ none page inside)
      by q page true false at inside = refl
      by q page false b at inside = refl

  -- two ranges that touch
  pub pages-joined : (from i j : ℕ) → without_pages p (from + i) j (without_pages p from i table) ≡ without_pages p from (i + j) table
  pages-joined from i j = λ x q page. by q page (q == p) (within from i page) (within (from + i) j page) (within from (i + j) page) (parts page) x
    where
      parts : (page : ℕ) → (within from i page || within (from + i) j page) ≡ within from (i + j) page
      parts page = grind (arith, nat_tests)

      by : (q page : ℕ) (here x y z : Bool) → (x || y) ≡ z
          → cond (here && y) None (cond (here && x) None (table q page)) ≡ cond (here && z) None (table q page)
      by q page false x y z e = refl
      by q page true true true z e = ap (λ b. cond b None (table q page)) e
      by q page true true false z e = ap (λ b. cond b None (table q page)) e
      by q page true false y z e = ap (λ b. cond b None (table q page)) e

  -- a page behind the range has its entry still
  pub still-there : (from n page : ℕ) → from + n ≤ page → without_pages p from n table p page ≡ table p page
  still-there from n page behind = ap (λ b. cond (p == p && b) None (table p page)) outside ∙ by (p == p)
    where
      outside : within from n page ≡ false
      outside = grind (arith, nat_tests, behind)

      by : (b : Bool) → cond (b && false) None (table p page) ≡ table p page
      by true = refl
      by false = refl
