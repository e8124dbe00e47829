-- A function is applied to the entries of a table, the least page first: to a copy, or in place.
use Rattle.std.proofs.Common.{◌≡◌, ℕ, ◌+◌, ◌<◌, ◌≤◌, sym, ap, ◌∙◌, arith, inl, inr}
use Rattle.std.proofs.lemmas.Bool.{cases_eq, cases_lt}
use Rattle.av_base.specs.Words.{with_at}
use Rattle.av_pagetable.specs.declared.pte.Pte.{Pte}
use Rattle.av_pagetable.specs.declared.pte.Pte.TheVariants.{Empty}
use Rattle.av_pagetable.proofs.DirEntries.{with_at_same, with_at_other}

-- below a page the new table has the function's values, and from it on what there was
pub record IsPassed (f : Pte → Pte) (source rest table : ℕ → Pte) (next : ℕ) : Type 0 where
  pub before : (q : ℕ) → q < next → table q ≡ f (source q)
  pub after : (q : ℕ) → next ≤ q → table q ≡ rest q

module _ (f : Pte → Pte) (none : f Empty ≡ Empty) (source rest table : ℕ → Pte) (next : ℕ) (t : IsPassed f source rest table next) where
  -- where the source has none there is none
  pub one_passed : (table' : ℕ → Pte) (page : ℕ) → next ≤ page → table' ≡ with_at page (f (source page)) table
      → ((q : ℕ) → next ≤ q → q < page → source q ≡ Empty) → ((q : ℕ) → next ≤ q → q < page → rest q ≡ Empty)
      → IsPassed f source rest table' (page + 1)
  one_passed table' page from is least empty = record {
    before = λ q low. elim (cases_eq q page) [
      | inl e ↦ ap table' e ∙ ap (λ g. g page) is ∙ with_at_same page (f (source page)) table ∙ ap (λ q. f (source q)) (sym e)
      | inr ne ↦ ap (λ g. g q) is ∙ with_at_other page q (f (source page)) table ne ∙ elim (cases_lt q next) [
        | inl lt ↦ t.before q lt
        | inr ge ↦ t.after q ge ∙ empty q ge (omega (arith, low, ne)) ∙ sym none ∙ ap f (sym (least q ge (omega (arith, low, ne))))
      ]
    ];
    after = λ q high. ap (λ g. g q) is ∙ with_at_other page q (f (source page)) table (λ e. omega (arith, e, high))
        ∙ t.after q (omega (arith, from, high));
  }

  pub all_passed : ((q : ℕ) → next ≤ q → source q ≡ Empty) → ((q : ℕ) → next ≤ q → rest q ≡ Empty) → table ≡ (λ page. f (source page))
  all_passed over empty = λ i q. point q i
    where
      point : (q : ℕ) → table q ≡ f (source q)
      point q = elim (cases_lt q next) [
        | inl lt ↦ t.before q lt
        | inr ge ↦ t.after q ge ∙ empty q ge ∙ sym none ∙ ap f (sym (over q ge))
      ]
