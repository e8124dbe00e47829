-- The marks of the parts of an area that are full: of clusters, and of groups of clusters.
use Rattle.std.proofs.Common.{◌≡◌, ℕ, ◌+◌, ◌-◌, ◌*◌, ◌/◌, ◌<◌, ◌≤◌, Bool, true, false, ◌⊎◌, List, ◌++◌, length, get_or, set, take, drop, None, sym, ap, subst, ◌∙◌, arith, inl, inr, length-set, get_or-set_same, get_or-set_other}
use Rattle.std.proofs.Math.Seq.{take-append_seam}
use Rattle.std.proofs.lemmas.Bool.{cases_eq, false≢true}
use Rattle.std.proofs.lemmas.Nat.{div-mul-add, div_below}
use Rattle.av_clusters.specs.declared.clusters.Page.{Page}
use Rattle.av_clusters.specs.declared.clusters.Page.TheVariants.{Unusable, Free, Taken}
use Rattle.av_clusters.specs.Clusters.{is_free, page_at, lowest, AreFull}
use Rattle.av_clusters.proofs.Pages.{none_free, none_is}

starts_before : (size q : ℕ) → 0 < size → size * (q / size) ≤ q
starts_before size q some = omega arith

ends_behind : (size q : ℕ) → 0 < size → q < size * (q / size) + size
ends_behind size q some = omega arith

part_is : (size c q : ℕ) → size * c ≤ q → q < size * c + size → q / size ≡ c
part_is size c q low high =
    let inside : q - size * c < size = omega arith in
    let is : c * size + (q - size * c) ≡ q = omega arith in
    sym (ap (λ n. n / size) is) ∙ div-mul-add c size (q - size * c) inside

-- a marked part has none
pub none_marked : (size : ℕ) (pages : List Page) (marks : List Bool) (c : ℕ) → AreFull size pages marks → get_or marks c false ≡ true
    → lowest pages (size * c) (size * c + size) ≡ None
none_marked size pages marks c full is = none_is pages (size * c) (size * c + size)
    (λ q low high. full.none_free q (ap (λ d. get_or marks d false) (part_is size c q low high) ∙ is))

-- and one that has none may be marked
pub mark_one : (size : ℕ) (pages : List Page) (marks : List Bool) (c : ℕ) → 0 < size → AreFull size pages marks
    → lowest pages (size * c) (size * c + size) ≡ None →
    AreFull size pages (set marks c true)
mark_one size pages marks c some full none = record {
  count = length-set marks c true ∙ full.count;
  none_free = λ q is. by q is (cases_eq (q / size) c);
}
  where
    low : (q : ℕ) → q / size ≡ c → size * c ≤ q
    low q e = subst (λ d. size * d ≤ q) e (starts_before size q some)

    high : (q : ℕ) → q / size ≡ c → q < size * c + size
    high q e = subst (λ d. q < size * d + size) e (ends_behind size q some)

    by : (q : ℕ) → get_or (set marks c true) (q / size) false ≡ true → (q / size ≡ c) ⊎ (q / size ≡ c → ⊥) → is_free (page_at pages q) ≡ false
    by q is (inl e) = none_free pages (size * c) (size * c + size) q none (low q e) (high q e)
    by q is (inr n) = full.none_free q (sym (get_or-set_other marks c (q / size) true false n) ∙ is)

-- a page is taken
pub full_taken : (size : ℕ) (pages : List Page) (marks : List Bool) (p : ℕ) → p < length pages → AreFull size pages marks
    → AreFull size (set pages p Taken) marks
full_taken size pages marks p below full = record {
  count = full.count ∙ ap (λ n. n / size + 1) (sym (length-set pages p Taken));
  none_free = λ q is. by q is (cases_eq q p);
}
  where
    by : (q : ℕ) → get_or marks (q / size) false ≡ true → (q ≡ p) ⊎ (q ≡ p → ⊥) → is_free (page_at (set pages p Taken) q) ≡ false
    by q is (inl e) = ap (λ n. is_free (page_at (set pages p Taken) n)) e ∙ ap is_free (get_or-set_same pages p Taken Unusable below)
    by q is (inr n) = ap is_free (get_or-set_other pages p q Taken Unusable n) ∙ full.none_free q is

-- a page comes back, and the mark of its part goes
pub full_given : (size : ℕ) (pages : List Page) (marks : List Bool) (p : ℕ) → 0 < size → p < length pages → AreFull size pages marks
    → AreFull size (set pages p Free) (set marks (p / size) false)
full_given size pages marks p some below full = record {
  count = length-set marks (p / size) false ∙ full.count ∙ ap (λ n. n / size + 1) (sym (length-set pages p Free));
  none_free = λ q is. by q is (cases_eq (q / size) (p / size));
}
  where
    last : length pages < (length pages / size + 1) * size
    last = omega (arith, ends_behind size (length pages) some)

    inside : p / size < length marks
    inside = subst (λ n. p / size < n) (sym full.count) (div_below p size (length pages / size + 1) some (omega (arith, below, last)))

    by : (q : ℕ) → get_or (set marks (p / size) false) (q / size) false ≡ true → (q / size ≡ p / size) ⊎ (q / size ≡ p / size → ⊥)
        → is_free (page_at (set pages p Free) q) ≡ false
    by q is (inl e) = absurd (false≢true
        (sym (ap (λ c. get_or (set marks (p / size) false) c false) e ∙ get_or-set_same marks (p / size) false false inside) ∙ is))
    by q is (inr n) =
        ap is_free (get_or-set_other pages p q Free Unusable (λ e. n (ap (λ m. m / size) e)))
        ∙ full.none_free q (sym (get_or-set_other marks (p / size) (q / size) false false n) ∙ is)

pub group_is : (p : ℕ) → p / 256 / 64 ≡ p / 16384
group_is p = omega arith

-- marks that are written over others of the same area
pub marks_over : (size : ℕ) (pages : List Page) (old was new : List Bool) (n : ℕ) → AreFull size pages old → AreFull size pages new → was ≡ old
    → length was ≡ n → take n (new ++ drop (length new) old) ≡ new
marks_over size pages old was new n full full' same len =
    ap (λ k. take k (new ++ drop (length new) old)) (sym len ∙ ap length same ∙ full.count ∙ sym full'.count)
    ∙ take-append_seam new (drop (length new) old)
