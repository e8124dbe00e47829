-- How many pages come before the first of a kind.
use Rattle.std.proofs.Common.{◌≡◌, ℕ, zero, suc, ◌+◌, ◌-◌, ◌<◌, ◌≤◌, Bool, true, false, cond, not, ◌&&◌, ◌||◌, ◌==◌, Option, Some, None, is_some, nat_lt, refl, sym, ap, ◌∙◌, arith}
use Rattle.std.proofs.lemmas.Bool.Decides.{nat_tests}
use Rattle.av_base.specs.declared.prot.Prot.{Prot}
use Rattle.av_vma.specs.Join.{same_prot}
use Rattle.av_plain.specs.Mremap.{has_prot, have_one_prot, have_prot}
use Rattle.av_plain.specs.World.{Page, Process, is_locked_page, is_mapped, meets, pages_to_hole, pages_to_locked}
use Rattle.av_audit_ranges.specs.Ranges.{marks_at}
use Rattle.av_audit_world.specs.Kinds.{is_kind, pages_before}
use Rattle.av_audit_world.specs.Space.{IsPage, IsSpace}
use Rattle.av_audit_world.specs.declared.kinds.Kind.TheVariants.{Hole, Mapped, Locked, Without}
use Rattle.av_audit_ranges.specs.declared.marks.Marks.{Marks}
use Rattle.av_audit_world.specs.declared.space.Space.{Space}
use Rattle.std.specs.Option.{option_map_or}

-- ---- page by page

-- pages that don't pass are counted
before-run : (t : ℕ → Bool) (at k m : ℕ) → ((page : ℕ) → at ≤ page → page < at + k → t page ≡ false)
    → pages_before t at (k + m) ≡ k + pages_before t (at + k) m
before-run t at zero m h = (λ i. pages_before t (here at i) (none m i)) ∙ sym (none (pages_before t (at + 0) m))
  where
    none : (m : ℕ) → 0 + m ≡ m
    none m = omega arith

    here : (a : ℕ) → a ≡ a + 0
    here a = omega arith
before-run t at (suc k) m h =
    ap (pages_before t at) (turn k m)
    ∙ ap (λ b. cond b 0 (pages_before t (at + 1) (k + m) + 1)) (h at (omega arith) (omega arith))
    ∙ ap (λ x. x + 1) (before-run t (at + 1) k m (λ page low high. h page (omega (arith, low)) (omega (arith, high))))
    ∙ (λ i. k + pages_before t (further at k i) m + 1) ∙ back k (pages_before t (at + suc k) m)
  where
    turn : (k m : ℕ) → suc k + m ≡ suc (k + m)
    turn k m = omega arith

    further : (at k : ℕ) → (at + 1) + k ≡ at + suc k
    further at k = omega arith

    back : (k x : ℕ) → k + x + 1 ≡ suc k + x
    back k x = omega arith

-- one that passes ends it
pub before-here : (t : ℕ → Bool) (at end : ℕ) → at < end → t at ≡ true → pages_before t at (end - at) ≡ 0
before-here t at end less is =
    ap (pages_before t at) (some at end less) ∙ ap (λ b. cond b 0 (pages_before t (at + 1) (end - (at + 1)) + 1)) is
  where
    some : (at end : ℕ) → at < end → end - at ≡ suc (end - (at + 1))
    some at end h = omega (arith, h)

-- one that doesn't is counted, with those that are like it
pub before-further : (t : ℕ → Bool) (at end to : ℕ) → at < to → to ≤ end → t at ≡ false
    → ((q : ℕ) → at ≤ q → q < to → t q ≡ t at) → pages_before t at (end - at) ≡ (to - at) + pages_before t to (end - to)
before-further t at end to more most is same =
    ap (pages_before t at) (split at end to more most)
    ∙ before-run t at (to - at) (end - to) (λ page low high. same page low (below page at to high more) ∙ is)
    ∙ ap (λ a. (to - at) + pages_before t a (end - to)) (reach at to more)
  where
    split : (at end to : ℕ) → at < to → to ≤ end → end - at ≡ (to - at) + (end - to)
    split at end to h g = omega (arith, h, g)

    below : (q at to : ℕ) → q < at + (to - at) → at < to → q < to
    below q at to b h = omega (arith, b, h)

    reach : (at to : ℕ) → at < to → at + (to - at) ≡ to
    reach at to h = omega (arith, h)

-- ---- of the pages of a process

hole-is : (o : Option Marks) (at : ℕ → ℕ) (p : Option Page) → IsPage o at p → is_kind Hole o ≡ not (is_some p)
hole-is None at None h = refl
hole-is None at (Some p) h = absurd h
hole-is (Some k) at None h = absurd h
hole-is (Some k) at (Some p) h = refl

mapped-is : (o : Option Marks) (at : ℕ → ℕ) (p : Option Page) → IsPage o at p → is_kind Mapped o ≡ is_some p
mapped-is None at None h = refl
mapped-is None at (Some p) h = absurd h
mapped-is (Some k) at None h = absurd h
mapped-is (Some k) at (Some p) h = refl

pub some-is : (o : Option Marks) (at : ℕ → ℕ) (p : Option Page) → IsPage o at p → is_some o ≡ is_some p
some-is None at None h = refl
some-is None at (Some p) h = absurd h
some-is (Some k) at None h = absurd h
some-is (Some k) at (Some p) h = refl

pub locked-is : (o : Option Marks) (at : ℕ → ℕ) (p : Option Page) → IsPage o at p → is_kind Locked o ≡ is_locked_page p
locked-is None at None h = refl
locked-is None at (Some p) h = absurd h
locked-is (Some k) at None h = absurd h
locked-is (Some k) at (Some p) h = λ i. (sym h.1 i).locked

without-is : (prot : Prot) (o : Option Marks) (at : ℕ → ℕ) (p : Option Page) → IsPage o at p
    → is_kind (Without prot) o ≡ not (has_prot prot p)
without-is prot None at None h = refl
without-is prot None at (Some p) h = absurd h
without-is prot (Some k) at None h = absurd h
without-is prot (Some k) at (Some p) h = λ i. not (same_prot (sym h.0 i) prot)

-- ---- how many pages come before

holes-before : (q : Process) (from n : ℕ) → pages_before (λ page. not (is_some (q page))) from n ≡ pages_to_hole q from n
holes-before q from zero = refl
holes-before q from (suc n) = by (is_mapped q from) (holes-before q (from + 1) n)
  where
    by : (b : Bool) → pages_before (λ page. not (is_some (q page))) (from + 1) n ≡ pages_to_hole q (from + 1) n
        → cond (not b) 0 (pages_before (λ page. not (is_some (q page))) (from + 1) n + 1) ≡ cond b (pages_to_hole q (from + 1) n + 1) 0
    by true h = ap (λ x. x + 1) h
    by false h = refl

mapped-before : (q : Process) (from n : ℕ) → nat_lt (pages_before (λ page. is_some (q page)) from n) n ≡ meets q from n
mapped-before q from zero = refl
mapped-before q from (suc n) = by (is_mapped q from) (mapped-before q (from + 1) n)
  where
    less : (x n : ℕ) → nat_lt (x + 1) (suc n) ≡ nat_lt x n
    less x n = by (nat_lt x n) refl
      where
        by : (b : Bool) → nat_lt x n ≡ b → nat_lt (x + 1) (suc n) ≡ b
        by true e = grind (arith, nat_tests, e)
        by false e = grind (arith, nat_tests, e)

    some : (n : ℕ) → nat_lt 0 (suc n) ≡ true
    some n = grind (arith, nat_tests)

    by : (b : Bool) → nat_lt (pages_before (λ page. is_some (q page)) (from + 1) n) n ≡ meets q (from + 1) n
        → nat_lt (cond b 0 (pages_before (λ page. is_some (q page)) (from + 1) n + 1)) (suc n) ≡ (b || meets q (from + 1) n)
    by true h = some n
    by false h = less (pages_before (λ page. is_some (q page)) (from + 1) n) n ∙ h

locked-before : (q : Process) (from n : ℕ) → pages_before (λ page. is_locked_page (q page)) from n ≡ pages_to_locked q from n
locked-before q from zero = refl
locked-before q from (suc n) = ap (λ x. cond (is_locked_page (q from)) 0 (x + 1)) (locked-before q (from + 1) n)

prot-before : (q : Process) (prot : Prot) (from n : ℕ)
    → (pages_before (λ page. not (has_prot prot (q page))) from n == n) ≡ have_prot q prot from n
prot-before q prot from zero = refl
prot-before q prot from (suc n) = by (has_prot prot (q from)) (prot-before q prot (from + 1) n)
  where
    same : (x n : ℕ) → (x + 1 == suc n) ≡ (x == n)
    same x n = by (x == n) refl
      where
        by : (b : Bool) → (x == n) ≡ b → (x + 1 == suc n) ≡ b
        by true e = grind (arith, nat_tests, e)
        by false e = grind (arith, nat_tests, e)

    fewer : (n : ℕ) → (0 == suc n) ≡ false
    fewer n = grind (arith, nat_tests)

    by : (b : Bool) → (pages_before (λ page. not (has_prot prot (q page))) (from + 1) n == n) ≡ have_prot q prot (from + 1) n
        → (cond (not b) 0 (pages_before (λ page. not (has_prot prot (q page))) (from + 1) n + 1) == suc n) ≡ (b && have_prot q prot (from + 1) n)
    by true h = same (pages_before (λ page. not (has_prot prot (q page))) (from + 1) n) n ∙ h
    by false h = fewer n

module _ (s : Space) (q : Process) (from n : ℕ) (at : IsSpace s q) where
  pub holes-same : pages_before (λ page. is_kind Hole (marks_at s.ranges page)) from n ≡ pages_to_hole q from n
  holes-same = ap (λ t. pages_before t from n) (λ i page. hole-is (marks_at s.ranges page) _ (q page) (at.pages page) i) ∙ holes-before q from n

  pub meets-same : nat_lt (pages_before (λ page. is_kind Mapped (marks_at s.ranges page)) from n) n ≡ meets q from n
  meets-same = ap (λ t. nat_lt (pages_before t from n) n) (λ i page. mapped-is (marks_at s.ranges page) _ (q page) (at.pages page) i)
      ∙ mapped-before q from n

  pub locked-same : pages_before (λ page. is_kind Locked (marks_at s.ranges page)) from n ≡ pages_to_locked q from n
  locked-same = ap (λ t. pages_before t from n) (λ i page. locked-is (marks_at s.ranges page) _ (q page) (at.pages page) i) ∙ locked-before q from n

  prot-same : (prot : Prot) → (pages_before (λ page. is_kind (Without prot) (marks_at s.ranges page)) from n == n) ≡ have_prot q prot from n
  prot-same prot = ap (λ t. pages_before t from n == n) (λ i page. without-is prot (marks_at s.ranges page) _ (q page) (at.pages page) i)
      ∙ prot-before q prot from n

  -- by the first page's protection
  pub one-prot-none : marks_at s.ranges from ≡ None → false ≡ have_one_prot q from n
  one-prot-none is = by (marks_at s.ranges from) _ (q from) (at.pages from) is
    where
      by : (o : Option Marks) (at : ℕ → ℕ) (p : Option Page) → IsPage o at p → o ≡ None
          → false ≡ option_map_or (λ (p : Page). have_prot q p.prot from n) p false
      by o at None h is = refl
      by None at (Some p) h is = absurd h
      by (Some k) at (Some p) h is = cc

  pub one-prot-some : (k : Marks) → marks_at s.ranges from ≡ Some k
      → (pages_before (λ page. is_kind (Without k.prot) (marks_at s.ranges page)) from n == n) ≡ have_one_prot q from n
  one-prot-some k is = prot-same k.prot ∙ by (marks_at s.ranges from) _ (q from) (at.pages from) is
    where
      by : (o : Option Marks) (at : ℕ → ℕ) (p : Option Page) → IsPage o at p → o ≡ Some k
          → have_prot q k.prot from n ≡ option_map_or (λ (p : Page). have_prot q p.prot from n) p false
      by None at None h is = cc
      by None at (Some p) h is = absurd h
      by (Some j) at None h is = absurd h
      by (Some j) at (Some p) h is = let same : j ≡ k = cc in λ i. have_prot q ((ap (λ (m : Marks). m.prot) (sym same) ∙ sym h.0) i) from n
