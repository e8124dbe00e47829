-- The entries of a child's table that don't go over: they are taken out, range by range.
use Rattle.std.proofs.Common.{◌≡◌, ℕ, ◌-◌, ◌≤◌, ◌<◌, Bool, true, false, cond, ◌==◌, nat_lt, Option, Some, refl, sym, ap, ◌∙◌, arith}
use Rattle.std.proofs.lemmas.Bool.Decides.{nat_tests}
use Rattle.av_base.specs.Words.{with_at, within}
use Rattle.av_pagetable.specs.Table.{without_range}
use Rattle.av_pagetable.specs.declared.pte.Pte.{Pte}
use Rattle.av_pagetable.specs.declared.pte.Pte.TheVariants.{Empty}
use Rattle.av_vma.specs.Index.{first_of, past_of}
use Rattle.av_vma.specs.Pages.{AreLaid}
use Rattle.av_vma.specs.declared.area.Area.{Area}
use Rattle.av_fork.specs.Entries.{entry_goes_over, left_in}

equal : (a b : ℕ) → (a == b) ≡ true → a ≡ b
equal a b h = grind (arith, nat_tests, h)

-- the tables where a process has no entry in a range
abbrev pub ranged : ℕ → ℕ → ℕ → (ℕ → ℕ → Pte) → ℕ → ℕ → Pte
ranged p from past tables = with_at p (without_range from past (tables p)) tables

-- ---- area by area

-- an area of a page: all of its pages from there on go over as it does
module _ (on : ℕ → Option Area) (laid : AreLaid on) (page : ℕ) (area : Area) (at : on page ≡ Some area) where
  pub run-further : page < past_of area
  run-further = below (first_of area) (past_of area) (laid.here page area at)
    where
      below : (first past : ℕ) → within first (past - first) page ≡ true → page < past
      below first past h = grind (arith, nat_tests, h)

  pub run-alike : (other : ℕ) → page ≤ other → other < past_of area → entry_goes_over (on other) ≡ entry_goes_over (Some area)
  run-alike other low high = ap entry_goes_over (laid.all page other area at (inside (first_of area) (past_of area) (laid.here page area at) high))
    where
      inside : (first past : ℕ) → within first (past - first) page ≡ true → other < past → within first (past - first) other ≡ true
      inside first past h high = grind (arith, nat_tests, h, low, high)

-- the tables where a process has no entry below a page that doesn't go over, by these areas
abbrev pub left_below : (ℕ → Option Area) → ℕ → ℕ → (ℕ → ℕ → Pte) → ℕ → ℕ → Pte
left_below areas p next tables = with_at p (λ o. cond (nat_lt o next) (left_in areas (tables p) o) (tables p o)) tables

pub left-none : (areas : ℕ → Option Area) (p : ℕ) (tables : ℕ → ℕ → Pte) → tables ≡ left_below areas p 0 tables
left-none areas p tables = λ i q o. by q o (q == p) refl i
  where
    none : (o : ℕ) → nat_lt o 0 ≡ false
    none o = grind (arith, nat_tests)

    by : (q o : ℕ) (a : Bool) → (q == p) ≡ a
        → tables q o ≡ cond {A = ℕ → Pte} a (λ o. cond (nat_lt o 0) (left_in areas (tables p) o) (tables p o)) (tables q) o
    by q o true at = ap (λ q. tables q o) (equal q p at) ∙ sym (ap (λ b. cond b (left_in areas (tables p) o) (tables p o)) (none o))
    by q o false at = refl

-- an entry that isn't there goes over or not
nothing : (b : Bool) (e : Pte) → e ≡ Empty → e ≡ cond b e Empty
nothing true e is = refl
nothing false e is = is

module _ (areas : ℕ → Option Area) (p next : ℕ) (old now : ℕ → ℕ → Pte) (is : now ≡ left_below areas p next old) where
  left-here : (o : ℕ) (b : Bool) → nat_lt o next ≡ b → now p o ≡ cond b (left_in areas (old p) o) (old p o)
  left-here o b e = ap (λ (t : ℕ → ℕ → Pte). t p o) is
      ∙ ap (λ b. cond {A = ℕ → Pte} b (λ o. cond (nat_lt o next) (left_in areas (old p) o) (old p o)) (old p) o) (itself p)
      ∙ ap (λ b. cond b (left_in areas (old p) o) (old p o)) e
    where
      itself : (a : ℕ) → (a == a) ≡ true
      itself a = grind (arith, nat_tests)

  left-there : (q o : ℕ) → (q == p) ≡ false → now q o ≡ old q o
  left-there q o e = ap (λ (t : ℕ → ℕ → Pte). t q o) is
      ∙ ap (λ b. cond {A = ℕ → Pte} b (λ o. cond (nat_lt o next) (left_in areas (old p) o) (old p o)) (old q) o) e

  -- from the next page with an entry on, up to another one, the entries lose what doesn't go over
  module _ (page past : ℕ) (up : next ≤ page) (some : page < past) (none : (o : ℕ) → next ≤ o → o < page → now p o ≡ Empty) (new : ℕ → ℕ → Pte)
      (inside : (o : ℕ) → page ≤ o → o < past → new p o ≡ left_in areas (now p) o)
      (outside : (o : ℕ) → within page (past - page) o ≡ false → new p o ≡ now p o) (others : (q o : ℕ) → (q == p) ≡ false → new q o ≡ now q o) where
    left-further : new ≡ left_below areas p past old
    left-further = λ i q o. by q o (q == p) refl i
      where
        from_page : (o : ℕ) → within page (past - page) o ≡ true → page ≤ o
        from_page o k = grind (arith, nat_tests, k)

        to_past : (o : ℕ) → within page (past - page) o ≡ true → o < past
        to_past o k = grind (arith, nat_tests, k)

        within_past : (o : ℕ) → within page (past - page) o ≡ true → nat_lt o past ≡ true
        within_past o k = grind (arith, nat_tests, k)

        not_before : (o : ℕ) → within page (past - page) o ≡ true → nat_lt o next ≡ false
        not_before o k = grind (arith, nat_tests, k, up)

        below_both : (o : ℕ) → nat_lt o next ≡ true → nat_lt o past ≡ true
        below_both o k = grind (arith, nat_tests, k, up, some)

        from_next : (o : ℕ) → nat_lt o next ≡ false → next ≤ o
        from_next o k = grind (arith, nat_tests, k)

        to_page : (o : ℕ) → within page (past - page) o ≡ false → nat_lt o past ≡ true → o < page
        to_page o k j = grind (arith, nat_tests, k, j)

        at : (o : ℕ) (x y z : Bool) → nat_lt o next ≡ x → within page (past - page) o ≡ y → nat_lt o past ≡ z
            → new p o ≡ cond z (left_in areas (old p) o) (old p o)
        at o x true z i j k = inside o (from_page o j) (to_past o j)
            ∙ ap (λ e. cond (entry_goes_over (areas o)) e Empty) (left-here o false (not_before o j))
            ∙ ap (λ b. cond b (left_in areas (old p) o) (old p o)) (sym (within_past o j) ∙ k)
        at o true false z i j k = outside o j ∙ left-here o true i ∙ ap (λ b. cond b (left_in areas (old p) o) (old p o)) (sym (below_both o i) ∙ k)
        at o false false true i j k =
            let empty = none o (from_next o i) (to_page o j k) in
            outside o j ∙ left-here o false i ∙ nothing (entry_goes_over (areas o)) (old p o) (sym (left-here o false i) ∙ empty)
        at o false false false i j k = outside o j ∙ left-here o false i

        by : (q o : ℕ) (a : Bool) → (q == p) ≡ a
            → new q o ≡ cond {A = ℕ → Pte} a (λ o. cond (nat_lt o past) (left_in areas (old p) o) (old p o)) (old q) o
        by q o true e = ap (λ q. new q o) (equal q p e) ∙ at o (nat_lt o next) (within page (past - page) o) (nat_lt o past) refl refl refl
        by q o false e = others q o e ∙ left-there q o e

  -- where all of these go over nothing is done
  pub left-over : (page past : ℕ) → next ≤ page → page < past → ((o : ℕ) → next ≤ o → o < page → now p o ≡ Empty)
      → ((o : ℕ) → page ≤ o → o < past → entry_goes_over (areas o) ≡ true) → now ≡ left_below areas p past old
  left-over page past up some none over = left-further page past up some none now
      (λ o low high. sym (ap (λ b. cond b (now p o) Empty) (over o low high))) (λ o out. refl) (λ q o e. refl)

  -- and where none does, they are taken out
  pub left-out : (page past : ℕ) → next ≤ page → page < past → ((o : ℕ) → next ≤ o → o < page → now p o ≡ Empty)
      → ((o : ℕ) → page ≤ o → o < past → entry_goes_over (areas o) ≡ false) → ranged p page past now ≡ left_below areas p past old
  left-out page past up some none out = left-further page past up some none (ranged p page past now)
      (λ o low high. own o ∙ ap (λ b. cond b Empty (now p o)) (in_it o low high) ∙ sym (ap (λ b. cond b (now p o) Empty) (out o low high)))
      (λ o outside. own o ∙ ap (λ b. cond b Empty (now p o)) outside)
      (λ q o e. ap (λ b. cond {A = ℕ → Pte} b (without_range page past (now p)) (now q) o) e)
    where
      itself : (a : ℕ) → (a == a) ≡ true
      itself a = grind (arith, nat_tests)

      own : (o : ℕ) → ranged p page past now p o ≡ without_range page past (now p) o
      own o = ap (λ b. cond {A = ℕ → Pte} b (without_range page past (now p)) (now p) o) (itself p)

      in_it : (o : ℕ) → page ≤ o → o < past → within page (past - page) o ≡ true
      in_it o low high = grind (arith, nat_tests, low, high)

  -- once there are none from there on, all are out that don't go over
  pub left-all : ((o : ℕ) → next ≤ o → now p o ≡ Empty) → now ≡ with_at p (left_in areas (old p)) old
  left-all none = λ i q o. by q o (q == p) refl i
    where
      from_next : (o : ℕ) → nat_lt o next ≡ false → next ≤ o
      from_next o k = grind (arith, nat_tests, k)

      at : (o : ℕ) (x : Bool) → nat_lt o next ≡ x → now p o ≡ left_in areas (old p) o
      at o true i = left-here o true i
      at o false i = left-here o false i ∙ nothing (entry_goes_over (areas o)) (old p o) (sym (left-here o false i) ∙ none o (from_next o i))

      by : (q o : ℕ) (a : Bool) → (q == p) ≡ a → now q o ≡ cond {A = ℕ → Pte} a (left_in areas (old p)) (old q) o
      by q o true e = ap (λ q. now q o) (equal q p e) ∙ at o (nat_lt o next) refl
      by q o false e = left-there q o e
