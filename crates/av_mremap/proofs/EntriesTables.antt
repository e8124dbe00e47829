-- The entries of a range of pages are given to another one, run by run, and then taken out.
use Rattle.std.proofs.Common.{◌≡◌, ◌⊎◌, inl, inr, ℕ, ◌+◌, ◌-◌, ◌<◌, ◌≤◌, Bool, true, false, cond, ◌&&◌, List, get_or, refl, sym, ap, ◌∙◌, arith, ◌==◌}
use Rattle.std.proofs.lemmas.Bool.Decides.{nat_tests}
use Rattle.av_base.specs.Words.{with_at, within}
use Rattle.av_vma.proofs.Mremap.{in_range, is_in_range, out_of_range}
use Rattle.av_pagetable.specs.Entries.{with_entry}
use Rattle.av_pagetable.specs.Table.{without_range}
use Rattle.av_pagetable.specs.declared.pte.Pte.{Pte}
use Rattle.av_pagetable.specs.declared.pte.Pte.TheVariants.{Empty}
use Rattle.av_mremap.specs.Entries.{copied_entries, moved_entries, with_run}

-- ---- what is on a page after a copy

module _ {X : Type 0} (p n from to : ℕ) (f : ℕ → ℕ → X) where
  abbrev then : ℕ → ℕ → X
  then = copied_entries p n from to f

  pub on_other : (q o : ℕ) → (q == p) ≡ false → then q o ≡ f q o
  on_other q o e = λ i. cond (e i && within to n o) (f p (from + (o - to))) (f q o)

  -- the page is of the range to which the entries go, or not
  pub on_new : (q o : ℕ) → (q == p) ≡ true → within to n o ≡ true → then q o ≡ f p (from + (o - to))
  on_new q o e h = λ i. cond (e i && h i) (f p (from + (o - to))) (f q o)

  pub on_rest : (q o : ℕ) → (q == p) ≡ true → within to n o ≡ false → then q o ≡ f q o
  on_rest q o e h = λ i. cond (e i && h i) (f p (from + (o - to))) (f q o)

equal : (a b : ℕ) → (a == b) ≡ true → a ≡ b
equal a b h = grind (arith, nat_tests, h)

itself : (n : ℕ) → (n == n) ≡ true
itself n = grind (arith, nat_tests)

-- ---- a run is written, entry by entry

module _ (p from : ℕ) (run : List Pte) (old : ℕ → ℕ → Pte) where
  abbrev first : ℕ → ℕ → ℕ → Pte
  first k = with_run p from k run old

  none-within : (o : ℕ) → within from 0 o ≡ false
  none-within o = grind (arith, nat_tests)

  pub none_written : old ≡ first 0
  none_written = λ i q o. by q o (q == p) i
    where
      by : (q o : ℕ) (a : Bool) → old q o ≡ cond (a && within from 0 o) (get_or run (o - from) Empty) (old q o)
      by q o true = sym (ap (λ b. cond b (get_or run (o - from) Empty) (old q o)) (none-within o))
      by q o false = refl

  one-within : (k o : ℕ) → (o == from + k) ≡ true → within from (k + 1) o ≡ true
  one-within k o h = grind (arith, nat_tests, h)

  same-within : (k o : ℕ) → (o == from + k) ≡ false → within from k o ≡ within from (k + 1) o
  same-within k o h = grind (arith, nat_tests, h)

  not-within : (k o : ℕ) → (o == from + k) ≡ true → within from k o ≡ false
  not-within k o h = grind (arith, nat_tests, h)

  place : (k o : ℕ) → (o == from + k) ≡ true → k ≡ o - from
  place k o h = grind (arith, nat_tests, h)

  -- the next entry
  pub one_written : (k : ℕ) (now : ℕ → ℕ → Pte) → now ≡ first k → with_entry p (from + k) (get_or run k Empty) now ≡ first (k + 1)
  one_written k now is = ap (with_entry p (from + k) (get_or run k Empty)) is ∙ (λ i q o. by q o (q == p) (o == from + k) refl i)
    where
      by : (q o : ℕ) (a b : Bool) → (o == from + k) ≡ b → cond (a && b) (get_or run k Empty) (cond (a && within from k o) (get_or run (o - from) Empty) (old q o))
          ≡ cond (a && within from (k + 1) o) (get_or run (o - from) Empty) (old q o)
      by q o true true h = ap (λ n. get_or run n Empty) (place k o h)
          ∙ sym (ap (λ b. cond b (get_or run (o - from) Empty) (old q o)) (one-within k o h))
      by q o true false h = ap (λ b. cond b (get_or run (o - from) Empty) (old q o)) (same-within k o h)
      by q o false b h = refl

  -- where there is none, the page has none
  pub none_more : (k : ℕ) → get_or run k Empty ≡ Empty → old p (from + k) ≡ Empty → first k ≡ first (k + 1)
  none_more k none bare = λ i q o. by q o (q == p) (o == from + k) refl refl i
    where
      by : (q o : ℕ) (a b : Bool) → (q == p) ≡ a → (o == from + k) ≡ b → cond (a && within from k o) (get_or run (o - from) Empty) (old q o)
          ≡ cond (a && within from (k + 1) o) (get_or run (o - from) Empty) (old q o)
      by q o true true e h = ap (λ b. cond b (get_or run (o - from) Empty) (old q o)) (not-within k o h)
          ∙ ap (λ q. old q o) (equal q p e) ∙ ap (old p) (equal o (from + k) h) ∙ bare ∙ sym none
          ∙ ap (λ n. get_or run n Empty) (place k o h)
          ∙ sym (ap (λ b. cond b (get_or run (o - from) Empty) (old q o)) (one-within k o h))
      by q o true false e h = ap (λ b. cond b (get_or run (o - from) Empty) (old q o)) (same-within k o h)
      by q o false b e h = refl

-- ---- the copy, run by run

-- the entries below a page are copied
pub record IsCopying (old now : ℕ → ℕ → Pte) (p n from to next : ℕ) : Type 0 where
  pub low : from ≤ next
  pub high : next ≤ from + n
  pub copied : now ≡ copied_entries p (next - from) from to old

module _ (old : ℕ → ℕ → Pte) (p n from to : ℕ) (apart : (to + n ≤ from) ⊎ (from + n ≤ to))
    (bare : (o : ℕ) → within to n o ≡ true → old p o ≡ Empty) where
  abbrev after_some : ℕ → ℕ → ℕ → Pte
  after_some k = copied_entries p k from to old

  not_both : (o : ℕ) → within to n o ≡ true → within from n o ≡ true → ⊥
  not_both o h j = let t = in_range to n o h in let f = in_range from n o j in by t.0 t.1 f.0 f.1 apart
    where
      by : to ≤ o → o < to + n → from ≤ o → o < from + n → (to + n ≤ from) ⊎ (from + n ≤ to) → ⊥
      by a b c d (inl e) = omega arith
      by a b c d (inr e) = omega arith

  wider : (a k m o : ℕ) → k ≤ m → within a k o ≡ true → within a m o ≡ true
  wider a k m o less h = let t = in_range a k o h in is_in_range a m o t.0 (let high = t.1 in omega arith)

  of_p : (q o : ℕ) → (q == p) ≡ true → old q o ≡ old p o
  of_p q o e = ap (λ x. old x o) (equal q p e)

  -- pages without an entry may be copied or not
  skip : (k m : ℕ) → k ≤ m → m ≤ n → ((o : ℕ) → from + k ≤ o → o < from + m → old p o ≡ Empty) → (q o : ℕ) → after_some k q o ≡ after_some m q o
  skip k m less few none q o = by (q == p) refl
    where
      -- what would be the page's entry is none
      new_none : within to k o ≡ false → within to m o ≡ true → old p (from + (o - to)) ≡ Empty
      new_none i i' = let t = in_range to m o i' in let low = t.0 in let high = t.1 in let past = not_below i low in
          none (from + (o - to)) (omega arith) (omega arith)
        where
          not_below : within to k o ≡ false → to ≤ o → to + k ≤ o
          not_below h low = grind (arith, nat_tests, h, low)

      here : (a a' : Bool) → (q == p) ≡ true → within to k o ≡ a → within to m o ≡ a' → after_some k q o ≡ after_some m q o
      here true a' e i i' = on_new p k from to old q o e i ∙ sym (on_new p m from to old q o e (wider to k m o less i))
      here false true e i i' = on_rest p k from to old q o e i ∙ of_p q o e ∙ bare o (wider to m n o few i') ∙ sym (new_none i i')
          ∙ sym (on_new p m from to old q o e i')
      here false false e i i' = on_rest p k from to old q o e i ∙ sym (on_rest p m from to old q o e i')

      by : (b : Bool) → (q == p) ≡ b → after_some k q o ≡ after_some m q o
      by true e = here (within to k o) (within to m o) e refl refl
      by false e = on_other p k from to old q o e ∙ sym (on_other p m from to old q o e)

  -- a run more
  step : (k len : ℕ) (run : List Pte) → k + len ≤ n → ((i : ℕ) → i < len → get_or run i Empty ≡ old p (from + k + i)) → (q o : ℕ)
      → with_run p (to + k) len run (after_some k) q o ≡ after_some (k + len) q o
  step k len run few are q o = by (q == p) (within (to + k) len o) refl refl
    where
      inside : within (to + k) len o ≡ true → within to (k + len) o ≡ true
      inside h = grind (arith, nat_tests, h)

      below : within (to + k) len o ≡ false → within to k o ≡ false → within to (k + len) o ≡ false
      below h j = grind (arith, nat_tests, h, j)

      given : within (to + k) len o ≡ true → get_or run (o - (to + k)) Empty ≡ old p (from + (o - to))
      given h = let t = in_range (to + k) len o h in let low = t.0 in let high = t.1 in
          are (o - (to + k)) (omega (arith, low, high))
          ∙ ap (old p) (let at : from + k + (o - (to + k)) ≡ from + (o - to) = omega (arith, low) in at)

      rest : (b : Bool) → within to k o ≡ b → (q == p) ≡ true → within (to + k) len o ≡ false → after_some k q o ≡ after_some (k + len) q o
      rest true j e h = on_new p k from to old q o e j ∙ sym (on_new p (k + len) from to old q o e (wider to k (k + len) o (omega arith) j))
      rest false j e h = on_rest p k from to old q o e j ∙ sym (on_rest p (k + len) from to old q o e (below h j))

      by : (a b : Bool) → (q == p) ≡ a → within (to + k) len o ≡ b
          → cond (a && b) (get_or run (o - (to + k)) Empty) (after_some k q o) ≡ after_some (k + len) q o
      by true true e h = given h ∙ sym (on_new p (k + len) from to old q o e (inside h))
      by true false e h = rest (within to k o) refl e h
      by false b e h = on_other p k from to old q o e ∙ sym (on_other p (k + len) from to old q o e)

  -- ---- the pass

  pub none_yet : IsCopying old old p n from to from
  none_yet = record { low = omega arith; high = omega arith; copied = λ i q o. same q o i }
    where
      empty : (a o : ℕ) → within a (from - from) o ≡ false
      empty a o = grind (arith, nat_tests)

      same : (q o : ℕ) → old q o ≡ after_some (from - from) q o
      same q o = by (q == p) refl
        where
          by : (b : Bool) → (q == p) ≡ b → old q o ≡ after_some (from - from) q o
          by true e = sym (on_rest p (from - from) from to old q o e (empty to o))
          by false e = sym (on_other p (from - from) from to old q o e)

  module _ (now : ℕ → ℕ → Pte) (next : ℕ) (m : IsCopying old now p n from to next) where
    -- a page that isn't of the new range up to there has the entry that it had
    kept : (o : ℕ) → within to (next - from) o ≡ false → now p o ≡ old p o
    kept o outside = ap (λ (f : ℕ → ℕ → Pte). f p o) m.copied ∙ on_rest p (next - from) from to old p o (itself p) outside

    left : (o : ℕ) → from ≤ o → o < from + n → now p o ≡ old p o
    left o low high = kept o (out_of_range to (next - from) o (λ a b. by a b apart))
      where
        by : to ≤ o → o < to + (next - from) → (to + n ≤ from) ⊎ (from + n ≤ to) → ⊥
        by a b (inl e) = let l = m.low in let h = m.high in omega arith
        by a b (inr e) = let l = m.low in let h = m.high in omega arith

    -- where the range has none from there on, all are copied
    pub all_copied : (past : ℕ) → past ≡ from + n → ((o : ℕ) → next ≤ o → o < past → now p o ≡ Empty) → now ≡ copied_entries p n from to old
    all_copied past ends none = m.copied ∙ (λ i q o. skip (next - from) n few (omega arith) empty q o i)
      where
        few : next - from ≤ n
        few = let h = m.high in omega arith

        empty : (o : ℕ) → from + (next - from) ≤ o → o < from + n → old p o ≡ Empty
        empty o low high = let l = m.low in
            let at : next ≤ o = omega arith in
            let less : o < past = omega arith in sym (left o (omega arith) high) ∙ none o at less

    -- a run that comes next
    module _ (past page target len : ℕ) (ends : past ≡ from + n) (goes : target ≡ page - from + to) (up : next ≤ page) (under : page + len ≤ past)
      where
        -- its new pages have no entry yet
        pub bare_still : (o : ℕ) → within target len o ≡ true → now p o ≡ Empty
        bare_still o h = kept o (out_of_range to (next - from) o (λ a b. let t = inside.0 in omega arith))
            ∙ bare o (is_in_range to n o (let t = inside.0 in omega arith) (let t = inside.1 in let l = m.low in omega arith))
          where
            inside : (target ≤ o) × (o < target + len)
            inside = in_range target len o h

        pub run_copied : (new : ℕ → ℕ → Pte) (run : List Pte) → ((q : ℕ) → next ≤ q → q < page → now p q ≡ Empty)
            → ((i : ℕ) → i < len → get_or run i Empty ≡ now p (page + i)) → new ≡ with_run p target len run now
            → IsCopying old new p n from to (page + len)
        run_copied new run none are is = record {
          low = let l = m.low in omega arith;
          high = omega arith;
          copied = is
              ∙ (λ i. with_run p (at i) len run (before i))
              ∙ (λ i q o. step (page - from) len run few given q o i)
              ∙ ap after_some more;
        }
          where
            low : from ≤ page
            low = let l = m.low in omega arith

            at : target ≡ to + (page - from)
            at = omega arith

            few : page - from + len ≤ n
            few = let l = low in omega arith

            more : page - from + len ≡ page + len - from
            more = let l = low in omega arith

            given : (i : ℕ) → i < len → get_or run i Empty ≡ old p (from + (page - from) + i)
            given i below = let l = low in are i below ∙ left (page + i) (omega arith) (omega arith)
                ∙ ap (old p) (let here : page + i ≡ from + (page - from) + i = omega arith in here)

            empty : (o : ℕ) → from + (next - from) ≤ o → o < from + (page - from) → old p o ≡ Empty
            empty o a b =
                let l = m.low in
                let f = low in
                let at : next ≤ o = omega arith in
                let less : o < page = omega arith in
                sym (left o (omega arith) (omega arith)) ∙ none o at less

            before : now ≡ after_some (page - from)
            before = m.copied ∙ (λ i q o. skip (next - from) (page - from) (omega arith)
                (let h = few in omega arith) empty q o i)

  -- ---- and then the first range loses them
  pub taken_out : (now new : ℕ → ℕ → Pte) → now ≡ after_some n → new ≡ with_at p (without_range from (from + n) (now p)) now
      → new ≡ moved_entries Empty p n from to old
  taken_out now new is takes = takes ∙ (λ i. with_at p (without_range from (from + n) (is i p)) (is i))
      ∙ (λ i q o. by q o (q == p) (within to n o) (within from n o) refl refl refl i)
    where
      long : (from + n) - from ≡ n
      long = omega arith

      by : (q o : ℕ) (a b c : Bool) → (q == p) ≡ a → within to n o ≡ b → within from n o ≡ c
          → with_at p (without_range from (from + n) (after_some n p)) (after_some n) q o ≡ moved_entries Empty p n from to old q o
      by q o a b c e h j = ap (λ m. cond {A = ℕ → Pte} (q == p) (λ o. cond (within from m o) Empty (after_some n p o)) (after_some n q) o) long
          ∙ cases a b c e h j
        where
          cases : (a b c : Bool) → (q == p) ≡ a → within to n o ≡ b → within from n o ≡ c
              → cond {A = ℕ → Pte} (q == p) (λ o. cond (within from n o) Empty (after_some n p o)) (after_some n q) o
              ≡ moved_entries Empty p n from to old q o
          cases true true true e h j = absurd (not_both o h j)
          cases true true false e h j =
              (λ i. cond {A = ℕ → Pte} (e i) (λ o. cond (within from n o) Empty (after_some n p o)) (after_some n q) o)
              ∙ ap (λ b. cond b Empty (after_some n p o)) j ∙ on_new p n from to old p o (itself p) h
              ∙ sym (λ i. cond (e i && h i) (old p (from + (o - to))) (cond (e i && within from n o) Empty (old q o)))
          cases true false true e h j =
              (λ i. cond {A = ℕ → Pte} (e i) (λ o. cond (within from n o) Empty (after_some n p o)) (after_some n q) o)
              ∙ ap (λ b. cond b Empty (after_some n p o)) j
              ∙ sym (λ i. cond (e i && h i) (old p (from + (o - to))) (cond (e i && j i) Empty (old q o)))
          cases true false false e h j =
              (λ i. cond {A = ℕ → Pte} (e i) (λ o. cond (within from n o) Empty (after_some n p o)) (after_some n q) o)
              ∙ ap (λ b. cond b Empty (after_some n p o)) j ∙ on_rest p n from to old p o (itself p) h ∙ sym (of_p q o e)
              ∙ sym (λ i. cond (e i && h i) (old p (from + (o - to))) (cond (e i && j i) Empty (old q o)))
          cases false b c e h j =
              (λ i. cond {A = ℕ → Pte} (e i) (λ o. cond (within from n o) Empty (after_some n p o)) (after_some n q) o)
              ∙ on_other p n from to old q o e
              ∙ sym (λ i. cond (e i && within to n o) (old p (from + (o - to))) (cond (e i && within from n o) Empty (old q o)))
