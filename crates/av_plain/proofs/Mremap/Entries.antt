-- Which entry a page has after the events of an mremap.
use Rattle.std.proofs.Common.{◌≡◌, ◌⊎◌, inl, inr, ℕ, ◌+◌, ◌-◌, ◌≤◌, ◌<◌, min, nat_lt, Bool, true, false, cond, not, ◌&&◌, T, Option, Some, None, refl, ap, ◌∙◌, arith, ◌==◌}
use Rattle.std.proofs.lemmas.Bool.{both_ways, eq-eqb, ltb-true, ltb-false}
use Rattle.std.proofs.lemmas.Bool.Decides.{nat_tests}
use Rattle.std.specs.FinMap.Entries.{is_sorted}
use Rattle.std.specs.Option.{option_or}
use Rattle.av_base.specs.Keys.{key_cmp}
use Rattle.av_base.specs.Words.{within}
use Rattle.av_vma.proofs.Mremap.{in_range as range_bounds, is_in_range, out_of_range}
use Rattle.av_plain.specs.Event.{after_all}
use Rattle.av_plain.specs.Ledger.{Entry, Ledger, entry}
use Rattle.av_plain.specs.Mremap.{remap_events}
use Rattle.av_plain.specs.Zap.{keys_in}
use Rattle.av_plain.proofs.Mremap.{after-elsewhere, after-in_place, entry-moved, entry-then_tail, in_order-zaps, then_tail, then_target}
use Rattle.av_plain.proofs.Zap.{entry-range, in_range}

or_none : (o : Option Entry) → option_or o None ≡ o
or_none None = refl
or_none (Some e) = refl

none_either : (b : Bool) (o : Option Entry) → o ≡ None → cond (not b) o None ≡ None
none_either true o h = refl
none_either false o h = h

none_both : (b : Bool) → ◌≡◌ {A = Option Entry} (cond b None None) None
none_both true = refl
none_both false = refl

module _ (l : Ledger) (p from n to m : ℕ) (sorted : T (is_sorted key_cmp l.entries)) where
  abbrev later : Ledger
  later = after_all l (remap_events l p from n to m)

  abbrev kept : Ledger
  kept = then_tail l p from n to m

  kept_sorted : T (is_sorted key_cmp kept.entries)
  kept_sorted =
      let target = then_target l p from n to m in
      in_order-zaps (keys_in target p (from + m) (n - m)) target (in_order-zaps (keys_in l p to m) l sorted)

  at_here : (to == from) ≡ true → (k page : ℕ) → entry later (k, page) ≡ cond (in_range p (from + m) (n - m) (k, page)) None (entry l (k, page))
  at_here here k page = ap (λ x. entry x (k, page)) (after-in_place l p from n to m here) ∙ entry-range l p (from + m) (n - m) k page

  -- an entry that has come, or else one that has not left
  abbrev either : Bool → Bool → ℕ → ℕ → Option Entry
  either comes leaves k page = option_or (cond comes (entry kept (p, page - to + from)) None) (cond (not leaves) (entry kept (k, page)) None)

  at_there : (to == from) ≡ false → (k page : ℕ) → entry later (k, page)
      ≡ either (in_range p to (min n m) (k, page)) (in_range p from (min n m) (k, page)) k page
  at_there there k page = ap (λ x. entry x (k, page)) (after-elsewhere l p from n to m there)
      ∙ entry-moved kept p (min n m) from to kept_sorted (k, page)

  -- other processes keep theirs
  pub of_others : (k page : ℕ) → (k == p) ≡ false → entry later (k, page) ≡ entry l (k, page)
  of_others k page other = by (to == from) refl
    where
      by : (b : Bool) → (to == from) ≡ b → entry later (k, page) ≡ entry l (k, page)
      by true here = at_here here k page ∙ (λ i. cond (other i && within (from + m) (n - m) page) None (entry l (k, page)))
      by false there = at_there there k page
          ∙ (λ i. either (other i && within to (min n m) page) (other i && within from (min n m) page) k page)
          ∙ entry-then_tail l p from n to m k page
          ∙ (λ i. cond (other i && within (from + m) (n - m) page) None (cond (other i && within to m page) None (entry l (k, page))))

  inside : (a b page : ℕ) (c : Bool) → within a b page ≡ c → in_range p a b (p, page) ≡ c
  inside a b page c h = λ i. eq-eqb p p refl i && h i

  -- ---- in place

  pub here_goes : (to == from) ≡ true → (page : ℕ) → within (from + m) (n - m) page ≡ true → entry later (p, page) ≡ None
  here_goes here page h = at_here here p page ∙ ap (λ b. cond b None (entry l (p, page))) (inside (from + m) (n - m) page true h)

  pub here_stays : (to == from) ≡ true → (page : ℕ) → within (from + m) (n - m) page ≡ false → entry later (p, page) ≡ entry l (p, page)
  here_stays here page h = at_here here p page ∙ ap (λ b. cond b None (entry l (p, page))) (inside (from + m) (n - m) page false h)

  -- ---- elsewhere

  module _ (there : (to == from) ≡ false) (apart : (to + m ≤ from) ⊎ (from + n ≤ to)) where
    kept_is : (page : ℕ) (b c : Bool) → within (from + m) (n - m) page ≡ b → within to m page ≡ c
        → entry kept (p, page) ≡ cond b None (cond c None (entry l (p, page)))
    kept_is page b c h i = entry-then_tail l p from n to m p page
        ∙ (λ j. cond (inside (from + m) (n - m) page b h j) None (cond (inside to m page c i j) None (entry l (p, page))))

    -- what it was: whether its entry has come there, and whether it has left
    now_is : (page : ℕ) (b c : Bool) → within to (min n m) page ≡ b → within from (min n m) page ≡ c
        → entry later (p, page) ≡ either b c p page
    now_is page b c h i = at_there there p page
        ∙ (λ j. either (inside to (min n m) page b h j) (inside from (min n m) page c i j) p page)

    none_target : (page : ℕ) → within to m page ≡ true → entry kept (p, page) ≡ None
    none_target page h = kept_is page (within (from + m) (n - m) page) true refl h ∙ none_both (within (from + m) (n - m) page)

    pub came : (page : ℕ) → within to m page ≡ true → nat_lt (page - to) n ≡ true → entry later (p, page) ≡ entry l (p, from + (page - to))
    came page h less =
        let b = range_bounds to m page h in
        let few = ltb-true (page - to) n less in
        now_is page true (within from (min n m) page) (is_in_range to (min n m) page b.0 (omega (arith, b, few))) refl
        ∙ ap (option_or (entry kept (p, page - to + from))) (none_either (within from (min n m) page) (entry kept (p, page)) (none_target page h))
        ∙ or_none (entry kept (p, page - to + from))
        ∙ kept_is (page - to + from) false false
        (out_of_range (from + m) (n - m) (page - to + from) (λ low high. omega (arith, b, low)))
        (out_of_range to m (page - to + from) (λ low high. clash apart b few low high))
        ∙ ap (λ o. entry l (p, o)) (turned (page - to))
      where
        turned : (x : ℕ) → x + from ≡ from + x
        turned x = omega arith

        clash : (to + m ≤ from) ⊎ (from + n ≤ to) → (to ≤ page) × (page < to + m) → page - to < n → to ≤ page - to + from
            → page - to + from < to + m → ⊥
        clash (inl e) b few low high = omega (arith, e, b, few, low, high)
        clash (inr e) b few low high = omega (arith, e, b, few, low, high)

    pub grew : (page : ℕ) → within to m page ≡ true → nat_lt (page - to) n ≡ false → entry later (p, page) ≡ None
    grew page h more =
        let b = range_bounds to m page h in
        let far = ltb-false (page - to) n more in
        now_is page false (within from (min n m) page) (out_of_range to (min n m) page (λ low high. omega (arith, far, low, high))) refl
        ∙ none_either (within from (min n m) page) (entry kept (p, page)) (none_target page h)

    pub left : (page : ℕ) → within to m page ≡ false → within from n page ≡ true → entry later (p, page) ≡ None
    left page h i = now_is page false (within from (min n m) page) (out_of_range to (min n m) page outside) refl
        ∙ by (within from (min n m) page) refl
      where
        outside : to ≤ page → page < to + min n m → ⊥
        outside low high = both_ways (within to m page) h (is_in_range to m page low (omega (arith, high)))

        by : (c : Bool) → within from (min n m) page ≡ c → option_or None (cond (not c) (entry kept (p, page)) None) ≡ None
        by true e = refl
        by false e =
            let b = range_bounds from n page i in
            kept_is page true (within to m page) (is_in_range (from + m) (n - m) page (past e b) (let k = past e b in omega (arith, b, k))) refl
          where
            past : within from (min n m) page ≡ false → (from ≤ page) × (page < from + n) → from + m ≤ page
            past e b = grind (arith, nat_tests, e, b)

    pub stays : (page : ℕ) → within to m page ≡ false → within from n page ≡ false → entry later (p, page) ≡ entry l (p, page)
    stays page h i = now_is page false false (out_of_range to (min n m) page not_new) (out_of_range from (min n m) page not_first)
        ∙ kept_is page false false (out_of_range (from + m) (n - m) page not_old) h
      where
        not_new : to ≤ page → page < to + min n m → ⊥
        not_new low high = both_ways (within to m page) h (is_in_range to m page low (omega (arith, high)))

        not_first : from ≤ page → page < from + min n m → ⊥
        not_first low high = both_ways (within from n page) i (is_in_range from n page low (omega (arith, high)))

        not_old : from + m ≤ page → page < from + m + (n - m) → ⊥
        not_old low high = both_ways (within from n page) i (is_in_range from n page (omega (arith, low)) (omega (arith, low, high)))
