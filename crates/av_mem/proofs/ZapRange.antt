-- The entries of two ranges that touch go one after the other.
use Rattle.std.proofs.Common.{◌≡◌, ℕ, zero, suc, ◌+◌, ◌-◌, true, cond, not, T, List, ◌++◌, Option, Some, None, refl, sym, ap, subst, ◌∙◌, arith}
use Rattle.std.proofs.lemmas.Bool.Decides.{nat_tests}
use Rattle.std.proofs.lemmas.List.{append-nil, append_assoc}
use Rattle.std.specs.FinMap.Entries.{is_sorted, is_sorted-where_key}
use Rattle.av_base.specs.Keys.{Key, key_cmp, same_key}
use Rattle.av_base.proofs.Keys.{same_key-itself}
use Rattle.av_base.specs.Words.{within}
use Rattle.av_plain.specs.Event.{Event, after_all}
use Rattle.av_plain.specs.Ledger.{Entry, Ledger, entry}
use Rattle.av_plain.specs.Zap.{keys_in, zap_of, zaps_of}
use Rattle.av_plain.proofs.Access.{after_all-append}
use Rattle.av_mem.proofs.PagesGone.{within-none, within-one}
use Rattle.av_plain.proofs.Zap.{entries-zap_of, entry-zap_of, range-behind, range-done, range-empty, range-least}

in_order-zap_of : (l : Ledger) (k : Key) → T (is_sorted key_cmp l.entries) → T (is_sorted key_cmp (after_all l (zap_of l k)).entries)
in_order-zap_of l k h = subst (λ es. T (is_sorted key_cmp es)) (sym (entries-zap_of l k))
    (is_sorted-where_key key_cmp (λ q. not (same_key k q)) l.entries h)

-- an entry that has gone is gone
entry-gone : (l : Ledger) (k : Key) → entry (after_all l (zap_of l k)) k ≡ None
entry-gone l k = entry-zap_of l k k ∙ ap (λ b. cond b None (entry l k)) (same_key-itself k)

module _ (p : ℕ) where
  -- after some events those of another range
  abbrev and_then : Ledger → List Event → ℕ → ℕ → List Event
  and_then l events from n = events ++ zaps_of (after_all l events) (keys_in (after_all l events) p from n)

  -- a page without an entry is passed over
  pass : (l : Ledger) (from n : ℕ) → entry l (p, from) ≡ None → keys_in l p from (suc n) ≡ keys_in l p (from + 1) n
  pass l from n none = range-behind l p from (suc n) 1 (omega arith) (λ page low high. ap (λ page. entry l (p, page))
      (let same : page ≡ from = omega (arith, low, high) in same) ∙ none)
      ∙ ap (keys_in l p (from + 1)) (let less : suc n - 1 ≡ n = omega arith in less)

  -- the first page's entry goes, and then those of the rest
  first : (l : Ledger) (from n : ℕ) (e : Entry) → T (is_sorted key_cmp l.entries) → entry l (p, from) ≡ Some e
      → zaps_of l (keys_in l p from (suc n)) ≡ and_then l (zap_of l (p, from)) (from + 1) n
  first l from n e sorted is = range-least l p from (suc n) from e sorted is (inside from n) (λ page low high. absurd (omega (arith, low, high)))
      ∙ ap (λ ks. zap_of l (p, from) ++ zaps_of (after_all l (zap_of l (p, from))) ks)
      (pass (after_all l (zap_of l (p, from))) from n (entry-gone l (p, from)))
    where
      inside : (from n : ℕ) → within from (suc n) from ≡ true
      inside from n = grind (arith, nat_tests)

  -- the events of one page
  pub one-page : (l : Ledger) (page : ℕ) (e : Entry) → T (is_sorted key_cmp l.entries) → entry l (p, page) ≡ Some e
      → zaps_of l (keys_in l p page 1) ≡ zap_of l (p, page)
  one-page l page e sorted is = range-least l p page 1 page e sorted is (inside page) (λ page low high. absurd (omega (arith, low, high)))
      ∙ ap (λ es. zap_of l (p, page) ++ es) (range-done (after_all l (zap_of l (p, page))) p page 1
      (λ q h. ap (λ q. entry (after_all l (zap_of l (p, page))) (p, q)) (within-one page q h) ∙ entry-gone l (p, page)))
      ∙ append-nil (zap_of l (p, page))
    where
      inside : (page : ℕ) → within page 1 page ≡ true
      inside page = grind (arith, nat_tests)

  pub zaps-split : (a : ℕ) (l : Ledger) (from b : ℕ) → T (is_sorted key_cmp l.entries)
      → zaps_of l (keys_in l p from (a + b)) ≡ and_then l (zaps_of l (keys_in l p from a)) (from + a) b
  zaps-split zero l from b sorted =
      ap (zaps_of l) (λ i. keys_in l p (sym (at_first from) i) (none_more b i))
      ∙ sym (ap (λ ks. and_then l (zaps_of l ks) (from + 0) b) (range-empty l p from 0 (λ page h. absurd (within-none from page h))))
    where
      at_first : (from : ℕ) → from + 0 ≡ from
      at_first from = omega arith

      none_more : (b : ℕ) → 0 + b ≡ b
      none_more b = omega arith
  zaps-split (suc a) l from b sorted = by (λ l from. zaps-split a l from b) (entry l (p, from)) refl
    where
      more : suc a + b ≡ suc (a + b)
      more = omega arith

      place : from + 1 + a ≡ from + suc a
      place = omega arith

      by : ((l : Ledger) (from : ℕ) → T (is_sorted key_cmp l.entries)
          → zaps_of l (keys_in l p from (a + b)) ≡ and_then l (zaps_of l (keys_in l p from a)) (from + a) b)
          → (o : Option Entry) → entry l (p, from) ≡ o
          → zaps_of l (keys_in l p from (suc a + b)) ≡ and_then l (zaps_of l (keys_in l p from (suc a))) (from + suc a) b
      by rec None is =
          ap (λ n. zaps_of l (keys_in l p from n)) more ∙ ap (zaps_of l) (pass l from (a + b) is) ∙ rec l (from + 1) sorted
          ∙ (λ i. and_then l (zaps_of l (sym (pass l from a is) i)) (place i) b)
      by rec (Some e) is =
          let k : Key = (p, from) in
          let now = after_all l (zap_of l k) in
          let rest = zaps_of now (keys_in now p (from + 1) a) in
          ap (λ n. zaps_of l (keys_in l p from n)) more ∙ first l from (a + b) e sorted is
          ∙ ap (λ es. zap_of l k ++ es) (rec now (from + 1) (in_order-zap_of l k sorted))
          ∙ sym (append_assoc (zap_of l k) rest (zaps_of (after_all now rest) (keys_in (after_all now rest) p (from + 1 + a) b)))
          ∙ ap (λ then. (zap_of l k ++ rest) ++ zaps_of then (keys_in then p (from + 1 + a) b)) (sym (after_all-append l (zap_of l k) rest))
          ∙ (λ i. and_then l (sym (first l from a e sorted is) i) (place i) b)
