-- The slots after a count and a flag are written at one of them.
use Rattle.std.proofs.Common.{◌≡◌, ℕ, ◌%◌, ◌^◌, ◌<◌, ◌≤◌, ◌==◌, Bool, true, false, cond, List, length, get_or, slice_set, Option, None, refl, sym, ap, subst, ◌∙◌, arith, length-set, get_or-set_same, get_or-set_other, Result, Ok, Err, MatchResult}
use Rattle.std.specs.Result.{IsErr}
use Rattle.std.proofs.lemmas.Bool.Decides.{nat_tests}
use Rattle.std.proofs.lemmas.Bool.{false≢true}
use Rattle.av_swapmap.specs.Digits.{byte_of, further_of, cached_of, count_of}
use Rattle.av_swapmap.specs.Counts.{Store, shown, more_at, IsSlot, IsWhole}
use Rattle.av_base.specs.Words.{with_at}
use Rattle.av_swapmap.proofs.Numbers.{good_byte, byte_cached, count_is, needs_none}

-- a count and a flag make a slot
pub slot_made : (n : ℕ) (c : Bool) → n < 2 ^ 32 → IsSlot (byte_of n c) (further_of n)
slot_made n c h = let is = count_is n c h in record {
  fits = subst (λ x. x < 2 ^ 32) (sym is) h;
  byte_is = ap (λ b. cond b 63 (byte_of (count_of (byte_of n c) (further_of n)) (cached_of (byte_of n c)))) (good_byte n c)
      ∙ ap (λ x. byte_of x (cached_of (byte_of n c))) is ∙ ap (λ x. byte_of n x) (byte_cached n c);
  more_is = ap further_of (sym is);
  bad_has_none = λ e. absurd (false≢true (sym (good_byte n c) ∙ e));
}

-- a write at one place of a list, as a function
at_set : (xs : List ℕ) (page x : ℕ) → page < length xs → (q : ℕ) → get_or (slice_set xs page x) q 0 ≡ with_at page x (λ p. get_or xs p 0) q
at_set xs page x below q = point (q == page) refl
  where
    point : (b : Bool) → (q == page) ≡ b → get_or (slice_set xs page x) q 0 ≡ cond b x (get_or xs q 0)
    point true e = let is : q ≡ page = grind (arith, nat_tests) in ap (λ p. get_or (slice_set xs page x) p 0) is ∙ get_or-set_same xs page x 0 below
    point false e = let ne : q ≡ page → ⊥ = grind (arith, nat_tests) in get_or-set_other xs page q x 0 ne

module _ (all : List ℕ) (old new : List (ℕ × List ℕ)) (page n : ℕ) (c : Bool) (below : page < length all)
    (now : (q : ℕ) → more_at new q ≡ with_at page (further_of n) (more_at old) q) where
  -- each slot is kept as it was but one
  slot_at : (P : ℕ → Option (List ℕ) → Type 0) (q : ℕ) → P (byte_of n c) (further_of n) → P (get_or all q 0) (more_at old q) →
      P (get_or (slice_set all page (byte_of n c)) q 0) (more_at new q)
  slot_at P q here other = subst (λ x. P x (more_at new q)) (sym (at_set all page (byte_of n c) below q))
      (subst (λ y. P (with_at page (byte_of n c) (λ p. get_or all p 0) q) y) (sym (now q)) (pick (q == page)))
    where
      pick : (b : Bool) → P (cond b (byte_of n c) (get_or all q 0)) (cond b (further_of n) (more_at old q))
      pick true = here
      pick false = other

  pub whole_written : IsWhole all old → n < 2 ^ 32 → IsWhole (slice_set all page (byte_of n c)) new
  whole_written w h = record {
    few = subst (λ x. x < 2 ^ 32) (sym (length-set all page (byte_of n c))) w.few;
    slots = λ q. slot_at IsSlot q (slot_made n c h) (w.slots q);
  }

  -- any word on a slot, after the write
  word_at : {X : Type 0} (f : ℕ → Option (List ℕ) → X) (q : ℕ) → f (get_or (slice_set all page (byte_of n c)) q 0) (more_at new q) ≡ with_at page
      (f (byte_of n c) (further_of n)) (λ p. f (get_or all p 0) (more_at old p)) q
  word_at f q = ap (λ x. f x (more_at new q)) (at_set all page (byte_of n c) below q)
      ∙ ap (λ y. f (with_at page (byte_of n c) (λ p. get_or all p 0) q) y)
      (now q) ∙ pick (q == page)
    where
      pick : (b : Bool) → f (cond b (byte_of n c) (get_or all q 0)) (cond b (further_of n) (more_at old q)) ≡ cond b (f (byte_of n c) (further_of n))
          (f (get_or all q 0) (more_at old q))
      pick true = refl
      pick false = refl

  -- what is seen then, of a slot that isn't bad
  pub seen_written : n < 2 ^ 32 → (get_or all page 0 == 63) ≡ false
      → shown (record { bytes = slice_set all page (byte_of n c); more = new })
      ≡ record (shown (record { bytes = all; more = old })) {
        cached = with_at page c (shown (record { bytes = all; more = old })).cached;
        count = with_at page n
            (shown (record { bytes = all; more = old })).count;
      }
  seen_written h good = λ k. record {
    pages = length-set all page (byte_of n c) k;
    bad = λ q. (word_at (λ b m. b == 63) q ∙ ap (λ x. with_at page x (λ p. get_or all p 0 == 63) q) (good_byte n c)
        ∙ stays (λ p. get_or all p 0 == 63) false good q) k;
    cached = λ q. (word_at (λ b m. cached_of b) q ∙ ap (λ x. with_at page x (λ p. cached_of (get_or all p 0)) q) (byte_cached n c)) k;
    count = λ q. (word_at count_of q ∙ ap (λ x. with_at page x (λ p. count_of (get_or all p 0) (more_at old p)) q) (count_is n c h)) k;
  }
    where
      stays : {X : Type 0} (f : ℕ → X) (x : X) → f page ≡ x → (q : ℕ) → with_at page x f q ≡ f q
      stays f x is q = point (q == page) refl
        where
          point : (b : Bool) → (q == page) ≡ b → cond b x (f q) ≡ f q
          point true e = let same : q ≡ page = grind (arith, nat_tests) in sym is ∙ ap f (sym same)
          point false e = refl

-- a function whose value at one number is written again
pub same_again : {X : Type 0} (f : ℕ → X) (page : ℕ) → with_at page (f page) f ≡ f
same_again f page = λ k q. point q (q == page) refl k
  where
    point : (q : ℕ) (b : Bool) → (q == page) ≡ b → cond b (f page) (f q) ≡ f q
    point q true e = let same : q ≡ page = grind (arith, nat_tests) in ap f (sym same)
    point q false e = refl

-- the further digits stay where the count does
pub digits_stay : (s : Store) (page n : ℕ) → IsWhole s.bytes s.more → n ≡ (shown s).count page → (q : ℕ) →
    more_at s.more q ≡ with_at page (further_of n) (more_at s.more) q
digits_stay s page n w is q = point (q == page) refl
  where
    point : (b : Bool) → (q == page) ≡ b → more_at s.more q ≡ cond b (further_of n) (more_at s.more q)
    point true e = let same : q ≡ page = grind (arith, nat_tests) in ap (more_at s.more) same ∙ (w.slots page).more_is ∙ ap further_of (sym is)
    point false e = refl

-- a bad slot isn't named and isn't cached
pub bad_unnamed : (s : Store) (page : ℕ) → IsWhole s.bytes s.more → (shown s).bad page ≡ true
    → ((shown s).count page ≡ 0) × ((shown s).cached page ≡ false)
bad_unnamed s page w e =
    let is : get_or s.bytes page 0 ≡ 63 = grind (arith, nat_tests) in (
      ap (count_of (get_or s.bytes page 0)) ((w.slots page).bad_has_none e) ∙ ap (λ b. cond b 0 (get_or s.bytes page 0 % 64)) e,
      ap cached_of is,
    )

-- so a slot that entries name isn't bad
pub named_good : (s : Store) (page n : ℕ) → IsWhole s.bytes s.more → n ≤ (shown s).count page → (n ≡ 0 → ⊥) → (shown s).bad page ≡ false
named_good s page n w some positive = split (get_or s.bytes page 0 == 63) refl
  where
    split : (b : Bool) → (get_or s.bytes page 0 == 63) ≡ b → (get_or s.bytes page 0 == 63) ≡ false
    split true e = let low : n ≤ 0 = subst (λ x. n ≤ x) (bad_unnamed s page w e).0 some in absurd (positive (omega (arith, low)))
    split false e = e

-- what a call that writes one slot leaves, where its value before is t
module _ (s t : Store) (view_is : s ≡ t) (w : IsWhole s.bytes s.more) (page n b : ℕ) (c : Bool) (new : List (ℕ × List ℕ))
    (below : page < (shown t).pages)
    (fits : n < 2 ^ 32) (b_is : b ≡ byte_of n c) (now : (q : ℕ) → more_at new q ≡ with_at page (further_of n) (more_at s.more) q) where
  below_s : page < length s.bytes
  below_s = subst (λ (v : Store). page < length v.bytes) (sym view_is) below

  pub whole_after : IsWhole (slice_set s.bytes page b) new
  whole_after = subst (λ x. IsWhole (slice_set s.bytes page x) new) (sym b_is) (whole_written s.bytes s.more new page n c below_s now w fits)

  pub seen_after : (shown t).bad page ≡ false
      → shown (record { bytes = slice_set s.bytes page b; more = new }) ≡ record (shown t) {
        cached = with_at page c (shown t).cached;
        count = with_at page n (shown t).count;
      }
  seen_after good = ap (λ x. shown (record { bytes = slice_set s.bytes page x; more = new })) b_is
      ∙ seen_written s.bytes s.more new page n c below_s now fits (subst (λ (v : Store). (shown v).bad page ≡ false) (sym view_is) good)
      ∙ ap (λ (v : Store). record (shown v) { cached = with_at page c (shown v).cached; count = with_at page n (shown v).count }) view_is

  -- the flag stays
  pub count_after : (shown t).bad page ≡ false → c ≡ (shown t).cached page → (m : ℕ) → n ≡ m
      → shown (record { bytes = slice_set s.bytes page b; more = new }) ≡ record (shown t) { count = with_at page m (shown t).count }
  count_after good same m is = seen_after good
      ∙ ap (λ f. record (shown t) { cached = f; count = with_at page n (shown t).count })
      (ap (λ x. with_at page x (shown t).cached) same ∙ same_again (shown t).cached page)
      ∙ ap (λ x. record (shown t) { count = with_at page x (shown t).count }) is

  -- the count stays
  pub cached_after : (shown t).bad page ≡ false → n ≡ (shown t).count page
      → shown (record { bytes = slice_set s.bytes page b; more = new }) ≡ record (shown t) { cached = with_at page c (shown t).cached }
  cached_after good same = seen_after good ∙ ap (λ f. record (shown t) { cached = with_at page c (shown t).cached; count = f })
      (ap (λ x. with_at page x (shown t).count) same ∙ same_again (shown t).count page)

-- where neither bytes nor digits change
pub seen_kept : (s t : Store) → s ≡ t → (new : List (ℕ × List ℕ)) → ((q : ℕ) → more_at new q ≡ more_at s.more q) →
    shown (record { bytes = s.bytes; more = new }) ≡ shown t
seen_kept s t is new now = (λ k. record (shown s) { count = λ q. count_of (get_or s.bytes q 0) (now q k) }) ∙ ap shown is

-- a result that is an error
pub on_err : {A E : Type 0} (r : Result A E) (P Q : Type 0) → IsErr r → Q → MatchResult r (λ _. P) (λ _. Q)
on_err (Ok x) P Q h q = cc
on_err (Err e) P Q h q = q

-- a slot without continuation digits has a count that needs none
pub none_small : (s : Store) (page : ℕ) → IsWhole s.bytes s.more → more_at s.more page ≡ None → (shown s).count page < 63
none_small s page w none = needs_none (count_of (get_or s.bytes page 0) (more_at s.more page)) (sym none ∙ (w.slots page).more_is)
