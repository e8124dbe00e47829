-- What is said of a page, by the bounds below it.
use Rattle.std.proofs.Common.{◌≡◌, ◌≢◌, ℕ, zero, suc, ◌+◌, ◌-◌, ◌<◌, ◌≤◌, ◌^◌, Bool, true, false, cond}
use Rattle.std.proofs.Common.{◌&&◌, nat_le, nat_lt, Option, Some, None, is_some, List, refl, sym, ap, subst, ◌∙◌, arith}
use Rattle.std.specs.Prelude.{Err, MatchOption, Ok, OnErr, OnOk, Result, max}
use Rattle.std.specs.BTreeMap.{is_at}
use Rattle.std.proofs.lemmas.Bool.Decides.{nat_tests}
use Rattle.std.specs.Option.{IsSome, unwrap_or}
use Rattle.std.specs.Ordering.{is_gt, is_lt, nat_cmp}
use Rattle.std.proofs.lemmas.Map.Lookups.{exact_unsigned}
use Rattle.std.proofs.lemmas.Map.Views.{tells_apart}
use Rattle.std.proofs.lemmas.Map.Keys.{ge_from_not_lt}
use Rattle.av_base.specs.Words.{within}
use Rattle.av_vma.specs.Gap.{IsRoom}
use Rattle.av_audit_ranges.specs.Holes.{Hole}
use Rattle.av_audit_ranges.specs.Ranges.{AreRanges, IsTightAt, bound_at, is_mapped, marks_at, marks_below, marks_by, marks_below_by}
use Rattle.av_audit_ranges.specs.declared.marks.Marks.{Marks}

abbrev pub Bound : Type 0
Bound = ℕ → Option (Option Marks)

pub marks-step : (f : Bound) (p : ℕ) → marks_by f p ≡ unwrap_or (f p) (marks_below_by f p)
unfolding marks_by
marks-step f zero = refl
marks-step f (suc p) = refl

pub marks-at : (f : Bound) (p : ℕ) (v : Option Marks) → f p ≡ Some v → marks_by f p ≡ v
marks-at f p v is = marks-step f p ∙ ap (λ o. unwrap_or o (marks_below_by f p)) is

pub marks-up : (f : Bound) (p : ℕ) → f p ≡ None → marks_by f p ≡ marks_below_by f p
marks-up f p is = marks-step f p ∙ ap (λ o. unwrap_or o (marks_below_by f p)) is

-- ---- by the same bounds

-- where the same is said of one page, and the bounds above it are the same
pub marks-from : (f g : Bound) (a p : ℕ) → a ≤ p → marks_by f a ≡ marks_by g a → ((q : ℕ) → a < q → q ≤ p → f q ≡ g q) → marks_by f p ≡ marks_by g p
marks-from f g a p low at same = by (p - a) p (omega (arith, low)) same
  where
    by : (k p : ℕ) → p ≡ a + k → ((q : ℕ) → a < q → q ≤ p → f q ≡ g q) → marks_by f p ≡ marks_by g p
    by zero p is same = let here : p ≡ a = omega (arith, is) in ap (marks_by f) here ∙ at ∙ ap (marks_by g) (sym here)
    by (suc k) zero is same = absurd (omega (arith, is))
    by (suc k) (suc p) is same =
        marks-step f (suc p)
        ∙ (λ i. unwrap_or (same (suc p) (omega (arith, is)) (omega arith) i) (by k p (omega (arith, is)) (λ q low high. same q low (omega (arith, high))) i))
        ∙ sym (marks-step g (suc p))

-- where all bounds up to a page are the same
pub marks-same : (f g : Bound) (p : ℕ) → ((q : ℕ) → q ≤ p → f q ≡ g q) → marks_by f p ≡ marks_by g p
marks-same f g p same =
    marks-from f g 0 p (omega arith) (marks-step f 0 ∙ ap (λ o. unwrap_or o None) (same 0 (omega arith)) ∙ sym (marks-step g 0))
    (λ q low high. same q high)

pub below-same : (f g : Bound) (p : ℕ) → ((q : ℕ) → q < p → f q ≡ g q) → marks_below_by f p ≡ marks_below_by g p
below-same f g zero same = refl
below-same f g (suc p) same = marks-same f g p (λ q high. same q (omega (arith, high)))

-- ---- where there is no bound

-- what is said of a page is said of those above it, up to the next bound
pub marks-run : (f : Bound) (a p : ℕ) → a ≤ p → ((q : ℕ) → a < q → q ≤ p → f q ≡ None) → marks_by f p ≡ marks_by f a
marks-run f a p low none = by (p - a) p (omega (arith, low)) none
  where
    by : (k p : ℕ) → p ≡ a + k → ((q : ℕ) → a < q → q ≤ p → f q ≡ None) → marks_by f p ≡ marks_by f a
    by zero p is none = let here : p ≡ a = omega (arith, is) in ap (marks_by f) here
    by (suc k) zero is none = absurd (omega (arith, is))
    by (suc k) (suc p) is none =
        marks-up f (suc p) (none (suc p) (omega (arith, is)) (omega arith)) ∙ by k p (omega (arith, is)) (λ q low high. none q low (omega (arith, high)))

-- nothing is mapped below the first bound
pub marks-none : (f : Bound) (p : ℕ) → ((q : ℕ) → q ≤ p → f q ≡ None) → marks_by f p ≡ None
marks-none f p none = marks-run f 0 p (omega arith) (λ q low high. none q high) ∙ marks-up f 0 (none 0 (omega arith))

-- below the next bound the same is said as at this one
pub below-run : (f : Bound) (a p : ℕ) → a < p → ((q : ℕ) → a < q → q < p → f q ≡ None) → marks_below_by f p ≡ marks_by f a
below-run f a zero low none = absurd (omega (arith, low))
below-run f a (suc p) low none = marks-run f a p (omega (arith, low)) (λ q b h. none q b (omega (arith, h)))

-- ---- where one bound changes

pub lt-is : (a b : ℕ) → nat_lt a b ≡ true → a < b
lt-is a b h = grind (arith, nat_tests)

pub lt-not : (a b : ℕ) → nat_lt a b ≡ false → b ≤ a
lt-not a b h = grind (arith, nat_tests)

-- where the same is said at a bound, and the others are the same, the same is said of each page
pub marks-but-one : (f g : Bound) (at : ℕ) → marks_by g at ≡ marks_by f at → ((q : ℕ) → (q ≡ at → ⊥) → g q ≡ f q)
    → (p : ℕ) → marks_by g p ≡ marks_by f p
marks-but-one f g at same others p = by (nat_lt p at) refl
  where
    by : (b : Bool) → nat_lt p at ≡ b → marks_by g p ≡ marks_by f p
    by true is =
        let less = lt-is p at is in
        marks-same g f p (λ q high. others q (λ e. omega (arith, e, high, less)))
    by false is = marks-from g f at p (lt-not p at is) same (λ q low high. others q (λ e. omega (arith, e, low)))

-- a bound at which the same is said as below it can go
pub marks-gone : (f g : Bound) (at : ℕ) → g at ≡ None → ((q : ℕ) → (q ≡ at → ⊥) → g q ≡ f q) → marks_by g at ≡ marks_below_by f at
marks-gone f g at none others = marks-up g at none ∙ below-same g f at (λ q low. others q (λ e. omega (arith, e, low)))

-- where a bound stands in both, the same is said at it
pub marks-bound : (f g : Bound) (at : ℕ) → IsSome (f at) → g at ≡ f at → marks_by g at ≡ marks_by f at
marks-bound f g at some same = by (f at) refl some
  where
    by : (o : Option (Option Marks)) → f at ≡ o → IsSome o → marks_by g at ≡ marks_by f at
    by None is h = cc
    by (Some v) is h = marks-at g at v (same ∙ is) ∙ sym (marks-at f at v is)

-- where a bound stands in both, and those above it are the same, the same is said from it on
pub marks-above : (f g : Bound) (at : ℕ) → IsSome (f at) → ((q : ℕ) → at ≤ q → g q ≡ f q) → (q : ℕ) → at ≤ q → marks_by g q ≡ marks_by f q
marks-above f g at some same q low = marks-from g f at q low (marks-bound f g at some (same at (omega arith))) (λ p a b. same p (omega (arith, a)))

-- ---- one bound after another

-- what is said of the pages up to the next bound
pub rewrite-step : (f0 f g : Bound) (from at next : ℕ) (r : Option Marks → Option Marks) → from ≤ at → IsSome (f0 at)
    → ((q : ℕ) → at ≤ q → f q ≡ f0 q)
    → ((q : ℕ) → q < at → marks_by f q ≡ cond (nat_le from q) (r (marks_by f0 q)) (marks_by f0 q))
    → ((q : ℕ) → at < q → q < next → f q ≡ None)
    → ((q : ℕ) → (q ≡ at → ⊥) → g q ≡ f q) → marks_by g at ≡ r (marks_by f at)
    → (q : ℕ) → q < next → marks_by g q ≡ cond (nat_le from q) (r (marks_by f0 q)) (marks_by f0 q)
rewrite-step f0 f g from at next r low some rest done none others here q high = by (nat_lt q at) refl
  where
    le-true : (a b : ℕ) → a ≤ b → nat_le a b ≡ true
    le-true a b h = grind (arith, nat_tests)

    by : (b : Bool) → nat_lt q at ≡ b → marks_by g q ≡ cond (nat_le from q) (r (marks_by f0 q)) (marks_by f0 q)
    by true is =
        let less = lt-is q at is in
        marks-same g f q (λ p h. others p (λ e. omega (arith, e, h, less))) ∙ done q less
    by false is =
        let above = lt-not q at is in
        marks-run g at q above (λ p a b. others p (λ e. omega (arith, e, a)) ∙ none p a (omega (arith, b, high)))
        ∙ here
        ∙ ap r (marks-bound f0 f at some (rest at (omega arith))
        ∙ sym (marks-run f0 at q above (λ p a b. sym (rest p (omega (arith, a))) ∙ none p a (omega (arith, b, high)))))
        ∙ ap (λ b. cond b (r (marks_by f0 q)) (marks_by f0 q)) (sym (le-true from q (omega (arith, low, above))))

-- what is said of all pages, once those from a page on and below a bound are done
pub rewrite-all : (f g : Bound) (from end : ℕ) (r : Option Marks → Option Marks) → IsSome (f end)
    → ((q : ℕ) → q < end → marks_by g q ≡ cond (nat_le from q) (r (marks_by f q)) (marks_by f q))
    → ((q : ℕ) → end ≤ q → g q ≡ f q)
    → (q : ℕ) → marks_by g q ≡ cond (nat_le from q && nat_lt q end) (r (marks_by f q)) (marks_by f q)
rewrite-all f g from end r some below above q = by (nat_lt q end) (nat_le from q) refl refl
  where
    by : (s t : Bool) → nat_lt q end ≡ s → nat_le from q ≡ t → marks_by g q ≡ cond (t && s) (r (marks_by f q)) (marks_by f q)
    by true true is at = below q (lt-is q end is) ∙ ap (λ b. cond b (r (marks_by f q)) (marks_by f q)) at
    by true false is at = below q (lt-is q end is) ∙ ap (λ b. cond b (r (marks_by f q)) (marks_by f q)) at
    by false true is at = marks-above f g end some above q (lt-not q end is)
    by false false is at = marks-above f g end some above q (lt-not q end is)

-- ---- bounds of a map

not-gt : (a b : ℕ) → a ≤ b → is_gt (nat_cmp a b) ≡ false
not-gt a b h = grind (arith, nat_tests)

none-there : {X : Type 0} (o : Option X) → (IsSome o → ⊥) → o ≡ None
none-there None h = refl
none-there (Some x) h = absurd (h refl)

-- from the last bound that isn't above a page on, up to this page, the same is said
pub marks-by-last : (f : Bound) (page start : ℕ) (v : Option Marks) → f start ≡ Some v
    → ((q : ℕ) → is_gt (nat_cmp q page) ≡ false → IsSome (f q) → is_lt (nat_cmp start q) ≡ false)
    → (q : ℕ) → start ≤ q → q ≤ page → marks_by f q ≡ v
marks-by-last f page start v is last q low high =
    marks-run f start q low (λ p a b. none-there (f p) (λ some.
    let most = ge_from_not_lt start p (last p (not-gt p page (omega (arith, b, high))) some) in
    omega (arith, most, a)))
    ∙ marks-at f start v is

-- nothing is said up to a page where no bound isn't above it
pub marks-by-none : (f : Bound) (page : ℕ) → ((q : ℕ) → is_gt (nat_cmp q page) ≡ false → f q ≡ None) → (q : ℕ) → q ≤ page → marks_by f q ≡ None
marks-by-none f page none q high = marks-none f q (λ p a. none p (not-gt p page (omega (arith, a, high))))

-- what stands at another page stays
pub not-at : (a q : ℕ) → (q ≡ a → ⊥) → is_at (nat_cmp a) q ≡ false
not-at a q other = by (is_at (nat_cmp a) q) refl
  where
    by : (b : Bool) → is_at (nat_cmp a) q ≡ b → b ≡ false
    by true is = absurd (other (sym (tells_apart exact_unsigned a q is)))
    by false is = refl

pub below-of : (bounds : List (ℕ × Option Marks)) (p : ℕ) → 1 ≤ p → marks_at bounds (p - 1) ≡ marks_below bounds p
below-of bounds zero some = absurd (omega (arith, some))
below-of bounds (suc p) some = ap (marks_at bounds) (one p)
  where
    one : (p : ℕ) → suc p - 1 ≡ p
    one p = omega arith

-- ---- the next bound

abbrev pub IsNext : List (ℕ × Option Marks) → ℕ → Option ℕ → Type 0
IsNext bounds page next = MatchOption next ((q : ℕ) → page < q → bound_at bounds q ≡ None)
    (λ next. (page < next) × IsSome (bound_at bounds next) × ((q : ℕ) → page < q → q < next → bound_at bounds q ≡ None))

abbrev pub IsBoundAbove : List (ℕ × Option Marks) → ℕ → Option ℕ → Type 0
IsBoundAbove bounds page next = MatchOption next ((q : ℕ) → page ≤ q → marks_at bounds q ≡ None)
    (λ next. (page < next) × ((q : ℕ) → page ≤ q → q < next → marks_at bounds q ≡ marks_at bounds page)
    × (marks_at bounds next ≢ marks_at bounds page))

-- the next bound is where something else is said
pub next-above : (bounds : List (ℕ × Option Marks)) (holes : Option (List Hole)) (page : ℕ) (next : Option ℕ) → AreRanges bounds holes
    → IsNext bounds page next → IsBoundAbove bounds page next
next-above bounds holes page None are none = λ q low.
    marks-run (bound_at bounds) page q low (λ p a b. none p a)
    ∙ sym (marks-run (bound_at bounds) page (page + 2 ^ 64) (omega arith) (λ p a b. none p a))
    ∙ are.top (page + 2 ^ 64) (omega arith)
next-above bounds holes page (Some next) are h = (
  h.0,
  λ q low high. marks-run (bound_at bounds) page q low (λ p a b. h.2 p a (omega (arith, b, high))),
  λ same. at (bound_at bounds next) refl h.1 same,
)
  where
    at : (o : Option (Option Marks)) → bound_at bounds next ≡ o → IsSome o → marks_at bounds next ≡ marks_at bounds page → ⊥
    at None is some same = absurd (none-some some)
      where
        none-some : false ≡ true → ⊥
        none-some e = cc
    at (Some v) is some same =
        are.tight next (is ∙ ap Some (sym (marks-at (bound_at bounds) next v is) ∙ same ∙ sym (below-run (bound_at bounds) page next h.0 h.2)))

-- ---- holes

none-true : false ≡ true → ⊥
none-true e = cc

-- below a bound at which the pages aren't mapped, the page is
pub mapped-below : (bounds : List (ℕ × Option Marks)) (page q : ℕ) → IsTightAt bounds page → IsSome (bound_at bounds page)
    → marks_at bounds page ≡ None → q + 1 ≡ page → is_mapped bounds q ≡ true
mapped-below bounds zero q tight some free is = absurd (omega (arith, is))
mapped-below bounds (suc p) q tight some free is =
    let here : p ≡ q = omega (arith, is) in
    subst (λ x. is_mapped bounds x ≡ true) here (by (bound_at bounds (suc p)) refl (marks_at bounds p) refl some)
  where
    by : (o : Option (Option Marks)) → bound_at bounds (suc p) ≡ o → (m : Option Marks) → marks_at bounds p ≡ m → IsSome o → is_some m ≡ true
    by None at m below h = absurd (none-true h)
    by (Some v) at (Some m) below h = refl
    by (Some v) at None below h =
        absurd (tight (at ∙ ap Some (sym (marks-at (bound_at bounds) (suc p) v at) ∙ free ∙ sym below)))

-- at the next bound above pages that aren't mapped, the page is
pub mapped-next : (bounds : List (ℕ × Option Marks)) (page next : ℕ) → IsTightAt bounds next → IsSome (bound_at bounds next)
    → marks_at bounds page ≡ None → page < next → ((q : ℕ) → page < q → q < next → bound_at bounds q ≡ None) → is_mapped bounds next ≡ true
mapped-next bounds page next tight some free low none = by (bound_at bounds next) refl some
  where
    by : (o : Option (Option Marks)) → bound_at bounds next ≡ o → IsSome o → is_mapped bounds next ≡ true
    by None at h = absurd (none-true h)
    by (Some None) at h =
        absurd (tight (at ∙ ap Some (sym free ∙ sym (below-run (bound_at bounds) page next low none))))
    by (Some (Some m)) at h = ap is_some (marks-at (bound_at bounds) next (Some m) at)

-- where a change of the pages from one on doesn't reach, they are mapped as they were
module _ {A E : Type 0} (r : Result A E) (old new : List (ℕ × Option Marks)) (f : ℕ → Option Marks) (from n : ℕ)
    (ok : OnOk r ((q : ℕ) → marks_at new q ≡ cond (within from n q) (f q) (marks_at old q)))
    (err : OnErr r ((q : ℕ) → marks_at new q ≡ marks_at old q)) where
  mapped-outside : (q : ℕ) → within from n q ≡ false → is_mapped new q ≡ is_mapped old q
  mapped-outside q out = by r ok err
    where
      by : (r : Result A E) → OnOk r ((q : ℕ) → marks_at new q ≡ cond (within from n q) (f q) (marks_at old q))
          → OnErr r ((q : ℕ) → marks_at new q ≡ marks_at old q) → is_mapped new q ≡ is_mapped old q
      by (Ok x) ok err = ap is_some (ok q ∙ ap (λ b. cond b (f q) (marks_at old q)) out)
      by (Err e) ok err = ap is_some (err q)

  pub mapped-before : (q : ℕ) → q < from → is_mapped new q ≡ is_mapped old q
  mapped-before q low = mapped-outside q (grind (arith, nat_tests, low))

  pub mapped-above : (q : ℕ) → from + n ≤ q → is_mapped new q ≡ is_mapped old q
  mapped-above q high = mapped-outside q (grind (arith, nat_tests, high))

-- no room ends above a run that is mapped, where what is above it has no room
pub room-below : (bounds : List (ℕ × Option Marks)) (n page end hole start low : ℕ) (marks : Option Marks)
    → IsRoom (is_mapped bounds) n page → page + n ≤ end → end - hole < n → hole ≤ end → low < hole → start ≤ hole - 1 → is_some marks ≡ true
    → ((q : ℕ) → start ≤ q → q ≤ hole - 1 → marks_at bounds q ≡ marks) → page + n ≤ max start low
room-below bounds n page end hole start low marks room high small order above begins some same = by (nat_lt (max start low) (page + n)) refl
  where
    none-true : (b : Bool) → b ≡ true → b ≡ false → ⊥
    none-true b h g = cc

    by : (b : Bool) → nat_lt (max start low) (page + n) ≡ b → page + n ≤ max start low
    by true is =
        let q = max page (max start low) in
        let less = lt-is (max start low) (page + n) is in
        absurd (none-true (is_mapped bounds q)
        (ap is_some (same q (omega arith) (omega (arith, begins, above, high, small, order))) ∙ some)
        (room.free q (omega arith) (omega (arith, less, small))))
    by false is = lt-not (max start low) (page + n) is

-- a bound that is reached is one still, or it is the last
pub next-bound : (f g : Bound) (next end : ℕ) → next ≤ end → g next ≡ f next → (next < end → IsSome (g next)) → IsSome (f end) → IsSome (f next)
next-bound f g next end most same some last = by (nat_lt next end) refl
  where
    by : (b : Bool) → nat_lt next end ≡ b → IsSome (f next)
    by true is = subst IsSome same (some (lt-is next end is))
    by false is =
        let above = lt-not next end is in
        let here : end ≡ next = omega (arith, above, most) in
        subst (λ q. IsSome (f q)) here last

-- ---- bounds at which nothing changes

-- where the bounds up to a page are the same, one is tight as it was
tight-same : (a b : List (ℕ × Option Marks)) (page : ℕ) → ((q : ℕ) → q ≤ page → bound_at b q ≡ bound_at a q) → IsTightAt a page → IsTightAt b page
tight-same a b page same tight = λ is. tight
    (sym (same page (omega arith)) ∙ is ∙ ap Some (below-same (bound_at b) (bound_at a) page (λ q low. same q (omega (arith, low)))))

-- and where the same is said of each page
tight-marks : (a b : List (ℕ × Option Marks)) (page : ℕ) → bound_at b page ≡ bound_at a page → ((q : ℕ) → marks_at b q ≡ marks_at a q)
    → IsTightAt a page → IsTightAt b page
tight-marks a b page same alike tight = λ is. tight (sym same ∙ is ∙ ap Some (below page))
  where
    below : (page : ℕ) → marks_below b page ≡ marks_below a page
    below zero = refl
    below (suc page) = alike page

pub tight-none : (b : List (ℕ × Option Marks)) (page : ℕ) → bound_at b page ≡ None → IsTightAt b page
tight-none b page none = λ is. no (sym none ∙ is)
  where
    no : {X : Type 0} {x : X} → None ≡ Some x → ⊥
    no e = cc

-- no bound stands in vain from a page on, up to the next bound
pub tight-step : (now new : List (ℕ × Option Marks)) (from at next : ℕ)
    → ((q : ℕ) → from ≤ q → q < at → IsTightAt now q) → IsTightAt new at
    → ((q : ℕ) → q ≢ at → bound_at new q ≡ bound_at now q) → ((q : ℕ) → at < q → q < next → bound_at now q ≡ None)
    → (q : ℕ) → from ≤ q → q < next → IsTightAt new q
tight-step now new from at next done here others none q low high = by (nat_lt q at) (nat_lt at q) refl refl
  where
    by : (s t : Bool) → nat_lt q at ≡ s → nat_lt at q ≡ t → IsTightAt new q
    by true t is more =
        let less = lt-is q at is in
        tight-same now new q (λ p h. others p (λ e. omega (arith, e, h, less))) (done q low less)
    by false true is more =
        let above = lt-is at q more in
        tight-none new q (others q (λ e. omega (arith, e, above)) ∙ none q above high)
    by false false is more =
        let a = lt-not q at is in
        let b = lt-not at q more in
        let same : at ≡ q = omega (arith, a, b) in
        subst (IsTightAt new) same here

-- nor once both ends were bounds, and the last one is looked at
pub tight-all : (old cut done new : List (ℕ × Option Marks)) (from end : ℕ) → from ≤ end
    → ((q : ℕ) → IsTightAt old q) → IsSome (bound_at cut end)
    → ((q : ℕ) → q ≢ from → q ≢ end → bound_at cut q ≡ bound_at old q) → ((q : ℕ) → marks_at cut q ≡ marks_at old q)
    → ((q : ℕ) → q < from → bound_at done q ≡ bound_at cut q) → ((q : ℕ) → from ≤ q → q < end → IsTightAt done q)
    → ((q : ℕ) → end ≤ q → bound_at done q ≡ bound_at cut q)
    → ((q : ℕ) → q ≢ end → bound_at new q ≡ bound_at done q) → ((q : ℕ) → marks_at new q ≡ marks_at done q) → IsTightAt new end
    → (q : ℕ) → IsTightAt new q
tight-all old cut done new from end order tight some same alike before between above others joins last q =
    by (nat_lt q from) (nat_lt q end) (nat_lt end q) refl refl refl
  where
    kept : (q : ℕ) → q ≢ from → q ≢ end → IsTightAt cut q
    kept q a b = tight-marks old cut q (same q a b) alike (tight q)

    -- above the end the same is said as before
    after : (q : ℕ) → end < q → marks_below done q ≡ marks_below cut q
    after zero low = absurd (omega (arith, low))
    after (suc p) low = marks-above (bound_at cut) (bound_at done) end some above p (omega (arith, low))

    by : (s t u : Bool) → nat_lt q from ≡ s → nat_lt q end ≡ t → nat_lt end q ≡ u → IsTightAt new q
    by true t u is inn more =
        let less = lt-is q from is in
        tight-marks done new q (others q (λ e. omega (arith, e, less, order))) joins
        (tight-same cut done q (λ p h. before p (omega (arith, h, less))) (kept q (λ e. omega (arith, e, less)) (λ e. omega (arith, e, less, order))))
    by false true u is inn more =
        let less = lt-is q end inn in
        tight-marks done new q (others q (λ e. omega (arith, e, less))) joins (between q (lt-not q from is) less)
    by false false true is inn more =
        let high = lt-is end q more in
        tight-marks done new q (others q (λ e. omega (arith, e, high))) joins
        (λ is. kept q (λ e. omega (arith, e, high, order)) (λ e. omega (arith, e, high))
        (sym (above q (omega (arith, high))) ∙ is ∙ ap Some (after q high)))
    by false false false is inn more =
        let a = lt-not q end inn in
        let b = lt-not end q more in
        let here : end ≡ q = omega (arith, a, b) in
        subst (IsTightAt new) here last
