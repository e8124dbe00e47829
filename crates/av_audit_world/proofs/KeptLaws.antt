-- The bytes that are kept of pages.
use Rattle.std.proofs.Common.{◌≡◌, ℕ, ◌+◌, ◌-◌, ◌<◌, ◌≤◌, Bool, true, false, cond, ◌&&◌, List, [], ◌∷◌, Option, Some, None, is_some, nat_le, nat_lt, refl, sym, ap, subst, ◌∙◌, arith}
use Rattle.std.proofs.lemmas.Bool.Decides.{nat_tests}
use Rattle.std.specs.Prelude.{IfSome, slice_get, IsSome}
use Rattle.std.specs.Option.{option_or}
use Rattle.std.specs.Ordering.{is_eq, nat_cmp}
use Rattle.std.specs.Cmp.{nat_cmp_is, ranked}
use Rattle.std.specs.declared.cmp.Ordering.{Ordering}
use Rattle.std.specs.declared.cmp.Ordering.TheVariants.{Less, Equal, Greater}
use Rattle.std.specs.declared.ops.Bound.TheVariants.{Included, Excluded}
use Rattle.std.specs.BTreeMap.{BTreeMap, get, is_at}
use Rattle.std.specs.BTreeMap.Range.{IsRangeOf, IsLeBy, IsLtBy, IsEntryInRange}
use Rattle.av_base.specs.Words.{within}
use Rattle.av_audit_world.specs.Kept.{IsNext}

le-is : (a b : ℕ) → IsLeBy nat_cmp a b → a ≤ b
le-is a b h = grind (arith, nat_tests)

is-le : (a b : ℕ) → a ≤ b → IsLeBy nat_cmp a b
is-le a b h = grind (arith, nat_tests)

lt-is : (a b : ℕ) → IsLtBy nat_cmp a b → a < b
lt-is a b h = grind (arith, nat_tests)

is-lt : (a b : ℕ) → a < b → IsLtBy nat_cmp a b
is-lt a b h = grind (arith, nat_tests)

-- what is something is there
pub there : {A : Type 0} (o : Option A) (x : A) → o ≡ Some x → IsSome o
there o x is = subst IsSome (sym is) refl

pub same-key : (k q : ℕ) → is_at (nat_cmp k) q ≡ true → q ≡ k
same-key k q e = by (nat_cmp k q) refl e
  where
    by : (o : Ordering) → nat_cmp k q ≡ o → is_eq o ≡ true → q ≡ k
    by Less is h = cc
    by Greater is h = cc
    by Equal is h = sym (ranked k q Equal (sym is))

pub key-self : (k : ℕ) → is_at (nat_cmp k) k ≡ true
key-self k = ap is_eq (sym (nat_cmp_is k k Equal refl))

pub other-key : (k q : ℕ) → (q ≡ k → ⊥) → is_at (nat_cmp k) q ≡ false
other-key k q differ = by (is_at (nat_cmp k) q) refl
  where
    by : (b : Bool) → is_at (nat_cmp k) q ≡ b → b ≡ false
    by true e = absurd (differ (same-key k q e))
    by false e = refl

module _ {A : Type 0} where
  pub next-is : (m : BTreeMap ℕ A) (from end page : ℕ) (bytes : A) (r rest : List (ℕ × A))
      → IsRangeOf nat_cmp (Included from) (Excluded end) m r → r ≡ (page, bytes) ∷ rest → IsNext m from end page
  next-is m from end page bytes r rest range is =
      let at : IsEntryInRange nat_cmp (Included from) (Excluded end) m (page, bytes) =
      subst (λ r. IfSome (slice_get r 0) (IsEntryInRange nat_cmp (Included from) (Excluded end) m)) is range.1 in
      record {
        low = le-is from page at.0.0;
        high = lt-is page end at.0.1;
        there = ap is_some at.1;
        none = λ q above under. skip q (get nat_cmp m q) refl above under (lt-is page end at.0.1);
      }
    where
      skip : (q : ℕ) (o : Option A) → get nat_cmp m q ≡ o → from ≤ q → q < page → page < end → o ≡ None
      skip q None e above under low = refl
      skip q (Some b) e above under low =
          let first : IsLeBy nat_cmp page q =
          subst (λ r. IfSome (slice_get r 0) (λ e. IsLeBy nat_cmp e.0 q)) is
          (range.2 q (is-le from q above, is-lt q end (omega (arith, under, low))) (subst IsSome (sym e) refl)) in
          let no = le-is page q first in
          absurd (omega (arith, no, under))

  pub none-next : (m : BTreeMap ℕ A) (from end : ℕ) (r : List (ℕ × A)) → IsRangeOf nat_cmp (Included from) (Excluded end) m r
      → r ≡ [] → (q : ℕ) → from ≤ q → q < end → get nat_cmp m q ≡ None
  none-next m from end r range is q above under = range.5 is q (is-le from q above, is-lt q end under)

  none-of : (b : Bool) (o : Option A) → o ≡ None → cond b None o ≡ None
  none-of true o e = refl
  none-of false o e = e

  -- with one taken away
  abbrev pub Lost : BTreeMap ℕ A → BTreeMap ℕ A → ℕ → Type 0
  Lost old new page = (q : ℕ) → get nat_cmp new q ≡ cond (is_at (nat_cmp page) q) None (get nat_cmp old q)

  -- with one put in
  abbrev pub Gained : BTreeMap ℕ A → BTreeMap ℕ A → ℕ → A → Type 0
  Gained old new page bytes = (q : ℕ) → get nat_cmp new q ≡ cond (is_at (nat_cmp page) q) (Some bytes) (get nat_cmp old q)

  -- ---- pages lose their bytes

  -- those from one on and below another have none, and the others are as they were
  pub record AreLost (old now : BTreeMap ℕ A) (from at : ℕ) : Type 0 where
    pub gone : (q : ℕ) → from ≤ q → q < at → get nat_cmp now q ≡ None
    pub below : (q : ℕ) → q < from → get nat_cmp now q ≡ get nat_cmp old q
    pub above : (q : ℕ) → at ≤ q → get nat_cmp now q ≡ get nat_cmp old q

  pub none-lost : (old : BTreeMap ℕ A) (from : ℕ) → AreLost old old from from
  none-lost old from = record {
    gone = λ q low high. absurd (omega (arith, low, high));
    below = λ q low. refl;
    above = λ q high. refl;
  }

  module _ (old now : BTreeMap ℕ A) (from at end : ℕ) (low : from ≤ at) (h : AreLost old now from at) where
    pub lost-more : (new : BTreeMap ℕ A) (page : ℕ) → IsNext now at end page → Lost now new page → AreLost old new from (page + 1)
    lost-more new page next lost = record {
      gone = λ q above under. lost q ∙ gone q above under (nat_lt q page) (nat_lt q at) refl refl;
      below = λ q less. lost q ∙ ap (λ b. cond b None (get nat_cmp now q)) (other-key page q (λ e. omega (arith, e, less, low, first)))
          ∙ h.below q less;
      above = λ q more. lost q ∙ ap (λ b. cond b None (get nat_cmp now q)) (other-key page q (λ e. omega (arith, e, more)))
          ∙ h.above q (omega (arith, more, first));
    }
      where
        first : at ≤ page
        first = next.low

        yes-lt : (a b : ℕ) → nat_lt a b ≡ true → a < b
        yes-lt a b e = grind (arith, nat_tests)

        not-lt : (a b : ℕ) → nat_lt a b ≡ false → b ≤ a
        not-lt a b e = grind (arith, nat_tests)

        here : (q : ℕ) → page ≤ q → q < page + 1 → q ≡ page
        here q a b = omega (arith, a, b)

        gone : (q : ℕ) → from ≤ q → q < page + 1 → (a b : Bool) → nat_lt q page ≡ a → nat_lt q at ≡ b
            → cond (is_at (nat_cmp page) q) None (get nat_cmp now q) ≡ None
        gone q above under true true e f = none-of (is_at (nat_cmp page) q) (get nat_cmp now q) (h.gone q above (yes-lt q at f))
        gone q above under true false e f =
            none-of (is_at (nat_cmp page) q) (get nat_cmp now q) (next.none q (not-lt q at f) (yes-lt q page e))
        gone q above under false b e f =
            ap (λ k. cond (is_at (nat_cmp page) k) None (get nat_cmp now q)) (here q (not-lt q page e) under)
            ∙ ap (λ b. cond b None (get nat_cmp now q)) (key-self page)

    pub lost-all : at ≤ end → ((q : ℕ) → at ≤ q → q < end → get nat_cmp now q ≡ None) → AreLost old now from end
    lost-all most none = record {
      gone = λ q above under. by q above under (nat_lt q at) refl;
      below = h.below;
      above = λ q more. h.above q (omega (arith, most, more));
    }
      where
        yes-lt : (a b : ℕ) → nat_lt a b ≡ true → a < b
        yes-lt a b e = grind (arith, nat_tests)

        not-lt : (a b : ℕ) → nat_lt a b ≡ false → b ≤ a
        not-lt a b e = grind (arith, nat_tests)

        by : (q : ℕ) → from ≤ q → q < end → (b : Bool) → nat_lt q at ≡ b → get nat_cmp now q ≡ None
        by q above under true e = h.gone q above (yes-lt q at e)
        by q above under false e = none q (not-lt q at e) under

  pub lost-is : (old now : BTreeMap ℕ A) (from n : ℕ) → AreLost old now from (from + n) → (page : ℕ)
      → get nat_cmp now page ≡ cond (within from n page) None (get nat_cmp old page)
  lost-is old now from n h page = by (nat_le from page) (nat_lt page (from + n)) refl refl
    where
      yes-le : nat_le from page ≡ true → from ≤ page
      yes-le e = grind (arith, nat_tests)

      not-le : nat_le from page ≡ false → page < from
      not-le e = grind (arith, nat_tests)

      yes-lt : nat_lt page (from + n) ≡ true → page < from + n
      yes-lt e = grind (arith, nat_tests)

      not-lt : nat_lt page (from + n) ≡ false → from + n ≤ page
      not-lt e = grind (arith, nat_tests)

      by : (a b : Bool) → nat_le from page ≡ a → nat_lt page (from + n) ≡ b → get nat_cmp now page ≡ cond (a && b) None (get nat_cmp old page)
      by true true e f = h.gone page (yes-le e) (yes-lt f)
      by true false e f = h.above page (not-lt f)
      by false b e f = h.below page (not-le e)

  -- ---- and other pages get them

  -- as many pages from `to` on as have lost them have them
  pub record AreTaken (old now made : BTreeMap ℕ A) (from at to : ℕ) : Type 0 where
    pub lost : AreLost old now from at
    pub got : (q : ℕ) → to ≤ q → q < to + (at - from) → get nat_cmp made q ≡ get nat_cmp old (from + (q - to))
    pub below : (q : ℕ) → q < to → get nat_cmp made q ≡ None
    pub above : (q : ℕ) → to + (at - from) ≤ q → get nat_cmp made q ≡ None

  pub none-taken : (old made : BTreeMap ℕ A) (from to : ℕ) → ((q : ℕ) → get nat_cmp made q ≡ None) → AreTaken old old made from from to
  none-taken old made from to empty = record {
    lost = none-lost old from;
    got = λ q low high. absurd (omega (arith, low, high));
    below = λ q low. empty q;
    above = λ q high. empty q;
  }

  module _ (old now made : BTreeMap ℕ A) (from at to end : ℕ) (low : from ≤ at) (h : AreTaken old now made from at to) where
    yes-lt : (a b : ℕ) → nat_lt a b ≡ true → a < b
    yes-lt a b e = grind (arith, nat_tests)

    not-lt : (a b : ℕ) → nat_lt a b ≡ false → b ≤ a
    not-lt a b e = grind (arith, nat_tests)

    -- where none comes there is none
    gap : (q page : ℕ) → to + (at - from) ≤ q → q < to + (page - from) → ((k : ℕ) → at ≤ k → k < page → get nat_cmp now k ≡ None)
        → get nat_cmp made q ≡ get nat_cmp old (from + (q - to))
    gap q page over under none =
        let there : at ≤ from + (q - to) = omega (arith, over, low) in
        let before : from + (q - to) < page = omega (arith, under, over, low) in
        h.above q over ∙ sym (sym (h.lost.above (from + (q - to)) there) ∙ none (from + (q - to)) there before)

    pub taken-more : (new more : BTreeMap ℕ A) (page : ℕ) (bytes : A) → IsNext now at end page → get nat_cmp now page ≡ Some bytes
        → Lost now new page → Gained made more (to + (page - from)) bytes → AreTaken old new more from (page + 1) to
    taken-more new more page bytes next is lost gained = record {
      lost = lost-more old now from at end low h.lost new page next lost;
      got = λ q above under. gained q ∙ by q above under (nat_lt q (to + (at - from))) (nat_lt q (to + (page - from))) refl refl;
      below = λ q less. gained q ∙ ap (λ b. cond b (Some bytes) (get nat_cmp made q)) (other-key (to + (page - from)) q (λ e. omega (arith, e, less)))
          ∙ h.below q less;
      above = λ q over. gained q
          ∙ ap (λ b. cond b (Some bytes) (get nat_cmp made q)) (other-key (to + (page - from)) q (λ e. omega (arith, e, over, first, low)))
          ∙ h.above q (omega (arith, over, first, low));
    }
      where
        first : at ≤ page
        first = next.low

        other : (q : ℕ) → (q ≡ to + (page - from) → ⊥) → get nat_cmp made q ≡ get nat_cmp old (from + (q - to))
            → cond (is_at (nat_cmp (to + (page - from))) q) (Some bytes) (get nat_cmp made q) ≡ get nat_cmp old (from + (q - to))
        other q differ e = ap (λ b. cond b (Some bytes) (get nat_cmp made q)) (other-key (to + (page - from)) q differ) ∙ e

        back : from + ((to + (page - from)) - to) ≡ page
        back = omega (arith, first, low)

        here : (q : ℕ) → to + (page - from) ≤ q → q < to + (page + 1 - from) → q ≡ to + (page - from)
        here q a b = omega (arith, a, b, first, low)

        by : (q : ℕ) → to ≤ q → q < to + (page + 1 - from) → (a b : Bool) → nat_lt q (to + (at - from)) ≡ a → nat_lt q (to + (page - from)) ≡ b
            → cond (is_at (nat_cmp (to + (page - from))) q) (Some bytes) (get nat_cmp made q) ≡ get nat_cmp old (from + (q - to))
        by q above under true b e f =
            let less = yes-lt q (to + (at - from)) e in
            other q (λ s. omega (arith, s, less, first, low)) (h.got q above less)
        by q above under false true e f =
            let less = yes-lt q (to + (page - from)) f in
            other q (λ s. omega (arith, s, less)) (gap q page (not-lt q (to + (at - from)) e) less next.none)
        by q above under false false e f =
            subst (λ q. cond (is_at (nat_cmp (to + (page - from))) q) (Some bytes) (get nat_cmp made q) ≡ get nat_cmp old (from + (q - to)))
            (sym (here q (not-lt q (to + (page - from)) f) under))
            (ap (λ b. cond b (Some bytes) (get nat_cmp made (to + (page - from)))) (key-self (to + (page - from)))
            ∙ sym (ap (get nat_cmp old) back ∙ sym (h.lost.above page first) ∙ is))

    pub taken-is : (n : ℕ) → end ≡ from + n → at ≤ end → ((q : ℕ) → at ≤ q → q < end → get nat_cmp now q ≡ None) → (page : ℕ)
        → get nat_cmp made page ≡ cond (within to n page) (get nat_cmp old (from + (page - to))) None
    taken-is n is most none page = by (nat_le to page) (nat_lt page (to + n)) (nat_lt page (to + (at - from))) refl refl refl
      where
        yes-le : nat_le to page ≡ true → to ≤ page
        yes-le e = grind (arith, nat_tests)

        not-le : nat_le to page ≡ false → page < to
        not-le e = grind (arith, nat_tests)

        by : (a b d : Bool) → nat_le to page ≡ a → nat_lt page (to + n) ≡ b → nat_lt page (to + (at - from)) ≡ d
            → get nat_cmp made page ≡ cond (a && b) (get nat_cmp old (from + (page - to))) None
        by true true true e f g = h.got page (yes-le e) (yes-lt page (to + (at - from)) g)
        by true true false e f g =
            let under = yes-lt page (to + n) f in
            gap page end (not-lt page (to + (at - from)) g) (omega (arith, under, is)) none
        by true false d e f g = let over = not-lt page (to + n) f in h.above page (omega (arith, over, is, most, low))
        by false b d e f g = h.below page (not-le e)

  -- ---- pages get bytes

  -- the bytes of a page, or else these
  pub record AreGiven (given old rest now : BTreeMap ℕ A) : Type 0 where
    pub same : (q : ℕ) → option_or (get nat_cmp rest q) (get nat_cmp now q) ≡ option_or (get nat_cmp given q) (get nat_cmp old q)

  pub given-more : (given old rest now later new : BTreeMap ℕ A) (page : ℕ) (bytes : A) → AreGiven given old rest now
      → get nat_cmp rest page ≡ Some bytes → Lost rest later page → Gained now new page bytes → AreGiven given old later new
  given-more given old rest now later new page bytes h is lost gained = record {
    same = λ q. (λ i. option_or (lost q i) (gained q i)) ∙ by q (is_at (nat_cmp page) q) refl ∙ h.same q;
  }
    where
      by : (q : ℕ) (b : Bool) → is_at (nat_cmp page) q ≡ b
          → option_or (cond b None (get nat_cmp rest q)) (cond b (Some bytes) (get nat_cmp now q))
          ≡ option_or (get nat_cmp rest q) (get nat_cmp now q)
      by q true e = ap (λ o. option_or o (get nat_cmp now q)) (sym (ap (get nat_cmp rest) (same-key page q e) ∙ is))
      by q false e = refl

  pub all-given : (given old rest now : BTreeMap ℕ A) → AreGiven given old rest now → ((q : ℕ) → get nat_cmp rest q ≡ None) → (page : ℕ)
      → get nat_cmp now page ≡ option_or (get nat_cmp given page) (get nat_cmp old page)
  all-given given old rest now h empty page = ap (λ o. option_or o (get nat_cmp now page)) (sym (empty page)) ∙ h.same page
