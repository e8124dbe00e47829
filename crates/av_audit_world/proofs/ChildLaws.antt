-- What a child gets of the pages of a process.
use Rattle.std.proofs.Common.{◌≡◌, ℕ, ◌-◌, ◌<◌, ◌≤◌, Bool, true, false, cond, not, ◌&&◌, List, [], ◌∷◌, Option, Some, None, refl, sym, ap, subst, ◌∙◌, arith, nat_le, nat_lt}
use Rattle.std.specs.Prelude.{filter, option_and_then, slice_index}
use Rattle.std.proofs.lemmas.Bool.Decides.{nat_tests}
use Rattle.std.specs.Cmp.{ranked}
use Rattle.std.specs.Ordering.{is_eq, nat_cmp}
use Rattle.std.specs.declared.cmp.Ordering.{Ordering}
use Rattle.std.specs.declared.cmp.Ordering.TheVariants.{Less, Equal, Greater}
use Rattle.std.specs.BTreeMap.{get, is_at}
use Rattle.std.specs.List.{AllZip}
use Rattle.std.specs.Map.{lookup}
use Rattle.av_base.specs.Flags.{unlocked}
use Rattle.av_base.specs.Limits.{top_page}
use Rattle.av_base.specs.Words.{within}
use Rattle.av_plain.specs.Fork.{goes_over}
use Rattle.av_plain.specs.World.{Page, Process, child_of, page_of_child, wiped, without_lock}
use Rattle.av_audit_world.specs.Child.{bytes_go, marks_of_child}
use Rattle.av_audit_ranges.specs.Ranges.{marks_at}
use Rattle.av_audit_world.specs.Space.{IsPage, IsSpace, PageBytes, byte_in}
use Rattle.av_audit_ranges.specs.declared.marks.Marks.{Marks}
use Rattle.av_audit_world.specs.declared.space.Space.{Space}

-- ---- what is said of pages

-- what is made so far says what a child has below a page, and nothing of the others
pub record AreMade (made said : ℕ → Option Marks) (at : ℕ) : Type 0 where
  pub below : (page : ℕ) → page < at → made page ≡ option_and_then marks_of_child (said page)
  pub above : (page : ℕ) → at ≤ page → made page ≡ None

module _ (made new said : ℕ → Option Marks) (at to : ℕ) (less : at < to) (same : (q : ℕ) → at ≤ q → q < to → said q ≡ said at)
    (h : AreMade made said at) where
  from-le : (a b : ℕ) → nat_le a b ≡ true → a ≤ b
  from-le a b e = grind (arith, nat_tests)

  from-not-le : (a b : ℕ) → nat_le a b ≡ false → b < a
  from-not-le a b e = grind (arith, nat_tests)

  inside : (at to page : ℕ) → at < to → at ≤ page → page < to → within at (to - at) page ≡ true
  inside at to page l a b = grind (arith, nat_tests, l, a, b)

  under : (at to page : ℕ) → page < at → within at (to - at) page ≡ false
  under at to page a = grind (arith, nat_tests, a)

  over : (at to page : ℕ) → at < to → to ≤ page → within at (to - at) page ≡ false
  over at to page l a = grind (arith, nat_tests, l, a)

  -- of pages that a child gets
  pub made-further : (k : Marks) → option_and_then marks_of_child (said at) ≡ Some k
      → ((page : ℕ) → new page ≡ cond (within at (to - at) page) (Some k) (made page)) → AreMade new said to
  made-further k is put = record {
    below = λ page low. put page ∙ by page low (nat_le at page) refl;
    above = λ page high. put page ∙ ap (λ b. cond b (Some k) (made page)) (over at to page less high) ∙ h.above page (omega (arith, less, high));
  }
    where
      by : (page : ℕ) → page < to → (b : Bool) → nat_le at page ≡ b
          → cond (within at (to - at) page) (Some k) (made page) ≡ option_and_then marks_of_child (said page)
      by page low true e = ap (λ b. cond b (Some k) (made page)) (inside at to page less (from-le at page e) low)
          ∙ sym is ∙ ap (option_and_then marks_of_child) (sym (same page (from-le at page e) low))
      by page low false e = ap (λ b. cond b (Some k) (made page)) (under at to page (from-not-le at page e)) ∙ h.below page (from-not-le at page e)

  -- and of others
  pub made-none : option_and_then marks_of_child (said at) ≡ None → AreMade made said to
  made-none is = record {
    below = λ page low. by page low (nat_le at page) refl;
    above = λ page high. h.above page (omega (arith, less, high));
  }
    where
      by : (page : ℕ) → page < to → (b : Bool) → nat_le at page ≡ b → made page ≡ option_and_then marks_of_child (said page)
      by page low true e = h.above page (from-le at page e) ∙ sym is
          ∙ ap (option_and_then marks_of_child) (sym (same page (from-le at page e) low))
      by page low false e = h.below page (from-not-le at page e)

-- ---- bytes

-- what passes a test of its page
kept-at : (t : ℕ → Bool) (es : List (ℕ × PageBytes)) (k : ℕ)
    → lookup (is_at (nat_cmp k)) (filter (λ e. t e.0) es) ≡ cond (t k) (lookup (is_at (nat_cmp k)) es) None
kept-at t [] k = none (t k)
  where
    nothing : Option PageBytes
    nothing = None

    none : (b : Bool) → nothing ≡ cond b nothing nothing
    none true = refl
    none false = refl
kept-at t (e ∷ es) k = by (nat_cmp k e.0) refl (kept-at t es k)
  where
    rest : List (ℕ × PageBytes)
    rest = filter (λ e. t e.0) es

    here : (b : Bool) → lookup (is_at (nat_cmp k)) rest ≡ cond b (lookup (is_at (nat_cmp k)) es) None
        → is_eq (nat_cmp k e.0) ≡ true
        → lookup (is_at (nat_cmp k)) (cond b (e ∷ rest) rest) ≡ cond b (Some e.1) None
    here true ih is = ap (λ b. cond b (Some e.1) (lookup (is_at (nat_cmp k)) rest)) is
    here false ih is = ih

    there : (b : Bool) → is_eq (nat_cmp k e.0) ≡ false
        → lookup (is_at (nat_cmp k)) (cond b (e ∷ rest) rest) ≡ lookup (is_at (nat_cmp k)) rest
    there true is = ap (λ b. cond b (Some e.1) (lookup (is_at (nat_cmp k)) rest)) is
    there false is = refl

    by : (o : Ordering) → nat_cmp k e.0 ≡ o
        → lookup (is_at (nat_cmp k)) rest ≡ cond (t k) (lookup (is_at (nat_cmp k)) es) None
        → lookup (is_at (nat_cmp k)) (cond (t e.0) (e ∷ rest) rest)
        ≡ cond (t k) (cond (is_eq o) (Some e.1) (lookup (is_at (nat_cmp k)) es)) None
    by Less at ih = there (t e.0) (ap is_eq at) ∙ ih
    by Greater at ih = there (t e.0) (ap is_eq at) ∙ ih
    by Equal at ih =
        let same : k ≡ e.0 = ranked k e.0 Equal (sym at) in
        ap (λ b. lookup (is_at (nat_cmp k)) (cond b (e ∷ rest) rest)) (ap t (sym same))
        ∙ here (t k) ih (ap is_eq at)

-- a copy of pages with bytes, place by place, has the same bytes
copied : (R : ℕ × PageBytes → ℕ × PageBytes → Type 0)
    → ((p q : ℕ × PageBytes) → R p q → (q.0 ≡ p.0) × (q.1.value.items ≡ p.1.value.items))
    → (es fs : List (ℕ × PageBytes)) (k : ℕ) → AllZip R es fs
    → byte_in (lookup (is_at (nat_cmp k)) fs) ≡ byte_in (lookup (is_at (nat_cmp k)) es)
copied R same [] [] k h = refl
copied R same [] (f ∷ fs) k h = absurd h
copied R same (e ∷ es) [] k h = absurd h
copied R same (e ∷ es) (f ∷ fs) k h =
    ap (λ n. byte_in (cond (is_at (nat_cmp k) n) (Some f.1) (lookup (is_at (nat_cmp k)) fs))) (same e f h.0).0
    ∙ by (is_at (nat_cmp k) e.0) (copied R same es fs k h.1)
  where
    by : (b : Bool) → byte_in (lookup (is_at (nat_cmp k)) fs) ≡ byte_in (lookup (is_at (nat_cmp k)) es)
        → byte_in (cond b (Some f.1) (lookup (is_at (nat_cmp k)) fs)) ≡ byte_in (cond b (Some e.1) (lookup (is_at (nat_cmp k)) es))
    by true rest = λ i j. slice_index ((same e f h.0).1 i) j
    by false rest = rest

-- those that pass a test of a copy
pub copied-where : (R : ℕ × PageBytes → ℕ × PageBytes → Type 0)
    → ((p q : ℕ × PageBytes) → R p q → (q.0 ≡ p.0) × (q.1.value.items ≡ p.1.value.items))
    → (t : ℕ → Bool) (es fs gs : List (ℕ × PageBytes)) (k : ℕ) → AllZip R es fs → gs ≡ filter (λ e. t e.0) fs
    → byte_in (lookup (is_at (nat_cmp k)) gs) ≡ byte_in (cond (t k) (lookup (is_at (nat_cmp k)) es) None)
copied-where R same t es fs gs k h is = ap (λ gs. byte_in (lookup (is_at (nat_cmp k)) gs)) is ∙ ap byte_in (kept-at t fs k) ∙ by (t k)
  where
    by : (b : Bool) → byte_in (cond b (lookup (is_at (nat_cmp k)) fs) None) ≡ byte_in (cond b (lookup (is_at (nat_cmp k)) es) None)
    by true = copied R same es fs k h
    by false = refl

-- ---- pages

one-child : (o : Option Marks) (bytes : Option PageBytes) (p : Option Page) → IsPage o (byte_in bytes) p
    → IsPage (option_and_then marks_of_child o) (byte_in (cond (bytes_go o) bytes None)) (option_and_then page_of_child p)
one-child None bytes None h = tt
one-child None bytes (Some p) h = absurd h
one-child (Some k) bytes None h = absurd h
one-child (Some k) bytes (Some p) h = by k.flags.dont_fork k.flags.wipe_on_fork (λ i. (h.1 i).dont_fork) (λ i. (h.1 i).wipe_on_fork)
  where
    said : Bool → Option Marks
    said d = cond d None (Some (record k { flags = unlocked k.flags }))

    plain : (d w : Bool) → IsPage (said d) (byte_in (cond (not d && not w) bytes None)) (cond d None (Some (without_lock (cond w (wiped p) p))))
    plain true w = tt
    plain false true = (h.0, ap unlocked h.1, λ i low. refl)
    plain false false = (h.0, ap unlocked h.1, h.2)

    by : (d w : Bool) → p.flags.dont_fork ≡ d → p.flags.wipe_on_fork ≡ w
        → IsPage (said d) (byte_in (cond (not d && not w) bytes None))
        (cond p.flags.dont_fork None (Some (without_lock (cond p.flags.wipe_on_fork (wiped p) p))))
    by d w hd hw = subst (λ x. IsPage (said d) (byte_in (cond (not d && not w) bytes None))
        (cond x None (Some (without_lock (cond p.flags.wipe_on_fork (wiped p) p))))) (sym hd)
        (subst (λ x. IsPage (said d) (byte_in (cond (not d && not w) bytes None)) (cond d None (Some (without_lock (cond x (wiped p) p)))))
        (sym hw) (plain d w))

no-page : (o : Option Marks) (at : ℕ → ℕ) (p : Option Page) → o ≡ None → p ≡ None → IsPage o at p
no-page o at p ho hp = subst (λ o. IsPage o at p) (sym ho) (subst (λ p. IsPage None at p) (sym hp) tt)

pub child-is : (s new : Space) (q : Process) → IsSpace s q
    → ((page : ℕ) → page < top_page → marks_at new.ranges page ≡ option_and_then marks_of_child (marks_at s.ranges page))
    → ((page : ℕ) → top_page ≤ page → marks_at new.ranges page ≡ None)
    → ((page : ℕ) → page < top_page → byte_in (get nat_cmp new.bytes page) ≡ byte_in (cond (bytes_go (marks_at s.ranges page)) (get nat_cmp s.bytes page) None))
    → IsSpace new (child_of q)
child-is s new q h below above bytes = record {
  pages = λ page. by page (nat_lt page top_page) refl;
  top = λ page high. none page high;
}
  where
    none : (page : ℕ) → top_page ≤ page → child_of q page ≡ None
    none page high = ap (option_and_then page_of_child) (h.top page high)

    low-of : (page : ℕ) → nat_lt page top_page ≡ true → page < top_page
    low-of page e = grind (arith, nat_tests)

    high-of : (page : ℕ) → nat_lt page top_page ≡ false → top_page ≤ page
    high-of page e = grind (arith, nat_tests)

    by : (page : ℕ) (b : Bool) → nat_lt page top_page ≡ b
        → IsPage (marks_at new.ranges page) (byte_in (get nat_cmp new.bytes page)) (child_of q page)
    by page true e = subst (λ o. IsPage o (byte_in (get nat_cmp new.bytes page)) (child_of q page)) (sym (below page (low-of page e)))
        (subst (λ at. IsPage (option_and_then marks_of_child (marks_at s.ranges page)) at (child_of q page)) (sym (bytes page (low-of page e)))
        (one-child (marks_at s.ranges page) (get nat_cmp s.bytes page) (q page) (h.pages page)))
    by page false e = no-page (marks_at new.ranges page) _ (child_of q page) (above page (high-of page e)) (none page (high-of page e))

-- ---- entries

pub goes-same : (o : Option Marks) (at : ℕ → ℕ) (p : Option Page) → IsPage o at p → bytes_go o ≡ goes_over p
goes-same None at None h = refl
goes-same None at (Some p) h = absurd h
goes-same (Some k) at None h = absurd h
goes-same (Some k) at (Some p) h = λ i. not (sym h.1 i).dont_fork && not (sym h.1 i).wipe_on_fork
