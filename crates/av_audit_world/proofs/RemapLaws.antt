-- What is said of pages, and where their bytes are, where a range grows or shrinks or moves.
use Rattle.std.proofs.Common.{◌≡◌, ℕ, ◌+◌, ◌-◌, ◌<◌, ◌≤◌, Bool, true, false, cond, Option, Some, None, refl, sym, ap, subst, ◌∙◌, arith, nat_lt}
use Rattle.std.specs.Prelude.{min, option_and_then, option_map}
use Rattle.std.specs.Option.{option_or}
use Rattle.std.specs.Ordering.{nat_cmp}
use Rattle.std.specs.BTreeMap.{BTreeMap, get}
use Rattle.std.proofs.lemmas.Bool.Decides.{nat_tests}
use Rattle.av_base.specs.Flags.{with_flag}
use Rattle.av_base.specs.Words.{within}
use Rattle.av_base.specs.declared.flags.Flag.TheVariants.{Locked}
use Rattle.av_plain.specs.Mremap.{left_behind, process_after_mremap}
use Rattle.av_plain.specs.World.{Page, Process, wiped}
use Rattle.av_audit_ranges.specs.Marks.{change_of}
use Rattle.av_audit_ranges.specs.Ranges.{marks_at}
use Rattle.av_audit_ranges.specs.declared.marks.Change.TheVariants.{Unmap}
use Rattle.av_audit_ranges.specs.declared.marks.Marks.{Marks}
use Rattle.av_audit_world.specs.Remap.{AreMoved, IsBelowTop, marks_after, marks_moved, old_change}
use Rattle.av_audit_world.specs.Space.{IsPage, IsSpace, byte_in}
use Rattle.av_audit_world.specs.declared.space.Space.{Space}
use Rattle.av_audit_world.proofs.SpaceLaws.{one-wiped, zero-byte}

none-true : (b : Bool) → b ≡ true → b ≡ false → ⊥
none-true b h g = cc

-- ---- what is said

-- what is said of pages once as many from `to` on as there are from one on to below another are as these
abbrev pub Copied : (said was now : ℕ → Option Marks) (from at to : ℕ) → Type 0
Copied said was now from at to =
    (page : ℕ) → now page ≡ cond (within to (at - from) page) (option_or (said (from + (page - to))) (was page)) (was page)

pub none-copied : (said was : ℕ → Option Marks) (from to : ℕ) → Copied said was was from from to
none-copied said was from to page = ap (λ b. cond b (option_or (said (from + (page - to))) (was page)) (was page)) (sym (none from to page))
  where
    none : (from to page : ℕ) → within to (from - from) page ≡ false
    none from to page = grind (arith, nat_tests)

module _ (said was now : ℕ → Option Marks) (from at next to : ℕ) (low : from ≤ at) (less : at < next)
    (same : (q : ℕ) → at ≤ q → q < next → said q ≡ said at) (h : Copied said was now from at to) where
  in-next : (page : ℕ) → within (to + (at - from)) (next - at) page ≡ true
      → (at ≤ from + (page - to)) × (from + (page - to) < next) × (within to (at - from) page ≡ false) × (within to (next - from) page ≡ true)
  in-next page e = (grind (arith, nat_tests, e, low), grind (arith, nat_tests, e, low), grind (arith, nat_tests, e, low), grind (arith, nat_tests, e, low))

  out-next : (page : ℕ) → within (to + (at - from)) (next - at) page ≡ false → within to (next - from) page ≡ within to (at - from) page
  out-next page e = by (within to (at - from) page) refl
    where
      by : (b : Bool) → within to (at - from) page ≡ b → within to (next - from) page ≡ b
      by true f = grind (arith, nat_tests, e, f, low, less)
      by false f = grind (arith, nat_tests, e, f, low, less)

  -- of pages of which something is said
  pub copied-more : (new : ℕ → Option Marks) (k : Marks) → said at ≡ Some k
      → ((page : ℕ) → new page ≡ cond (within (to + (at - from)) (next - at) page) (Some k) (now page)) → Copied said was new from next to
  copied-more new k is put page = put page ∙ by (within (to + (at - from)) (next - at) page) refl
    where
      by : (b : Bool) → within (to + (at - from)) (next - at) page ≡ b → cond b (Some k) (now page)
          ≡ cond (within to (next - from) page) (option_or (said (from + (page - to))) (was page)) (was page)
      by true e =
          let p = in-next page e in
          ap (λ o. option_or o (was page)) (sym (same (from + (page - to)) p.0 p.1 ∙ is))
          ∙ ap (λ b. cond b (option_or (said (from + (page - to))) (was page)) (was page)) (sym p.3)
      by false e = h page ∙ ap (λ b. cond b (option_or (said (from + (page - to))) (was page)) (was page)) (sym (out-next page e))

  -- and of others
  pub copied-none : said at ≡ None → Copied said was now from next to
  copied-none is page = h page ∙ by (within (to + (at - from)) (next - at) page) refl
    where
      by : (b : Bool) → within (to + (at - from)) (next - at) page ≡ b
          → cond (within to (at - from) page) (option_or (said (from + (page - to))) (was page)) (was page)
          ≡ cond (within to (next - from) page) (option_or (said (from + (page - to))) (was page)) (was page)
      by true e =
          let p = in-next page e in
          ap (λ b. cond b (option_or (said (from + (page - to))) (was page)) (was page)) p.2
          ∙ ap (λ o. option_or o (was page)) (sym (same (from + (page - to)) p.0 p.1 ∙ is))
          ∙ ap (λ b. cond b (option_or (said (from + (page - to))) (was page)) (was page)) (sym p.3)
      by false e = ap (λ b. cond b (option_or (said (from + (page - to))) (was page)) (was page)) (sym (out-next page e))

pub copied-is : (said was now : ℕ → Option Marks) (from at n to : ℕ) → Copied said was now from at to → at ≤ from + n → from + n ≤ at
    → (page : ℕ) → now page ≡ cond (within to n page) (option_or (said (from + (page - to))) (was page)) (was page)
copied-is said was now from at n to h most least page =
    h page ∙ ap (λ k. cond (within to k page) (option_or (said (from + (page - to))) (was page)) (was page))
    (let e : at - from ≡ n = omega (arith, most, least) in e)

-- ---- the pages that are moved, and those that are new

module _ (said empty moved : ℕ → Option Marks) (from n to m : ℕ) (none : (page : ℕ) → empty page ≡ None)
    (h : (page : ℕ) → moved page ≡ cond (within to (min n m) page) (option_or (said (from + (page - to))) (empty page)) (empty page)) where
  or-none : (o : Option Marks) (page : ℕ) → option_or o (empty page) ≡ o
  or-none o page = ap (option_or o) (none page) ∙ by o
    where
      by : (o : Option Marks) → option_or o None ≡ o
      by None = refl
      by (Some k) = refl

  moved-is : (page : ℕ) → moved page ≡ cond (within to (min n m) page) (said (from + (page - to))) None
  moved-is page = h page ∙ (λ i. cond (within to (min n m) page) (or-none (said (from + (page - to))) page i) (none page i))

  yes-both : (page : ℕ) → within to (min n m) page ≡ true → (within to m page ≡ true) × (nat_lt (page - to) n ≡ true)
  yes-both page e = (grind (arith, nat_tests, e), grind (arith, nat_tests, e))

  -- where none are new
  pub moved-all : m ≤ n → (page : ℕ) → moved page ≡ cond (within to m page) (marks_moved from n to said page) None
  moved-all few page = moved-is page ∙ by (within to (min n m) page) refl
    where
      no : within to (min n m) page ≡ false → within to m page ≡ false
      no e = grind (arith, nat_tests, e, few)

      by : (b : Bool) → within to (min n m) page ≡ b
          → cond b (said (from + (page - to))) None ≡ cond (within to m page) (marks_moved from n to said page) None
      by true e = sym (λ i. cond ((yes-both page e).0 i) (cond ((yes-both page e).1 i) (said (from + (page - to))) (said (from + n - 1))) None)
      by false e = ap (λ b. cond b (marks_moved from n to said page) None) (sym (no e))

  in-new : (page : ℕ) → n < m → within (to + n) (m - n) page ≡ true → (within to m page ≡ true) × (nat_lt (page - to) n ≡ false)
  in-new page more e = (grind (arith, nat_tests, e, more), grind (arith, nat_tests, e, more))

  out-new : (page : ℕ) → n < m → within (to + n) (m - n) page ≡ false → within to (min n m) page ≡ within to m page
  out-new page more e = by (within to m page) refl
    where
      by : (b : Bool) → within to m page ≡ b → within to (min n m) page ≡ b
      by true f = grind (arith, nat_tests, e, f, more)
      by false f = grind (arith, nat_tests, e, f, more)

  first-of : (page : ℕ) → n < m → within (to + n) (m - n) page ≡ false → within to m page ≡ true → nat_lt (page - to) n ≡ true
  first-of page more e f = grind (arith, nat_tests, e, f, more)

  -- where some are, and something is said of the last one
  pub moved-more : (new : ℕ → Option Marks) (k : Marks) → n < m → said (from + n - 1) ≡ Some k
      → ((page : ℕ) → new page ≡ cond (within (to + n) (m - n) page) (Some k) (moved page))
      → (page : ℕ) → new page ≡ cond (within to m page) (marks_moved from n to said page) None
  moved-more new k more is put page = put page ∙ by (within (to + n) (m - n) page) (within to m page) refl refl
    where
      by : (b d : Bool) → within (to + n) (m - n) page ≡ b → within to m page ≡ d
          → cond b (Some k) (moved page) ≡ cond d (marks_moved from n to said page) None
      by true true e f = sym is ∙ ap (λ b. cond b (said (from + (page - to))) (said (from + n - 1))) (sym (in-new page more e).1)
      by true false e f = absurd (none-true (within to m page) (in-new page more e).0 f)
      by false true e f = moved-is page ∙ ap (λ b. cond b (said (from + (page - to))) None) (out-new page more e ∙ f)
          ∙ ap (λ b. cond b (said (from + (page - to))) (said (from + n - 1))) (sym (first-of page more e f))
      by false false e f = moved-is page ∙ ap (λ b. cond b (said (from + (page - to))) None) (out-new page more e ∙ f)

  -- and where nothing is
  pub moved-none : n < m → said (from + n - 1) ≡ None → (page : ℕ) → moved page ≡ cond (within to m page) (marks_moved from n to said page) None
  moved-none more is page = moved-is page ∙ by (within (to + n) (m - n) page) (within to m page) refl refl
    where
      not-first : within (to + n) (m - n) page ≡ true → within to (min n m) page ≡ false
      not-first e = grind (arith, nat_tests, e, more)

      by : (b d : Bool) → within (to + n) (m - n) page ≡ b → within to m page ≡ d
          → cond (within to (min n m) page) (said (from + (page - to))) None ≡ cond d (marks_moved from n to said page) None
      by true true e f = ap (λ b. cond b (said (from + (page - to))) None) (not-first e)
          ∙ sym is ∙ ap (λ b. cond b (said (from + (page - to))) (said (from + n - 1))) (sym (in-new page more e).1)
      by true false e f = absurd (none-true (within to m page) (in-new page more e).0 f)
      by false true e f = ap (λ b. cond b (said (from + (page - to))) None) (out-new page more e ∙ f)
          ∙ ap (λ b. cond b (said (from + (page - to))) (said (from + n - 1))) (sym (first-of page more e f))
      by false false e f = ap (λ b. cond b (said (from + (page - to))) None) (out-new page more e ∙ f)

-- the old range is changed, the new one is unmapped, and what is moved is put there
pub after-is : (said mid free now moved : ℕ → Option Marks) (from n to m : ℕ) (stays : Bool)
    → ((page : ℕ) → moved page ≡ cond (within to m page) (marks_moved from n to said page) None)
    → ((page : ℕ) → mid page ≡ cond (within from n page) (option_and_then (change_of (old_change stays)) (said page)) (said page))
    → ((page : ℕ) → free page ≡ cond (within to m page) (option_and_then (change_of Unmap) (mid page)) (mid page))
    → ((page : ℕ) → now page ≡ cond (within to m page) (option_or (moved (to + (page - to))) (free page)) (free page))
    → (page : ℕ) → now page ≡ marks_after from n to m stays said page
after-is said mid free now moved from n to m stays hm hc hf hn page = hn page ∙ by (within to m page) refl
  where
    gone : (o : Option Marks) → option_and_then (change_of Unmap) o ≡ None
    gone None = refl
    gone (Some k) = refl

    or-none : (o p : Option Marks) → p ≡ None → option_or o p ≡ o
    or-none None p e = e
    or-none (Some k) p e = refl

    here : within to m page ≡ true → to + (page - to) ≡ page
    here e = grind (arith, nat_tests, e)

    by : (b : Bool) → within to m page ≡ b → cond b (option_or (moved (to + (page - to))) (free page)) (free page)
        ≡ cond b (marks_moved from n to said page)
        (cond (within from n page) (option_and_then (change_of (old_change stays)) (said page)) (said page))
    by true e = or-none (moved (to + (page - to))) (free page)
        (hf page ∙ ap (λ b. cond b (option_and_then (change_of Unmap) (mid page)) (mid page)) e ∙ gone (mid page))
        ∙ ap moved (here e) ∙ hm page ∙ ap (λ b. cond b (marks_moved from n to said page) None) e
    by false e = hf page ∙ ap (λ b. cond b (option_and_then (change_of Unmap) (mid page)) (mid page)) e ∙ hc page

-- ---- bytes

-- taken out, wiped at both places, and put in again
pub bytes-moved : {A : Type 0} (old left gone free now moved : BTreeMap ℕ A) (from n to m : ℕ)
    → ((page : ℕ) → get nat_cmp left page ≡ cond (within from (min n m) page) None (get nat_cmp old page))
    → ((page : ℕ) → get nat_cmp moved page ≡ cond (within to (min n m) page) (get nat_cmp old (from + (page - to))) None)
    → ((page : ℕ) → get nat_cmp gone page ≡ cond (within from n page) None (get nat_cmp left page))
    → ((page : ℕ) → get nat_cmp free page ≡ cond (within to m page) None (get nat_cmp gone page))
    → ((page : ℕ) → get nat_cmp now page ≡ option_or (get nat_cmp moved page) (get nat_cmp free page))
    → AreMoved from n to m old now
bytes-moved {A} old left gone free now moved from n to m hl hm hg hf hn page =
    hn page ∙ (λ i. option_or (hm page i) ((hf page ∙ ap (cond (within to m page) None) (hg page ∙ ap (cond (within from n page) None) (hl page))) i))
    ∙ by (within to m page) (nat_lt (page - to) n) (within from n page) refl refl refl
  where
    both : within to m page ≡ true → nat_lt (page - to) n ≡ true → within to (min n m) page ≡ true
    both e f = grind (arith, nat_tests, e, f)

    past : nat_lt (page - to) n ≡ false → within to (min n m) page ≡ false
    past f = grind (arith, nat_tests, f)

    out : within to m page ≡ false → within to (min n m) page ≡ false
    out e = grind (arith, nat_tests, e)

    fewer : within from n page ≡ false → within from (min n m) page ≡ false
    fewer e = grind (arith, nat_tests, e)

    or-none : (o : Option A) → option_or o None ≡ o
    or-none None = refl
    or-none (Some x) = refl

    by : (a b d : Bool) → within to m page ≡ a → nat_lt (page - to) n ≡ b → within from n page ≡ d
        → option_or (cond (within to (min n m) page) (get nat_cmp old (from + (page - to))) None)
        (cond a None (cond d None (cond (within from (min n m) page) None (get nat_cmp old page))))
        ≡ option_and_then (get nat_cmp old) (cond a (cond b (Some (from + (page - to))) None) (cond d None (Some page)))
    by true true d e f g = ap (λ b. option_or (cond b (get nat_cmp old (from + (page - to))) None) None) (both e f)
        ∙ or-none (get nat_cmp old (from + (page - to)))
    by true false d e f g = ap (λ b. option_or (cond b (get nat_cmp old (from + (page - to))) None) None) (past f)
    by false b true e f g = ap (λ b. option_or (cond b (get nat_cmp old (from + (page - to))) None) None) (out e)
    by false b false e f g = λ i. option_or (cond (out e i) (get nat_cmp old (from + (page - to))) None) (cond (fewer g i) None (get nat_cmp old page))

-- ---- pages

one-behind : (stays : Bool) (o : Option Marks) (at : ℕ → ℕ) (p : Option Page) → IsPage o at p
    → IsPage (option_and_then (change_of (old_change stays)) o) (byte_in None) (left_behind stays p)
one-behind true None at None h = tt
one-behind true None at (Some p) h = absurd h
one-behind true (Some k) at None h = absurd h
one-behind true (Some k) at (Some p) h = (h.0, ap (with_flag Locked false) h.1, λ i low. refl)
one-behind false None at p h = tt
one-behind false (Some k) at p h = tt

pub remapped : (from n to m : ℕ) (stays : Bool) (old new : Space) (q : Process) → IsSpace old q
    → ((page : ℕ) → marks_at new.ranges page ≡ marks_after from n to m stays (marks_at old.ranges) page)
    → AreMoved from n to m old.bytes new.bytes
    → IsBelowTop (process_after_mremap from n to m stays q) → IsSpace new (process_after_mremap from n to m stays q)
remapped from n to m stays old new q h marks bytes below = record {
  pages = λ page. subst (λ o. IsPage o (byte_in (get nat_cmp new.bytes page)) (process_after_mremap from n to m stays q page)) (sym (marks page))
      (subst (λ b. IsPage (marks_after from n to m stays (marks_at old.ranges) page) (byte_in b) (process_after_mremap from n to m stays q page))
      (sym (bytes page)) (by page (within to m page) (nat_lt (page - to) n) (within from n page)));
  top = below;
}
  where
    rs : ℕ → Option Marks
    rs = marks_at old.ranges

    by : (page : ℕ) (a b c : Bool) → IsPage
        (cond a (cond b (rs (from + (page - to))) (rs (from + n - 1)))
        (cond c (option_and_then (change_of (old_change stays)) (rs page)) (rs page)))
        (byte_in (option_and_then (get nat_cmp old.bytes) (cond a (cond b (Some (from + (page - to))) None) (cond c None (Some page)))))
        (cond a (cond b (q (from + (page - to))) (option_map wiped (q (from + n - 1)))) (cond c (left_behind stays (q page)) (q page)))
    by page true true c = h.pages (from + (page - to))
    by page true false c = one-wiped true (rs (from + n - 1)) (get nat_cmp old.bytes (from + n - 1)) byte_in (q (from + n - 1))
        zero-byte (h.pages (from + n - 1))
    by page false b true = one-behind stays (rs page) (byte_in (get nat_cmp old.bytes page)) (q page) (h.pages page)
    by page false b false = h.pages page
