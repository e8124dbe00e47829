-- Which mremap is refused, by the protections of pages.
use Rattle.std.proofs.Common.{◌≡◌, ℕ, zero, suc, ◌+◌, ◌-◌, ◌<◌, ◌≤◌, nat_le, Bool, true, false, not, ◌&&◌, ◌||◌, Result, Ok, Err, Option, Some, None, is_some, option_map, refl, sym, ap, subst, ◌∙◌, arith}
use Rattle.std.proofs.lemmas.Bool.{false≢true}
use Rattle.std.proofs.lemmas.Bool.Decides.{nat_tests}
use Rattle.std.specs.Option.{option_map_or}
use Rattle.std.specs.Bool.{beq}
use Rattle.std.specs.Prelude.{MatchBool, MatchResult}
use Rattle.av_base.specs.Limits.{top_page}
use Rattle.av_base.specs.declared.prot.Prot.{Prot}
use Rattle.av_vma.specs.declared.area.Area.{Area}
use Rattle.av_trace.specs.declared.mode.Mode.{Mode}
use Rattle.av_trace.specs.declared.mode.Mode.TheVariants.{DontUnmap, MayMove}
use Rattle.av_trace.specs.declared.reply.Errno.{Errno}
use Rattle.av_trace.specs.declared.reply.Errno.TheVariants.{Enomem}
use Rattle.av_vma.specs.Gap.{IsGap}
use Rattle.av_vma.specs.Index.{past_of}
use Rattle.av_vma.specs.Join.{same_prot}
use Rattle.av_vma.specs.Pages.{AreLaid, Pages}
use Rattle.av_vma.proofs.Join.{prot_is, same_as_itself}
use Rattle.av_vma.proofs.Laid.{has_from, has_parts}
use Rattle.av_vmatree.specs.Spans.{IsFree, IsMet}
use Rattle.av_spaces.specs.Spaces.{Spaces, is_taken, pages_of}
use Rattle.av_plain.specs.Mremap.{has_prot, have_one_prot, have_prot, may_stay, prot_at}
use Rattle.av_plain.specs.World.{Page, Process, is_mapped, meets}
use Rattle.av_plain.proofs.Mremap.Legal.{have_prot-each}
use Rattle.av_place.specs.Mremap.{HaveProtsOf, IsTarget, prots}
use Rattle.av_place.proofs.PlaceLaws.{free_meets, met_meets}

-- where each page has it
pub have_prot-all : (q : Process) (prot : Prot) (from n : ℕ) → ((o : ℕ) → from ≤ o → o < from + n → prot_at q o ≡ Some prot)
    → have_prot q prot from n ≡ true
have_prot-all q prot from zero h = refl
have_prot-all q prot from (suc n) h =
    ap (λ b. b && have_prot q prot (from + 1) n) (of_page (q from) (h from (omega arith) (omega arith)))
    ∙ have_prot-all q prot (from + 1) n (λ o low high. h o (omega (arith, low)) (omega (arith, high)))
  where
    of_page : (o : Option Page) → option_map (λ (x : Page). x.prot) o ≡ Some prot → has_prot prot o ≡ true
    of_page None e = cc
    of_page (Some x) e = let same : x.prot ≡ prot = cc in ap (λ p. same_prot p prot) same ∙ same_as_itself prot

-- where one has not
pub have_prot-no : (q : Process) (prot : Prot) (from n o : ℕ) → from ≤ o → o < from + n → (prot_at q o ≡ Some prot → ⊥)
    → have_prot q prot from n ≡ false
have_prot-no q prot from n o low high lacks = by (have_prot q prot from n) refl
  where
    by : (b : Bool) → have_prot q prot from n ≡ b → b ≡ false
    by true e = absurd (lacks (have_prot-each q prot from n o e low high))
    by false e = refl

-- the pages of a process are mapped exactly where they have a protection
pub mapped_as : (s : Spaces) (p : ℕ) (q : Process) → HaveProtsOf (pages_of s p) q → (page : ℕ) → is_taken s p page ≡ is_mapped q page
mapped_as s p q same page = by (pages_of s p page) (q page) (same page)
  where
    by : (o : Option Area) (x : Option Page) → option_map (λ (area : Area). area.prot) o ≡ option_map (λ (x : Page). x.prot) x → is_some o ≡ is_some x
    by None None e = refl
    by None (Some x) e = cc
    by (Some area) None e = cc
    by (Some area) (Some x) e = refl

-- where the first page is mapped
module _ (s : Spaces) (p : ℕ) (q : Process) (from n : ℕ) (area : Area) (same : HaveProtsOf (pages_of s p) q)
    (there : pages_of s p from ≡ Some area) where
  first_is : Some area.prot ≡ prot_at q from
  first_is = ap (option_map (λ (area : Area). area.prot)) (sym there) ∙ same from

  pub all_there : have_prot q area.prot from n ≡ have_one_prot q from n
  all_there = by (q from) first_is
    where
      by : (x : Option Page) → Some area.prot ≡ option_map (λ (x : Page). x.prot) x
          → have_prot q area.prot from n ≡ option_map_or (λ (x : Page). have_prot q x.prot from n) x false
      by None e = cc
      by (Some x) e = let first : area.prot ≡ x.prot = cc in ap (λ prot. have_prot q prot from n) first

-- ---- one page

some_is : {a b : Prot} → Some a ≡ Some b → a ≡ b
some_is e = cc

pub not_there : (s : Spaces) (p : ℕ) (q : Process) (page : ℕ) (prot : Prot) → HaveProtsOf (pages_of s p) q →
    None ≡ pages_of s p page → prot_at q page ≡ Some prot → ⊥
not_there s p q page prot same none is = clash (ap (option_map (λ (area : Area). area.prot)) none ∙ same page ∙ is)
  where
    clash : None ≡ Some prot → ⊥
    clash e = cc

-- as a comparison of two protections is derived
abbrev pub equal_prots : Prot → Prot → Bool
equal_prots a b = beq a.read b.read && (beq a.write b.write && beq a.execute b.execute)

equal_same : (a b : Prot) → equal_prots a b ≡ same_prot a b
equal_same a b = by (beq a.read b.read) (beq a.write b.write) (beq a.execute b.execute)
  where
    by : (x y z : Bool) → (x && (y && z)) ≡ ((x && y) && z)
    by true y z = refl
    by false y z = refl

pub not_with : (s : Spaces) (p : ℕ) (q : Process) (page : ℕ) (area : Area) (prot : Prot) → HaveProtsOf (pages_of s p) q
    → Some area ≡ pages_of s p page
    → not (equal_prots area.prot prot) ≡ true → prot_at q page ≡ Some prot → ⊥
not_with s p q page area prot same there other is =
    let both : area.prot ≡ prot = some_is (ap (option_map (λ (area : Area). area.prot)) there ∙ same page ∙ is) in
    false≢true (sym (ap not (equal_same area.prot prot ∙ ap (λ x. same_prot x prot) both ∙ same_as_itself prot)) ∙ other)

pub with_prot : (area : Area) (prot : Prot) → not (equal_prots area.prot prot) ≡ false → Some area.prot ≡ Some prot
with_prot area prot h = ap Some (prot_is area.prot prot (sym (equal_same area.prot prot) ∙ turned (equal_prots area.prot prot) h))
  where
    turned : (b : Bool) → not b ≡ false → b ≡ true
    turned true h = refl
    turned false h = cc

-- an area is on all pages up to its end
pub covers : (on : Pages) → AreLaid on → (area : Area) (page : ℕ) → on page ≡ Some area → (o : ℕ) → page ≤ o → o < past_of area
    → prots on o ≡ Some area.prot
covers on laid area page is o low high =
    let first = (has_parts area page (laid.here page area is)).0 in
    ap (option_map (λ (area : Area). area.prot)) (laid.all page o area is (has_from area o (omega (arith, first, low)) high))

-- ---- where the pages go

module _ (s : Spaces) (p : ℕ) (q : Process) (same : HaveProtsOf (pages_of s p) q) (from n m : ℕ) where
  taken_is : (page : ℕ) → is_taken s p page ≡ is_mapped q page
  taken_is = mapped_as s p q same

  pub may_stay-is : (b : Bool) → n < m → from + m ≤ top_page → (b ≡ true → IsFree (is_taken s p) (from + n) (from + n + (m - n)))
      → (b ≡ false → IsMet (is_taken s p) (from + n) (from + n + (m - n))) → b ≡ may_stay q from n m
  may_stay-is b more high free met = by b free met
    where
      less : nat_le m n ≡ false
      less = grind (arith, nat_tests, more)

      below : nat_le (from + m) top_page ≡ true
      below = grind (arith, nat_tests, high)

      whole : (c : Bool) → meets q (from + n) (m - n) ≡ c → may_stay q from n m ≡ not c
      whole c e = λ i. less i || (below i && not (e i))

      by : (b : Bool) → (b ≡ true → IsFree (is_taken s p) (from + n) (from + n + (m - n)))
          → (b ≡ false → IsMet (is_taken s p) (from + n) (from + n + (m - n))) → b ≡ may_stay q from n m
      by true free met = sym (whole false (free_meets s p q taken_is (m - n) (from + n) (free refl)))
      by false free met = sym (whole true (met_meets s p q taken_is (m - n) (from + n) (met refl)))

  -- what a gap among the pages of a process is
  abbrev Gap : Result ℕ Errno → Type 0
  Gap r = MatchResult r (λ page. IsGap (is_taken s p) m (Some page)) (λ error. IsGap (is_taken s p) m None × (error ≡ Enomem))

  gap_is : (to : Option ℕ) → IsGap (is_taken s p) m to → IsGap (is_mapped q) m to
  gap_is to h = subst (λ (t : ℕ → Bool). IsGap t m to) (λ i page. taken_is page i) h

  pub gap_moved : (r : Result ℕ Errno) (mode : Mode) → mode ≡ MayMove → may_stay q from n m ≡ false → Gap r → IsTarget q from n m mode r
  gap_moved r mode is full gap = subst (λ mode. IsTarget q from n m mode r) (sym is) (by r gap)
    where
      by : (r : Result ℕ Errno) → Gap r → IsTarget q from n m MayMove r
      by (Ok to) h = subst (λ b. MatchBool b (Some to ≡ Some from) (IsGap (is_mapped q) m (Some to))) (sym full) (gap_is (Some to) h)
      by (Err error) h = (subst (λ b. MatchBool b (None ≡ Some from) (IsGap (is_mapped q) m None)) (sym full) (gap_is None h.0), h.1)

  pub gap_left : (r : Result ℕ Errno) (mode : Mode) → mode ≡ DontUnmap None → Gap r → IsTarget q from n m mode r
  gap_left r mode is gap = subst (λ mode. IsTarget q from n m mode r) (sym is) (by r gap)
    where
      by : (r : Result ℕ Errno) → Gap r → IsTarget q from n m (DontUnmap None) r
      by (Ok to) h = gap_is (Some to) h
      by (Err error) h = (gap_is None h.0, h.1)
