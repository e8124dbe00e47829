-- What an mremap that isn't refused and finds room has: where its areas go on the pages that are mapped, they may become what it makes of them.
use Rattle.std.proofs.Common.{◌≡◌, ◌⊎◌, inl, inr, ℕ, zero, suc, ◌+◌, ◌-◌, ◌^◌, ◌<◌, ◌≤◌, min, nat_le, nat_lt, ◌==◌, Bool, true, false, cond, not, ◌&&◌, ◌||◌, Option, Some, None, is_some, option_map, IsSomeAnd, refl, sym, ap, subst, ◌∙◌, arith}
use Rattle.std.proofs.lemmas.Bool.{cases_lt, false≢true}
use Rattle.std.proofs.lemmas.Bool.Decides.{nat_tests}
use Rattle.std.specs.Option.{option_map_or}
use Rattle.std.specs.Prelude.{MatchBool}
use Rattle.av_base.specs.Limits.{low_page, top_page}
use Rattle.av_base.specs.Page.{address_of, is_on_page, page_of, pages_of}
use Rattle.av_base.specs.declared.prot.Prot.{Prot}
use Rattle.av_trace.specs.declared.mode.Mode.{Mode}
use Rattle.av_trace.specs.declared.mode.Mode.TheVariants.{DontUnmap, Fixed, MayMove, Plain}
use Rattle.av_vma.specs.declared.area.Area.{Area}
use Rattle.av_vma.specs.Gap.{IsGap, IsRoom}
use Rattle.av_vma.specs.Index.{index_of}
use Rattle.av_vma.specs.Mremap.{IsGrowth, IsMove}
use Rattle.av_vma.specs.Pages.{Pages}
use Rattle.av_vma.proofs.Join.{prot_is}
use Rattle.av_plain.specs.Mremap.{MovesTo, has_prot, have_one_prot, have_prot, is_in_place, leaves_old, may_stay, prot_at, target_of}
use Rattle.av_plain.specs.Refusal.{is_below_low, is_no_target, low, overflows, top}
use Rattle.av_plain.specs.World.{Page, Process, World, is_mapped, meets, pages}
use Rattle.av_plain.proofs.Mremap.Areas.{IsRemap}
use Rattle.av_plain.proofs.Refusal.{MayRemap, first-mapped}
use Rattle.av_plain.proofs.World.Ranges.{meets-none}

-- ---- one protection

-- a page of a range that has a protection is mapped with it
pub have_prot-each : (q : Process) (prot : Prot) (from n page : ℕ) → have_prot q prot from n ≡ true → from ≤ page → page < from + n
    → prot_at q page ≡ Some prot
have_prot-each q prot from zero page h low high = absurd (omega (arith, low, high))
have_prot-each q prot from (suc n) page h low high = elim (cases_lt from page) [
  | inl above ↦ have_prot-each q prot (from + 1) n page (both (has_prot prot (q from)) (have_prot q prot (from + 1) n) h).1 (omega (arith, above))
      (omega (arith, high))
  | inr below ↦
      let same : from ≡ page = omega (arith, below, low) in
      subst (λ x. prot_at q x ≡ Some prot) same (of_page (q from) (both (has_prot prot (q from)) (have_prot q prot (from + 1) n) h).0)
]
  where
    both : (a b : Bool) → (a && b) ≡ true → (a ≡ true) × (b ≡ true)
    both true b h = (refl, h)
    both false b h = cc

    of_page : (o : Option Page) → has_prot prot o ≡ true → option_map (λ (x : Page). x.prot) o ≡ Some prot
    of_page None h = cc
    of_page (Some x) h = ap Some (prot_is x.prot prot h)

-- the first page of a range with one protection, and what all its pages have
pub record IsUniform (q : Process) (from n : ℕ) : Type 0 where
  pub prot : Prot
  pub each : (page : ℕ) → from ≤ page → page < from + n → prot_at q page ≡ Some prot
  pub first : prot_at q from ≡ Some prot

pub uniform : (q : Process) (from n : ℕ) → have_one_prot q from n ≡ true → IsUniform q from n
uniform q from n h = by (q from) refl h
  where
    by : (o : Option Page) → q from ≡ o → option_map_or (λ (x : Page). have_prot q x.prot from n) o false ≡ true → IsUniform q from n
    by None e h = cc
    by (Some x) e h = record {
      prot = x.prot;
      each = λ page low high. have_prot-each q x.prot from n page h low high;
      first = ap (option_map (λ (x : Page). x.prot)) e;
    }

mapped_with : (q : Process) (page : ℕ) (prot : Prot) → prot_at q page ≡ Some prot → is_mapped q page ≡ true
mapped_with q page prot e = by (q page) e
  where
    by : (o : Option Page) → option_map (λ (x : Page). x.prot) o ≡ Some prot → is_some o ≡ true
    by None e = cc
    by (Some x) e = refl

-- ---- where the pages go

-- they stay, or go to an address that was named, or to a gap
data HowGoes (q : Process) (from n m : ℕ) (mode : Mode) (to : ℕ) : Type 0 where
  Stays : (leaves_old mode ≡ false) → (is_in_place mode n m ≡ nat_le m n) → (may_stay q from n m ≡ true) → (to ≡ from) → HowGoes q from n m mode to
  GoesTo : (b : ℕ) → (target_of mode ≡ Some b) → (is_in_place mode n m ≡ false) → (to ≡ page_of b) → HowGoes q from n m mode to
  GoesToGap : (is_in_place mode n m ≡ false) → IsRoom (is_mapped q) m to → HowGoes q from n m mode to

some_is : {x y : ℕ} → Some x ≡ Some y → x ≡ y
some_is e = cc

how : (q : Process) (from n m : ℕ) (mode : Mode) (to : ℕ) → MovesTo q from n m mode (Some to) → HowGoes q from n m mode to
how q from n m Plain to h = by (may_stay q from n m) refl h
  where
    by : (b : Bool) → may_stay q from n m ≡ b → Some to ≡ cond b (Some from) None → HowGoes q from n m Plain to
    by true is e = Stays refl refl is (some_is e)
    by false is e = cc
how q from n m MayMove to h = by (may_stay q from n m) refl h
  where
    grows : (a b : Bool) → (a || b) ≡ false → a ≡ false
    grows true b e = cc
    grows false b e = refl

    by : (b : Bool) → may_stay q from n m ≡ b → MatchBool b (Some to ≡ Some from) (IsGap (is_mapped q) m (Some to)) → HowGoes q from n m MayMove to
    by true is e = Stays refl refl is (some_is e)
    by false is gap = GoesToGap (grows (nat_le m n) (nat_le (from + m) top_page && not (meets q (from + n) (m - n))) is) gap.0
how q from n m (Fixed b) to h = GoesTo b refl refl (some_is h)
how q from n m (DontUnmap (Some b)) to h = GoesTo b refl refl (some_is h)
how q from n m (DontUnmap None) to gap = GoesToGap refl gap.0

-- ---- the whole

module _ (w : World) (p a old new : ℕ) (mode : Mode) (to : ℕ) (may : MayRemap w p a old new mode)
    (goes : MovesTo (pages w p) (page_of a) (pages_of old) (pages_of new) mode (Some to)) where
  abbrev q : Process
  q = pages w p

  abbrev from : ℕ
  from = page_of a

  abbrev n : ℕ
  n = pages_of old

  abbrev m : ℕ
  m = pages_of new

  case : HowGoes q from n m mode to
  case = how q from n m mode to goes

  -- neither range is empty
  pub some : (1 ≤ n) × (1 ≤ m)
  some = let h = by (old == 0) (new == 0) (overflows old) (overflows new) (leaves_old mode && not (old == new)) may.lengths in
      (least old h.0, least new h.1)
    where
      by : (b c d e f : Bool) → (b || c || d || e || f) ≡ false → (b ≡ false) × (c ≡ false)
      by true c d e f h = cc
      by false true d e f h = cc
      by false false d e f h = (refl, refl)

      least : (len : ℕ) → (len == 0) ≡ false → 1 ≤ pages_of len
      least len h = let more : 0 < len = grind (arith, nat_tests, h) in omega (arith, more)

  -- where they do not stay in place the old range has one protection
  pub one_prot : is_in_place mode n m ≡ false → IsUniform q from n
  one_prot not_here = uniform q from n (by (is_in_place mode n m) not_here may.has_pages)
    where
      by : (b : Bool) → b ≡ false → not (cond b (is_mapped q from) (have_one_prot q from n)) ≡ false → have_one_prot q from n ≡ true
      by true e h = cc
      by false e h = turned (have_one_prot q from n) h
        where
          turned : (b : Bool) → not b ≡ false → b ≡ true
          turned true h = refl
          turned false h = cc

  mapped : is_in_place mode n m ≡ false → (page : ℕ) → from ≤ page → page < from + n → is_mapped q page ≡ true
  mapped not_here page low high = let u = one_prot not_here in mapped_with q page u.prot (u.each page low high)

  -- the address that is named is on a page, low and high enough, and the ranges are apart
  record IsTarget (b : ℕ) : Type 0 where
    lowest : low_page ≤ page_of b
    highest : page_of b + m ≤ top_page
    apart : (page_of b + m ≤ from) ⊎ (from + n ≤ page_of b)

  target : (b : ℕ) → target_of mode ≡ Some b → IsTarget b
  target b is =
      let out : is_no_target a n m (Some b) ≡ false = ap (is_no_target a n m) (sym is) ∙ may.target in
      let h = three (not (is_on_page b)) (nat_lt top (b + address_of m)) (nat_lt a (b + address_of m)) (nat_lt b (a + address_of n)) out in
      let under : b + address_of m ≤ address_of top_page = grind (arith, nat_tests, h.0) in
      let above : nat_lt b low ≡ false = ap is_below_low (sym is) ∙ may.low in
      let least : address_of low_page ≤ b = grind (arith, nat_tests, above) in
      record {
        lowest = omega (arith, least);
        highest = omega (arith, under);
        apart = elim h.1 [
          | inl e ↦ (let k : b + address_of m ≤ a = grind (arith, nat_tests, e) in inl (omega (arith, k)))
          | inr e ↦ (let k : a + address_of n ≤ b = grind (arith, nat_tests, e) in inr (omega (arith, k)))
        ];
      }
    where
      three : (x y c d : Bool) → (x || y || (c && d)) ≡ false → (y ≡ false) × ((c ≡ false) ⊎ (d ≡ false))
      three true y c d h = cc
      three false true c d h = cc
      three false false false d h = (refl, inl refl)
      three false false true false h = (refl, inr refl)
      three false false true true h = cc

  first : is_mapped q from ≡ true
  first = first-mapped q from n m mode may.has_pages

  -- a gap is apart from what is mapped
  gap_apart : IsRoom (is_mapped q) m to → ((page : ℕ) → from ≤ page → page < from + n → is_mapped q page ≡ true) → (to + m ≤ from) ⊎ (from + n ≤ to)
  gap_apart room all = elim (cases_lt from (to + m)) [
    | inr below ↦ inl below
    | inl one ↦ elim (cases_lt to (from + n)) [
      | inr above ↦ inr above
      | inl two ↦ elim (cases_lt from to) [
        | inl higher ↦ absurd
            (false≢true (sym (room.free to (omega arith) (let s = some.1 in omega (arith, s))) ∙ all to (omega (arith, higher)) two))
        | inr lower ↦ absurd (false≢true (sym (room.free from lower one) ∙ first))
      ]
    ]
  ]

  -- where a range grows in place, it ends below the top, over free pages
  may_grow : n < m → may_stay q from n m ≡ true → (from + m ≤ top_page) × (meets q (from + n) (m - n) ≡ false)
  may_grow more may_be =
      let h = parts (nat_le m n) (nat_le (from + m) top_page) (meets q (from + n) (m - n)) (grind (arith, nat_tests, more)) may_be in
      (grind (arith, nat_tests, h.0), h.1)
    where
      parts : (b c d : Bool) → b ≡ false → (b || (c && not d)) ≡ true → (c ≡ true) × (d ≡ false)
      parts true c d e h = cc
      parts false true true e h = cc
      parts false false d e h = cc
      parts false true false e h = (refl, refl)

  -- the new range ends below the top, where it is not a part of the old one
  pub highest : ((to == from) ≡ false) ⊎ (n < m) → to + m ≤ top_page
  highest which = by case which
    where
      by : HowGoes q from n m mode to → ((to == from) ≡ false) ⊎ (n < m) → to + m ≤ top_page
      by (Stays bare place may_be is) (inl there) = absurd (false≢true (sym there ∙ grind (arith, nat_tests, is)))
      by (Stays bare place may_be is) (inr more) = subst (λ x. x + m ≤ top_page) (sym is) (may_grow more may_be).0
      by (GoesTo b named place is) which = subst (λ x. x + m ≤ top_page) (sym is) (target b named).highest
      by (GoesToGap place room) which = room.highest

  -- in place only a mode that leaves nothing behind
  pub stays_bare : (to == from) ≡ true → leaves_old mode ≡ false
  stays_bare here = by case
    where
      same : to ≡ from
      same = grind (arith, nat_tests, here)

      by : HowGoes q from n m mode to → leaves_old mode ≡ false
      by (Stays bare place may_be is) = bare
      by (GoesTo b named place is) = absurd (let t = target b named in let s = some in let e : page_of b ≡ from = sym is ∙ same in
          elim t.apart [ inl x ↦ omega (arith, x, e, s) | inr x ↦ omega (arith, x, e, s) ])
      by (GoesToGap place room) = absurd (false≢true (sym (room.free from (omega (arith, same)) (let s = some in omega (arith, same, s))) ∙ first))

  module _ (on : Pages) (same_pages : (page : ℕ) → is_some (on page) ≡ is_mapped q page)
      (small : ((to == from) ≡ false) ⊎ (n < m) → IsSomeAnd (on (from + min n m - 1))
      (λ area. index_of area (from + min n m - 1) + (m - min n m) < 2 ^ 60)) where
    elsewhere : (to == from) ≡ false → (low_page ≤ to) × (to + m ≤ top_page) → (to + m ≤ from) ⊎ (from + n ≤ to)
        → ((page : ℕ) → from ≤ page → page < from + n → is_mapped q page ≡ true) → IsMove from n to m on
    elsewhere there bounds apart all = record {
      some = some.0;
      more = some.1;
      low = bounds.0;
      high = bounds.1;
      apart = apart;
      mapped = λ page low high. same_pages page ∙ all page low high;
      small = small (inl there);
    }

    moves : (to == from) ≡ false → IsMove from n to m on
    moves there = by case
      where
        by : HowGoes q from n m mode to → IsMove from n to m on
        by (Stays bare place may_be is) = absurd (false≢true (sym there ∙ grind (arith, nat_tests, is)))
        by (GoesTo b named place is) =
            let t = target b named in
            elsewhere there (subst (λ x. (low_page ≤ x) × (x + m ≤ top_page)) (sym is) (t.lowest, t.highest))
            (subst (λ x. (x + m ≤ from) ⊎ (from + n ≤ x)) (sym is) t.apart) (mapped place)
        by (GoesToGap place room) = elsewhere there (room.lowest, room.highest) (gap_apart room (mapped place)) (mapped place)

    grows : (to == from) ≡ true → n < m → IsGrowth (from + n - 1) (from + m) on
    grows here more = by case
      where
        same : to ≡ from
        same = grind (arith, nat_tests, here)

        least : min n m ≡ n
        least = omega (arith, more)

        kept : IsSomeAnd (on (from + n - 1)) (λ area. index_of area (from + n - 1) + (m - n) < 2 ^ 60)
        kept = subst (λ k. IsSomeAnd (on (from + k - 1)) (λ area. index_of area (from + k - 1) + (m - k) < 2 ^ 60)) least (small (inr more))

        fits : (o : Option Area) → IsSomeAnd o (λ area. index_of area (from + n - 1) + (m - n) < 2 ^ 60)
            → IsSomeAnd o (λ area. index_of area (from + n - 1) + (from + m - (from + n - 1)) ≤ 2 ^ 60)
        fits None h = h
        fits (Some area) h = let s = some in omega (arith, h, more, s)

        stays : may_stay q from n m ≡ true → IsGrowth (from + n - 1) (from + m) on
        stays may_be =
            let h = may_grow more may_be in
            let s = some in
            record {
              more = omega (arith, more, s);
              high = h.0;
              free = λ page low high. same_pages page ∙ meets-none q (from + n) (m - n) page h.1 (omega (arith, low, s)) (omega (arith, high, more));
              small = fits (on (from + n - 1)) kept;
            }

        by : HowGoes q from n m mode to → IsGrowth (from + n - 1) (from + m) on
        by (Stays bare place may_be is) = stays may_be
        by (GoesTo b named place is) = absurd (let t = target b named in let s = some in let e : page_of b ≡ from = sym is ∙ same in
            elim t.apart [ inl x ↦ omega (arith, x, e, s) | inr x ↦ omega (arith, x, e, s) ])
        by (GoesToGap place room) = absurd (false≢true (sym (room.free from (omega (arith, same)) (let s = some in omega (arith, same, s))) ∙ first))

    pub may-become : IsRemap from n to m on
    may-become = record { grows = grows; moves = moves }

  -- where the pages move, or grow, the old range has one protection
  pub uniform-where : ((to == from) ≡ false) ⊎ (n < m) → IsUniform q from n
  uniform-where which = one_prot (by case which)
    where
      by : HowGoes q from n m mode to → ((to == from) ≡ false) ⊎ (n < m) → is_in_place mode n m ≡ false
      by (Stays bare place may_be is) (inl there) = absurd (false≢true (sym there ∙ grind (arith, nat_tests, is)))
      by (Stays bare place may_be is) (inr more) = place ∙ grind (arith, nat_tests, more)
      by (GoesTo b named place is) which = place
      by (GoesToGap place room) which = place

  -- where the range grows, its last page is mapped
  pub last_mapped : n < m → is_mapped q (from + n - 1) ≡ true
  last_mapped more =
      let u = uniform-where (inr more) in
      let s = some in
      mapped_with q (from + n - 1) u.prot (u.each (from + n - 1) (omega (arith, s)) (omega (arith, s)))
