-- Laws of ranges of a process's pages: whether one is mapped, how many are before the first that isn't, and whether there is room.
use Rattle.std.proofs.Common.{◌≡◌, ◌⊎◌, inl, inr, ℕ, zero, suc, ◌+◌, ◌<◌, ◌≤◌, Bool, true, false, cond, not, ◌&&◌, ◌||◌, nat_le, nat_lt, ◌==◌, refl, sym, ap, ◌∙◌, arith, [], Option, Some, None, is_some}
use Rattle.std.proofs.lemmas.Bool.Decides.{nat_tests}
use Rattle.std.proofs.lemmas.Bool.{false≢true}
use Rattle.av_base.specs.Limits.{low_page, top_page}
use Rattle.av_vma.specs.Gap.{IsRoom}
use Rattle.av_base.specs.Words.{within}
use Rattle.av_plain.specs.World.{World, Process, pages, is_mapped, meets, pages_to_hole}
use Rattle.av_plain.specs.Ledger.{Ledger, Entry, entry}
use Rattle.av_plain.specs.Zap.{keys_in}
use Rattle.av_plain.specs.Place.{is_room}
use Rattle.av_plain.specs.Sound.{AtPages}
use Rattle.av_plain.proofs.Zap.{range-empty}

-- ---- whether a page of a range is mapped

-- the first page, or a later one
at_first_or_later : (from n q : ℕ) → from ≤ q → q < from + suc n → (q ≡ from) ⊎ ((from + 1 ≤ q) × (q < from + 1 + n))
at_first_or_later from n q low high = by (q == from) refl
  where
    by : (b : Bool) → (q == from) ≡ b → (q ≡ from) ⊎ ((from + 1 ≤ q) × (q < from + 1 + n))
    by true e = inl (grind (arith, nat_tests, e))
    by false e = inr ((grind (arith, nat_tests, e, low)), omega (arith, high))

-- none is: each is free
pub meets-none : (q : Process) (from n page : ℕ) → meets q from n ≡ false → from ≤ page → page < from + n → is_mapped q page ≡ false
meets-none q from zero page none low high = absurd (omega (arith, low, high))
meets-none q from (suc n) page none low high = by (at_first_or_later from n page low high)
    (meets-none q (from + 1) n page (later (is_mapped q from) (meets q (from + 1) n) none))
  where
    first : (a b : Bool) → (a || b) ≡ false → a ≡ false
    first true b h = h
    first false b h = refl

    later : (a b : Bool) → (a || b) ≡ false → b ≡ false
    later true b h = cc
    later false b h = h

    by : (page ≡ from) ⊎ ((from + 1 ≤ page) × (page < from + 1 + n)) → (from + 1 ≤ page → page < from + 1 + n → is_mapped q page ≡ false) →
        is_mapped q page ≡ false
    by (inl e) rest = ap (is_mapped q) e ∙ first (is_mapped q from) (meets q (from + 1) n) none
    by (inr h) rest = rest h.0 h.1

pub none-meets : (q : Process) (from n : ℕ) → ((page : ℕ) → from ≤ page → page < from + n → is_mapped q page ≡ false) → meets q from n ≡ false
none-meets q from zero free = refl
none-meets q from (suc n) free =
    ap (λ b. b || meets q (from + 1) n) (free from (omega arith) (omega arith))
    ∙ none-meets q (from + 1) n (λ page low high. free page (omega (arith, low)) (omega (arith, high)))

-- a page among those of a range that is mapped
pub record IsMet (q : Process) (from n page : ℕ) : Type 0 where
  pub lowest : from ≤ page
  pub highest : page < from + n
  pub mapped : is_mapped q page ≡ true

-- one is
pub meets-some : (q : Process) (from n : ℕ) → meets q from n ≡ true → (page : ℕ) × IsMet q from n page
meets-some q from zero some = cc
meets-some q from (suc n) some = by (is_mapped q from) refl some (meets-some q (from + 1) n)
  where
    widened : (page : ℕ) → IsMet q (from + 1) n page → IsMet q from (suc n) page
    widened page h = record
        { lowest = (let low = h.lowest in omega (arith, low)); highest = (let high = h.highest in omega (arith, high)); mapped = h.mapped }

    by : (b : Bool) → is_mapped q from ≡ b → (b || meets q (from + 1) n) ≡ true
        → (meets q (from + 1) n ≡ true → (page : ℕ) × IsMet q (from + 1) n page) →
        (page : ℕ) × IsMet q from (suc n) page
    by true e h rest = (from, record { lowest = omega arith; highest = omega arith; mapped = e })
    by false e h rest = let met = rest h in (met.0, widened met.0 met.1)

pub some-meets : (q : Process) (from n page : ℕ) → IsMet q from n page → meets q from n ≡ true
some-meets q from n page met = by (meets q from n) refl
  where
    by : (b : Bool) → meets q from n ≡ b → b ≡ true
    by true e = refl
    by false e = sym (meets-none q from n page e met.lowest met.highest) ∙ met.mapped

-- ---- how many are mapped before the first that isn't

pub pages_to_hole-most : (q : Process) (from n : ℕ) → pages_to_hole q from n ≤ n
pages_to_hole-most q from zero = omega arith
pages_to_hole-most q from (suc n) = elim (is_mapped q from) as (λ b. cond b (pages_to_hole q (from + 1) n + 1) 0 ≤ suc n) [
  | true ↦ let h = pages_to_hole-most q (from + 1) n in omega (arith, h)
  | false ↦ omega arith
]

-- those before it are mapped
pub pages_to_hole-mapped : (q : Process) (from n page : ℕ) → from ≤ page → page < from + pages_to_hole q from n → is_mapped q page ≡ true
pages_to_hole-mapped q from zero page low high = absurd (omega (arith, low, high))
pages_to_hole-mapped q from (suc n) page low high = by (is_mapped q from) refl high (pages_to_hole-mapped q (from + 1) n page)
  where
    by : (b : Bool) → is_mapped q from ≡ b → page < from + cond b (pages_to_hole q (from + 1) n + 1) 0 →
        (from + 1 ≤ page → page < from + 1 + pages_to_hole q (from + 1) n → is_mapped q page ≡ true) → is_mapped q page ≡ true
    by false e h rest = absurd (omega (arith, low, h))
    by true e h rest = at (at_first_or_later from (pages_to_hole q (from + 1) n) page low (omega (arith, h)))
      where
        at : (page ≡ from) ⊎ ((from + 1 ≤ page) × (page < from + 1 + pages_to_hole q (from + 1) n)) → is_mapped q page ≡ true
        at (inl same) = ap (is_mapped q) same ∙ e
        at (inr more) = rest more.0 more.1

-- and it isn't, where it is one of the n
pub pages_to_hole-hole : (q : Process) (from n : ℕ) → pages_to_hole q from n < n → is_mapped q (from + pages_to_hole q from n) ≡ false
pages_to_hole-hole q from zero short = absurd (omega (arith, short))
pages_to_hole-hole q from (suc n) short = by (is_mapped q from) refl short (pages_to_hole-hole q (from + 1) n)
  where
    by : (b : Bool) → is_mapped q from ≡ b → cond b (pages_to_hole q (from + 1) n + 1) 0 < suc n →
        (pages_to_hole q (from + 1) n < n → is_mapped q (from + 1 + pages_to_hole q (from + 1) n) ≡ false)
        → is_mapped q (from + cond b (pages_to_hole q (from + 1) n + 1) 0) ≡ false
    by false e h rest = ap (is_mapped q) (let same : from + 0 ≡ from = omega arith in same) ∙ e
    by true e h rest = ap (is_mapped q)
        (let same : from + (pages_to_hole q (from + 1) n + 1) ≡ from + 1 + pages_to_hole q (from + 1) n = omega arith in
        same) ∙ rest (omega (arith, h))

-- so many pages of n are mapped, and then there are no more, or one that isn't
pub record IsLeading (q : Process) (from n k : ℕ) : Type 0 where
  pub most : k ≤ n
  pub mapped : (page : ℕ) → from ≤ page → page < from + k → is_mapped q page ≡ true
  pub ends : k < n → is_mapped q (from + k) ≡ false

pub pages_to_hole-is : (q : Process) (from n : ℕ) → IsLeading q from n (pages_to_hole q from n)
pages_to_hole-is q from n = record { most = pages_to_hole-most q from n; mapped = pages_to_hole-mapped q from n; ends = pages_to_hole-hole q from n }

-- that determines it
pub is-pages_to_hole : (q : Process) (from n k : ℕ) → IsLeading q from n k → pages_to_hole q from n ≡ k
is-pages_to_hole q from n k h = by (nat_lt (pages_to_hole q from n) k) (nat_lt k (pages_to_hole q from n)) refl refl
  where
    clash : (page : ℕ) → is_mapped q page ≡ true → is_mapped q page ≡ false → ⊥
    clash page some none = false≢true (sym none ∙ some)

    by : (a b : Bool) → nat_lt (pages_to_hole q from n) k ≡ a → nat_lt k (pages_to_hole q from n) ≡ b → pages_to_hole q from n ≡ k
    by true b e f =
        let less : pages_to_hole q from n < k = grind (arith, nat_tests, e) in
        let top = h.most in
        absurd (clash (from + pages_to_hole q from n) (h.mapped (from + pages_to_hole q from n) (omega arith) (omega (arith, less)))
        (pages_to_hole-hole q from n (omega (arith, less, top))))
    by false true e f =
        let less : k < pages_to_hole q from n = grind (arith, nat_tests, f) in
        let top = pages_to_hole-most q from n in
        absurd (clash (from + k) (pages_to_hole-mapped q from n (from + k) (omega arith) (omega (arith, less))) (h.ends (omega (arith, less, top))))
    by false false e f = grind (arith, nat_tests, e, f)

-- all n are mapped
pub all-pages_to_hole : (q : Process) (from n : ℕ) → ((page : ℕ) → from ≤ page → page < from + n → is_mapped q page ≡ true)
    → pages_to_hole q from n ≡ n
all-pages_to_hole q from n mapped =
    is-pages_to_hole q from n n (record { most = omega arith; mapped = mapped; ends = λ less. absurd (omega (arith, less)) })

-- ---- whether there is room

split : (a b c : Bool) → (a && b && not c) ≡ true → (a ≡ true) × (b ≡ true) × (c ≡ false)
split true true false h = (refl, refl, refl)
split true true true h = cc
split true false c h = cc
split false b c h = cc

pub room-is : (q : Process) (n page : ℕ) → is_room q n page ≡ true → IsRoom (is_mapped q) n page
room-is q n page h =
    let parts = split (nat_le low_page page) (nat_le (page + n) top_page) (meets q page n) h in
    record {
      lowest = grind (arith, nat_tests, parts.0);
      highest = grind (arith, nat_tests, parts.1);
      free = λ other low high. meets-none q page n other parts.2 low high;
    }

pub is-room : (q : Process) (n page : ℕ) → IsRoom (is_mapped q) n page → is_room q n page ≡ true
is-room q n page room =
    let low : nat_le low_page page ≡ true = let h = room.lowest in grind (arith, nat_tests, h) in
    let high : nat_le (page + n) top_page ≡ true = let h = room.highest in grind (arith, nat_tests, h) in
    λ i. low i && high i && not (none-meets q page n room.free i)

pub no_room-is : (q : Process) (n page : ℕ) → is_room q n page ≡ false → IsRoom (is_mapped q) n page → ⊥
no_room-is q n page h room = false≢true (sym h ∙ is-room q n page room)

pub is-no_room : (q : Process) (n page : ℕ) → (IsRoom (is_mapped q) n page → ⊥) → is_room q n page ≡ false
is-no_room q n page never = by (is_room q n page) refl
  where
    by : (b : Bool) → is_room q n page ≡ b → b ≡ false
    by true e = absurd (never (room-is q n page e))
    by false e = refl

-- ---- a range that is not mapped has no entries

pub unmapped-none : (w : World) (l : Ledger) (p from n page : ℕ) → AtPages w l → meets (pages w p) from n ≡ false →
    within from n page ≡ true → entry l (p, page) ≡ None
unmapped-none w l p from n page at free inside =
    let low : from ≤ page = grind (arith, nat_tests, inside) in
    let high : page < from + n = grind (arith, nat_tests, inside) in
    by (entry l (p, page)) refl (meets-none (pages w p) from n page free low high)
  where
    by : (o : Option Entry) → entry l (p, page) ≡ o → is_mapped (pages w p) page ≡ false → entry l (p, page) ≡ None
    by None is free = is
    by (Some e) is free = absurd (false≢true (sym free ∙ at p page (ap is_some is)))

pub unmapped-keys : (w : World) (l : Ledger) (p from n : ℕ) → AtPages w l → meets (pages w p) from n ≡ false → keys_in l p from n ≡ []
unmapped-keys w l p from n at free = range-empty l p from n (λ page inside. unmapped-none w l p from n page at free inside)
