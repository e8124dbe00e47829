-- The holes between what is taken, and an index of them.
use Rattle.std.proofs.Common.{◌≡◌, ℕ, zero, suc, ◌+◌, ◌-◌, ◌<◌, ◌≤◌, Bool, true, false, cond}
use Rattle.std.proofs.Common.{nat_lt, List, Option, Some, None, refl, sym, ap, subst, ◌∙◌, arith}
use Rattle.std.specs.Prelude.{Err, IfSome, MatchOption, Ok, OnOk, Result}
use Rattle.std.specs.Option.{SomeIff}
use Rattle.std.specs.Result.{result_ok}
use Rattle.std.specs.Ordering.{is_lt}
use Rattle.std.specs.declared.cmp.Ordering.TheVariants.{Less}
use Rattle.std.proofs.lemmas.Bool.Decides.{nat_tests}
use Rattle.av_base.specs.Keys.{key_cmp, same_key}
use Rattle.av_base.specs.Limits.{low_page, top_page}
use Rattle.av_base.proofs.Keys.{same_key-is, same_key-itself}
use Rattle.av_vma.specs.Gap.{IsGap, IsRoom}
use Rattle.av_audit_ranges.specs.Holes.{AreHoles, AreHolesBut, AllShorter, AreWithin, EndsAt, EndsBelow, Hole, IsHighest, IsHole, LiesIn, is_noted}
use Rattle.av_audit_ranges.proofs.MarksLaws.{lt-is, lt-not}

pub no-both : {b : Bool} → b ≡ true → b ≡ false → ⊥
no-both h g = cc

pub none-gives : {X A : Type 0} (B : X → Type 0) (o : Option X) → o ≡ None → A → MatchOption o A B
none-gives {X} {A} B o is a = subst (λ o. MatchOption o A B) (sym is) a

pub ok-holds : {A E P : Type 0} (r : Result A E) (x : A) → result_ok r ≡ Some x → OnOk r P → P
ok-holds (Ok y) x is h = h
ok-holds (Err e) x is h = cc

-- ---- each room lies in a hole

-- how far free pages go down
module _ (is_taken : ℕ → Bool) (end : ℕ) where
  pub record GoesDown (page start : ℕ) : Type 0 where
    pub low : low_page ≤ start
    pub most : start ≤ page
    pub free : (q : ℕ) → start ≤ q → q < end → is_taken q ≡ false
    pub below : EndsBelow is_taken start

  abbrev Down : ℕ → Type 0
  Down page = (start : ℕ) × GoesDown page start

  go-down : (page : ℕ) → low_page ≤ page → ((q : ℕ) → page ≤ q → q < end → is_taken q ≡ false) → Down page
  go-down zero low free = absurd (omega (arith, low))
  go-down (suc page) low free = by (nat_lt page low_page) (is_taken page) refl refl (go-down page)
    where
      each : is_taken page ≡ false → (q : ℕ) → page ≤ q → q < end → (d : Bool) → nat_lt page q ≡ d → is_taken q ≡ false
      each at q a b true more = (let l = lt-is page q more in free q (omega (arith, l)) b)
      each at q a b false more =
          let l = lt-not page q more in
          let here : page ≡ q = omega (arith, l, a) in
          subst (λ x. is_taken x ≡ false) here at

      by : (b c : Bool) → nat_lt page low_page ≡ b → is_taken page ≡ c
          → (low_page ≤ page → ((q : ℕ) → page ≤ q → q < end → is_taken q ≡ false) → Down page) → Down (suc page)
      by true c is at rest =
          let less = lt-is page low_page is in
          (suc page, record { low = low; most = omega arith; free = free; below = λ q a b. absurd (omega (arith, a, b, less)) })
      by false true is at rest = (
        suc page,
        record {
          low = low;
          most = omega arith;
          free = free;
          below = λ q a b. let here : page ≡ q = omega (arith, b) in subst (λ x. is_taken x ≡ true) here at;
        },
      )
      by false false is at rest =
          let r = rest (lt-not page low_page is) (λ q a b. each at q a b (nat_lt page q) refl) in
          let m = r.1.most in
          (r.0, record { low = r.1.low; most = omega (arith, m); free = r.1.free; below = r.1.below })

-- and up
module _ (is_taken : ℕ → Bool) (start : ℕ) where
  pub record GoesUp (page end : ℕ) : Type 0 where
    pub least : page ≤ end
    pub high : end ≤ top_page
    pub free : (q : ℕ) → start ≤ q → q < end → is_taken q ≡ false
    pub above : EndsAt is_taken end

  abbrev Up : ℕ → Type 0
  Up page = (end : ℕ) × GoesUp page end

  go-up : (k page : ℕ) → page + k ≡ top_page → ((q : ℕ) → start ≤ q → q < page → is_taken q ≡ false) → Up page
  go-up zero page is free =
      (page, record { least = omega arith; high = omega (arith, is); free = free; above = λ low. absurd (omega (arith, low, is)) })
  go-up (suc k) page is free = by (is_taken page) refl (go-up k (suc page) (omega (arith, is)))
    where
      each : is_taken page ≡ false → (q : ℕ) → start ≤ q → q < suc page → (d : Bool) → nat_lt q page ≡ d → is_taken q ≡ false
      each at q a b true less = free q a (lt-is q page less)
      each at q a b false less =
          let l = lt-not q page less in
          let here : page ≡ q = omega (arith, l, b) in
          subst (λ x. is_taken x ≡ false) here at

      by : (c : Bool) → is_taken page ≡ c → (((q : ℕ) → start ≤ q → q < suc page → is_taken q ≡ false) → Up (suc page)) → Up page
      by true at rest = (page, record { least = omega arith; high = omega (arith, is); free = free; above = λ low. at })
      by false at rest =
          let r = rest (λ q a b. each at q a b (nat_lt q page) refl) in
          let m = r.1.least in
          (r.0, record { least = omega (arith, m); high = r.1.high; free = r.1.free; above = r.1.above })

-- all of these pages lie in a hole
pub record HasOver (is_taken : ℕ → Bool) (n page : ℕ) : Type 0 where
  pub hole : Hole
  pub is : IsHole is_taken hole
  pub from : hole.1 ≤ page
  pub end : page + n ≤ hole.1 + hole.0

pub hole-over : (is_taken : ℕ → Bool) (n page : ℕ) → 0 < n → IsRoom is_taken n page → HasOver is_taken n page
hole-over is_taken n page some room =
    let down = go-down is_taken (page + n) page room.lowest room.free in
    let most = room.highest in
    let up = go-up is_taken down.0 (top_page - (page + n)) (page + n) (omega (arith, most)) down.1.free in
    let a = down.1.most in
    let b = up.1.least in
    let whole : down.0 + (up.0 - down.0) ≡ up.0 = omega (arith, a, b) in
    record {
      hole = (up.0 - down.0, down.0);
      is = record {
        some = omega (arith, some, a, b);
        room = record {
          lowest = down.1.low;
          highest = subst (λ x. x ≤ top_page) (sym whole) up.1.high;
          free = λ q low high. up.1.free q low (subst (λ x. q < x) whole high);
        };
        below = down.1.below;
        above = subst (EndsAt is_taken) (sym whole) up.1.above;
      };
      from = a;
      end = omega (arith, a, b, whole);
    }

-- ---- the gap

-- what the index says is the gap
pub gap-is : (is_taken : ℕ → Bool) (n : ℕ) (holes : List Hole) (page : Option ℕ) → 0 < n → AreHoles is_taken holes
    → MatchOption page (AllShorter holes n) (λ page. IsHighest holes n page) → IsGap is_taken n page
gap-is is_taken n holes None some are shorter = λ other room.
    let over = hole-over is_taken n other some room in
    let less = shorter over.hole (are.complete over.hole over.is) in
    let a = over.from in
    let b = over.end in
    omega (arith, less, a, b)
gap-is is_taken n holes (Some page) some are high =
    let last = high.last in
    let long = high.long in
    let hole = are.sound high.hole high.noted in
    let low = hole.room.lowest in
    let top = hole.room.highest in (
      record {
        lowest = omega (arith, last, long, low);
        highest = omega (arith, last, top);
        free = λ q a b. hole.room.free q (omega (arith, a, last, long)) (omega (arith, b, last));
      },
      λ other room.
          let over = hole-over is_taken n other some room in
          let a = over.from in
          let b = over.end in
          let least = high.highest over.hole (are.complete over.hole over.is) (omega (arith, a, b)) in
          omega (arith, b, least),
    )

pub gap-fits : (is_taken : ℕ → Bool) (n page : ℕ) (holes : List Hole) → AreHoles is_taken holes → IsHighest holes n page → page + n ≤ top_page
gap-fits is_taken n page holes are high =
    let last = high.last in
    let top = (are.sound high.hole high.noted).room.highest in
    omega (arith, last, top)

-- a hole of the index that has n pages ends here
pub record HasEnd (holes : List Hole) (n end : ℕ) : Type 0 where
  pub hole : Hole
  pub noted : is_noted holes hole ≡ true
  pub long : n ≤ hole.0
  pub last : end ≡ hole.1 + hole.0

-- once all that are long enough were passed
pub highest-is : (holes : List Hole) (n end fewer : ℕ) (page : Option ℕ) → SomeIff page (n ≤ end) (end - n) → AreWithin holes → 0 < n
    → ((other : Hole) → is_noted holes other ≡ true → fewer ≤ other.0 → other.1 + other.0 ≤ end)
    → ((other : Hole) → is_noted holes other ≡ true → other.0 < fewer → other.0 < n) → (0 < end → HasEnd holes n end)
    → MatchOption page (AllShorter holes n) (λ page. IsHighest holes n page)
highest-is holes n end fewer page some are least over short from = by page some
  where
    each : (other : Hole) → is_noted holes other ≡ true → n ≤ other.0 → (b : Bool) → nat_lt other.0 fewer ≡ b → other.1 + other.0 ≤ end
    each other noted long true less = (let small = short other noted (lt-is other.0 fewer less) in absurd (omega (arith, small, long)))
    each other noted long false less = over other noted (lt-not other.0 fewer less)

    shorter : (other : Hole) → is_noted holes other ≡ true → (b : Bool) → nat_lt other.0 n ≡ b → (n ≤ end → ⊥) → other.0 < n
    shorter other noted true less none = lt-is other.0 n less
    shorter other noted false less none =
        let long = lt-not other.0 n less in
        let high = each other noted long (nat_lt other.0 fewer) refl in
        absurd (none (omega (arith, long, high)))

    by : (page : Option ℕ) → SomeIff page (n ≤ end) (end - n) → MatchOption page (AllShorter holes n) (λ page. IsHighest holes n page)
    by None some = λ other noted. shorter other noted (nat_lt other.0 n) refl some
    by (Some page) some =
        let low = some.0 in
        let is = some.1 in
        let has = from (omega (arith, least, low)) in
        let last = has.last in
        record {
          hole = has.hole;
          noted = has.noted;
          long = has.long;
          last = omega (arith, is, low, last);
          highest = λ other noted long. let high = each other noted long (nat_lt other.0 fewer) refl in omega (arith, high, is, low);
        }

-- ---- by length, then by the first page

pub before-shorter : (hole : Hole) (n : ℕ) → hole.0 < n → key_cmp hole (n, 0) ≡ Less
before-shorter hole n less = grind (arith, nat_tests, less)

pub shorter-before : (hole : Hole) (n : ℕ) → key_cmp hole (n, 0) ≡ Less → hole.0 < n
shorter-before hole n less = grind (arith, nat_tests, less)

pub last-ends : (hole other : Hole) → is_lt (key_cmp hole other) ≡ false → hole.0 ≤ other.0 → other.1 + other.0 ≤ hole.1 + hole.0
last-ends hole other last low = grind (arith, nat_tests, last, low)

pub shorter-than : (hole other : Hole) (n : ℕ) → is_lt (key_cmp hole other) ≡ false → hole.0 < n → other.0 < n
shorter-than hole other n last less = grind (arith, nat_tests, last, less)

-- ---- holes side by side

-- two holes that share a page are one
pub one-hole : (is_taken : ℕ → Bool) (a b : Hole) (q : ℕ) → IsHole is_taken a → IsHole is_taken b
    → a.1 ≤ q → q < a.1 + a.0 → b.1 ≤ q → q < b.1 + b.0 → a ≡ b
one-hole is_taken a b q x y al ah bl bh =
    let starts = same-start (nat_lt a.1 b.1) (nat_lt b.1 a.1) refl refl in
    let ends = same-end (nat_lt (a.1 + a.0) (b.1 + b.0)) (nat_lt (b.1 + b.0) (a.1 + a.0)) refl refl in
    let lengths : a.0 ≡ b.0 = omega (arith, starts, ends) in
    λ i. (lengths i, starts i)
  where
    -- no hole begins within another, nor ends there
    starts-within : (c d : Hole) → IsHole is_taken c → IsHole is_taken d → q < c.1 + c.0 → d.1 ≤ q → c.1 < d.1 → ⊥
    starts-within c d x y ch dl less =
        let low = x.room.lowest in
        no-both (y.below (d.1 - 1) (omega (arith, low, less)) (omega (arith, less)))
        (x.room.free (d.1 - 1) (omega (arith, less)) (omega (arith, less, dl, ch)))

    ends-within : (c d : Hole) → IsHole is_taken c → IsHole is_taken d → c.1 ≤ q → q < d.1 + d.0 → d.1 + d.0 < c.1 + c.0 → ⊥
    ends-within c d x y cl dh less =
        let top = x.room.highest in
        no-both (y.above (omega (arith, top, less))) (x.room.free (d.1 + d.0) (omega (arith, cl, dh)) less)

    same-start : (s t : Bool) → nat_lt a.1 b.1 ≡ s → nat_lt b.1 a.1 ≡ t → a.1 ≡ b.1
    same-start true t is more = absurd (starts-within a b x y ah bl (lt-is a.1 b.1 is))
    same-start false true is more = absurd (starts-within b a y x bh al (lt-is b.1 a.1 more))
    same-start false false is more = (let l = lt-not a.1 b.1 is in let m = lt-not b.1 a.1 more in omega (arith, l, m))

    same-end : (s t : Bool) → nat_lt (a.1 + a.0) (b.1 + b.0) ≡ s → nat_lt (b.1 + b.0) (a.1 + a.0) ≡ t → a.1 + a.0 ≡ b.1 + b.0
    same-end true t is more = absurd (ends-within b a y x bl ah (lt-is (a.1 + a.0) (b.1 + b.0) is))
    same-end false true is more = absurd (ends-within a b x y al bh (lt-is (b.1 + b.0) (a.1 + a.0) more))
    same-end false false is more =
        let l = lt-not (a.1 + a.0) (b.1 + b.0) is in
        let m = lt-not (b.1 + b.0) (a.1 + a.0) more in
        omega (arith, l, m)

-- ---- piece by piece

-- the index with a hole or without it
abbrev pub Updates : Hole → Bool → List Hole → List Hole → Type 0
Updates hole b old new = (other : Hole) → is_noted new other ≡ cond (same_key hole other) b (is_noted old other)

-- each has pages still, and a process may have them
pub within-more : (hole : Hole) (old new : List Hole) → 0 < hole.0 → hole.1 + hole.0 ≤ top_page → Updates hole true old new
    → AreWithin old → AreWithin new
within-more hole old new some fits updates are other noted = by (same_key hole other) refl
  where
    by : (b : Bool) → same_key hole other ≡ b → (0 < other.0) × (other.1 + other.0 ≤ top_page)
    by true same = subst (λ (h : Hole). (0 < h.0) × (h.1 + h.0 ≤ top_page)) (same_key-is hole other same) (some, fits)
    by false same = are other (ap (λ b. cond b true (is_noted old other)) (sym same) ∙ sym (updates other) ∙ noted)

pub within-less : (hole : Hole) (old new : List Hole) → Updates hole false old new → AreWithin old → AreWithin new
within-less hole old new updates are other noted = by (same_key hole other) refl
  where
    by : (b : Bool) → same_key hole other ≡ b → (0 < other.0) × (other.1 + other.0 ≤ top_page)
    by true same = absurd (no-both noted (updates other ∙ ap (λ b. cond b false (is_noted old other)) same))
    by false same = are other (ap (λ b. cond b false (is_noted old other)) (sym same) ∙ sym (updates other) ∙ noted)

module _ (is_taken : ℕ → Bool) (at next : ℕ) (order : at < next) where
  -- a hole of the piece is taken out
  pub without-hole : (from : ℕ) (old new : List Hole) → from ≤ at → IsHole is_taken (next - at, at) → Updates (next - at, at) false old new
      → AreHolesBut is_taken from at old → AreHolesBut is_taken from next new
  without-hole from old new low here updates are = record {
    sound = λ k noted. are.sound k (was k noted (same_key (next - at, at) k) refl);
    outside = λ k noted lies. out k noted (are.sound k (was k noted (same_key (next - at, at) k) refl)) lies (nat_lt at (k.1 + k.0)) refl;
    complete = λ k is none. stays k is none (same_key (next - at, at) k) refl;
  }
    where
      was : (k : Hole) → is_noted new k ≡ true → (b : Bool) → same_key (next - at, at) k ≡ b → is_noted old k ≡ true
      was k noted true same = absurd (no-both noted (updates k ∙ ap (λ b. cond b false (is_noted old k)) same))
      was k noted false same = ap (λ b. cond b false (is_noted old k)) (sym same) ∙ sym (updates k) ∙ noted

      out : (k : Hole) → is_noted new k ≡ true → IsHole is_taken k → LiesIn from next k → (b : Bool) → nat_lt at (k.1 + k.0) ≡ b → ⊥
      out k noted is lies false high =
          are.outside k (was k noted (same_key (next - at, at) k) refl) (lies.0, lt-not at (k.1 + k.0) high)
      out k noted is lies true high =
          let more = lt-is at (k.1 + k.0) high in
          let some = is.some in
          let end = lies.1 in
          let same = one-hole is_taken (next - at, at) k (k.1 + k.0 - 1) here is (omega (arith, more)) (omega (arith, end, some, order))
          (omega (arith, some)) (omega (arith, some)) in
          no-both noted (updates k ∙ ap (λ b. cond b false (is_noted old k))
          (ap (same_key (next - at, at)) (sym same) ∙ same_key-itself (next - at, at)))

      stays : (k : Hole) → IsHole is_taken k → (LiesIn from next k → ⊥) → (b : Bool) → same_key (next - at, at) k ≡ b → is_noted new k ≡ true
      stays k is none true same =
          let e = same_key-is (next - at, at) k same in
          absurd (none (subst (LiesIn from next) e (low, omega (arith, order))))
      stays k is none false same =
          updates k ∙ ap (λ b. cond b false (is_noted old k)) same
          ∙ are.complete k is (λ lies. none (lies.0, (let end = lies.1 in omega (arith, end, order))))

  -- the piece has no hole
  pub without-none : (from : ℕ) (holes : List Hole) → ((q : ℕ) → at ≤ q → q < next → is_taken q ≡ true)
      → AreHolesBut is_taken from at holes → AreHolesBut is_taken from next holes
  without-none from holes taken are = record {
    sound = are.sound;
    outside = λ k noted lies. out k noted lies (nat_lt at (k.1 + k.0)) refl;
    complete = λ k is none. are.complete k is (λ lies. none (lies.0, (let end = lies.1 in omega (arith, end, order))));
  }
    where
      out : (k : Hole) → is_noted holes k ≡ true → LiesIn from next k → (b : Bool) → nat_lt at (k.1 + k.0) ≡ b → ⊥
      out k noted lies false high = are.outside k noted (lies.0, lt-not at (k.1 + k.0) high)
      out k noted lies true high =
          let more = lt-is at (k.1 + k.0) high in
          let is = are.sound k noted in
          let some = is.some in
          let end = lies.1 in
          no-both (taken (k.1 + k.0 - 1) (omega (arith, more)) (omega (arith, end, some)))
          (is.room.free (k.1 + k.0 - 1) (omega (arith, some)) (omega (arith, some)))

  -- a hole of the piece is put in
  pub with-hole : (end : ℕ) (old new : List Hole) → next ≤ end → IsHole is_taken (next - at, at) → Updates (next - at, at) true old new
      → AreHolesBut is_taken at end old → AreHolesBut is_taken next end new
  with-hole end old new high here updates are = record {
    sound = λ k noted. sound k noted (same_key (next - at, at) k) refl;
    outside = λ k noted lies. out k noted lies (same_key (next - at, at) k) refl;
    complete = λ k is none. all k is none (same_key (next - at, at) k) refl;
  }
    where
      was : (k : Hole) → is_noted new k ≡ true → same_key (next - at, at) k ≡ false → is_noted old k ≡ true
      was k noted same = ap (λ b. cond b true (is_noted old k)) (sym same) ∙ sym (updates k) ∙ noted

      sound : (k : Hole) → is_noted new k ≡ true → (b : Bool) → same_key (next - at, at) k ≡ b → IsHole is_taken k
      sound k noted true same = subst (IsHole is_taken) (same_key-is (next - at, at) k same) here
      sound k noted false same = are.sound k (was k noted same)

      out : (k : Hole) → is_noted new k ≡ true → LiesIn next end k → (b : Bool) → same_key (next - at, at) k ≡ b → ⊥
      out k noted lies true same =
          let start = ap (λ (h : Hole). h.1) (same_key-is (next - at, at) k same) in
          let low = lies.0 in
          omega (arith, start, low, order)
      out k noted lies false same = are.outside k (was k noted same) ((let low = lies.0 in omega (arith, low, order)), lies.1)

      other : (k : Hole) → IsHole is_taken k → (LiesIn next end k → ⊥) → same_key (next - at, at) k ≡ false → LiesIn at end k
          → (b : Bool) → nat_lt k.1 next ≡ b → ⊥
      other k is none same lies false less = none (lt-not k.1 next less, lies.1)
      other k is none same lies true less =
          let small = lt-is k.1 next less in
          let some = is.some in
          let e = one-hole is_taken (next - at, at) k k.1 here is lies.0 (omega (arith, small, order)) (omega arith) (omega (arith, some)) in
          no-both (ap (same_key (next - at, at)) (sym e) ∙ same_key-itself (next - at, at)) same

      all : (k : Hole) → IsHole is_taken k → (LiesIn next end k → ⊥) → (b : Bool) → same_key (next - at, at) k ≡ b → is_noted new k ≡ true
      all k is none true same = updates k ∙ ap (λ b. cond b true (is_noted old k)) same
      all k is none false same =
          updates k ∙ ap (λ b. cond b true (is_noted old k)) same
          ∙ are.complete k is (λ lies. other k is none same lies (nat_lt k.1 next) refl)

  -- the piece has no hole
  pub with-none : (end : ℕ) (holes : List Hole) → ((q : ℕ) → at ≤ q → q < next → is_taken q ≡ true)
      → AreHolesBut is_taken at end holes → AreHolesBut is_taken next end holes
  with-none end holes taken are = record {
    sound = are.sound;
    outside = λ k noted lies. are.outside k noted ((let low = lies.0 in omega (arith, low, order)), lies.1);
    complete = λ k is none. are.complete k is (λ lies. other k is none lies (nat_lt k.1 next) refl);
  }
    where
      other : (k : Hole) → IsHole is_taken k → (LiesIn next end k → ⊥) → LiesIn at end k → (b : Bool) → nat_lt k.1 next ≡ b → ⊥
      other k is none lies false less = none (lt-not k.1 next less, lies.1)
      other k is none lies true less =
          let some = is.some in
          no-both (taken k.1 lies.0 (lt-is k.1 next less)) (is.room.free k.1 (omega arith) (omega (arith, some)))

-- the holes but for those of no page are all
pub but-none : (is_taken : ℕ → Bool) (at : ℕ) (holes : List Hole) → AreHoles is_taken holes → AreHolesBut is_taken at at holes
but-none is_taken at holes are = record {
  sound = are.sound;
  outside = λ k noted lies.
      let some = (are.sound k noted).some in
      let low = lies.0 in
      let high = lies.1 in
      omega (arith, some, low, high);
  complete = λ k is none. are.complete k is;
}

pub all-holes : (is_taken : ℕ → Bool) (at : ℕ) (holes : List Hole) → AreHolesBut is_taken at at holes → AreHoles is_taken holes
all-holes is_taken at holes are = record {
  sound = are.sound;
  complete = λ k is. are.complete k is (λ lies.
      let some = is.some in
      let low = lies.0 in
      let high = lies.1 in
      omega (arith, some, low, high));
}

-- ---- what changes between two pages that no hole crosses

-- a hole elsewhere is one still
hole-kept : (one other : ℕ → Bool) (low high : ℕ) → EndsBelow one low → EndsAt one high
    → ((q : ℕ) → low_page ≤ q → q < low → other q ≡ one q) → ((q : ℕ) → high ≤ q → q < top_page → other q ≡ one q)
    → (k : Hole) → IsHole one k → (LiesIn low high k → ⊥) → IsHole other k
hole-kept one other low high below above same_low same_high k is none =
    by (nat_lt k.1 low) (nat_lt (k.1 + k.0) low) (nat_lt high k.1) (nat_lt high (k.1 + k.0)) refl refl refl refl
  where
    by : (b c d e : Bool) → nat_lt k.1 low ≡ b → nat_lt (k.1 + k.0) low ≡ c → nat_lt high k.1 ≡ d → nat_lt high (k.1 + k.0) ≡ e → IsHole other k
    by true true d e is_low ends is_high ends_high =
        let start = is.room.lowest in
        let top = is.room.highest in
        let less = lt-is k.1 low is_low in
        let end = lt-is (k.1 + k.0) low ends in
        record {
          some = is.some;
          room = record {
            lowest = start;
            highest = top;
            free = λ q a b. same_low q (omega (arith, a, start)) (omega (arith, b, end)) ∙ is.room.free q a b;
          };
          below = λ q a b. same_low q a (omega (arith, b, less)) ∙ is.below q a b;
          above = λ a. same_low (k.1 + k.0) (omega (arith, start)) end ∙ is.above a;
        }
    by true false d e is_low ends is_high ends_high =
        let start = is.room.lowest in
        let less = lt-is k.1 low is_low in
        let over = lt-not (k.1 + k.0) low ends in
        absurd (no-both (below (low - 1) (omega (arith, start, less)) (omega (arith, less)))
        (is.room.free (low - 1) (omega (arith, less)) (omega (arith, less, over))))
    by false c true e is_low ends is_high ends_high =
        let start = is.room.lowest in
        let top = is.room.highest in
        let begins = lt-is high k.1 is_high in
        record {
          some = is.some;
          room = record {
            lowest = start;
            highest = top;
            free = λ q a b. same_high q (omega (arith, a, begins)) (omega (arith, b, top)) ∙ is.room.free q a b;
          };
          below = λ q a b. same_high q (omega (arith, b, begins)) (omega (arith, b, top)) ∙ is.below q a b;
          above = λ a. same_high (k.1 + k.0) (omega (arith, begins)) a ∙ is.above a;
        }
    by false c false true is_low ends is_high ends_high =
        let top = is.room.highest in
        let small = lt-not high k.1 is_high in
        let less = lt-is high (k.1 + k.0) ends_high in
        absurd (no-both (above (omega (arith, less, top))) (is.room.free high small less))
    by false c false false is_low ends is_high ends_high =
        absurd (none (lt-not k.1 low is_low, lt-not high (k.1 + k.0) ends_high))

module _ (one other : ℕ → Bool) (low high : ℕ) (below : EndsBelow one low) (above : EndsAt one high)
    (same_low : (q : ℕ) → low_page ≤ q → q < low → other q ≡ one q) (same_high : (q : ℕ) → high ≤ q → q < top_page → other q ≡ one q) where
  pub ends-below : EndsBelow other low
  ends-below q a b = same_low q a (omega (arith, b)) ∙ below q a b

  pub ends-at : EndsAt other high
  ends-at less = same_high high (omega arith) less ∙ above less

  pub holes-kept : (holes : List Hole) → AreHolesBut one low high holes → AreHolesBut other low high holes
  holes-kept holes are = record {
    sound = λ k noted. hole-kept one other low high below above same_low same_high k (are.sound k noted) (are.outside k noted);
    outside = are.outside;
    complete = λ k is none.
        are.complete k (hole-kept other one low high ends-below ends-at (λ q a b. sym (same_low q a b)) (λ q a b. sym (same_high q a b)) k is none) none;
  }

  pub index-kept : (holes : Option (List Hole)) → IfSome holes (AreHolesBut one low high) → IfSome holes (AreHolesBut other low high)
  index-kept None are = tt
  index-kept (Some holes) are = holes-kept holes are

-- ---- where nothing is taken

abbrev whole : Hole
whole = (top_page - low_page, low_page)

whole-is : IsHole (λ page. false) whole
whole-is = record {
  some = omega arith;
  room = record { lowest = omega arith; highest = omega arith; free = λ q a b. refl };
  below = λ q a b. absurd (omega (arith, a, b));
  above = λ a. absurd (omega (arith, a));
}

pub one-is : (old new : List Hole) → ((hole : Hole) → is_noted old hole ≡ false) → Updates (top_page - low_page, low_page) true old new
    → AreHoles (λ page. false) new
one-is old new none updates = record {
  sound = λ k noted. sound k noted (same_key whole k) refl;
  complete = λ k is. updates k ∙ ap (λ b. cond b true (is_noted old k)) (only k is);
}
  where
    sound : (k : Hole) → is_noted new k ≡ true → (b : Bool) → same_key whole k ≡ b → IsHole (λ page. false) k
    sound k noted true same = subst (IsHole (λ page. false)) (same_key-is whole k same) whole-is
    sound k noted false same = absurd (no-both noted (updates k ∙ ap (λ b. cond b true (is_noted old k)) same ∙ none k))

    only : (k : Hole) → IsHole (λ page. false) k → same_key whole k ≡ true
    only k is =
        let low = is.room.lowest in
        let high = is.room.highest in
        let some = is.some in
        let e = one-hole (λ page. false) whole k k.1 whole-is is (omega (arith, low)) (omega (arith, high, some)) (omega arith) (omega (arith, some)) in
        ap (same_key whole) (sym e) ∙ same_key-itself whole

-- an index of the holes between the same pages
pub index-same : (one other : ℕ → Bool) (holes : Option (List Hole)) → ((q : ℕ) → one q ≡ other q) → IfSome holes (AreHoles one)
    → IfSome holes (AreHoles other)
index-same one other holes same are = subst (λ t. IfSome holes (AreHoles t)) (λ i q. same q i) are
