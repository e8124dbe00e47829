-- Notes in front of bytes, as they are read.
use Rattle.std.proofs.Common.{◌≡◌, inl, inr, ◌/◌, ◌%◌, ℕ, zero, suc, ◌+◌, ◌<◌, ◌≤◌, ◌-◌, Bool, true, false, not, ◌==◌, List, [], ◌∷◌, ◌++◌}
use Rattle.std.proofs.Common.{Some, None, length, get_or, take, drop, refl, sym, ap, subst, ◌∙◌, arith, drop-cons, length-drop}
use Rattle.std.specs.Prelude.{◌&&◌, ◌^◌}
use Rattle.std.specs.Fmt.{decimal, digit_glyph}
use Rattle.std.proofs.lemmas.Bool.{cases_lt}
use Rattle.std.proofs.lemmas.List.{take-append-drop, take_all, get_or-take, length-take-le}
use Rattle.av_base.specs.declared.slot.Slot.{Slot}
use Rattle.av_text.specs.Number.{IsNumberIn, IsWide}
use Rattle.av_text.specs.Word.{after}
use Rattle.av_text.proofs.WordLaws.{after-again, after-found}
use Rattle.av_trace.specs.Note.{slot_text}
use Rattle.std.proofs.lemmas.Bool.{eq-eqb}
use Rattle.av_text.proofs.NumberLaws.{glyph_low, halved, spell, spell-digit, spell-more, ten}
use Rattle.av_trace.proofs.PlainWords.{lacks-low, plain-slot}
use Rattle.av_trace.proofs.Split.{lacks-append, lacks-cons, lacks-from, lacks as has_none}
use Rattle.av_audit_judge.specs.Notes.{IsCut, IsNumbered, IsSlotLine, lacks}

none-some : {x : List ℕ} → None ≡ Some x → ⊥
none-some e = cc

inner : {x y : List ℕ} → Some x ≡ Some y → x ≡ y
inner e = cc

-- ---- a front is taken off

pub off-none : (front bytes : List ℕ) → None ≡ after front bytes → (rest : List ℕ) → bytes ≡ front ++ rest → ⊥
off-none front bytes e rest is = none-some (e ∙ ap (after front) is ∙ after-again front rest)

pub off-some : (front bytes rest : List ℕ) → Some rest ≡ after front bytes → bytes ≡ front ++ rest
off-some front bytes rest e = after-found front bytes rest (sym e)

-- ---- a cut

pub lacks-same : (c : ℕ) (bytes : List ℕ) → has_none c bytes ≡ lacks c bytes
lacks-same c [] = refl
lacks-same c (b ∷ bytes) = ap (λ x. not (b == c) && x) (lacks-same c bytes)

pub lacks-each : (c : ℕ) (bytes : List ℕ) → ((i : ℕ) → i < length bytes → get_or bytes i 0 ≡ c → ⊥) → lacks c bytes ≡ true
lacks-each c bytes h = sym (lacks-same c bytes) ∙ lacks-from c bytes h

pub cut-at : (c : ℕ) (bytes : List ℕ) (k : ℕ) → k < length bytes → get_or bytes k 0 ≡ c
    → ((j : ℕ) → j < k → get_or bytes j 0 ≡ c → ⊥)
    → IsCut c bytes (take k bytes) (take (length bytes - (k + 1)) (drop (k + 1) bytes))
cut-at c bytes k below is before = record {
  whole = sym (take-append-drop k bytes) ∙ ap (λ r. take k bytes ++ r) (drop-cons bytes k 0 below
      ∙ (λ i. is i ∷ rest i));
  alone = lacks-each c (take k bytes) (λ i less e. before i (inside i less)
      (sym (get_or-take k bytes i 0 (inside i less)) ∙ e));
}
  where
    inside : (i : ℕ) → i < length (take k bytes) → i < k
    inside i h = let e = length-take-le k bytes (omega (arith, below)) in omega (arith, h, e)

    all : length (drop (suc k) bytes) ≤ length bytes - (k + 1)
    all = let e = length-drop (suc k) bytes in omega (arith, e)

    rest : drop (suc k) bytes ≡ take (length bytes - (k + 1)) (drop (k + 1) bytes)
    rest = sym (take_all (length bytes - (k + 1)) (drop (suc k) bytes) all)
        ∙ ap (λ n. take (length bytes - (k + 1)) (drop n bytes)) (one k)
      where
        one : (k : ℕ) → suc k ≡ k + 1
        one k = omega arith

-- where the byte isn't, nothing is cut there
pub lacks-not : (c : ℕ) (a r : List ℕ) → lacks c (a ++ c ∷ r) ≡ true → ⊥
lacks-not c [] r h = by (c == c) refl (and_left (not (c == c)) (lacks c r) h)
  where
    and_left : (a b : Bool) → (a && b) ≡ true → a ≡ true
    and_left true b h = refl
    and_left false b h = cc

    by : (b : Bool) → (c == c) ≡ b → not b ≡ true → ⊥
    by true e h = cc
    by false e h = differ (sym e ∙ eq-eqb c c refl)
      where
        differ : false ≡ true → ⊥
        differ e = cc
lacks-not c (b ∷ a) r h = lacks-not c a r (and_right (not (b == c)) (lacks c (a ++ c ∷ r)) h)
  where
    and_right : (a b : Bool) → (a && b) ≡ true → b ≡ true
    and_right true b h = h
    and_right false b h = cc

tail-of : {n k : ℕ} {a b : List ℕ} → n ∷ a ≡ k ∷ b → a ≡ b
tail-of e = cc

head-of : {n k : ℕ} {a b : List ℕ} → n ∷ a ≡ k ∷ b → n ≡ k
head-of e = cc

-- the place of the first one is one
pub cut-one : (c : ℕ) (a b x y : List ℕ) → lacks c a ≡ true → lacks c b ≡ true → a ++ c ∷ x ≡ b ++ c ∷ y
    → (a ≡ b) × (x ≡ y)
cut-one c [] [] x y h g e = (refl, tail-of e)
cut-one c [] (d ∷ b) x y h g e = absurd (lacks-not c [] b (subst (λ n. lacks c (n ∷ b) ≡ true) (sym (head-of e)) g))
cut-one c (d ∷ a) [] x y h g e = absurd (lacks-not c [] a (subst (λ n. lacks c (n ∷ a) ≡ true) (head-of e) h))
cut-one c (d ∷ a) (k ∷ b) x y h g e =
    let rest = cut-one c a b x y (and_right (not (d == c)) (lacks c a) h) (and_right (not (k == c)) (lacks c b) g) (tail-of e) in
    let first : d ≡ k = head-of e in
    (λ i. first i ∷ rest.0 i, rest.1)
  where
    and_right : (a b : Bool) → (a && b) ≡ true → b ≡ true
    and_right true b h = h
    and_right false b h = cc

-- ---- a number on a line

wide : (c n bound : ℕ) → bound < 2 ^ 32 → n < bound → n < 2 ^ 64
wide c n bound h g = omega (arith, h, g)

pub digits-lack : (n : ℕ) → n < 2 ^ 64 → lacks 10 (decimal n) ≡ true
digits-lack n small = sym (lacks-same 10 (decimal n)) ∙ lacks-low 10 10 n ten (omega arith) small

pub number-no-line : (bound : ℕ) (bytes : List ℕ) → lacks 10 bytes ≡ true → IsNumbered bound bytes None
number-no-line bound bytes none n rest below is = lacks-not 10 (decimal n) rest (subst (λ t. lacks 10 t ≡ true) is none)

pub number-none : (bound : ℕ) (bytes word more : List ℕ) → 0 < bound → bound < 2 ^ 32 → IsCut 10 bytes word more
    → ((n : ℕ) → IsNumberIn 0 (bound - 1) n → word ≡ decimal n → ⊥) → IsNumbered bound bytes None
number-none bound bytes word more some small cut none n rest below is =
    none n (record { least = omega arith; most = omega (arith, below) })
    (cut-one 10 word (decimal n) more rest cut.alone (digits-lack n (omega (arith, below, small))) (sym cut.whole ∙ is)).0

pub number-some : (bound n : ℕ) (bytes word rest : List ℕ) → 0 < bound → IsCut 10 bytes word rest → word ≡ decimal n
    → IsNumberIn 0 (bound - 1) n → IsNumbered bound bytes (Some (n, rest))
number-some bound n bytes word rest some cut is fits = (
  (let m = fits.most in omega (arith, some, m)),
  cut.whole ∙ ap (λ w. w ++ 10 ∷ rest) is,
)

-- ---- a slot on a line

slot-lacks : (s : Slot) → s.area < 256 → s.page < 2 ^ 32 → lacks 10 (slot_text s) ≡ true
slot-lacks s small few = sym (lacks-same 10 (slot_text s))
    ∙ (plain-slot s (omega (arith, small), omega (arith, few))).newline

-- a decimal number has no byte above its digits
spell-lacks : (k c n : ℕ) → 57 < c → n < 2 ^ suc k → IsWide n → has_none c (spell 10 n) ≡ true
spell-lacks zero c n high h small =
    let lt : n < 10 = omega (arith, h) in
    ap (has_none c) (spell-digit 10 n ten lt) ∙ lacks-cons c (digit_glyph false n) [] (λ e. omega (arith, glyph_low n lt, high, e)) refl
spell-lacks (suc k) c n high h small =
    elim (cases_lt n 10) [
      | inl lt ↦ ap (has_none c) (spell-digit 10 n ten lt) ∙ lacks-cons c (digit_glyph false n) [] (λ e. omega (arith, glyph_low n lt, high, e)) refl
      | inr ge ↦
          let front = spell-lacks k c (n / 10) high (halved 10 (suc k) n ten h) (omega (arith, small)) in
          let lt : n % 10 < 10 = omega arith in
          let last = lacks-cons c (digit_glyph false (n % 10)) [] (λ e. omega (arith, glyph_low (n % 10) lt, high, e)) refl in
          ap (has_none c) (spell-more 10 n ten ge small) ∙ lacks-append c (spell 10 (n / 10)) (digit_glyph false (n % 10) ∷ []) front last
    ]

area-lacks : (n : ℕ) → n < 256 → lacks 58 (decimal n) ≡ true
area-lacks n small = sym (lacks-same 58 (decimal n)) ∙ spell-lacks 63 58 n (omega arith) (omega (arith, small)) (omega (arith, small))

pub slot-no-line : (bytes : List ℕ) → lacks 10 bytes ≡ true → IsSlotLine bytes None
slot-no-line bytes none s rest small few is = lacks-not 10 (slot_text s) rest (subst (λ t. lacks 10 t ≡ true) is none)

-- what is cut off is the slot's text
slot-first : (bytes word more rest : List ℕ) (s : Slot) → IsCut 10 bytes word more → s.area < 256 → s.page < 2 ^ 32
    → bytes ≡ slot_text s ++ 10 ∷ rest → word ≡ decimal s.area ++ 58 ∷ decimal s.page
slot-first bytes word more rest s cut small few is =
    (cut-one 10 word (slot_text s) more rest cut.alone (slot-lacks s small few) (sym cut.whole ∙ is)).0

pub slot-no-colon : (bytes word more : List ℕ) → IsCut 10 bytes word more → lacks 58 word ≡ true → IsSlotLine bytes None
slot-no-colon bytes word more cut none s rest small few is =
    lacks-not 58 (decimal s.area) (decimal s.page)
    (subst (λ t. lacks 58 t ≡ true) (slot-first bytes word more rest s cut small few is) none)

slot-both : (bytes word more rest first second : List ℕ) (s : Slot) → IsCut 10 bytes word more → IsCut 58 word first second
    → s.area < 256 → s.page < 2 ^ 32 → bytes ≡ slot_text s ++ 10 ∷ rest → (first ≡ decimal s.area) × (second ≡ decimal s.page)
slot-both bytes word more rest first second s cut at small few is =
    cut-one 58 first (decimal s.area) second (decimal s.page) at.alone (area-lacks s.area small)
    (sym at.whole ∙ slot-first bytes word more rest s cut small few is)

pub slot-no-area : (bytes word more first second : List ℕ) → IsCut 10 bytes word more → IsCut 58 word first second
    → ((n : ℕ) → IsNumberIn 0 255 n → first ≡ decimal n → ⊥) → IsSlotLine bytes None
slot-no-area bytes word more first second cut at none s rest small few is =
    none s.area (record { least = omega arith; most = omega (arith, small) })
    (slot-both bytes word more rest first second s cut at small few is).0

pub slot-no-page : (bytes word more first second : List ℕ) → IsCut 10 bytes word more → IsCut 58 word first second
    → ((n : ℕ) → IsNumberIn 0 (2 ^ 32 - 1) n → second ≡ decimal n → ⊥) → IsSlotLine bytes None
slot-no-page bytes word more first second cut at none s rest small few is =
    none s.page (record { least = omega arith; most = omega (arith, few) })
    (slot-both bytes word more rest first second s cut at small few is).1

pub slot-some : (bytes word rest first second : List ℕ) (s : Slot) → IsCut 10 bytes word rest → IsCut 58 word first second
    → first ≡ decimal s.area → second ≡ decimal s.page → IsSlotLine bytes (Some (s, rest))
slot-some bytes word rest first second s cut at a b =
    cut.whole ∙ ap (λ w. w ++ 10 ∷ rest) (at.whole ∙ (λ i. a i ++ 58 ∷ b i))
