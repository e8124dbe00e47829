-- Numbers in digits: what is read is spelled so, and what is spelled is read.
use Rattle.std.proofs.Common.{◌≡◌, ℕ, zero, suc, not, ◌+◌, ◌*◌, ◌/◌, ◌-◌, ◌%◌, ◌^◌, ◌<◌, ◌≤◌, Bool, true, false, eqb, leb, ltb, List, [], ◌∷◌, ◌++◌, length, get_or, take, drop, Option, Some, None, refl, sym, ap, subst, ◌∙◌, append_assoc, append-nil, add-one, arith, inl, inr, lit<}
use Rattle.std.specs.Prelude.{◌&&◌, ◌||◌}
use Rattle.std.specs.Fmt.{decimal, digits, digits_onto, digit_glyph}
use Rattle.std.proofs.Math.Nat.{mul-le-mul_left, pow-le-pow_right, pow-suc}
use Rattle.std.proofs.lemmas.Fmt.{decimal_digit, decimal_step}
use Rattle.std.proofs.lemmas.List.{take_all}
use Rattle.std.proofs.lemmas.Bool.{cases_Bool, cases_eq, cases_lt, cond-true, cond-false, eqb-true, eq-eqb, ne_eqb, and_parts, and_from, leb-true, le-leb, lt-leb, lt-ltb, le-ltb, ltb-true}
use Rattle.std.proofs.lemmas.Option.{cond_some, same_Some}
use Rattle.av_text.specs.Hex.{hex}
use Rattle.av_text.specs.Number.{IsNumberIn, IsProcess, IsWide, worth, is_digit, starts_number, digits_from, number_from, number_at, decimal_at, process_at, len_at, address_at, entry_at}
use Rattle.av_text.specs.Word.{field, ◌>>=◌, after}
use Rattle.av_text.proofs.WordLaws.{bind_some, cond_found, after-found, after-again, IsRest, words_onto, Reads, reads_both}

-- ---- bases

-- what is asked of a base: quotient and remainder of a number with one more digit
pub record IsBase (base : ℕ) : Type 0 where
  pub most : base ≤ 16
  pub some : 2 ≤ base
  pub half : (n : ℕ) → n / base * 2 ≤ n
  pub none : (n : ℕ) → n < base → n / base ≡ 0
  pub left : (n : ℕ) → base ≤ n → 0 < n / base
  pub low : (n : ℕ) → n < base → n % base ≡ n
  pub small : (n : ℕ) → n % base < base
  pub whole : (n : ℕ) → n / base * base + n % base ≡ n
  pub front : (n d : ℕ) → d < base → (n * base + d) / base ≡ n
  pub last : (n d : ℕ) → d < base → (n * base + d) % base ≡ d
  pub large : (n d : ℕ) → 0 < n → base ≤ n * base + d

pub ten : IsBase 10
ten = record {
  most = omega arith;
  some = omega arith;
  half = λ n. omega arith;
  none = λ n h. omega arith;
  left = λ n h. omega arith;
  low = λ n h. omega arith;
  small = λ n. omega arith;
  whole = λ n. omega arith;
  front = λ n d h. omega arith;
  last = λ n d h. omega arith;
  large = λ n d h. omega arith;
}

pub sixteen : IsBase 16
sixteen = record {
  most = omega arith;
  some = omega arith;
  half = λ n. omega arith;
  none = λ n h. omega arith;
  left = λ n h. omega arith;
  low = λ n h. omega arith;
  small = λ n. omega arith;
  whole = λ n. omega arith;
  front = λ n d h. omega arith;
  last = λ n d h. omega arith;
  large = λ n d h. omega arith;
}

-- ---- digits

pub glyph_low : (d : ℕ) → d < 10 → digit_glyph false d ≡ 48 + d
glyph_low d h = cond-true _ _ _ (lt-ltb _ _ h)

glyph_high : (d : ℕ) → 10 ≤ d → digit_glyph false d ≡ 87 + d
glyph_high d h = cond-false _ _ _ (le-ltb _ _ h)

pub glyph_printed : (d : ℕ) → 48 ≤ digit_glyph false d
glyph_printed d =
    elim (cases_lt d 10) [
      | inl lt ↦ let g = glyph_low d lt in omega (arith, g)
      | inr ge ↦ let g = glyph_high d ge in omega (arith, g)
    ]

-- the glyph of 0 alone is `0`
glyph_zero : (d : ℕ) → digit_glyph false d ≡ 48 → d ≡ 0
glyph_zero d e =
    elim (cases_lt d 10) [
      | inl lt ↦ let g = glyph_low d lt in omega (arith, e, g)
      | inr ge ↦ let g = glyph_high d ge in omega (arith, e, g)
    ]

-- a digit is the glyph of its worth
pub worth-found : (c : ℕ) → worth c < 16 → digit_glyph false (worth c) ≡ c
unfolding worth
worth-found c small =
    elim (cases_Bool (leb 48 c && leb c 57)) [
      | inl t ↦
          let b = and_parts (leb 48 c) (leb c 57) t in
          let low = leb-true 48 c b.0 in
          let high = leb-true c 57 b.1 in
          rw t (glyph_low (c - 48) (omega arith) ∙ omega arith)
      | inr f ↦
          elim (cases_Bool (leb 97 c && leb c 102)) [
            | inl t ↦
                let b = and_parts (leb 97 c) (leb c 102) t in
                let low = leb-true 97 c b.0 in
                let high = leb-true c 102 b.1 in
                rw (f, t) (glyph_high (c - 87) (omega arith) ∙ omega arith)
            | inr g ↦ let bad = rw (f, g) at small in absurd (omega arith)
          ]
    ]

pub worth-again : (d : ℕ) → d < 16 → worth (digit_glyph false d) ≡ d
unfolding worth
worth-again d small =
    elim (cases_lt d 10) [
      | inl lt ↦
          let from : leb 48 (48 + d) ≡ true = le-leb _ _ (omega arith) in
          let to : leb (48 + d) 57 ≡ true = le-leb _ _ (omega arith) in
          let value : 48 + d - 48 ≡ d = omega arith in
          rw (glyph_low d lt) (cond-true (leb 48 (48 + d) && leb (48 + d) 57) _ _ (and_from _ _ from to) ∙ value)
      | inr ge ↦
          let past : leb (87 + d) 57 ≡ false = lt-leb _ _ (omega arith) in
          let above : leb 48 (87 + d) ≡ true = le-leb _ _ (omega arith) in
          let from : leb 97 (87 + d) ≡ true = le-leb _ _ (omega arith) in
          let to : leb (87 + d) 102 ≡ true = le-leb _ _ (omega arith) in
          let value : 87 + d - 87 ≡ d = omega arith in
          rw (glyph_high d ge, above, past, from, to) value
    ]

space_worth : worth 32 ≡ 255
unfolding worth
space_worth = refl

-- ---- spelling

abbrev pub spell : ℕ → ℕ → List ℕ
spell base n = digits base false n

abbrev glyph : ℕ → ℕ → ℕ
glyph base n = digit_glyph false (n % base)

abbrev onto : ℕ → ℕ → ℕ → List ℕ → List ℕ
onto base k n acc = digits_onto k base false n acc

-- the last digit, and those before it
onto-last : (base k n : ℕ) (acc : List ℕ) → n / base ≡ 0 → onto base (suc k) n acc ≡ glyph base n ∷ acc
onto-last base k n acc e = cond-true _ _ _ (eq-eqb _ _ e)

onto-more : (base k n : ℕ) (acc : List ℕ) → (n / base ≡ 0 → ⊥) → onto base (suc k) n acc ≡ onto base k (n / base) (glyph base n ∷ acc)
onto-more base k n acc ne = cond-false _ _ _ (ne_eqb _ _ ne)

onto-append : (base k n : ℕ) (acc : List ℕ) → onto base k n acc ≡ onto base k n [] ++ acc
onto-append base zero n acc = refl
onto-append base (suc k) n acc =
    elim (cases_eq (n / base) 0) [
      | inl z ↦ onto-last base k n acc z ∙ ap (λ (t : List ℕ). t ++ acc) (sym (onto-last base k n [] z))
      | inr z ↦
          onto-more base k n acc z ∙ onto-append base k (n / base) (glyph base n ∷ acc)
          ∙ sym (append_assoc (onto base k (n / base) []) (glyph base n ∷ []) acc)
          ∙ ap (λ (t : List ℕ). t ++ acc) (sym (onto-more base k n [] z ∙ onto-append base k (n / base) (glyph base n ∷ [])))
    ]

pub halved : (base k n : ℕ) → IsBase base → n < 2 ^ suc k → n / base < 2 ^ k
halved base k n b h = omega (arith, pow-suc 2 k, b.half n)

-- more steps than digits change nothing
onto-fuel : (base j k n : ℕ) → IsBase base → n < 2 ^ suc j → n < 2 ^ suc k → onto base (suc j) n [] ≡ onto base (suc k) n []
onto-fuel base zero k n b p q = let z : n / base ≡ 0 = omega (arith, b.half n) in onto-last base zero n [] z ∙ sym (onto-last base k n [] z)
onto-fuel base (suc j) zero n b p q = let z : n / base ≡ 0 = omega (arith, b.half n) in onto-last base (suc j) n [] z
    ∙ sym (onto-last base zero n [] z)
onto-fuel base (suc j) (suc k) n b p q =
    elim (cases_eq (n / base) 0) [
      | inl z ↦ onto-last base (suc j) n [] z ∙ sym (onto-last base (suc k) n [] z)
      | inr z ↦
          let front = onto-fuel base j k (n / base) b (halved base (suc j) n b p) (halved base (suc k) n b q) in
          onto-more base (suc j) n [] z ∙ onto-append base (suc j) (n / base) (glyph base n ∷ []) ∙ ap (λ (t : List ℕ). t ++ glyph base n ∷ []) front
          ∙ sym (onto-more base (suc k) n [] z ∙ onto-append base (suc k) (n / base) (glyph base n ∷ []))
    ]

pub spell-digit : (base n : ℕ) → IsBase base → n < base → spell base n ≡ digit_glyph false n ∷ []
unfolding digits
spell-digit base n b h =
    onto-last base 63 n [] (b.none n h) ∙ ap (λ (m : ℕ). digit_glyph false m ∷ []) (b.low n h)

pub spell-more : (base n : ℕ) → IsBase base → base ≤ n → n < 2 ^ 64 → spell base n ≡ spell base (n / base) ++ glyph base n ∷ []
unfolding digits
spell-more base n b large small =
    onto-more base 63 n [] (λ z. omega (arith, b.left n large)) ∙ onto-append base 63 (n / base) (glyph base n ∷ [])
    ∙ ap (λ (t : List ℕ). t ++ glyph base n ∷ []) (onto-fuel base 62 63 (n / base) b (omega (arith, b.half n)) (omega (arith, b.half n)))

-- one more digit
spell-push : (base n c : ℕ) → IsBase base → 0 < n → worth c < base → n * base + worth c < 2 ^ 64
    → spell base (n * base + worth c) ≡ spell base n ++ c ∷ []
spell-push base n c b some digit small =
    let front = b.front n (worth c) digit in
    let last : glyph base (n * base + worth c) ≡ c = ap (digit_glyph false) (b.last n (worth c) digit) ∙ worth-found c (omega (arith, b.most)) in
    spell-more base (n * base + worth c) b (b.large n (worth c) some) small ∙ (λ i. spell base (front i) ++ (last i ∷ []))

-- ---- what is read

abbrev IsSpelled : ℕ → List ℕ → ℕ × List ℕ → Type 0
IsSpelled base text x = (text ≡ spell base x.0 ++ x.1) × IsWide x.0

digits_from-found : (base n : ℕ) (bytes : List ℕ) (x : ℕ × List ℕ) → IsBase base → 0 < n → IsWide n → digits_from base n bytes ≡ Some x →
    IsSpelled base (spell base n ++ bytes) x
unfolding digits_from
digits_from-found base n [] x b some small e = subst (IsSpelled base (spell base n ++ [])) (same_Some _ _ e) (refl, small)
digits_from-found base n (c ∷ bytes) x b some small e =
    elim (cases_Bool (is_digit base c)) [
      | inl t ↦
          let p = cond_found (ltb (n * base + worth c) (2 ^ 64)) (digits_from base (n * base + worth c) bytes) x (sym (cond-true _ _ _ t) ∙ e) in
          let fits = ltb-true (n * base + worth c) (2 ^ 64) p.0 in
          let digit = ltb-true (worth c) base t in
          let next = digits_from-found base (n * base + worth c) bytes x b (omega (arith, b.large n (worth c) some, b.some)) fits p.1 in
          let push = spell-push base n c b some digit fits in
          (sym (append_assoc (spell base n) (c ∷ []) bytes) ∙ ap (λ (t : List ℕ). t ++ bytes) (sym push) ∙ next.0, next.1)
      | inr f ↦ subst (IsSpelled base (spell base n ++ c ∷ bytes)) (same_Some _ _ (sym (cond-false _ _ _ f) ∙ e)) (refl, small)
    ]

-- the first digit
digits_from-first : (base c : ℕ) (bytes : List ℕ) (x : ℕ × List ℕ) → IsBase base → is_digit base c ≡ true → digits_from base 0 (c ∷ bytes) ≡ Some x →
    digits_from base (worth c) bytes ≡ Some x
unfolding digits_from
digits_from-first base c bytes x b t e =
    let p = cond_found (ltb (0 * base + worth c) (2 ^ 64)) (digits_from base (0 * base + worth c) bytes) x (sym (cond-true _ _ _ t) ∙ e) in
    let same : 0 * base + worth c ≡ worth c = omega arith in
    subst (λ (n : ℕ). digits_from base n bytes ≡ Some x) same p.1

from_first : (base c : ℕ) (bytes : List ℕ) (x : ℕ × List ℕ) → IsBase base → is_digit base c ≡ true →
    (worth c ≡ 0 → digits_from base 0 bytes ≡ Some (0, bytes)) →
    digits_from base 0 (c ∷ bytes) ≡ Some x → IsSpelled base (c ∷ bytes) x
from_first base c bytes x b t alone e =
    let digit = ltb-true (worth c) base t in
    let next = digits_from-first base c bytes x b t e in
    let spelled : spell base (worth c) ++ bytes ≡ c ∷ bytes =
    ap (λ (s : List ℕ). s ++ bytes) (spell-digit base (worth c) b digit) ∙ ap (λ (d : ℕ). d ∷ bytes) (worth-found c (omega (arith, b.most))) in
    elim (cases_eq (worth c) 0) [
      | inl z ↦
          let same : (0, bytes) ≡ x = same_Some _ _ (sym (alone z) ∙ subst (λ (n : ℕ). digits_from base n bytes ≡ Some x) z next) in
          let zero_spelled : spell base 0 ++ bytes ≡ c ∷ bytes = subst (λ (n : ℕ). spell base n ++ bytes ≡ c ∷ bytes) z spelled in
          subst (IsSpelled base (c ∷ bytes)) same (sym zero_spelled, omega arith)
      | inr ne ↦ let rest = digits_from-found base (worth c) bytes x b (omega arith) (omega (arith, b.most)) next in (sym spelled ∙ rest.0, rest.1)
    ]

no_digit : (base n d : ℕ) (bytes : List ℕ) → is_digit base d ≡ false → digits_from base n (d ∷ bytes) ≡ Some (n, d ∷ bytes)
unfolding digits_from
no_digit base n d bytes f = cond-false _ _ _ f

no_bytes : (base n : ℕ) → digits_from base n [] ≡ Some (n, [])
unfolding digits_from
no_bytes base n = refl

-- a worth of 0 is that of `0`
zero_is : (c : ℕ) → worth c ≡ 0 → c ≡ 48
zero_is c z = sym (worth-found c (omega arith)) ∙ ap (digit_glyph false) z

not_both : (p q r : Bool) → (p && (not q || not r)) ≡ true → q ≡ true → r ≡ false
not_both true true true e t = absurd cc
not_both p q false e t = refl
not_both p false r e t = absurd cc
not_both false q r e t = absurd cc

pub number_from-found : (base : ℕ) (bytes : List ℕ) (x : ℕ × List ℕ) → IsBase base → number_from base bytes ≡ Some x → IsSpelled base bytes x
unfolding number_from starts_number
number_from-found base [] x b e = absurd cc
number_from-found base (c ∷ []) x b e =
    let p = cond_found _ (digits_from base 0 (c ∷ [])) x e in
    from_first base c [] x b p.0 (λ z. no_bytes base 0) p.1
number_from-found base (c ∷ d ∷ bytes) x b e =
    let p = cond_found _ (digits_from base 0 (c ∷ d ∷ bytes)) x e in
    let parts = and_parts (is_digit base c) (not (eqb c 48) || not (is_digit base d)) p.0 in
    from_first base c (d ∷ bytes) x b parts.0
    (λ z. no_digit base 0 d bytes (not_both (is_digit base c) (eqb c 48) (is_digit base d) p.0 (eq-eqb c 48 (zero_is c z)))) p.1

-- ---- what is read again

one_more : (base n m d : ℕ) (bytes : List ℕ) → d < base → base ≤ 16 → n * base + d ≡ m → IsWide m →
    digits_from base n (digit_glyph false d ∷ bytes) ≡ digits_from base m bytes
unfolding digits_from
one_more base n m d bytes digit most is small =
    let value = worth-again d (omega arith) in
    let t : is_digit base (digit_glyph false d) ≡ true = rw value (lt-ltb _ _ digit) in
    let fits : ltb (n * base + d) (2 ^ 64) ≡ true = lt-ltb _ _ (omega arith) in
    cond-true _ _ _ t ∙ rw value (cond-true _ _ _ fits ∙ ap (λ (k : ℕ). digits_from base k bytes) is)

-- the digits of n are read, and its first one is 0 for n = 0 alone
pub record IsRead (base n : ℕ) : Type 0 where
  pub again : (bytes : List ℕ) → digits_from base 0 (spell base n ++ bytes) ≡ digits_from base n bytes
  pub first : ℕ
  pub others : List ℕ
  pub parts : spell base n ≡ digit_glyph false first ∷ others
  pub digit : first < base
  pub plain : first ≡ 0 → n ≡ 0

one_digit : (base n : ℕ) → IsBase base → n < base → IsRead base n
one_digit base n b h = record {
  again = λ bytes. ap (λ (s : List ℕ). digits_from base 0 (s ++ bytes)) (spell-digit base n b h)
      ∙ one_more base 0 n n bytes h b.most (omega arith) (omega (arith, b.most));
  first = n;
  others = [];
  parts = spell-digit base n b h;
  digit = h;
  plain = λ z. z;
}

is_read : (k base n : ℕ) → IsBase base → n < 2 ^ suc k → IsWide n → IsRead base n
is_read zero base n b h small = one_digit base n b (omega (arith, b.some))
is_read (suc k) base n b h small =
    elim (cases_lt n base) [
      | inl lt ↦ one_digit base n b lt
      | inr ge ↦
          let r = is_read k base (n / base) b (halved base (suc k) n b h) (omega (arith, b.half n)) in
          let step = spell-more base n b ge small in
          record {
            again = λ bytes.
                ap (λ (s : List ℕ). digits_from base 0 (s ++ bytes)) step
                ∙ ap (digits_from base 0) (append_assoc (spell base (n / base)) (glyph base n ∷ []) bytes)
                ∙ r.again (glyph base n ∷ bytes) ∙ one_more base (n / base) n (n % base) bytes (b.small n) b.most (b.whole n) small;
            first = r.first;
            others = r.others ++ glyph base n ∷ [];
            parts = step ∙ ap (λ (s : List ℕ). s ++ glyph base n ∷ []) r.parts;
            digit = r.digit;
            plain = λ z. absurd (omega (arith, b.left n ge, r.plain z));
          }
    ]

pub read_of : (base n : ℕ) → IsBase base → IsWide n → IsRead base n
read_of base n b small = is_read 63 base n b (omega arith) small

glyph_is_digit : (base d : ℕ) → IsBase base → d < base → is_digit base (digit_glyph false d) ≡ true
glyph_is_digit base d b h = let value = worth-again d (omega (arith, b.most)) in rw value (lt-ltb _ _ h)

starts-some : (base c : ℕ) (bytes : List ℕ) → is_digit base c ≡ true → (c ≡ 48 → ⊥) → starts_number base (c ∷ bytes) ≡ true
unfolding starts_number
starts-some base c [] digit ne = digit
starts-some base c (d ∷ bytes) digit ne = let other = ne_eqb c 48 ne in rw (digit, other) refl

no_space_digit : (base : ℕ) → IsBase base → is_digit base 32 ≡ false
no_space_digit base b = rw space_worth (le-ltb _ _ (omega (arith, b.most)))

starts-zero : (base : ℕ) (rest : List ℕ) → IsBase base → IsRest rest → is_digit base 48 ≡ true → starts_number base (48 ∷ rest) ≡ true
unfolding starts_number
starts-zero base [] b h digit = digit
starts-zero base (d ∷ rest) b h digit =
    let none : is_digit base d ≡ false = ap (is_digit base) h ∙ no_space_digit base b in
    rw (digit, none) refl

starts-again : (base n : ℕ) (rest : List ℕ) → IsBase base → IsWide n → IsRest rest → starts_number base (spell base n ++ rest) ≡ true
starts-again base n rest b small h =
    let r = read_of base n b small in
    elim (cases_eq n 0) [
      | inl z ↦
          let text : spell base n ≡ 48 ∷ [] = ap (spell base) z ∙ spell-digit base 0 b (omega (arith, b.some)) in
          ap (λ (s : List ℕ). starts_number base (s ++ rest)) text ∙ starts-zero base rest b h (glyph_is_digit base 0 b (omega (arith, b.some)))
      | inr ne ↦
          ap (λ (s : List ℕ). starts_number base (s ++ rest)) r.parts
          ∙ starts-some base (digit_glyph false r.first) (r.others ++ rest) (glyph_is_digit base r.first b r.digit)
          (λ e. ne (r.plain (glyph_zero r.first e)))
    ]

stops : (base n : ℕ) (rest : List ℕ) → IsBase base → IsRest rest → digits_from base n rest ≡ Some (n, rest)
stops base n [] b h = no_bytes base n
stops base n (d ∷ rest) b h = no_digit base n d rest (ap (is_digit base) h ∙ no_space_digit base b)

pub number_from-again : (base n : ℕ) (rest : List ℕ) → IsBase base → IsWide n → IsRest rest → number_from base (spell base n ++ rest) ≡ Some (n, rest)
unfolding number_from
number_from-again base n rest b small h =
    cond-true _ _ _ (starts-again base n rest b small h) ∙ (read_of base n b small).again rest ∙ stops base n rest b h

-- ---- numbers after a space

abbrev pub one_word : {A : Type 0} → (A → List ℕ) → A → List (List ℕ)
one_word text x = text x ∷ []

pub word_onto : (word rest : List ℕ) → words_onto (word ∷ []) rest ≡ (32 ∷ []) ++ (word ++ rest)
word_onto word rest = ap (λ (t : List ℕ). t ++ rest) (append-nil (field word))

pub reads_number : (base : ℕ) → IsBase base → Reads (number_at base) IsWide (one_word (spell base)) IsRest
unfolding number_at
reads_number base b = record {
  found = λ bytes x e.
      let w = bind_some {A = List ℕ} (after (32 ∷ []) bytes) (number_from base) x e in
      let is = number_from-found base w.value x b w.second in
      (after-found (32 ∷ []) bytes w.value w.first ∙ ap (λ (t : List ℕ). 32 ∷ t) is.0 ∙ sym (word_onto (spell base x.0) x.1), is.1);
  again = λ n rest small h.
      ap (λ (t : List ℕ). after (32 ∷ []) t >>= number_from base) (word_onto (spell base n) rest)
      ∙ ap (λ (o : Option (List ℕ)). o >>= number_from base) (after-again (32 ∷ []) (spell base n ++ rest)) ∙ number_from-again base n rest b small h;
  ends = λ rest h. h;
}

pub addresses : Reads address_at IsWide (one_word hex) IsRest
addresses = reads_number 16 sixteen

pub reads_decimal : (low high : ℕ) → high < 2 ^ 64 → Reads (decimal_at low high) (IsNumberIn low high) (one_word decimal) IsRest
unfolding decimal_at
reads_decimal low high small =
    let r = reads_number 10 ten in
    record {
      found = λ bytes x e.
          let n = bind_some {A = ℕ × List ℕ} _ _ _ e in
          let is = r.found bytes n.value n.first in
          let p : ((leb low n.value.0 && leb n.value.0 high) ≡ true) × (n.value ≡ x) = cond_some _ _ _ n.second in
          let b = and_parts (leb low n.value.0) (leb n.value.0 high) p.0 in
          let fits : IsNumberIn low high n.value.0 = record { least = leb-true low n.value.0 b.0; most = leb-true n.value.0 high b.1 } in
          subst (λ (y : ℕ × List ℕ). (bytes ≡ words_onto (one_word decimal y.0) y.1) × IsNumberIn low high y.0) p.1 (is.0, fits);
      again = λ n rest within h.
          let read = r.again n rest (omega (arith, within.most)) h in
          let low_le : leb low n ≡ true = le-leb _ _ within.least in
          let le_high : leb n high ≡ true = le-leb _ _ within.most in
          rw (read, low_le, le_high) refl;
      ends = λ rest h. h;
    }

pub processes : Reads process_at IsProcess (one_word decimal) IsRest
processes = reads_decimal 1 32767 (lit< tt)

pub lengths : Reads len_at IsWide (one_word decimal) IsRest
lengths =
    let r = reads_decimal 0 (2 ^ 64 - 1) (lit< tt) in
    record {
      found = λ bytes x e. let f = r.found bytes x e in let most = f.1.most in (f.0, omega arith);
      again = λ n rest small h. r.again n rest (record { least = omega arith; most = omega arith }) h;
      ends = r.ends;
    }

pub entries : Reads entry_at (λ (x : ℕ × ℕ). IsProcess x.0 × IsWide x.1) (λ (x : ℕ × ℕ). one_word decimal x.0 ++ one_word hex x.1) IsRest
entries = reads_both processes addresses

-- ---- a whole word

empty_is : (rest : List ℕ) → eqb (length rest) 0 ≡ true → rest ≡ []
empty_is [] h = refl
empty_is (b ∷ rest) h = let none = eqb-true (length (b ∷ rest)) 0 h in absurd (omega arith)

pub in-found : (low high n : ℕ) (word rest : List ℕ) → Some (n, rest) ≡ number_from 10 word → eqb (length rest) 0 ≡ true → low ≤ n → n ≤ high →
    (word ≡ decimal n) × IsNumberIn low high n
in-found low high n word rest e empty least most =
    let is = number_from-found 10 word (n, rest) ten (sym e) in
    (is.0 ∙ ap (λ (t : List ℕ). decimal n ++ t) (empty_is rest empty) ∙ append-nil (decimal n), record { least = least; most = most })

-- what is spelled so is read, with no rest
pub in-again : (low high n : ℕ) (word : List ℕ) → high < 2 ^ 64 → IsNumberIn low high n → word ≡ decimal n → number_from 10 word ≡ Some (n, [])
in-again low high n word small within is =
    ap (number_from 10) (is ∙ sym (append-nil (decimal n))) ∙ number_from-again 10 n [] ten (omega (arith, within.most)) tt

pub in-none : (low high n : ℕ) (word : List ℕ) → high < 2 ^ 64 → IsNumberIn low high n → word ≡ decimal n → None ≡ number_from 10 word → ⊥
in-none low high n word small within is none = let again = in-again low high n word small within is in cc

pub in-same : (low high n m : ℕ) (word rest : List ℕ) → high < 2 ^ 64 → IsNumberIn low high n → word ≡ decimal n
    → Some (m, rest) ≡ number_from 10 word →
    (m ≡ n) × (rest ≡ [])
in-same low high n m word rest small within is e =
    let same : (m, rest) ≡ (n, []) = same_Some _ _ (e ∙ in-again low high n word small within is) in
    (ap (λ (x : ℕ × List ℕ). x.0) same, ap (λ (x : ℕ × List ℕ). x.1) same)

-- ---- the loop over digits

pub at_no_byte : (base n : ℕ) (rest : List ℕ) → length rest ≡ 0 → digits_from base n rest ≡ Some (n, rest)
at_no_byte base n [] h = no_bytes base n
at_no_byte base n (d ∷ rest) h = absurd (omega arith)

pub at_no_digit : (base n : ℕ) (rest : List ℕ) → 1 ≤ length rest → base ≤ worth (get_or rest 0 0) → digits_from base n rest ≡ Some (n, rest)
at_no_digit base n [] h large = absurd (omega arith)
at_no_digit base n (d ∷ rest) h large = no_digit base n d rest (le-ltb _ _ large)

-- the digits with the next one are not below 2 ^ 64
pub at_too_large : (base n : ℕ) (rest : List ℕ) → 1 ≤ length rest → worth (get_or rest 0 0) < base → 2 ^ 64 ≤ n * base + worth (get_or rest 0 0) →
    digits_from base n rest ≡ None
unfolding digits_from
at_too_large base n [] h digit large = absurd (omega arith)
at_too_large base n (d ∷ rest) h digit large = cond-true _ _ _ (lt-ltb _ _ digit) ∙ cond-false _ _ _ (le-ltb _ _ large)

pub at_digit : (base n m : ℕ) (rest : List ℕ) → 1 ≤ length rest → worth (get_or rest 0 0) < base
    → m ≡ n * base + worth (get_or rest 0 0) → m < 2 ^ 64 →
    digits_from base m (take (length rest - 1) (drop 1 rest)) ≡ digits_from base n rest
unfolding digits_from
at_digit base n m [] h digit is small = absurd (omega arith)
at_digit base n m (d ∷ rest) h digit is small =
    let all : take (length (d ∷ rest) - 1) rest ≡ rest = take_all _ rest (omega arith) in
    let fits : ltb (n * base + worth d) (2 ^ 64) ≡ true = lt-ltb _ _ (omega arith) in
    (λ i. digits_from base (is i) (all i)) ∙ sym (cond-true _ _ _ (lt-ltb _ _ digit) ∙ cond-true _ _ _ fits)

pub product_large : (n base b d : ℕ) → b ≡ base → (n * b < 2 ^ 64 → ⊥) → 2 ^ 64 ≤ n * base + d
product_large n base b d same h =
    let h' : n * base < 2 ^ 64 → ⊥ = subst (λ (x : ℕ). n * x < 2 ^ 64 → ⊥) same h in
    elim (cases_lt (n * base + d) (2 ^ 64)) [ inl lt ↦ absurd (h' (omega arith)) | inr ge ↦ ge ]

-- the product p fits, and the sum doesn't
pub sum_large : (n base b p e d : ℕ) → b ≡ base → p ≡ n * b → e ≡ d → (p + e < 2 ^ 64 → ⊥) → 2 ^ 64 ≤ n * base + d
sum_large n base b p e d same is digit h =
    let product : p ≡ n * base = is ∙ ap (λ (x : ℕ). n * x) same in
    elim (cases_lt (n * base + d) (2 ^ 64)) [ inl lt ↦ absurd (h (omega arith)) | inr ge ↦ ge ]

pub sum_is : (n base b p e d v : ℕ) → b ≡ base → p ≡ n * b → e ≡ d → v ≡ p + e → v ≡ n * base + d
sum_is n base b p e d v same is digit sum = let product : p ≡ n * base = is ∙ ap (λ (x : ℕ). n * x) same in omega arith

-- ---- the loop over digits that are sure to fit

-- one more digit is one more place
pub sure_more : (k n base d : ℕ) → base ≤ 16 → d < base → n < 16 ^ k → n * base + d < 16 ^ (k + 1)
sure_more k n base d most digit small =
    let product : n * base ≤ n * 16 = mul-le-mul_left n most in
    let power : 16 ^ (k + 1) ≡ 16 ^ k * 16 = ap (λ (j : ℕ). 16 ^ j) (add-one k) ∙ pow-suc 16 k in
    omega arith

-- and there is room for the places
pub sure_fits : (k n base d : ℕ) → k < 15 → base ≤ 16 → d < base → n < 16 ^ k → n * base + d < 2 ^ 64
sure_fits k n base d places most digit small =
    let more = sure_more k n base d most digit small in
    let last : k + 1 ≤ 15 = omega arith in
    let room : 16 ^ (k + 1) ≤ 16 ^ 15 = pow-le-pow_right (lit< tt) last in
    omega arith

-- ---- short numbers

-- the digits of a number of at most four, one after another
pub spelled_one : (n : ℕ) → n < 10 → (48 + n) ∷ [] ≡ decimal n
spelled_one n h = sym (decimal_digit n h)

pub spelled_two : (n : ℕ) → 10 ≤ n → n < 100 → (48 + n / 10) ∷ (48 + n % 10) ∷ [] ≡ decimal n
spelled_two n lo hi =
    ap (λ (t : List ℕ). t ++ (48 + n % 10) ∷ []) (spelled_one (n / 10) (omega arith)) ∙ sym (decimal_step n lo (omega arith))

pub spelled_three : (n : ℕ) → 100 ≤ n → n < 1000 → (48 + n / 100) ∷ (48 + n % 100 / 10) ∷ (48 + n % 100 % 10) ∷ [] ≡ decimal n
spelled_three n lo hi =
    let a : n / 100 ≡ n / 10 / 10 = omega arith in
    let b : n % 100 / 10 ≡ n / 10 % 10 = omega arith in
    let c : n % 100 % 10 ≡ n % 10 = omega arith in
    rw (a, b, c) (ap (λ (t : List ℕ). t ++ (48 + n % 10) ∷ []) (spelled_two (n / 10) (omega arith) (omega arith)) ∙ sym (decimal_step n (omega arith) (omega arith)))

pub spelled_four : (n : ℕ) → 1000 ≤ n → n < 10000 → (48 + n / 100 / 10) ∷ (48 + n / 100 % 10) ∷ (48 + n % 100 / 10) ∷ (48 + n % 100 % 10) ∷ [] ≡ decimal n
spelled_four n lo hi =
    let a : n / 100 / 10 ≡ n / 10 / 100 = omega arith in
    let d : n / 100 % 10 ≡ n / 10 % 100 / 10 = omega arith in
    let b : n % 100 / 10 ≡ n / 10 % 100 % 10 = omega arith in
    let c : n % 100 % 10 ≡ n % 10 = omega arith in
    rw (a, d, b, c) (ap (λ (t : List ℕ). t ++ (48 + n % 10) ∷ []) (spelled_three (n / 10) (omega arith) (omega arith)) ∙ sym (decimal_step n (omega arith) (omega arith)))
