-- Pairs of digits: what is read is spelled so, and what is spelled is read; and the loops over them.
use Rattle.std.proofs.Common.{◌≡◌, ℕ, suc, ◌+◌, ◌-◌, ◌*◌, ◌/◌, ◌%◌, ◌^◌, ◌<◌, ◌≤◌, zero, Bool, true, false, ltb, leb, List, [], ◌∷◌, ◌++◌, length, get_or, set, take, drop, Option, Some, None, refl, sym, ap, subst, ◌∙◌, append_assoc, append-nil, arith, inl, inr}
use Rattle.std.specs.Prelude.{◌&&◌, if◌then◌else◌}
use Rattle.std.specs.Fmt.{digit_glyph}
use Rattle.std.proofs.Math.Nat.{pow-suc}
use Rattle.std.proofs.lemmas.Bool.{cases_Bool, cond-true, cond-false, and_parts, and_from, leb-true, le-leb, lt-ltb, ltb-true}
use Rattle.std.proofs.lemmas.List.{drop_more, drop_all, drop-set, take_more, take_more_set, take_all, length-set, length-drop}
use Rattle.std.specs.List.{range_with_len}
use Rattle.std.proofs.lemmas.List.FromFn.{get_or-range_with_len, length-range_with_len}
use Rattle.std.proofs.lemmas.Grind.{flat_map-append}
use Rattle.std.proofs.lemmas.Option.{same_Some}
use Rattle.av_base.specs.Page.{page_size}
use Rattle.av_text.specs.Hex.{hex, byte_text, hex_text, AreBytes, IsData, is_pair, pair, pairs_of, data_of, data_at}
use Rattle.av_text.specs.Number.{worth}
use Rattle.av_text.specs.Word.{◌>>=◌}
use Rattle.av_text.proofs.NumberLaws.{sixteen, spell-digit, spell-more, worth-found, worth-again, one_word, word_onto}
use Rattle.av_text.proofs.WordLaws.{bind_some, cond_found, after-found, after-again, IsEnd, IsRest, words_onto, Reads}

-- ---- what pairs of digits spell

pub pairs_of-found : (word bytes : List ℕ) → pairs_of word ≡ Some bytes → (word ≡ hex_text bytes) × AreBytes bytes
unfolding pairs_of
pairs_of-found [] bytes e = let same : [] ≡ bytes = same_Some _ _ e in (ap hex_text same, subst AreBytes same tt)
pairs_of-found (h ∷ []) bytes e = absurd cc
pairs_of-found (h ∷ l ∷ rest) bytes e =
    let p = cond_found (is_pair h l) (pairs_of rest >>= λ others. Some (pair h l ∷ others)) bytes e in
    let both = and_parts (ltb (worth h) 16) (ltb (worth l) 16) p.0 in
    let high = ltb-true (worth h) 16 both.0 in
    let low = ltb-true (worth l) 16 both.1 in
    let k = bind_some {A = List ℕ} (pairs_of rest) (λ others. Some (pair h l ∷ others)) bytes p.1 in
    let same : pair h l ∷ k.value ≡ bytes = same_Some _ _ k.second in
    let others = pairs_of-found rest k.value k.first in
    let quotient : pair h l / 16 ≡ worth h = omega arith in
    let remainder : pair h l % 16 ≡ worth l = omega arith in
    let first : h ≡ digit_glyph false (pair h l / 16) = sym (ap (digit_glyph false) quotient ∙ worth-found h high) in
    let second : l ≡ digit_glyph false (pair h l % 16) = sym (ap (digit_glyph false) remainder ∙ worth-found l low) in
    let all : AreBytes (pair h l ∷ k.value) = (omega arith, others.1) in
    ((λ i. first i ∷ second i ∷ others.0 i) ∙ ap hex_text same, subst AreBytes same all)

pub pairs_of-again : (bytes : List ℕ) → AreBytes bytes → pairs_of (hex_text bytes) ≡ Some bytes
unfolding pairs_of
pairs_of-again [] all = refl
pairs_of-again (b ∷ bytes) all =
    let small = all.0 in
    let high = worth-again (b / 16) (omega arith) in
    let low = worth-again (b % 16) (omega arith) in
    let high_fits : ltb (b / 16) 16 ≡ true = lt-ltb _ _ (omega arith) in
    let low_fits : ltb (b % 16) 16 ≡ true = lt-ltb _ _ (omega arith) in
    let rest = pairs_of-again bytes all.1 in
    let value : 16 * (b / 16) + b % 16 ≡ b = omega arith in
    rw (high, low, high_fits, low_fits, rest, value) refl

-- an odd number of digits spells nothing
pub odd_none : (word : List ℕ) → length word % 2 ≡ 1 → pairs_of word ≡ None
unfolding pairs_of
odd_none [] odd = absurd (omega arith)
odd_none (h ∷ []) odd = refl
odd_none (h ∷ l ∷ rest) odd =
    let none = odd_none rest (omega arith) in
    elim (cases_Bool (is_pair h l)) [
      | inl t ↦ cond-true _ _ _ t ∙ ap (λ (o : Option (List ℕ)). o >>= λ others. Some (pair h l ∷ others)) none
      | inr f ↦ cond-false _ _ _ f
    ]

-- ---- what `write` stores

pub hex_text-length : (bytes : List ℕ) → length (hex_text bytes) ≡ 2 * length bytes
hex_text-length [] = refl
hex_text-length (b ∷ bytes) = omega (arith, hex_text-length bytes)

-- the digits of the byte at i stand at 2 i and behind it
digits_at : (bytes : List ℕ) (i : ℕ) → i < length bytes →
    (get_or (hex_text bytes) (2 * i) 0 ≡ digit_glyph false (get_or bytes i 0 / 16))
    × (get_or (hex_text bytes) (2 * i + 1) 0 ≡ digit_glyph false (get_or bytes i 0 % 16))
digits_at [] i lt = absurd (omega arith)
digits_at (b ∷ bytes) zero lt = (refl, refl)
digits_at (b ∷ bytes) (suc i) lt =
    let rest = digits_at bytes i (omega arith) in
    let high : 2 * suc i ≡ suc (suc (2 * i)) = omega arith in
    let low : 2 * suc i + 1 ≡ suc (suc (2 * i + 1)) = omega arith in
    (ap (λ (k : ℕ). get_or (hex_text (b ∷ bytes)) k 0) high ∙ rest.0, ap (λ (k : ℕ). get_or (hex_text (b ∷ bytes)) k 0) low ∙ rest.1)

-- so do those of b in the text of all bytes below n
pub pair_digits : (n b : ℕ) → b < n →
    (get_or (hex_text (range_with_len 0 n)) (2 * b) 0 ≡ digit_glyph false (b / 16))
    × (get_or (hex_text (range_with_len 0 n)) (2 * b + 1) 0 ≡ digit_glyph false (b % 16))
pair_digits n b lt =
    let is : get_or (range_with_len 0 n) b 0 ≡ b = get_or-range_with_len 0 n b 0 lt ∙ omega arith in
    let there = digits_at (range_with_len 0 n) b (let many = length-range_with_len 0 n in omega arith) in
    (there.0 ∙ ap (λ (c : ℕ). digit_glyph false (c / 16)) is, there.1 ∙ ap (λ (c : ℕ). digit_glyph false (c % 16)) is)

data_of-found : (word bytes : List ℕ) → data_of word ≡ Some bytes → (word ≡ hex_text bytes) × IsData bytes
unfolding data_of
data_of-found word bytes e =
    let p = cond_found (leb 2 (length word) && leb (length word) (2 * page_size)) (pairs_of word) bytes e in
    let b = and_parts (leb 2 (length word)) (leb (length word) (2 * page_size)) p.0 in
    let low = leb-true 2 (length word) b.0 in
    let high = leb-true (length word) (2 * page_size) b.1 in
    let s = pairs_of-found word bytes p.1 in
    let size : length word ≡ 2 * length bytes = ap (λ (t : List ℕ). length t) s.0 ∙ hex_text-length bytes in
    (s.0, (record { least = omega arith; most = omega arith }, s.1))

data_of-again : (bytes : List ℕ) → IsData bytes → data_of (hex_text bytes) ≡ Some bytes
unfolding data_of
data_of-again bytes is =
    let size = hex_text-length bytes in
    let fits = is.0 in
    let low : 2 ≤ length (hex_text bytes) = omega (arith, fits.least) in
    let high : length (hex_text bytes) ≤ 2 * page_size = omega (arith, fits.most) in
    cond-true _ _ _ (and_from _ _ (le-leb _ _ low) (le-leb _ _ high)) ∙ pairs_of-again bytes is.1

pub stored : Reads data_at IsData (one_word hex_text) IsEnd
unfolding data_at
stored = record {
  found = λ bytes x e.
      let w = bind_some {A = List ℕ} _ _ _ e in
      let d = bind_some {A = List ℕ} _ _ _ w.second in
      let is = data_of-found w.value d.value d.first in
      let same : (d.value, []) ≡ x = same_Some _ _ d.second in
      let whole : bytes ≡ words_onto (one_word hex_text d.value) [] =
      after-found (32 ∷ []) bytes w.value w.first ∙ ap (λ (t : List ℕ). 32 ∷ t) (is.0 ∙ sym (append-nil (hex_text d.value)))
      ∙ sym (word_onto (hex_text d.value) []) in
      subst (λ (y : List ℕ × List ℕ). (bytes ≡ words_onto (one_word hex_text y.0) y.1) × IsData y.0) same (whole, is.1);
  again = λ bytes rest is end.
      let text : words_onto (one_word hex_text bytes) rest ≡ (32 ∷ []) ++ hex_text bytes =
      word_onto (hex_text bytes) rest ∙ ap (λ (t : List ℕ). 32 ∷ (hex_text bytes ++ t)) end
      ∙ ap (λ (t : List ℕ). 32 ∷ t) (append-nil (hex_text bytes)) in
      rw (text, after-again (32 ∷ []) (hex_text bytes), data_of-again bytes is, end) refl;
  ends = λ rest end. subst IsRest (sym end) tt;
}

-- ---- the loop that reads

-- what is found before the others
abbrev pub with_front : List ℕ → Option (List ℕ) → Option (List ℕ)
with_front found o = o >>= λ others. Some (found ++ others)

front_more : (found : List ℕ) (b : ℕ) (o : Option (List ℕ)) → with_front found (o >>= λ others. Some (b ∷ others)) ≡ with_front (found ++ b ∷ []) o
front_more found b None = refl
front_more found b (Some others) = ap Some (sym (append_assoc found (b ∷ []) others))

-- what i pairs tell of a word: the bytes found so far with what the others spell, unless a byte was no digit
abbrev pub Told : List ℕ → List ℕ → Bool → ℕ → Type 0
Told word found spelled i = pairs_of word ≡ (if spelled then with_front (take i found) (pairs_of (drop (2 * i) word)) else None)

front_none : (o : Option (List ℕ)) → o ≡ with_front [] o
front_none None = refl
front_none (Some others) = refl

pub told_first : (word found : List ℕ) → Told word found true 0
told_first word found = front_none (pairs_of word)

two_digits : (h l : ℕ) (rest found : List ℕ) → is_pair h l ≡ true →
    with_front found (pairs_of (h ∷ l ∷ rest)) ≡ with_front (found ++ pair h l ∷ []) (pairs_of rest)
unfolding pairs_of
two_digits h l rest found t = ap (with_front found) (cond-true _ _ _ t) ∙ front_more found (pair h l) (pairs_of rest)

no_digits : (h l : ℕ) (rest found : List ℕ) → is_pair h l ≡ false → with_front found (pairs_of (h ∷ l ∷ rest)) ≡ None
unfolding pairs_of
no_digits h l rest found f = ap (with_front found) (cond-false _ _ _ f)

-- the next pair, of which the digits are worth v and w
pub told_next : (word found : List ℕ) (spelled spelled' : Bool) (i v w : ℕ) → i < length found → 2 * i + 1 < length word
    → v ≡ worth (get_or word (2 * i) 0) →
    w ≡ worth (get_or word (2 * i + 1) 0) →
    spelled' ≡ ((spelled && ltb v 16) && ltb w 16) → Told word found spelled i → Told word (set found i (16 * (v % 16) + w % 16)) spelled' (i + 1)
told_next word found false spelled' i v w lt within high low is t =
    subst (λ (s : Bool). Told word (set found i (16 * (v % 16) + w % 16)) s (i + 1)) (sym is) t
told_next word found true spelled' i v w lt within high low is t =
    let h : ℕ = get_or word (2 * i) 0 in
    let l : ℕ = get_or word (2 * i + 1) 0 in
    let b : ℕ = 16 * (v % 16) + w % 16 in
    let same : spelled' ≡ is_pair h l = is ∙ (λ j. ltb (high j) 16 && ltb (low j) 16) in
    let next : 2 * i + 1 + 1 ≡ 2 * (i + 1) = omega arith in
    let parts : drop (2 * i) word ≡ h ∷ l ∷ drop (2 * (i + 1)) word =
    drop_more word (2 * i) 0 (omega arith)
    ∙ ap (λ (t : List ℕ). h ∷ t) (drop_more word (2 * i + 1) 0 within ∙ ap (λ (k : ℕ). l ∷ drop k word) next) in
    let so_far : pairs_of word ≡ with_front (take i found) (pairs_of (h ∷ l ∷ drop (2 * (i + 1)) word)) = t
    ∙ ap (λ (w : List ℕ). with_front (take i found) (pairs_of w)) parts in
    elim (cases_Bool (is_pair h l)) [
      | inl p ↦
          let both = and_parts (ltb (worth h) 16) (ltb (worth l) 16) p in
          let first = ltb-true (worth h) 16 both.0 in
          let second = ltb-true (worth l) 16 both.1 in
          let byte : b ≡ pair h l = omega arith in
          let front : take (i + 1) (set found i b) ≡ take i found ++ pair h l ∷ [] = take_more_set found i b lt
          ∙ ap (λ (x : ℕ). take i found ++ x ∷ []) byte in
          so_far ∙ two_digits h l (drop (2 * (i + 1)) word) (take i found) p
          ∙ ap (λ (f : List ℕ). with_front f (pairs_of (drop (2 * (i + 1)) word))) (sym front)
          ∙ sym (cond-true spelled' _ _ (same ∙ p))
      | inr p ↦ so_far ∙ no_digits h l (drop (2 * (i + 1)) word) (take i found) p ∙ sym (cond-false spelled' _ _ (same ∙ p))
    ]

nothing_left : (found : List ℕ) → with_front found (pairs_of []) ≡ Some found
unfolding pairs_of
nothing_left found = ap Some (append-nil found)

pub told_last : (word found : List ℕ) (spelled : Bool) (i : ℕ) → length found ≤ i → length word ≡ 2 * length found → Told word found spelled i →
    pairs_of word ≡ (if spelled then Some found else None)
told_last word found false i past exact t = t
told_last word found true i past exact t =
    let all : take i found ≡ found = take_all i found past in
    let none : drop (2 * i) word ≡ [] = drop_all (2 * i) word (omega arith) in
    t ∙ (λ j. with_front (all j) (pairs_of (none j))) ∙ nothing_left found

-- ---- the loops that write

-- two writes in a row, seen from the front
two_writes : (xs : List ℕ) (o x y : ℕ) → o + 1 < length xs → take (o + 1 + 1) (set (set xs o x) (o + 1) y) ≡ take o xs ++ (x ∷ y ∷ [])
two_writes xs o x y fits =
    let len : length (set xs o x) ≡ length xs = length-set xs o x in
    let second = take_more_set (set xs o x) (o + 1) y (omega (arith, len)) in
    let first = take_more_set xs o x (omega arith) in
    second ∙ ap (λ (t : List ℕ). t ++ y ∷ []) first ∙ append_assoc (take o xs) (x ∷ []) (y ∷ [])

-- the digits of i bytes stand from start on
abbrev pub Encoded : List ℕ → List ℕ → List ℕ → ℕ → ℕ → Type 0
Encoded old digits bytes start i = take (start + 2 * i) digits ≡ take start old ++ hex_text (take i bytes)

pub encoded_next : (old digits bytes : List ℕ) (start i b x y : ℕ) → i < length bytes → start + 2 * i + 1 < length digits → b ≡ get_or bytes i 0 →
    x ≡ digit_glyph false (b / 16) → y ≡ digit_glyph false (b % 16) →
    Encoded old digits bytes start i → Encoded old (set (set digits (start + 2 * i) x) (start + 2 * i + 1) y) bytes start (i + 1)
encoded_next old digits bytes start i b x y lt within is high low e =
    let next : start + 2 * (i + 1) ≡ start + 2 * i + 1 + 1 = omega arith in
    let written = two_writes digits (start + 2 * i) x y within in
    let more : hex_text (take (i + 1) bytes) ≡ hex_text (take i bytes) ++ byte_text b =
    ap hex_text (take_more bytes i 0 lt) ∙ flat_map-append byte_text (take i bytes) (get_or bytes i 0 ∷ [])
    ∙ ap (λ (c : ℕ). hex_text (take i bytes) ++ byte_text c) (sym is) in
    ap (λ (n : ℕ). take n (set (set digits (start + 2 * i) x) (start + 2 * i + 1) y)) next ∙ written ∙ (λ j. e j ++ (high j ∷ low j ∷ []))
    ∙ append_assoc (take start old) (hex_text (take i bytes)) (byte_text b) ∙ ap (λ (t : List ℕ). take start old ++ t) (sym more)

pub encoded_last : (old digits bytes : List ℕ) (start i : ℕ) → length bytes ≤ i → length digits ≡ start + 2 * length bytes →
    Encoded old digits bytes start i → digits ≡ take start old ++ hex_text bytes
encoded_last old digits bytes start i past exact e =
    let all : take i bytes ≡ bytes = take_all i bytes past in
    let whole : take (start + 2 * i) digits ≡ digits = take_all (start + 2 * i) digits (omega arith) in
    sym whole ∙ e ∙ ap (λ (t : List ℕ). take start old ++ hex_text t) all

-- the last digits of n stand from a place on, before them those of rest
pub record IsWritten (n rest at : ℕ) (digits : List ℕ) : Type 0 where
  pub room : rest < 16 ^ suc at
  pub within : at < 16
  pub full : length digits ≡ 16
  pub spelled : hex n ≡ hex rest ++ drop (suc at) digits

pub more_room : (rest at : ℕ) → 16 ≤ rest → rest < 16 ^ suc at → 0 < at
more_room rest zero large fits = absurd (omega arith)
more_room rest (suc at) large fits = omega arith

pub written_next : (n rest at at' : ℕ) (digits : List ℕ) (g : ℕ) → 16 ≤ rest → rest < 2 ^ 64 → at ≡ suc at' → g ≡ digit_glyph false (rest % 16) →
    IsWritten n rest at digits → IsWritten n (rest / 16) at' (set digits at g)
written_next n rest at at' digits g large small down glyph w =
    let up : at + 1 ≡ suc at = omega arith in
    let place : drop (suc at') (set digits at g) ≡ g ∷ drop (suc at) digits = ap (λ (k : ℕ). drop k (set digits at g)) (sym down)
    ∙ drop-set digits at g (omega (arith, w.within, w.full)) ∙ ap (λ (k : ℕ). g ∷ drop k digits) up in
    record {
      room = omega (arith, w.room, pow-suc 16 at, ap (λ (k : ℕ). 16 ^ k) down);
      within = omega (arith, w.within);
      full = length-set digits at g ∙ w.full;
      spelled = w.spelled ∙ ap (λ (t : List ℕ). t ++ drop (suc at) digits) (spell-more 16 rest sixteen large small)
          ∙ append_assoc (hex (rest / 16)) (digit_glyph false (rest % 16) ∷ []) (drop (suc at) digits)
          ∙ ap (λ (d : ℕ). hex (rest / 16) ++ d ∷ drop (suc at) digits) (sym glyph) ∙ ap (λ (t : List ℕ). hex (rest / 16) ++ t) (sym place);
    }

-- the same of two digits at once
pub room_for_two : (rest at : ℕ) → 256 ≤ rest → rest < 16 ^ suc at → 2 ≤ at
room_for_two rest zero large fits = absurd (omega arith)
room_for_two rest (suc zero) large fits = absurd (omega arith)
room_for_two rest (suc (suc at)) large fits = omega arith

pub written_two : (n rest at : ℕ) (digits : List ℕ) (high low : ℕ) → 256 ≤ rest → rest < 2 ^ 64 → 2 ≤ at
    → high ≡ digit_glyph false (rest % 256 / 16) → low ≡ digit_glyph false (rest % 256 % 16) → IsWritten n rest at digits
    → IsWritten n (rest / 256) (at - 2) (set (set digits at low) (at - 1) high)
written_two n rest at digits high low large small room is_high is_low w =
    let a : rest % 256 % 16 ≡ rest % 16 = omega arith in
    let b : rest % 256 / 16 ≡ rest / 16 % 16 = omega arith in
    let c : rest / 16 / 16 ≡ rest / 256 = omega arith in
    let one = written_next n rest at (at - 1) digits low (omega arith) small (omega arith) (is_low ∙ ap (digit_glyph false) a) w in
    let two = written_next n (rest / 16) (at - 1) (at - 2) (set digits at low) high (omega arith) (omega arith) (omega arith) (is_high ∙ ap (digit_glyph false) b) one in
    rw (← c) two

pub written_last : (n rest at : ℕ) (digits : List ℕ) (g : ℕ) → rest < 16 → g ≡ digit_glyph false rest → IsWritten n rest at digits →
    take (16 - at) (drop at (set digits at g)) ≡ hex n
written_last n rest at digits g small glyph w =
    let up : at + 1 ≡ suc at = omega arith in
    let size : length (drop at (set digits at g)) ≤ 16 - at = omega (arith, length-drop at (set digits at g), length-set digits at g, w.full) in
    take_all (16 - at) (drop at (set digits at g)) size ∙ drop-set digits at g (omega (arith, w.within, w.full)) ∙ (λ j. glyph j ∷ drop (up j) digits)
    ∙ ap (λ (t : List ℕ). t ++ drop (suc at) digits) (sym (spell-digit 16 rest sixteen small)) ∙ sym w.spelled
