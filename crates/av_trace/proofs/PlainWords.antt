-- Words of printed lines: each has no space and no newline, and is read back.
use Rattle.std.proofs.Common.{Bool, true, false, ◌≡◌, ℕ, zero, suc, ◌/◌, ◌%◌, ◌^◌, ◌<◌, List, [], ◌∷◌, length, drop, Option, Some, None, refl, sym, ap, ◌∙◌, append-nil, arith, inl, inr}
use Rattle.std.specs.List.{AllByRecursion}
use Rattle.std.specs.Str.{bytes_eq}
use Rattle.std.specs.Fmt.{decimal, digit_glyph}
use Rattle.std.proofs.lemmas.Bool.{cases_lt}
use Rattle.std.proofs.lemmas.List.{drop_at}
use Rattle.std.proofs.lemmas.Option.{same_Some}
use Rattle.av_base.specs.declared.prot.Prot.{Prot}
use Rattle.av_base.specs.declared.slot.Slot.{Slot}
use Rattle.av_text.specs.Hex.{hex, hex_text, AreBytes, pairs_of}
use Rattle.av_trace.specs.Note.{slot_text, IsSlot}
use Rattle.av_text.specs.Number.{IsWide, number_from}
use Rattle.av_text.specs.Prot.{letter, prot_text, prot_at}
use Rattle.av_trace.specs.Reply.{labelled}
use Rattle.av_trace.specs.Row.{range_text}
use Rattle.av_text.specs.Word.{line, ◌>>=◌}
use Rattle.std.specs.Prelude.{if◌then◌else◌}
use Rattle.av_text.proofs.HexLaws.{pairs_of-again}
use Rattle.av_text.proofs.NumberLaws.{IsBase, ten, sixteen, spell, spell-digit, spell-more, halved, glyph_printed, glyph_low, number_from-again}
use Rattle.av_text.proofs.ProtLaws.{prot_at-again}
use Rattle.av_trace.proofs.Split.{lacks, lacks-cons, lacks-append, split, split-two, IsPlain, split-line, lacks-line}

-- ---- numbers

-- a number has no byte that is no digit
lacks-spell : (k base c n : ℕ) → IsBase base → ((d : ℕ) → d < base → digit_glyph false d ≡ c → ⊥) → n < 2 ^ suc k → IsWide n
    → lacks c (spell base n) ≡ true
lacks-spell zero base c n b other h small =
    let lt : n < base = omega (arith, b.some) in
    ap (lacks c) (spell-digit base n b lt) ∙ lacks-cons c (digit_glyph false n) [] (other n lt) refl
lacks-spell (suc k) base c n b other h small =
    elim (cases_lt n base) [
      | inl lt ↦ ap (lacks c) (spell-digit base n b lt) ∙ lacks-cons c (digit_glyph false n) [] (other n lt) refl
      | inr ge ↦
          let front = lacks-spell k base c (n / base) b other (halved base (suc k) n b h) (omega (arith, b.half n)) in
          let last = lacks-cons c (digit_glyph false (n % base)) [] (other (n % base) (b.small n)) refl in
          ap (lacks c) (spell-more base n b ge small) ∙ lacks-append c (spell base (n / base)) (digit_glyph false (n % base) ∷ []) front last
    ]

-- a byte below the digits
pub lacks-low : (base c n : ℕ) → IsBase base → c < 48 → IsWide n → lacks c (spell base n) ≡ true
lacks-low base c n b low small = lacks-spell 63 base c n b (λ d lt e. omega (arith, glyph_printed d)) (omega arith) small

-- a byte above the decimal digits
pub lacks-high : (c n : ℕ) → 57 < c → IsWide n → lacks c (decimal n) ≡ true
lacks-high c n high small = lacks-spell 63 10 c n ten (λ d lt e. omega (arith, glyph_low d lt)) (omega arith) small

plain-spell : (base n : ℕ) → IsBase base → IsWide n → IsPlain (spell base n)
plain-spell base n b small = record {
  space = lacks-low base 32 n b (omega arith) small;
  newline = lacks-low base 10 n b (omega arith) small;
}

-- x, if nothing is left
abbrev last_of : {A : Type 0} → A → List ℕ → Option A
last_of x [] = Some x
last_of x (b ∷ rest) = None

unfoldable pub word_of : ℕ → List ℕ → Option ℕ
word_of base w = number_from base w >>= λ x. last_of x.0 x.1

pub word_of-again : (base n : ℕ) → IsBase base → IsWide n → word_of base (spell base n) ≡ Some n
unfolding word_of
word_of-again base n b small =
    let read : number_from base (spell base n) ≡ Some (n, []) = ap (number_from base) (sym (append-nil (spell base n)))
    ∙ number_from-again base n [] b small tt in
    rw read refl

abbrev pub number_of : List ℕ → Option ℕ
number_of w = word_of 10 w

abbrev pub hex_of : List ℕ → Option ℕ
hex_of w = word_of 16 w

-- ---- bytes

lacks-hex_text : (c : ℕ) (bytes : List ℕ) → c < 48 → lacks c (hex_text bytes) ≡ true
lacks-hex_text c [] low = refl
lacks-hex_text c (b ∷ bytes) low =
    lacks-cons c (digit_glyph false (b / 16)) (digit_glyph false (b % 16) ∷ hex_text bytes) (λ e. omega (arith, glyph_printed (b / 16)))
    (lacks-cons c (digit_glyph false (b % 16)) (hex_text bytes) (λ e. omega (arith, glyph_printed (b % 16))) (lacks-hex_text c bytes low))

pub plain-hex_text : (bytes : List ℕ) → IsPlain (hex_text bytes)
plain-hex_text bytes = record {
  space = lacks-hex_text 32 bytes (omega arith);
  newline = lacks-hex_text 10 bytes (omega arith);
}

-- ---- numbers with labels

unfoldable pub labelled_of : List ℕ → List ℕ → Option ℕ
labelled_of label w = number_of (drop (length label) w)

pub labelled_of-again : (label : List ℕ) (n : ℕ) → IsWide n → labelled_of label (labelled label n) ≡ Some n
unfolding labelled_of labelled
labelled_of-again label n small = ap number_of (drop_at label (decimal n) (length label) refl) ∙ word_of-again 10 n ten small

pub plain-labelled : (label : List ℕ) (n : ℕ) → IsPlain label → IsWide n → IsPlain (labelled label n)
unfolding labelled
plain-labelled label n plain small =
    let digits_plain = plain-spell 10 n ten small in
    record {
      space = lacks-append 32 label (decimal n) plain.space digits_plain.space;
      newline = lacks-append 10 label (decimal n) plain.newline digits_plain.newline;
    }

-- ---- slots

abbrev pub slot_from : List (List ℕ) → Option Slot
slot_from (a ∷ p ∷ []) = number_of a >>= λ area. number_of p >>= λ page. Some (record { area = area; page = page })
slot_from pieces = None

unfoldable pub slot_of : List ℕ → Option Slot
slot_of w = slot_from (split 58 w)

pub slot_of-again : (slot : Slot) → IsSlot slot → slot_of (slot_text slot) ≡ Some slot
unfolding slot_of
slot_of-again slot is =
    ap slot_from (split-two 58 (decimal slot.area) (decimal slot.page) (lacks-high 58 slot.area (omega arith) is.0)
    (lacks-high 58 slot.page (omega arith) is.1))
    ∙ rw (word_of-again 10 slot.area ten is.0, word_of-again 10 slot.page ten is.1) refl

lacks-slot : (c : ℕ) (slot : Slot) → c < 48 → IsSlot slot → lacks c (slot_text slot) ≡ true
lacks-slot c slot low is =
    lacks-append c (decimal slot.area) (58 ∷ decimal slot.page) (lacks-low 10 c slot.area ten low is.0)
    (lacks-cons c 58 (decimal slot.page) (λ e. omega arith) (lacks-low 10 c slot.page ten low is.1))

pub plain-slot : (slot : Slot) → IsSlot slot → IsPlain (slot_text slot)
plain-slot slot is = record {
  space = lacks-slot 32 slot (omega arith) is;
  newline = lacks-slot 10 slot (omega arith) is;
}

-- ---- protections

letter-not : (c l : ℕ) (b : Bool) → c < 45 → 45 < l → letter b l ≡ c → ⊥
letter-not c l true low high e = omega arith
letter-not c l false low high e = omega arith

lacks-prot : (c : ℕ) (prot : Prot) → c < 45 → lacks c (prot_text prot) ≡ true
lacks-prot c prot low =
    let last = lacks-cons c (letter prot.execute 120) [] (letter-not c 120 prot.execute low (omega arith)) refl in
    let middle = lacks-cons c (letter prot.write 119) (letter prot.execute 120 ∷ []) (letter-not c 119 prot.write low (omega arith)) last in
    lacks-cons c (letter prot.read 114) (letter prot.write 119 ∷ letter prot.execute 120 ∷ []) (letter-not c 114 prot.read low (omega arith)) middle

pub plain-prot : (prot : Prot) → IsPlain (prot_text prot)
plain-prot prot = record { space = lacks-prot 32 prot (omega arith); newline = lacks-prot 10 prot (omega arith) }

unfoldable pub prot_of_word : List ℕ → Option Prot
prot_of_word w = prot_at (32 ∷ w) >>= λ x. last_of x.0 x.1

prot_of_word-again : (prot : Prot) → prot_of_word (prot_text prot) ≡ Some prot
unfolding prot_of_word
prot_of_word-again prot = ap (λ (o : Option (Prot × List ℕ)). o >>= λ x. last_of x.0 x.1) (prot_at-again prot [])

-- ---- addresses from start to end

abbrev range_from : List (List ℕ) → Option (ℕ × ℕ)
range_from (s ∷ e ∷ []) = hex_of s >>= λ start. hex_of e >>= λ end. Some (start, end)
range_from pieces = None

unfoldable pub range_of : List ℕ → Option (ℕ × ℕ)
range_of w = range_from (split 45 w)

range_of-again : (start end : ℕ) → IsWide start → IsWide end → range_of (range_text start end) ≡ Some (start, end)
unfolding range_of
range_of-again start end hs he =
    ap range_from (split-two 45 (hex start) (hex end) (lacks-low 16 45 start sixteen (omega arith) hs) (lacks-low 16 45 end sixteen (omega arith) he))
    ∙ rw (word_of-again 16 start sixteen hs, word_of-again 16 end sixteen he) refl

plain-range : (start end : ℕ) → IsWide start → IsWide end → IsPlain (range_text start end)
plain-range start end hs he =
    let s = plain-spell 16 start sixteen hs in
    let e = plain-spell 16 end sixteen he in
    record {
      space = lacks-append 32 (hex start) (45 ∷ hex end) s.space (lacks-cons 32 45 (hex end) (λ h. omega arith) e.space);
      newline = lacks-append 10 (hex start) (45 ∷ hex end) s.newline (lacks-cons 10 45 (hex end) (λ h. omega arith) e.newline);
    }

-- ---- words that are read back

-- a word is plain, and is read as x
pub record Names {A : Type 0} (read : List ℕ → Option A) (w : List ℕ) (x : A) : Type 0 where
  pub plain : IsPlain w
  pub again : read w ≡ Some x

pub number-named : {n : ℕ} → IsWide n → Names number_of (decimal n) n
number-named {n = n} small = record { plain = plain-spell 10 n ten small; again = word_of-again 10 n ten small }

pub hex-named : {n : ℕ} → IsWide n → Names hex_of (hex n) n
hex-named {n = n} small = record { plain = plain-spell 16 n sixteen small; again = word_of-again 16 n sixteen small }

pub bytes-named : (bytes : List ℕ) → AreBytes bytes → Names pairs_of (hex_text bytes) bytes
bytes-named bytes all = record { plain = plain-hex_text bytes; again = pairs_of-again bytes all }

pub slot-named : (slot : Slot) → IsSlot slot → Names slot_of (slot_text slot) slot
slot-named slot is = record { plain = plain-slot slot is; again = slot_of-again slot is }

-- a word of which both are known by computing
abbrev pub plain_name : (w : List ℕ) → lacks 32 w ≡ true → lacks 10 w ≡ true → IsPlain w
plain_name w space newline = record { space = space; newline = newline }

pub prot-named : (prot : Prot) → Names prot_of_word (prot_text prot) prot
prot-named prot = record { plain = plain-prot prot; again = prot_of_word-again prot }

pub range-named : {start end : ℕ} → IsWide start → IsWide end → Names range_of (range_text start end) (start, end)
range-named {start = start} {end = end} hs he = record { plain = plain-range start end hs he; again = range_of-again start end hs he }

-- what has this name
abbrev pub beside : {A : Type 0} → List (List ℕ × A) → List ℕ → Option A
beside [] w = None
beside (x ∷ xs) w = if bytes_eq w x.0 then Some x.1 else beside xs w

-- a number after its label, which is known by computing
pub labelled-named : (label : List ℕ) {n : ℕ} → lacks 32 label ≡ true → lacks 10 label ≡ true → IsWide n
    → Names (labelled_of label) (labelled label n) n
labelled-named label {n = n} space newline small = record {
  plain = plain-labelled label n
      (plain_name label space newline) small;
  again = labelled_of-again label n small;
}

-- ---- lines that are read back

-- the next word, and what follows it
abbrev pub next : {A B : Type 0} → (List ℕ → Option A) → (A → List (List ℕ) → Option B) → List (List ℕ) → Option B
next read more [] = None
next read more (w ∷ words) = read w >>= λ x. more x words

-- no word is left
abbrev pub last : {B : Type 0} → B → List (List ℕ) → Option B
last y [] = Some y
last y (w ∷ words) = None

-- what reads a line's words
abbrev pub LineReader : Type 0 → Type 0
LineReader A = List (List ℕ) → Option A

-- a line by its name
abbrev pub by_name : {A : Type 0} → List (List ℕ × LineReader A) → LineReader A
by_name readers [] = None
by_name {A = A} readers (name ∷ words) = beside {A = LineReader A} readers name >>= λ read. read words

-- the line has plain words, from which x is read
pub record IsLineOf {A : Type 0} (read : LineReader A) (l : List ℕ) (x : A) : Type 0 where
  pub name : List ℕ
  pub words : List (List ℕ)
  pub is : l ≡ line name words
  pub plain : IsPlain name
  pub all_plain : AllByRecursion IsPlain words
  pub again : read (name ∷ words) ≡ Some x

reads_back : {A : Type 0} {read : LineReader A} {l : List ℕ} {x : A} → IsLineOf read l x → read (split 32 l) ≡ Some x
reads_back {read = read} r = ap (λ (t : List ℕ). read (split 32 t)) r.is ∙ ap read (split-line r.name r.words r.plain r.all_plain) ∙ r.again

pub one_line : {A : Type 0} {read : LineReader A} {l m : List ℕ} {x y : A} → IsLineOf read l x → IsLineOf read m y → l ≡ m → x ≡ y
one_line {read = read} r s e = same_Some _ _ (sym (reads_back r) ∙ ap (λ (t : List ℕ). read (split 32 t)) e ∙ reads_back s)

pub no_newline : {A : Type 0} {read : LineReader A} {l : List ℕ} {x : A} → IsLineOf read l x → lacks 10 l ≡ true
no_newline r = ap (lacks 10) r.is ∙ lacks-line r.name r.words r.plain r.all_plain

-- the words are plain, and y is read from them
pub record AreRead {B : Type 0} (read : LineReader B) (words : List (List ℕ)) (y : B) : Type 0 where
  pub plain : AllByRecursion IsPlain words
  pub again : read words ≡ Some y

pub no_word : {B : Type 0} {y : B} → AreRead (last y) [] y
no_word = record { plain = tt; again = refl }

-- one word, and the others
pub word : {A B : Type 0} {read : List ℕ → Option A} (more : A → LineReader B) {w : List ℕ} {x : A} {words : List (List ℕ)} {y : B} → Names read w x →
    AreRead (more x) words y →
    AreRead (next read more) (w ∷ words) y
word more {words = words} first others = record {
  plain = (first.plain, others.plain);
  again = ap (λ o. o >>= λ x. more x words) first.again ∙ others.again;
}

-- a name that is known by computing, and words
pub line_is : {A : Type 0} {read : LineReader A} (name : List ℕ) {words : List (List ℕ)} {x : A} → lacks 32 name ≡ true → lacks 10 name ≡ true →
    AreRead (λ ws. read (name ∷ ws)) words x → IsLineOf read (line name words) x
line_is name {words = words} space newline read = record {
  name = name;
  words = words;
  is = refl;
  plain = plain_name name space newline;
  all_plain = read.plain;
  again = read.again;
}

-- a line that begins with a word like the others
pub line_from : {A : Type 0} {read : LineReader A} {name : List ℕ} {words : List (List ℕ)} {x : A} → AreRead read (name ∷ words) x →
    IsLineOf read (line name words) x
line_from {name = name} {words = words} r =
    record { name = name; words = words; is = refl; plain = r.plain.0; all_plain = r.plain.1; again = r.again }
