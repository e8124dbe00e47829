-- Words of a printed row, as they are cut off and read.
use Rattle.std.proofs.Common.{◌≡◌, ℕ, ◌<◌, ◌-◌, Bool, true, false, List, [], ◌∷◌, ◌++◌, append_assoc, append-nil, map, Option, Some, None, refl, sym, ap, subst, ◌∙◌, arith}
use Rattle.std.specs.Prelude.{◌^◌, IfNone, IfSome, codes, unwrap_or}
use Rattle.std.specs.List.{AllByRecursion, flat_map}
use Rattle.std.specs.Fmt.{decimal, digit_glyph}
use Rattle.av_base.specs.declared.flags.Flags.{Flags}
use Rattle.av_text.specs.Hex.{hex}
use Rattle.av_text.specs.Number.{IsNumberIn, IsWide, address_at}
use Rattle.av_text.specs.Word.{after, field}
use Rattle.av_text.proofs.NumberLaws.{addresses, glyph_printed, read_of, ten}
use Rattle.av_text.proofs.WordLaws.{after-again}
use Rattle.av_trace.specs.Row.{chain_text, flag_words, own_text}
use Rattle.av_trace.proofs.PlainWords.{lacks-low, word_of, word_of-again}
use Rattle.av_audit_judge.specs.Notes.{IsCut, lacks}
use Rattle.av_audit_judge.proofs.NoteLaws.{cut-one, lacks-not, lacks-same}
use Rattle.av_audit_area.specs.Read.{behind, bytes_behind, flag_in, words_with}

-- ---- pieces

module _ (c : ℕ) (bytes : List ℕ) where
  pub cut-same : (first others f o : List ℕ) → IsCut c bytes first others → lacks c f ≡ true → bytes ≡ f ++ c ∷ o
      → (first ≡ f) × (others ≡ o)
  cut-same first others f o cut none is = cut-one c first f others o cut.alone none (sym cut.whole ∙ is)

  pub cut-not : (f o : List ℕ) → lacks c bytes ≡ true → bytes ≡ f ++ c ∷ o → ⊥
  cut-not f o none is = lacks-not c f o (subst (λ b. lacks c b ≡ true) is none)

-- what a piece is
pub record IsPiece (c : ℕ) (bytes first others : List ℕ) : Type 0 where
  pub cut : (f o : List ℕ) → lacks c f ≡ true → bytes ≡ f ++ c ∷ o → (first ≡ f) × (others ≡ o)
  pub all : lacks c bytes ≡ true → (first ≡ bytes) × (others ≡ [])

-- the first of some words, and the others
pub piece-words_with : (c : ℕ) (w : List ℕ) (words : List (List ℕ)) (bytes first others : List ℕ) → IsPiece c bytes first others
    → lacks c w ≡ true → bytes ≡ words_with c (w ∷ words) → (first ≡ w) × (others ≡ words_with c words)
piece-words_with c w [] bytes first others p none is =
    let same : bytes ≡ w = is ∙ append-nil w in
    let h = p.all (subst (λ b. lacks c b ≡ true) (sym same) none) in (h.0 ∙ same, h.1)
piece-words_with c w (v ∷ words) bytes first others p none is = p.cut w (words_with c (v ∷ words)) none is

-- ---- labels

pub label-same : (label bytes word found : List ℕ) → found ≡ bytes_behind label bytes → bytes ≡ label ++ word → found ≡ word
label-same label bytes word found some is = some ∙ ap (λ o. behind o bytes) (ap (after label) is ∙ after-again label word)

-- ---- numbers

hex-again : (n : ℕ) (word text : List ℕ) → IsWide n → word ≡ hex n → text ≡ field word → address_at text ≡ Some (n, [])
hex-again n word text wide is spaced =
    ap address_at (spaced ∙ ap (λ w. 32 ∷ w) (is ∙ sym (append-nil (hex n)) ∙ sym (append-nil (hex n ++ []))))
    ∙ addresses.again n [] wide tt

module _ (n : ℕ) (word text : List ℕ) (wide : IsWide n) (is : word ≡ hex n) (spaced : text ≡ field word) where
  pub hex-not : None ≡ address_at text → ⊥
  hex-not none = differ (none ∙ hex-again n word text wide is spaced)
    where
      differ : {x : ℕ × List ℕ} → None ≡ Some x → ⊥
      differ e = cc

  pub hex-same : (found : ℕ × List ℕ) → Some found ≡ address_at text → found.0 ≡ n
  hex-same found some = ap (λ (o : Option (ℕ × List ℕ)). (unwrap_or o found).0) (some ∙ hex-again n word text wide is spaced)

-- the digits of a number begin with one
digits-begin : (n : ℕ) (rest bytes : List ℕ) (c : ℕ) → IsWide n → c < 48 → c ∷ rest ≡ decimal n ++ bytes → ⊥
digits-begin n rest bytes c wide low e =
    let read = read_of 10 n ten wide in
    let glyph : c ≡ digit_glyph false read.first = first (e ∙ ap (λ d. d ++ bytes) read.parts) in
    let printed = glyph_printed read.first in omega (arith, glyph, printed, low)
  where
    first : {a b : ℕ} {x y : List ℕ} → a ∷ x ≡ b ∷ y → a ≡ b
    first e = cc

digits-some : (n : ℕ) (bytes : List ℕ) → IsWide n → [] ≡ decimal n ++ bytes → ⊥
digits-some n bytes wide e = differ (e ∙ ap (λ d. d ++ bytes) (read_of 10 n ten wide).parts)
  where
    differ : {a : ℕ} {x : List ℕ} → [] ≡ a ∷ x → ⊥
    differ e = cc

decimal-one : (n k : ℕ) → IsWide n → IsWide k → decimal n ≡ decimal k → n ≡ k
decimal-one n k wide wide' e = inner (sym (word_of-again 10 n ten wide) ∙ ap (word_of 10) e ∙ word_of-again 10 k ten wide')
  where
    inner : {a b : ℕ} → Some a ≡ Some b → a ≡ b
    inner e = cc

pub own-same : (word : List ℕ) (found own : Option ℕ) (top : ℕ) → top ≡ 2 ^ 64 - 1
    → IfSome found (λ n. (word ≡ decimal n) × IsNumberIn 0 top n)
    → IfNone found ((n : ℕ) → IsNumberIn 0 top n → word ≡ decimal n → ⊥)
    → IfSome own IsWide → word ≡ own_text own → found ≡ own
own-same word None None top most some none wide is = refl
own-same word None (Some v) top most some none wide is =
    absurd (none v (record { least = omega arith; most = omega (arith, most, wide) }) is)
own-same word (Some n) None top most some none wide is =
    let fits = some.1.most in
    absurd (digits-begin n [] [] 45 (omega (arith, most, fits)) (omega arith) (sym is ∙ some.0 ∙ sym (append-nil (decimal n))))
own-same word (Some n) (Some v) top most some none wide is =
    let fits = some.1.most in
    ap Some (decimal-one n v (omega (arith, most, fits)) wide (sym some.0 ∙ is))

-- ---- chains

-- numbers with commas between
abbrev pub numbers_text : List ℕ → List ℕ
numbers_text ns = words_with 44 (map decimal ns)

commas : (ns : List ℕ) → flat_map (λ n. 44 ∷ decimal n) ns ≡ flat_map (λ v. 44 ∷ v) (map decimal ns)
commas [] = refl
commas (n ∷ ns) = ap (λ rest. 44 ∷ (decimal n ++ rest)) (commas ns)

-- a part of a chain has been read, and this is left
abbrev pub IsPartOf : List ℕ → List ℕ → List ℕ → Type 0
IsPartOf chain numbers rest = (left : List ℕ) × (chain ≡ numbers ++ left) × AllByRecursion IsWide left × (rest ≡ numbers_text left)

pub chain-none : (word chain : List ℕ) → word ≡ codes "-" → AllByRecursion IsWide chain → word ≡ chain_text chain → [] ≡ chain
chain-none word [] dash wide is = refl
chain-none word (n ∷ ns) dash wide is = absurd (digits-begin n [] (flat_map (λ n. 44 ∷ decimal n) ns) 45 wide.0 (omega arith) (sym dash ∙ is))

pub chain-all : (word numbers chain : List ℕ) → numbers ≡ [] → (word ≡ codes "-" → ⊥) → AllByRecursion IsWide chain → word ≡ chain_text chain
    → IsPartOf chain numbers word
chain-all word numbers [] none dash wide is = absurd (dash is)
chain-all word numbers (n ∷ ns) none dash wide is =
    (n ∷ ns, ap (λ m. m ++ n ∷ ns) (sym none), wide, is ∙ ap (λ rest. decimal n ++ rest) (commas ns))

-- where there are bytes left, there is a number
abbrev HasNumber : List ℕ → List ℕ → List ℕ → List ℕ → Type 0
HasNumber chain numbers first others = (n : ℕ) × IsWide n × (first ≡ decimal n) × IsPartOf chain (numbers ++ n ∷ []) others

part-number : (chain numbers rest first others : List ℕ) → IsPartOf chain numbers rest → (rest ≡ [] → ⊥) → IsPiece 44 rest first others
    → HasNumber chain numbers first others
part-number chain numbers rest first others part some piece = by part.0 part.1 part.2 part.3
  where
    by : (left : List ℕ) → chain ≡ numbers ++ left → AllByRecursion IsWide left → rest ≡ numbers_text left → HasNumber chain numbers first others
    by [] whole wide is = absurd (some is)
    by (n ∷ ns) whole wide is =
        let h = piece-words_with 44 (decimal n) (map decimal ns) rest first others piece
        (sym (lacks-same 44 (decimal n)) ∙ lacks-low 10 44 n ten (omega arith) wide.0) is in
        (n, wide.0, h.0, (ns, whole ∙ sym (append_assoc numbers (n ∷ []) ns), wide.1, h.1))

module _ (chain numbers rest first others : List ℕ) (found : Option ℕ) (part : IsPartOf chain numbers rest) (some : rest ≡ [] → ⊥)
    (piece : IsPiece 44 rest first others)
    (same : (own : Option ℕ) → IfSome own IsWide → first ≡ own_text own → found ≡ own) where
  pub part-none : None ≡ found → ⊥
  part-none none =
      let h = part-number chain numbers rest first others part some piece in
      differ (none ∙ same (Some h.0) h.1 h.2)
    where
      differ : {n : ℕ} → None ≡ Some n → ⊥
      differ e = cc

  pub part-more : (n : ℕ) (new : List ℕ) → Some n ≡ found → new ≡ numbers ++ n ∷ [] → IsPartOf chain new others
  part-more n new is made =
      let h = part-number chain numbers rest first others part some piece in
      let one : h.0 ≡ n = inner (sym (same (Some h.0) h.1 h.2) ∙ sym is) in
      subst (λ ns. IsPartOf chain ns others) (ap (λ n. numbers ++ n ∷ []) one ∙ sym made) h.3
    where
      inner : {a b : ℕ} → Some a ≡ Some b → a ≡ b
      inner e = cc

pub part-all : (chain numbers rest : List ℕ) → IsPartOf chain numbers rest → rest ≡ [] → numbers ≡ chain
part-all chain numbers rest part none = by part.0 part.1 part.2 part.3
  where
    by : (left : List ℕ) → chain ≡ numbers ++ left → AllByRecursion IsWide left → rest ≡ numbers_text left → numbers ≡ chain
    by [] whole wide is = sym (append-nil numbers) ∙ sym whole
    by (n ∷ ns) whole wide is = absurd (digits-some n (flat_map (λ v. 44 ∷ v) (map decimal ns)) wide.0 (sym none ∙ is))

-- ---- flags

-- what words say
abbrev flags_read : List ℕ → Flags
flags_read words =
    let a = flag_in (codes "dontfork") words in
    let b = flag_in (codes "wipeonfork") a.1 in
    let c = flag_in (codes "locked") b.1 in
    record { dont_fork = a.0; wipe_on_fork = b.0; locked = c.0; mergeable = (flag_in (codes "mergeable") c.1).0 }

flags-again : (d w l m : Bool) → flags_read (words_with 32 (flag_words (record { dont_fork = d; wipe_on_fork = w; locked = l; mergeable = m })))
    ≡ record { dont_fork = d; wipe_on_fork = w; locked = l; mergeable = m }
unfolding after
flags-again false false false false = refl
flags-again false false false true = refl
flags-again false false true false = refl
flags-again false false true true = refl
flags-again false true false false = refl
flags-again false true false true = refl
flags-again false true true false = refl
flags-again false true true true = refl
flags-again true false false false = refl
flags-again true false false true = refl
flags-again true false true false = refl
flags-again true false true true = refl
flags-again true true false false = refl
flags-again true true false true = refl
flags-again true true true false = refl
flags-again true true true true = refl

pub flags-same : (flags : Flags) (words : List ℕ) → words ≡ words_with 32 (flag_words flags)
    → (d w l m : Bool) (a b c e : List ℕ) → (d, a) ≡ flag_in (codes "dontfork") words → (w, b) ≡ flag_in (codes "wipeonfork") a
    → (l, c) ≡ flag_in (codes "locked") b → (m, e) ≡ flag_in (codes "mergeable") c
    → record { dont_fork = d; wipe_on_fork = w; locked = l; mergeable = m } ≡ flags
flags-same flags words is d w l m a b c e first second third last =
    let second' = second ∙ ap (λ (p : Bool × List ℕ). flag_in (codes "wipeonfork") p.1) first in
    let third' = third ∙ ap (λ (p : Bool × List ℕ). flag_in (codes "locked") p.1) second' in
    let last' = last ∙ ap (λ (p : Bool × List ℕ). flag_in (codes "mergeable") p.1) third' in
    (λ i. record { dont_fork = (first i).0; wipe_on_fork = (second' i).0; locked = (third' i).0; mergeable = (last' i).0 })
    ∙ ap flags_read is ∙ flags-again flags.dont_fork flags.wipe_on_fork flags.locked flags.mergeable
