-- The line of a row is read back.
use Rattle.std.proofs.Common.{Bool, false, true, ◌≡◌, ◌<◌, ℕ, List, [], ◌∷◌, ◌++◌, length, drop, Option, Some, None, refl, ap, ◌∙◌, append-nil, arith}
use Rattle.std.specs.Prelude.{if◌then◌else◌, map, codes, IfSome}
use Rattle.std.specs.List.{flat_map, AllByRecursion}
use Rattle.std.specs.Fmt.{decimal}
use Rattle.std.proofs.lemmas.List.{drop_at}
use Rattle.std.specs.Str.{bytes_eq}
use Rattle.av_base.specs.declared.flags.Flags.{Flags}
use Rattle.av_trace.specs.declared.row.Row.{Row}
use Rattle.av_trace.specs.declared.row.Row.TheVariants as rows
use Rattle.av_text.specs.Number.{IsWide}
use Rattle.av_trace.specs.Row.{chain_text, flag_words, own_text, row_line, word_if, IsRun, IsAreaRow, IsEntry}
use Rattle.av_text.specs.Word.{◌>>=◌}
use Rattle.av_text.proofs.NumberLaws.{ten}
use Rattle.av_trace.proofs.PlainWords.{number_of, hex_of, range_of, prot_of_word, lacks-low, word_of-again, Names, number-named, hex-named, prot-named, range-named, plain_name, next, last, LineReader, IsLineOf, AreRead, no_word, word, line_from}
use Rattle.av_trace.proofs.Split.{IsPlain, lacks, lacks-append, lacks-cons, split, split-last, split-more}

-- ---- runs

pub run_of : LineReader Row
run_of words = next range_of (λ range. next prot_of_word (λ prot. last (rows.Run range.0 range.1 prot))) words

pub run_line-is : (row : Row) → IsRun row → IsLineOf run_of (row_line row) row
unfolding run_of
run_line-is (rows.Run start end prot) h = line_from (word _ (range-named h.0 h.1) (word _ (prot-named prot) no_word))
run_line-is (rows.Area start end prot offset own chain flags) h = absurd h
run_line-is (rows.Entry p address) h = absurd h

-- ---- words of areas

-- what follows a label
abbrev behind : {A : Type 0} → List ℕ → (List ℕ → Option A) → List ℕ → Option A
behind label read w = read (drop (length label) w)

behind-named : (label : List ℕ) {A : Type 0} {read : List ℕ → Option A} {w : List ℕ} {x : A} → lacks 32 label ≡ true → lacks 10 label ≡ true
    → Names read w x
    → Names (behind label read) (label ++ w) x
behind-named label {read = read} {w = w} space newline named = record {
  plain = record { space = lacks-append 32 label w space named.plain.space; newline = lacks-append 10 label w newline named.plain.newline };
  again = ap read (drop_at label w (length label) refl) ∙ named.again;
}

-- a number, or none
unfoldable own_of : List ℕ → Option (Option ℕ)
own_of w = if lacks 45 w then (number_of w >>= λ n. Some (Some n)) else Some None

own-named : (own : Option ℕ) → IfSome own IsWide → Names own_of (own_text own) own
unfolding own_of
own-named None h = record { plain = plain_name (codes "-") refl refl; again = refl }
own-named (Some v) h =
    let named = number-named h in
    record { plain = named.plain; again = rw (lacks-low 10 45 v ten (omega arith) h, named.again) refl }

abbrev after_commas : List ℕ → List ℕ
after_commas vs = flat_map (λ v. 44 ∷ decimal v) vs

-- each word is a number
abbrev numbers_of : List (List ℕ) → Option (List ℕ)
numbers_of [] = Some []
numbers_of (w ∷ words) = number_of w >>= λ n. numbers_of words >>= λ ns. Some (n ∷ ns)

numbers_of-again : (vs : List ℕ) → AllByRecursion IsWide vs → numbers_of (map decimal vs) ≡ Some vs
numbers_of-again [] h = refl
numbers_of-again (v ∷ vs) h = rw (word_of-again 10 v ten h.0, numbers_of-again vs h.1) refl

split-commas : (v : ℕ) (vs : List ℕ) → IsWide v → AllByRecursion IsWide vs → split 44 (decimal v ++ after_commas vs) ≡ map decimal (v ∷ vs)
split-commas v [] h hs = ap (split 44) (append-nil (decimal v)) ∙ split-last 44 (decimal v) (lacks-low 10 44 v ten (omega arith) h)
split-commas v (w ∷ vs) h hs =
    split-more 44 (decimal v) (decimal w ++ after_commas vs) (lacks-low 10 44 v ten (omega arith) h)
    ∙ ap (λ t. decimal v ∷ t) (split-commas w vs hs.0 hs.1)

lacks-commas : (c : ℕ) (vs : List ℕ) → c < 48 → (44 ≡ c → ⊥) → AllByRecursion IsWide vs → lacks c (after_commas vs) ≡ true
lacks-commas c [] low other hs = refl
lacks-commas c (v ∷ vs) low other hs =
    lacks-cons c 44 (decimal v ++ after_commas vs) other
    (lacks-append c (decimal v) (after_commas vs) (lacks-low 10 c v ten low hs.0) (lacks-commas c vs low other hs.1))

lacks-chain : (c v : ℕ) (vs : List ℕ) → c < 48 → (44 ≡ c → ⊥) → IsWide v → AllByRecursion IsWide vs → lacks c (decimal v ++ after_commas vs) ≡ true
lacks-chain c v vs low other h hs = lacks-append c (decimal v) (after_commas vs) (lacks-low 10 c v ten low h) (lacks-commas c vs low other hs)

-- numbers with commas between, or none
unfoldable chain_of : List ℕ → Option (List ℕ)
chain_of w = if lacks 45 w then numbers_of (split 44 w) else Some []

chain-named : (chain : List ℕ) → AllByRecursion IsWide chain → Names chain_of (chain_text chain) chain
unfolding chain_of
chain-named [] h = record { plain = plain_name (codes "-") refl refl; again = refl }
chain-named (v ∷ vs) h = record {
  plain = record {
    space = lacks-chain 32 v vs (omega arith) (λ e. omega arith) h.0 h.1;
    newline = lacks-chain 10 v vs (omega arith) (λ e. omega arith) h.0 h.1;
  };
  again = rw (lacks-chain 45 v vs (omega arith) (λ e. omega arith) h.0 h.1) (ap numbers_of (split-commas v vs h.0 h.1) ∙ numbers_of-again (v ∷ vs) h);
}

-- ---- flags

-- whether the next word is this one
abbrev flag_at : {B : Type 0} → List ℕ → (Bool → LineReader B) → LineReader B
flag_at name more [] = more false []
flag_at name more (w ∷ words) = if bytes_eq w name then more true words else more false (w ∷ words)

unfoldable flags_at : {B : Type 0} → (Flags → B) → LineReader B
flags_at more words =
    flag_at (codes "dontfork") (
    λ dont_fork. flag_at (codes "wipeonfork") (
    λ wipe_on_fork. flag_at (codes "locked") (
    λ locked. flag_at (codes "mergeable") (
    λ mergeable. last (more (record { dont_fork = dont_fork; wipe_on_fork = wipe_on_fork; locked = locked; mergeable = mergeable }))
    )
    )
    )
    ) words

flags-again : {B : Type 0} (more : Flags → B) (d w l m : Bool)
    → flags_at more (flag_words (record { dont_fork = d; wipe_on_fork = w; locked = l; mergeable = m }))
    ≡ Some (more (record { dont_fork = d; wipe_on_fork = w; locked = l; mergeable = m }))
unfolding flags_at
flags-again more false false false false = refl
flags-again more false false false true = refl
flags-again more false false true false = refl
flags-again more false false true true = refl
flags-again more false true false false = refl
flags-again more false true false true = refl
flags-again more false true true false = refl
flags-again more false true true true = refl
flags-again more true false false false = refl
flags-again more true false false true = refl
flags-again more true false true false = refl
flags-again more true false true true = refl
flags-again more true true false false = refl
flags-again more true true false true = refl
flags-again more true true true false = refl
flags-again more true true true true = refl

module _ (m : Bool) where
  abbrev last_words : List (List ℕ)
  last_words = word_if m (codes "mergeable")

  mergeable-plain : AllByRecursion IsPlain last_words
  mergeable-plain = by m
    where
      by : (m : Bool) → AllByRecursion IsPlain (word_if m (codes "mergeable"))
      by true = (plain_name (codes "mergeable") refl refl, tt)
      by false = tt

  locked-plain : (l : Bool) → AllByRecursion IsPlain (word_if l (codes "locked") ++ last_words)
  locked-plain true = (plain_name (codes "locked") refl refl, mergeable-plain)
  locked-plain false = mergeable-plain

  wiped-plain : (w l : Bool) → AllByRecursion IsPlain (word_if w (codes "wipeonfork") ++ word_if l (codes "locked") ++ last_words)
  wiped-plain true true = (plain_name (codes "wipeonfork") refl refl, locked-plain true)
  wiped-plain true false = (plain_name (codes "wipeonfork") refl refl, locked-plain false)
  wiped-plain false true = locked-plain true
  wiped-plain false false = locked-plain false

flags-plain : (d w l m : Bool) → AllByRecursion IsPlain (flag_words (record { dont_fork = d; wipe_on_fork = w; locked = l; mergeable = m }))
flags-plain true true true m = (plain_name (codes "dontfork") refl refl, wiped-plain m true true)
flags-plain true true false m = (plain_name (codes "dontfork") refl refl, wiped-plain m true false)
flags-plain true false true m = (plain_name (codes "dontfork") refl refl, wiped-plain m false true)
flags-plain true false false m = (plain_name (codes "dontfork") refl refl, wiped-plain m false false)
flags-plain false true true m = wiped-plain m true true
flags-plain false true false m = wiped-plain m true false
flags-plain false false true m = wiped-plain m false true
flags-plain false false false m = wiped-plain m false false

flags-named : {B : Type 0} (more : Flags → B) (flags : Flags) → AreRead (flags_at more) (flag_words flags) (more flags)
flags-named more flags = record {
  plain = flags-plain flags.dont_fork flags.wipe_on_fork flags.locked flags.mergeable;
  again = flags-again more flags.dont_fork flags.wipe_on_fork flags.locked flags.mergeable;
}

-- ---- areas

pub area_of : LineReader Row
area_of words =
    next range_of (
    λ range. next prot_of_word (
    λ prot. next (behind (codes "off=") hex_of) (
    λ offset. next (behind (codes "own=") own_of) (
    λ own. next (behind (codes "chain=") chain_of) (λ chain. flags_at (rows.Area range.0 range.1 prot offset own chain))
    )
    )
    )
    ) words

pub area_line-is : (row : Row) → IsAreaRow row → IsLineOf area_of (row_line row) row
unfolding area_of
area_line-is (rows.Run start end prot) h = absurd h
area_line-is (rows.Area start end prot offset own chain flags) h =
    line_from
    (word _ (range-named h.0 h.1)
    (word _ (prot-named prot)
    (word _ (behind-named (codes "off=") refl refl (hex-named h.2))
    (word _ (behind-named (codes "own=") refl refl (own-named own h.3))
    (word _ (behind-named (codes "chain=") refl refl (chain-named chain h.4)) (flags-named (rows.Area start end prot offset own chain) flags))))))
area_line-is (rows.Entry p address) h = absurd h

-- ---- entries

pub entry_of : LineReader Row
entry_of words = next number_of (λ p. next hex_of (λ address. last (rows.Entry p address))) words

pub entry_line-is : (row : Row) → IsEntry row → IsLineOf entry_of (row_line row) row
unfolding entry_of
entry_line-is (rows.Run start end prot) h = absurd h
entry_line-is (rows.Area start end prot offset own chain flags) h = absurd h
entry_line-is (rows.Entry p address) h = line_from (word _ (number-named h.0) (word _ (hex-named h.1) no_word))
