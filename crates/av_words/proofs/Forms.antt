-- The forms of words, by the places that words fill.
use Rattle.std.proofs.Common.{◌≡◌, ◌∙◌, ℕ, ◌==◌, ◌<◌, ◌≤◌, ◌^◌, Bool, ◌&&◌, not, true, false, zero, suc, refl, sym, subst, ap, ap₂, arith, List, [], ◌∷◌, ◌++◌}
use Rattle.std.proofs.Common.{length, Option, Some, codes, get_or}
use Rattle.std.specs.List.{list_all}
use Rattle.std.specs.Option.{unwrap_or}
use Rattle.std.specs.Fmt.{decimal}
use Rattle.std.proofs.lemmas.Bool.{eqb-true}
use Rattle.std.proofs.lemmas.Fmt.{decimal_digit, decimal_nonempty, first_decimal}
use Rattle.std.proofs.lemmas.List.Folds.{list_all-append}
use Rattle.clap.specs.Walk.{Row, Text, all_of}
use Rattle.av_words.specs.Words.{HasNoForm, IsForm, IsInRange, is_name, words_of}
use Rattle.av_words.specs.Places.{HasNoSplit, HasValues, IsAskedBy, IsParsed, Split, name_rows, names_in, rows_in, audit, run, verb_in, words_in, work}
use Rattle.av_words.specs.declared.words.Asked.{Asked}
use Rattle.av_words.specs.declared.words.Asked.TheVariants as asked
use Rattle.av_words.proofs.Places.{both, other_verb}
use Rattle.av_words.proofs.Values.{some_same}

-- ---- numbers are no flags

not_dash : (b : ℕ) → 48 ≤ b → not (b == 45) ≡ true
not_dash b least = go (b == 45) refl
  where
    go : (t : Bool) → (b == 45) ≡ t → not t ≡ true
    go false e = refl
    go true e = absurd (omega (arith, least, eqb-true b 45 e))

digit_first : (text : Text) → 0 < length text → 48 ≤ get_or text 0 0 → is_name text ≡ true
digit_first [] some least = absurd (omega (arith, some))
digit_first (b ∷ text) some least = not_dash b least

decimal_is_name : (n : ℕ) → n < 2 ^ 64 → is_name (decimal n) ≡ true
decimal_is_name zero fits = ap is_name (decimal_digit 0 (omega arith))
decimal_is_name (suc n) fits = digit_first (decimal (suc n)) (decimal_nonempty (suc n) fits) (omega (arith, first_decimal (suc n) (omega arith) fits))

form_words : (demand : Asked) → IsInRange demand → list_all is_name (words_of demand) ≡ true
form_words (asked.Run frames) within = ap (λ b. b && true) (decimal_is_name frames (omega (arith, within.most)))
form_words (asked.Audit frames) within = ap (λ b. b && true) (decimal_is_name frames (omega (arith, within.most)))
form_words (asked.Work seed lines frames) within =
    ap₂ (λ a b. a && b) (decimal_is_name seed (omega (arith, within.0.most)))
    (ap₂ (λ a b. a && (b && true)) (decimal_is_name lines (omega (arith, within.1.most))) (decimal_is_name frames (omega (arith, within.2.most))))

-- the words of a form are no flags
pub form_is_plain : (words : List Text) (demand : Asked) (names : List Text) → IsForm words demand names → list_all is_name words ≡ true
form_is_plain words demand names form =
    ap (list_all is_name) form.words_are ∙ list_all-append is_name (words_of demand) names
    ∙ ap₂ (λ a b. a && b) (form_words demand form.within) form.are_names.named

-- ---- a form fills the places of a command

abbrev split_of : Asked → List Text → Split
split_of (asked.Run frames) names = run (decimal frames) names
split_of (asked.Audit frames) names = audit (decimal frames) names
split_of (asked.Work seed lines frames) names = work (decimal seed) (decimal lines) (decimal frames) names

split_words : (demand : Asked) (names : List Text) → words_of demand ++ names ≡ words_in (split_of demand names)
split_words (asked.Run frames) names = refl
split_words (asked.Audit frames) names = refl
split_words (asked.Work seed lines frames) names = refl

split_names : (demand : Asked) (names : List Text) → names ≡ names_in (split_of demand names)
split_names (asked.Run frames) names = refl
split_names (asked.Audit frames) names = refl
split_names (asked.Work seed lines frames) names = refl

pub no_form : (words : List Text) → HasNoSplit words → HasNoForm words
no_form words none demand names form = none (split_of demand names) (record {
  words_are = form.words_are ∙ split_words demand names;
  few = subst (λ ns. length ns ≤ 8) (split_names demand names) form.are_names.few;
})

-- ---- what a verb and its values ask for

abbrev word_at : ℕ → List Text → Text
word_at i words = get_or words i []

asks : (split : Split) (demand : Asked) (names : List Text) → words_in split ≡ words_of demand ++ names
    → HasValues (verb_in split) (rows_in split) demand
asks (run f ns) (asked.Run frames) names e = (refl, ap Some (ap (word_at 1) e))
asks (run f ns) (asked.Work seed lines frames) names e = absurd (other_verb (codes "run") (codes "work") refl (ap (word_at 0) e) refl)
asks (work s l f ns) (asked.Run frames) names e = absurd (other_verb (codes "work") (codes "run") refl (ap (word_at 0) e) refl)
asks (work s l f ns) (asked.Work seed lines frames) names e =
    (refl, ap Some (ap (word_at 1) e), ap Some (ap (word_at 2) e), ap Some (ap (word_at 3) e))
asks (run f ns) (asked.Audit frames) names e = absurd (other_verb (codes "run") (codes "audit") refl (ap (word_at 0) e) refl)
asks (work s l f ns) (asked.Audit frames) names e = absurd (other_verb (codes "work") (codes "audit") refl (ap (word_at 0) e) refl)
asks (audit f ns) (asked.Audit frames) names e = (refl, ap Some (ap (word_at 1) e))
asks (audit f ns) (asked.Run frames) names e = absurd (other_verb (codes "audit") (codes "run") refl (ap (word_at 0) e) refl)
asks (audit f ns) (asked.Work seed lines frames) names e = absurd (other_verb (codes "audit") (codes "work") refl (ap (word_at 0) e) refl)

words_asked : (split : Split) (demand : Asked) → HasValues (verb_in split) (rows_in split) demand → words_in split ≡ words_of demand ++ names_in split
words_asked (run f ns) (asked.Run frames) v = ap (λ t. codes "run" ∷ t ∷ ns) (some_same v.1)
words_asked (run f ns) (asked.Work seed lines frames) v = absurd (other_verb (codes "run") (codes "work") refl v.0 refl)
words_asked (work s l f ns) (asked.Run frames) v = absurd (other_verb (codes "work") (codes "run") refl v.0 refl)
words_asked (work s l f ns) (asked.Work seed lines frames) v =
    λ i. codes "work" ∷ some_same v.1 i ∷ some_same v.2 i ∷ some_same v.3 i ∷ ns
words_asked (run f ns) (asked.Audit frames) v = absurd (other_verb (codes "run") (codes "audit") refl v.0 refl)
words_asked (work s l f ns) (asked.Audit frames) v = absurd (other_verb (codes "work") (codes "audit") refl v.0 refl)
words_asked (audit f ns) (asked.Audit frames) v = ap (λ t. codes "audit" ∷ t ∷ ns) (some_same v.1)
words_asked (audit f ns) (asked.Run frames) v = absurd (other_verb (codes "audit") (codes "run") refl v.0 refl)
words_asked (audit f ns) (asked.Work seed lines frames) v = absurd (other_verb (codes "audit") (codes "work") refl v.0 refl)

names_found : (names : List Text) → unwrap_or (all_of (codes "SWAP") (name_rows names)) [] ≡ names
names_found [] = refl
names_found (name ∷ names) = refl

all_names : (split : Split) → unwrap_or (all_of (codes "SWAP") (rows_in split)) [] ≡ names_in split
all_names (run f ns) = names_found ns
all_names (work s l f ns) = names_found ns
all_names (audit f ns) = names_found ns

plain_names : (split : Split) → list_all is_name (words_in split) ≡ true → list_all is_name (names_in split) ≡ true
plain_names (run f ns) e = (both (is_name f) (list_all is_name ns) e).1
plain_names (audit f ns) e = (both (is_name f) (list_all is_name ns) e).1
plain_names (work s l f ns) e =
    let behind_seed = both (is_name s) (is_name l && (is_name f && list_all is_name ns)) e in
    let behind_lines = both (is_name l) (is_name f && list_all is_name ns) behind_seed.1 in
    (both (is_name f) (list_all is_name ns) behind_lines.1).1

module _ (words : List Text) (plain : list_all is_name words ≡ true) (verb : Text) (rows : List Row)
    (parsed : IsParsed words (Some (verb, rows))) where
  verb_is : verb ≡ verb_in parsed.split
  verb_is = ap (λ (o : Option (Text × List Row)). (unwrap_or {T = Text × List Row} o (verb, rows)).0) parsed.found_is

  rows_are : rows ≡ rows_in parsed.split
  rows_are = ap (λ (o : Option (Text × List Row)). (unwrap_or {T = Text × List Row} o (verb, rows)).1) parsed.found_is

  -- nothing is asked for, so that the words are of no form
  pub none_asked : ((demand : Asked) → IsAskedBy verb rows demand → ⊥) → HasNoForm words
  none_asked none demand names form =
      let values = asks parsed.split demand names (sym parsed.is_split.words_are ∙ form.words_are) in
      none demand (
        subst (λ r. HasValues verb r demand) (sym rows_are)
            (subst (λ v. HasValues v (rows_in parsed.split) demand) (sym verb_is) values),
        form.within,
      )

  -- something is asked for
  pub form_asked : (demand : Asked) (names : List Text) → IsAskedBy verb rows demand → names ≡ unwrap_or (all_of (codes "SWAP") rows) []
      → IsForm words demand names
  form_asked demand names asked_by found =
      let values = subst (λ v. HasValues v (rows_in parsed.split) demand) verb_is (subst (λ r. HasValues verb r demand) rows_are asked_by.0) in
      let names_are : names ≡ names_in parsed.split = found ∙ ap (λ r. unwrap_or (all_of (codes "SWAP") r) []) rows_are ∙ all_names parsed.split in
      record {
        words_are = parsed.is_split.words_are ∙ words_asked parsed.split demand values ∙ ap (λ ns. words_of demand ++ ns) (sym names_are);
        within = asked_by.1;
        are_names = record {
          few = subst (λ ns. length ns ≤ 8) (sym names_are) parsed.is_split.few;
          named = ap (list_all is_name) names_are ∙ plain_names parsed.split (ap (list_all is_name) (sym parsed.is_split.words_are) ∙ plain);
        };
      }
