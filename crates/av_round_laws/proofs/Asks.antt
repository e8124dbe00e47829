-- Words ask for one thing.
use Rattle.std.proofs.Common.{◌≡◌, ◌∙◌, ℕ, ◌<◌, ◌^◌, refl, sym, ap, arith, List, [], codes, get_or}
use Rattle.std.specs.Fmt.{decimal}
use Rattle.std.proofs.lemmas.Option.{same_Some}
use Rattle.av_trace.proofs.PlainWords.{number-named, number_of}
use Rattle.av_words.specs.Words.{IsForm}
use Rattle.av_words.specs.declared.words.Asked.{Asked}
use Rattle.av_words.specs.declared.words.Asked.TheVariants as asked
use Rattle.av_words.proofs.Places.{other_verb}

one-number : (m n : ℕ) → m < 2 ^ 64 → n < 2 ^ 64 → decimal m ≡ decimal n → m ≡ n
one-number m n small few e =
    same_Some m n (sym (number-named {n = m} small).again ∙ ap number_of e ∙ (number-named {n = n} few).again)

abbrev word_at : ℕ → List (List ℕ) → List ℕ
word_at i words = get_or words i []

-- words that ask for a run ask for nothing else
pub asks-run : (words names others : List (List ℕ)) (n : ℕ) (demand : Asked) → IsForm words (asked.Run n) names → IsForm words demand others
    → demand ≡ asked.Run n
asks-run words names others n (asked.Run k) h g =
    ap asked.Run (one-number k n (omega (arith, g.within.most)) (omega (arith, h.within.most)) (ap (word_at 1) (sym g.words_are ∙ h.words_are)))
asks-run words names others n (asked.Work seed lines k) h g =
    absurd (other_verb (codes "work") (codes "run") refl (ap (word_at 0) (sym g.words_are ∙ h.words_are)) refl)
asks-run words names others n (asked.Audit k) h g =
    absurd (other_verb (codes "audit") (codes "run") refl (ap (word_at 0) (sym g.words_are ∙ h.words_are)) refl)

-- nor do those that ask for an audit
pub asks-audit : (words names others : List (List ℕ)) (n : ℕ) (demand : Asked) → IsForm words (asked.Audit n) names → IsForm words demand others
    → demand ≡ asked.Audit n
asks-audit words names others n (asked.Audit k) h g =
    ap asked.Audit (one-number k n (omega (arith, g.within.most)) (omega (arith, h.within.most)) (ap (word_at 1) (sym g.words_are ∙ h.words_are)))
asks-audit words names others n (asked.Work seed lines k) h g =
    absurd (other_verb (codes "work") (codes "audit") refl (ap (word_at 0) (sym g.words_are ∙ h.words_are)) refl)
asks-audit words names others n (asked.Run k) h g =
    absurd (other_verb (codes "run") (codes "audit") refl (ap (word_at 0) (sym g.words_are ∙ h.words_are)) refl)
