-- Priorities: what is read is spelled so, and what is spelled is read.
use Rattle.std.proofs.Common.{◌≡◌, ℕ, List, [], ◌∷◌, ◌++◌, append-nil, Option, Some, None, refl, sym, ap, subst, ◌∙◌, lit<}
use Rattle.std.specs.Prelude.{codes}
use Rattle.std.specs.List.{flat_map}
use Rattle.std.specs.Fmt.{decimal}
use Rattle.std.proofs.lemmas.Option.{same_Some}
use Rattle.av_trace.specs.Priority.{greatest_priority, IsPriority, priority_words, priority_at}
use Rattle.av_text.specs.Number.{IsNumberIn, decimal_at}
use Rattle.av_text.specs.Word.{field, after}
use Rattle.av_text.proofs.NumberLaws.{reads_decimal}
use Rattle.av_text.proofs.WordLaws.{bind_some, after-found, IsEnd, IsRest, words_onto, Reads}

numbers : Reads (decimal_at 0 greatest_priority) (IsNumberIn 0 greatest_priority) (λ (n : ℕ). decimal n ∷ []) IsRest
numbers = reads_decimal 0 greatest_priority (lit< tt)

priority_at-found : (bytes : List ℕ) (x : Option ℕ × List ℕ) → priority_at bytes ≡ Some x
    → (bytes ≡ words_onto (priority_words x.0) x.1) × IsPriority x.0
unfolding priority_at
priority_at-found [] x e = subst (λ (y : Option ℕ × List ℕ). ([] ≡ words_onto (priority_words y.0) y.1) × IsPriority y.0) (same_Some _ _ e) (refl, tt)
priority_at-found (b ∷ bytes) x e =
    let rest = bind_some {A = List ℕ} _ _ _ e in
    let n = bind_some {A = ℕ × List ℕ} _ _ _ rest.second in
    let number = numbers.found rest.value n.value n.first in
    let name : b ∷ bytes ≡ codes " prio" ++ rest.value = after-found (codes " prio") (b ∷ bytes) rest.value rest.first in
    subst (λ (y : Option ℕ × List ℕ). (b ∷ bytes ≡ words_onto (priority_words y.0) y.1) × IsPriority y.0) (same_Some _ _ n.second)
    (name ∙ ap (λ (t : List ℕ). codes " prio" ++ t) number.0, number.1)

read_number : (n : ℕ) → IsNumberIn 0 greatest_priority n → decimal_at 0 greatest_priority (flat_map field (decimal n ∷ [])) ≡ Some (n, [])
read_number n h = ap (decimal_at 0 greatest_priority) (sym (append-nil (flat_map field (decimal n ∷ [])))) ∙ numbers.again n [] h tt

priority_at-again : (priority : Option ℕ) → IsPriority priority → priority_at (flat_map field (priority_words priority)) ≡ Some (priority, [])
unfolding priority_at after
priority_at-again None h = refl
priority_at-again (Some n) h = rw (read_number n h) refl

pub last_priority : Reads priority_at IsPriority priority_words IsEnd
last_priority = record {
  found = priority_at-found;
  again = λ priority rest fits end.
      let text : words_onto (priority_words priority) rest ≡ flat_map field (priority_words priority) = ap (words_onto (priority_words priority)) end
      ∙ append-nil (flat_map field (priority_words priority)) in
      ap priority_at text ∙ priority_at-again priority fits ∙ ap (λ (r : List ℕ). Some (priority, r)) (sym end);
  ends = λ rest end. subst IsRest (sym end) tt;
}
