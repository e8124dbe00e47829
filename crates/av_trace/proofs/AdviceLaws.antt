-- Advice: what is read is spelled so, and what is spelled is read.
use Rattle.std.proofs.Common.{◌≡◌, ℕ, List, [], ◌++◌, append-nil, Some, refl, sym, ap, subst, ◌∙◌}
use Rattle.std.specs.List.{flat_map, AllByRecursion}
use Rattle.av_trace.specs.declared.advice.Advice.{Advice}
use Rattle.av_trace.specs.declared.advice.Advice.TheVariants as advices
use Rattle.av_trace.specs.Advice.{advice_at, advice_words, names}
use Rattle.av_text.specs.Word.{after, field}
use Rattle.av_text.proofs.WordLaws.{named-found, IsEnd, IsRest, words_onto, Reads}

-- what a name stands for is spelled by it
abbrev IsName : List ℕ × Advice → Type 0
IsName name = (bytes : List ℕ) → name.0 ++ bytes ≡ words_onto (advice_words name.1) bytes

each_name : AllByRecursion IsName names
each_name = (λ _. refl, (λ _. refl, (λ _. refl, (λ _. refl, (λ _. refl, (λ _. refl, (λ _. refl, tt)))))))

advice_at-found : (bytes : List ℕ) (x : Advice × List ℕ) → advice_at bytes ≡ Some x → (bytes ≡ words_onto (advice_words x.0) x.1) × Unit {0}
unfolding advice_at
advice_at-found bytes x e =
    let name = named-found IsName names bytes x each_name e in
    (name.is ∙ name.fits x.1, tt)

advice_at-again : (advice : Advice) → advice_at (flat_map field (advice_words advice)) ≡ Some (advice, [])
unfolding advice_at after
advice_at-again advices.DontNeed = refl
advice_at-again advices.DontFork = refl
advice_at-again advices.DoFork = refl
advice_at-again advices.WipeOnFork = refl
advice_at-again advices.KeepOnFork = refl
advice_at-again advices.Mergeable = refl
advice_at-again advices.Unmergeable = refl

pub last_advice : Reads advice_at (λ _. Unit {0}) advice_words IsEnd
last_advice = record {
  found = advice_at-found;
  again = λ advice rest fits end.
      let text : words_onto (advice_words advice) rest ≡ flat_map field (advice_words advice) = ap (words_onto (advice_words advice)) end
      ∙ append-nil (flat_map field (advice_words advice)) in
      ap advice_at text ∙ advice_at-again advice ∙ ap (λ (r : List ℕ). Some (advice, r)) (sym end);
  ends = λ rest end. subst IsRest (sym end) tt;
}
