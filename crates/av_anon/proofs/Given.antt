-- What a call leaves of the areas and the spans.
use Rattle.std.proofs.Common.{◌≡◌, ℕ, ◌^◌, ◌<◌, true, false, Option, Some, List, [], refl, sym, ap, ◌∙◌, subst, inl, inr}
use Rattle.std.proofs.lemmas.Bool.{cases_eq}
use Rattle.av_base.specs.Words.{is_in, with_at}
use Rattle.av_interval.specs.declared.span.Span.{Span}
use Rattle.av_interval.specs.Span.{key_of}
use Rattle.av_vma.specs.declared.area.Area.{Area}
use Rattle.av_anon.specs.Anons.{give_own, with_own}
use Rattle.av_anon.specs.Spans.{present, span_at, spans_with, spans_without, GoWithLinks}
use Rattle.av_anon.proofs.Words.{with_at-here, with_at-other, with_at-same, with_at-twice}
use Rattle.av_anon.proofs.Spanned.{areas_changed, owned, with_links-spans, left-spans}

pub own-given : (areas areas' : ℕ → Option Area) (a : ℕ) (A : Area) (own : Option ℕ) → areas a ≡ Some A → ((n : ℕ)
    → areas' n ≡ with_at a (Some (record A { anon = own })) areas n) → (n : ℕ) → areas' n ≡ give_own a own areas n
own-given areas areas' a A own is new n = new n ∙ ap (λ o. with_at a o areas n) (sym (ap (with_own own) is))

module _ (areas areas' : ℕ → Option Area) (chain chain' : ℕ → List ℕ) (spans : ℕ
    → List Span) (g : GoWithLinks areas chain spans) (a : ℕ) (A : Area) (is : areas a ≡ Some A) (fit : a < 2 ^ 64) where
  pub given-spans : (own : Option ℕ) (anons : List ℕ) (new : ℕ → List Span) → chain a ≡ [] → ((v : ℕ)
      → new v ≡ spans_with anons (span_at a A) spans v) → chain' ≡ with_at a anons chain → ((n : ℕ) → areas' n ≡ give_own a own areas n)
      → GoWithLinks areas' chain' new
  given-spans own anons new empty new_is chain_is areas_is =
      owned areas chain' new (subst (λ c. GoWithLinks areas c new) (sym chain_is)
      (with_links-spans areas chain spans g a A is fit empty anons new new_is)) a own areas' areas_is

  pub left-and-owned : (own : Option ℕ) (new : ℕ → List Span) → ((v : ℕ) → new v ≡ spans_without (chain a) (key_of A.pgoff a) spans v)
      → chain' ≡ with_at a [] chain → ((n : ℕ) → areas' n ≡ give_own a own areas n) → GoWithLinks areas' chain' new
  left-and-owned own new new_is chain_is areas_is =
      owned areas chain' new (subst (λ c. GoWithLinks areas c new) (sym chain_is)
      (left-spans areas chain spans g a A is fit new new_is)) a own areas' areas_is

  pub with_bounds-spans : (B : Area) (left new : ℕ → List Span) → ((v : ℕ) → left v ≡ spans_without (chain a) (key_of A.pgoff a) spans v) → ((v : ℕ)
      → new v ≡ spans_with (chain a) (span_at a B) left v) → ((n : ℕ) → areas' n ≡ with_at a (Some B) areas n) → GoWithLinks areas' chain new
  with_bounds-spans B left new left_is new_is areas_is =
      let bare : GoWithLinks areas (with_at a [] chain) left = left-spans areas chain spans g a A is fit left left_is in
      let moved : GoWithLinks areas' (with_at a [] chain) left = areas_changed areas (with_at a [] chain) left bare areas' same in
      let back : GoWithLinks areas' (with_at a (chain a) (with_at a [] chain)) new = with_links-spans areas' (with_at a [] chain) left moved a B
      (areas_is a ∙ with_at-here a (Some B) areas) fit (with_at-here a [] chain) (chain a) new new_is in
      subst (λ c. GoWithLinks areas' c new) (λ i n. (with_at-twice a (chain a) [] chain n ∙ with_at-same a (chain a) chain refl n) i) back
    where
      no : false ≡ true → ⊥
      no e = cc

      same : (v n : ℕ) → is_in v (with_at a [] chain n) ≡ true → present n (areas' n) ≡ present n (areas n)
      same v n h = elim (cases_eq n a) [
        | inl e ↦ absurd (no (sym (ap (λ m. is_in v (with_at a [] chain m)) e ∙ ap (is_in v) (with_at-here a [] chain)) ∙ h))
        | inr ne ↦ ap (present n) (areas_is n ∙ with_at-other a (Some B) areas n ne)
      ]
