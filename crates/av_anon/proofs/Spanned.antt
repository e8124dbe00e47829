-- The spans go with the links through each call.
use Rattle.std.proofs.Common.{◌≡◌, ℕ, ◌^◌, ◌<◌, Bool, true, false, cond, IsSome, Option, Some, None, List, [], ◌∷◌, refl, sym, ap, ◌∙◌, subst, inl, inr, eq-eqb, filter}
use Rattle.std.proofs.lemmas.Bool.{cases_eq}
use Rattle.av_base.specs.Words.{is_in, with_at}
use Rattle.av_arena.specs.Order.{entry_at, with_entry, without_key}
use Rattle.av_interval.specs.declared.span.Span.{Span}
use Rattle.av_interval.specs.Span.{key, key_of}
use Rattle.av_interval.specs.Spans.{IsNew}
use Rattle.av_vma.specs.declared.area.Area.{Area}
use Rattle.av_anon.specs.Anons.{give_own, with_own}
use Rattle.av_anon.specs.Spans.{is_of, present, span_at, spans_with, spans_without, GoWithLinks}
use Rattle.av_anon.proofs.Words.{with_at-here, with_at-other}
use Rattle.av_anon.proofs.SpanLemmas.{Fits, none_of, new_none, found_of, with_other, with_new, with_fits, without_other, without_same, without_fits}

module _ (areas : ℕ → Option Area) (chain : ℕ → List ℕ) (spans : ℕ → List Span) (g : GoWithLinks areas chain spans) where
  -- an area without links has no span yet
  pub new_to_all : (a : ℕ) → chain a ≡ [] → (v : ℕ) → IsNew a (spans v)
  new_to_all a empty v = none_of a (spans v) (g.each v a ∙ ap (λ vs. cond (is_in v vs) (present a (areas a)) []) empty)

  -- other areas that have the same spans where they are linked
  pub areas_changed : (areas' : ℕ → Option Area) → ((v n : ℕ) → is_in v (chain n) ≡ true → present n (areas' n) ≡ present n (areas n))
      → GoWithLinks areas' chain spans
  areas_changed areas' same = record {
    each = λ v n. g.each v n ∙ pick v n (is_in v (chain n)) refl;
    numbers = g.numbers;
  }
    where
      pick : (v n : ℕ) (b : Bool) → is_in v (chain n) ≡ b → cond b (present n (areas n)) [] ≡ cond b (present n (areas' n)) []
      pick v n true h = sym (same v n h)
      pick v n false h = refl

  -- an area's own anon_vma changes
  pub owned : (a : ℕ) (own : Option ℕ) (areas' : ℕ → Option Area) → ((n : ℕ) → areas' n ≡ give_own a own areas n) → GoWithLinks areas' chain spans
  owned a own areas' is = areas_changed areas' (λ v n h. ap (present n) (is n) ∙ unowned n)
    where
      same : (n : ℕ) (o : Option Area) → present n (with_own own o) ≡ present n o
      same n None = refl
      same n (Some A) = refl

      unowned : (n : ℕ) → present n (give_own a own areas n) ≡ present n (areas n)
      unowned n = elim (cases_eq n a) [
        | inl e ↦ ap (λ b. present n (cond b (with_own own (areas a)) (areas n))) (eq-eqb n a e) ∙ same n (areas a)
            ∙ ap (λ m. present n (areas m)) (sym e)
        | inr ne ↦ ap (present n) (with_at-other a (with_own own (areas a)) areas n ne)
      ]

  module _ (a : ℕ) (A : Area) (is : areas a ≡ Some A) where
    only : (v : ℕ) → is_in v (chain a) ≡ true → filter (is_of a) (spans v) ≡ span_at a A ∷ []
    only v h = g.each v a ∙ ap (λ b. cond b (present a (areas a)) []) h ∙ ap (present a) is

    -- a linked area's span is there
    pub there_in_all : (v : ℕ) → is_in v (chain a) ≡ true → IsSome (entry_at key (key_of A.pgoff a) (spans v))
    there_in_all v h = found_of a (spans v) (span_at a A) [] (only v h)

    -- an area without links is linked to these, and its span put in
    pub with_links-spans : a < 2 ^ 64 → chain a ≡ [] → (anons : List ℕ) (new : ℕ → List Span) → ((v : ℕ)
        → new v ≡ spans_with anons (span_at a A) spans v) → GoWithLinks areas (with_at a anons chain) new
    with_links-spans fit empty anons new new_is = record {
      each = λ v n. elim (cases_eq n a) [
        | inl e ↦ subst (λ m. filter (is_of m) (new v) ≡ cond (is_in v (with_at a anons chain m)) (present m (areas m)) []) (sym e) (at_a v)
        | inr ne ↦ ap (filter (is_of n)) (new_is v) ∙ other n ne (is_in v anons) v ∙ g.each v n
            ∙ sym (ap (λ vs. cond (is_in v vs) (present n (areas n)) []) (with_at-other a anons chain n ne))
      ];
      numbers = λ v. subst Fits (sym (new_is v)) (fits v (is_in v anons));
    }
      where
        mine : (b : Bool) (v : ℕ) → filter (is_of a) (cond b (with_entry key (span_at a A) (spans v)) (spans v)) ≡ cond b (present a (areas a)) []
        mine true v = with_new (span_at a A) (spans v) fit (g.numbers v) (new_to_all a empty v) ∙ sym (ap (present a) is)
        mine false v = new_none a (spans v) (new_to_all a empty v)

        at_a : (v : ℕ) → filter (is_of a) (new v) ≡ cond (is_in v (with_at a anons chain a)) (present a (areas a)) []
        at_a v = ap (filter (is_of a)) (new_is v) ∙ mine (is_in v anons) v
            ∙ sym (ap (λ vs. cond (is_in v vs) (present a (areas a)) []) (with_at-here a anons chain))

        other : (n : ℕ) → (n ≡ a → ⊥) → (b : Bool) (v : ℕ)
            → filter (is_of n) (cond b (with_entry key (span_at a A) (spans v)) (spans v)) ≡ filter (is_of n) (spans v)
        other n ne true v = with_other n (span_at a A) (spans v) (λ e. ne (sym e))
        other n ne false v = refl

        fits : (v : ℕ) (b : Bool) → Fits (cond b (with_entry key (span_at a A) (spans v)) (spans v))
        fits v true = with_fits (span_at a A) (spans v) fit (g.numbers v)
        fits v false = g.numbers v

    -- an area leaves all its links, and its spans are taken out
    pub left-spans : a < 2 ^ 64 → (new : ℕ → List Span) → ((v : ℕ) → new v ≡ spans_without (chain a) (key_of A.pgoff a) spans v)
        → GoWithLinks areas (with_at a [] chain) new
    left-spans fit new new_is = record {
      each = λ v n. elim (cases_eq n a) [
        | inl e ↦ subst (λ m. filter (is_of m) (new v) ≡ cond (is_in v (with_at a [] chain m)) (present m (areas m)) []) (sym e) (at_a v)
        | inr ne ↦ ap (filter (is_of n)) (new_is v) ∙ other n ne (is_in v (chain a)) v ∙ g.each v n
            ∙ sym (ap (λ vs. cond (is_in v vs) (present n (areas n)) []) (with_at-other a [] chain n ne))
      ];
      numbers = λ v. subst Fits (sym (new_is v)) (fits v (is_in v (chain a)));
    }
      where
        mine : (v : ℕ) (b : Bool) → is_in v (chain a) ≡ b → filter (is_of a) (cond b (without_key key (key_of A.pgoff a) (spans v)) (spans v)) ≡ []
        mine v true h = without_same (span_at a A) (spans v) fit (g.numbers v) (only v h)
        mine v false h = g.each v a ∙ ap (λ b. cond b (present a (areas a)) []) h

        at_a : (v : ℕ) → filter (is_of a) (new v) ≡ cond (is_in v (with_at a [] chain a)) (present a (areas a)) []
        at_a v = ap (filter (is_of a)) (new_is v) ∙ mine v (is_in v (chain a)) refl
            ∙ sym (ap (λ vs. cond (is_in v vs) (present a (areas a)) []) (with_at-here a [] chain))

        other : (n : ℕ) → (n ≡ a → ⊥) → (b : Bool) (v : ℕ)
            → filter (is_of n) (cond b (without_key key (key_of A.pgoff a) (spans v)) (spans v)) ≡ filter (is_of n) (spans v)
        other n ne true v = without_other n (span_at a A) (spans v) fit (g.numbers v) (λ e. ne (sym e))
        other n ne false v = refl

        fits : (v : ℕ) (b : Bool) → Fits (cond b (without_key key (key_of A.pgoff a) (spans v)) (spans v))
        fits v true = without_fits (key_of A.pgoff a) (spans v) (g.numbers v)
        fits v false = g.numbers v
