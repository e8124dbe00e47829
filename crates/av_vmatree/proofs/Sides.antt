-- The spans on the two sides of a page: what they are, and which spans they must be.
use Rattle.std.proofs.Common.{◌≡◌, ℕ, ◌<◌, ◌≤◌, true, false, cond, eqb, ltb, leb, Option, Some, None, List, [], ◌∷◌, refl, sym, ap, subst, ◌∙◌, arith}
use Rattle.std.specs.Option.{option_or}
use Rattle.std.proofs.lemmas.Bool.{leb-true, ltb-true, le-leb, lt-leb, lt-ltb, le-ltb, eq-eqb, eqb-true, false_from_ne_true}
use Rattle.std.proofs.lemmas.Option.{none-some, same_Some}
use Rattle.std.specs.List.{AllByRecursion}
use Rattle.av_vmatree.specs.declared.span.Span.{Span}
use Rattle.av_vmatree.specs.Spans.{AreApart, AreDistinct, first_from, last_below, span_of}
use Rattle.av_vmatree.proofs.Spans.{all_found}

-- a span of the rest is that of another area than the first
later_span : (b : Span) (xs : List Span) (n : ℕ) (s : Span) → AreDistinct (b ∷ xs) → span_of xs n ≡ Some s → span_of (b ∷ xs) n ≡ Some s
later_span b xs n s d e = ap (λ v. cond v (Some b) (span_of xs n))
    (false_from_ne_true (eqb n b.area) (λ h. none-some s (sym d.0 ∙ ap (span_of xs) (sym (eqb-true n b.area h)) ∙ e))) ∙ e

-- the first span is that of its area
first_span : (b : Span) (xs : List Span) → span_of (b ∷ xs) b.area ≡ Some b
first_span b xs = ap (λ v. cond v (Some b) (span_of xs b.area)) (eq-eqb b.area b.area refl)

-- a span that is there, as what lies on a side of a page
pub record IsThere (spans : List Span) (s : Span) (P : Span → Type 0) : Type 0 where
  pub there : span_of spans s.area ≡ Some s
  pub side : P s

pub below_is : (spans : List Span) (page : ℕ) (s : Span) → AreDistinct spans → last_below spans page ≡ Some s → IsThere spans s (λ t. t.from < page)
below_is [] page s d e = absurd (none-some s e)
below_is (b ∷ xs) page s d e = go (λ r is. below_is xs page r d.1 is) (last_below xs page) refl e
  where
    here : option_or None (cond (ltb b.from page) (Some b) None) ≡ Some s → IsThere (b ∷ xs) s (λ t. t.from < page)
    here e = elim (ltb b.from page) as (λ v. ltb b.from page ≡ v → cond v (Some b) None ≡ Some s → IsThere (b ∷ xs) s (λ t. t.from < page)) [
      | true ↦ λ h e. subst (λ t. IsThere (b ∷ xs) t (λ t. t.from < page)) (same_Some b s e)
          (record { there = first_span b xs; side = ltb-true _ _ h })
      | false ↦ λ h e. absurd (none-some s e)
    ] refl e

    go : ((r : Span) → last_below xs page ≡ Some r → IsThere xs r (λ t. t.from < page)) → (o : Option Span) → last_below xs page ≡ o →
        option_or o (cond (ltb b.from page) (Some b) None) ≡ Some s → IsThere (b ∷ xs) s (λ t. t.from < page)
    go rest None is e = here e
    go rest (Some r) is e =
        let k = rest s (is ∙ e) in
        record { there = later_span b xs s.area s d k.there; side = k.side }

pub from_is : (spans : List Span) (page : ℕ) (s : Span) → AreDistinct spans → first_from spans page ≡ Some s → IsThere spans s (λ t. page ≤ t.from)
from_is [] page s d e = absurd (none-some s e)
from_is (b ∷ xs) page s d e = elim (leb page b.from) as (λ v. leb page b.from ≡ v → cond v (Some b) (first_from xs page) ≡ Some s →
    IsThere (b ∷ xs) s (λ t. page ≤ t.from)) [
      | true ↦ λ h e. subst (λ t. IsThere (b ∷ xs) t (λ t. page ≤ t.from)) (same_Some b s e)
          (record { there = first_span b xs; side = leb-true _ _ h })
      | false ↦ λ h e. let k = from_is xs page s d.1 e in record { there = later_span b xs s.area s d k.there; side = k.side }
    ] refl e

-- a span of a row is its first or a later one
pub in_row : (P : Type 0) (s : Span) (spans : List Span) (k : ℕ) (t : Span) → span_of (s ∷ spans) k ≡ Some t → (s ≡ t → P)
    → (span_of spans k ≡ Some t → P) → P
in_row P s spans k t e first later = elim (eqb k s.area) as (λ b. cond b (Some s) (span_of spans k) ≡ Some t → P) [
  | true ↦ λ e. first (same_Some s t e)
  | false ↦ λ e. later e
] e

-- no span is empty
pub all_wide : (xs : List Span) → AreApart xs → AllByRecursion (λ t. t.from < t.to) xs
all_wide [] apart = tt
all_wide (b ∷ xs) apart = (apart.0, all_wide xs apart.2)

none_below : (xs : List Span) (page : ℕ) → AllByRecursion (λ t. page ≤ t.from) xs → last_below xs page ≡ None
none_below [] page all = refl
none_below (b ∷ xs) page all = rw (none_below xs page all.1, le-ltb b.from page all.0) refl

all_from : (xs : List Span) (page to : ℕ) → page ≤ to → AllByRecursion (λ t. to ≤ t.from) xs → AllByRecursion (λ t. page ≤ t.from) xs
all_from [] page to h all = tt
all_from (b ∷ xs) page to h all = let k = all.0 in (omega arith, all_from xs page to h all.1)

-- a span that begins below a page and goes on up to it is the last that begins below
pub below_must : (spans : List Span) (n page : ℕ) (s : Span) → AreApart spans → span_of spans n ≡ Some s → s.from < page →
    page ≤ s.to → last_below spans page ≡ Some s
below_must [] n page s apart e low high = absurd (none-some s e)
below_must (b ∷ xs) n page s apart e low high = in_row (last_below (b ∷ xs) page ≡ Some s) b xs n s e
    (λ same. subst (λ (t : Span). t.from < page → page ≤ t.to → last_below (b ∷ xs) page ≡ Some t) same
    (λ low high. rw (none_below xs page (all_from xs page b.to high apart.1), lt-ltb b.from page low) refl) low high)
    (λ later. rw (below_must xs n page s apart.2 later low high) refl)

-- a span that begins with a page is the first that begins there or above
pub from_must : (spans : List Span) (n page : ℕ) (s : Span) → AreApart spans → span_of spans n ≡ Some s → s.from ≡ page
    → first_from spans page ≡ Some s
from_must [] n page s apart e is = absurd (none-some s e)
from_must (b ∷ xs) n page s apart e is = in_row (first_from (b ∷ xs) page ≡ Some s) b xs n s e
    (λ same. subst (λ (t : Span). t.from ≡ page → first_from (b ∷ xs) page ≡ Some t) same (λ is. rw (le-leb page b.from (omega arith)) refl) is)
    (λ later.
    let past : b.to ≤ s.from = all_found (λ t. b.to ≤ t.from) n xs s apart.1 later in
    let wide : b.from < b.to = apart.0 in
    rw (lt-leb page b.from (omega arith)) (from_must xs n page s apart.2 later is))
