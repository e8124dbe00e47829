-- Parts whose entries are those of other parts with a function applied to each.
use Rattle.std.proofs.Common.{◌≡◌, ℕ, suc, ◌+◌, ◌/◌, ◌%◌, ◌<◌, ◌≤◌, List, [], ◌∷◌, length, slice_set, get_or, refl, sym, ap, subst, ◌∙◌, arith, inl, inr, cond, true, false, Bool, Some, None, get_or-set_same, get_or-set_other}
use Rattle.std.specs.Prelude.{nat_lt, nat_eq}
use Rattle.std.specs.Map.{lookup}
use Rattle.std.proofs.lemmas.Bool.{cases_eq}
use Rattle.std.proofs.lemmas.List.{get_or_default}
use Rattle.av_pagetable.specs.declared.pte.Pte.{Pte}
use Rattle.av_pagetable.specs.declared.pte.Pte.TheVariants.{Empty, Zero, Here, Away}
use Rattle.av_pagetable.specs.Table.{child_entry, read_only}
use Rattle.av_pagetable.specs.Dir.{in_part, entries, AreParts}
use Rattle.av_pagetable.specs.Images.{IsImage, AreImages, AreAllImages}

-- no entry comes of an entry that is there
pub child_none : (e : Pte) → child_entry e ≡ Empty → e ≡ Empty
child_none Empty h = refl
child_none Zero h = cc
child_none (Here f write seen) h = cc
child_none (Away s) h = cc

pub read_only_none : (e : Pte) → read_only e ≡ Empty → e ≡ Empty
read_only_none Empty h = refl
read_only_none Zero h = cc
read_only_none (Here f write seen) h = cc
read_only_none (Away s) h = cc

-- one more part is changed in its place
module _ {C : Type 0} (at : C → ℕ → Pte) (f : Pte → Pte) (olds news : List (ℕ × C)) (n : ℕ) (p x : ℕ × C) (len : length news ≡ length olds)
    (within : n < length olds) (is : p ≡ get_or news n p)
    (others : (i : ℕ) (d : ℕ × C) → n ≤ i → i < length olds → get_or news i d ≡ get_or olds i d) where
  pub set_image : IsImage at f p x → AreImages at f n olds news → AreImages at f (n + 1) olds (slice_set news n x)
  set_image image images i d low = elim (cases_eq i n) [
    | inl e ↦ subst (λ k. IsImage at f (get_or olds k d) (get_or (slice_set news n x) k d)) (sym e)
        (subst (λ a. IsImage at f a (get_or (slice_set news n x) n d)) (is ∙ sym (get_or_default news n d p (omega (arith, within, len)))
        ∙ others n d (omega arith) within)
        (subst (IsImage at f p) (sym (get_or-set_same news n x d (omega (arith, within, len)))) image))
    | inr ne ↦ subst (IsImage at f (get_or olds i d)) (sym (get_or-set_other news n i x d ne)) (images i d (omega (arith, low, ne)))
  ]

  pub set_others : (i : ℕ) (d : ℕ × C) → n + 1 ≤ i → i < length olds → get_or (slice_set news n x) i d ≡ get_or olds i d
  set_others i d low high = get_or-set_other news n i x d (λ e. omega (arith, e, low)) ∙ others i d (omega (arith, low)) high

-- ---- all of them
found_image : {C : Type 0} (at : C → ℕ → Pte) (f : Pte → Pte) (olds news : List (ℕ × C)) → length news ≡ length olds →
    AreImages at f (length olds) olds news → f Empty ≡ Empty
    → (n page : ℕ) → in_part at (lookup (nat_eq n) news) page ≡ f (in_part at (lookup (nat_eq n) olds) page)
found_image at f [] [] len images none n page = sym none
found_image at f [] (q ∷ qs) len images none n page = absurd (omega (arith, len))
found_image at f (p ∷ ps) [] len images none n page = absurd (omega (arith, len))
found_image at f (p ∷ ps) (q ∷ qs) len images none n page =
    let head : IsImage at f p q = images 0 p (omega arith) in
    ap (λ m. in_part at (cond (nat_eq n m) (Some q.1) (lookup (nat_eq n) qs)) page) head.number
    ∙ by (nat_eq n p.0) (head.each page) (found_image at f ps qs (omega (arith, len)) (λ i d low. images (suc i) d (omega (arith, low))) none n page)
  where
    by : (b : Bool) → at q.1 page ≡ f (at p.1 page) → in_part at (lookup (nat_eq n) qs) page ≡ f (in_part at (lookup (nat_eq n) ps) page)
        → in_part at (cond b (Some q.1) (lookup (nat_eq n) qs)) page ≡ f (in_part at (cond b (Some p.1) (lookup (nat_eq n) ps)) page)
    by true head rest = head
    by false head rest = rest

module _ {C : Type 0} (at : C → ℕ → Pte) (span : ℕ) (f : Pte → Pte) (olds news : List (ℕ × C)) (images : AreAllImages at f olds news) where
  pub entries_image : f Empty ≡ Empty → (page : ℕ) → entries at span news page ≡ f (entries at span olds page)
  entries_image none page = by (nat_lt (page / span) 512)
    where
      by : (b : Bool) → in_part at (cond b (lookup (nat_eq (page / span)) news) None) (page % span) ≡ f
          (in_part at (cond b (lookup (nat_eq (page / span)) olds) None) (page % span))
      by true = found_image at f olds news images.many images.each none (page / span) (page % span)
      by false = sym none

  pub good_image : ((e : Pte) → f e ≡ Empty → e ≡ Empty) → AreParts at span olds → AreParts at span news
  good_image still good = record {
    rising = λ i j d lt high. let one = (images.each i d (omega (arith, lt, high, images.many))).number in let two =
        (images.each j d (omega (arith, high, images.many))).number in
        let old = good.rising i j d lt (omega (arith, high, images.many)) in omega (arith, one, two, old);
    below = λ i d high. let one = (images.each i d (omega (arith, high, images.many))).number in let old = good.below i d (omega (arith, high, images.many)) in
        omega (arith, one, old);
    full = λ i d high none. good.full i d (omega (arith, high, images.many))
        (λ page low. still _ (sym ((images.each i d (omega (arith, high, images.many))).each page) ∙ none page low));
  }
