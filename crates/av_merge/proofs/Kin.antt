-- Chain order and kin are kept by each elementary change of areas, and so by one after the other.
use Rattle.std.proofs.Common.{◌≡◌, ℕ, cond, length, List, Option, Some, None, is_some, option_map, refl, sym, ap, subst, ◌∙◌, arith}
use Rattle.std.proofs.lemmas.Option.{none-some}
use Rattle.av_base.specs.Words.{with_at}
use Rattle.av_interval.specs.declared.span.Span.{Span}
use Rattle.av_vma.specs.declared.area.Area.{Area}
use Rattle.av_vma.specs.Pages.{IsWhole}
use Rattle.av_anon.specs.Anons.{Family, family, give_own, own_of}
use Rattle.av_anon.specs.Fork.{after_clone, gets_own}
use Rattle.av_anon.specs.Kin.{chain_by, length_by}
use Rattle.av_anon.specs.Order.{IsArea, IsInOrder}
use Rattle.av_anon.specs.Resize.{with_bounds}
use Rattle.av_anon.specs.Spans.{GoWithLinks, span_at, spans_of}
use Rattle.av_anon.specs.Unlink.{after_unlink}
use Rattle.av_anon.proofs.KinLaws.{chain_by-is, kin-bounds, kin-both, kin-changed, kin-clone, kin-owns, kin-unlink}
use Rattle.av_anon.proofs.OrderLaws.{order-bare, order-clone, order-others, order-resize, order-unlink}
use Rattle.av_vma.specs.Areas.{area_of}
use Rattle.av_anon.specs.declared.anons.Anons.{Anons}
use Rattle.av_merge.specs.Kin.{AreInOrder, KeepsKin, StayKin}

pub fits : (area : Area) → IsWhole area → IsArea area
fits area w = (let small = w.small in let some = w.some in record { forward = some; small = omega arith })

pub keeps_refl : (areas : ℕ → Option Area) (f : Family) (spans : ℕ → List Span) → IsInOrder areas f spans → KeepsKin areas areas f f spans
keeps_refl areas f spans o = record { order = o; kin = kin-owns areas areas f (λ a v e. e) }

pub keeps_trans : (areas areas' areas'' : ℕ → Option Area) (f f' f'' : Family) (spans' spans'' : ℕ → List Span) → KeepsKin areas areas' f f' spans' →
    KeepsKin areas' areas'' f' f'' spans'' → KeepsKin areas areas'' f f'' spans''
keeps_trans areas areas' areas'' f f' f'' spans' spans'' h k = record { order = k.order; kin = kin-both areas areas' areas'' f f' f'' h.kin k.kin }

-- areas that are the same at each number
pub keeps_same : (areas areas' areas'' : ℕ → Option Area) (f f' : Family) (spans' : ℕ → List Span) → ((k : ℕ) → areas'' k ≡ areas' k) →
    KeepsKin areas areas' f f' spans' → KeepsKin areas areas'' f f' spans'
keeps_same areas areas' areas'' f f' spans' same h = subst (λ g. KeepsKin areas g f f' spans') (λ i k. sym (same k) i) h

module _ (areas areas' : ℕ → Option Area) (f : Family) (spans : ℕ → List Span) (n : ℕ) (o : IsInOrder areas f spans) where
  -- an area without anon_vma comes, changes or goes
  pub keeps_bare : (new : Option Area) → own_of (areas n) ≡ None → own_of new ≡ None → ((A : Area) → new ≡ Some A → IsWhole A) →
      ((k : ℕ) → areas' k ≡ with_at n new areas k) → KeepsKin areas areas' f f spans
  keeps_bare new none bare whole now = subst (λ g. KeepsKin areas g f f spans) (λ i k. sym (now k) i) (record {
    order = order-bare areas f spans n new o none bare (λ A e. fits A (whole A e));
    kin = kin-changed areas f n new (λ v e. absurd (none-some v (sym bare ∙ e)));
  })

  -- an area changes, but in its own anon_vma and its linear indices
  pub keeps_fields : (A B : Area) → areas n ≡ Some A → B.anon ≡ A.anon → span_at n B ≡ span_at n A → IsWhole B →
      ((k : ℕ) → areas' k ≡ with_at n (Some B) areas k) → KeepsKin areas areas' f f spans
  keeps_fields A B is own span whole now = subst (λ g. KeepsKin areas g f f spans) (λ i k. sym (now k) i) (record {
    order = order-others areas f spans n A B o is own span (fits B whole);
    kin = kin-changed areas f n (Some B) (λ v e. ap own_of is ∙ sym own ∙ e);
  })

  module _ (f' : Family) (spans' : ℕ → List Span) (spanned : GoWithLinks areas' f'.chain spans') where
    by_equations : (g : ℕ → Option Area) (h : Family) → ((k : ℕ) → areas' k ≡ g k) → f' ≡ h
        → (GoWithLinks g h.chain spans' → KeepsKin areas g f h spans') →
        KeepsKin areas areas' f f' spans'
    by_equations g h now is k =
        let same : areas' ≡ g = λ i k. now k i in
        let goes : GoWithLinks g h.chain spans' = subst (λ (m : Family). GoWithLinks g m.chain spans') is
        (subst (λ a. GoWithLinks a f'.chain spans') same spanned) in
        subst (λ a. KeepsKin areas a f f' spans') (sym same) (subst (λ m. KeepsKin areas g f m spans') (sym is) (k goes))

    pub keeps_unlink : (A : Area) → areas n ≡ Some A → ((k : ℕ) → areas' k ≡ give_own n None areas k) → f' ≡ after_unlink (own_of (areas n)) n f →
        KeepsKin areas areas' f f' spans'
    keeps_unlink A is now was = by_equations (give_own n None areas) (after_unlink (own_of (areas n)) n f) now was (λ goes. record {
      order = order-unlink areas f spans spans' n A o is goes;
      kin = kin-unlink areas f spans n A o is;
    })

    pub keeps_clone : (src : ℕ) (A : Area) → areas n ≡ Some A → A.anon ≡ None → ((k : ℕ) → areas' k ≡ gets_own n (own_of (areas src)) areas k) →
        f' ≡ after_clone (own_of (areas src)) src n f → KeepsKin areas areas' f f' spans'
    keeps_clone src A is none now was = by_equations (gets_own n (own_of (areas src)) areas)
        (after_clone (own_of (areas src)) src n f) now was (λ goes. record {
          order = order-clone areas f spans spans' src n A o is none goes;
          kin = kin-clone areas f spans src n A o is none;
        })

    pub keeps_resize : (start end pgoff : ℕ) (A : Area) → areas n ≡ Some A → IsArea (with_bounds start end pgoff A) →
        ((k : ℕ) → areas' k ≡ with_at n (option_map (with_bounds start end pgoff) (areas n)) areas k) → f' ≡ f → KeepsKin areas areas' f f' spans'
    keeps_resize start end pgoff A is fit now was = by_equations (with_at n (Some (with_bounds start end pgoff A)) areas) f
        (λ k. now k ∙ ap (λ x. with_at n (option_map (with_bounds start end pgoff) x) areas k) is) was (λ goes. record {
          order = order-resize areas f spans spans' n start end pgoff A o is fit goes;
          kin = subst (λ x. Rattle.av_anon.specs.Kin.KinStays areas (with_at n (option_map (with_bounds start end pgoff) x) areas) f f) is
              (kin-bounds areas f n start end pgoff);
        })

-- how long an area's chain is
pub length_is : (areas : ℕ → Option Area) (f : Family) (spans : ℕ → List Span) (n : ℕ) (A : Area) → IsInOrder areas f spans → areas n ≡ Some A →
    cond (is_some A.anon) (length (f.chain n)) 0 ≡ length_by areas f A.anon
length_is areas f spans n A o is = go A.anon refl
  where
    go : (own : Option ℕ) → A.anon ≡ own → cond (is_some own) (length (f.chain n)) 0 ≡ length_by areas f own
    go None e = refl
    go (Some v) e = ap length (sym (chain_by-is areas f spans n v o (ap own_of is ∙ e)))

-- ---- the same in the values of `Areas` and `Anons`

pub kin_stays : (areas : List (Option Area)) (anons : Anons) → AreInOrder areas anons → StayKin areas anons areas anons
kin_stays areas anons o = keeps_refl (area_of areas) (family anons) (spans_of anons) o

-- one call after another
pub kin_then : (old mid new : List (Option Area)) (a b c : Anons) → StayKin old a mid b → StayKin mid b new c → StayKin old a new c
kin_then old mid new a b c h k = keeps_trans (area_of old) (area_of mid) (area_of new) (family a) (family b) (family c) (spans_of b) (spans_of c) h k
