-- Areas with chains: what a call on anon_vmas makes of them, and a change of the same area after it, keep chain order and kin.
use Rattle.std.proofs.Common.{◌≡◌, ◌<◌, ◌≤◌, arith, ℕ, false, cond, List, Option, Some, None, is_some, option_map, IsSomeAnd, Result, Ok, Err, OnOk, refl, sym, ap, subst, ◌∙◌}
use Rattle.std.proofs.lemmas.Option.{same_Some}
use Rattle.std.proofs.lemmas.Bool.{eq-eqb}
use Rattle.av_base.specs.Words.{with_at}
use Rattle.av_interval.specs.declared.span.Span.{Span}
use Rattle.av_vma.specs.declared.area.Area.{Area}
use Rattle.av_vma.specs.Pages.{IsWhole}
use Rattle.av_anon.specs.Anons.{Family, give_own, own_of, with_own}
use Rattle.av_anon.specs.Fork.{after_clone, gets_own}
use Rattle.av_anon.specs.Order.{IsArea, IsInOrder}
use Rattle.av_anon.specs.Resize.{with_bounds}
use Rattle.av_anon.specs.Spans.{GoWithLinks}
use Rattle.av_anon.proofs.Words.{with_at-here, with_at-same, with_at-twice}
use Rattle.av_base.specs.Limits.{low_page, top_page}
use Rattle.av_base.specs.declared.flags.Flags.{Flags}
use Rattle.av_base.specs.declared.prot.Prot.{Prot}
use Rattle.av_vma.specs.Areas.{area_of}
use Rattle.av_vma.specs.Pages.{fresh_area}
use Rattle.av_anon.specs.declared.anons.Anons.{Anons}
use Rattle.av_anon.specs.Anons.{family}
use Rattle.av_anon.specs.Spans.{spans_of}
use Rattle.av_merge.specs.Kin.{AreInOrder, KeepsKin, StayKin}
use Rattle.av_merge.proofs.Kin.{fits, keeps_bare, keeps_clone, keeps_resize, keeps_same}

pub none_of : (o : Option ℕ) → is_some o ≡ false → o ≡ None
none_of None e = refl
none_of (Some v) e = cc

pub ok_of : {T E P : Type 0} (r : Result T E) → P → OnOk r P
ok_of (Ok x) p = p
ok_of (Err e) p = tt

pub ok_both : {T E P Q R : Type 0} (r : Result T E) → OnOk r P → OnOk r Q → (P → Q → R) → OnOk r R
ok_both (Ok x) p q f = f p q
ok_both (Err e) p q f = tt

pub ok_three : {T E P Q R S : Type 0} (r : Result T E) → OnOk r P → OnOk r Q → OnOk r R → (P → Q → R → S) → OnOk r S
ok_three (Ok x) p q r f = f p q r
ok_three (Err e) p q r f = tt

-- an area whose own anon_vma is taken from it has none
pub bare_now : (areas : ℕ → Option Area) (n : ℕ) → own_of (give_own n None areas n) ≡ None
bare_now areas n = ap (λ b. own_of (cond b (with_own None (areas n)) (areas n))) (eq-eqb n n refl) ∙ go (areas n)
  where
    go : (o : Option Area) → own_of (with_own None o) ≡ None
    go None = refl
    go (Some A) = refl

-- a part of an area has been put as one without anon_vma, and then the two parts are
pub both_parts : (areas one two : ℕ → Option Area) (n m : ℕ) (x y z : Option Area) → ((k : ℕ) → one k ≡ with_at m y areas k) →
    ((k : ℕ) → two k ≡ with_at n x (with_at m z one) k) → (k : ℕ) → two k ≡ with_at n x (with_at m z areas) k
both_parts areas one two n m x y z first second k =
    second k
    ∙ (λ i. with_at n x (with_at m z (λ q. first q i)) k)
    ∙ (λ i. with_at n x (λ q. with_at-twice m z y areas q i) k)

record IsBefore (areas : ℕ → Option Area) (n : ℕ) (area : Area) : Type 0 where
  pub old : Area
  pub there : areas n ≡ Some old
  pub is : area ≡ with_bounds area.start area.end area.pgoff old

before : (areas : ℕ → Option Area) (n : ℕ) (area : Area) → IsSomeAnd (areas n) (λ old. area ≡ with_bounds area.start area.end area.pgoff old) →
    IsBefore areas n area
before areas n area h = go (areas n) refl h
  where
    go : (o : Option Area) → areas n ≡ o → IsSomeAnd o (λ old. area ≡ with_bounds area.start area.end area.pgoff old) → IsBefore areas n area
    go None e h = absurd h
    go (Some old) e h = record { old = old; there = e; is = h }

module _ (areas one two : ℕ → Option Area) (f f' : Family) (spans spans' : ℕ → List Span) (n : ℕ) (area : Area) (o : IsInOrder areas f spans)
    (spanned : GoWithLinks one f'.chain spans') (last : (k : ℕ) → two k ≡ with_at n (Some area) one k) where
  -- an area gets other bounds
  pub resized_keeps : IsWhole area → IsSomeAnd (areas n) (λ old. area ≡ with_bounds area.start area.end area.pgoff old)
      → ((k : ℕ) → one k ≡ with_at n (option_map (with_bounds area.start area.end area.pgoff) (areas n)) areas k) → f' ≡ f
      → KeepsKin areas two f f' spans'
  resized_keeps whole was now is =
      let b = before areas n area was in
      let here : one n ≡ Some area = now n ∙ with_at-here n (option_map (with_bounds area.start area.end area.pgoff) (areas n)) areas
      ∙ ap (option_map (with_bounds area.start area.end area.pgoff)) b.there ∙ ap Some (sym b.is) in
      keeps_same areas one two f f' spans' (λ k. last k ∙ with_at-same n (Some area) one here k)
      (keeps_resize areas one f spans n o f' spans' spanned area.start area.end area.pgoff b.old b.there (subst IsArea b.is (fits area whole)) now is)

  -- an area gets the chain of another
  pub linked_keeps : (other : ℕ) → areas n ≡ Some (record area { anon = None }) → own_of (areas other) ≡ area.anon
      → ((k : ℕ) → one k ≡ gets_own n (own_of (areas other)) areas k) → f' ≡ after_clone (own_of (areas other)) other n f
      → KeepsKin areas two f f' spans'
  linked_keeps other there own now is =
      keeps_same areas one two f f' spans' (λ k. last k ∙ with_at-same n (Some area) one (now n ∙ here (own_of (areas other)) own) k)
      (keeps_clone areas one f spans n o f' spans' spanned other (record area { anon = None }) there refl now is)
    where
      here : (v : Option ℕ) → v ≡ area.anon → gets_own n v areas n ≡ Some area
      here None e = there ∙ (λ i. Some (record area { anon = e i }))
      here (Some v) e = with_at-here n (with_own (Some v) (areas n)) areas ∙ ap (with_own (Some v)) there ∙ (λ i. Some (record area { anon = e i }))

-- a part of an area comes without anon_vma
pub bare_part : (areas areas' : ℕ → Option Area) (f : Family) (spans : ℕ → List Span) (n : ℕ) (area : Area) → IsInOrder areas f spans
    → areas n ≡ None →
    IsWhole area → ((k : ℕ) → areas' k ≡ with_at n (Some (record area { anon = None })) areas k) → KeepsKin areas areas' f f spans
bare_part areas areas' f spans n area o unused w now =
    let bare : IsWhole (record area { anon = None }) =
    record { start = w.start; end = w.end; some = w.some; low = w.low; high = w.high; small = w.small } in
    keeps_bare areas areas' f spans n o (Some (record area { anon = None })) (ap own_of unused) refl
    (λ A e. subst IsWhole (same_Some (record area { anon = None }) A e) bare) now

-- a new area of a process is whole, and comes without anon_vma
pub whole_fresh : (p from past : ℕ) (prot : Prot) (flags : Flags) → from < past → low_page ≤ from → past ≤ top_page → IsWhole (fresh_area p from past prot flags)
whole_fresh p from past prot flags some low high = record {
  start = omega arith;
  end = omega arith;
  some = omega arith;
  low = omega arith;
  high = omega arith;
  small = omega arith;
}

pub added : (old new : List (Option Area)) (anons : Anons) (area : Area) (n : ℕ) → AreInOrder old anons → area_of old n ≡ None →
    IsWhole (record area { anon = None }) → ((k : ℕ) → area_of new k ≡ with_at n (Some (record area { anon = None })) (area_of old) k) →
    StayKin old anons new anons
added old new anons area n o unused w now =
    bare_part (area_of old) (area_of new) (family anons) (spans_of anons) n (record area { anon = None }) o unused w now
