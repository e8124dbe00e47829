-- What the areas and anon_vmas of the walk's test are.
use Rattle.std.proofs.Common.{◌≡◌, ℕ, ◌+◌, ◌≤◌, ◌==◌, ◌||◌, ◌&&◌, ◌⊎◌, inl, inr, length, Result, Ok, Err, Bool, true, false, cond, List, [], ◌∷◌, ◌++◌, Option, Some, None, refl, sym, ap, subst, ◌∙◌, arith, eq-eqb}
use Rattle.std.proofs.lemmas.Bool.{eqb-true, false≢true}
use Rattle.std.proofs.lemmas.Bool.Decides.{nat_tests}
use Rattle.std.specs.Prelude.{OnOk, option_and_then}
use Rattle.av_base.specs.Keys.{Key, same_key}
use Rattle.av_base.specs.Items.{is_item}
use Rattle.av_base.specs.Words.{how_many, is_in, with_at}
use Rattle.av_chain.specs.Links.{one_if}
use Rattle.av_interval.specs.Search.{overlaps}
use Rattle.av_pagetable.specs.declared.pte.Pte.{Pte}
use Rattle.av_pagetable.specs.declared.pte.Pte.TheVariants.{Away, Empty, Here, Zero}
use Rattle.av_merge.proofs.PlacingLaws.{within_parts}
use Rattle.av_rmap.specs.Covered.{IsCovered, IsReached}
use Rattle.av_rmap.specs.Items.{AreCovered, AreOnce, AreRootsApart, looks_from_all}
use Rattle.av_rmap.specs.Seen.{unseen, with_unseen}
use Rattle.av_rmap.specs.View.{AreApart, View, view_with}
use Rattle.av_rmap.specs.Walk.{AreItsEntries, HasSoMany, is_held, names_frame}
use Rattle.av_rmap.proofs.Counting.{keys-as-long}
use Rattle.av_rmap.proofs.LinkedAreas.{spans-are-areas}
use Rattle.av_vma.specs.Index.{index_of}
use Rattle.av_vma.specs.Pages.{has_page}
use Rattle.av_vma.specs.declared.area.Area.{Area}
use Rattle.av_interval.specs.declared.span.Span.{Span}
use Rattle.av_anon.specs.Anons.{Family, give_own, own_of, with_own}
use Rattle.av_anon.specs.Fork.{after_clone}
use Rattle.av_anon.specs.Order.{IsArea, IsInOrder}
use Rattle.av_anon.specs.Prepare.{after_prepare, loan_to}
use Rattle.av_anon.specs.Spans.{GoWithLinks}
use Rattle.av_anon.proofs.OrderLaws.{order-bare}
use Rattle.av_tests.specs.Rmap.{AreThree, child, frame_7, other, parent, shared_entries, two_items}

-- an area was put under a number, and then got an own anon_vma
pub given : (id own : ℕ) (A : Area) (old mid new : ℕ → Option Area) → ((n : ℕ) → mid n ≡ with_at id (Some A) old n) →
    ((n : ℕ) → new n ≡ give_own id (Some own) mid n)
    → (n : ℕ) → new n ≡ with_at id (Some (record A { anon = Some own })) old n
given id own A old mid new put got n = got n ∙ by (n == id) refl
  where
    here : mid id ≡ Some A
    here = put id ∙ ap (λ b. cond b (Some A) (old id)) (eq-eqb id id refl)

    by : (b : Bool) → (n == id) ≡ b → cond b (with_own (Some own) (mid id)) (mid n) ≡ cond b (Some (record A { anon = Some own })) (old n)
    by true e = ap (with_own (Some own)) here
    by false e = put n ∙ ap (λ b. cond b (Some A) (old n)) e

-- a law of what a call makes holds of what is there
pub order_by : (areas areas' : ℕ → Option Area) (f f' : Family) (spans : ℕ → List Span) → ((n : ℕ) → areas n ≡ areas' n) → f ≡ f'
    → (GoWithLinks areas' f'.chain spans → IsInOrder areas' f' spans) → GoWithLinks areas f.chain spans → IsInOrder areas f spans
order_by areas areas' f f' spans ea ef law go =
    let fun : areas ≡ areas' = λ i n. ea n i in
    subst (λ g. IsInOrder areas g spans) (sym ef) (subst (λ (g : ℕ → Option Area). IsInOrder g f' spans) (sym fun)
    (law (subst (λ (g : ℕ → Option Area). GoWithLinks g f'.chain spans) fun (subst (λ (g : Family). GoWithLinks areas g.chain spans) ef go))))

-- nobody lends where there is no neighbour
pub no_loan : (areas : ℕ → Option Area) (chain : ℕ → List ℕ) (id : ℕ) → loan_to areas chain id None None ≡ None
no_loan areas chain id = by (areas id)
  where
    by : (o : Option Area) → ◌≡◌ {A = Option ℕ} (option_and_then (λ (a : Area). None) o) None
    by None = refl
    by (Some A) = refl

-- the first area is the one user
pub one_user : (f f' : Family) (id : ℕ) (loan : Option ℕ) → loan ≡ None → f.next ≡ 0 → f.users 0 ≡ [] → f' ≡ after_prepare id loan f
    → f'.users 0 ≡ id ∷ []
one_user f f' id loan none first unused is =
    ap (λ (g : Family). g.users 0) (is ∙ ap (λ o. after_prepare id o f) none)
    ∙ ap (λ n. cond (0 == n || false) (f.users 0 ++ id ∷ []) (f.users 0)) first
    ∙ ap (λ xs. xs ++ id ∷ []) unused

-- and each more that is linked as a user is
pub one_more_user : (f f' : Family) (src id : ℕ) (own : Option ℕ) → own ≡ Some 0 → is_in 0 (f.chain src) ≡ true → f' ≡ after_clone own src id f →
    f'.users 0 ≡ f.users 0 ++ id ∷ []
one_more_user f f' src id own is linked eq =
    ap (λ (g : Family). g.users 0) (eq ∙ ap (λ o. after_clone o src id f) is)
    ∙ ap (λ b. cond b (f.users 0 ++ id ∷ []) (f.users 0)) linked

-- an area that has an own anon_vma isn't at a number that was not in use
pub other_number : (old mid : ℕ → Option Area) (A : Area) (src id : ℕ) → old id ≡ None → ((n : ℕ) → mid n ≡ with_at id (Some A) old n) →
    own_of (old src) ≡ Some 0 → own_of (mid src) ≡ Some 0
other_number old mid A src id unused put own = ap own_of (put src) ∙ by (src == id) refl
  where
    clash : ◌≡◌ {A = Option ℕ} None (Some 0) → ⊥
    clash e = cc

    by : (b : Bool) → (src == id) ≡ b → own_of (cond b (Some A) (old src)) ≡ Some 0
    by true e = absurd (clash (sym (ap own_of (ap old (eqb-true src id e) ∙ unused)) ∙ own))
    by false e = own

-- ---- three areas

-- what holds of an area that was put under a number that wasn't in use, and of the others
pub put_here : (id : ℕ) (A : Area) (old new : ℕ → Option Area) → ((n : ℕ) → new n ≡ with_at id (Some A) old n) → new id ≡ Some A
put_here id A old new put = put id ∙ ap (λ b. cond b (Some A) (old id)) (eq-eqb id id refl)

put_other : (id : ℕ) (A B : Area) (old new : ℕ → Option Area) (n : ℕ) → old id ≡ None → ((n : ℕ) → new n ≡ with_at id (Some A) old n) →
    old n ≡ Some B → new n ≡ Some B
put_other id A B old new n unused put is = put n ∙ by (n == id) refl
  where
    clash : None ≡ Some B → ⊥
    clash e = cc

    by : (b : Bool) → (n == id) ≡ b → cond b (Some A) (old n) ≡ Some B
    by true e = absurd (clash (sym (ap old (eqb-true n id e) ∙ unused) ∙ is))
    by false e = is

put_only : (id : ℕ) (A B : Area) (old new : ℕ → Option Area) (n : ℕ) → ((n : ℕ) → new n ≡ with_at id (Some A) old n) → new n ≡ Some B →
    ((n ≡ id) × (B ≡ A)) ⊎ (old n ≡ Some B)
put_only id A B old new n put is = by (n == id) refl (sym (put n) ∙ is)
  where
    same : Some A ≡ Some B → B ≡ A
    same e = cc

    by : (b : Bool) → (n == id) ≡ b → cond b (Some A) (old n) ≡ Some B → ((n ≡ id) × (B ≡ A)) ⊎ (old n ≡ Some B)
    by true e h = inl (eqb-true n id e, same h)
    by false e h = inr h

pub are_three : (none one two three : ℕ → Option Area) (a b c : ℕ) → ((n : ℕ) → none n ≡ None) → ((n : ℕ) → one n ≡ with_at a (Some parent) none n)
    → one b ≡ None → ((n : ℕ) → two n ≡ with_at b (Some child) one n) → two c ≡ None → ((n : ℕ) → three n ≡ with_at c (Some other) two n)
    → AreThree three a b c
are_three none one two three a b c nothing put-a free-b put-b free-c put-c = record {
  first = put_other c other parent two three a free-c put-c (put_other b child parent one two a free-b put-b (put_here a parent none one put-a));
  second = put_other c other child two three b free-c put-c (put_here b child one two put-b);
  third = put_here c other two three put-c;
  only = λ n A is. elim (put_only c other A two three n put-c is) as
      (λ _. ((n ≡ c) × (A ≡ other)) ⊎ (((n ≡ b) × (A ≡ child)) ⊎ ((n ≡ a) × (A ≡ parent)))) [
        | inl h ↦ inl h
        | inr h ↦ elim (put_only b child A one two n put-b h) as (λ _. ((n ≡ c) × (A ≡ other)) ⊎ (((n ≡ b) × (A ≡ child)) ⊎ ((n ≡ a) × (A ≡ parent)))) [
          | inl h ↦ inr (inl h)
          | inr h ↦ elim (put_only a parent A none one n put-a h) as
              (λ _. ((n ≡ c) × (A ≡ other)) ⊎ (((n ≡ b) × (A ≡ child)) ⊎ ((n ≡ a) × (A ≡ parent)))) [
                | inl h ↦ inr (inr h)
                | inr h ↦ absurd (clash A (sym (nothing n) ∙ h))
              ]
        ]
      ];
}
  where
    clash : (A : Area) → None ≡ Some A → ⊥
    clash A e = cc

-- ---- the premises of a walk

module _ (areas : ℕ → Option Area) (f : Family) (spans : ℕ → List Span) (entry : ℕ → ℕ → Pte) (a b c : ℕ) (three : AreThree areas a b c)
    (order : IsInOrder areas f spans)
    (entries : (p page : ℕ) → entry p page ≡ shared_entries p page) where
  pub three_apart : AreApart (view_with areas f spans entry)
  three_apart n m page A B is also same here there = by (three.only n A is) (three.only m B also)
    where
      met : (X Y : Area) → A ≡ X → B ≡ Y → X.pid ≡ Y.pid
      met X Y e d = sym (ap (λ (x : Area). x.pid) e) ∙ same ∙ ap (λ (x : Area). x.pid) d

      on : (X : Area) → A ≡ X → has_page X page ≡ true
      on X e = sym (ap (λ x. has_page x page) e) ∙ here

      on' : (X : Area) → B ≡ X → has_page X page ≡ true
      on' X e = sym (ap (λ x. has_page x page) e) ∙ there

      pids : ◌≡◌ {A = ℕ} 1 2 → ⊥
      pids e = absurd (omega (arith, e))

      far : has_page child page ≡ true → has_page other page ≡ true → ⊥
      far e d = let low = within_parts 10 4 page e in let high = within_parts 20 4 page d in absurd (omega (arith, low.1, high.0))

      by : ((n ≡ c) × (A ≡ other)) ⊎ (((n ≡ b) × (A ≡ child)) ⊎ ((n ≡ a) × (A ≡ parent))) →
          ((m ≡ c) × (B ≡ other)) ⊎ (((m ≡ b) × (B ≡ child)) ⊎ ((m ≡ a) × (B ≡ parent))) → n ≡ m
      by (inl h) (inl k) = h.0 ∙ sym k.0
      by (inl h) (inr (inl k)) = absurd (far (on' child k.1) (on other h.1))
      by (inl h) (inr (inr k)) = absurd (pids (sym (met other parent h.1 k.1)))
      by (inr (inl h)) (inl k) = absurd (far (on child h.1) (on' other k.1))
      by (inr (inl h)) (inr (inl k)) = h.0 ∙ sym k.0
      by (inr (inl h)) (inr (inr k)) = absurd (pids (sym (met child parent h.1 k.1)))
      by (inr (inr h)) (inl k) = absurd (pids (met parent other h.1 k.1))
      by (inr (inr h)) (inr (inl k)) = absurd (pids (met parent child h.1 k.1))
      by (inr (inr h)) (inr (inr k)) = h.0 ∙ sym k.0

  pub three_covered : IsCovered (view_with areas f spans entry) (names_frame 7) (0, 11)
  three_covered p page named = by (p == 2 && page == 11) (p == 1 && page == 11) refl refl (ap (names_frame 7) (sym (entries p page)) ∙ named)
    where
      first : (q o : ℕ) → (p == q && page == o) ≡ true → (p ≡ q) × (page ≡ o)
      first q o e = (grind (arith, nat_tests, e), grind (arith, nat_tests, e))

      at : (n q : ℕ) (A : Area) → areas n ≡ Some A → A.anon ≡ Some 0 → A.pid ≡ q → has_page A 11 ≡ true → index_of A 11 ≡ 11 → (p ≡ q) × (page ≡ 11) →
          IsReached (view_with areas f spans entry) (0, 11) p page
      at n q A is own pid here index e = record {
        number = n;
        area = A;
        stands = is;
        of = pid ∙ sym e.0;
        here = ap (has_page A) e.1 ∙ here;
        linked = (order.chains n).own_in 0 (ap own_of is ∙ own);
        index = ap (index_of A) e.1 ∙ index;
      }

      by : (x y : Bool) → (p == 2 && page == 11) ≡ x → (p == 1 && page == 11) ≡ y →
          names_frame 7 (cond (p == 2 && page == 11) frame_7 (cond (p == 1 && page == 11) frame_7 Empty)) ≡ true
          → IsReached (view_with areas f spans entry) (0, 11) p page
      by true y e d h = at b 2 child three.second refl refl refl refl (first 2 11 e)
      by false true e d h = at a 1 parent three.first refl refl refl refl (first 1 11 d)
      by false false e d h = absurd (false≢true (sym (ap (λ x. names_frame 7 (cond x frame_7 (cond (p == 1 && page == 11) frame_7 Empty))) e
          ∙ ap (λ y. names_frame 7 (cond y frame_7 Empty)) d) ∙ h))

  pub two_entries : AreItsEntries (view_with areas f spans entry) (names_frame 7) ((1, 11) ∷ (2, 11) ∷ [])
  two_entries k =
      (λ i. cond (tests 1 11 i) 1 0 + (cond (tests 2 11 i) 1 0 + 0)) ∙ by (k.0 == 1 && k.1 == 11) (k.0 == 2 && k.1 == 11) refl refl
      ∙ sym (ap (λ e. one_if (names_frame 7 e)) (entries k.0 k.1))
    where
      tests : (p page : ℕ) → same_key k (p, page) ≡ (k.0 == p && k.1 == page)
      tests p page = grind (arith, nat_tests)

      both : (k.0 == 1 && k.1 == 11) ≡ true → (k.0 == 2 && k.1 == 11) ≡ true → ⊥
      both e d = let one : k.0 ≡ 1 = grind (arith, nat_tests, e) in let two : k.0 ≡ 2 = grind (arith, nat_tests, d) in
          absurd (omega (arith, one, two))

      by : (x y : Bool) → (k.0 == 1 && k.1 == 11) ≡ x → (k.0 == 2 && k.1 == 11) ≡ y →
          cond x 1 0 + (cond y 1 0 + 0) ≡ one_if (names_frame 7 (cond y frame_7 (cond x frame_7 Empty)))
      by true true e d = absurd (both e d)
      by true false e d = refl
      by false true e d = refl
      by false false e d = refl

  pub exactly_two : HasSoMany (view_with areas f spans entry) (names_frame 7) 2
  exactly_two keys its = keys-as-long keys ((1, 11) ∷ (2, 11) ∷ []) (λ k. its k ∙ sym (two_entries k))

  pub two_at_most : (keys : List Key) → AreItsEntries (view_with areas f spans entry) (names_frame 7) keys → length keys ≤ 2
  two_at_most keys its = let same = exactly_two keys its in omega (arith, same)

  pub two_looks : f.users 0 ≡ a ∷ b ∷ c ∷ [] → how_many (overlaps 11) (spans 0) ≡ 2
  two_looks users = spans-are-areas areas f spans 0 11 order ∙ ap (how_many (λ n. is_held 11 (areas n))) users
      ∙ ap (λ o. cond (is_held 11 o) 1 0 + (cond (is_held 11 (areas b)) 1 0 + (cond (is_held 11 (areas c)) 1 0 + 0))) three.first
      ∙ ap (λ o. 1 + (cond (is_held 11 o) 1 0 + (cond (is_held 11 (areas c)) 1 0 + 0))) three.second
      ∙ ap (λ o. 1 + (1 + (cond (is_held 11 o) 1 0 + 0))) three.third

  -- ---- of two items one is the home, and one has an index that the third area holds

  pub items_covered : AreCovered (view_with areas f spans entry) (names_frame 7) two_items
  items_covered p page named = ((0, 11), refl, three_covered p page named)

  pub items_apart : AreRootsApart (view_with areas f spans entry) two_items
  items_apart n x y p q u v = at_first x (x.0 == 0 && x.1 == 11) refl p ∙ sym (at_first y (y.0 == 0 && y.1 == 11) refl q)
    where
      at_first : (x : ℕ × ℕ) (b : Bool) → (x.0 == 0 && x.1 == 11) ≡ b → is_item x two_items ≡ true → x.0 ≡ 0
      at_first x true e h = grind (arith, nat_tests, e)
      at_first x false e h =
          let other : (x.0 == 0 && x.1 == 20) ≡ true = second (x.0 == 0 && x.1 == 20)
          (sym (ap (λ b. b || ((x.0 == 0 && x.1 == 20) || false)) e) ∙ h) in
          grind (arith, nat_tests, other)
        where
          second : (b : Bool) → (b || false) ≡ true → b ≡ true
          second true e = refl
          second false e = e

  pub three_looks : f.users 0 ≡ a ∷ b ∷ c ∷ [] → looks_from_all (view_with areas f spans entry) two_items ≡ 3
  three_looks users = ap (λ n. n + (how_many (overlaps 20) (spans 0) + 0)) (two_looks users) ∙ ap (λ n. 2 + (n + 0)) one_look
    where
      one_look : how_many (overlaps 20) (spans 0) ≡ 1
      one_look = spans-are-areas areas f spans 0 20 order ∙ ap (how_many (λ n. is_held 20 (areas n))) users
          ∙ ap (λ o. cond (is_held 20 o) 1 0 + (cond (is_held 20 (areas b)) 1 0 + (cond (is_held 20 (areas c)) 1 0 + 0))) three.first
          ∙ ap (λ o. 0 + (cond (is_held 20 o) 1 0 + (cond (is_held 20 (areas c)) 1 0 + 0))) three.second
          ∙ ap (λ o. 0 + (0 + (cond (is_held 20 o) 1 0 + 0))) three.third

pub items_once : AreOnce two_items
items_once x = by (x.0 == 0 && x.1 == 11) (x.0 == 0 && x.1 == 20) refl refl
  where
    both : (x.0 == 0 && x.1 == 11) ≡ true → (x.0 == 0 && x.1 == 20) ≡ true → ⊥
    both e d = let one : x.1 ≡ 11 = grind (arith, nat_tests, e) in let two : x.1 ≡ 20 = grind (arith, nat_tests, d) in
        absurd (omega (arith, one, two))

    by : (b d : Bool) → (x.0 == 0 && x.1 == 11) ≡ b → (x.0 == 0 && x.1 == 20) ≡ d → cond b 1 0 + (cond d 1 0 + 0) ≤ 1
    by true true e h = absurd (both e h)
    by true false e h = omega arith
    by false true e h = omega arith
    by false false e h = omega arith

pub on_ok : {X E : Type 0} (r : Result X E) {P Q : Type 0} → (P → Q) → OnOk r P → OnOk r Q
on_ok (Ok x) h p = h p
on_ok (Err e) h p = tt

-- an area without anon_vma comes
pub bare_comes : (old mid : ℕ → Option Area) (f : Family) (spans : ℕ → List Span) (id : ℕ) (A : Area) → IsInOrder old f spans → old id ≡ None →
    ((n : ℕ) → mid n ≡ with_at id (Some A) old n)
    → A.anon ≡ None → IsArea A → IsInOrder mid f spans
bare_comes old mid f spans id A order unused put bare fits =
    subst (λ (g : ℕ → Option Area). IsInOrder g f spans) (λ i n. sym (put n) i)
    (order-bare old f spans id (Some A) order (ap own_of unused) bare (λ B e. subst IsArea (same B e) fits))
  where
    same : (B : Area) → Some A ≡ Some B → A ≡ B
    same B e = cc

-- an entry names the frame as before, once its seen bit is cleared
names_as_before : (frame : ℕ) (e : Pte) → names_frame frame (unseen frame e) ≡ names_frame frame e
names_as_before frame Empty = refl
names_as_before frame Zero = refl
names_as_before frame (Here frame_there write seen) = refl
names_as_before frame (Away slot) = refl

pub as_many_as_before : (old new : View) (frame n : ℕ) → new ≡ with_unseen frame old
    → HasSoMany old (names_frame frame) n → HasSoMany new (names_frame frame) n
as_many_as_before old new frame n is many keys its = many keys (λ k. its k
    ∙ ap (λ (v : View). one_if (names_frame frame (v.entry k.0 k.1))) is ∙ ap one_if (names_as_before frame (old.entry k.0 k.1)))
