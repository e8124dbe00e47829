-- What a change of areas leaves of the anon_vmas, said by numbers of areas, is so by pages.
use Rattle.std.proofs.Common.{◌≡◌, ◌≢◌, ◌≤◌, ◌+◌, ◌↔◌, ◌==◌, Bool, false, cond, ◌∷◌, ℕ, true, List, [], Option, Some, None, is_some, IfSome, IsSome, IsSomeAnd, refl, sym, ap, subst, ◌∙◌, arith}
use Rattle.std.proofs.lemmas.Bool.{eq-eqb, eqb-true, false≢true}
use Rattle.av_chain.specs.Links.{one_if}
use Rattle.std.specs.Prelude.{MatchOption}
use Rattle.std.specs.Option.{option_map_or}
use Rattle.av_base.specs.Words.{how_many, is_in}
use Rattle.av_vma.specs.declared.area.Area.{Area}
use Rattle.av_vma.specs.Areas.{area_of}
use Rattle.av_vma.specs.Pages.{makes_anon}
use Rattle.av_vmatree.specs.declared.span.Span.{Span}
use Rattle.av_vmatree.specs.Spans.{span_of}
use Rattle.av_anon.specs.declared.anons.Anons.{Anons}
use Rattle.av_anon.specs.Anons.{family, own_of}
use Rattle.av_anon.specs.declared.infos.Info.{Info}
use Rattle.av_anon.specs.Kin.{IsSameKin}
use Rattle.av_anon.specs.Order.{IsInOrder, owns}
use Rattle.av_anon.specs.Spans.{spans_of}
use Rattle.av_anon.proofs.KinLaws.{chain_by-is, chains_stay, owns-is, someone_linked}
use Rattle.av_merge.specs.Kin.{AreInOrder, KeepsKin, PrepareKin, PreparesKin, lengths}
use Rattle.av_merge.specs.Pages.{pages_by}
use Rattle.av_merge.specs.Process.{AreAreasOf}
use Rattle.av_merge.proofs.PlacingLaws.{area_in, is_on, on_span}
use Rattle.av_spaces.specs.Spaces.{AllSpaces, pages_of}
use Rattle.av_spaces.specs.Trees.{Trees, AreTrees, HasNone, all_spaces, spaces_by, tree_at}
use Rattle.av_spaces.specs.Kin.{AnonsFit, AnonsPrepare, AnonsStay, InOrder, IsLinkedIn, IsOwnedIn, chain_at, chain_by, info_of, made_for}
use Rattle.av_spaces.proofs.Trees.{none_dead, pages_there}

-- ---- areas in use are on pages

some_is : {A : Type 0} (o : Option A) → is_some o ≡ true → (x : A) × (o ≡ Some x)
some_is None h = absurd (false≢true h)
some_is (Some x) h = (x, refl)

-- each area in use is on a page of its process
pub page_of_area : (f : ℕ → Option Area) (ts : Trees) (b : ℕ) (A : Area) → AreTrees f ts → f b ≡ Some A
    → (page : ℕ) × (pages_of (spaces_by f ts) A.pid page ≡ Some A)
page_of_area f ts b A trees is = by (tree_at ts A.pid) refl (trees A.pid)
  where
    by : (o : Option (List Span)) → tree_at ts A.pid ≡ o → MatchOption o (HasNone A.pid f) (AreAreasOf A.pid f)
        → (page : ℕ) × (pages_of (spaces_by f ts) A.pid page ≡ Some A)
    by None at none = absurd (subst (λ o. IfSome o (λ area. area.pid ≢ A.pid)) is (none b) refl)
    by (Some spans) at areas =
        let s = some_is (span_of spans b)
        (subst (λ o. IfSome o (λ area. area.pid ≡ A.pid → is_some (span_of spans b) ≡ true)) is (areas.all b) refl) in
        let there = area_in A.pid f spans b s.0 areas s.1 in
        let whole = there.is.whole.some in
        let from = there.is.from in
        let to = there.is.to in (
          s.0.from,
          pages_there f ts A.pid spans (spaces_by f ts) trees (sym at) refl s.0.from
              ∙ on_span A.pid f spans b s.0 A s.0.from areas s.1 is (omega arith) (omega (arith, whole, from, to)),
        )

-- and a page's area is in use
pub area_of_page : (f : ℕ → Option Area) (ts : Trees) (p page : ℕ) (A : Area) → AreTrees f ts → pages_of (spaces_by f ts) p page ≡ Some A
    → (b : ℕ) × (f b ≡ Some A)
area_of_page f ts p page A trees is = by (tree_at ts p) refl (trees p)
  where
    none_is : None ≡ Some A → (b : ℕ) × (f b ≡ Some A)
    none_is e = cc

    by : (o : Option (List Span)) → tree_at ts p ≡ o → MatchOption o (HasNone p f) (AreAreasOf p f) → (b : ℕ) × (f b ≡ Some A)
    by None at none = none_is (none_dead f ts p (spaces_by f ts) (sym at) refl page ∙ is)
    by (Some spans) at areas =
        let on = is_on p f spans page A areas (sym (pages_there f ts p spans (spaces_by f ts) trees (sym at) refl page) ∙ is) in
        (on.number, on.area_is)

-- ---- areas with an own anon_vma

-- an area with this own one
record IsOwner (f : ℕ → Option Area) (b v : ℕ) : Type 0 where
  area : Area
  area_is : f b ≡ Some area
  own_is : area.anon ≡ Some v

owner_of : (f : ℕ → Option Area) (b v : ℕ) → own_of (f b) ≡ Some v → IsOwner f b v
owner_of f b v is = by (f b) refl is
  where
    by : (o : Option Area) → f b ≡ o → own_of o ≡ Some v → IsOwner f b v
    by None at e = cc
    by (Some A) at e = record { area = A; area_is = at; own_is = e }

-- its pages have it
owned_there : (areas : List (Option Area)) (ts : Trees) (b v : ℕ) → AreTrees (area_of areas) ts → own_of (area_of areas b) ≡ Some v →
    IsOwnedIn (all_spaces areas ts) v
owned_there areas ts b v trees is =
    let o = owner_of (area_of areas) b v is in
    let at = page_of_area (area_of areas) ts b o.area trees o.area_is in
    (o.area.pid, at.0, subst (λ o. IsSomeAnd o (λ area. area.anon ≡ Some v)) (sym at.1) o.own_is)

-- and it is an area's number that has it
owner_there : (areas : List (Option Area)) (ts : Trees) (v : ℕ) → AreTrees (area_of areas) ts → IsOwnedIn (all_spaces areas ts) v →
    (b : ℕ) × (own_of (area_of areas b) ≡ Some v)
owner_there areas ts v trees h = by (pages_of (spaces_by (area_of areas) ts) h.0 h.1) refl h.2
  where
    by : (o : Option Area) → pages_of (spaces_by (area_of areas) ts) h.0 h.1 ≡ o → IsSomeAnd o (λ area. area.anon ≡ Some v) →
        (b : ℕ) × (own_of (area_of areas b) ≡ Some v)
    by None at is = absurd is
    by (Some A) at is = let b = area_of_page (area_of areas) ts h.0 h.1 A trees at in (b.0, ap own_of b.1 ∙ is)

-- ---- how many pass

-- where some pass, one does
some_passes : (test : ℕ → Bool) (xs : List ℕ) → 1 ≤ how_many test xs → (b : ℕ) × (test b ≡ true)
some_passes test [] some = absurd (omega (arith, some))
some_passes test (x ∷ xs) some = by (test x) refl some (some_passes test xs)
  where
    by : (t : Bool) → test x ≡ t → 1 ≤ cond t 1 0 + how_many test xs → (1 ≤ how_many test xs → (b : ℕ) × (test b ≡ true)) → (b : ℕ) × (test b ≡ true)
    by true e some rest = (x, e)
    by false e some rest = rest (omega (arith, some))

-- and where one of them does, some do
passes_once : (test : ℕ → Bool) (b : ℕ) (xs : List ℕ) → how_many (λ c. b == c) xs ≡ 1 → test b ≡ true → 1 ≤ how_many test xs
passes_once test b [] once h = absurd (omega (arith, once))
passes_once test b (x ∷ xs) once h = by (b == x) refl once (passes_once test b xs)
  where
    by : (t : Bool) → (b == x) ≡ t → cond t 1 0 + how_many (λ c. b == c) xs ≡ 1
        → (how_many (λ c. b == c) xs ≡ 1 → test b ≡ true → 1 ≤ how_many test xs)
        → 1 ≤ cond (test x) 1 0 + how_many test xs
    by true e once rest = let here : cond (test x) 1 0 ≡ 1 = ap one_if (ap test (sym (eqb-true b x e)) ∙ h) in omega (arith, here)
    by false e once rest = let later = rest (omega (arith, once)) h in omega (arith, later)

-- ---- linked anon_vmas

module _ (areas : List (Option Area)) (ts : Trees) (a : Anons) (trees : AreTrees (area_of areas) ts)
    (order : IsInOrder (area_of areas) (family a) (spans_of a)) where
  -- one that is there has a page whose area is linked to it
  pub linked_there : (v : ℕ) → IsSome (info_of a v) → IsLinkedIn (all_spaces areas ts) a v
  linked_there v there =
      let m = someone_linked (area_of areas) (family a) (spans_of a) v order there in
      by m.0 m.1 (own_of (area_of areas m.0)) refl
    where
      by : (b : ℕ) → is_in v ((family a).chain b) ≡ true → (own : Option ℕ) → own_of (area_of areas b) ≡ own → IsLinkedIn (all_spaces areas ts) a v
      by b member None is = absurd (false≢true (sym (ap (is_in v) ((order.chains b).none is)) ∙ member))
      by b member (Some own) is =
          let o = owner_of (area_of areas) b own is in
          let at = page_of_area (area_of areas) ts b o.area trees o.area_is in (
            o.area.pid,
            at.0,
            subst (λ o. IsSomeAnd o (λ area. is_in v (chain_by (all_spaces areas ts) a area.anon) ≡ true)) (sym at.1)
                (ap (λ own. is_in v (chain_by (all_spaces areas ts) a own)) o.own_is
                ∙ ap (is_in v) (chain_by-is (area_of areas) (family a) (spans_of a) b own order is) ∙ member),
          )

  -- and one with such a page is there
  pub there_linked : (v : ℕ) → IsLinkedIn (all_spaces areas ts) a v → IsSome (info_of a v)
  there_linked v h = by (pages_of (spaces_by (area_of areas) ts) h.0 h.1) refl h.2
    where
      of_own : (A : Area) (b : ℕ) → area_of areas b ≡ Some A → (own : Option ℕ) → A.anon ≡ own
          → is_in v (chain_by (all_spaces areas ts) a own) ≡ true →
          IsSome (info_of a v)
      of_own A b at None is member = absurd (false≢true member)
      of_own A b at (Some own) is member = (order.chains b).there v
          (sym (ap (is_in v) (chain_by-is (area_of areas) (family a) (spans_of a) b own order (ap own_of at ∙ is))) ∙ member)

      by : (o : Option Area) → pages_of (spaces_by (area_of areas) ts) h.0 h.1 ≡ o →
          IsSomeAnd o (λ area. is_in v (chain_by (all_spaces areas ts) a area.anon) ≡ true) → IsSome (info_of a v)
      by None at is = absurd is
      by (Some A) at is = let b = area_of_page (area_of areas) ts h.0 h.1 A trees at in of_own A b.0 b.1 A.anon refl is

  -- one that counts active areas is some area's own, and the other way round
  active_there : (v : ℕ) → IfSome (info_of a v) (λ i. (1 ≤ i.active) ↔ IsOwnedIn (all_spaces areas ts) v)
  active_there v = by (info_of a v) refl
    where
      test : ℕ → Bool
      test b = owns v (own_of (area_of areas b))

      by : (o : Option Info) → info_of a v ≡ o → IfSome o (λ i. (1 ≤ i.active) ↔ IsOwnedIn (all_spaces areas ts) v)
      by None is = tt
      by (Some i) is =
          let counted : i.active ≡ how_many test ((family a).users v) = (order.counted v i is).active in (
            λ some. let b = some_passes test ((family a).users v) (subst (λ n. 1 ≤ n) counted some) in
                owned_there areas ts b.0 v trees (owns-is v (own_of (area_of areas b.0)) b.1),
            λ owned.
                let b = owner_there areas ts v trees owned in
                let once : how_many (λ c. b.0 == c) ((family a).users v) ≡ 1 = order.inverse.inverse b.0 v
                ∙ ap one_if ((order.chains b.0).own_in v b.1) in
                subst (λ n. 1 ≤ n) (sym counted) (passes_once test b.0 ((family a).users v) once (ap (owns v) b.1 ∙ eq-eqb v v refl)),
          )

  -- so they fit
  pub fit_in : AnonsFit (all_spaces areas ts) a
  fit_in = record {
    order = order;
    there = linked_there;
    linked = there_linked;
    own = λ v is.
        let b = owner_there areas ts v trees is in
        ap (is_in v) (chain_by-is (area_of areas) (family a) (spans_of a) b.0 v order b.1) ∙ (order.chains b.0).own_in v b.1;
    active = active_there;
  }

-- ---- what a change leaves

pub anons_stay : (old new : List (Option Area)) (before after : Trees) (a a' : Anons) → AreTrees (area_of old) before → AreTrees (area_of new) after
    → IsInOrder (area_of old) (family a) (spans_of a) → KeepsKin (area_of old) (area_of new) (family a) (family a') (spans_of a')
    → AnonsStay (all_spaces old before) a (all_spaces new after) a'
anons_stay old new before after a a' trees trees' order h = record {
  fit = fit_in new after a' trees' h.order;
  next = h.kin.next;
  kin = h.kin.kin;
  owned = λ v is.
      let b = owner_there new after v trees' is in
      let c = h.kin.owned b.0 v b.1 in
      owned_there old before c.0 v trees c.1;
  chains = λ v is.
      let b = owner_there new after v trees' is in
      chains_stay (area_of old) (area_of new) (family a) (family a') (spans_of a) (spans_of a') b.0 v order h.order h.kin b.1;
}

-- and what there is where an area gets an anon_vma
pub anons_prepare : (old new : List (Option Area)) (ts : Trees) (a a' : Anons) (p page : ℕ) (spans : List Span)
    → AreTrees (area_of old) ts → AreTrees (area_of new) ts → tree_at ts p ≡ Some spans → PrepareKin old spans a new a' page
    → AnonsPrepare (all_spaces old ts) a (all_spaces new ts) a' p page
anons_prepare old new ts a a' p page spans trees trees' was prepared =
    let on_is : pages_of (spaces_by (area_of old) ts) p ≡ pages_by (area_of old) spans =
    λ i q. pages_there (area_of old) ts p spans (spaces_by (area_of old) ts) trees (sym was) refl q i in
    let h : PreparesKin (area_of old) (area_of new) (family a) (family a') (spans_of a') (made_for (all_spaces old ts) a p page) =
    subst (PreparesKin (area_of old) (area_of new) (family a) (family a') (spans_of a'))
    (sym (ap (λ on. makes_anon (lengths old a) on (on page)) on_is)) prepared in
    record {
      fit = fit_in new ts a' trees' h.order;
      next = h.next;
      kin = h.kin;
      owned = λ v is other.
          let b = owner_there new ts v trees' is in
          let c = h.owned b.0 v b.1 other in
          owned_there old ts c.0 v trees c.1;
      chains = λ v is.
          let b = owner_there new ts v trees' is in
          chain_by-is (area_of new) (family a') (spans_of a') b.0 v h.order b.1 ∙ h.chains b.0 v b.1;
    }

-- ---- by the value

-- chain order of a value is that of its parts
pub order_in : (areas : List (Option Area)) (ts : Trees) (s : AllSpaces) (a : Anons) → all_spaces areas ts ≡ s → InOrder s a → AreInOrder areas a
order_in areas ts s a view order = subst (λ (areas : List (Option Area)). AreInOrder areas a) (sym (ap (λ (s : AllSpaces). s.areas) view)) order

pub anons_stay_by : (old new : List (Option Area)) (before after : Trees) (a a' : Anons) (s : AllSpaces) → all_spaces old before ≡ s
    → AreTrees (area_of old) before → AreTrees (area_of new) after → InOrder s a
    → KeepsKin (area_of old) (area_of new) (family a) (family a') (spans_of a') → AnonsStay s a (all_spaces new after) a'
anons_stay_by old new before after a a' s view trees trees' order h =
    subst (λ (s : AllSpaces). AnonsStay s a (all_spaces new after) a') view
    (anons_stay old new before after a a' trees trees' (order_in old before s a view order) h)

pub anons_prepare_by : (old new : List (Option Area)) (ts : Trees) (a a' : Anons) (p page : ℕ) (spans : List Span) (s : AllSpaces)
    → all_spaces old ts ≡ s
    → AreTrees (area_of old) ts → AreTrees (area_of new) ts → tree_at ts p ≡ Some spans → PrepareKin old spans a new a' page
    → AnonsPrepare s a (all_spaces new ts) a' p page
anons_prepare_by old new ts a a' p page spans s view trees trees' was prepared =
    subst (λ (s : AllSpaces). AnonsPrepare s a (all_spaces new ts) a' p page) view
    (anons_prepare old new ts a a' p page spans trees trees' was prepared)

-- ---- the chain of a page's area

-- where a page has the area at a number, or none that is in use, its chain is the links of that
pub chain_where : (s : AllSpaces) (a : Anons) (p page n : ℕ) → InOrder s a → area_of s.areas n ≡ pages_of s.processes p page
    → (family a).chain n ≡ chain_at s a p page
chain_where s a p page n order is = by (pages_of s.processes p page) is
  where
    owned : (own : Option ℕ) → own_of (area_of s.areas n) ≡ own → (family a).chain n ≡ chain_by s a own
    owned None e = (order.chains n).none e
    owned (Some v) e = sym (chain_by-is (area_of s.areas) (family a) (spans_of a) n v order e)

    by : (o : Option Area) → area_of s.areas n ≡ o → (family a).chain n ≡ option_map_or (λ area. chain_by s a area.anon) o []
    by None e = (order.chains n).none (ap own_of e)
    by (Some area) e = owned area.anon (ap own_of e)

-- a page without an area has no chain
pub chain_nowhere : (s : AllSpaces) (a : Anons) (p page : ℕ) → None ≡ pages_of s.processes p page → [] ≡ chain_at s a p page
chain_nowhere s a p page is = ap (λ o. option_map_or (λ (area : Area). chain_by s a area.anon) o []) is

-- ---- from one change to the next

-- nothing changes
pub stay_same : (s : AllSpaces) (a : Anons) → AnonsFit s a → AnonsStay s a s a
stay_same s a fit = record { fit = fit; next = refl; kin = λ v. by (info_of a v); owned = λ v h. h; chains = λ v h. refl }
  where
    by : (o : Option Info) → IfSome o (λ i. IsSomeAnd o (λ was. IsSameKin was i))
    by None = tt
    by (Some i) = record { root = refl; parent = refl }

pub stay_both : (s s' s'' : AllSpaces) (a a' a'' : Anons) → AnonsStay s a s' a' → AnonsStay s' a' s'' a'' → AnonsStay s a s'' a''
stay_both s s' s'' a a' a'' h g = record {
  fit = g.fit;
  next = g.next ∙ h.next;
  kin = λ v. both (info_of a v) (info_of a'' v) (info_of a' v) (g.kin v) (h.kin v);
  owned = λ v is. h.owned v (g.owned v is);
  chains = λ v is. g.chains v is ∙ h.chains v (g.owned v is);
}
  where
    last : (i j : Info) (o : Option Info) → IsSameKin j i → IsSomeAnd o (λ was. IsSameKin was j) → IsSomeAnd o (λ was. IsSameKin was i)
    last i j None k h = absurd h
    last i j (Some was) k h = record { root = k.root ∙ h.root; parent = k.parent ∙ h.parent }

    both : (o now mid : Option Info) → IfSome now (λ i. IsSomeAnd mid (λ was. IsSameKin was i))
        → IfSome mid (λ i. IsSomeAnd o (λ was. IsSameKin was i))
        → IfSome now (λ i. IsSomeAnd o (λ was. IsSameKin was i))
    both o None mid g h = tt
    both o (Some i) None g h = absurd g
    both o (Some i) (Some j) g h = last i j o g h
