-- An area goes to a child: what becomes of chain order, of the child's area and of what a fork goes by.
use Rattle.std.proofs.Common.{◌≡◌, ◌≢◌, ℕ, Bool, true, false, cond, ◌⊎◌, inl, inr, List, [], ◌∷◌, find, Option, Some, None, refl, sym, ap, subst, ◌∙◌}
use Rattle.std.proofs.lemmas.Bool.{cases_eq}
use Rattle.std.proofs.lemmas.Option.{none-some, same_Some}
use Rattle.std.specs.Option.{option_map_or}
use Rattle.av_base.specs.Words.{with_at}
use Rattle.av_interval.specs.declared.span.Span.{Span}
use Rattle.av_vma.specs.declared.area.Area.{Area}
use Rattle.av_vma.specs.Fork.{forked_area, own_to_fork}
use Rattle.av_vma.specs.Pages.{IsWhole}
use Rattle.av_anon.specs.Anons.{Family, own_of, with_links, with_own}
use Rattle.av_anon.specs.Fork.{after_fork, child_chain, child_family, child_own, gets_own, member_to_reuse, own_after_fork}
use Rattle.av_anon.specs.Kin.{chain_by}
use Rattle.av_anon.specs.Order.{IsInOrder, owns}
use Rattle.av_anon.specs.Spans.{GoWithLinks}
use Rattle.av_anon.proofs.Choosing.{child_family_chain}
use Rattle.av_anon.proofs.KinLaws.{chain_by-is, owns-is}
use Rattle.av_anon.proofs.OrderLaws.{order-fork}
use Rattle.av_anon.proofs.Words.{with_at-here, with_at-other, with_at-twice}
use Rattle.av_merge.specs.Forking.{Lineage, area_in_child, info_with, kin_with, next_with, own_in_child}
use Rattle.av_merge.proofs.Kin.{keeps_bare}

-- what a fork goes by, in families
abbrev pub kin_at : (ℕ → Option Area) → Family → Lineage
kin_at areas f = record { next = f.next; info = f.info; chain = chain_by areas f }

-- ---- chains by an own anon_vma

-- an area has the anon_vma as its own, or what is found leads to no chain
abbrev IsOwnedOr : (ℕ → Option Area) → Family → ℕ → Option ℕ → Type 0
IsOwnedOr areas f v found = ((b : ℕ) × (own_of (areas b) ≡ Some v)) ⊎ (option_map_or f.chain found [] ≡ [])

-- so it is among all users
owner_or_none : (areas : ℕ → Option Area) (f : Family) (v : ℕ) → ((b : ℕ) × (own_of (areas b) ≡ Some v)) ⊎ (chain_by areas f v ≡ [])
owner_or_none areas f v = of_all (f.users v)
  where
    by_first : (x : ℕ) (found : Option ℕ) (t : Bool) → owns v (own_of (areas x)) ≡ t → IsOwnedOr areas f v found
        → IsOwnedOr areas f v (cond t (Some x) found)
    by_first x found true e rest = inl (x, owns-is v (own_of (areas x)) e)
    by_first x found false e rest = rest

    of_all : (xs : List ℕ) → IsOwnedOr areas f v (find (λ a. owns v (own_of (areas a))) xs)
    of_all [] = inr refl
    of_all (x ∷ xs) = by_first x (find (λ a. owns v (own_of (areas a))) xs) (owns v (own_of (areas x))) refl (of_all xs)

-- where the same areas have it, with the chains that they had, its chain stays
chain_stays : (areas areas' : ℕ → Option Area) (f f' : Family) (spans spans' : ℕ → List Span) (v : ℕ) → IsInOrder areas f spans
    → IsInOrder areas' f' spans'
    → ((b : ℕ) → own_of (areas' b) ≡ Some v → (own_of (areas b) ≡ Some v) × (f'.chain b ≡ f.chain b))
    → ((b : ℕ) → own_of (areas b) ≡ Some v → own_of (areas' b) ≡ Some v) → chain_by areas' f' v ≡ chain_by areas f v
chain_stays areas areas' f f' spans spans' v o o' was stays = elim (owner_or_none areas f v) [
  | inl b ↦
      let own' = stays b.0 b.1 in
      chain_by-is areas' f' spans' b.0 v o' own' ∙ (was b.0 own').1 ∙ sym (chain_by-is areas f spans b.0 v o b.1)
  | inr none ↦ elim (owner_or_none areas' f' v) [
    | inl b ↦
        let old = was b.0 b.1 in
        chain_by-is areas' f' spans' b.0 v o' b.1 ∙ old.1 ∙ sym (chain_by-is areas f spans b.0 v o old.0)
    | inr none' ↦ none' ∙ sym none
  ]
]

-- ---- the child's area stands without anon_vma, and is then linked

next_is : (reuse : Option ℕ) (own : ℕ) (f : Family) → (child_family reuse own f).next ≡ next_with reuse f.next
next_is None own f = refl
next_is (Some v) own f = refl

info_is : (reuse : Option ℕ) (own : ℕ) (areas : ℕ → Option Area) (f : Family) → (child_family reuse own f).info ≡ info_with reuse own (kin_at areas f)
info_is None own areas f = refl
info_is (Some v) own areas f = refl

module _ (areas mid : ℕ → Option Area) (f : Family) (spans : ℕ → List Span) (src dst child : ℕ) (A : Area)
    (o : IsInOrder areas f spans) (is : areas src ≡ Some A) (whole : IsWhole A) (unused : areas dst ≡ None)
    (added : (k : ℕ) → mid k ≡ with_at dst (Some (record (forked_area child A) { anon = None })) areas k) where
  abbrev bare : Area
  bare = record (forked_area child A) { anon = None }

  apart : src ≢ dst
  apart e = none-some A (sym unused ∙ ap areas (sym e) ∙ is)

  src_is : mid src ≡ Some A
  src_is = added src ∙ with_at-other dst (Some bare) areas src apart ∙ is

  dst_is : mid dst ≡ Some bare
  dst_is = added dst ∙ with_at-here dst (Some bare) areas

  pub order_added : IsInOrder mid f spans
  order_added = (keeps_bare areas mid f spans dst o (Some bare) (ap own_of unused) refl (λ B e. subst IsWhole (same_Some bare B e) here) added).order
    where
      here : IsWhole bare
      here = record { start = whole.start; end = whole.end; some = whole.some; low = whole.low; high = whole.high; small = whole.small }

  own_is : (own : Option ℕ) → A.anon ≡ own → own_after_fork own src f ≡ own_in_child own (kin_at areas f)
  own_is None e = refl
  own_is (Some own) e = ap (λ c. Some (child_own (member_to_reuse f.info c) f.next)) (sym (chain_by-is areas f spans src own o (ap own_of is ∙ e)))

  -- the areas then
  given : (own : Option ℕ) (k : ℕ) → gets_own dst own mid k ≡ with_at dst (Some (record bare { anon = own })) areas k
  given None k = added k
  given (Some own) k =
      ap (λ x. with_at dst x mid k) (ap (with_own (Some own)) dst_is)
      ∙ (λ i. with_at dst (Some (record bare { anon = Some own })) (λ q. added q i) k)
      ∙ with_at-twice dst (Some (record bare { anon = Some own })) (Some bare) areas k

  -- one that is wiped stands so
  module _ (wiped : A.flags.wipe_on_fork ≡ true) where
    goes_by_none : None ≡ own_to_fork A
    goes_by_none = ap (λ b. cond b None A.anon) (sym wiped)

    pub areas_wiped : (k : ℕ) → mid k ≡ with_at dst (Some (area_in_child child (kin_at areas f) A)) areas k
    areas_wiped k = added k ∙ ap (λ own. with_at dst (Some (record bare { anon = own_in_child own (kin_at areas f) })) areas k) goes_by_none

    own_stays : (b : ℕ) → b ≢ dst → own_of (mid b) ≡ own_of (areas b)
    own_stays b ne = ap own_of (added b ∙ with_at-other dst (Some bare) areas b ne)

    chain_wiped : (v : ℕ) → chain_by mid f v ≡ chain_by areas f v
    chain_wiped v = chain_stays areas mid f f spans spans v o order_added
        (λ b own. (sym (own_stays b (λ e. none-some v (sym (ap own_of (ap mid e ∙ dst_is)) ∙ own))) ∙ own, refl))
        (λ b own. own_stays b (λ e. none-some v (sym (ap own_of unused) ∙ ap (λ m. own_of (areas m)) (sym e) ∙ own)) ∙ own)

    pub kin_wiped : kin_at mid f ≡ kin_with (own_to_fork A) (kin_at areas f)
    kin_wiped = (λ i. record { next = f.next; info = f.info; chain = λ v. chain_wiped v i })
        ∙ ap (λ own. kin_with own (kin_at areas f)) goes_by_none

  -- another goes by its own anon_vma
  module _ (not_wiped : A.flags.wipe_on_fork ≡ false) (new : ℕ → Option Area) (f' : Family) (spans' : ℕ → List Span)
      (now : (k : ℕ) → new k ≡ gets_own dst (own_after_fork (own_of (mid src)) src f) mid k)
      (was : f' ≡ after_fork (own_of (mid src)) src dst f) (spanned : GoWithLinks new f'.chain spans') where
    pub order_forked : IsInOrder new f' spans'
    order_forked =
        let g = gets_own dst (own_after_fork (own_of (mid src)) src f) mid in
        let same : new ≡ g = λ i k. now k i in
        let goes : GoWithLinks g (after_fork (own_of (mid src)) src dst f).chain spans' =
        subst (λ (m : Family). GoWithLinks g m.chain spans') was (subst (λ a. GoWithLinks a f'.chain spans') same spanned) in
        subst (λ a. IsInOrder a f' spans') (sym same) (subst (λ m. IsInOrder g m spans') (sym was)
        (order-fork mid f spans spans' src dst bare order_added dst_is refl goes))

    -- by the parent's own anon_vma
    now_by : (k : ℕ) → new k ≡ gets_own dst (own_after_fork A.anon src f) mid k
    now_by k = now k ∙ ap (λ x. gets_own dst (own_after_fork (own_of x) src f) mid k) src_is

    was_by : f' ≡ after_fork A.anon src dst f
    was_by = was ∙ ap (λ x. after_fork (own_of x) src dst f) src_is

    goes_by : A.anon ≡ own_to_fork A
    goes_by = ap (λ b. cond b None A.anon) (sym not_wiped)

    pub areas_forked : (k : ℕ) → new k ≡ with_at dst (Some (area_in_child child (kin_at areas f) A)) areas k
    areas_forked k = now_by k ∙ given (own_after_fork A.anon src f) k
        ∙ ap (λ own. with_at dst (Some (record bare { anon = own })) areas k)
        (own_is A.anon refl ∙ ap (λ own. own_in_child own (kin_at areas f)) goes_by)

    -- another area keeps its own anon_vma
    own_other : (b : ℕ) → b ≢ dst → own_of (new b) ≡ own_of (areas b)
    own_other b ne = ap own_of (areas_forked b ∙ with_at-other dst (Some (area_in_child child (kin_at areas f) A)) areas b ne)

    own_new : own_of (new dst) ≡ own_in_child A.anon (kin_at areas f)
    own_new = ap own_of (areas_forked dst ∙ with_at-here dst (Some (area_in_child child (kin_at areas f) A)) areas)
        ∙ ap (λ own. own_in_child own (kin_at areas f)) (sym goes_by)

    not_dst : (b v : ℕ) → own_of (areas b) ≡ Some v → b ≢ dst
    not_dst b v own e = none-some v (sym (ap own_of unused) ∙ ap (λ m. own_of (areas m)) (sym e) ∙ own)

    -- a chain stays where neither the child's area has the anon_vma nor another's links change
    chain_other : (v : ℕ) → (own_of (new dst) ≡ Some v → ⊥) → ((b : ℕ) → b ≢ dst → f'.chain b ≡ f.chain b) → chain_by new f' v ≡ chain_by areas f v
    chain_other v other links = chain_stays areas new f f' spans spans' v o order_forked
        (λ b own. let ne : b ≢ dst = λ e. other (ap (λ m. own_of (new m)) (sym e) ∙ own) in (sym (own_other b ne) ∙ own, links b ne))
        (λ b own. own_other b (not_dst b v own) ∙ own)

    chain_by_own : (own : Option ℕ) → A.anon ≡ own → f' ≡ after_fork own src dst f → own_of (new dst) ≡ own_in_child own (kin_at areas f)
        → (v : ℕ) → chain_by new f' v ≡ (kin_with own (kin_at areas f)).chain v
    chain_by_own None e was own v = chain_other v (λ h. none-some v (sym own ∙ h)) (λ b ne. ap (λ (m : Family). m.chain b) was)
    chain_by_own (Some x) e was own v =
        let k = kin_at areas f in
        let chain_is = chain_by-is areas f spans src x o (ap own_of is ∙ e) in
        let reuse = member_to_reuse f.info (k.chain x) in
        let u = child_own reuse f.next in
        let links : f'.chain ≡ with_at dst (child_chain reuse f.next (k.chain x)) f.chain =
        ap (λ (m : Family). m.chain) was
        ∙ ap (λ c. with_at dst (child_chain (member_to_reuse f.info c) f.next c) (child_family (member_to_reuse f.info c) x f).chain) (sym chain_is)
        ∙ ap (with_at dst (child_chain reuse f.next (k.chain x))) (child_family_chain reuse x f) in
        elim (cases_eq v u) [
          | inl h ↦
              ap (chain_by new f') h ∙ chain_by-is new f' spans' dst u order_forked own
              ∙ ap (λ c. c dst) links ∙ with_at-here dst (child_chain reuse f.next (k.chain x)) f.chain
              ∙ sym (ap (λ m. with_at u (child_chain reuse f.next (k.chain x)) k.chain m) h
              ∙ with_at-here u (child_chain reuse f.next (k.chain x)) k.chain)
          | inr ne ↦
              chain_other v (λ h. ne (same_Some v u (sym h ∙ own)))
              (λ b apart. ap (λ c. c b) links ∙ with_at-other dst (child_chain reuse f.next (k.chain x)) f.chain b apart)
              ∙ sym (with_at-other u (child_chain reuse f.next (k.chain x)) k.chain v ne)
        ]

    rest_by_own : (own : Option ℕ) → A.anon ≡ own → f' ≡ after_fork own src dst f
        → (f'.next ≡ (kin_with own (kin_at areas f)).next) × (f'.info ≡ (kin_with own (kin_at areas f)).info)
    rest_by_own None e was = (ap (λ (m : Family). m.next) was, ap (λ (m : Family). m.info) was)
    rest_by_own (Some x) e was =
        let k = kin_at areas f in
        let chain_is = chain_by-is areas f spans src x o (ap own_of is ∙ e) in
        let reuse = member_to_reuse f.info (k.chain x) in
        let same : f' ≡ with_links dst (child_chain reuse f.next (k.chain x)) (child_family reuse x f) =
        was ∙ ap (λ c. with_links dst (child_chain (member_to_reuse f.info c) f.next c) (child_family (member_to_reuse f.info c) x f))
        (sym chain_is) in
        (ap (λ (m : Family). m.next) same ∙ next_is reuse x f, ap (λ (m : Family). m.info) same ∙ info_is reuse x areas f)

    pub kin_forked : kin_at new f' ≡ kin_with (own_to_fork A) (kin_at areas f)
    kin_forked =
        let rest = rest_by_own A.anon refl was_by in
        let chains = chain_by_own A.anon refl was_by own_new in
        (λ i. record { next = rest.0 i; info = rest.1 i; chain = λ v. chains v i }) ∙ ap (λ own. kin_with own (kin_at areas f)) goes_by
