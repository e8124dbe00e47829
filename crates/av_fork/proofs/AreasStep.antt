-- One area of a parent goes to its child: what the kernel makes of areas and anon_vmas, the definitions do.
use Rattle.std.proofs.Common.{◌≡◌, ℕ, suc, Bool, true, false, cond, ◌==◌, List, [], ◌∷◌, ◌++◌, Option, Some, None, option_map, IfSome, IsSome, IsSomeAnd, refl, sym, ap, subst, ◌∙◌, eq-eqb}
use Rattle.std.proofs.lemmas.Bool.{eqb-true, false≢true}
use Rattle.std.specs.Option.{option_map_or}
use Rattle.av_base.specs.Words.{with_at}
use Rattle.av_vma.specs.declared.area.Area.{Area}
use Rattle.av_vma.specs.Fork.{forked_area, own_to_fork}
use Rattle.av_vma.specs.Pages.{has_page, with_area}
use Rattle.av_anon.specs.declared.anons.Anons.{Anons as AnonSet}
use Rattle.av_anon.specs.declared.infos.Info.{Info}
use Rattle.av_anon.specs.Fork.{child_chain, child_own, member_to_reuse, root_of}
use Rattle.av_anon.specs.Infos.{more_active, more_children, with_info}
use Rattle.av_anon.proofs.Choosing.{reused_there}
use Rattle.av_merge.specs.Forking.{Lineage, info_with, kin_with, next_with, own_in_child}
use Rattle.av_merge.specs.Kin.{kin_in}
use Rattle.av_spaces.specs.Fork.{kin_of as kin_now}
use Rattle.av_spaces.specs.Kin.{AnonsFit, IsOwnedIn}
use Rattle.av_spaces.specs.Spaces.{AllSpaces, Spaces, pages_of as areas_on}
use Rattle.av_plain.specs.Areas.{AnonVma, Anons, Rmap, chain_by, root_of as root_in}
use Rattle.av_plain.specs.Fork.{GoesBy, own_of_child, with_child, with_child_area}
use Rattle.av_plain.specs.Stands.{kin_of}
use Rattle.av_fork.proofs.AreasReused.{Shows, chain_in, is_reused}

-- what each area has, the child's new one too
each_area : (P : Area → Type 0) (q : ℕ) (own : Option ℕ) (area : Area) (r : Rmap) → P (record (forked_area q area) { anon = own })
    → ((p page : ℕ) → IfSome (r.areas p page) P) → (p page : ℕ) → IfSome ((with_child_area q own area r).areas p page) P
each_area P q own area r new old p page = by (p == q)
  where
    over : (b : Bool) → IfSome (cond b (Some (record (forked_area q area) { anon = own })) (r.areas q page)) P
    over true = new
    over false = old q page

    by : (b : Bool) → IfSome ((cond b (with_area (record (forked_area q area) { anon = own }) (r.areas q)) (r.areas p)) page) P
    by true = over (has_page area page)
    by false = old p page

-- a change that leaves root and parent leaves the kin
kin_same : (info : ℕ → Option Info) (at : ℕ) (change : Info → Info) → ((i : Info) → kin_in (change i) ≡ kin_in i)
    → (v : ℕ) → option_map kin_in (with_info at change info v) ≡ option_map kin_in (info v)
kin_same info at change same v = by (v == at) refl
  where
    changed : (o : Option Info) → option_map kin_in (option_map change o) ≡ option_map kin_in o
    changed None = refl
    changed (Some i) = ap Some (same i)

    by : (b : Bool) → (v == at) ≡ b → option_map kin_in (cond b (option_map change (info at)) (info v)) ≡ option_map kin_in (info v)
    by true e = changed (info at) ∙ ap (λ n. option_map kin_in (info n)) (sym (eqb-true v at e))
    by false e = refl

-- the area went over
pub record GoesOn (k : Lineage) (child : ℕ) (area : Area) (r : Rmap) (own : Option ℕ) : Type 0 where
  pub next : Rmap
  pub goes : GoesBy own child area r next
  pub shows : (spaces : Spaces)
      → ((p page : ℕ) → areas_on spaces p page ≡ (with_child_area child (own_in_child own k) area r).areas p page)
      → Shows spaces (kin_with own k) next

module _ (mid : AllSpaces) (a : AnonSet) (fit : AnonsFit mid a) (r : Rmap) (shows : Shows mid.processes (kin_now mid a) r) (child : ℕ) (area : Area)
    (owned : (v : ℕ) → own_to_fork area ≡ Some v → IsOwnedIn mid v) where
  abbrev k : Lineage
  k = kin_now mid a

  chain_same : (v : ℕ) → IsOwnedIn mid v → k.chain v ≡ chain_by r.anons (Some v)
  chain_same v h = by (r.areas h.0 h.1) (shows.chains h.0 h.1) (subst (λ o. IsSomeAnd o (λ area. area.anon ≡ Some v)) (shows.areas h.0 h.1) h.2)
    where
      by : (o : Option Area) → IfSome o (λ area. chain_in k area.anon ≡ chain_by r.anons area.anon) → IsSomeAnd o (λ area. area.anon ≡ Some v)
          → k.chain v ≡ chain_by r.anons (Some v)
      by None c is = absurd is
      by (Some A) c is = subst (λ o. chain_in k o ≡ chain_by r.anons o) is c

  -- ---- without an own anon_vma

  goes_bare : GoesOn k child area r None
  goes_bare = record {
    next = with_child_area child None area r;
    goes = refl;
    shows = λ spaces now. record {
      areas = now;
      next = shows.next;
      kin = shows.kin;
      chains = each_area (λ A. chain_in k A.anon ≡ chain_by r.anons A.anon) child None area r refl shows.chains;
    };
  }

  -- ---- by an own one

  module _ (own : ℕ) (reuse : Option ℕ) (is : member_to_reuse k.info (k.chain own) ≡ reuse) (same : k.chain own ≡ chain_by r.anons (Some own)) where
    abbrev made : Anons
    made = with_child own reuse r.anons

    abbrev after : Lineage
    after = record {
      next = next_with reuse k.next;
      info = info_with reuse own k;
      chain = with_at (child_own reuse k.next) (child_chain reuse k.next (k.chain own)) k.chain;
    }

    -- the one that is made where none is had again
    abbrev child_anon : AnonVma
    child_anon = record { root = root_in r.anons own; parent = own; chain = chain_by r.anons (Some own) ++ r.anons.next ∷ [] }

    own_same : child_own reuse k.next ≡ own_of_child r.anons reuse
    own_same = by reuse
      where
        by : (o : Option ℕ) → child_own o k.next ≡ own_of_child r.anons o
        by None = shows.next
        by (Some v) = refl

    next_same : next_with reuse k.next ≡ made.next
    next_same = by reuse
      where
        by : (o : Option ℕ) → next_with o k.next ≡ (with_child own o r.anons).next
        by None = ap suc shows.next
        by (Some v) = shows.next

    root_same : root_of own (k.info own) ≡ root_in r.anons own
    root_same = of_info (k.info own) ∙ ap root_by (shows.kin own) ∙ of_anon (r.anons.anon own)
      where
        root_by : Option (ℕ × ℕ) → ℕ
        root_by None = own
        root_by (Some kin) = kin.0

        of_info : (o : Option Info) → root_of own o ≡ root_by (option_map kin_in o)
        of_info None = refl
        of_info (Some i) = refl

        of_anon : (o : Option AnonVma) → root_by (option_map kin_of o) ≡ option_map_or (λ (anon : AnonVma). anon.root) o own
        of_anon None = refl
        of_anon (Some anon) = refl

    same_number : (v : ℕ) → (v == k.next) ≡ (v == r.anons.next)
    same_number v = ap (λ n. v == n) shows.next

    kin_made : (v : ℕ) → option_map kin_in (info_with None own k v) ≡ option_map kin_of ((with_child own None r.anons).anon v)
    kin_made v = ap (λ b. option_map kin_in (cond b new (with_info own more_children k.info v))) (same_number v) ∙ by (v == r.anons.next)
      where
        new : Option Info
        new = Some (record { root = root_of own (k.info own); parent = own; children = 0; active = 1 })

        by : (b : Bool) → option_map kin_in (cond b new (with_info own more_children k.info v))
            ≡ option_map kin_of (cond b (Some child_anon) (r.anons.anon v))
        by true = ap (λ root. Some (root, own)) root_same
        by false = kin_same k.info own more_children (λ i. refl) v ∙ shows.kin v

    kin_had : (w : ℕ) → IsSome (k.info w) → (v : ℕ)
        → option_map kin_in (info_with (Some w) own k v) ≡ option_map kin_of ((with_child own (Some w) r.anons).anon v)
    kin_had w there v = kin_same k.info w more_active (λ i. refl) v ∙ shows.kin v ∙ by (v == w) refl
      where
        again : Option AnonVma → Option AnonVma
        again o = Some (record {
          root = option_map_or (λ (anon : AnonVma). anon.root) o w;
          parent = option_map_or (λ (anon : AnonVma). anon.parent) o w;
          chain = chain_by r.anons (Some own);
        })

        at : (i : Option Info) (o : Option AnonVma) → IsSome i → option_map kin_in i ≡ option_map kin_of o
            → option_map kin_of o ≡ option_map kin_of (again o)
        at None o some e = absurd (false≢true some)
        at (Some i) None some e = absurd cc
        at (Some i) (Some anon) some e = refl

        by : (b : Bool) → (v == w) ≡ b → option_map kin_of (r.anons.anon v) ≡ option_map kin_of (cond b (again (r.anons.anon w)) (r.anons.anon v))
        by true e = ap (λ n. option_map kin_of (r.anons.anon n)) (eqb-true v w e) ∙ at (k.info w) (r.anons.anon w) there (shows.kin w)
        by false e = refl

    kin_now_same : (v : ℕ) → option_map kin_in (info_with reuse own k v) ≡ option_map kin_of (made.anon v)
    kin_now_same = by reuse is
      where
        by : (o : Option ℕ) → member_to_reuse k.info (k.chain own) ≡ o → (v : ℕ)
            → option_map kin_in (info_with o own k v) ≡ option_map kin_of ((with_child own o r.anons).anon v)
        by None is = kin_made
        by (Some w) is = kin_had w (reused_there k.info (k.chain own) w is)

    -- the chain of one that is not the child's stays
    chain_now : (v : ℕ) → ((v == own_of_child r.anons reuse) ≡ false → k.chain v ≡ chain_by r.anons (Some v))
        → with_at (child_own reuse k.next) (child_chain reuse k.next (k.chain own)) k.chain v ≡ chain_by made (Some v)
    chain_now v other = by reuse other
      where
        at : (chain : List ℕ) (anon : AnonVma) (b : Bool) → chain ≡ anon.chain → (b ≡ false → k.chain v ≡ chain_by r.anons (Some v))
            → cond b chain (k.chain v) ≡ option_map_or (λ (w : AnonVma). w.chain) (cond b (Some anon) (r.anons.anon v)) []
        at chain anon true e other = e
        at chain anon false e other = other refl

        by : (o : Option ℕ) → ((v == own_of_child r.anons o) ≡ false → k.chain v ≡ chain_by r.anons (Some v))
            → with_at (child_own o k.next) (child_chain o k.next (k.chain own)) k.chain v ≡ chain_by (with_child own o r.anons) (Some v)
        by None other =
            ap (λ b. cond b (k.chain own ++ k.next ∷ []) (k.chain v)) (same_number v)
            ∙ at (k.chain own ++ k.next ∷ []) child_anon (v == r.anons.next)
            (λ i. same i ++ shows.next i ∷ []) other
        by (Some w) other = at (k.chain own) (record {
          root = root_in r.anons w;
          parent = option_map_or (λ (anon : AnonVma). anon.parent) (r.anons.anon w) w;
          chain = chain_by r.anons (Some own);
        }) (v == w) same other

    old_chain : (own' : Option ℕ) → chain_in k own' ≡ chain_by r.anons own' → chain_in after own' ≡ chain_by made own'
    old_chain None h = refl
    old_chain (Some v) h = chain_now v (λ _. h)

    old_chains : (p page : ℕ) → IfSome (r.areas p page) (λ A. chain_in after A.anon ≡ chain_by made A.anon)
    old_chains p page = by (r.areas p page) (shows.chains p page)
      where
        by : (o : Option Area) → IfSome o (λ A. chain_in k A.anon ≡ chain_by r.anons A.anon)
            → IfSome o (λ A. chain_in after A.anon ≡ chain_by made A.anon)
        by None h = tt
        by (Some A) h = old_chain A.anon h

    abbrev left : Rmap
    left = record (with_child_area child (Some (own_of_child r.anons reuse)) area r) { anons = made }

    own_shows : (spaces : Spaces)
        → ((p page : ℕ) → areas_on spaces p page ≡ (with_child_area child (Some (child_own reuse k.next)) area r).areas p page)
        → Shows spaces after left
    own_shows spaces now = record {
      areas = λ p page. now p page ∙ ap (λ o. (with_child_area child (Some o) area r).areas p page) own_same;
      next = next_same;
      kin = kin_now_same;
      chains = each_area (λ A. chain_in after A.anon ≡ chain_by made A.anon) child (Some (own_of_child r.anons reuse)) area r
          (chain_now (own_of_child r.anons reuse) (λ e. absurd (false≢true (sym e ∙ eq-eqb _ (own_of_child r.anons reuse) refl)))) old_chains;
    }

  goes_own : (own : ℕ) → own_to_fork area ≡ Some own → GoesOn k child area r (Some own)
  goes_own own is =
      let same = chain_same own (owned own is) in
      let reuse = member_to_reuse k.info (k.chain own) in
      record {
        next = left own reuse refl same;
        goes = (reuse, is_reused mid a fit r shows own same, refl);
        shows = own_shows own reuse refl same;
      }

  pub goes_on : GoesOn k child area r (own_to_fork area)
  goes_on = by (own_to_fork area) refl
    where
      by : (own : Option ℕ) → own_to_fork area ≡ own → GoesOn k child area r own
      by None is = goes_bare
      by (Some own) is = goes_own own is
