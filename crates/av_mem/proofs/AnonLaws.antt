-- What a change of areas leaves of the anon_vmas: the kernel's are those of the definitions.
use Rattle.std.proofs.Common.{◌≡◌, ℕ, Bool, true, false, cond, [], length, Option, Some, None, is_some, option_map, IfSome, IsSome, IsSomeAnd, refl, sym, ap, subst, ◌∙◌}
use Rattle.std.proofs.lemmas.Bool.{false≢true}
use Rattle.std.specs.Option.{option_map_or}
use Rattle.av_base.specs.Words.{is_in}
use Rattle.av_vma.specs.declared.area.Area.{Area}
use Rattle.av_anon.specs.declared.anons.Anons.{Anons as AnonSet}
use Rattle.av_anon.specs.declared.infos.Info.{Info}
use Rattle.av_anon.specs.Kin.{IsSameKin}
use Rattle.av_merge.specs.Kin.{lengths}
use Rattle.av_merge.proofs.Lengths.{AreAlike}
use Rattle.av_spaces.specs.Spaces.{AllSpaces, pages_of as areas_on}
use Rattle.av_spaces.specs.Kin as in_spaces
use Rattle.av_spaces.specs.Kin.{AnonsStay, IsLinkedIn, IsOwnedIn, info_of}
use Rattle.av_plain.specs.Areas.{AnonVma, Anons, AreLeft, Areas, IsLinked, chain_length, chain_by}
use Rattle.av_plain.specs.Device.{Device}
use Rattle.av_plain.specs.Stands.{AnonsStand, kin_of}
use Rattle.av_plain.specs.Transcript.{State}
use Rattle.av_mem.specs.declared.mem.Mem.{Mem}
use Rattle.av_mem.specs.Mem.{Keeps, anon_vma, anons_of, view}

some_is : {A : Type 0} (o : Option A) → is_some o ≡ true → (x : A) × (o ≡ Some x)
some_is None h = absurd (false≢true h)
some_is (Some x) h = (x, refl)

-- an anon_vma that is there shows the chain of its areas
pub shown_chain : (s : AllSpaces) (anons : AnonSet) (own : ℕ) → IsSome (info_of anons own) →
    chain_by (anons_of s anons) (Some own) ≡ in_spaces.chain_by s anons (Some own)
shown_chain s anons own there = by (info_of anons own) there
  where
    by : (o : Option Info) → IsSome o → option_map_or (λ (v : AnonVma). v.chain) (option_map (anon_vma (in_spaces.chain_by s anons (Some own))) o) []
        ≡ in_spaces.chain_by s anons (Some own)
    by None h = absurd (false≢true h)
    by (Some i) h = refl

-- it stays where it is there
abbrev if_there : Bool → Option AnonVma → Option AnonVma
if_there b v = cond b v None

-- the anon_vmas that are left
abbrev pub left_of : AnonSet → Anons → Anons
left_of now anons = record { next = anons.next; anon = λ v. if_there (is_some (info_of now v)) (anons.anon v) }

module _ (d : Device) (old : Mem) (s : State) (keeps : Keeps d old s) (spaces : AllSpaces) (now : AnonSet)
    (stay : AnonsStay old.spaces old.anons spaces now) where
  -- an own anon_vma is there, and was
  there_now : (v : ℕ) → IsOwnedIn spaces v → IsSome (info_of now v)
  there_now v h = stay.fit.linked v (h.0, h.1, with_chain (areas_on spaces.processes h.0 h.1) h.2)
    where
      with_chain : (o : Option Area) → IsSomeAnd o (λ area. area.anon ≡ Some v)
          → IsSomeAnd o (λ area. is_in v (in_spaces.chain_by spaces now area.anon) ≡ true)
      with_chain None is = is
      with_chain (Some A) is = ap (λ own. is_in v (in_spaces.chain_by spaces now own)) is ∙ stay.fit.own v h

  there_before : (v : ℕ) → IsOwnedIn spaces v → IsSome (info_of old.anons v)
  there_before v h =
      let i = some_is (info_of now v) (there_now v h) in
      of_and i.0 (info_of old.anons v) (subst (λ o. IfSome o (λ i. IsSomeAnd (info_of old.anons v) (λ was. IsSameKin was i))) i.1 (stay.kin v))
    where
      of_and : (i : Info) (o : Option Info) → IsSomeAnd o (λ was. IsSameKin was i) → IsSome o
      of_and i None h = absurd h
      of_and i (Some j) h = refl

  -- the chain of an own anon_vma is the one that the definitions have
  own_chain : (v : ℕ) → IsOwnedIn spaces v → in_spaces.chain_by spaces now (Some v) ≡ chain_by s.anons (Some v)
  own_chain v h =
      let was = stay.owned v h in
      stay.chains v h ∙ sym (shown_chain old.spaces old.anons v (there_before v h))
      ∙ at (s.areas was.0 was.1) (keeps.stands.anons.chains was.0 was.1)
      (subst (λ o. IsSomeAnd o (λ area. area.anon ≡ Some v)) (keeps.stands.areas was.0 was.1) was.2)
    where
      at : (o : Option Area) → IfSome o (λ area. chain_by (view old).anons area.anon ≡ chain_by s.anons area.anon)
          → IsSomeAnd o (λ area. area.anon ≡ Some v)
          → chain_by (anons_of old.spaces old.anons) (Some v) ≡ chain_by s.anons (Some v)
      at None c is = absurd is
      at (Some A) c is = subst (λ own. chain_by (anons_of old.spaces old.anons) own ≡ chain_by s.anons own) is c

  -- so is that of each area
  pub area_chain : (p page : ℕ) (A : Area) → areas_on spaces.processes p page ≡ Some A
      → in_spaces.chain_by spaces now A.anon ≡ chain_by s.anons A.anon
  area_chain p page A is = by A.anon refl
    where
      by : (own : Option ℕ) → A.anon ≡ own → in_spaces.chain_by spaces now own ≡ chain_by s.anons own
      by None e = refl
      by (Some v) e = own_chain v (p, page, subst (λ o. IsSomeAnd o (λ area. area.anon ≡ Some v)) (sym is) e)

  -- and its length
  pub lengths_alike : (p : ℕ) → AreAlike (lengths spaces.areas now) (chain_length s.anons) (areas_on spaces.processes p)
  lengths_alike p = record { same = λ page A is. by A.anon ∙ ap length (area_chain p page A is) }
    where
      by : (own : Option ℕ) → lengths spaces.areas now own ≡ length (in_spaces.chain_by spaces now own)
      by None = refl
      by (Some v) = refl

  module _ (on : Areas) (areas : (p page : ℕ) → areas_on spaces.processes p page ≡ on p page) where
    pub are_left : AreLeft s.anons on (left_of now s.anons)
    are_left = record {
      next = refl;
      there = λ v h. linked_on v (stay.fit.there v (kept v (is_some (info_of now v)) refl h));
      linked = λ v h. ap (λ b. if_there b (s.anons.anon v)) (stay.fit.linked v (linked_in v h));
    }
      where
        kept : (v : ℕ) (b : Bool) → is_some (info_of now v) ≡ b → IsSome (if_there b (s.anons.anon v)) → IsSome (info_of now v)
        kept v true e h = e
        kept v false e h = absurd (false≢true h)

        linked_on : (v : ℕ) → IsLinkedIn spaces now v → IsLinked s.anons on v
        linked_on v h = (
          h.0,
          h.1,
          subst (λ o. IsSomeAnd o (λ area. is_in v (chain_by s.anons area.anon) ≡ true)) (areas h.0 h.1)
              (by (areas_on spaces.processes h.0 h.1) refl h.2),
        )
          where
            by : (o : Option Area) → areas_on spaces.processes h.0 h.1 ≡ o
                → IsSomeAnd o (λ area. is_in v (in_spaces.chain_by spaces now area.anon) ≡ true) →
                IsSomeAnd o (λ area. is_in v (chain_by s.anons area.anon) ≡ true)
            by None e is = is
            by (Some A) e is = sym (ap (is_in v) (area_chain h.0 h.1 A e)) ∙ is

        linked_in : (v : ℕ) → IsLinked s.anons on v → IsLinkedIn spaces now v
        linked_in v h = (
          h.0,
          h.1,
          by (areas_on spaces.processes h.0 h.1) refl
              (subst (λ o. IsSomeAnd o (λ area. is_in v (chain_by s.anons area.anon) ≡ true)) (sym (areas h.0 h.1)) h.2),
        )
          where
            by : (o : Option Area) → areas_on spaces.processes h.0 h.1 ≡ o → IsSomeAnd o (λ area. is_in v (chain_by s.anons area.anon) ≡ true) →
                IsSomeAnd o (λ area. is_in v (in_spaces.chain_by spaces now area.anon) ≡ true)
            by None e is = is
            by (Some A) e is = ap (is_in v) (area_chain h.0 h.1 A e) ∙ is

    pub anons_stand : (new : Mem) → new.spaces ≡ spaces → new.anons ≡ now → AnonsStand (view new) on (left_of now s.anons)
    anons_stand new same_spaces same_anons = record {
      next = ap (λ (a : AnonSet). a.next) same_anons ∙ stay.next ∙ keeps.stands.anons.next;
      kin = λ n. shown n ∙ kin_at n (info_of now n) refl (stay.kin n);
      chains = λ p page. chain_at p page (on p page) refl;
    }
      where
        anons_are : anons_of new.spaces new.anons ≡ anons_of spaces now
        anons_are = λ i. anons_of (same_spaces i) (same_anons i)

        shown : (n : ℕ) → option_map kin_of ((view new).anons.anon n) ≡ option_map kin_of ((anons_of spaces now).anon n)
        shown n = ap (λ (a : Anons). option_map kin_of (a.anon n)) anons_are

        same_kin : (n : ℕ) (i : Info) (o : Option Info) → IsSomeAnd o (λ was. IsSameKin was i)
            → option_map kin_of (Some (anon_vma (in_spaces.chain_by spaces now (Some n)) i)) ≡ option_map kin_of
            (option_map (anon_vma (in_spaces.chain_by old.spaces old.anons (Some n))) o)
        same_kin n i None h = absurd h
        same_kin n i (Some was) h = λ k. Some (h.root k, h.parent k)

        kin_at : (n : ℕ) (o : Option Info) → info_of now n ≡ o → IfSome o (λ i. IsSomeAnd (info_of old.anons n) (λ was. IsSameKin was i))
            → option_map kin_of (option_map (anon_vma (in_spaces.chain_by spaces now (Some n))) o) ≡ option_map kin_of
            (if_there (is_some o) (s.anons.anon n))
        kin_at n None e h = refl
        kin_at n (Some i) e h = same_kin n i (info_of old.anons n) h ∙ keeps.stands.anons.kin n

        left_chain : (A : Area) (p page : ℕ) → areas_on spaces.processes p page ≡ Some A →
            chain_by (anons_of spaces now) A.anon ≡ chain_by (left_of now s.anons) A.anon
        left_chain A p page is = by A.anon refl
          where
            by : (own : Option ℕ) → A.anon ≡ own → chain_by (anons_of spaces now) own ≡ chain_by (left_of now s.anons) own
            by None e = refl
            by (Some v) e =
                let owned : IsOwnedIn spaces v = (p, page, subst (λ o. IsSomeAnd o (λ area. area.anon ≡ Some v)) (sym is) e) in
                shown_chain spaces now v (there_now v owned) ∙ own_chain v owned
                ∙ sym (ap (λ b. option_map_or (λ (w : AnonVma). w.chain) (if_there b (s.anons.anon v)) []) (there_now v owned))

        chain_at : (p page : ℕ) (o : Option Area) → on p page ≡ o → IfSome o
            (λ area. chain_by (view new).anons area.anon ≡ chain_by (left_of now s.anons) area.anon)
        chain_at p page None e = tt
        chain_at p page (Some A) e = ap (λ (a : Anons). chain_by a A.anon) anons_are ∙ left_chain A p page (areas p page ∙ e)
