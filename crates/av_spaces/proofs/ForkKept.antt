-- What there was stays over a fork: roots, parents, and the chains by own anon_vma.
use Rattle.std.proofs.Common.{◌≡◌, ◌≢◌, ℕ, zero, suc, ◌+◌, ◌<◌, ◌≤◌, ◌↔◌, ◌⊎◌, true, false, cond, ne_eqb, List, [], ◌∷◌, ◌++◌, length, take, get_or, inl, inr, Option, Some, None, option_map, IfSome, IsSome, IsSomeAnd, refl, sym, ap, subst, ◌∙◌, arith}
use Rattle.std.proofs.lemmas.Bool.{cases_eq, cases_lt}
use Rattle.std.proofs.lemmas.List.{take_all, take_more}
use Rattle.av_base.specs.Flags.{no_flags}
use Rattle.av_base.specs.Words.{is_in}
use Rattle.av_vma.specs.declared.area.Area.{Area}
use Rattle.av_vma.specs.Fork.{areas_to_fork, own_to_fork}
use Rattle.av_vma.specs.Pages.{pages_in}
use Rattle.av_anon.specs.declared.anons.Anons.{Anons}
use Rattle.av_anon.specs.declared.infos.Info.{Info}
use Rattle.av_anon.specs.Fork.{child_own, member_to_reuse, root_of}
use Rattle.av_anon.specs.Infos.{more_active, more_children, with_info}
use Rattle.av_anon.specs.Kin.{IsSameKin}
use Rattle.av_anon.proofs.Choosing.{found_idle}
use Rattle.av_anon.proofs.Words.{with_at-here, with_at-other}
use Rattle.av_merge.specs.Forking.{Lineage, info_with, kin_with}
use Rattle.av_spaces.specs.Fork.{AreKept, GoInTurn, IsForked, kin_after, kin_of}
use Rattle.av_spaces.specs.Kin.{AnonsFit, IsOwnedIn, chain_by, info_of}
use Rattle.av_spaces.specs.Spaces.{AllSpaces, IsSpawned, areas_of, pages_of}
use Rattle.av_spaces.proofs.ForkLaws.{kin_after-more}

-- an anon_vma is there, with this root and parent
abbrev IsKin : Option Info → Info → Type 0
IsKin now was = IsSomeAnd now (λ i. IsSameKin was i)

-- a change that leaves root and parent
kin_changed : (info : ℕ → Option Info) (at : ℕ) (change : Info → Info) (v : ℕ) (was : Info) → ((i : Info) → IsSameKin i (change i))
    → IsKin (info v) was → IsKin (with_info at change info v) was
kin_changed info at change v was same h = elim (cases_eq v at) [
  | inl e ↦
      subst (λ o. IsKin o was) (sym (ap (λ m. with_info at change info m) e ∙ with_at-here at (option_map change (info at)) info))
      (by (info at) (subst (λ m. IsKin (info m) was) e h))
  | inr ne ↦ subst (λ o. IsKin o was) (sym (with_at-other at (option_map change (info at)) info v ne)) h
]
  where
    by : (o : Option Info) → IsKin o was → IsKin (option_map change o) was
    by None h = absurd h
    by (Some i) h = let c = same i in record { root = c.root ∙ h.root; parent = c.parent ∙ h.parent }

there : (o : Option Info) (was : Info) → IsKin o was → IsSome o
there None was h = absurd h
there (Some i) was h = refl

-- an area goes where anon_vmas fit
module _ (s : AllSpaces) (a : Anons) (fit : AnonsFit s a) where
  pub owned_there : (v : ℕ) → IsOwnedIn s v → IsSome (info_of a v)
  owned_there v owned = fit.linked v (owned.0, owned.1, by (pages_of s.processes owned.0 owned.1) owned.2)
    where
      by : (o : Option Area) → IsSomeAnd o (λ area. area.anon ≡ Some v) → IsSomeAnd o (λ area. is_in v (chain_by s a area.anon) ≡ true)
      by None is = absurd is
      by (Some area) is = ap (λ own. is_in v (chain_by s a own)) is ∙ fit.own v owned

  -- the child's own one is not some area's
  not_own : (own v : ℕ) → IsOwnedIn s v → v ≢ child_own (member_to_reuse (kin_of s a).info ((kin_of s a).chain own)) (kin_of s a).next
  not_own own v owned = by (member_to_reuse (kin_of s a).info ((kin_of s a).chain own)) refl
    where
      none : {i : Info} (o : Option Info) → o ≡ Some i → IfSome o (λ i. (1 ≤ i.active) ↔ IsOwnedIn s v) → (i.active ≡ 0) → ⊥
      none {i} o e h idle = let some : 1 ≤ i.active = (subst (λ o. IfSome o (λ i. (1 ≤ i.active) ↔ IsOwnedIn s v)) e h).1 owned in
          absurd (omega (arith, some, idle))

      by : (reuse : Option ℕ) → member_to_reuse (kin_of s a).info ((kin_of s a).chain own) ≡ reuse → v ≢ child_own reuse (kin_of s a).next
      by None is e = let below : v < a.next = fit.order.below v (owned_there v owned) in absurd (omega (arith, below, e))
      by (Some w) is e =
          let idle = found_idle (kin_of s a).info ((kin_of s a).chain own) w is in
          none (info_of a v) (ap (info_of a) e ∙ idle.1) (fit.active v) idle.2

  kept_kin : (own : Option ℕ) (v : ℕ) (was : Info) → IsKin (info_of a v) was → IsKin ((kin_with own (kin_of s a)).info v) was
  kept_kin None v was h = h
  kept_kin (Some own) v was h = by (member_to_reuse (kin_of s a).info ((kin_of s a).chain own))
    where
      by : (reuse : Option ℕ) → IsKin (info_with reuse own (kin_of s a) v) was
      by (Some w) = kin_changed (info_of a) w more_active v was (λ i. record { root = refl; parent = refl }) h
      by None =
          let below : v < a.next = fit.order.below v (there (info_of a v) was h) in
          subst (λ o. IsKin o was)
          (sym (with_at-other a.next (Some (record { root = root_of own (info_of a own); parent = own; children = 0; active = 1 }))
          (with_info own more_children (info_of a)) v (λ e. absurd (omega (arith, below, e)))))
          (kin_changed (info_of a) own more_children v was (λ i. record { root = refl; parent = refl }) h)

  kept_chain : (own : Option ℕ) (v : ℕ) → IsOwnedIn s v → (kin_with own (kin_of s a)).chain v ≡ (kin_of s a).chain v
  kept_chain None v owned = refl
  kept_chain (Some own) v owned = with_at-other _ _ (kin_of s a).chain v (not_own own v owned)

-- what there was is so after the first areas
record IsKept (s : AllSpaces) (old : Anons) (k : Lineage) : Type 0 where
  kin : (v : ℕ) → IfSome (info_of old v) (IsKin (k.info v))
  chains : (v : ℕ) → IsOwnedIn s v → k.chain v ≡ chain_by s old (Some v)

module _ (s : AllSpaces) (old : Anons) (child : ℕ) (areas : List Area) (dead : areas_of s.processes child ≡ None)
    (turn : GoInTurn s old child areas) where
  -- what an area had as its own it has
  owned_still : (mid : AllSpaces) (these : List Area) → IsSpawned s.processes mid.processes child these → (v : ℕ) → IsOwnedIn s v → IsOwnedIn mid v
  owned_still mid these spawned v owned = elim (cases_eq owned.0 child) [
    | inl e ↦ absurd (subst (λ o. IsSomeAnd (pages_in o owned.1) (λ area. area.anon ≡ Some v)) (ap (areas_of s.processes) e ∙ dead) owned.2)
    | inr ne ↦ (
      owned.0,
      owned.1,
      subst (λ o. IsSomeAnd (pages_in o owned.1) (λ area. area.anon ≡ Some v))
          (sym (spawned.areas owned.0 ∙ ap (λ b. cond b (Some these) (areas_of s.processes owned.0)) (ne_eqb owned.0 child ne))) owned.2,
    )
  ]

  kept_step : (mid : AllSpaces) (a : Anons) (done : List Area) (area : Area) → IsForked s old mid a child done
      → IsKept s old (kin_after done (kin_of s old))
      → IsKept s old (kin_after (done ++ area ∷ []) (kin_of s old))
  kept_step mid a done area f h = subst (IsKept s old) (ap (kin_with (own_to_fork area)) f.kin ∙ sym (kin_after-more done area (kin_of s old))) (record {
    kin = λ v. by v (info_of old v) (now.kin v);
    chains = λ v owned. kept_chain mid a f.fit (own_to_fork area) v (owned_still mid _ f.spawned v owned) ∙ now.chains v owned;
  })
    where
      now : IsKept s old (kin_of mid a)
      now = subst (IsKept s old) (sym f.kin) h

      by : (v : ℕ) (o : Option Info) → IfSome o (IsKin (info_of a v)) → IfSome o (IsKin ((kin_with (own_to_fork area) (kin_of mid a)).info v))
      by v None h = tt
      by v (Some was) h = kept_kin mid a f.fit (own_to_fork area) v was h

  kept_at : (n : ℕ) → IsKept s old (kin_after (take n areas) (kin_of s old))
  kept_at zero = record { kin = λ v. by (info_of old v); chains = λ v owned. refl }
    where
      by : (o : Option Info) → IfSome o (IsKin o)
      by None = tt
      by (Some i) = record { root = refl; parent = refl }
  kept_at (suc n) = by (cases_lt n (length areas)) (kept_at n)
    where
      none : Area
      none = record { pid = 0; start = 0; end = 0; prot = record { read = false; write = false; execute = false }; flags = no_flags; pgoff = 0; anon = None }

      by : (n < length areas) ⊎ (length areas ≤ n) → IsKept s old (kin_after (take n areas) (kin_of s old)) →
          IsKept s old (kin_after (take (suc n) areas) (kin_of s old))
      by (inl inside) h =
          let m = turn n in
          let e : n + 1 ≡ suc n = omega arith in
          subst (λ l. IsKept s old (kin_after l (kin_of s old))) (sym (take_more areas n none inside) ∙ ap (λ n. take n areas) e)
          (kept_step m.0 m.1 (take n areas) (get_or areas n none) m.2 h)
      by (inr outside) h = subst (λ l. IsKept s old (kin_after l (kin_of s old)))
          (take_all n areas outside ∙ sym (take_all (suc n) areas (omega (arith, outside)))) h

  pub kept : (s' : AllSpaces) (new : Anons) → IsForked s old s' new child areas → AreKept s old s' new
  kept s' new f =
      let all : IsKept s old (kin_of s' new) =
      subst (IsKept s old) (ap (λ l. kin_after l (kin_of s old)) (take_all (length areas) areas (omega arith)) ∙ sym f.kin)
      (kept_at (length areas)) in
      record { kin = all.kin; chains = all.chains }

-- by the parent's areas
pub kept_by : (s : AllSpaces) (old : Anons) (s' : AllSpaces) (new : Anons) (child : ℕ) (parent : Option (List Area))
    → areas_of s.processes child ≡ None
    → IsSomeAnd parent (λ areas. IsForked s old s' new child (areas_to_fork areas)) → IsSomeAnd parent (λ areas. GoInTurn s old child (areas_to_fork areas))
    → AreKept s old s' new
kept_by s old s' new child None dead f turn = absurd f
kept_by s old s' new child (Some areas) dead f turn = kept s old child (areas_to_fork areas) dead turn s' new f
