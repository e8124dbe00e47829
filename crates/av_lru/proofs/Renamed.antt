-- How a ring of places changes when a frame gives its place to another.
use Rattle.std.proofs.Common.{◌≡◌, ◌≢◌, ◌⊎◌, ℕ, suc, List, [], ◌∷◌, length, map, Option, Some, None, refl, sym, ap, ◌∙◌, subst, inl, inr, eq-eqb, ne_eqb}
use Rattle.std.proofs.lemmas.Bool.{cases_eq, cond-true, cond-false}
use Rattle.std.proofs.lemmas.Option.{none-some}
use Rattle.av_base.specs.Words.{renamed}
use Rattle.av_lru.specs.declared.lists.Which.{Which}
use Rattle.av_lru.specs.Links.{IsIn, AreApart, Inserts, IsPath, IsRing}
use Rattle.av_lru.proofs.Paths.{IsPath-kept, not_on, prev_on, next_on, off_ring}

module _ (f t : ℕ) where
  -- ---- lists of frames

  renamed_here : (g : ℕ) → g ≡ f → renamed f t g ≡ t
  renamed_here g same = cond-true _ _ _ (eq-eqb g f same)

  renamed_other : (g : ℕ) → g ≢ f → renamed f t g ≡ g
  renamed_other g differs = cond-false _ _ _ (ne_eqb g f differs)

  pub map-absent : (fs : List ℕ) → ¬ IsIn f fs → map (renamed f t) fs ≡ fs
  map-absent [] absent = refl
  map-absent (g ∷ gs) absent = λ i.
      renamed_other g (λ same. absent (inl same)) i ∷ map-absent gs (λ found. absent (inr found)) i

  pub length-renamed : (fs : List ℕ) → length (map (renamed f t) fs) ≡ length fs
  length-renamed [] = refl
  length-renamed (g ∷ gs) = ap suc (length-renamed gs)

  -- a frame of the list now is the new one, or another than the old one
  IsIn-renamed : (other : ℕ) (fs : List ℕ) → IsIn other (map (renamed f t) fs) → ((other ≡ t) × IsIn f fs) ⊎ (IsIn other fs × (other ≢ f))
  IsIn-renamed other [] found = absurd found
  IsIn-renamed other (g ∷ gs) (inl here) = elim (cases_eq g f) [
    | inl same ↦ inl (sym here ∙ renamed_here g same, inl same)
    | inr differs ↦
        let is : g ≡ other = sym (renamed_other g differs) ∙ here in inr (inl is, λ e. differs (is ∙ e))
  ]
  IsIn-renamed other (g ∷ gs) (inr there) = elim (IsIn-renamed other gs there) [
    | inl new ↦ inl (new.0, inr new.1)
    | inr old ↦ inr (inr old.0, old.1)
  ]

  IsIn-renamed_new : (fs : List ℕ) → IsIn f fs → IsIn t (map (renamed f t) fs)
  IsIn-renamed_new [] found = absurd found
  IsIn-renamed_new (g ∷ gs) (inl here) = inl (renamed_here g here)
  IsIn-renamed_new (g ∷ gs) (inr there) = inr (IsIn-renamed_new gs there)

  IsIn-renamed_kept : (other : ℕ) (fs : List ℕ) → IsIn other fs → other ≢ f → IsIn other (map (renamed f t) fs)
  IsIn-renamed_kept other [] found differs = absurd found
  IsIn-renamed_kept other (g ∷ gs) (inl here) differs = inl (renamed_other g (λ e. differs (sym here ∙ e)) ∙ here)
  IsIn-renamed_kept other (g ∷ gs) (inr there) differs = inr (IsIn-renamed_kept other gs there differs)

  AreApart-renamed : (fs : List ℕ) → AreApart fs → ¬ IsIn t fs → AreApart (map (renamed f t) fs)
  AreApart-renamed [] apart absent = tt
  AreApart-renamed (g ∷ gs) apart absent = (first, AreApart-renamed gs apart.1 (λ found. absent (inr found)))
    where
      first : ¬ IsIn (renamed f t g) (map (renamed f t) gs)
      first found = elim (cases_eq g f) [
        | inl same ↦
            elim (IsIn-renamed t gs (subst (λ k. IsIn k (map (renamed f t) gs)) (renamed_here g same) found)) [
              | inl new ↦ apart.0 (subst (λ k. IsIn k gs) (sym same) new.1)
              | inr old ↦ absent (inr old.0)
            ]
        | inr differs ↦
            elim (IsIn-renamed g gs (subst (λ k. IsIn k (map (renamed f t) gs)) (renamed_other g differs) found)) [
              | inl new ↦ absent (inl new.0)
              | inr old ↦ apart.0 old.0
            ]
      ]

  -- ---- paths

  module _ (next prev next' prev' : ℕ → ℕ) where
    -- the rest of a path, where the frame that it began at has given its place
    IsPath-renamed_first : (from g : ℕ) (gs : List ℕ) (to : ℕ) → IsPath next prev g gs to → AreApart gs → ¬ IsIn from gs → ¬ IsIn to gs →
        to ≢ t → ¬ IsIn t gs → Inserts next prev next' prev' from t (next g) → IsPath next' prev' t gs to
    IsPath-renamed_first from g [] to path apart from_off to_off to_other absent splices =
        (splices.out ∙ path.0, ap prev' (sym path.0) ∙ splices.back_into)
    IsPath-renamed_first from g (h ∷ hs) to path apart from_off to_off to_other absent splices = (
      splices.out ∙ path.0,
      ap prev' (sym path.0) ∙ splices.back_into,
      IsPath-kept next prev next' prev' h hs to path.2
          (λ at on. splices.nexts at
          (λ same. not_on h hs from at (λ end. from_off (inl (sym end))) (λ there. from_off (inr there)) on (sym same))
          (λ same. not_on h hs t at (λ end. absent (inl (sym end))) (λ there. absent (inr there)) on (sym same)))
          (λ at on. splices.prevs at
          (λ same. not_on to hs h at (λ end. to_off (inl end)) apart.0 on (sym (same ∙ path.0)))
          (λ same. not_on to hs t at (λ end. to_other (sym end)) (λ there. absent (inr there)) on (sym same))),
    )

    IsPath-renamed : (from : ℕ) (fs : List ℕ) (to : ℕ) → IsPath next prev from fs to → AreApart fs → ¬ IsIn from fs → ¬ IsIn to fs →
        from ≢ t → to ≢ t → ¬ IsIn t fs → IsIn f fs → Inserts next prev next' prev' (prev f) t (next f) →
        IsPath next' prev' from (map (renamed f t) fs) to
    IsPath-renamed from [] to path apart from_off to_off from_other to_other absent found splices = absurd found
    IsPath-renamed from (g ∷ gs) to path apart from_off to_off from_other to_other absent found splices =
        elim (cases_eq g f) [
          | inl same ↦
              let here = rw (← same, path.1) at splices in
              let rest = map-absent gs (λ there. apart.0 (subst (λ k. IsIn k gs) (sym same) there)) in
              subst (λ k. IsPath next' prev' from (k ∷ map (renamed f t) gs) to) (sym (renamed_here g same))
              (subst (λ ks. IsPath next' prev' from (t ∷ ks) to) (sym rest) (
                here.into,
                here.back_out,
                IsPath-renamed_first from g gs to path.2 apart.1 (λ there. from_off (inr there)) (λ there. to_off (inr there)) to_other
                    (λ there. absent (inr there)) here,
              ))
          | inr differs ↦
              let there : IsIn f gs = elim found [ inl here ↦ absurd (differs here) | inr later ↦ later ] in
              subst (λ k. IsPath next' prev' from (k ∷ map (renamed f t) gs) to) (sym (renamed_other g differs)) (
                splices.nexts from (not_on g gs from _ (λ end. from_off (inl (sym end))) (λ later. from_off (inr later))
                    (prev_on next prev g gs to f path.2 there)) from_other ∙ path.0,
                splices.prevs g (not_on to gs g _ (λ end. to_off (inl end)) apart.0 (next_on next prev g gs to f path.2 there))
                    (λ same. absent (inl same)) ∙ path.1,
                IsPath-renamed g gs to path.2 apart.1 apart.0 (λ later. to_off (inr later)) (λ same. absent (inl same)) to_other
                    (λ later. absent (inr later)) there splices,
              )
        ]

    -- ---- rings

    module _ (place place' : ℕ → Option Which) (which : Which) (head : ℕ) (none : place head ≡ None) where
      pub IsRing-renamed : (fs : List ℕ) → IsRing next prev place which head fs → head ≢ t → place f ≡ Some which → place t ≡ None →
          Inserts next prev next' prev' (prev f) t (next f) → place' f ≡ None → place' t ≡ Some which →
          ((other : ℕ) → other ≢ f → other ≢ t → place' other ≡ place other) →
          IsRing next' prev' place' which head (map (renamed f t) fs)
      IsRing-renamed fs ring differs was free splices left joined others =
          let off : ¬ IsIn head fs = off_ring next prev next' prev' place place' which head none fs ring in
          let absent : ¬ IsIn t fs = λ found. none-some which (sym free ∙ ring.placed t found) in
          record {
            linked = IsPath-renamed head fs head ring.linked ring.apart off off differs differs absent (ring.listed f was) splices;
            apart = AreApart-renamed fs ring.apart absent;
            placed = λ other found.
                elim (IsIn-renamed other fs found) [
                  | inl new ↦ ap place' new.0 ∙ joined
                  | inr old ↦ others other old.1 (λ same. absent (subst (λ k. IsIn k fs) same old.0)) ∙ ring.placed other old.0
                ];
            listed = λ other now.
                elim (cases_eq other t) [
                  | inl same ↦ subst (λ k. IsIn k (map (renamed f t) fs)) (sym same) (IsIn-renamed_new fs (ring.listed f was))
                  | inr apart ↦
                      let old : other ≢ f = λ same. none-some which (sym left ∙ ap place' (sym same) ∙ now) in
                      IsIn-renamed_kept other fs (ring.listed other (sym (others other old apart) ∙ now)) old
                ];
          }
