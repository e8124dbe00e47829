-- How a ring of places changes when a frame joins or leaves it.
use Rattle.std.proofs.Common.{◌≡◌, ◌≢◌, ◌⊎◌, ℕ, zero, suc, ◌+◌, ◌<◌, cond, List, [], ◌∷◌, ◌++◌, length, Option, Some, None, refl, sym, ap, ◌∙◌, subst, inl, inr, arith, eq-eqb, ne_eqb, lt-ltb, le-ltb, nat_lt, ◌≤◌}
use Rattle.std.proofs.lemmas.Bool.{cases_eq, cond-true, cond-false, not_from_true, not_from_false}
use Rattle.std.proofs.lemmas.Option.{none-some}
use Rattle.av_lru.specs.declared.lists.Which.{Which}
use Rattle.av_base.specs.Words.{without}
use Rattle.av_lru.specs.Lists.{last_of, frame_before}
use Rattle.av_lru.specs.Links.{IsIn, AreApart, Joins, Inserts, walk, IsPath, IsRing}

-- ---- lists of frames

pub without_here : (f g : ℕ) (gs : List ℕ) → g ≡ f → without f (g ∷ gs) ≡ without f gs
without_here f g gs same = cond-false _ _ _ (not_from_true _ (eq-eqb f g (sym same)))

pub without_past : (f g : ℕ) (gs : List ℕ) → g ≢ f → without f (g ∷ gs) ≡ g ∷ without f gs
without_past f g gs other = cond-true _ _ _ (not_from_false _ (ne_eqb f g (λ same. other (sym same))))

pub without_absent : (f : ℕ) (fs : List ℕ) → ¬ IsIn f fs → without f fs ≡ fs
without_absent f [] absent = refl
without_absent f (g ∷ gs) absent =
    without_past f g gs (λ same. absent (inl same)) ∙ ap (λ xs. g ∷ xs) (without_absent f gs (λ found. absent (inr found)))

pub IsIn-without : (f other : ℕ) (fs : List ℕ) → IsIn other (without f fs) → IsIn other fs × (other ≢ f)
IsIn-without f other [] found = absurd found
IsIn-without f other (g ∷ gs) found =
    elim (cases_eq g f) [
      | inl same ↦
          let later = IsIn-without f other gs (subst (IsIn other) (without_here f g gs same) found) in
          (inr later.0, later.1)
      | inr differs ↦
          elim (subst (IsIn other) (without_past f g gs differs) found) [
            | inl here ↦ (inl here, λ same. differs (here ∙ same))
            | inr there ↦ let later = IsIn-without f other gs there in (inr later.0, later.1)
          ]
    ]

IsIn-without_kept : (f other : ℕ) (fs : List ℕ) → IsIn other fs → other ≢ f → IsIn other (without f fs)
IsIn-without_kept f other [] found differs = absurd found
IsIn-without_kept f other (g ∷ gs) found differs =
    elim (cases_eq g f) [
      | inl same ↦
          subst (IsIn other) (sym (without_here f g gs same))
          (elim found [
            | inl here ↦ absurd (differs (sym here ∙ same))
            | inr there ↦ IsIn-without_kept f other gs there differs
          ])
      | inr apart ↦
          subst (IsIn other) (sym (without_past f g gs apart))
          (elim found [ inl here ↦ inl here | inr there ↦ inr (IsIn-without_kept f other gs there differs) ])
    ]

AreApart-without : (f : ℕ) (fs : List ℕ) → AreApart fs → AreApart (without f fs)
AreApart-without f [] apart = tt
AreApart-without f (g ∷ gs) apart =
    elim (cases_eq g f) [
      | inl same ↦ subst AreApart (sym (without_here f g gs same)) (AreApart-without f gs apart.1)
      | inr differs ↦
          subst AreApart (sym (without_past f g gs differs))
          (λ found. apart.0 (IsIn-without f g gs found).0, AreApart-without f gs apart.1)
    ]

pub length-without : (f : ℕ) (fs : List ℕ) → AreApart fs → IsIn f fs → length (without f fs) + 1 ≡ length fs
length-without f [] apart found = absurd found
length-without f (g ∷ gs) apart found =
    elim (cases_eq g f) [
      | inl same ↦
          let gone = without_here f g gs same ∙ without_absent f gs (λ there. apart.0 (subst (λ k. IsIn k gs) (sym same) there)) in
          omega (arith, ap length gone)
      | inr differs ↦
          elim found [
            | inl here ↦ absurd (differs here)
            | inr there ↦ omega (arith, ap length (without_past f g gs differs), length-without f gs apart.1 there)
          ]
    ]

IsIn-push : (f other : ℕ) (fs : List ℕ) → IsIn other (fs ++ f ∷ []) → IsIn other fs ⊎ (f ≡ other)
IsIn-push f other [] found = elim found [ inl here ↦ inr here | inr nowhere ↦ absurd nowhere ]
IsIn-push f other (g ∷ gs) found =
    elim found [
      | inl here ↦ inl (inl here)
      | inr there ↦ elim (IsIn-push f other gs there) [ inl old ↦ inl (inr old) | inr new ↦ inr new ]
    ]

IsIn-push_kept : (f other : ℕ) (fs : List ℕ) → IsIn other fs → IsIn other (fs ++ f ∷ [])
IsIn-push_kept f other [] found = absurd found
IsIn-push_kept f other (g ∷ gs) found =
    elim found [ inl here ↦ inl here | inr there ↦ inr (IsIn-push_kept f other gs there) ]

IsIn-push_last : (f : ℕ) (fs : List ℕ) → IsIn f (fs ++ f ∷ [])
IsIn-push_last f [] = inl refl
IsIn-push_last f (g ∷ gs) = inr (IsIn-push_last f gs)

AreApart-push : (f : ℕ) (fs : List ℕ) → AreApart fs → ¬ IsIn f fs → AreApart (fs ++ f ∷ [])
AreApart-push f [] apart absent = (λ nowhere. nowhere, tt)
AreApart-push f (g ∷ gs) apart absent = (
  λ found. elim (IsIn-push f g gs found) [ inl old ↦ apart.0 old | inr new ↦ absent (inl (sym new)) ],
  AreApart-push f gs apart.1 (λ there. absent (inr there)),
)

-- ---- paths

pub length-walk : (next : ℕ → ℕ) (count from : ℕ) → length (walk next count from) ≡ count
length-walk next zero from = refl
length-walk next (suc count) from = ap suc (length-walk next count (next from))

-- the place is this end, or one of these
abbrev pub IsOn : ℕ → List ℕ → ℕ → Type 0
IsOn end fs at = (at ≡ end) ⊎ IsIn at fs

pub IsOn-cons : (from f : ℕ) (fs : List ℕ) (at : ℕ) → IsOn f fs at → IsOn from (f ∷ fs) at
IsOn-cons from f fs at on = elim on [ inl here ↦ inr (inl (sym here)) | inr there ↦ inr (inr there) ]

pub IsOn-more : (to f : ℕ) (fs : List ℕ) (at : ℕ) → IsOn to fs at → IsOn to (f ∷ fs) at
IsOn-more to f fs at on = elim on [ inl here ↦ inl here | inr there ↦ inr (inr there) ]

-- a place that is not the end and is none of these is not on the path
pub not_on : (end : ℕ) (fs : List ℕ) (at on : ℕ) → at ≢ end → ¬ IsIn at fs → IsOn end fs on → at ≢ on
not_on end fs at on other off found same =
    elim found [ inl here ↦ other (same ∙ here) | inr there ↦ off (subst (λ k. IsIn k fs) (sym same) there) ]

module _ (next prev : ℕ → ℕ) where
  pub walk_path : (from : ℕ) (fs : List ℕ) (to : ℕ) → IsPath next prev from fs to → walk next (length fs) from ≡ fs
  walk_path from [] to path = refl
  walk_path from (f ∷ fs) to path = rw path.0 (ap (λ xs. f ∷ xs) (walk_path f fs to path.2))

  pub prev_end_on : (from : ℕ) (fs : List ℕ) (to : ℕ) → IsPath next prev from fs to → IsOn from fs (prev to)
  prev_end_on from [] to path = inl path.1
  prev_end_on from (f ∷ fs) to path = IsOn-cons from f fs _ (prev_end_on f fs to path.2)

  pub next_start_on : (from : ℕ) (fs : List ℕ) (to : ℕ) → IsPath next prev from fs to → IsOn to fs (next from)
  next_start_on from [] to path = inl path.0
  next_start_on from (f ∷ fs) to path = inr (inl (sym path.0))

  pub prev_on : (from : ℕ) (fs : List ℕ) (to f : ℕ) → IsPath next prev from fs to → IsIn f fs → IsOn from fs (prev f)
  prev_on from [] to f path found = absurd found
  prev_on from (g ∷ gs) to f path found =
      elim found [
        | inl here ↦ inl (ap prev (sym here) ∙ path.1)
        | inr there ↦ IsOn-cons from g gs _ (prev_on g gs to f path.2 there)
      ]

  pub next_on : (from : ℕ) (fs : List ℕ) (to f : ℕ) → IsPath next prev from fs to → IsIn f fs → IsOn to fs (next f)
  next_on from [] to f path found = absurd found
  next_on from (g ∷ gs) to f path found =
      IsOn-more to g gs _
      (elim found [
        | inl here ↦ subst (λ k. IsOn to gs (next k)) here (next_start_on g gs to path.2)
        | inr there ↦ next_on g gs to f path.2 there
      ])

-- the frame whose place this is
abbrev pub frame_at : ℕ → ℕ → Option ℕ
frame_at n at = cond (nat_lt at n) (Some at) None

pub frame_below : (n at : ℕ) → at < n → frame_at n at ≡ Some at
frame_below n at below = cond-true _ _ _ (lt-ltb at n below)

pub frame_past : (n at : ℕ) → n ≤ at → frame_at n at ≡ None
frame_past n at past = cond-false _ _ _ (le-ltb at n past)

module _ (next prev : ℕ → ℕ) (n : ℕ) where
  -- what leads back to the end of a path is its last frame
  pub last_path : (from : ℕ) (fs : List ℕ) (to : ℕ) (before : Option ℕ) → IsPath next prev from fs to → ((f : ℕ) → IsIn f fs → f < n) →
      frame_at n from ≡ before → frame_at n (prev to) ≡ last_of before fs
  last_path from [] to before path below start = ap (frame_at n) path.1 ∙ start
  last_path from (g ∷ gs) to before path below start =
      last_path g gs to (Some g) path.2 (λ f found. below f (inr found)) (frame_below n g (below g (inl refl)))

  -- what leads back from a frame of a path is the frame before it
  pub prev_path : (from : ℕ) (fs : List ℕ) (to : ℕ) (before : Option ℕ) (f : ℕ) → IsPath next prev from fs to → ((g : ℕ) → IsIn g fs → g < n) →
      frame_at n from ≡ before → IsIn f fs → frame_at n (prev f) ≡ frame_before before f fs
  prev_path from [] to before f path below start found = absurd found
  prev_path from (g ∷ gs) to before f path below start found =
      elim (cases_eq g f) [
        | inl same ↦ ap (λ k. frame_at n (prev k)) (sym same) ∙ ap (frame_at n) path.1 ∙ start ∙ sym (cond-true _ _ _ (eq-eqb g f same))
        | inr differs ↦
            prev_path g gs to (Some g) f path.2 (λ k there. below k (inr there)) (frame_below n g (below g (inl refl)))
            (elim found [ inl here ↦ absurd (differs here) | inr there ↦ there ])
            ∙ sym (cond-false _ _ _ (ne_eqb g f differs))
      ]

module _ (next prev next' prev' : ℕ → ℕ) where
  -- a path stays where the links stay on it
  pub IsPath-kept : (from : ℕ) (fs : List ℕ) (to : ℕ) → IsPath next prev from fs to → ((at : ℕ) → IsOn from fs at → next' at ≡ next at) →
      ((at : ℕ) → IsOn to fs at → prev' at ≡ prev at) → IsPath next' prev' from fs to
  IsPath-kept from [] to path nexts prevs = (nexts from (inl refl) ∙ path.0, prevs to (inl refl) ∙ path.1)
  IsPath-kept from (f ∷ fs) to path nexts prevs = (
    nexts from (inl refl) ∙ path.0,
    prevs f (inr (inl refl)) ∙ path.1,
    IsPath-kept f fs to path.2
        (λ at on. nexts at (IsOn-cons from f fs at on))
        (λ at on. prevs at (IsOn-more to f fs at on)),
  )

  -- the first frame leaves, and the start is joined to what followed it
  IsPath-skip_first : (from f : ℕ) (fs : List ℕ) (to : ℕ) → IsPath next prev f fs to → AreApart fs → ¬ IsIn from fs → ¬ IsIn to fs →
      Joins next next' from (next f) → Joins prev prev' (next f) from → IsPath next' prev' from fs to
  IsPath-skip_first from f [] to path apart from_off to_off nexts prevs =
      (nexts.here ∙ path.0, ap prev' (sym path.0) ∙ prevs.here)
  IsPath-skip_first from f (g ∷ gs) to path apart from_off to_off nexts prevs = (
    nexts.here ∙ path.0,
    ap prev' (sym path.0) ∙ prevs.here,
    IsPath-kept g gs to path.2
        (λ at on. nexts.others at (λ same.
        not_on g gs from at (λ end. from_off (inl (sym end))) (λ there. from_off (inr there)) on (sym same)))
        (λ at on. prevs.others at (λ same.
        not_on to gs g at (λ end. to_off (inl end)) apart.0 on (sym (same ∙ path.0)))),
  )

  -- a frame leaves, and its neighbours are joined
  IsPath-skip : (from : ℕ) (fs : List ℕ) (to f : ℕ) → IsPath next prev from fs to → AreApart fs → ¬ IsIn from fs → ¬ IsIn to fs → IsIn f fs →
      Joins next next' (prev f) (next f) → Joins prev prev' (next f) (prev f) → IsPath next' prev' from (without f fs) to
  IsPath-skip from [] to f path apart from_off to_off found nexts prevs = absurd found
  IsPath-skip from (g ∷ gs) to f path apart from_off to_off found nexts prevs =
      elim (cases_eq g f) [
        | inl same ↦
            let gone = without_here f g gs same ∙ without_absent f gs (λ there. apart.0 (subst (λ k. IsIn k gs) (sym same) there)) in
            subst (λ ks. IsPath next' prev' from ks to) (sym gone)
            (IsPath-skip_first from g gs to path.2 apart.1 (λ there. from_off (inr there)) (λ there. to_off (inr there))
            (rw (← same, path.1) at nexts) (rw (← same, path.1) at prevs))
        | inr differs ↦
            let there : IsIn f gs = elim found [ inl here ↦ absurd (differs here) | inr later ↦ later ] in
            subst (λ ks. IsPath next' prev' from ks to) (sym (without_past f g gs differs)) (
              nexts.others from (not_on g gs from _ (λ end. from_off (inl (sym end))) (λ later. from_off (inr later))
                  (prev_on next prev g gs to f path.2 there)) ∙ path.0,
              prevs.others g (not_on to gs g _ (λ end. to_off (inl end)) apart.0 (next_on next prev g gs to f path.2 there)) ∙ path.1,
              IsPath-skip g gs to f path.2 apart.1 apart.0 (λ later. to_off (inr later)) there nexts prevs,
            )
      ]

  -- a frame joins at the end
  IsPath-push : (from : ℕ) (fs : List ℕ) (to f : ℕ) → IsPath next prev from fs to → AreApart fs → ¬ IsIn from fs → ¬ IsIn to fs
      → ¬ IsIn f fs → from ≢ f →
      Inserts next prev next' prev' (prev to) f to → IsPath next' prev' from (fs ++ f ∷ []) to
  IsPath-push from [] to f path apart from_off to_off absent other splices =
      (ap next' (sym path.1) ∙ splices.into, splices.back_out ∙ path.1, (splices.out, splices.back_into))
  IsPath-push from (g ∷ gs) to f path apart from_off to_off absent other splices =
      let new : g ≢ f = λ same. absent (inl same) in (
        splices.nexts from (not_on g gs from _ (λ end. from_off (inl (sym end))) (λ later. from_off (inr later))
            (prev_end_on next prev g gs to path.2)) other
            ∙ path.0,
        splices.prevs g (λ end. to_off (inl end)) new ∙ path.1,
        IsPath-push g gs to f path.2 apart.1 apart.0 (λ later. to_off (inr later)) (λ later. absent (inr later)) new splices,
      )

  -- a frame joins at the start of a ring
  IsPath-front : (head : ℕ) (fs : List ℕ) (f : ℕ) → IsPath next prev head fs head → AreApart fs → ¬ IsIn head fs → ¬ IsIn f fs → head ≢ f →
      Inserts next prev next' prev' head f (next head) → IsPath next' prev' head (f ∷ fs) head
  IsPath-front head [] f path apart off absent other splices =
      (splices.into, splices.back_out, (splices.out ∙ path.0, ap prev' (sym path.0) ∙ splices.back_into))
  IsPath-front head (g ∷ gs) f path apart off absent other splices = (
    splices.into,
    splices.back_out,
    (
      splices.out ∙ path.0,
      ap prev' (sym path.0) ∙ splices.back_into,
      IsPath-kept g gs head path.2
          (λ at on. splices.nexts at
          (λ same. not_on g gs head at (λ end. off (inl (sym end))) (λ there. off (inr there)) on (sym same))
          (λ same. not_on g gs f at (λ end. absent (inl (sym end))) (λ there. absent (inr there)) on (sym same)))
          (λ at on. splices.prevs at
          (λ same. not_on head gs g at (λ end. off (inl end)) apart.0 on (sym (same ∙ path.0)))
          (λ same. not_on head gs f at (λ end. other (sym end)) (λ there. absent (inr there)) on (sym same))),
    ),
  )

  -- ---- rings

  module _ (place place' : ℕ → Option Which) (which : Which) (head : ℕ) (none : place head ≡ None) where
    pub off_ring : (fs : List ℕ) → IsRing next prev place which head fs → ¬ IsIn head fs
    off_ring fs ring found = none-some which (sym none ∙ ring.placed head found)

    -- a ring stays where its links and its frames stay
    pub IsRing-kept : (fs : List ℕ) → IsRing next prev place which head fs → ((at : ℕ) → IsOn head fs at → next' at ≡ next at) →
        ((at : ℕ) → IsOn head fs at → prev' at ≡ prev at) → ((f : ℕ) → place f ≡ Some which → place' f ≡ Some which) →
        ((f : ℕ) → place' f ≡ Some which → place f ≡ Some which) → IsRing next' prev' place' which head fs
    IsRing-kept fs ring nexts prevs stay came =
        record {
          linked = IsPath-kept head fs head ring.linked nexts prevs;
          apart = ring.apart;
          placed = λ f found. stay f (ring.placed f found);
          listed = λ f was. ring.listed f (came f was);
        }

    pub IsRing-skip : (fs : List ℕ) (f : ℕ) → IsRing next prev place which head fs → place f ≡ Some which → Joins next next' (prev f) (next f) →
        Joins prev prev' (next f) (prev f) → place' f ≡ None → ((other : ℕ) → other ≢ f → place' other ≡ place other) →
        IsRing next' prev' place' which head (without f fs)
    IsRing-skip fs f ring was nexts prevs left others =
        let off : ¬ IsIn head fs = off_ring fs ring in
        record {
          linked = IsPath-skip head fs head f ring.linked ring.apart off off (ring.listed f was) nexts prevs;
          apart = AreApart-without f fs ring.apart;
          placed = λ other found. let old = IsIn-without f other fs found in others other old.1 ∙ ring.placed other old.0;
          listed = λ other now.
              let differs : other ≢ f = λ same. none-some which (sym left ∙ ap place' (sym same) ∙ now) in
              IsIn-without_kept f other fs (ring.listed other (sym (others other differs) ∙ now)) differs;
        }

    pub IsRing-push : (fs : List ℕ) (f : ℕ) → IsRing next prev place which head fs → head ≢ f → place f ≡ None →
        Inserts next prev next' prev' (prev head) f head → place' f ≡ Some which → ((other : ℕ) → other ≢ f → place' other ≡ place other) →
        IsRing next' prev' place' which head (fs ++ f ∷ [])
    IsRing-push fs f ring differs free splices joined others =
        let off : ¬ IsIn head fs = off_ring fs ring in
        let absent : ¬ IsIn f fs = λ found. none-some which (sym free ∙ ring.placed f found) in
        record {
          linked = IsPath-push head fs head f ring.linked ring.apart off off absent differs splices;
          apart = AreApart-push f fs ring.apart absent;
          placed = λ other found.
              elim (IsIn-push f other fs found) [
                | inl old ↦ others other (λ same. absent (subst (λ k. IsIn k fs) same old)) ∙ ring.placed other old
                | inr new ↦ ap place' (sym new) ∙ joined
              ];
          listed = λ other now.
              elim (cases_eq other f) [
                | inl same ↦ subst (λ k. IsIn k (fs ++ f ∷ [])) (sym same) (IsIn-push_last f fs)
                | inr apart ↦ IsIn-push_kept f other fs (ring.listed other (sym (others other apart) ∙ now))
              ];
        }

    pub IsRing-front : (fs : List ℕ) (f : ℕ) → IsRing next prev place which head fs → head ≢ f → place f ≡ None →
        Inserts next prev next' prev' head f (next head) → place' f ≡ Some which → ((other : ℕ) → other ≢ f → place' other ≡ place other) →
        IsRing next' prev' place' which head (f ∷ fs)
    IsRing-front fs f ring differs free splices joined others =
        let off : ¬ IsIn head fs = off_ring fs ring in
        let absent : ¬ IsIn f fs = λ found. none-some which (sym free ∙ ring.placed f found) in
        record {
          linked = IsPath-front head fs f ring.linked ring.apart off absent differs splices;
          apart = (absent, ring.apart);
          placed = λ other found.
              elim found [
                | inl here ↦ ap place' (sym here) ∙ joined
                | inr old ↦ others other (λ same. absent (subst (λ k. IsIn k fs) same old)) ∙ ring.placed other old
              ];
          listed = λ other now.
              elim (cases_eq other f) [
                | inl same ↦ inl (sym same)
                | inr apart ↦ inr (ring.listed other (sym (others other apart) ∙ now))
              ];
        }
