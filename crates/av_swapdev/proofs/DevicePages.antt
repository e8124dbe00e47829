-- The pages of a device in memory, where one is written.
use Rattle.std.proofs.Common.{◌≡◌, ℕ, ◌-◌, ◌<◌, eqb, Bool, true, false, cond, List, [], length, map, min, get_or, Some, None, refl, sym, ap, ◌∙◌, arith}
use Rattle.std.proofs.Math.ListN.{set, length-set}
use Rattle.std.proofs.lemmas.Bool.Decides.{nat_tests}
use Rattle.std.proofs.lemmas.Grind.{common_steps, get_or-set_at}
use Rattle.std.proofs.lemmas.List.{get_or_default, get_or-map, map-set, get_or-set_other}
use Rattle.std.specs.Prelude.{slice_index}
use Rattle.std.specs.Vec.{with_item}
use Rattle.std.specs.declared.vec.Vec.{Vec}
use Rattle.std.specs.declared.alloc.Global.{Global}
use Rattle.av_base.specs.Words.{with_at}
use Rattle.av_swapdev.specs.Device.{most_pages, with_page, HasPage, IsInverted, area_in, size_in, sizes_in, pages_in}

pub get_set : {X : Type 0} (xs : List X) (i j : ℕ) (y d : X) → i < length xs → get_or (set xs i y) j d ≡ cond (eqb j i) y (get_or xs j d)
get_set xs i j y d h = split (eqb j i) refl
  where
    split : (b : Bool) → eqb j i ≡ b → get_or (set xs i y) j d ≡ cond b y (get_or xs j d)
    split true e = get_or-set_at xs i j y d (grind (arith, nat_tests)) h
    split false e = get_or-set_other xs i j y d (grind (arith, nat_tests))

-- a function that is changed to what it was
pub same_at : {X : Type 0} (k : ℕ) (f : ℕ → X) → f ≡ with_at k (f k) f
same_at k f = λ i q. split q (eqb q k) refl i
  where
    split : (q : ℕ) (b : Bool) → eqb q k ≡ b → f q ≡ cond b (f k) (f q)
    split q true e = let here : q ≡ k = grind (arith, nat_tests) in ap f here
    split q false e = refl

-- an area that is attached and has the page is one of the list, and has it there
pub is_there : (attached : List Bool) (areas : List (Vec (List ℕ) Global)) (area page : ℕ) → HasPage (sizes_in attached areas) area page →
    page < length (area_in areas area)
is_there attached areas area page has = split (get_or attached area false) has
  where
    split : (b : Bool) → HasPage (λ a. cond b (Some (size_in areas area)) None) area page → page < length (area_in areas area)
    split true h = omega (arith, h)
    split false h = absurd h

pub is_listed : (areas : List (Vec (List ℕ) Global)) (area page : ℕ) → page < length (area_in areas area) → area < length areas
is_listed areas area page h = grind (arith, common_steps)

module _ (areas : List (Vec (List ℕ) Global)) (area page : ℕ) (pages : Vec (List ℕ) Global) (bytes : List ℕ) (listed : area < length areas)
    (is : pages ≡ get_or areas area pages) where
  own : pages.items ≡ area_in areas area
  own = ap (λ (v : Vec (List ℕ) Global). v.items) is ∙ sym (get_or-map (λ (v : Vec (List ℕ) Global). v.items) areas area pages [] listed)

  area_written : (a : ℕ) → area_in (set areas area (with_item pages page bytes)) a ≡ cond (eqb a area) (set pages.items page bytes) (area_in areas a)
  area_written a =
      ap (λ (l : List (List (List ℕ))). get_or l a []) (map-set (λ (v : Vec (List ℕ) Global). v.items) areas area (with_item pages page bytes))
      ∙ get_set (map (λ (v : Vec (List ℕ) Global). v.items) areas) area a (set pages.items page bytes) [] (grind (arith, common_steps))

  pub pages_written : page < length (area_in areas area)
      → pages_in (set areas area (with_item pages page bytes)) ≡ with_page area page bytes (pages_in areas)
  pages_written within = λ i a p. (ap (λ (l : List (List ℕ)). get_or l p []) (area_written a) ∙ split a p (eqb a area)) i
    where
      split : (a p : ℕ) (b : Bool) → get_or (cond b (set pages.items page bytes) (area_in areas a)) p [] ≡ cond b
          (with_at page bytes (pages_in areas area)) (pages_in areas a) p
      split a p true =
          get_set pages.items page p bytes [] (let long : length pages.items ≡ length (area_in areas area) = ap length own in omega arith)
          ∙ ap (λ (l : List (List ℕ)). cond (eqb p page) bytes (get_or l p [])) own
      split a p false = refl

  pub sizes_written : (attached : List Bool) → sizes_in attached (set areas area (with_item pages page bytes)) ≡ sizes_in attached areas
  sizes_written attached = λ i a. ap (λ (n : ℕ). cond (get_or attached a false) (Some (min n most_pages)) None)
      (ap length (area_written a) ∙ split a (eqb a area) refl) i
    where
      split : (a : ℕ) (b : Bool) → eqb a area ≡ b → length (cond b (set pages.items page bytes) (area_in areas a)) ≡ length (area_in areas a)
      split a true e = let here : area ≡ a = grind (arith, nat_tests) in
          length-set pages.items page bytes ∙ ap length own ∙ ap (λ (k : ℕ). length (area_in areas k)) here
      split a false e = refl

  same_number : (n : ℕ) → eqb n n ≡ true
  same_number n = grind (arith, nat_tests)

  -- the page that is written holds the bytes
  page_written : page < length (area_in areas area) → pages_in (set areas area (with_item pages page bytes)) area page ≡ bytes
  page_written within =
      ap (λ (told : ℕ → ℕ → List ℕ). told area page) (pages_written within)
      ∙ ap (λ b. cond b (with_at page bytes (pages_in areas area)) (pages_in areas area) page) (same_number area)
      ∙ ap (λ b. cond b bytes (pages_in areas area page)) (same_number page)

  pub page_inverted : (old : List ℕ) → old ≡ get_or pages.items page old → page < length (area_in areas area) → IsInverted old bytes →
      IsInverted (pages_in areas area page) (pages_in (set areas area (with_item pages page bytes)) area page)
  page_inverted old is_old within inverted = λ k below.
      ap (λ (new : List ℕ). slice_index new k) (page_written within) ∙ inverted k below
      ∙ ap (λ (l : List ℕ). 255 - slice_index l k)
      (is_old ∙ get_or_default pages.items page old [] long ∙ ap (λ (l : List (List ℕ)). get_or l page []) own)
    where
      long : page < length pages.items
      long = let same : length pages.items ≡ length (area_in areas area) = ap length own in omega (arith, same, within)
