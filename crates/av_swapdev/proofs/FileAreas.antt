-- The files of the areas, of which one was read or written.
use Rattle.std.proofs.Common.{◌≡◌, ◌≢◌, ℕ, ◌<◌, ◌⊎◌, false, true, List, length, get_or, set, Option, Some, None, option_map, Result, Ok, Err, sym, ap, subst, ◌∙◌, inl, inr, get_or-set_same, get_or-set_other}
use Rattle.std.specs.Prelude.{unwrap_or, is_err, IsSomeAnd, OnOk, OnErr}
use Rattle.std.proofs.lemmas.Bool.{cases_eq, cases_lt}
use Rattle.std.proofs.lemmas.List.{get_or_default, get_or_past}
use Rattle.av_swapdev.specs.Device.{HasPage}
use Rattle.av_swapdev.specs.File.{FileView, SameBut, file_at, no_file, sizes_of}
use Rattle.av_swapdev.specs.declared.file_dev.Attached.{Attached}

-- what a call ensures where it went well, and where it failed
pub after_ok : {A E P : Type 0} (r : Result A E) → OnOk r P → is_err r ≡ false → P
after_ok (Ok x) h ok = h
after_ok (Err e) h ok = absurd (let never : true ≡ false = ok in cc)

pub after_err : {A E P : Type 0} (r : Result A E) → OnErr r P → is_err r ≡ true → P
after_err (Ok x) h bad = absurd (let never : false ≡ true = bad in cc)
after_err (Err e) h bad = h

module _ {F : Type 0} (view : F → FileView) (areas : List (Option (Attached F))) (area page : ℕ) (was now : Attached F) (place : Option (Attached F))
    (has : HasPage (sizes_of areas) area page) (there : place ≡ get_or areas area place) (is : place ≡ Some was) where
  abbrev view_of : Option (Attached F) → FileView
  view_of o = unwrap_or (option_map (λ a. view a.file) o) no_file

  abbrev pages_of : Option (Attached F) → Option ℕ
  pages_of o = option_map (λ a. a.pages) o

  within : area < length areas
  within = elim (cases_lt area (length areas)) [
    | inl lt ↦ lt
    | inr ge ↦ absurd (subst (λ (o : Option (Attached F)). IsSomeAnd (option_map (λ a. a.pages) o) (λ n. page < n))
        (get_or_past areas area None ge) has)
  ]

  old_there : get_or areas area None ≡ Some was
  old_there = get_or_default areas area None place within ∙ sym there ∙ is

  new_there : get_or (set areas area (Some now)) area None ≡ Some now
  new_there = get_or-set_same areas area (Some now) None within

  pub at_file : (P : FileView → FileView → Type 0) → P (view was.file) (view now.file)
      → P (file_at view areas area) (file_at view (set areas area (Some now)) area)
  at_file P h = subst (λ old. P old (file_at view (set areas area (Some now)) area)) (sym (ap view_of old_there))
      (subst (λ new. P (view was.file) new) (sym (ap view_of new_there)) h)

  pub others_stay : SameBut area (file_at view areas) (file_at view (set areas area (Some now)))
  others_stay other apart = ap view_of (get_or-set_other areas area other (Some now) None apart)

  pub sizes_stay : now.pages ≡ was.pages → sizes_of (set areas area (Some now)) ≡ sizes_of areas
  sizes_stay same = λ i a. by a (cases_eq a area) i
    where
      by : (a : ℕ) → (a ≡ area) ⊎ (a ≢ area) → sizes_of (set areas area (Some now)) a ≡ sizes_of areas a
      by a (inl e) = ap (sizes_of (set areas area (Some now))) e ∙ ap pages_of new_there ∙ ap Some same ∙ sym (ap pages_of old_there)
          ∙ ap (sizes_of areas) (sym e)
      by a (inr ne) = ap pages_of (get_or-set_other areas area a (Some now) None ne)
