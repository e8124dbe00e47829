-- Attaching the swap areas that the words name, before anything is read.
use Rattle.std.specs.Prelude.{◌≡◌, ℕ, ◌+◌, ◌<◌, ◌≤◌, List, [], ◌∷◌, ◌++◌, Option, None, Some}
use Rattle.std.specs.Prelude.{is_some, length, map, option_to_list, true, false}
use Rattle.std.specs.List.{AllByRecursion}
use Rattle.av_swapdev.specs.Device.{Attach, History, most_pages}
use Rattle.av_plain.specs.Device.{Device}
use Rattle.av_step.specs.Step.{sizes_of}

-- no swap area is attached
abbrev pub HasNone : (ℕ → Option ℕ) → Type 0
HasNone sizes = (area : ℕ) → sizes area ≡ None

-- the areas 0, 1, .. have these sizes now, and there is no other; nothing failed, and pages are
-- told where they were told
pub record Attaches (pages : List ℕ) (old new : Device) : Type 0 where
  pub small : AllByRecursion (λ n. n ≤ most_pages) pages
  pub sizes : new.sizes ≡ sizes_of pages
  pub told : is_some new.pages ≡ is_some old.pages
  pub failures : new.failures ≡ old.failures

-- these names, attached as the areas from a number on
abbrev pub attached_from : ℕ → List (List ℕ) → List Attach
attached_from area [] = []
attached_from area (name ∷ names) =
    record { area = area; name = name; well = true } ∷ attached_from (area + 1) names

-- an area that could not be attached by its name, if there was one
abbrev pub not_attached : ℕ → Option (List ℕ) → List Attach
not_attached area failed =
    map (λ name. record { area = area; name = name; well = false }) (option_to_list failed)

-- The first names were attached as the areas 0, 1, .., in their order and once each, so many of
-- them well; with the next one that failed, if it did. Nothing else was attached, and nothing
-- written.
pub record Tries (names : List (List ℕ)) (count : ℕ) (failed : Option (List ℕ)) (old new : History)
    : Type 0 where
  pub well : List (List ℕ)
  pub rest : List (List ℕ)
  pub tried : names ≡ well ++ (option_to_list failed ++ rest)
  pub many : length well ≡ count
  pub attached : new.attached
      ≡ old.attached ++ (attached_from 0 well ++ not_attached count failed)
  pub written : new.written ≡ old.written

-- fewer areas than names are attached, from 0 on, up to the first name that failed, and pages are
-- told where they were told
pub record AttachesFewer (names : List (List ℕ)) (old new : Device) : Type 0 where
  pub pages : List ℕ
  pub fewer : length pages < length names
  pub sizes : new.sizes ≡ sizes_of pages
  pub told : is_some new.pages ≡ is_some old.pages
  pub failed : List ℕ
  pub tries : Tries names (length pages) (Some failed) old.history new.history
