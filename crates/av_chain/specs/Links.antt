-- The links as they were made one after another, and the two maps that they are.
use Rattle.std.specs.Prelude.{◌≡◌, ℕ, Bool, false, ◌==◌, cond, if◌then◌else◌, List, [], ◌∷◌, Option}
use Rattle.std.specs.Prelude.{Some, None, ◌++◌, map, take}
use Rattle.av_base.specs.Words.{how_many, is_in, with_at, without}

-- an area, and an anon_vma that it is linked to
abbrev pub Link : Type 0
Link = ℕ × ℕ

-- the anon_vmas of an area
abbrev pub chain_of : List Link → ℕ → List ℕ
chain_of [] area = []
chain_of (l ∷ ls) area = cond (area == l.0) (l.1 ∷ chain_of ls area) (chain_of ls area)

-- the areas of an anon_vma
abbrev pub users_of : List Link → ℕ → List ℕ
users_of [] anon = []
users_of (l ∷ ls) anon = cond (anon == l.1) (l.0 ∷ users_of ls anon) (users_of ls anon)

abbrev pub first_in : List ℕ → Option ℕ
first_in [] = None
first_in (x ∷ xs) = Some x

abbrev pub rest_in : List ℕ → List ℕ
rest_in [] = []
rest_in (x ∷ xs) = xs

-- what comes after the first x
abbrev pub after_in : ℕ → List ℕ → Option ℕ
after_in x [] = None
after_in x (y ∷ ys) = cond (x == y) (first_in ys) (after_in x ys)

-- the areas of each anon_vma, once an area is no longer linked to this one
abbrev pub left_by : ℕ → Option ℕ → (ℕ → List ℕ) → ℕ → List ℕ
left_by area None f = f
left_by area (Some anon) f = with_at anon (without area (f anon)) f

-- the areas of each anon_vma, once an area is no longer linked to any of these
abbrev pub left_by_all : ℕ → List ℕ → (ℕ → List ℕ) → ℕ → List ℕ
left_by_all area anons f anon = cond (is_in anon anons) (without area (f anon)) (f anon)

abbrev pub one_if : Bool → ℕ
one_if b = if b then 1 else 0

-- each map is the other's inverse, and each link stands once in each
pub record AreMutual (chain_of users_of : ℕ → List ℕ) : Type 0 where
  pub inverse : (area anon : ℕ)
      → how_many (λ a. area == a) (users_of anon) ≡ one_if (is_in anon (chain_of area))
  pub once : (area anon : ℕ)
      → how_many (λ v. anon == v) (chain_of area) ≡ one_if (is_in anon (chain_of area))

-- links of an area to these anon_vmas
abbrev pub links_to : ℕ → List ℕ → List Link
links_to area anons = map (λ anon. (area, anon)) anons

-- the area was linked to so many of these anon_vmas, the first ones
pub record HasSome (area : ℕ) (anons : List ℕ) (old new : List Link) : Type 0 where
  pub many : ℕ
  pub is : new ≡ old ++ links_to area (take many anons)

-- no anon_vma stands twice in the chain with these behind it
abbrev pub AreNew : List ℕ → List ℕ → Type 0
AreNew chain [] = Unit {0}
AreNew chain (v ∷ vs) = (is_in v chain ≡ false) × AreNew (chain ++ v ∷ []) vs

-- the areas of each anon_vma, once an area is linked to these
abbrev pub users_with : ℕ → List ℕ → (ℕ → List ℕ) → ℕ → List ℕ
users_with area anons f anon = if is_in anon anons then f anon ++ area ∷ [] else f anon

-- no link is made twice
abbrev pub AreOnce : List Link → Type 0
AreOnce [] = Unit {0}
AreOnce (l ∷ ls) = (is_in l.1 (chain_of ls l.0) ≡ false) × AreOnce ls

-- without the first link of an area
abbrev pub without_first : ℕ → List Link → List Link
without_first area [] = []
without_first area (l ∷ ls) = cond (area == l.0) ls (l ∷ without_first area ls)
