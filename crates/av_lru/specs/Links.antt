-- How `Lru` lays out its lists: each is a ring of places through its head. The place of a frame
-- is its number, and the heads stand behind the frames.
use Rattle.std.specs.Prelude.{◌≡◌, ◌≢◌, ◌⊎◌, ℕ, zero, suc, ◌+◌, ◌<◌, ◌^◌, Bool, true, false, List}
use Rattle.std.specs.Prelude.{[], ◌∷◌, length, Option, Some, None, count_by, slice_index}
use Rattle.std.specs.Prelude.{slice_index_or}
use Rattle.av_lru.specs.Lists.{Lists}
use Rattle.av_lru.specs.declared.lists.Lengths.{Lengths}
use Rattle.av_lru.specs.declared.lists.Which.{Which}
use Rattle.av_lru.specs.declared.lists.Which.TheVariants.{Active, Inactive}

-- the place of a list's head, behind so many frames
abbrev pub head_of : ℕ → Which → ℕ
head_of frames Active = frames
head_of frames Inactive = frames + 1

-- the length of one of the lists
abbrev pub len_of : Which → Lengths → ℕ
len_of Active lens = lens.active
len_of Inactive lens = lens.inactive

-- the lengths, with one of them replaced
abbrev pub with_len : Which → ℕ → Lengths → Lengths
with_len Active n lens = record lens { active = n }
with_len Inactive n lens = record lens { inactive = n }

-- whether a frame is in no list
abbrev pub is_off : Option Which → Bool
is_off None = true
is_off (Some which) = false

-- the frame is one of these
abbrev pub IsIn : ℕ → List ℕ → Type 0
IsIn f [] = ⊥
IsIn f (g ∷ gs) = (g ≡ f) ⊎ IsIn f gs

-- no frame is there twice
abbrev pub AreApart : List ℕ → Type 0
AreApart [] = Unit {0}
AreApart (g ∷ gs) = (¬ IsIn g gs) × AreApart gs

-- the links lead from every place where the old ones do, but from this one to that one
pub record Joins (old new : ℕ → ℕ) (from to : ℕ) : Type 0 where
  pub here : new from ≡ to
  pub others : (at : ℕ) → at ≢ from → new at ≡ old at

-- the new links put a place between two others, and lead from every other place where the old
-- ones do
pub record Inserts (next prev next' prev' : ℕ → ℕ) (before at after : ℕ) : Type 0 where
  pub into : next' before ≡ at
  pub out : next' at ≡ after
  pub back_into : prev' after ≡ at
  pub back_out : prev' at ≡ before
  pub nexts : (other : ℕ) → other ≢ before → other ≢ at → next' other ≡ next other
  pub prevs : (other : ℕ) → other ≢ after → other ≢ at → prev' other ≡ prev other

-- so many places, read off the links from one on
abbrev pub walk : (ℕ → ℕ) → ℕ → ℕ → List ℕ
walk next zero from = []
walk next (suc count) from = next from ∷ walk next count (next from)

-- the place that so many links lead to
abbrev pub after_links : (ℕ → ℕ) → ℕ → ℕ → ℕ
after_links next zero from = from
after_links next (suc n) from = next (after_links next n from)

-- the frames of a list
unfoldable pub frames_of : List ℕ → ℕ → ℕ → List ℕ
frames_of nexts count head = walk (slice_index nexts) count head

-- what a contract sees
abbrev pub lists_of : List ℕ → ℕ → Lengths → Lists
lists_of nexts frames lens =
    record {
      frames = frames;
      active = frames_of nexts lens.active frames;
      inactive = frames_of nexts lens.inactive (frames + 1);
    }

module _ (next prev : ℕ → ℕ) where
  -- the links lead from one place through these to the other place, and back
  abbrev pub IsPath : ℕ → List ℕ → ℕ → Type 0
  IsPath from [] to = (next from ≡ to) × (prev to ≡ from)
  IsPath from (f ∷ fs) to = (next from ≡ f) × (prev f ≡ from) × IsPath f fs to

  -- the ring through a head has these frames, each once, which are those that are placed in the
  -- list
  pub record IsRing (place : ℕ
      → Option Which) (which : Which) (head : ℕ) (fs : List ℕ) : Type 0 where
    pub linked : IsPath head fs head
    pub apart : AreApart fs
    pub placed : (f : ℕ) → IsIn f fs → place f ≡ Some which
    pub listed : (f : ℕ) → place f ≡ Some which → IsIn f fs

-- where a frame is, by the vector of the places
abbrev pub place_of : List (Option Which) → ℕ → Option Which
place_of places f = slice_index_or places f None

-- the fields of `Lru` fit together
pub record IsWhole (links back : List ℕ) (places : List (Option Which)) (lens : Lengths)
    : Type 0 where
  pub few : length places < 2 ^ 32
  pub next : length links ≡ length places + 2
  pub prev : length back ≡ length places + 2
  -- each frame is counted in its list, or is off both
  pub total : lens.active + lens.inactive + count_by is_off places ≡ length places
  pub rings : (which : Which) → IsRing (slice_index links)
      (slice_index back) (place_of places) which (head_of (length places) which)
      (frames_of links (len_of which lens) (head_of (length places) which))
