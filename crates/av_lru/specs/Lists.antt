-- What is shown of `Lru`: how many frames there are, and the two lists, each from its head on.
use Rattle.std.specs.Prelude.{◌≡◌, ℕ, false, ◌==◌, not, cond, if◌then◌else◌, List, [], ◌∷◌}
use Rattle.std.specs.Prelude.{filter, map, Option, Some, None}
use Rattle.av_base.specs.Words.{is_in, renamed, without}
use Rattle.av_lru.specs.declared.lists.Which.{Which}
use Rattle.av_lru.specs.declared.lists.Which.TheVariants.{Active, Inactive}

-- the value of `Lru`
pub record Lists : Type 0 where
  pub frames : ℕ
  pub active : List ℕ
  pub inactive : List ℕ

-- one of the two lists
abbrev pub list_of : Which → Lists → List ℕ
list_of Active ls = ls.active
list_of Inactive ls = ls.inactive

-- the same frames, with one of the two lists replaced
abbrev pub with_list : Which → List ℕ → Lists → Lists
with_list Active fs ls = record { frames = ls.frames; active = fs; inactive = ls.inactive }
with_list Inactive fs ls = record { frames = ls.frames; active = ls.active; inactive = fs }

-- no frame is there twice
abbrev pub IsApart : List ℕ → Type 0
IsApart [] = Unit {0}
IsApart (g ∷ gs) = (is_in g gs ≡ false) × IsApart gs

-- the list that a frame is in
abbrev pub place_in : ℕ → Lists → Option Which
place_in f ls = if is_in f ls.active then Some Active else (if is_in f ls.inactive
    then Some Inactive else None)

-- both lists without a frame
abbrev pub without_frame : ℕ → Lists → Lists
without_frame f ls =
    record { frames = ls.frames; active = without f ls.active; inactive = without f ls.inactive }

-- both lists, where a frame gives its place to another
abbrev pub with_renamed : ℕ → ℕ → Lists → Lists
with_renamed from to ls = record {
  frames = ls.frames;
  active = map (renamed from to) ls.active;
  inactive = map (renamed from to) ls.inactive;
}

-- the last frame of a list; `before` is what stands before the list
abbrev pub last_of : Option ℕ → List ℕ → Option ℕ
last_of before [] = before
last_of before (g ∷ gs) = last_of (Some g) gs

-- the frame just before f in a list; `before` is what stands before the list
abbrev pub frame_before : Option ℕ → ℕ → List ℕ → Option ℕ
frame_before before f [] = None
frame_before before f (g ∷ gs) = cond (g == f) before (frame_before (Some g) f gs)
