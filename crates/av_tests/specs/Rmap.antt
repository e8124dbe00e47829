-- What the test of the walk builds: three areas of one anon_vma, and a frame of two processes.
use Rattle.std.specs.Prelude.{◌≡◌, ℕ, ◌⊎◌, ◌&&◌, ◌==◌, true, false, if◌then◌else◌, List, []}
use Rattle.std.specs.Prelude.{◌∷◌, Option, Some}
use Rattle.av_base.specs.Flags.{no_flags}
use Rattle.av_pagetable.specs.declared.pte.Pte.{Pte}
use Rattle.av_pagetable.specs.declared.pte.Pte.TheVariants.{Empty, Here}
use Rattle.av_vma.specs.declared.area.Area.{Area}

abbrev pub linked_area : ℕ → ℕ → ℕ → ℕ → Area
linked_area pid start end pgoff = record {
  pid = pid;
  start = start;
  end = end;
  prot = record { read = true; write = true; execute = false };
  flags = no_flags;
  pgoff = pgoff;
  anon = Some 0;
}

abbrev pub parent : Area
parent = linked_area 1 40960 57344 10

abbrev pub child : Area
child = linked_area 2 40960 57344 10

abbrev pub other : Area
other = linked_area 2 81920 98304 20

-- the areas under the numbers a, b and c are these, and there are no others
abbrev pub AreOnly : (ℕ → Option Area) → ℕ → ℕ → ℕ → Type 0
AreOnly areas a b c = (n : ℕ) (A : Area) → areas n ≡ Some A →
    ((n ≡ c) × (A ≡ other)) ⊎ (((n ≡ b) × (A ≡ child)) ⊎ ((n ≡ a) × (A ≡ parent)))

pub record AreThree (areas : ℕ → Option Area) (a b c : ℕ) : Type 0 where
  pub first : areas a ≡ Some parent
  pub second : areas b ≡ Some child
  pub third : areas c ≡ Some other
  pub only : AreOnly areas a b c

abbrev pub frame_7 : Pte
frame_7 = Here 7 false true

-- the home of frame 7, and an index of the third area
abbrev pub two_items : List (ℕ × ℕ)
two_items = (0, 11) ∷ (0, 20) ∷ []

-- frame 7 is on page 11 of both
abbrev pub shared_entries : ℕ → ℕ → Pte
shared_entries p page =
    if p == 2 && page == 11 then frame_7 else if p == 1 && page == 11 then frame_7 else Empty
