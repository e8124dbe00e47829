-- Worked examples for forks: which areas and anon_vmas a child gets.
-- Which example would fail if a definition were wrong:
--   the own anon_vma of the child (`own_of_child`, `IsReused`): new_below_root, lowest_again
--   when a member is idle (`IsIdle`): grandchild, of_two_children, lowest_again
--   the anon_vmas then (`with_child`): new_below_root, grandchild, lowest_again
--   an area without anon_vma (`GoesBy`): bare
--   that areas go in turn (`GoOver`, `AreForked`): two_in_turn
--   which areas go, and by which anon_vma (`areas_to_fork`, `own_to_fork`): by_flags
-- The memories and the entries that it gets are in `Examples` and `Pairs`.
use Rattle.std.specs.Prelude.{◌≡◌, ℕ, List, [], ◌∷◌, map, Option, Some}
use Rattle.std.specs.List.{range_with_len}
use Rattle.av_vma.specs.Pages.{pages_in}
use Rattle.av_vma.specs.declared.area.Area.{Area}
use Rattle.av_plain.specs.Areas.{AnonVma, Anons, Rmap}
use Rattle.av_plain.specs.Fork.{AreForked}
use Rattle.av_laws.specs.Areas.{and_at, area_of, by_number, family, rmap_with}
use Rattle.av_laws.specs.Flags.{left_out, wiped_off}

-- process 1 has these areas and anon_vmas; it is forked, and its child is process 2: then that has
-- those areas, as 8 pages show, and those are the anon_vmas
abbrev pub ForksTo : List Area → Anons → List Area → List (Option AnonVma) → Type 0
ForksTo areas anons new left = (next : Rmap) × AreForked 1 2 (rmap_with areas anons) next
    × (map (next.areas 2) (range_with_len 0xf 8) ≡ map (pages_in (Some new)) (range_with_len 0xf 8))
    × (by_number next.anons ≡ left)

-- an area of process 2 with this own anon_vma
abbrev pub of_two : ℕ → ℕ → ℕ → Area
of_two own from past = record (area_of own from past) { pid = 2 }

-- an anon_vma below another, in a chain that begins at root 0
abbrev pub below : ℕ → List ℕ → AnonVma
below above chain = record { root = 0; parent = above; chain = chain }

-- anon_vma 2 is below 1, which is below 0
abbrev pub grandchild : AnonVma
grandchild = below 1 (0 ∷ 1 ∷ 2 ∷ [])

abbrev pub three_deep : Anons
three_deep = and_at 2 grandchild 3 family

-- 1 has another child, too
abbrev pub sibling : AnonVma
sibling = below 1 (0 ∷ 1 ∷ 3 ∷ [])

abbrev pub siblings : Anons
siblings = and_at 3 sibling 4 three_deep

-- or 3 is below 2
abbrev pub four_deep : Anons
four_deep = and_at 3 (below 2 (0 ∷ 1 ∷ 2 ∷ 3 ∷ [])) 4 three_deep

-- two areas of the root
abbrev pub two_of_root : List Area
two_of_root = area_of 0 0x10 0x12 ∷ area_of 0 0x14 0x16 ∷ []

-- three of it: the first is left out, and the second wiped
abbrev pub three_of_root : List Area
three_of_root = record (area_of 0 0x10 0x12) { flags = left_out }
    ∷ record (area_of 0 0x12 0x14) { flags = wiped_off } ∷ area_of 0 0x14 0x16 ∷ []
