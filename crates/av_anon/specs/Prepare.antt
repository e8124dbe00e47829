-- Which anon_vma an area gets at its first fault.
use Rattle.std.specs.Prelude.{ℕ, List, [], ◌∷◌, length, if◌then◌else◌, Option, Some, None, IsSome}
use Rattle.std.specs.Prelude.{option_and_then}
use Rattle.std.specs.Option.{option_or}
use Rattle.av_vma.specs.declared.area.Area.{Area}
use Rattle.av_vma.specs.Join.{can_lend}
use Rattle.av_anon.specs.Anons.{Family, with_links, new_root, with_active_area}

-- that of a neighbour, if there is one whose anon_vma it may take
abbrev pub loan_by : ℕ → Area → Option Area → Option ℕ
loan_by len area None = None
loan_by len area (Some near) = if can_lend area near len then near.anon else None

abbrev pub loan : (ℕ → Option Area) → (ℕ → List ℕ) → Area → Option ℕ → Option ℕ
loan areas chain area None = None
loan areas chain area (Some number) = loan_by (length (chain number)) area (areas number)

-- that of the area after it, else of the one before
abbrev pub loan_near : (ℕ → Option Area) → (ℕ → List ℕ) → Area → Option ℕ → Option ℕ → Option ℕ
loan_near areas chain area before after =
    option_or (loan areas chain area after) (loan areas chain area before)

-- the same for the area at a number
abbrev pub loan_to : (ℕ → Option Area) → (ℕ → List ℕ) → ℕ → Option ℕ → Option ℕ → Option ℕ
loan_to areas chain area before after =
    option_and_then (λ (a : Area). loan_near areas chain a before after) (areas area)

-- there is no neighbour, or its number is in use
abbrev pub MayStand : (ℕ → Option Area) → Option ℕ → Type 0
MayStand areas None = Unit {0}
MayStand areas (Some number) = IsSome (areas number)

-- the area's own anon_vma then, and what there is
abbrev pub own_after_prepare : Option ℕ → Family → ℕ
own_after_prepare None f = f.next
own_after_prepare (Some v) f = v

-- a new root is made, or the anon_vma has an active area more
abbrev pub family_after_prepare : Option ℕ → Family → Family
family_after_prepare None f = new_root f
family_after_prepare (Some v) f = with_active_area v f

abbrev pub after_prepare : ℕ → Option ℕ → Family → Family
after_prepare area loan f =
    with_links area (own_after_prepare loan f ∷ []) (family_after_prepare loan f)
