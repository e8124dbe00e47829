-- The chain of a child's area, and of a copy.
use Rattle.std.specs.Prelude.{ℕ, Bool, false, ◌&&◌, ◌==◌, not, nat_lt, List, [], ◌∷◌, ◌++◌, find}
use Rattle.std.specs.Prelude.{Option, Some, None}
use Rattle.av_vma.specs.declared.area.Area.{Area}
use Rattle.av_anon.specs.declared.infos.Info.{Info}
use Rattle.av_anon.specs.Anons.{Family, give_own, with_links, new_child, with_active_area}

-- an area gets another's chain and own anon_vma; where that one has none it gets none
abbrev pub after_clone : Option ℕ → ℕ → ℕ → Family → Family
after_clone None src dst f = f
after_clone (Some own) src dst f = with_links dst (f.chain src) (with_active_area own f)

abbrev pub gets_own : ℕ → Option ℕ → (ℕ → Option Area) → ℕ → Option Area
gets_own area None areas = areas
gets_own area (Some own) areas = give_own area (Some own) areas

-- fewer than two children, no active area, and no root
abbrev pub is_idle : ℕ → Option Info → Bool
is_idle v None = false
is_idle v (Some i) = nat_lt i.children 2 && (i.active == 0 && not (i.root == v))

-- the member that is reused: a chain rises, so the first is the lowest
abbrev pub member_to_reuse : (ℕ → Option Info) → List ℕ → Option ℕ
member_to_reuse info chain = find (λ v. is_idle v (info v)) chain

abbrev pub root_of : ℕ → Option Info → ℕ
root_of v None = v
root_of v (Some i) = i.root

-- the child's own anon_vma, and its chain: the reused member, else a new one below the parent's own
abbrev pub child_own : Option ℕ → ℕ → ℕ
child_own None next = next
child_own (Some v) next = v

abbrev pub child_chain : Option ℕ → ℕ → List ℕ → List ℕ
child_chain None next chain = chain ++ next ∷ []
child_chain (Some v) next chain = chain

abbrev pub child_family : Option ℕ → ℕ → Family → Family
child_family None own f = new_child (root_of own (f.info own)) own f
child_family (Some v) own f = with_active_area v f

abbrev pub after_fork : Option ℕ → ℕ → ℕ → Family → Family
after_fork None src dst f = f
after_fork (Some own) src dst f =
    let reuse = member_to_reuse f.info (f.chain src) in
    with_links dst (child_chain reuse f.next (f.chain src)) (child_family reuse own f)

-- the own anon_vma of the child's area
abbrev pub own_after_fork : Option ℕ → ℕ → Family → Option ℕ
own_after_fork None src f = None
own_after_fork (Some own) src f = Some (child_own (member_to_reuse f.info (f.chain src)) f.next)
