-- What the anon_vmas show: what is kept of each, the chain of each area and the users of each.
use Rattle.std.specs.Prelude.{ℕ, suc, Bool, true, false, List, [], ◌∷◌, Option}
use Rattle.std.specs.Prelude.{Some, None, option_map}
use Rattle.av_base.specs.Words.{with_at}
use Rattle.av_chain.specs.Links.{chain_of, users_of, users_with}
use Rattle.av_arena.specs.Order as arena_order
use Rattle.av_vma.specs.declared.area.Area.{Area}
use Rattle.av_anon.specs.declared.infos.Info.{Info}
use Rattle.av_anon.specs.declared.anons.Anons.{Anons}
use Rattle.av_anon.specs.Infos.{info_in, more_active, more_children, with_info}

-- next: the number of the anon_vma that is made next. info: what is kept of each that there is.
-- chain: by area, the anon_vmas that it is linked to. users: by anon_vma, the areas linked to it
pub record Family : Type 0 where
  pub next : ℕ
  pub info : ℕ → Option Info
  pub chain : ℕ → List ℕ
  pub users : ℕ → List ℕ

abbrev pub family : Anons → Family
family a = record {
  next = a.next;
  info = info_in a.infos;
  chain = chain_of a.links;
  users = users_of a.links;
}

-- each number is below all later ones
abbrev pub IsRising : List ℕ → Type 0
IsRising xs = arena_order.IsRising (λ (x : ℕ). x) xs

abbrev pub is_empty : List ℕ → Bool
is_empty [] = true
is_empty (x ∷ xs) = false

-- the own anon_vma of the area at a number, if there is one
abbrev pub own_of : Option Area → Option ℕ
own_of None = None
own_of (Some area) = area.anon

-- the area with this own anon_vma
abbrev pub with_own : Option ℕ → Option Area → Option Area
with_own own area = option_map (λ (a : Area). record a { anon = own }) area

-- the areas, once one of them has this own anon_vma
abbrev pub give_own : ℕ → Option ℕ → (ℕ → Option Area) → ℕ → Option Area
give_own area own areas = with_at area (with_own own (areas area)) areas

-- an area without anon_vmas is linked to these
abbrev pub with_links : ℕ → List ℕ → Family → Family
with_links area anons f = record f {
  chain = with_at area anons f.chain;
  users = users_with area anons f.users;
}

-- one more area has the anon_vma as its own
abbrev pub with_active_area : ℕ → Family → Family
with_active_area anon f = record f { info = with_info anon more_active f.info }

-- an anon_vma is made, its own root and parent, with one active area
abbrev pub new_root : Family → Family
new_root f = record f {
  next = suc f.next;
  info = with_at f.next
      (Some (record { root = f.next; parent = f.next; children = 1; active = 1 })) f.info;
}

-- an anon_vma is made below this one, with one active area
abbrev pub new_child : ℕ → ℕ → Family → Family
new_child root parent f = record f {
  next = suc f.next;
  info = with_at f.next
      (Some (record { root = root; parent = parent; children = 0; active = 1 }))
      (with_info parent more_children f.info);
}

-- no area is linked and no anon_vma was made
abbrev pub nobody : Family
nobody = record { next = 0; info = λ _. None; chain = λ _. []; users = λ _. [] }
