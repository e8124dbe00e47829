-- What is kept of each anon_vma.
use Rattle.std.specs.Prelude.{ℕ, ◌+◌, ◌-◌, Option, option_map, nat_eq}
use Rattle.std.specs.HashMap as hash_map
use Rattle.av_base.specs.Words.{with_at}
use Rattle.av_anon.specs.declared.infos.Info.{Info}
use Rattle.av_anon.specs.declared.infos.Infos.{Infos}

-- an anon_vma, or none where it was not made or is destroyed
abbrev pub info_in : Infos → ℕ → Option Info
info_in infos anon = hash_map.get nat_eq infos.map anon

-- one area more, or less, has it as its own
abbrev pub more_active : Info → Info
more_active i = record i { active = i.active + 1 }

abbrev pub less_active : Info → Info
less_active i = record i { active = i.active - 1 }

-- n anon_vmas less have it as their parent
abbrev pub without_children : ℕ → Info → Info
without_children n i = record i { children = i.children - n }

abbrev pub more_children : Info → Info
more_children i = record i { children = i.children + 1 }

abbrev pub less_children : Info → Info
less_children i = without_children 1 i

-- one anon_vma is changed, if it is there
abbrev pub with_info : ℕ → (Info → Info) → (ℕ → Option Info) → ℕ → Option Info
with_info anon change info = with_at anon (option_map change (info anon)) info
