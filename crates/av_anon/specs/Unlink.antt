-- What an area that goes leaves.
use Rattle.std.specs.Prelude.{ℕ, Bool, ◌&&◌, List, [], if◌then◌else◌, Option, Some, None}
use Rattle.std.specs.Prelude.{option_map}
use Rattle.av_base.specs.Words.{how_many, is_in, with_at, without}
use Rattle.av_chain.specs.Links.{left_by_all}
use Rattle.av_anon.specs.declared.infos.Info.{Info}
use Rattle.av_anon.specs.Infos.{less_active, less_children, with_info, without_children}
use Rattle.av_anon.specs.Anons.{Family, is_empty}
use Rattle.av_anon.specs.Order.{is_child}

-- an anon_vma goes, and its parent, if it is there, has a child less
abbrev pub without_anon_of : Option Info → ℕ → (ℕ → Option Info) → ℕ → Option Info
without_anon_of None v info = info
without_anon_of (Some i) v info = with_at v None (with_info i.parent less_children info)

abbrev pub without_anon : ℕ → (ℕ → Option Info) → ℕ → Option Info
without_anon v info = without_anon_of (info v) v info

-- no other area is linked to it
abbrev pub has_no_other : ℕ → (ℕ → List ℕ) → ℕ → Bool
has_no_other area users v = is_empty (without area (users v))

-- once the area has left these: one that no other area is linked to is destroyed, and its parent's
-- children fall by one
abbrev pub info_without : ℕ → (ℕ → List ℕ) → List ℕ → (ℕ → Option Info) → ℕ → Option Info
info_without area users anons info v =
    if is_in v anons && has_no_other area users v then None
    else option_map
    (without_children (how_many (λ u. has_no_other area users u && is_child v (info u)) anons))
    (info v)

-- the area leaves all its anon_vmas
abbrev pub without_links : ℕ → Family → Family
without_links area f = record f {
  info = info_without area f.users (f.chain area) f.info;
  chain = with_at area [] f.chain;
  users = left_by_all area (f.chain area) f.users;
}

abbrev pub after_unlink : Option ℕ → ℕ → Family → Family
after_unlink None area f = f
after_unlink (Some own) area f =
    without_links area (record f { info = with_info own less_active f.info })
