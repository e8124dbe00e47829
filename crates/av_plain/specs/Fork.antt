-- Fork: a child gets of its parent's memory what the flags of its pages say, the entries of these
-- pages, and the parent's areas one after the other, each with a chain.
use Rattle.std.specs.Option.{option_map_or}
use Rattle.std.specs.Prelude.{◌≡◌, ◌<◌, ◌≤◌, ◌==◌, ◌&&◌, ℕ, suc, Bool, true, false, List, [], ◌∷◌}
use Rattle.std.specs.Prelude.{◌++◌}
use Rattle.std.specs.Prelude.{map, filter, not, Option, Some, None, IfSome, IsSomeAnd}
use Rattle.av_base.specs.Keys.{Key}
use Rattle.av_base.specs.Words.{how_many, is_in, with_at}
use Rattle.std.specs.List.{range_with_len}
use Rattle.av_trace.specs.declared.command.Command.{Command}
use Rattle.av_trace.specs.declared.command.Command.TheVariants.{Fork}
use Rattle.av_trace.specs.declared.reply.Answer.{Answer}
use Rattle.av_trace.specs.declared.reply.Answer.TheVariants.{Done}
use Rattle.av_trace.specs.declared.row.Row.{Row}
use Rattle.av_vma.specs.declared.area.Area.{Area}
use Rattle.av_vma.specs.Fork.{areas_to_fork, forked_area, own_to_fork}
use Rattle.av_vma.specs.Pages.{pages_in, with_area}
use Rattle.av_plain.specs.Areas.{AnonVma, Anons, AreNext, Rmap, chain_by, none_on, root_of}
use Rattle.av_plain.specs.Event.{Event, Forked}
use Rattle.av_plain.specs.Ledger.{Ledger}
use Rattle.av_plain.specs.Report.{AreApart, range_of}
use Rattle.av_plain.specs.World.{Page, Process, World, pages}
use Rattle.av_plain.specs.Zap.{keys_of_process}

-- ---- entries

-- whether the entry of a page goes over to a child: the page isn't left out, and isn't wiped
abbrev pub goes_over : Option Page → Bool
goes_over None = false
goes_over (Some page) = not page.flags.dont_fork && not page.flags.wipe_on_fork

-- the pages whose entries go over: those of the parent that have one
abbrev pub inheritance : Process → Ledger → ℕ → List ℕ
inheritance q l p = map (λ (k : Key). k.1) (filter (λ k. goes_over (q k.1)) (keys_of_process l p))

-- a fork tells nothing; its one event names these pages
abbrev pub Forks : World → Ledger → ℕ → ℕ → List Event → Answer → List Row → Type 0
Forks w l p q events answer rows =
    (answer ≡ Done) × (events ≡ Forked p q (inheritance (pages w p) l p) ∷ []) × (rows ≡ [])

-- ---- anon_vmas

-- whether the anon_vma is there and v is its parent
abbrev pub is_child : ℕ → Option AnonVma → Bool
is_child v None = false
is_child v (Some anon) = anon.parent == v

-- how many have it as their parent; a root is one of its own
abbrev pub children : Anons → ℕ → ℕ
children anons v = how_many (λ u. is_child v (anons.anon u)) (range_with_len 0 anons.next)

-- an anon_vma that an area of a child may have as its own again: it has fewer than two children, no
-- area has it as its own, and it is there and no root
pub record IsIdle (r : Rmap) (v : ℕ) : Type 0 where
  pub few : children r.anons v < 2
  pub free : (p page : ℕ) → IfSome (r.areas p page) (λ area. area.anon ≡ Some v → ⊥)
  pub below : IsSomeAnd (r.anons.anon v) (λ anon. anon.root ≡ v → ⊥)

-- the lowest such member of a chain, if it has one
abbrev pub IsReused : Rmap → List ℕ → Option ℕ → Type 0
IsReused r chain None = (v : ℕ) → is_in v chain ≡ true → IsIdle r v → ⊥
IsReused r chain (Some v) = (is_in v chain ≡ true) × IsIdle r v
    × ((w : ℕ) → is_in w chain ≡ true → IsIdle r w → v ≤ w)

-- the own anon_vma of the child's area: that member, else a new one
abbrev pub own_of_child : Anons → Option ℕ → ℕ
own_of_child anons None = anons.next
own_of_child anons (Some v) = v

-- the member has the parent's chain then; a new one is below the parent's own
abbrev pub with_child : ℕ → Option ℕ → Anons → Anons
with_child own None anons = record {
  next = suc anons.next;
  anon = with_at anons.next (Some (record {
    root = root_of anons own;
    parent = own;
    chain = chain_by anons (Some own) ++ anons.next ∷ [];
  })) anons.anon;
}
with_child own (Some v) anons = record anons {
  anon = with_at v (Some (record {
    root = root_of anons v;
    parent = option_map_or (λ (anon : AnonVma). anon.parent) (anons.anon v) v;
    chain = chain_by anons (Some own);
  })) anons.anon;
}

-- ---- areas

-- the child has this area, too, with this own anon_vma
abbrev pub with_child_area : ℕ → Option ℕ → Area → Rmap → Rmap
with_child_area q own area r = record r {
  areas = with_at q (with_area (record (forked_area q area) { anon = own }) (r.areas q)) r.areas;
}

-- a parent's area goes to the child, by the parent's own anon_vma, if there is one
abbrev pub GoesBy : Option ℕ → ℕ → Area → Rmap → Rmap → Type 0
GoesBy None q area r next = next ≡ with_child_area q None area r
GoesBy (Some own) q area r next = (reused : Option ℕ)
    × IsReused r (chain_by r.anons (Some own)) reused
    × (next ≡ record (with_child_area q (Some (own_of_child r.anons reused)) area r) {
      anons = with_child own reused r.anons;
    })

-- the areas go in turn, each seeing what the earlier ones left
abbrev pub GoOver : ℕ → List Area → Rmap → Rmap → Type 0
GoOver q [] r next = next ≡ r
GoOver q (area ∷ areas) r next =
    (mid : Rmap) × GoesBy (own_to_fork area) q area r mid × GoOver q areas mid next

-- so do those of a parent that aren't left out, by rising address
abbrev pub AreForked : ℕ → ℕ → Rmap → Rmap → Type 0
AreForked p q r next = (areas : List Area) × AreApart (map range_of areas)
    × ((page : ℕ) → pages_in (Some areas) page ≡ r.areas p page)
    × GoOver q (areas_to_fork areas) (record r { areas = with_at q none_on r.areas }) next

-- ---- the whole

-- what there is after a command that was done, from what there is after its events
abbrev pub IsRmapDone : Rmap → World → Command → Rmap → Type 0
IsRmapDone now w (Fork p q) next = AreForked p q now next
IsRmapDone now w command next = AreNext now w command Done next

-- and after one that was answered so
abbrev pub IsRmapNext : Rmap → World → Command → Answer → Rmap → Type 0
IsRmapNext now w command Done next = IsRmapDone now w command next
IsRmapNext now w command answer next = AreNext now w command answer next
