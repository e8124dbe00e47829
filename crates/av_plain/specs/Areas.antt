-- What reverse mapping goes by, beside the memories: the areas of each process, the anon_vmas, and
-- the home of each frame, or the items of one that is merged. And what a command makes of them: by
-- what was there and the memories before it, its events, the command and its answer. They are not
-- part of what makes a reply legal.
use Rattle.std.specs.Prelude.{◌≡◌, ℕ, suc, ◌+◌, if◌then◌else◌, Bool, true, List, [], ◌∷◌, length}
use Rattle.std.specs.Prelude.{Option, Some, None, IfSome, IsSome, IsSomeAnd, option_map, ◌++◌}
use Rattle.std.specs.Prelude.{◌&&◌, ◌==◌}
use Rattle.std.specs.List.{list_any}
use Rattle.std.specs.Option.{option_map_or}
use Rattle.av_base.specs.Keys.{Key}
use Rattle.av_base.specs.Flags.{no_flags}
use Rattle.av_base.specs.Items.{Item, with_item}
use Rattle.av_base.specs.Page.{page_of, pages_of}
use Rattle.av_base.specs.Words.{is_in, with_at}
use Rattle.av_base.specs.declared.flags.Flag.{Flag}
use Rattle.av_base.specs.declared.prot.Prot.{Prot}
use Rattle.av_trace.specs.declared.command.Command.{Command}
use Rattle.av_trace.specs.declared.command.Command.TheVariants.{Mprotect, Mremap, Spawn, Exit, Mmap}
use Rattle.av_trace.specs.declared.command.Command.TheVariants.{Munmap}
use Rattle.av_trace.specs.declared.place.Place.{Place}
use Rattle.av_trace.specs.declared.place.Place.TheVariants.{Auto, At, Fixed, NoReplace}
use Rattle.av_trace.specs.declared.reply.Answer.{Answer}
use Rattle.av_trace.specs.declared.reply.Answer.TheVariants.{Done, MapAt, Refused}
use Rattle.av_trace.specs.declared.reply.Errno.TheVariants.{Enomem}
use Rattle.av_trace.specs.declared.note.Note.{Note}
use Rattle.av_trace.specs.declared.note.Note.TheVariants.{New, Copied, Loaded, Shared, Joined}
use Rattle.av_trace.specs.declared.note.Note.TheVariants.{Moved}
use Rattle.av_trace.specs.Row.{AreRising}
use Rattle.av_vma.specs.Pages.{Lengths, Pages, after_map, after_prepare, after_unmap, home_of}
use Rattle.av_vma.specs.Pages.{makes_anon, pages_changed, to_flag, to_prot}
use Rattle.av_vma.specs.declared.area.Area.{Area}
use Rattle.av_plain.specs.Event.{Event, FlagSet, Noted, Used, after}
use Rattle.av_plain.specs.Ledger.{Entry, InFrame, Ledger, entry, keys_of_slot}
use Rattle.av_plain.specs.Mremap.{after_mremap, leaves_old, marks_at}
use Rattle.av_plain.specs.Refusal.{wraps}
use Rattle.av_plain.specs.World.{Process, World, pages, pages_to_hole}

-- ---- areas

-- for each process, the area that holds each page
abbrev pub Areas : Type 0
Areas = ℕ → Pages

-- a process without any area
abbrev pub none_on : Pages
none_on page = None

-- these are on the pages that are mapped, with their protections and flags, and on no other page
abbrev pub HaveMarksOf : Pages → Process → Type 0
HaveMarksOf on q =
    (page : ℕ) → option_map (λ (area : Area). (area.prot, area.flags)) (on page) ≡ marks_at q page

-- no process has any
abbrev pub no_areas : Areas
no_areas p = none_on

-- ---- anon_vmas

-- an anon_vma: its root and its parent, and the chain that areas have, or last had, whose own it is
pub record AnonVma : Type 0 where
  pub root : ℕ
  pub parent : ℕ
  pub chain : List ℕ

-- the anon_vmas by number, and the number of the one that is made next
pub record Anons : Type 0 where
  pub next : ℕ
  pub anon : ℕ → Option AnonVma

-- no anon_vma was made
abbrev pub no_anons : Anons
no_anons = record { next = 0; anon = λ _. None }

-- the chain of an area, by its own anon_vma
abbrev pub chain_by : Anons → Option ℕ → List ℕ
chain_by anons None = []
chain_by anons (Some own) = option_map_or (λ (v : AnonVma). v.chain) (anons.anon own) []

-- how long it is
abbrev pub chain_length : Anons → Lengths
chain_length anons own = length (chain_by anons own)

-- the chain of each anon_vma rises, and its last is below the number of the one that is made next
abbrev pub ChainsRise : Anons → Type 0
ChainsRise anons =
    (v : ℕ) → IfSome (anons.anon v) (λ anon. AreRising (anon.chain ++ anons.next ∷ []))

-- an area is linked to the anon_vma: it is in the area's chain
abbrev pub IsLinked : Anons → Areas → ℕ → Type 0
IsLinked anons on v = (p : ℕ) × (page : ℕ)
    × IsSomeAnd (on p page) (λ area. is_in v (chain_by anons area.anon) ≡ true)

-- what is left of the anon_vmas once these are the areas: none changes, and one is there exactly
-- while an area is linked to it
pub record AreLeft (anons : Anons) (on : Areas) (left : Anons) : Type 0 where
  pub next : left.next ≡ anons.next
  pub there : (v : ℕ) → IsSome (left.anon v) → IsLinked anons on v
  pub linked : (v : ℕ) → IsLinked anons on v → left.anon v ≡ anons.anon v

-- ---- homes

-- for each frame that a page got, its home: an anon_vma and a linear index. A frame has none until
-- its first page, and none from where it is merged to the next page that it gets; else one that is
-- free keeps the last
abbrev pub Homes : Type 0
Homes = ℕ → Option (ℕ × ℕ)

-- no frame has any
abbrev pub no_homes : Homes
no_homes f = None

-- for each merged frame, in place of a home, its items: the root and the linear index of each page
-- that shares it, none twice. One that isn't merged any more keeps the last
abbrev pub Items : Type 0
Items = ℕ → List (ℕ × ℕ)

-- no frame has any
abbrev pub no_items : Items
no_items f = []

-- the areas of each process, the anon_vmas, and the home or the items of each frame
pub record Rmap : Type 0 where
  pub areas : Areas
  pub anons : Anons
  pub homes : Homes
  pub items : Items

-- the frame is at home at the page: with the own anon_vma of its area, and its linear index
abbrev pub at_home : ℕ → Key → Rmap → Rmap
at_home f k r = record r { homes = with_at f (home_of k.1 (r.areas k.0 k.1)) r.homes }

-- the root of an anon_vma
abbrev pub root_of : Anons → ℕ → ℕ
root_of anons v = option_map_or (λ (anon : AnonVma). anon.root) (anons.anon v) v

-- the same home, with the root in place of the anon_vma
abbrev pub at_root : Anons → Option (ℕ × ℕ) → Option (ℕ × ℕ)
at_root anons home = option_map (λ (h : ℕ × ℕ). (root_of anons h.0, h.1)) home

-- the home of a frame that takes the page of a slot, by the keys of the slot's entries: that of the
-- one page; where there are more, that of a page with the root, which they all have
abbrev pub home_for : Rmap → List Key → Option (ℕ × ℕ)
home_for r [] = None
home_for r (k ∷ []) = home_of k.1 (r.areas k.0 k.1)
home_for r (k ∷ q ∷ ks) = at_root r.anons (home_of k.1 (r.areas k.0 k.1))

-- ---- items

-- with an item, if there is one
abbrev pub with_any_item : Option Item → List Item → List Item
with_any_item None items = items
with_any_item (Some item) items = with_item item items

-- the item of a page: the root of its area's own anon_vma, and its linear index
abbrev pub item_of : Rmap → Key → Option (ℕ × ℕ)
item_of r k = at_root r.anons (home_of k.1 (r.areas k.0 k.1))

-- a frame that is merged now has one item in place of its home: the root of that, and its index
abbrev pub with_first_item : ℕ → Rmap → Rmap
with_first_item f r = record r {
  homes = with_at f None r.homes;
  items = with_at f (with_any_item (at_root r.anons (r.homes f)) []) r.items;
}

-- a frame has the item of one page more
abbrev pub with_item_of : ℕ → Key → Rmap → Rmap
with_item_of f k r =
    record r { items = with_at f (with_any_item (item_of r k) (r.items f)) r.items }

-- home and items go over from one frame to another
abbrev pub with_home_moved : ℕ → ℕ → Rmap → Rmap
with_home_moved from to r = record r {
  homes = with_at to (r.homes from) r.homes;
  items = with_at to (r.items from) r.items;
}

-- ---- prepare

-- an anon_vma that is its own root and parent, and whose chain is itself alone
abbrev pub root_anon : ℕ → AnonVma
root_anon v = record { root = v; parent = v; chain = v ∷ [] }

-- one more anon_vma, such a root
abbrev pub with_root : Anons → Anons
with_root anons = record {
  next = suc anons.next;
  anon = with_at anons.next (Some (root_anon anons.next)) anons.anon;
}

-- the area of a page has an anon_vma then: its own, one that is lent, or a new root
abbrev pub prepare_page : ℕ → ℕ → Rmap → Rmap
prepare_page p page r = let on = r.areas p in let len = chain_length r.anons in record {
  areas = with_at p (after_prepare len r.anons.next page on) r.areas;
  anons = if makes_anon len on (on page) then with_root r.anons else r.anons;
  homes = r.homes;
  items = r.items;
}

-- ---- after events

-- an area is prepared where a page of it gets a new frame; a frame is at home at the page that gets
-- it, new or as a copy; and one that takes a slot's page, where the entries of the slot say. One
-- that is merged has an item for each page instead; and one that goes over takes what it has along
abbrev pub rmap_after_note : Ledger → Note → Rmap → Rmap
rmap_after_note l (New p a f) r = at_home f (p, page_of a) (prepare_page p (page_of a) r)
rmap_after_note l (Copied p a f) r = at_home f (p, page_of a) r
rmap_after_note l (Loaded s f) r =
    record r { homes = with_at f (home_for r (keys_of_slot l s)) r.homes }
rmap_after_note l (Shared f) r = with_first_item f r
rmap_after_note l (Joined p a f) r = with_item_of f (p, page_of a) r
rmap_after_note l (Moved from to) r = with_home_moved from to r
rmap_after_note l note r = r

-- and at the page through whose entry it is written
abbrev pub rmap_after_use : Bool → Key → Option Entry → Rmap → Rmap
rmap_after_use true k (Some (InFrame f seen)) r = at_home f k r
rmap_after_use write k e r = r

-- areas are cut and joined where a flag of some pages is set, or cleared
abbrev pub rmap_after_flag : ℕ → ℕ → ℕ → Flag → Bool → Rmap → Rmap
rmap_after_flag p from n flag set r = let len = chain_length r.anons in record r {
  areas = with_at p (pages_changed len (to_flag flag set) from n (r.areas p)) r.areas;
}

-- after an event, by the ledger before it
abbrev pub rmap_after : Ledger → Event → Rmap → Rmap
rmap_after l (Noted note) r = rmap_after_note l note r
rmap_after l (Used write k) r = rmap_after_use write k (entry l k) r
rmap_after l (FlagSet p from n flag set) r = rmap_after_flag p from n flag set r
rmap_after l event r = r

-- and after several
abbrev pub rmap_after_all : Ledger → List Event → Rmap → Rmap
rmap_after_all l [] r = r
rmap_after_all l (e ∷ es) r = rmap_after_all (after l e) es (rmap_after l e r)

-- ---- the areas after a command

-- what stands where a mapping of n pages goes makes room: only a fixed place takes away
abbrev pub with_room : ℕ → Place → Pages → Pages
with_room n Auto on = on
with_room n (At a) on = on
with_room n (Fixed a) on = after_unmap (page_of a) (page_of a + n) on
with_room n (NoReplace a) on = on

-- the pages up to the first of n that isn't mapped get the protection
abbrev pub areas_to_hole : Lengths → World → ℕ → ℕ → ℕ → Prot → Pages → Pages
areas_to_hole len w p from n prot on =
    pages_changed len (to_prot prot) from (pages_to_hole (pages w p) from n) on

-- the areas after a command that was answered so, by how long chains are and the memories before it
abbrev pub next_areas : Lengths → Areas → World → Command → Answer → Areas
next_areas long on w (Spawn p) Done = with_at p none_on on
next_areas long on w (Exit p) Done = with_at p none_on on
next_areas long on w (Mmap p len prot place) (MapAt a) =
    let room = with_room (pages_of len) place (on p) in
    with_at p (after_map long p (page_of a) (page_of a + pages_of len) prot no_flags room) on
next_areas long on w (Munmap p a len) Done =
    with_at p (after_unmap (page_of a) (page_of a + pages_of len) (on p)) on
next_areas long on w (Mprotect p a len prot) Done =
    with_at p (areas_to_hole long w p (page_of a) (pages_of len) prot (on p)) on
next_areas long on w (Mprotect p a len prot) (Refused Enomem) =
    if wraps a len then on
    else with_at p (areas_to_hole long w p (page_of a) (pages_of len) prot (on p)) on
next_areas long on w (Mremap p a old new mode) (MapAt b) =
    with_at p (after_mremap long p (page_of a) (pages_of old) (page_of b) (pages_of new)
    (leaves_old mode) (on p)) on
next_areas long on w command answer = on

-- ---- the whole

-- what there is after a command that was answered so, from what there is after its events
pub record AreNext (now : Rmap) (w : World) (command : Command) (answer : Answer) (next : Rmap)
    : Type 0 where
  pub areas : next.areas ≡ next_areas (chain_length now.anons) now.areas w command answer
  pub anons : AreLeft now.anons next.areas next.anons
  pub homes : next.homes ≡ now.homes
  pub items : next.items ≡ now.items
