-- Covered: each entry that names a frame is reached from the frame's home, or from an item of a
-- merged one, through a chain alone.
use Rattle.std.specs.List.{list_any}
use Rattle.std.specs.Prelude.{◌≡◌, ◌<◌, ◌≤◌, ℕ, true, false, Some, None, IfSome, IsSome, IsSomeAnd}
use Rattle.av_base.specs.Keys.{Key}
use Rattle.av_base.specs.Items.{same_item}
use Rattle.av_base.specs.declared.slot.Slot.{Slot}
use Rattle.av_base.specs.Words.{how_many, is_in}
use Rattle.av_vma.specs.Index.{index_of}
use Rattle.av_plain.specs.Areas.{AnonVma, Anons, ChainsRise, Rmap, chain_by, root_of}
use Rattle.av_plain.specs.Ledger.{Ledger, entry, frame_at, is_merged, names_frame}
use Rattle.av_plain.specs.Ledger.{names_slot}

-- a page is reached from a home: its area's chain has the home's anon_vma, and its linear index is
-- the home's
abbrev pub IsReached : Rmap → Key → ℕ × ℕ → Type 0
IsReached r k home = IsSomeAnd (r.areas k.0 k.1)
    (λ area. (is_in home.0 (chain_by r.anons area.anon) ≡ true) × (index_of area k.1 ≡ home.1))

-- the entry of a key names the frame
abbrev pub IsOfFrame : Ledger → ℕ → Key → Type 0
IsOfFrame l f k = IsSomeAnd (entry l k) (λ e. names_frame f e ≡ true)

-- each page whose entry names a frame that isn't merged is reached from the frame's home
abbrev pub AreCovered : Ledger → Rmap → Type 0
AreCovered l r = (k : Key) (f : ℕ) → IsOfFrame l f k → is_merged l f ≡ false
    → IsSomeAnd (r.homes f) (IsReached r k)

-- what is true at all times: each anon_vma that is there was made, chains rise, an area's own one
-- is in its chain, and the entries are covered
pub record IsRmapSound (l : Ledger) (r : Rmap) : Type 0 where
  pub made : (v : ℕ) → IsSome (r.anons.anon v) → v < r.anons.next
  pub rising : ChainsRise r.anons
  pub own : (p page v : ℕ) → IsSomeAnd (r.areas p page) (λ area. area.anon ≡ Some v)
      → is_in v (chain_by r.anons (Some v)) ≡ true
  pub covered : AreCovered l r

-- ---- slots

-- an anon_vma's chain holds its root, and each member of it is there and has that root
pub record IsKin (anons : Anons) (v : AnonVma) : Type 0 where
  pub root : is_in v.root v.chain ≡ true
  pub members : (u : ℕ) → is_in u v.chain ≡ true
      → IsSomeAnd (anons.anon u) (λ other. other.root ≡ v.root)

-- the own anon_vma of a page's area has this root, and the page this linear index
abbrev pub IsRooted : Rmap → Key → ℕ × ℕ → Type 0
IsRooted r k home = IsSomeAnd (r.areas k.0 k.1)
    (λ area. IsSomeAnd area.anon (λ own. root_of r.anons own ≡ home.0)
    × (index_of area k.1 ≡ home.1))

-- the entry of a key names the slot
abbrev pub IsOfSlot : Ledger → Slot → Key → Type 0
IsOfSlot l s k = IsSomeAnd (entry l k) (λ e. names_slot s e ≡ true)

-- what is true of slots at all times: the chains are of one root each; the pages whose entries name
-- one slot have one root and one linear index; and where it is cached, they are reached from the
-- frame's home. So the frame that takes the slot's page has a home that reaches them all
pub record AreSlotsCovered (l : Ledger) (r : Rmap) : Type 0 where
  pub kin : (p page v : ℕ) → IsSomeAnd (r.areas p page) (λ area. area.anon ≡ Some v)
      → IsSomeAnd (r.anons.anon v) (IsKin r.anons)
  pub rooted : (s : Slot) (k q : Key) → IsOfSlot l s k → IsOfSlot l s q
      → (home : ℕ × ℕ) × IsRooted r k home × IsRooted r q home
  pub cached : (s : Slot) (k : Key) (f : ℕ) → frame_at l s ≡ Some f → IsOfSlot l s k
      → IsSomeAnd (r.homes f) (IsReached r k)

-- ---- merged frames

-- the page has the root and the linear index of one of the frame's items
abbrev pub HasItem : Rmap → ℕ → Key → Type 0
HasItem r f k =
    (item : ℕ × ℕ) × (list_any (same_item item) (r.items f) ≡ true) × IsRooted r k item

-- an item is at a root, or at one that is there no more
abbrev pub IsAtRoot : Anons → ℕ × ℕ → Type 0
IsAtRoot anons item = (item.0 < anons.next) × IfSome (anons.anon item.0) (λ v. v.root ≡ item.0)

-- a merged frame has no home. Each page whose entry names it has one of its items, no item stands
-- twice, and each is at a root. So it is found from the items, and from one alone: a chain has one
-- root, and a page one linear index
pub record AreMergedCovered (l : Ledger) (r : Rmap) : Type 0 where
  pub found : (k : Key) (f : ℕ) → IsOfFrame l f k → is_merged l f ≡ true → HasItem r f k
  pub once : (f : ℕ) (item : ℕ × ℕ) → is_merged l f ≡ true
      → how_many (same_item item) (r.items f) ≤ 1
  pub roots : (f : ℕ) (item : ℕ × ℕ) → is_merged l f ≡ true
      → list_any (same_item item) (r.items f) ≡ true → IsAtRoot r.anons item
  pub homeless : (f : ℕ) → is_merged l f ≡ true → r.homes f ≡ None
