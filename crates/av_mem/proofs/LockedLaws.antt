-- Which pages are locked, and how many entries of theirs name a frame: what the memory system counts is what memories and ledger say.
use Rattle.std.proofs.Common.{◌≡◌, ℕ, zero, suc, ◌+◌, ◌-◌, ◌<◌, ◌≤◌, ◌==◌, nat_lt, Bool, true, false, cond, ◌&&◌, T, Option, Some, None, option_map, refl, sym, ap, subst, ◌∙◌, arith}
use Rattle.std.proofs.lemmas.Bool.{false≢true}
use Rattle.std.specs.FinMap.Entries.{is_sorted}
use Rattle.std.specs.List.{range_with_len}
use Rattle.av_base.specs.Keys.{Key, key_cmp}
use Rattle.av_base.specs.Page.{page_of}
use Rattle.av_base.specs.Words.{how_many}
use Rattle.av_base.specs.declared.flags.Flags.{Flags}
use Rattle.av_vma.specs.Areas.{is_locked as is_area_locked}
use Rattle.av_vma.specs.declared.area.Area.{Area}
use Rattle.av_spaces.specs.Spaces.{pages_of}
use Rattle.av_pagetable.specs.Entries.{entry_at}
use Rattle.av_rmap.specs.Walk.{names_frame as names_here}
use Rattle.av_plain.specs.Areas.{Rmap}
use Rattle.av_plain.specs.Device.{Device}
use Rattle.av_plain.specs.Fault.{is_locked}
use Rattle.av_plain.specs.Ledger.{Entry, InFrame, Ledger, entry, map_count, names_frame}
use Rattle.av_plain.specs.Stands.{AreasStand, LedgerStands, entry_of}
use Rattle.av_plain.specs.World.{Page, World, is_locked_page, pages}
use Rattle.av_plain.proofs.Ledger.Walk.{passes}
use Rattle.av_plain.proofs.Sound.Counts.{same-itself}
use Rattle.av_swap_laws.specs.Locks.{AreLocks, lock_count}
use Rattle.av_swap_laws.specs.LockRange.{lock_at, lock_count_in, lock_of}
use Rattle.av_swap_laws.proofs.LockRange.{next-frame, range-few, range-next, range-none, range-then}
use Rattle.av_swap_laws.proofs.Locks.{locked-counts, locks-few}
use Rattle.av_mem.specs.declared.mem.Mem.{Mem}
use Rattle.av_mem.specs.Locked.{AreFew, has_lock, is_lock_at, locks_in}
use Rattle.av_mem.specs.Mem.{Serves, locks_of, plain, setting_by, view}
use Rattle.av_mem.proofs.ReachLaws.{frame-says}

-- ---- a page that is locked

-- the area and the page have the same flags
pub same-lock : (o : Option Area) (x : Option Page) → option_map (λ (area : Area). area.flags) o ≡ option_map (λ (q : Page). q.flags) x
    → is_area_locked o ≡ is_locked_page x
same-lock o x same = of-area o ∙ ap lock same ∙ sym (of-page x)
  where
    lock : Option Flags → Bool
    lock None = false
    lock (Some f) = f.locked

    of-area : (o : Option Area) → is_area_locked o ≡ lock (option_map (λ (area : Area). area.flags) o)
    of-area None = refl
    of-area (Some A) = refl

    of-page : (x : Option Page) → is_locked_page x ≡ lock (option_map (λ (q : Page). q.flags) x)
    of-page None = refl
    of-page (Some q) = refl

pub lock-is : (k : Mem) (w : World) (p page : ℕ) → AreasStand (view k) w → has_lock k (p, page) ≡ is_locked_page (pages w p page)
lock-is k w p page areas = same-lock (pages_of k.spaces.processes p page) (pages w p page) (areas.flags p page)

-- ---- a frame that has one

-- what is counted tells whether a frame is locked
pub locked-told : (locks : ℕ → ℕ) (w : World) (l : Ledger) (f : ℕ) → AreLocks locks w l → nat_lt 0 (locks f) ≡ is_locked w l f
locked-told locks w l f are = ap (nat_lt 0) (are f) ∙ sym (locked-counts w l f)

-- no frame has more than its entries
pub locks-are-few : (d : Device) (closing : Option ℕ) (k : Mem) (w : World) (r : Rmap) (l : Ledger) → Serves d closing k w r l → AreFew k
locks-are-few d closing k w r l serves f =
    let counted = serves.locks f in
    let maps = serves.held.ledger.frames.maps f in
    let few = locks-few w l f in
    omega (arith, counted, maps, few)

-- a frame that the entry of a locked page names is locked
none_more : (n : ℕ) → n + 0 ≡ n
none_more n = omega arith

pub lock-found : (w : World) (l : Ledger) (p page f : ℕ) (seen : Bool) → T (is_sorted key_cmp l.entries) → is_locked_page (pages w p page) ≡ true
    → entry l (p, page) ≡ Some (InFrame f seen) → 0 < lock_count w l f
lock-found w l p page f seen sorted locked is =
    let one = next-frame w l p page sorted 0 f f seen (ap (λ x. is_locked_page (pages w p x)) (none_more page) ∙ locked)
    (ap (λ x. entry l (p, x)) (none_more page) ∙ is) in
    let itself = ap {B = ℕ} (λ b. cond b 1 0) (same-itself f) in
    let few = range-few w l p page (0 + 1) f in
    omega (arith, one, itself, few)

-- so where none is counted, the page isn't locked
pub page-unlocked : (w : World) (l : Ledger) (p page f : ℕ) (seen : Bool) → T (is_sorted key_cmp l.entries) → lock_count w l f ≡ 0
    → entry l (p, page) ≡ Some (InFrame f seen) → is_locked_page (pages w p page) ≡ false
page-unlocked w l p page f seen sorted none is = by (is_locked_page (pages w p page)) refl
  where
    by : (b : Bool) → is_locked_page (pages w p page) ≡ b → b ≡ false
    by true e = let some = lock-found w l p page f seen sorted e is in absurd (omega (arith, some, none))
    by false e = refl

-- ---- the pages of a range

module _ (k : Mem) (w : World) (l : Ledger) (sorted : T (is_sorted key_cmp l.entries)) (areas : AreasStand (view k) w)
    (entries : (p page : ℕ) → entry_of (plain (entry_at k.tables p page)) ≡ entry l (p, page)) where
  one-lock : (p page f : ℕ) → cond (is_lock_at k f p page) 1 0 ≡ lock_at w l f (p, page)
  one-lock p page f = ap (λ b. cond (b && names_here f (entry_at k.tables p page)) 1 0) (lock-is k w p page areas)
      ∙ ap (λ b. cond (is_locked_page (pages w p page) && b) 1 0) (frame-says f (entry_at k.tables p page))
      ∙ ap (λ o. cond (is_locked_page (pages w p page) && passes (names_frame f) o) 1 0) (entries p page)
      ∙ by (entry l (p, page))
    where
      none : (b : Bool) → ◌≡◌ {A = ℕ} (cond (b && false) 1 0) 0
      none true = refl
      none false = refl

      by : (o : Option Entry) → ◌≡◌ {A = ℕ} (cond (is_locked_page (pages w p page) && passes (names_frame f) o) 1 0) (lock_of w f (p, page) o)
      by None = none (is_locked_page (pages w p page))
      by (Some e) = refl

  -- what is found page by page is what the ledger has
  pub locks-in-range : (p from n f : ℕ) → locks_in k p from n f ≡ lock_count_in w l p from n f
  locks-in-range p from zero f = sym (range-none w l p from f)
  locks-in-range p from (suc n) f =
      let one = range-next w l p from sorted 0 f in
      let none = range-none w l p from f in
      let rest = locks-in-range p (from + 1) n f in
      let both = range-then w l p from 1 n f in
      let first = one-lock p (from + 0) f in
      let here = ap {B = ℕ} (λ x. cond (is_lock_at k f p x) 1 0) (none_more from) in
      let whole = ap {B = ℕ} (λ m. lock_count_in w l p from m f) (one_more n) in
      omega (arith, one, none, rest, both, first, here, whole)
    where
      one_more : (n : ℕ) → suc n ≡ 1 + n
      one_more n = omega arith
