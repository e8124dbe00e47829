-- Whose the slots of a swap area are, by the page tables.
use Rattle.std.specs.Prelude.{◌≡◌, ℕ, ◌<◌, ◌≤◌, ◌&&◌, ◌==◌, true, nat_lt, if◌then◌else◌, List}
use Rattle.std.specs.Prelude.{length, slice_index_or, slice_set, Option, Some, None, is_some}
use Rattle.av_base.specs.Keys.{Key}
use Rattle.av_base.specs.declared.slot.Slot.{Slot}
use Rattle.av_plain.specs.Stands.{View}
use Rattle.av_mem.specs.Entries.{slot_behind}
use Rattle.av_swapoff.specs.System.{slot_at}

-- ---- whose a slot is, and whether it is anyone's

-- the entry of the key names the slot, or the frame that caches it
abbrev pub Uses : View → Slot → Key → Type 0
Uses v s k = slot_behind v (v.table k.0 k.1) ≡ Some s

-- no entry names the slot, and it is not cached
pub record IsUnused (v : View) (s : Slot) : Type 0 where
  pub uncached : v.find s ≡ None
  pub unnamed : v.entries s ≡ 0

-- ---- users by page

-- the user that is kept of the slot at a page, if one is
abbrev pub user_at : List (Option Key) → ℕ → Option Key
user_at users page = slice_index_or users page None

-- each that is kept of a slot of the area is one
abbrev pub AreUsersBy : View → ℕ → List (Option Key) → Type 0
AreUsersBy v area users = (page : ℕ) (k : Key) → user_at users page ≡ Some k
    → Uses v (slot_at area page) k

-- the user of a slot is kept, if the slot is one of the area
abbrev pub with_user : ℕ → Option Slot → Key → List (Option Key) → List (Option Key)
with_user area None k users = users
with_user area (Some s) k users =
    if s.area == area && nat_lt s.page (length users) then slice_set users s.page (Some k)
    else users

-- these keys were visited: each slot of the area that one of them uses has some user now, no slot
-- lost its user, and what is kept are users still
pub record Visits (v : View) (area : ℕ) (These : Key → Type 0) (old new : List (Option Key))
    : Type 0 where
  pub long : length new ≡ length old
  pub keeps : (page : ℕ) → is_some (user_at old page) ≡ true → is_some (user_at new page) ≡ true
  pub finds : (page : ℕ) (k : Key) → page < length old → These k → Uses v (slot_at area page) k
      → is_some (user_at new page) ≡ true
  pub are : AreUsersBy v area old → AreUsersBy v area new

-- by page, a user of each slot of the area that an entry of a living process has; no slot past them
-- is in use
pub record HasUsers (v : View) (area : ℕ) (users : List (Option Key)) : Type 0 where
  pub are : AreUsersBy v area users
  pub finds : (page : ℕ) (k : Key) → page < length users → is_some (v.areas k.0) ≡ true
      → Uses v (slot_at area page) k → is_some (user_at users page) ≡ true
  pub past : (page : ℕ) → length users ≤ page → IsUnused v (slot_at area page)
