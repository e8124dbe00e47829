-- The processes that live, with what they have mapped.
use Rattle.std.specs.Prelude.{◌≡◌, ℕ, ◌+◌, ◌<◌, ◌≤◌, ◌^◌, List, [], ◌∷◌, Option, Some, None, true}
use Rattle.std.specs.BTreeMap.{BTreeMap, get}
use Rattle.std.specs.BTreeSet.{BTreeSet, contains}
use Rattle.std.specs.FinMap.Entries.{is_sorted}
use Rattle.std.specs.Ordering.{nat_cmp}
use Rattle.av_base.specs.Limits.{top_page}
use Rattle.av_plain.specs.World.{Process, World, no_pages, wiped, with_change_on, with_page_flag}
use Rattle.av_plain.specs.World.{with_pages, with_prot_on, zeros}
use Rattle.av_audit_ranges.specs.Marks.{is_locked}
use Rattle.av_audit_ranges.specs.Ranges.{marks_at}
use Rattle.av_audit_world.specs.Space.{IsSpace}
use Rattle.av_audit_world.specs.declared.edit.Edit.{Edit}
use Rattle.av_audit_world.specs.declared.edit.Edit.TheVariants.{Map, Unmap, Protect, Mark, Wipe}
use Rattle.av_audit_world.specs.declared.memories.Memories.{Memories}
use Rattle.av_audit_world.specs.declared.space.Space.{Space}

-- what becomes of a process's pages
abbrev pub pages_after : Edit → Process → Process
pages_after (Map from n prot) q = with_pages q from n (λ _. Some (zeros prot))
pages_after (Unmap from n) q = with_pages q from n no_pages
pages_after (Protect from n prot) q = with_prot_on q from n prot
pages_after (Mark from n flag set) q = with_change_on q from n (with_page_flag flag set)
pages_after (Wipe from n) q = with_change_on q from n wiped

-- the pages end below 2^64, and those that are mapped below the top
abbrev pub Ends : Edit → Type 0
Ends (Map from n prot) = from + n ≤ top_page
Ends (Unmap from n) = from + n < 2 ^ 64
Ends (Protect from n prot) = from + n < 2 ^ 64
Ends (Mark from n flag set) = from + n < 2 ^ 64
Ends (Wipe from n) = from + n < 2 ^ 64

-- the processes, in order, with what they have mapped
abbrev pub AreSpaces : List (ℕ × Space) → World → Type 0
AreSpaces [] [] = Unit {0}
AreSpaces [] (q ∷ qs) = ⊥
AreSpaces (s ∷ ss) [] = ⊥
AreSpaces (s ∷ ss) (q ∷ qs) = (s.0 ≡ q.0) × IsSpace s.1 q.1 × AreSpaces ss qs

-- each process that has a locked page is noted
abbrev pub AreNoted : BTreeMap ℕ Space → BTreeSet ℕ → Type 0
AreNoted spaces locking = (p : ℕ) (s : Space) (page : ℕ) → get nat_cmp spaces p ≡ Some s
    → is_locked (marks_at s.ranges page) ≡ true → contains nat_cmp locking p ≡ true

pub record IsWorld (memories : Memories) (w : World) : Type 0 where
  pub spaces : AreSpaces memories.spaces.entries w
  pub order : is_sorted nat_cmp w ≡ true
  pub noted : AreNoted memories.spaces memories.locking

-- a process that lives has such pages, and one that doesn't has none
abbrev pub IsProcess : Option Space → Option Process → Type 0
IsProcess None None = Unit {0}
IsProcess None (Some q) = ⊥
IsProcess (Some s) None = ⊥
IsProcess (Some s) (Some q) = IsSpace s q
