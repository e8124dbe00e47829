-- What a change of pages does to what is said of them, and to their bytes.
use Rattle.std.specs.Prelude.{◌≡◌, ℕ, None, if◌then◌else◌, option_and_then}
use Rattle.std.specs.Ordering.{nat_cmp}
use Rattle.std.specs.BTreeMap.{get}
use Rattle.av_base.specs.Words.{within}
use Rattle.av_audit_ranges.specs.Ranges.{marks_at}
use Rattle.av_audit_ranges.specs.Marks.{change_of}
use Rattle.av_audit_ranges.specs.declared.marks.Change.{Change}
use Rattle.av_audit_world.specs.declared.space.Space.{Space}

-- what is said of n pages from one on is changed, and their bytes are not
pub record AreChanged (old new : Space) (from n : ℕ) (change : Change) : Type 0 where
  pub ranges : (page : ℕ) → marks_at new.ranges page ≡ (if within from n page
      then option_and_then (change_of change) (marks_at old.ranges page)
      else marks_at old.ranges page)
  pub bytes : new.bytes ≡ old.bytes

-- n pages from one on have no bytes but zeros, and what is said of them stays
pub record AreWiped (old new : Space) (from n : ℕ) : Type 0 where
  pub ranges : new.ranges ≡ old.ranges
  pub bytes : (page : ℕ) → get nat_cmp new.bytes page
      ≡ (if within from n page then None else get nat_cmp old.bytes page)
