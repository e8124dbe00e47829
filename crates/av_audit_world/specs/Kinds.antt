-- How many pages come before the first of a kind.
use Rattle.std.specs.Prelude.{ℕ, zero, suc, ◌+◌, Bool, true, false, not, Option, Some, None}
use Rattle.std.specs.Prelude.{if◌then◌else◌}
use Rattle.av_vma.specs.Join.{same_prot}
use Rattle.av_audit_world.specs.declared.kinds.Kind.{Kind}
use Rattle.av_audit_world.specs.declared.kinds.Kind.TheVariants.{Hole, Mapped, Locked, Without}
use Rattle.av_audit_ranges.specs.declared.marks.Marks.{Marks}

-- whether a page of which this is said is of a kind
abbrev pub is_kind : Kind → Option Marks → Bool
is_kind Hole None = true
is_kind Hole (Some k) = false
is_kind Mapped None = false
is_kind Mapped (Some k) = true
is_kind Locked None = false
is_kind Locked (Some k) = k.flags.locked
is_kind (Without prot) None = true
is_kind (Without prot) (Some k) = not (same_prot k.prot prot)

-- how many pages from one on come before the first that passes a test, n at the most
abbrev pub pages_before : (ℕ → Bool) → ℕ → ℕ → ℕ
pages_before test from zero = 0
pages_before test from (suc n) =
    if test from then 0 else pages_before test (from + 1) n + 1
