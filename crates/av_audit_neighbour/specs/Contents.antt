-- What frames hold, by their bytes up to the last that isn't 0.
use Rattle.std.specs.BTreeMap.{get_by}
use Rattle.std.specs.Cmp.Lexicographic.{slice_cmp}
use Rattle.std.specs.Ordering.{nat_cmp}
use Rattle.std.specs.Prelude.{◌≡◌, ◌<◌, ◌≤◌, ◌-◌, ℕ, List, length, slice_index}
use Rattle.av_base.specs.Page.{page_size}
use Rattle.av_plain.specs.Merge.{FrameBytes}
use Rattle.av_audit_neighbour.specs.Known.{first_like}
use Rattle.av_audit_neighbour.specs.declared.contents.Contents.{Contents}

-- the bytes at the places of a page, up to the last that isn't 0
pub record AreContent (at : ℕ → ℕ) (bytes : List ℕ) : Type 0 where
  pub fits : length bytes ≤ page_size
  pub same : (i : ℕ) → i < page_size → slice_index bytes i ≡ at i
  pub ends : 0 < length bytes → slice_index bytes (length bytes - 1) ≡ 0 → ⊥

-- under what a frame holds stands the first known frame that holds it, if one does
abbrev pub AreKept : FrameBytes → List ℕ → Contents → Type 0
AreKept held known c = (f : ℕ) (bytes : List ℕ) → AreContent (held f) bytes
    → get_by (λ k. slice_cmp nat_cmp bytes k.now) c.by_bytes ≡ first_like held known f
