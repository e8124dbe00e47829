-- What the pages leave that have come to share frames.
use Rattle.std.specs.Prelude.{◌≡◌, ◌++◌, ℕ, [], List}
use Rattle.av_base.specs.Keys.{Key}
use Rattle.av_trace.specs.declared.note.Note.{Note}
use Rattle.av_plain.specs.Event.{after_notes}
use Rattle.av_plain.specs.Ledger.{Ledger, Setting}
use Rattle.av_plain.specs.Merge.{FrameBytes, candidate, merge_notes, merges, with_candidate}
use Rattle.av_plain.specs.World.{World}
use Rattle.av_audit_neighbour.specs.Contents.{AreKept}
use Rattle.av_audit_neighbour.specs.Known.{AreInRange, Knows}
use Rattle.av_audit_neighbour.specs.declared.contents.Contents.{Contents}

-- these pages have merged in turn, and the notes of that are added
pub record HasMerged (m : Setting) (held : FrameBytes) (w : World) (l : Ledger) (keys : List Key)
    (before : List Note) (l' : Ledger) (now : List Note) : Type 0 where
  pub notes : now ≡ before ++ merges m held w l [] keys
  pub after : l' ≡ after_notes l (merges m held w l [] keys)

-- what has to be known for the next page is kept
pub record IsAware (m : Setting) (held : FrameBytes) (l : Ledger) (earlier : List ℕ) (c : Contents)
    : Type 0 where
  pub known : List ℕ
  pub kept : AreKept held known c
  pub knows : Knows m held l earlier known
  pub in_range : AreInRange m l

-- a page had its turn, and the notes of that are added
pub record HasTurned (m : Setting) (held : FrameBytes) (w : World) (l : Ledger) (earlier : List ℕ)
    (k : Key) (before : List Note) (l' : Ledger) (now : List Note) (c : Contents) : Type 0 where
  pub notes : now ≡ before ++ merge_notes m held l earlier k (candidate w l k)
  pub after : l' ≡ after_notes l (merge_notes m held l earlier k (candidate w l k))
  pub aware : IsAware m held l' (with_candidate earlier (candidate w l k)) c
