-- The frames of entries.
use Rattle.std.specs.Prelude.{ℕ, Bool, ◌&&◌, List, [], ◌∷◌}
use Rattle.std.specs.List.{list_any}
use Rattle.av_base.specs.Keys.{Key}
use Rattle.av_plain.specs.Ledger.{names_frame}
use Rattle.av_audit_pages.specs.Entries.{entry_of}
use Rattle.av_audit_pages.specs.declared.entries.Entry.{Entry}
use Rattle.av_audit_pages.specs.declared.entries.Entry.TheVariants.{Zero, InFrame, InSlot}

-- whether the frame is named by an entry whose key passes a test
abbrev pub has_frame : (Key → Bool) → ℕ → List (Key × Entry) → Bool
has_frame test f es = list_any (λ e. test e.0 && names_frame f (entry_of e.1)) es

-- the frame of an entry, if it names one, in front of others
abbrev pub with_frame : Entry → List ℕ → List ℕ
with_frame Zero frames = frames
with_frame (InFrame f seen) frames = f ∷ frames
with_frame (InSlot s) frames = frames

-- the frames of some entries, in order
abbrev pub frames_of : List (Key × Entry) → List ℕ
frames_of [] = []
frames_of (e ∷ es) = with_frame e.1 (frames_of es)
