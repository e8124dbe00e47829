-- How many entries of locked pages name a frame.
use Rattle.std.specs.Prelude.{◌≡◌, ℕ, Bool, ◌&&◌}
use Rattle.av_base.specs.Keys.{Key}
use Rattle.av_base.specs.Words.{how_many}
use Rattle.av_plain.specs.Ledger.{Entry, Ledger, names_frame}
use Rattle.av_plain.specs.World.{World, is_locked_page, pages}

-- whether an entry of a locked page names the frame
abbrev pub is_lock : World → ℕ → Key × Entry → Bool
is_lock w f e = is_locked_page (pages w e.0.0 e.0.1) && names_frame f e.1

-- how many do
abbrev pub lock_count : World → Ledger → ℕ → ℕ
lock_count w l f = how_many (is_lock w f) l.entries

-- these numbers are the counts of each frame
abbrev pub AreLocks : (ℕ → ℕ) → World → Ledger → Type 0
AreLocks locks w l = (f : ℕ) → locks f ≡ lock_count w l f
