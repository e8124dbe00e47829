-- How many entries of locked pages of a range name a frame.
use Rattle.std.specs.Prelude.{ℕ, Bool, ◌&&◌, ◌==◌, if◌then◌else◌, Option, Some, None}
use Rattle.av_base.specs.Keys.{Key}
use Rattle.av_base.specs.Words.{how_many, within}
use Rattle.av_plain.specs.Ledger.{Entry, Ledger, entry}
use Rattle.av_plain.specs.World.{World}
use Rattle.av_swap_laws.specs.Locks.{is_lock}

-- whether a key is one of a process's n pages from one on
abbrev pub is_within : ℕ → ℕ → ℕ → Key → Bool
is_within p from n k = k.0 == p && within from n k.1

-- and its entry is of a locked page, and names the frame
abbrev pub is_lock_in : World → ℕ → ℕ → ℕ → ℕ → Key × Entry → Bool
is_lock_in w p from n f e = is_within p from n e.0 && is_lock w f e

-- how many entries of locked pages in that range name the frame
abbrev pub lock_count_in : World → Ledger → ℕ → ℕ → ℕ → ℕ → ℕ
lock_count_in w l p from n f = how_many (is_lock_in w p from n f) l.entries

-- what one key counts with this entry, if it has one
abbrev pub lock_of : World → ℕ → Key → Option Entry → ℕ
lock_of w f k None = 0
lock_of w f k (Some e) = if is_lock w f (k, e) then 1 else 0

-- and with the entry that it has
abbrev pub lock_at : World → Ledger → ℕ → Key → ℕ
lock_at w l f k = lock_of w f k (entry l k)
