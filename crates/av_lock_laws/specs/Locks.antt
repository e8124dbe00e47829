-- Which frames are those of some pages.
use Rattle.std.specs.List.{list_any}
use Rattle.std.specs.Prelude.{ℕ, Bool}
use Rattle.av_base.specs.Keys.{Key}
use Rattle.av_plain.specs.Ledger.{Ledger, walk}
use Rattle.av_plain.specs.World.{World, is_locked_page, pages}

-- whether a page of the frame's walk passes a test
abbrev pub has_page : (Key → Bool) → Ledger → ℕ → Bool
has_page test l f = list_any test (walk l f)

-- whether the page is locked: the frames that have such a page are those of locked pages
abbrev pub is_locked_at : World → Key → Bool
is_locked_at w k = is_locked_page (pages w k.0 k.1)
