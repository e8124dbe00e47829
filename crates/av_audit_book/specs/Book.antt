-- The ledger that a book has.
use Rattle.std.specs.Prelude.{ℕ, List, map, not, ◌&&◌, ◌==◌}
use Rattle.av_base.specs.Keys.{Key}
use Rattle.av_base.specs.Words.{without}
use Rattle.av_plain.specs.Event.{entries_where}
use Rattle.av_plain.specs.Ledger.{Ledger, SwapArea}
use Rattle.av_plain.specs.Swapon.{priority_of}
use Rattle.av_audit_book.specs.declared.book.Area.{Area}
use Rattle.av_audit_book.specs.declared.book.Book.{Book}
use Rattle.av_audit_pages.specs.Entries.{cached_of, entries_of}

abbrev pub area_of : Area → SwapArea
area_of a = record { slots = a.slots; bad = a.bad; priority = priority_of a.priority }

abbrev pub areas_of : List (ℕ × Area) → List (ℕ × SwapArea)
areas_of on = map (λ a. (a.0, area_of a.1)) on

abbrev pub ledger_of : Book → Ledger
ledger_of book = record {
  entries = entries_of book.pages.entries;
  cache = map cached_of book.pages.cache;
  flight = book.flight;
  active = book.active;
  inactive = book.inactive;
  merged = book.merged;
  on = areas_of book.on.entries;
}

-- the frame is in neither list
abbrev pub in_neither : ℕ → Ledger → Ledger
in_neither f l = record l { active = without f l.active; inactive = without f l.inactive }

-- the key has no entry
abbrev pub without_entry : Key → Ledger → Ledger
without_entry k l = record l { entries = entries_where (λ q. not (k.0 == q.0 && k.1 == q.1)) l }
