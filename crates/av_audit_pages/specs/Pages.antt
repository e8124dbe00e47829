-- What is kept of pages: their entries and the cached pairs.
use Rattle.std.specs.BTreeMap.{is_at}
use Rattle.std.specs.List.{range_with_len}
use Rattle.std.specs.List.Sorted.{IsStrictlySortedBy}
use Rattle.std.specs.Map.{keys_of, lookup}
use Rattle.std.specs.Prelude.{ℕ, ◌+◌, ◌-◌, List, map, filter, nat_lt, option_map}
use Rattle.av_base.specs.Keys.{Key, key_cmp}
use Rattle.av_base.specs.Words.{how_many}
use Rattle.av_plain.specs.Ledger.{names_slot, same_slot}
use Rattle.av_audit_pages.specs.Entries.{cached_of, entries_of, entry_of}
use Rattle.av_audit_pages.specs.Index.{CountsPairs, Tells}
use Rattle.av_audit_pages.specs.declared.entries.Cached.{Cached}
use Rattle.av_audit_pages.specs.declared.entries.Entry.{Entry}
use Rattle.av_audit_pages.specs.declared.index.Index.{Index}

-- entries: rising by key
pub record Content : Type 0 where
  pub entries : List (Key × Entry)
  pub cache : List Cached

-- the pages of an area with so many whose slot an entry names, or a pair caches
abbrev pub used_pages : Content → ℕ → ℕ → List ℕ
used_pages content area pages =
    filter (λ page. nat_lt 0
    (how_many (λ e. names_slot (record { area = area; page = page }) e.1)
    (entries_of content.entries)
    + how_many (λ c. same_slot (record { area = area; page = page }) c.slot)
    (map cached_of content.cache)))
    (range_with_len 1 (pages - 1))

-- the keys rise, the index tells each key's entry, and counts the pairs
pub record IsIndexed (i : Index) (es : List (Key × Entry)) (cs : List Cached) : Type 0 where
  pub rising : IsStrictlySortedBy key_cmp (keys_of es)
  pub tells : (k : Key) → Tells i k (option_map entry_of (lookup (is_at (key_cmp k)) es))
  pub pairs : CountsPairs i (map cached_of cs)
