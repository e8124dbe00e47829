-- Entries without those of some keys.
use Rattle.std.specs.Prelude.{Bool, List, ◌&&◌, ◌==◌, not}
use Rattle.std.specs.List.{list_any}
use Rattle.av_base.specs.Keys.{Key}
use Rattle.av_plain.specs.Event.{entries_where}
use Rattle.av_plain.specs.Ledger.{Ledger}

-- whether a key is one of some
abbrev pub is_among : List Key → Key → Bool
is_among ks q = list_any (λ k. k.0 == q.0 && k.1 == q.1) ks

-- no entry of these keys
abbrev pub without_keys : List Key → Ledger → Ledger
without_keys ks l = record l { entries = entries_where (λ q. not (is_among ks q)) l }
