use Rattle.std.proofs.Common.{◌≡◌, false, drop}
use Rattle.std.specs.BTreeMap.{is_at}
use Rattle.std.specs.List.{list_any}
use Rattle.std.specs.List.Sorted.{IsStrictlySortedBy}
use Rattle.std.specs.Map.{keys_of, lookup}
use Rattle.av_base.specs.Keys.{Key, key_cmp, same_key}
use Rattle.av_audit_pages.proofs.ChangeLaws.{ends_as}
use Rattle.av_audit_pages.proofs.pages.Pages.change.Given as goal

abbrev pub invariant-loop-key : goal.invariant-loop-key
invariant-loop-key l = record {
  cache : l.self.cache ≡ l.fn.self.cache;
  rising : IsStrictlySortedBy key_cmp (keys_of l.self.entries);
  ends : (q : Key) → ends_as l.frame l.change (lookup (is_at (key_cmp q)) l.self.entries)
      ≡ ends_as l.frame l.change (lookup (is_at (key_cmp q)) l.fn.self.entries);
  done : (q : Key) → list_any (same_key q) (drop l.key-index l.key-items) ≡ false → lookup (is_at (key_cmp q)) l.self.entries
      ≡ ends_as l.frame l.change (lookup (is_at (key_cmp q)) l.fn.self.entries);
}
