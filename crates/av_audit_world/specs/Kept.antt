-- The bytes that are kept of pages.
use Rattle.std.specs.Prelude.{◌≡◌, ℕ, ◌<◌, ◌≤◌, None, is_some, true}
use Rattle.std.specs.BTreeMap.{BTreeMap, get}
use Rattle.std.specs.Ordering.{nat_cmp}

-- the page is the first from one on that is there, and it lies below the end
pub record IsNext {A : Type 0} (kept : BTreeMap ℕ A) (from end page : ℕ) : Type 0 where
  pub low : from ≤ page
  pub high : page < end
  pub there : is_some (get nat_cmp kept page) ≡ true
  pub none : (q : ℕ) → from ≤ q → q < page → get nat_cmp kept q ≡ None
