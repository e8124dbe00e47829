-- Keys: a process and a page.
use Rattle.std.specs.Ordering.{eq_by_cmp, nat_cmp, ordering_then}
use Rattle.std.specs.Prelude.{ℕ, Bool}
use Rattle.std.specs.declared.cmp.Ordering.{Ordering}

-- a process and a page
abbrev pub Key : Type 0
Key = ℕ × ℕ

-- by process, then page
abbrev pub key_cmp : Key → Key → Ordering
key_cmp a b = ordering_then (nat_cmp a.0 b.0) (nat_cmp a.1 b.1)

-- whether two keys are one
abbrev pub same_key : Key → Key → Bool
same_key q k = eq_by_cmp key_cmp q k
